-- Each operation's block follows by its happenings; so does a whole step.
use Prim.Native.Nat.{ℕ, ◌<◌, ◌≤◌}
use mathlib.Core.Path.{◌≡◌, refl, sym, ◌∙◌, ap, subst}
use mathlib.Core.Bool.{Bool, true, false, cond, not, ◌&&◌, ◌||◌, false≢true, or-false, and-true}
use mathlib.Core.List.{List, [], ◌∷◌}
use native.Mathlib.Omega.{arith}
use lib.Dec.{eqb, ltb, leb, lit<, lit≤}
use lib.ListN.{get_or, length}
use borrow.Author.Tests.{eqb-true, eqb-false, ne_eqb, ltb-true, ltb-false, not-true, not-false}
use Rattle.bits.specs.Bit.{bit, without}
use Rattle.bits.specs.Tests.{every}
use Rattle.bits.proofs.Laws.{bit-zero}
use Rattle.bits.proofs.Sets.{and_l, and_r, word-within}
use Rattle.bits.proofs.Tests.{All, all, given}
use Rattle.registers.specs.declared.Block.{Block}
use Rattle.registers.specs.Block.{image_bytes, block_of, with_mc, with_ta, with_aa, with_lam, with_gam, with_cdr, with_mbtif, with_mbrif, with_mbim, with_gim, with_bcr1, with_bcr2, with_tsc, with_protection, normal, no_mode, empty_slot, bus_off_at}
use Rattle.fresh.specs.Fresh.{fresh_block}
use Rattle.registers.specs.Status.{vacant, filled, ecan, asleep, bus_off}
use Rattle.registers.specs.Writes.{slot_mask, protection_number, directed, requested, cancelled, released, noted, writes, written}
use Rattle.registers.specs.Modes.{ticked, worsened, recessive, optioned, asked, risen, ready, falls_asleep, entered, settled}
use Rattle.registers.specs.Frames.{wakened, listened, stored, replied}
use Rattle.registers.specs.Sending.{started, sent, failed, added, concluded}
use Rattle.registers.proofs.Flags.{requested-trs, released-rmp, released-rml, ending-bit, late-bit, cancelled-trs, cancelled-trr, slot-bit, stored-rmp, stored-rml, replied-trs, sent-trs, sent-trr, aborting-bit, failed-trs, failed-trr}
use Rattle.events.specs.declared.Event.{Event}
use Rattle.events.specs.declared.Event.TheVariants.{Refused, Register, Mailbox, Heard, Start, Outcome, ReceiveError, Recessive, Tick, Mode, Options, Reset}
use Rattle.events.specs.declared.Frame.{Frame}
use Rattle.events.specs.Decode.{event, decoded}
use Rattle.filter.specs.declared.Delivery.{Delivery}
use Rattle.filter.specs.declared.Delivery.TheVariants.{Into, Reply, Nowhere}
use Rattle.filter.specs.Filter.{delivery}
use Rattle.filter.proofs.Ways.{into, reply}
use Rattle.sending.specs.Choice.{next}
use Rattle.good.specs.Good.{contents, slot_asks, waits_for_reason, number_clauses, slot_clauses, good_flags, good_numbers, good_slot, good_block, good_image}
use Rattle.good.proofs.Facts.{slot_below, slot-up}
use Rattle.good.proofs.Image.{good_length}
use Rattle.answers.specs.Answer.{no_mailbox, refused}
use Rattle.refusals.specs.Refusal.{refusal, remaining}
use Rattle.refusals.proofs.Order.{refusal-bad, refusal-good}
use Rattle.model.specs.Step.{started_with, own, goes, delivered, acted, block_after, beside_after, named_by, named, accepted, step}
use Rattle.model.proofs.Whole.{real}
use Rattle.books.specs.Ledger.{Happening, store, acknowledge, request, cancel, start, send, fail, sleep, reset, after}
use Rattle.books.specs.Happen.{when, by_write, direct, happens, happenings, in_slot}
use Rattle.books.proofs.Follows.{look, Follows, Any, none, both, Rows, table, same, once, then}
use Rattle.model.proofs.Lengths.{length-after}
use Rattle.books.proofs.Back.{look_back}

-- ---- the laws of one flag, as a choice

or_where : (x t : Bool) → (x || t) ≡ cond t true x
or_where true true = refl
or_where true false = refl
or_where false true = refl
or_where false false = refl

not_where : (x t : Bool) → (x && not t) ≡ cond t false x
not_where true true = refl
not_where true false = refl
not_where false true = refl
not_where false false = refl

-- where v has its bit, a request ends but in the slot, and there it is marked
ends_where : (w v s : Bool) → (w && not ((v && w) && not s)) ≡ cond v (w && s) w
ends_where true true true = refl
ends_where true true false = refl
ends_where true false s = refl
ends_where false true s = refl
ends_where false false s = refl

marks_where : (c v w s : Bool) → (c || (v && w) && s) ≡ cond v (c || w && s) c
marks_where c true w s = refl
marks_where c false w s = or-false c

-- what is not sent ends where it was marked, and the mark goes
fails_where : (w t c : Bool) → (w && not (t && c)) ≡ cond t (w && not c) w
fails_where w true c = refl
fails_where w false c = and-true w

unmarks_where : (c t : Bool) → (c && not (t && c)) ≡ cond t false c
unmarks_where true true = refl
unmarks_where true false = refl
unmarks_where false t = same t false

-- the lost flag goes up where a frame is stored over one that is held
lost_where : (l h t : Bool) → (l || h && t) ≡ cond t (l || h) l
lost_where true h true = refl
lost_where true h false = refl
lost_where false true true = refl
lost_where false true false = refl
lost_where false false true = refl
lost_where false false false = refl

-- the slot: a mailbox comes into it, goes out of it, or was not there
came : (t x : Bool) → x ≡ false → t ≡ cond t true x
came true x e = refl
came false x e = sym e

went : (t x : Bool) → x ≡ t → false ≡ cond t false x
went true x e = refl
went false x e = sym e

stays_out : (t x : Bool) → x ≡ false → x ≡ cond t false x
stays_out true x e = e
stays_out false x e = refl

-- sleep: what was awake before a step (u) and is asleep after it fell asleep; without a mode to take, none does
pub no_other : (u a : Bool) → (a ≡ true → u ≡ true) → (not u && a) ≡ false
no_other true a h = refl
no_other false true h = sym (h refl)
no_other false false h = refl

asleep-only : (u f : Bool) → (u ≡ true → f ≡ false) → (not u && f) ≡ f
asleep-only true f h = sym (h refl)
asleep-only false f h = refl

zeroed : (m w : ℕ) (t : Bool) → bit (cond t 0 w) m ≡ cond t false (bit w m)
zeroed m w true = bit-zero m
zeroed m w false = refl

-- ---- what a good image says of the slot and of sleep

-- the slot's number is a mailbox's, or that of the empty slot
abbrev Slotted : Block → Type 0
Slotted b = b.slot ≤ empty_slot

-- and up to the end of a step, where u says whether the unit was asleep before it: asleep now, it was so then; and then no sleep waits
abbrev Sound : Bool → Block → Type 0
Sound u b = Slotted b × (asleep b ≡ true → u ≡ true) × (u ≡ true → falls_asleep b ≡ false)

module _ (b : Block) (g : good_block b ≡ true) where
  groups : All (good_flags b ∷ good_numbers b ∷ good_slot b ∷ [])
  unfolding good_block
  groups = all (good_flags b ∷ good_numbers b ∷ good_slot b ∷ []) g

  -- what is in the slot is sent in normal mode, and has its request
  asks : filled b ≡ true → All (slot_asks b)
  unfolding good_slot
  asks f = all (slot_asks b) (given (filled b) (every (slot_asks b)) (all (slot_clauses b) groups.1.1.0).1.0 f)

  slot-asks : filled b ≡ true → bit b.trs b.slot ≡ true
  slot-asks f =
      (word-within (slot_mask b) b.trs (eqb-true _ _ (asks f).1.1.0)).has b.slot
      (slot-up b (eqb-false _ _ (not-true _ f)))

  numbers : All (number_clauses b)
  unfolding good_numbers
  numbers = all (number_clauses b) groups.1.0

  -- a mode waits for the slot or for bus off
  waits_for : not (eqb b.waiting no_mode) ≡ true → (filled b || bus_off b) ≡ true
  waits_for =
      given (not (eqb b.waiting no_mode)) (filled b || bus_off b)
      (and_r (leb 1 b.waiting) (waits_for_reason b) numbers.1.1.1.1.0)

  -- so none is taken as long as both stay as they are
  pub none-ready : ready b ≡ false
  none-ready = not-ready (eqb b.waiting no_mode) (vacant b) (ltb b.tec bus_off_at) refl waits_for
    where
      below : ltb b.tec bus_off_at ≡ true → bus_off b ≡ true → ⊥
      below l e = omega (arith, ltb-true b.tec bus_off_at l, eqb-true b.tec bus_off_at e)

      not-ready : (w v l : Bool) → ltb b.tec bus_off_at ≡ l → (not w ≡ true → (not v || bus_off b) ≡ true) → (not w && (v && l)) ≡ false
      not-ready true v l q h = refl
      not-ready false false l q h = refl
      not-ready false true true q h = absurd (below q (h refl))
      not-ready false true false q h = refl

  -- both are of the normal mode
  sound : Sound (asleep b) b
  sound = (slot_below b g, λ z. z, λ z. ne_eqb b.waiting 2 (λ e. reason z (filled b) refl (waits_for (rw e))))
    where
      reason : asleep b ≡ true → (t : Bool) → filled b ≡ t → (t || bus_off b) ≡ true → ⊥
      reason z true f h = omega (arith, eqb-true b.mode 2 z, eqb-true b.mode normal (asks f).0)
      reason z false f h = omega (arith, eqb-true b.mode 2 z, eqb-true b.mode normal (given (bus_off b) (eqb b.mode normal) numbers.1.1.0 h))

-- ---- one law for each operation that touches RMP, RML, TRS, TRR or the slot

module _ (u : Bool) (m : ℕ) (b : Block) where
  release_follows : (v : ℕ) → Follows (Sound u) m b (released b v) (when (bit v m) acknowledge)
  unfolding released after
  release_follows v =
      let t = bit v m in
      once m b (released b v) t acknowledge (released-rmp b v m ∙ not_where (bit b.rmp m) t) (released-rml b v m ∙ not_where (bit b.rml m) t) (same t _) (same t _) (same t _) (λ e. tt) (λ k. k)

  request_follows : (v : ℕ) → Follows (Sound u) m b (requested b v) (when (bit v m && not (bit b.md m)) request)
  unfolding requested after
  request_follows v =
      let t = bit v m && not (bit b.md m) in
      once m b (requested b v) t request (same t _) (same t _) (requested-trs b v m ∙ or_where (bit b.trs m) t) (same t _) (same t _) (λ e. tt) (λ k. k)

  cancel_follows : (v : ℕ) → Follows (Sound u) m b (cancelled b v) (when (bit v m) cancel)
  unfolding cancelled after
  cancel_follows v =
      let t = bit v m in
      let w = bit b.trs m in
      let c = bit b.trr m in
      once m b (cancelled b v) t cancel (same t _) (same t _)
      (cancelled-trs b v m
      ∙ ap (λ (x : Bool). w && not x) (ending-bit b v m ∙ ap (λ (x : Bool). (t && w) && not x) (slot-bit b m))
      ∙ ends_where w t (in_slot b m))
      (same t _)
      (cancelled-trr b v m
      ∙ ap (λ (x : Bool). c || x) (late-bit b v m ∙ ap (λ (x : Bool). (t && w) && x) (slot-bit b m))
      ∙ marks_where c t w (in_slot b m))
      (λ e. tt) (λ k. k)

  store_follows : (n : ℕ) (rtr : Bool) → Follows (Sound u) m b (stored b n rtr) (when (eqb m n) store)
  unfolding stored after
  store_follows n rtr =
      let t = eqb m n in
      once m b (stored b n rtr) t store
      (stored-rmp b n rtr m ∙ or_where (bit b.rmp m) t)
      (stored-rml b n rtr m ∙ lost_where (bit b.rml m) (bit b.rmp m) t)
      (same t _) (same t _) (same t _) (λ e. tt) (λ k. k)

  reply_follows : (n : ℕ) → Follows (Sound u) m b (replied b n) (when (eqb m n) request)
  unfolding after
  reply_follows n =
      let t = eqb m n in
      once m b (replied b n) t request (same t _) (same t _) (replied-trs b n true m ∙ or_where (bit b.trs m) t) (same t _) (same t _) (λ e. tt) (λ k. k)

  reset_follows : (p : ℕ) → Follows (Sound u) m b (fresh_block p) (reset ∷ [])
  unfolding fresh_block after when
  reset_follows p =
      once m b (fresh_block p) true reset (bit-zero m) (bit-zero m) (bit-zero m) refl (bit-zero m) (λ e. tt)
      (λ k. (lit≤ tt, λ z. absurd (false≢true z), λ z. refl))

  -- the mailbox n that a start chose, or none; the slot was empty
  start_follows : (n : ℕ) → m < 32 → vacant b ≡ true → Follows (Sound u) m b (started_with b n) (when (eqb m n) start)
  unfolding after
  start_follows n hm z = at (ltb n 32) refl
    where
      at : (t : Bool) → ltb n 32 ≡ t → Follows (Sound u) m b (cond t (started b n) b) (when (eqb m n) start)
      at true e =
          let t = eqb m n in
          let l = ltb-true n 32 e in
          once m b (started b n) t start (same t _) (same t _) (same t _)
          (ap (λ (u : Bool). not u && t) (ne_eqb n empty_slot (λ q. omega arith)) ∙ came t (in_slot b m) (ap (λ (u : Bool). not u && eqb m b.slot) z))
          (same t _) (λ e. tt) (λ k. (omega arith, k.1, k.2))
      at false e = rw (ne_eqb m n (λ q. omega (arith, ltb-false n 32 e))) (unfold when in none m b b refl (λ k. k))

  -- an outcome, with a filled slot
  module _ (f : filled b ≡ true) where
    abbrev here : Bool
    here = eqb m b.slot

    at_slot : bit (slot_mask b) m ≡ here
    at_slot = slot-bit b m ∙ ap (λ (t : Bool). t && here) f

    emptied : false ≡ cond here false (in_slot b m)
    emptied = went here (in_slot b m) (ap (λ (t : Bool). t && here) f)

    send_follows : bit b.trs b.slot ≡ true → Follows (Sound u) m b (sent b) (when here send)
    unfolding sent after
    send_follows g =
        once m b (sent b) here send (same here _) (same here _)
        (sent-trs b m ∙ ap (λ (x : Bool). bit b.trs m && not x) at_slot ∙ not_where (bit b.trs m) here)
        emptied
        (sent-trr b m ∙ ap (λ (x : Bool). bit b.trr m && not x) at_slot ∙ not_where (bit b.trr m) here)
        (λ e. ap (bit b.trs) (eqb-true m b.slot e) ∙ g) (λ k. (lit≤ tt, k.1, k.2))

    fail_follows : (more : ℕ) → bit b.trs b.slot ≡ true → Follows (Sound u) m b (failed b more) (when here fail)
    unfolding failed after
    fail_follows more g =
        let c = bit b.trr m in
        let marked = aborting-bit b m ∙ ap (λ (x : Bool). x && c) at_slot in
        once m b (failed b more) here fail (same here _) (same here _)
        (failed-trs b m more ∙ ap (λ (x : Bool). bit b.trs m && not x) marked ∙ fails_where (bit b.trs m) here c)
        emptied
        (failed-trr b m more ∙ ap (λ (x : Bool). c && not x) marked ∙ unmarks_where c here)
        (λ e. ap (bit b.trs) (eqb-true m b.slot e) ∙ g) (λ k. (lit≤ tt, k.1, k.2))

    outcome_follows : (k : ℕ) → bit b.trs b.slot ≡ true → Follows (Sound u) m b (concluded b k) (when here (cond (eqb k 0) send fail))
    outcome_follows k g = at (eqb k 0)
      where
        at : (t : Bool) → Follows (Sound u) m b (cond t (sent b) (failed b (added b k))) (when here (cond t send fail))
        at true = send_follows g
        at false = fail_follows (added b k) g

  -- the table of writes
  write_follows : (t v : ℕ) → Follows (Sound u) m b (written b t v) (get_or (by_write (bit v m) (bit b.md m)) t [])
  unfolding written noted
  write_follows t v = at (eqb t protection_number) refl
    where
      quiet : (c : Block) → look m c ≡ look m b → (Sound u b → Sound u c) → Follows (Sound u) m b c []
      quiet = none m b

      rows : Rows (Sound u) m b (writes b v) (by_write (bit v m) (bit b.md m))
      rows = (quiet (with_mc b v) refl (λ k. k), (quiet (directed b v) refl (λ k. k), (request_follows v, (cancel_follows v, (quiet (with_ta b (without b.ta v)) refl (λ k. k), (quiet (with_aa b (without b.aa v)) refl (λ k. k), (release_follows v, (quiet b refl (λ k. k), (quiet (with_lam b v) refl (λ k. k), (quiet (with_gam b v) refl (λ k. k), (quiet b refl (λ k. k), (quiet (with_cdr b v) refl (λ k. k), (quiet (with_mbtif b (without b.mbtif v)) refl (λ k. k), (quiet (with_mbrif b (without b.mbrif v)) refl (λ k. k), (quiet (with_mbim b v) refl (λ k. k), (quiet (noted b v) refl (λ k. k), (quiet (with_gim b v) refl (λ k. k), (quiet (with_bcr1 b v) refl (λ k. k), (quiet (with_bcr2 b v) refl (λ k. k), (quiet (with_tsc b v) refl (λ k. k), tt))))))))))))))))))))

      at : (p : Bool) → eqb t protection_number ≡ p
          → Follows (Sound u) m b (cond p (with_protection b v) (get_or (writes b v) t b)) (get_or (by_write (bit v m) (bit b.md m)) t [])
      at true e = rw (eqb-true t protection_number e) (quiet (with_protection b v) refl (λ k. k))
      at false e = table m b (writes b v) (by_write (bit v m) (bit b.md m)) rows t

  -- a mode that is asked for
  ask_follows : (v : ℕ) → (u ≡ true → asleep b ≡ true) → Follows (Sound u) m b (asked b v) []
  unfolding asked
  ask_follows v h = none m b (asked b v) refl (λ k. (k.0, k.1, λ z. at (h z) (eqb v b.mode) refl))
    where
      at : asleep b ≡ true → (t : Bool) → eqb v b.mode ≡ t → eqb (cond t no_mode v) 2 ≡ false
      at z true e = refl
      at z false e = ne_eqb v 2 (λ q. eqb-false v b.mode e (q ∙ sym (eqb-true b.mode 2 z)))

  -- the end of a step: a waiting mode may be taken
  settle_follows : Sound u b → Follows Slotted m b (settled b) (when (not u && asleep (settled b)) sleep)
  unfolding settled entered after when
  settle_follows k = at (ready b) refl
    where
      at : (r : Bool) → ready b ≡ r → Follows Slotted m b (cond r (entered b) b) (when (not u && asleep (cond r (entered b) b)) sleep)
      at false p = subst (λ (t : Bool). Follows Slotted m b b (when t sleep)) (sym (no_other u (asleep b) k.1)) (none m b b refl (λ k. k))
      at true p =
          let f = falls_asleep b in
          let z = and_l (vacant b) (ltb b.tec bus_off_at) (and_r (not (eqb b.waiting no_mode)) (vacant b && ltb b.tec bus_off_at) p) in
          subst (λ (t : Bool). Follows Slotted m b (entered b) (when t sleep)) (sym (asleep-only u f k.2))
          (once m b (entered b) f sleep (same f _) (same f _) (zeroed m b.trs f)
          (stays_out f (in_slot b m) (ap (λ (t : Bool). not t && eqb m b.slot) z))
          (zeroed m b.trr f) (λ e. tt) (λ x. x))

-- ---- the phases of a step

-- a refusal number that is 0
clear : (t : Bool) (k : ℕ) → 0 < k → cond t k 0 ≡ 0 → t ≡ false
clear true k h e = absurd (omega arith)
clear false k h e = refl

-- what wakes is no longer asleep
pub still_asleep : (t : Bool) (x : ℕ) → eqb (cond t normal x) 2 ≡ true → eqb x 2 ≡ true
still_asleep true x h = absurd (false≢true h)
still_asleep false x h = h

kind : (t : Bool) (x y : Happening) → (t ≡ true → x ≡ y) → when t x ≡ when t y
unfolding when
kind true x y h = ap (λ (z : Happening). z ∷ []) (h refl)
kind false x y h = refl

module _ (m : ℕ) (hm : m < 32) (s : List ℕ) where
  abbrev b : Block
  b = block_of s

  abbrev u : Bool
  u = asleep b

  listen_follows : Follows (Sound u) m b (listened b) []
  unfolding listened
  listen_follows = none m b (listened b) refl (λ k. (k.0, λ z. k.1 (still_asleep (wakened b) b.mode z), k.2))

  -- a frame is stored at a mailbox that receives, and asks another one to reply
  frame_follows : (f : Frame) (d : Delivery) → delivery s f ≡ d
      → Follows (Sound u) m b (delivered (listened b) f.rtr d) (when (eqb m (named_by d)) (cond (bit b.md m) store request))
  unfolding delivered
  frame_follows f (Into n c) e =
      subst (Follows (Sound u) m b (stored (listened b) n f.rtr))
      (kind (eqb m n) store _ (λ q. rw (ap (bit b.md) (eqb-true m n q) ∙ (into s f n c e).receiver)))
      (both m b (listened b) _ [] _ listen_follows (store_follows u m (listened b) n f.rtr))
  frame_follows f (Reply n c) e =
      subst (Follows (Sound u) m b (replied (listened b) n))
      (kind (eqb m n) request _ (λ q. rw (ap (bit b.md) (eqb-true m n q) ∙ (reply s f n c e).transmitter)))
      (both m b (listened b) _ [] _ listen_follows (reply_follows u m (listened b) n))
  frame_follows f (Nowhere c) e = rw (ne_eqb m no_mailbox (λ q. omega arith)) (unfold when in listen_follows)

  acted_follows : (v : Event) → good_block b ≡ true → remaining s v ≡ 0
      → Follows (Sound u) m b (acted s v) (direct (eqb m (accepted s v).mailbox) (bit b.md m) v m)
  unfolding own goes delivered direct accepted named remaining worsened recessive ticked
  acted_follows (Refused r) g z = none m b b refl (λ k. k)
  acted_follows (Register t v) g z = write_follows u m b t v
  acted_follows (Mailbox n k v) g z = none m b b refl (λ k. k)
  acted_follows (Heard f) g z = frame_follows f (delivery s f) refl
  acted_follows Start g z = start_follows u m b (next s) hm (not-false _ (clear (filled b) 5 (lit< tt) z))
  acted_follows (Outcome k) g z =
      let f = ap not (clear (vacant b) 7 (lit< tt) z) in
      outcome_follows u m b f k (slot-asks b g f)
  acted_follows (ReceiveError v) g z = none m b (worsened b v) refl (λ k. k)
  acted_follows Recessive g z = none m b (recessive b) refl (λ k. k)
  acted_follows Tick g z = none m b (ticked b) refl (λ k. k)
  acted_follows (Mode v) g z = ask_follows u m b v (λ z. z)
  acted_follows (Options v) g z = none m b (optioned b v) refl (λ k. k)
  acted_follows Reset g z = reset_follows u m b b.profile

  -- at the end GIF rises, which no book sees, and a waiting mode may be taken
  end_follows : (a c : Block) → Sound u c → Follows Slotted m c (settled (risen a c)) (when (not u && asleep (settled (risen a c))) sleep)
  unfolding risen
  end_follows a c k = both m c (risen a c) _ [] _ (none m c (risen a c) refl (λ k. k)) (settle_follows u m (risen a c) k)

  accepted_follows : (v : Event) → good_block b ≡ true → remaining s v ≡ 0 → Follows Slotted m b (block_after s v) (happens s v m)
  unfolding block_after happens
  accepted_follows v g z =
      let p = acted_follows v g z in
      let k = p.keeps (sound b g) in
      both m b (acted s v) _ _ _ (then m b (acted s v) _ _ p refl (λ l. k.0)) (end_follows b (acted s v) k)

  -- and is read back from the image
  left_follows : (v : Event) → length s ≡ image_bytes → good_block b ≡ true → remaining s v ≡ 0
      → Follows Any m b (block_of (accepted s v).image) (happens s v m)
  unfolding accepted
  left_follows v h g z =
      let p = accepted_follows v g z in
      then m b (block_after s v) _ _ p (look_back m (beside_after s v) (block_after s v) hm (length-after s v ∙ h) (p.keeps (sound b g).0)) (λ k. k)

-- ---- the step, of any bytes

-- what a step that is not refused knows: the image is good, and nothing stands against the event
module _ (s e : List ℕ) (z : eqb (refusal s e) 0 ≡ true) where
  good-image : good_image s ≡ true
  good-image = at (good_image s) refl
    where
      at : (t : Bool) → good_image s ≡ t → good_image s ≡ true
      at true p = p
      at false p = absurd (false≢true (sym (ap (λ (n : ℕ). eqb n 0) (refusal-bad s e p)) ∙ z))

  pub good_block_lem : good_block (block_of s) ≡ true
  unfolding good_image
  good_block_lem = (all (contents s) (and_r (eqb (length s) image_bytes) (every (contents s)) good-image)).1.1.1.0

  left_over : remaining s (event e) ≡ 0
  left_over =
      let a = asleep (block_of s) in
      let p = ecan (block_of s) in
      let l : remaining s (decoded a p e) ≡ 0 = sym (refusal-good s e good-image) ∙ eqb-true _ _ z in
      ap (remaining s) (sym (real s a p e l)) ∙ l

pub step_follows : (s e : List ℕ) (m : ℕ) → m < 32 → Follows Any m (block_of s) (block_of (step s e).image) (happenings s e m)
unfolding step happenings
step_follows s e m hm = at (eqb (refusal s e) 0) refl
  where
    at : (t : Bool) → eqb (refusal s e) 0 ≡ t
        → Follows Any m (block_of s) (block_of (cond t (accepted s (event e)) (refused s (refusal s e))).image) (cond t (happens s (event e) m) [])
    at true z = left_follows m hm s (event e) (good_length s (good-image s e z)) (good_block_lem s e z) (left_over s e z)
    at false z = none m (block_of s) (block_of s) refl (λ k. k)
