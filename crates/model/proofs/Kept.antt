-- Demand 2: an accepted step leaves a good image.
use Prim.Native.Nat.{ℕ, ◌+◌, ◌-◌, ◌*◌, ◌^◌, ◌<◌}
use mathlib.Core.Path.{◌≡◌, refl, sym, ◌∙◌, ap}
use mathlib.Core.Bool.{Bool, true, false, cond, not, ◌||◌, or-true, false≢true}
use mathlib.Core.List.{List}
use mathlib.Core.Logic.{◌≢◌}
use native.Mathlib.Omega.{arith}
use lib.Dec.{eqb, ltb, leb}
use lib.ListN.{length}
use borrow.Author.Tests.{eqb-true, eqb-false, eq-eqb, ltb-true, leb-true, not-false}
use Rattle.bits.proofs.Sets.{and_r}
use Rattle.words.specs.Word.{put_word}
use Rattle.words.proofs.Laws.{length-put}
use Rattle.words.proofs.Bytes.{Bytes, bytes-put}
use Rattle.registers.specs.Block.{masks_at, block_of, sleep, empty_slot}
use Rattle.registers.specs.Status.{vacant, ecan, asleep}
use Rattle.registers.specs.Modes.{on_bus}
use Rattle.registers.specs.Frames.{listened}
use Rattle.registers.specs.Sending.{started, added, concluded}
use Rattle.mailboxes.specs.Mailbox.{mailboxes, mailbox, with_mailbox, layout}
use Rattle.mailboxes.specs.Filing.{filed, stamped}
use Rattle.mailboxes.proofs.Laws.{length-mailbox, bytes-mailbox}
use Rattle.mailboxes.proofs.Filed.{length-filed, bytes-filed, filed-layout, layout_alone, written-layout, length-stamped, bytes-stamped, stamped-layout}
use Rattle.events.specs.declared.Event.{Event}
use Rattle.events.specs.declared.Event.TheVariants.{Refused, Register, Mailbox, Heard, Start, Outcome, ReceiveError, Recessive, Tick, Mode, Options, Reset}
use Rattle.events.specs.declared.Frame.{Frame}
use Rattle.events.specs.Decode.{is_mask, register_allowed, event, decoded, wakeful_as}
use Rattle.events.proofs.Refusals.{operation_of, is_refused, write-awake}
use Rattle.events.proofs.Allowed.{Allowed, FrameAllowed, decoded_allowed}
use Rattle.filter.specs.declared.Delivery.{Delivery}
use Rattle.filter.specs.declared.Delivery.TheVariants.{Into, Reply, Nowhere}
use Rattle.filter.specs.Filter.{delivery}
use Rattle.filter.proofs.Ways.{into, reply}
use Rattle.sending.specs.Choice.{next}
use Rattle.sending.proofs.Choice.{next_is, next-off}
use Rattle.good.specs.Good.{good_image}
use Rattle.good.proofs.Facts.{GoodBlock}
use Rattle.good.proofs.Image.{GoodImage, image_facts, mailbox_kept, block_kept}
use Rattle.good.proofs.Masked.{mask_kept, zeros_kept}
use Rattle.keeps.proofs.Open.{Open, good_open, risen_open}
use Rattle.keeps.proofs.Settled.{settled-good}
use Rattle.keeps.proofs.Writes.{written_open}
use Rattle.keeps.proofs.Modes.{ticked_open, recessive_open, optioned_open, worsened_open, asked_open, fresh_open}
use Rattle.keeps.proofs.Frames.{listened_open, listened-awake, stored_open, replied_open}
use Rattle.keeps.proofs.Words.{either}
use Rattle.keeps.proofs.Sending.{started_open, sent_open, failed_open}
use Rattle.refusals.specs.Refusal.{refusal, remaining}
use Rattle.refusals.proofs.Order.{refusal-good}
use Rattle.answers.specs.Answer.{no_mailbox, refused}
use Rattle.model.specs.Step.{own, goes, delivered, acted, block_after, started_with, stowed, masked, unmasked, postmarked, rewritten, beside_after, accepted, step}
use Rattle.model.proofs.Whole.{unrefused, real}

-- ---- what an event that is not refused tells

-- a refusal number that is 0
clear : (t : Bool) (k x : ℕ) → 0 < k → cond t k x ≡ 0 → t ≡ false
clear true k x h e = absurd (omega arith)
clear false k x h e = refl

-- an event of a good image, decoded and not refused
pub record Taken (s : List ℕ) (v : Event) : Type 0 where
  pub good : GoodImage s
  pub fair : Allowed (ecan (block_of s)) v
  pub awake : wakeful_as (operation_of v) ≡ true → (block_of s).mode ≢ sleep
  pub free : remaining s v ≡ 0

-- ---- the register block

module _ (s : List ℕ) where
  held : (f : Frame) (d : Delivery) → GoodBlock (block_of s) → delivery s f ≡ d → Open (delivered (listened (block_of s)) f.rtr d)
  unfolding delivered listened
  held f (Into n c) g e = stored_open (listened_open g) n (into s f n c e).first.there f.rtr
  held f (Reply n c) g e =
      let r = reply s f n c e in
      replied_open (listened_open g) (listened-awake (block_of s) r.on_bus_lem) n r.first.there r.transmitter
  held f (Nowhere c) g e = listened_open g

  empty : ◌≡◌ {A = ℕ} (cond (not (vacant (block_of s))) 5 0) 0 → (block_of s).slot ≡ empty_slot
  empty z = eqb-true _ _ (not-false _ (clear (not (vacant (block_of s))) 5 0 (omega arith) z))

  taken-up : GoodBlock (block_of s) → (block_of s).slot ≡ empty_slot → Open (started_with (block_of s) (next s))
  taken-up g z = at (ltb (next s) no_mailbox) refl (on_bus (block_of s)) refl
    where
      at : (t : Bool) → ltb (next s) no_mailbox ≡ t → (u : Bool) → on_bus (block_of s) ≡ u → Open (cond t (started (block_of s) (next s)) (block_of s))
      at false e u h = good_open g
      at true e true h =
          let l = ltb-true (next s) no_mailbox e in
          started_open g z h (next s) l ((next_is s h).named l)
      at true e false h =
          let l = ltb-true (next s) no_mailbox e in
          absurd (omega (arith, next-off s h))

  concludes : (k : ℕ) → GoodBlock (block_of s) → (block_of s).slot ≢ empty_slot → Open (concluded (block_of s) k)
  concludes k g f = either Open (eqb k 0) (λ e. sent_open g f) (λ e. failed_open g f (added (block_of s) k))

  -- an outcome that is not refused finds a mailbox in the slot
  pub outcome-slot : (k : ℕ) → Taken s (Outcome k) → (block_of s).slot ≢ empty_slot
  unfolding remaining
  outcome-slot k t = eqb-false _ _ (clear (vacant (block_of s)) 7 0 (omega arith) t.free)

  pub acted_open : (v : Event) → Taken s v → Open (acted s v)
  unfolding own goes delivered remaining
  acted_open (Refused r) t = absurd t.fair
  acted_open (Register r v) t =
      written_open (block_of s) r v t.good.block (t.awake refl) t.fair.small t.fair.valued (clear _ 5 _ (omega arith) t.free)
  acted_open (Mailbox n k v) t = good_open t.good.block
  acted_open (Heard f) t = held f (delivery s f) t.good.block refl
  acted_open Start t = taken-up t.good.block (empty t.free)
  acted_open (Outcome k) t =
      concludes k t.good.block (outcome-slot k t)
  acted_open (ReceiveError v) t = worsened_open t.good.block v
  acted_open Recessive t = recessive_open t.good.block
  acted_open Tick t = ticked_open t.good.block
  acted_open (Mode m) t = asked_open t.good.block m t.fair
  acted_open (Options v) t = optioned_open t.good.block v t.fair
  acted_open Reset t = fresh_open (block_of s).profile t.good.block.core.ranges.profile

  pub block_after_lem : (v : Event) → Taken s v → GoodBlock (block_after s v)
  unfolding block_after
  block_after_lem v t = settled-good _ (risen_open (block_of s) (acted_open v t))

  -- ---- the mailboxes

  -- 16 bytes that keep to the layout, in the place of mailbox n
  replaced : (n : ℕ) (m : List ℕ) → n < mailboxes → GoodImage s → length m ≡ length (mailbox s n) → Bytes m → layout m 0 ≡ true
      → GoodImage (with_mailbox s n m)
  replaced n m h g l y k = mailbox_kept s n m g h (l ∙ length-mailbox s n (omega (arith, g.size))) y k

  own-layout : (n : ℕ) → n < mailboxes → GoodImage s → layout (mailbox s n) 0 ≡ true
  own-layout n h g = layout_alone s n (g.layouts n h)

  own-length : (n : ℕ) → n < mailboxes → GoodImage s → length (mailbox s n) ≡ 16
  own-length n h g = length-mailbox s n (omega (arith, g.size))

  stowed-good : (f : Frame) (d : Delivery) → GoodImage s → FrameAllowed f → delivery s f ≡ d → GoodImage (stowed s f d)
  unfolding stowed
  stowed-good f (Into n c) g a e =
      let h = (into s f n c e).first.there in
      let m = mailbox s n in
      let y = bytes-mailbox s n g.bytes in
      let tsc = g.block.core.ranges.tsc in
      replaced n (filed m f.ide f.rtr f.id f.dlc f.bytes (block_of s).tsc) h g
      (length-filed m f.ide f.rtr f.id f.dlc f.bytes (block_of s).tsc)
      (bytes-filed m f.ide f.rtr f.id f.dlc f.bytes (block_of s).tsc y)
      (filed-layout m f.ide f.rtr f.id f.dlc f.bytes (block_of s).tsc (own-length n h g) a.standard a.identifier a.dlc tsc)
  stowed-good f (Reply n c) g a e = g
  stowed-good f (Nowhere c) g a e = g

  postmarked-good : GoodImage s → (block_of s).slot ≢ empty_slot → GoodImage (postmarked s)
  unfolding postmarked
  postmarked-good g full =
      let n = (block_of s).slot in
      let r = g.block.core.ranges in
      let h : n < mailboxes = omega (arith, r.slot) in
      let m = mailbox s n in
      replaced n (stamped m (block_of s).tsc) h g (length-stamped m (block_of s).tsc) (bytes-stamped m (block_of s).tsc (bytes-mailbox s n g.bytes))
      (stamped-layout m (block_of s).tsc (own-length n h g) r.tsc (own-layout n h g))

  masked-good : (r v : ℕ) → GoodImage s → v < 2 ^ 32 → register_allowed (ecan (block_of s)) r v ≡ true → GoodImage (masked s r v)
  unfolding masked register_allowed
  masked-good r v g small a = at (is_mask r) refl
    where
      at : (u : Bool) → is_mask r ≡ u → GoodImage (cond u (put_word s (masks_at + 4 * (r - 64)) v) s)
      at true e =
          let l = leb-true r 95 (and_r (leb 64 r) (leb r 95) e) in
          mask_kept s (r - 64) v (omega arith) g small (rw (e, or-true (eqb r 8 || eqb r 9)) at a)
      at false e = g

  unmasked-good : GoodImage s → GoodImage (unmasked s)
  unfolding unmasked
  unmasked-good g = zeros_kept 32 0 s (omega arith) g

  pub boxes-after : (v : Event) → Taken s v → GoodImage (beside_after s v)
  unfolding beside_after rewritten
  boxes-after (Refused r) t = t.good
  boxes-after (Register r v) t = masked-good r v t.good t.fair.small t.fair.valued
  boxes-after (Mailbox n k v) t =
      let g = t.good in
      let a = t.fair in
      let m = mailbox s n in
      replaced n (put_word m (4 * k) v) a.known g (length-put m (4 * k) v) (bytes-put m (4 * k) v (bytes-mailbox s n g.bytes))
      (written-layout m k v (own-length n a.known g) a.word_known a.small a.laid (own-layout n a.known g))
  boxes-after (Heard f) t = stowed-good f (delivery s f) t.good t.fair refl
  boxes-after Start t = t.good
  boxes-after (Outcome k) t = at (eqb k 0)
    where
      at : (u : Bool) → GoodImage (cond u (postmarked s) s)
      at true = postmarked-good t.good (outcome-slot k t)
      at false = t.good
  boxes-after (ReceiveError v) t = t.good
  boxes-after Recessive t = t.good
  boxes-after Tick t = t.good
  boxes-after (Mode m) t = t.good
  boxes-after (Options v) t = t.good
  boxes-after Reset t = unmasked-good t.good

  -- ---- the image

  pub accepted-good : (v : Event) → Taken s v → GoodImage (accepted s v).image
  unfolding accepted
  accepted-good v t =
      let m = boxes-after v t in
      block_kept (beside_after s v) (block_after s v) m.bytes m.size m.layouts m.spare m.masks (block_after_lem v t)

-- ---- the step, of any bytes: a good image stays good

module _ (s e : List ℕ) (bytes : Bytes s) (small : Bytes e) (g : good_image s ≡ true) where
  a : Bool
  a = asleep (block_of s)

  p : Bool
  p = ecan (block_of s)

  pub taken : refusal s e ≡ 0 → Taken s (event e)
  unfolding a p
  taken z =
      let left : remaining s (decoded a p e) ≡ 0 = sym (refusal-good s e g) ∙ z in
      let same = real s a p e left in
      record {
        good = image_facts s bytes g;
        fair = decoded_allowed a p e (event e) small same (ap is_refused (sym same) ∙ unrefused s a p e left);
        awake = λ w h. absurd (false≢true (sym (write-awake a p e (event e) same w) ∙ eq-eqb _ _ h));
        free = ap (remaining s) (sym same) ∙ left;
      }

  pub step-good : GoodImage (step s e).image
  unfolding step
  step-good = at (eqb (refusal s e) 0) refl
    where
      at : (t : Bool) → eqb (refusal s e) 0 ≡ t → GoodImage (cond t (accepted s (event e)) (refused s (refusal s e))).image
      at true z = accepted-good s (event e) (taken (eqb-true _ _ z))
      at false z = image_facts s bytes g
