-- A good register block by its facts, one by one, both ways.
use Rattle.std.proofs.lemmas.Bool.{and_from}
use Prim.Native.Nat.{ℕ, ◌+◌, ◌/◌, ◌%◌, ◌^◌, ◌<◌, ◌≤◌}
use mathlib.Core.Path.{◌≡◌, refl, sym, ◌∙◌, ap}
use mathlib.Core.Bool.{Bool, true, false, not, ◌&&◌, ◌||◌, false≢true}
use mathlib.Core.List.{[], ◌∷◌}
use mathlib.Core.Logic.{◌≢◌}
use native.Mathlib.Omega.{arith}
use lib.Dec.{eqb, ltb, leb, lit<}
use borrow.Author.Tests.{ltb-true, leb-true, eqb-true, eqb-false, lt-ltb, le-leb, eq-eqb, ne_eqb, not-true}
use Rattle.bits.specs.Bit.{bit}
use Rattle.bits.proofs.Laws.{bit-flag, bit_high}
use Rattle.bits.proofs.Sets.{and_l, and_r, Within, Apart, within_word, word-within, apart-word, word-apart, within-mask}
use Rattle.bits.specs.Tests.{every, implies}
use Rattle.bits.proofs.Tests.{All, all, holds, given, implied}
use Rattle.registers.specs.declared.Block.{Block}
use Rattle.registers.specs.Block.{normal, sleep, no_mode, empty_slot, bus_off_at, can_b, e_can}
use Rattle.registers.specs.Status.{filled, ecan, asleep, bus_off}
use Rattle.registers.specs.Writes.{slot_mask}
use Rattle.registers.proofs.Laws.{Small}
use Rattle.good.specs.Good.{last_receives, flags_of_pending, mask_gaps, ranges, states, slot_asks, sleep_asks, waits_for_reason, flag_clauses, number_clauses, slot_clauses, good_flags, good_numbers, good_slot, good_block}

not_eqb : (n k : ℕ) → n ≢ k → not (eqb n k) ≡ true
not_eqb n k h = rw (ne_eqb n k h)

-- ---- the facts, over the words that each clause names, so that a change elsewhere leaves them as they are

-- words that no clause bounds further than their four bytes
pub record Wide (c d p l g f m o : ℕ) : Type 0 where
  pub mc : c < 2 ^ 32
  pub md : d < 2 ^ 32
  pub rmp : p < 2 ^ 32
  pub lam : l < 2 ^ 32
  pub gam : g < 2 ^ 32
  pub mbrif : f < 2 ^ 32
  pub mbim : m < 2 ^ 32
  pub protection : o < 2 ^ 32

abbrev pub WideBlock : Block → Type 0
WideBlock b = Wide b.mc b.md b.rmp b.lam b.gam b.mbrif b.mbim b.protection

-- how many mailboxes can send, and so how many bits the words of sending have: 31 in a CAN-B, 32 in an eCAN
abbrev pub senders : Block → ℕ
senders b = 31 + b.profile

pub record Senders (k s r t a c m : ℕ) : Type 0 where
  pub trs : s < 2 ^ k
  pub trr : r < 2 ^ k
  pub ta : t < 2 ^ k
  pub aa : a < 2 ^ k
  pub cdr : c < 2 ^ k
  pub mbtif : m < 2 ^ k

pub record Ranges (gf gm b1 b2 ts te re mo sl rc op to pr : ℕ) : Type 0 where
  pub gif : gf < 256
  pub gim : gm < 256
  pub bcr1 : b1 < 1024
  pub bcr2 : b2 < 1024
  pub tsc : ts < 65536
  pub tec : te ≤ 256
  pub rec : re ≤ 255
  pub mode : mo ≤ 3
  pub slot : sl ≤ empty_slot
  pub recovery : rc ≤ 127
  pub options : op ≤ 3
  pub tso : to ≤ 1
  pub profile : pr ≤ e_can

pub record Sending (mo te s m n : ℕ) : Type 0 where
  pub mode : mo ≡ normal
  pub tec : te < 256
  pub trs : bit s n ≡ true
  pub mc : bit m n ≡ true

pub record Sleeping (te re s r : ℕ) : Type 0 where
  pub tec : te ≡ 0
  pub rec : re ≡ 0
  pub trs : s ≡ 0
  pub trr : r ≡ 0

-- every clause but that of the waiting mode, which an outcome leaves open until the step's end
pub record Core (b : Block) : Type 0 where
  pub wide : WideBlock b
  pub md31 : b.profile ≡ can_b → 2 ^ 31 ≤ b.md
  pub low : Senders (senders b) b.trs b.trr b.ta b.aa b.cdr b.mbtif
  pub apart : Apart b.trs b.md
  pub at_slot : Within b.trr (slot_mask b)
  pub of_request : Within b.trr b.trs
  pub rml : Within b.rml b.rmp
  pub rfp : Within b.rfp b.rmp
  pub lam : b.lam / 2 ^ 29 % 4 ≡ 0
  pub gam : b.gam / 2 ^ 29 % 4 ≡ 0
  pub ranges : Ranges b.gif b.gim b.bcr1 b.bcr2 b.tsc b.tec b.rec b.mode b.slot b.recovery b.options b.tso b.profile
  pub slotted : b.slot ≢ empty_slot → Sending b.mode b.tec b.trs b.mc b.slot
  pub off : b.tec ≡ bus_off_at → b.mode ≡ normal
  pub recovering : 0 < b.recovery → b.tec ≡ bus_off_at
  pub sleeps : b.mode ≡ sleep → Sleeping b.tec b.rec b.trs b.trr

pub record Waits (w s t : ℕ) : Type 0 where
  pub least : 1 ≤ w
  pub most : w ≤ 4
  pub reason : w ≢ no_mode → s ≡ empty_slot → t ≡ bus_off_at

pub record GoodBlock (b : Block) : Type 0 where
  pub core : Core b
  pub waits : Waits b.waiting b.slot b.tec

-- ---- from the tests to the facts

or-last : (s t : ℕ) → (not (eqb s empty_slot) || eqb t bus_off_at) ≡ true → s ≡ empty_slot → t ≡ bus_off_at
or-last s t h e = eqb-true t bus_off_at (rw (eq-eqb s empty_slot e) at h)

last_or : (s t : ℕ) → (s ≡ empty_slot → t ≡ bus_off_at) → (not (eqb s empty_slot) || eqb t bus_off_at) ≡ true
last_or s t h = implied (eqb s empty_slot) (eqb t bus_off_at) (λ p. eq-eqb t bus_off_at (h (eqb-true s empty_slot p)))

slot-fits : (b : Block) → good_numbers b ≡ true → b.slot ≤ empty_slot
unfolding good_numbers
slot-fits b h = leb-true b.slot empty_slot (all (states b) (all (number_clauses b) h).1.0).1.1.0

-- a slot that is neither a mailbox's number nor empty: not good, so the clauses that read a bit there need not be tried
pub slot_too_high : (b : Block) → empty_slot < b.slot → good_block b ≡ false
unfolding good_block
slot_too_high b h = off (good_flags b) (good_numbers b) (good_slot b) (λ p. let l = slot-fits b p in absurd (omega arith))
  where
    off : (x y z : Bool) → (y ≡ true → false ≡ true) → (x && y && z) ≡ false
    off true true z f = absurd (false≢true (f refl))
    off true false z f = refl
    off false y z f = refl

pub slot_below : (b : Block) → good_block b ≡ true → b.slot ≤ empty_slot
unfolding good_block
slot_below b h = slot-fits b (all (good_flags b ∷ good_numbers b ∷ good_slot b ∷ []) h).1.0

-- the flag word of a filled slot has the slot's own bit, so that a word has it exactly where it has all of the flag word
pub slot-up : (b : Block) → b.slot ≢ empty_slot → bit (slot_mask b) b.slot ≡ true
slot-up b n = bit-flag (filled b) b.slot b.slot ∙ rw (ne_eqb b.slot empty_slot n, eq-eqb b.slot b.slot refl)

slot-within : (b : Block) (w : ℕ) → filled b ≡ true → bit w b.slot ≡ true → Within (slot_mask b) w
slot-within b w p h = rw p (within-mask b.slot w h)

-- a CAN-B has the profile 0, so that 31 mailboxes send; an eCAN has 1, so that all do
can_b_lem : (b : Block) → b.profile ≤ e_can → ecan b ≡ false → b.profile ≡ can_b
can_b_lem b l p = let n = eqb-false b.profile e_can p in omega arith

module _ (b : Block) (fit : Small b) (h : good_block b ≡ true) where
  groups : All (good_flags b ∷ good_numbers b ∷ good_slot b ∷ [])
  unfolding good_block
  groups = all (good_flags b ∷ good_numbers b ∷ good_slot b ∷ []) h

  flags : All (flag_clauses b)
  unfolding good_flags
  flags = all (flag_clauses b) groups.0

  numbers : All (number_clauses b)
  unfolding good_numbers
  numbers = all (number_clauses b) groups.1.0

  slots : All (slot_clauses b)
  unfolding good_slot
  slots = all (slot_clauses b) groups.1.1.0

  last_receives_lem : ecan b ≡ false → All (last_receives b)
  last_receives_lem p = all (last_receives b) (or_right (ecan b) (every (last_receives b)) flags.0 p)
    where
      or_right : (t u : Bool) → (t || u) ≡ true → t ≡ false → u ≡ true
      or_right true u e q = absurd (false≢true (sym q))
      or_right false u e q = e

  is_can_b : ecan b ≡ false → b.profile ≡ can_b
  is_can_b p = eqb-true _ _ (last_receives_lem p).0

  kind : b.profile ≤ e_can
  kind = at (ecan b) refl
    where
      at : (t : Bool) → ecan b ≡ t → b.profile ≤ e_can
      at true p = let e = eqb-true b.profile e_can p in omega arith
      at false p = let e = is_can_b p in omega arith

  below : (w : ℕ) → w < 2 ^ 32 → (ecan b ≡ false → w < 2 ^ 31) → w < 2 ^ senders b
  below w l f = at (ecan b) refl
    where
      at : (t : Bool) → ecan b ≡ t → w < 2 ^ senders b
      at true p = rw (eqb-true b.profile e_can p) l
      at false p = rw (is_can_b p) (f p)

  can_send : Senders (senders b) b.trs b.trr b.ta b.aa b.cdr b.mbtif
  can_send =
      record {
        trs = below b.trs (fit 2 (lit< tt)) (λ p. ltb-true _ _ (last_receives_lem p).1.1.0);
        trr = below b.trr (fit 3 (lit< tt)) (λ p. ltb-true _ _ (last_receives_lem p).1.1.1.0);
        ta = below b.ta (fit 4 (lit< tt)) (λ p. ltb-true _ _ (last_receives_lem p).1.1.1.1.0);
        aa = below b.aa (fit 5 (lit< tt)) (λ p. ltb-true _ _ (last_receives_lem p).1.1.1.1.1.0);
        cdr = below b.cdr (fit 11 (lit< tt)) (λ p. ltb-true _ _ (last_receives_lem p).1.1.1.1.1.1.0);
        mbtif = below b.mbtif (fit 12 (lit< tt)) (λ p. ltb-true _ _ (last_receives_lem p).1.1.1.1.1.1.1.0);
      }

  in_range : Ranges b.gif b.gim b.bcr1 b.bcr2 b.tsc b.tec b.rec b.mode b.slot b.recovery b.options b.tso b.profile
  in_range =
      let r = all (ranges b) numbers.0 in
      let s = all (states b) numbers.1.0 in
      record {
        gif = ltb-true _ _ r.0;
        gim = ltb-true _ _ r.1.0;
        bcr1 = ltb-true _ _ r.1.1.0;
        bcr2 = ltb-true _ _ r.1.1.1.0;
        tsc = ltb-true _ _ r.1.1.1.1.0;
        tec = leb-true _ _ r.1.1.1.1.1.0;
        rec = leb-true _ _ r.1.1.1.1.1.1.0;
        mode = leb-true _ _ s.0;
        slot = leb-true _ _ s.1.1.0;
        recovery = leb-true _ _ s.1.1.1.0;
        options = leb-true _ _ s.1.1.1.1.0;
        tso = leb-true _ _ s.1.1.1.1.1.0;
        profile = kind;
      }

  sending : b.slot ≢ empty_slot → Sending b.mode b.tec b.trs b.mc b.slot
  sending n =
      let f = all (slot_asks b) (given (filled b) (every (slot_asks b)) slots.1.0 (not_eqb b.slot empty_slot n)) in
      record {
        mode = eqb-true _ _ f.0;
        tec = ltb-true _ _ f.1.0;
        trs = (word-within (slot_mask b) b.trs (eqb-true _ _ f.1.1.0)).has b.slot (slot-up b n);
        mc = (word-within (slot_mask b) b.mc (eqb-true _ _ f.1.1.1.0)).has b.slot (slot-up b n);
      }

  sleeping : b.mode ≡ sleep → Sleeping b.tec b.rec b.trs b.trr
  sleeping e =
      let f = all (sleep_asks b) (given (asleep b) (every (sleep_asks b)) numbers.1.1.1.1.1.0 (eq-eqb _ _ e)) in
      record {
        tec = eqb-true _ _ f.0;
        rec = eqb-true _ _ f.1.0;
        trs = eqb-true _ _ f.1.1.0;
        trr = eqb-true _ _ f.1.1.1.0;
      }

  pub block_facts : GoodBlock b
  block_facts =
      let lost = all (flags_of_pending b) flags.1.1.1.0 in
      let gaps = all (mask_gaps b) flags.1.1.1.1.0 in
      let waits = numbers.1.1.1.1.0 in
      record {
        core = record {
          wide = record {
            mc = fit 0 (lit< tt);
            md = fit 1 (lit< tt);
            rmp = fit 6 (lit< tt);
            lam = fit 8 (lit< tt);
            gam = fit 9 (lit< tt);
            mbrif = fit 13 (lit< tt);
            mbim = fit 14 (lit< tt);
            protection = fit 28 (lit< tt);
          };
          md31 = λ e. leb-true _ _ (last_receives_lem (ne_eqb b.profile e_can (λ q. omega arith))).1.0;
          low = can_send;
          apart = word-apart b.trs b.md (eqb-true _ _ flags.1.0);
          at_slot = word-within b.trr (slot_mask b) (eqb-true _ _ slots.0);
          of_request = word-within b.trr b.trs (eqb-true _ _ flags.1.1.0);
          rml = word-within b.rml b.rmp (eqb-true _ _ lost.0);
          rfp = word-within b.rfp b.rmp (eqb-true _ _ lost.1.0);
          lam = eqb-true _ _ gaps.0;
          gam = eqb-true _ _ gaps.1.0;
          ranges = in_range;
          slotted = sending;
          off = λ e. eqb-true _ _ (given (bus_off b) (eqb b.mode normal) numbers.1.1.0 (eq-eqb _ _ e));
          recovering = λ l. eqb-true _ _ (given (ltb 0 b.recovery) (bus_off b) numbers.1.1.1.0 (lt-ltb _ _ l));
          sleeps = sleeping;
        };
        waits = record {
          least = leb-true _ _ (and_l (leb 1 b.waiting) (waits_for_reason b) waits);
          most = leb-true _ _ (all (states b) numbers.1.0).1.0;
          reason =
              λ n.
              or-last b.slot b.tec
              (given (not (eqb b.waiting no_mode)) (filled b || bus_off b) (and_r (leb 1 b.waiting) (waits_for_reason b) waits) (not_eqb b.waiting no_mode n));
        };
      }

-- ---- and back

module _ (b : Block) (g : GoodBlock b) where
  core : Core b
  core = g.core

  last_holds : (ecan b || every (last_receives b)) ≡ true
  unfolding core
  last_holds = at (ecan b) refl
    where
      at : (t : Bool) → ecan b ≡ t → (t || every (last_receives b)) ≡ true
      at true p = refl
      at false p =
          let z = can_b_lem b core.ranges.profile p in
          let l : Senders 31 b.trs b.trr b.ta b.aa b.cdr b.mbtif = rw z at core.low in
          holds (last_receives b)
          (eq-eqb _ _ z, (le-leb _ _ (core.md31 z), (lt-ltb _ _ l.trs, (lt-ltb _ _ l.trr, (lt-ltb _ _ l.ta, (lt-ltb _ _ l.aa, (lt-ltb _ _ l.cdr, (lt-ltb _ _ l.mbtif, tt))))))))

  flags_hold : good_flags b ≡ true
  unfolding good_flags core
  flags_hold =
      holds (flag_clauses b) (
        last_holds,
        (
          eq-eqb _ _ (apart-word core.apart),
          (
            eq-eqb _ _ (within_word core.of_request),
            (
              holds (flags_of_pending b) (eq-eqb _ _ (within_word core.rml), (eq-eqb _ _ (within_word core.rfp), tt)),
              (holds (mask_gaps b) (eq-eqb _ _ core.lam, (eq-eqb _ _ core.gam, tt)), tt),
            ),
          ),
        ),
      )

  asleep_hold : implies (asleep b) (every (sleep_asks b)) ≡ true
  unfolding core
  asleep_hold =
      implied (asleep b) (every (sleep_asks b))
      (λ p.
      let a = core.sleeps (eqb-true _ _ p) in
      holds (sleep_asks b) (eq-eqb _ _ a.tec, (eq-eqb _ _ a.rec, (eq-eqb _ _ a.trs, (eq-eqb _ _ a.trr, tt)))))

  waits_hold : (leb 1 b.waiting && waits_for_reason b) ≡ true
  waits_hold =
      let w = g.waits in
      and_from (leb 1 b.waiting) (waits_for_reason b) (le-leb _ _ w.least)
      (implied (not (eqb b.waiting no_mode)) (filled b || bus_off b)
      (λ p. last_or b.slot b.tec (w.reason (eqb-false _ _ (not-true _ p)))))

  numbers_hold : good_numbers b ≡ true
  unfolding good_numbers core
  numbers_hold =
      let r = core.ranges in
      holds (number_clauses b) (
        holds (ranges b)
            (lt-ltb _ _ r.gif, (lt-ltb _ _ r.gim, (lt-ltb _ _ r.bcr1, (lt-ltb _ _ r.bcr2, (lt-ltb _ _ r.tsc, (le-leb _ _ r.tec, (le-leb _ _ r.rec, tt))))))),
        (
          holds (states b)
              (le-leb _ _ r.mode, (le-leb _ _ g.waits.most, (le-leb _ _ r.slot, (le-leb _ _ r.recovery, (le-leb _ _ r.options, (le-leb _ _ r.tso, tt)))))),
          (
            implied (bus_off b) (eqb b.mode normal) (λ p. eq-eqb _ _ (core.off (eqb-true _ _ p))),
            (
              implied (ltb 0 b.recovery) (bus_off b) (λ p. eq-eqb _ _ (core.recovering (ltb-true _ _ p))),
              (waits_hold, (asleep_hold, tt)),
            ),
          ),
        ),
      )

  slot_holds : good_slot b ≡ true
  unfolding good_slot core
  slot_holds =
      holds (slot_clauses b) (
        eq-eqb _ _ (within_word core.at_slot),
        (
          implied (filled b) (every (slot_asks b))
              (λ p.
              let f = core.slotted (eqb-false _ _ (not-true _ p)) in
              holds (slot_asks b) (eq-eqb _ _ f.mode, (lt-ltb _ _ f.tec, (eq-eqb _ _ (within_word (slot-within b b.trs p f.trs)), (eq-eqb _ _ (within_word (slot-within b b.mc p f.mc)), tt))))),
          tt,
        ),
      )

  pub block_good : good_block b ≡ true
  unfolding good_block
  block_good = holds (good_flags b ∷ good_numbers b ∷ good_slot b ∷ []) (flags_hold, (numbers_hold, (slot_holds, tt)))

-- ---- a CAN-B never has mailbox 31 in its slot: it would need a request there

pub slot_31 : {b : Block} → GoodBlock b → b.profile ≡ can_b → b.slot ≢ 31
slot_31 {b} g p e =
    let full : b.slot ≢ empty_slot = omega arith in
    let low : b.trs < 2 ^ 31 = rw p at g.core.low.trs in
    false≢true (sym (bit_high 31 31 b.trs low (omega arith)) ∙ ap (bit b.trs) (sym e) ∙ (g.core.slotted full).trs)
