-- The words of a good image, by the rule and by the product's facts, both ways.
use Prim.Native.Nat.{ℕ, zero, suc, ◌+◌, ◌-◌, ◌*◌, ◌/◌, ◌%◌, ◌^◌, ◌<◌, ◌≤◌}
use mathlib.Core.Path.{◌≡◌, refl, sym, ◌∙◌, ap, subst}
use mathlib.Core.Bool.{Bool, true, false, ◌&&◌, false≢true}
use mathlib.Core.List.{List, [], ◌∷◌}
use native.Mathlib.Decide.{dec_lt}
use native.Mathlib.Omega.{arith}
use native.Mathlib.Nat.{mod-lt}
use lib.Dec.{eqb, leb}
use lib.Pow.{shr-shr, pow_pos}
use borrow.Author.Tests.{eqb-true, eqb-false, eq-eqb, ne_eqb, leb-true, le-leb}
use Rattle.bits.specs.Bit.{digit, bit}
use Rattle.bits.proofs.Laws.{bit-zero, bit_high, same_below}
use Rattle.bits.proofs.Sets.{and_l, and_r, top_up_lem, top_down_lem}
use Rattle.words.specs.Word.{word_at, words_of}
use Rattle.words.proofs.Bytes.{Bytes, word_lt}
use Rattle.registers.specs.declared.Block.{Block}
use Rattle.registers.specs.Block.{block_of, can_b, empty_slot}
use Rattle.registers.specs.Status.{filled}
use Rattle.registers.specs.Writes.{slot_mask}
use Rattle.registers.proofs.Flags.{slot-bit}
use Rattle.good.specs.Good.{good_spare, spare_words}
use Rattle.good.proofs.Facts.{senders, Senders, Core}
use Rattle.good.proofs.Image.{GoodImage}
use Rattle.bits.proofs.Tests.{all}
use Rattle.rules.specs.Words.{◌has◌, words, among, TRS, TRR, TA, AA, CDR, MBTIF, RML, RFP, LAM, GAM, RMP, PROFILE, e_can, place, is_mask}
use Rattle.rules.specs.Image.{GoodWords, Good}
use Rattle.rules.proofs.Blocks.{among-all}
use Rattle.rules.proofs.Receiving.{bit-mod}

-- ---- a field that is zero, by its bits

bit_shift : (w lo i : ℕ) → bit (w / 2 ^ lo) i ≡ bit w (lo + i)
unfolding digit
bit_shift w lo i = ap (λ (x : ℕ). eqb (x % 2) 1) (shr-shr w lo i)

pub field_bits : (w lo len : ℕ) → w / 2 ^ lo % 2 ^ len ≡ 0 → (i : ℕ) → i < len → bit w (lo + i) ≡ false
field_bits w lo len h i l =
    sym (bit_shift w lo i) ∙ sym (bit-mod (w / 2 ^ lo) len i l) ∙ ap (λ (x : ℕ). bit x i) h ∙ bit-zero i

pub bits_field : (w lo len : ℕ) → ((i : ℕ) → i < len → bit w (lo + i) ≡ false) → w / 2 ^ lo % 2 ^ len ≡ 0
bits_field w lo len h =
    same_below len (w / 2 ^ lo % 2 ^ len) 0 (mod-lt _ (pow_pos len)) (pow_pos len)
    (λ i l. bit-mod (w / 2 ^ lo) len i l ∙ bit_shift w lo i ∙ h i l ∙ sym (bit-zero i))

bit_up : (w : ℕ) → bit w 31 ≡ true → 2 ^ 31 ≤ w
bit_up w h = at (dec_lt w (2 ^ 31))
  where
    at : Dec (w < 2 ^ 31) → 2 ^ 31 ≤ w
    at (yes l) = absurd (false≢true (sym (bit_high 31 31 w l (omega arith)) ∙ h))
    at (no l) = omega arith

-- the flag word of the slot has the slot's bit alone
slot-only : (b : Block) (n : ℕ) → bit (slot_mask b) n ≡ true → n ≡ b.slot
slot-only b n h = eqb-true n b.slot (and_r (filled b) (eqb n b.slot) (sym (slot-bit b n) ∙ h))

only-slot : (b : Block) (n : ℕ) → n < 32 → n ≡ b.slot → bit (slot_mask b) n ≡ true
only-slot b n l e = slot-bit b n ∙ rw (eq-eqb n b.slot e, ne_eqb b.slot empty_slot (λ z. omega arith))

-- a bit that is up is one of the word's
below : (w : ℕ) → w < 2 ^ 32 → (n : ℕ) → bit w n ≡ true → n < 32
below w l n h = at (dec_lt n 32)
  where
    at : Dec (n < 32) → n < 32
    at (yes k) = k
    at (no k) = absurd (false≢true (sym (bit_high n 32 w l (omega arith)) ∙ h))

-- ---- from the test to the rule

module _ (s : List ℕ) (g : GoodImage s) where
  abbrev k : Core (block_of s)
  k = g.block.core

  canb : e_can (words s) ≡ false → (block_of s).profile ≡ can_b
  unfolding block_of
  canb p = let l = k.ranges.profile in let n = eqb-false (word_at s 772) 1 p in omega arith

  lows : e_can (words s) ≡ false → Senders 31 (block_of s).trs (block_of s).trr (block_of s).ta (block_of s).aa (block_of s).cdr (block_of s).mbtif
  lows p = rw (canb p) at k.low

  -- no mask has bits 30 and 29: neither LAM and GAM nor that of a mailbox
  masked : (t : ℕ) → is_mask t ≡ true → (words s (place t) has 30 ≡ false) × (words s (place t) has 29 ≡ false)
  unfolding block_of words_of
  masked t h = at (among t (LAM ∷ GAM ∷ [])) refl
    where
      Bare : ℕ → Type 0
      Bare t = (words s (place t) has 30 ≡ false) × (words s (place t) has 29 ≡ false)

      bare : (w : ℕ) → w / 2 ^ 29 % 4 ≡ 0 → (w has 30 ≡ false) × (w has 29 ≡ false)
      bare w z = (field_bits w 29 2 z 1 (omega arith), field_bits w 29 2 z 0 (omega arith))

      at : (u : Bool) → among t (LAM ∷ GAM ∷ []) ≡ u → Bare t
      at true q = among-all Bare (LAM ∷ GAM ∷ []) (bare _ k.lam, (bare _ k.gam, tt)) t q
      at false q =
          let b : (leb 64 t && leb t 95) ≡ true = rw q at h in
          let l = leb-true 64 t (and_l (leb 64 t) (leb t 95) b) in
          let u = leb-true t 95 (and_r (leb 64 t) (leb t 95) b) in
          let e : 640 + 4 * (t - 64) ≡ 512 + 4 * place t = rw (le-leb 64 t l) (omega arith) in
          subst (λ (i : ℕ). (word_at s i has 30 ≡ false) × (word_at s i has 29 ≡ false)) e (bare _ (eqb-true _ _ (g.masks (t - 64) (omega arith))))

  pub facts : GoodWords (words s)
  unfolding block_of words_of good_spare
  facts =
      let r = k.ranges in
      let p = all (spare_words s) g.spare in
      record {
        profile = r.profile;
        md = λ p. top_up_lem (word_at s 516) k.wide.md (k.md31 (canb p));
        bit_31 =
            λ p.
            let l = lows p in
            among-all (λ j. words s j has 31 ≡ false) (TRS ∷ TRR ∷ TA ∷ AA ∷ CDR ∷ MBTIF ∷ [])
            (bit_high 31 31 _ l.trs (omega arith), (bit_high 31 31 _ l.trr (omega arith), (bit_high 31 31 _ l.ta (omega arith), (bit_high 31 31 _ l.aa (omega arith), (bit_high 31 31 _ l.cdr (omega arith), (bit_high 31 31 _ l.mbtif (omega arith), tt))))));
        trs = k.apart.never;
        trr = λ n h. (slot-only (block_of s) n (k.at_slot.has n h), k.of_request.has n h);
        rml_rfp = λ j n. among-all (λ j. words s j has n ≡ true → words s RMP has n ≡ true) (RML ∷ RFP ∷ []) (k.rml.has n, (k.rfp.has n, tt)) j;
        masks = masked;
        gif = (r.gif, r.gim);
        bcr = (r.bcr1, r.bcr2);
        counters = (r.tsc, r.tec, r.rec);
        states = (r.mode, g.block.waits.most, r.slot, r.recovery, r.options, r.tso);
        spare = (eqb-true _ _ p.0, eqb-true _ _ p.1.0, eqb-true _ _ p.1.1.0, eqb-true _ _ p.1.1.1.0);
        filled = λ h. let x = k.slotted h in (x.mode, x.tec, x.trs, x.mc);
        at_bus_off = k.off;
        recovers = k.recovering;
        waits = g.block.waits.least;
        waits_for = g.block.waits.reason;
        sleeps = λ h. let x = k.sleeps h in (x.tec, x.rec, x.trs, x.trr);
      }

-- ---- from the rule to the test

module _ (s : List ℕ) (b : Bytes s) (h : Good s) where
  abbrev q : GoodWords (words s)
  q = h.registers

  low : (j : ℕ) → among j (TRS ∷ TRR ∷ TA ∷ AA ∷ CDR ∷ MBTIF ∷ []) ≡ true → words s j < 2 ^ senders (block_of s)
  unfolding block_of
  low j e = at (words s PROFILE) refl
    where
      l : words s j < 2 ^ 32
      l = word_lt s b (512 + 4 * j)

      at : (p : ℕ) → words s PROFILE ≡ p → words s j < 2 ^ (31 + p)
      at zero z = top_down_lem (words s j) l (q.bit_31 (ne_eqb (words s PROFILE) 1 (λ n. omega arith)) j e)
      at (suc zero) z = l
      at (suc (suc p)) z = let m = q.profile in absurd (omega arith)

  pub gap : (w : ℕ) → w has 30 ≡ false → w has 29 ≡ false → w / 2 ^ 29 % 2 ^ 2 ≡ 0
  gap w x y = bits_field w 29 2 at
    where
      at : (i : ℕ) → i < 2 → bit w (29 + i) ≡ false
      at zero l = y
      at (suc zero) l = x
      at (suc (suc i)) l = absurd (omega arith)

  pub core : Core (block_of s)
  unfolding block_of words_of
  core =
      record {
        wide = record { mc = word_lt s b 512; md = word_lt s b 516; rmp = word_lt s b 536; lam = word_lt s b 544; gam = word_lt s b 548; mbrif = word_lt s b 564; mbim = word_lt s b 568; protection = word_lt s b 768 };
        md31 = λ z. bit_up (word_at s 516) (q.md (ne_eqb (words s PROFILE) 1 (λ n. omega arith)));
        low = record { trs = low TRS refl; trr = low TRR refl; ta = low TA refl; aa = low AA refl; cdr = low CDR refl; mbtif = low MBTIF refl };
        apart = record { never = q.trs };
        at_slot = record { has = λ n e. only-slot (block_of s) n (below (words s TRR) (word_lt s b 524) n e) (q.trr n e).0 };
        of_request = record { has = λ n e. (q.trr n e).1 };
        rml = record { has = λ n. q.rml_rfp RML n refl };
        rfp = record { has = λ n. q.rml_rfp RFP n refl };
        lam = gap (word_at s 544) (q.masks LAM refl).0 (q.masks LAM refl).1;
        gam = gap (word_at s 548) (q.masks GAM refl).0 (q.masks GAM refl).1;
        ranges = record { gif = q.gif.0; gim = q.gif.1; bcr1 = q.bcr.0; bcr2 = q.bcr.1; tsc = q.counters.0; tec = q.counters.1; rec = q.counters.2; mode = q.states.0; slot = q.states.2; recovery = q.states.3; options = q.states.4; tso = q.states.5; profile = q.profile };
        slotted = λ e. let x = q.filled e in record { mode = x.0; tec = x.1; trs = x.2; mc = x.3 };
        off = q.at_bus_off;
        recovering = q.recovers;
        sleeps = λ e. let x = q.sleeps e in record { tec = x.0; rec = x.1; trs = x.2; trr = x.3 };
      }
