-- The read meets the rules of reading, and they leave nothing open.
use Rattle.std.proofs.lemmas.Bool.{false_from_ne_true}
use Prim.Native.Nat.{ℕ, suc, ◌+◌, ◌-◌, ◌*◌, ◌/◌, ◌%◌, ◌^◌, ◌<◌, ◌≤◌}
use mathlib.Core.Path.{◌≡◌, refl, sym, ◌∙◌, ap, ap₂, subst}
use mathlib.Core.Bool.{Bool, true, false, cond, not, ◌&&◌, ◌||◌, and-true, and-false, or-false, false≢true}
use mathlib.Core.List.{List, [], ◌∷◌}
use mathlib.Core.Logic.{◌≢◌}
use native.Mathlib.Decide.{dec_lt, ℕ_discrete}
use native.Mathlib.Omega.{arith}
use native.Mathlib.Nat.{add-mod, zero-mod}
use lib.Dec.{eqb, leb}
use lib.Pow.{mod-mod-pow, shr-shr, shl-shr}
use borrow.Author.Tests.{eqb-false, eq-eqb, ne_eqb}
use Rattle.bits.specs.Bit.{digit, bit, flag}
use Rattle.bits.specs.Below.{all_below}
use Rattle.bits.proofs.Below.{each_below}
use Rattle.bits.proofs.Laws.{bit-zero, bit-or, bit-flag, bit_high, same_bits, or_below, flag_lt, flag-above}
use Rattle.words.proofs.Bytes.{Bytes}
use Rattle.registers.specs.declared.Block.{Block}
use Rattle.registers.specs.Block.{block_of, empty_slot}
use Rattle.registers.specs.Status.{vacant, filled, ecan, asleep, bus_off, passive, warning}
use Rattle.reading.specs.Gsr.{shown_slot, gsr}
use Rattle.reading.specs.Read.{readable, place_of, value, read}
use Rattle.good.specs.Good.{good_image}
use Rattle.good.proofs.Image.{good-slot}
use Rattle.answers.specs.Answer.{Reading}
use Rattle.rules.specs.Words.{Words, words, among, MODE, e_can}
use Rattle.rules.specs.Image.{Good}
use Rattle.rules.specs.Reading.{Gsr, is_word, Reads}
use Rattle.rules.proofs.Good.{good-rule, rule-good}
use Rattle.rules.proofs.Blocks.{of_block, of_block_lem, among-all}
use Rattle.rules.proofs.Receiving.{bit-mod}

-- ---- the bits of a sum of flags, from the highest down

record Bits (x : ℕ) (f : ℕ → Bool) (k : ℕ) : Type 0 where
  bits : (m : ℕ) → bit x m ≡ f m
  above : x % 2 ^ k ≡ 0

more : {x : ℕ} {f : ℕ → Bool} (j : ℕ) (t : Bool) (n : ℕ) → Bits x f (suc j + n) → Bits (x + flag t n) (λ m. f m || t && eqb m n) n
more {x} {f} j t n h =
    let k = suc j + n in
    let l : n < k = omega arith in
    let z : x % 2 ^ n ≡ 0 = sym (mod-mod-pow x (suc j) n) ∙ ap (λ (v : ℕ). v % 2 ^ n) h.above ∙ zero-mod (2 ^ n) in
    record {
      bits =
          λ m.
          ap (λ (y : ℕ). bit y m) (sym (or_below x (flag t n) k h.above (flag_lt t n k l)))
          ∙ bit-or x (flag t n) m
          ∙ ap₂ ◌||◌ (h.bits m) (bit-flag t n m);
      above = add-mod x (flag t n) (2 ^ n) ∙ rw (z, flag-above t n) (zero-mod (2 ^ n));
    }

module _ (m : Words) (b : Block) where
  start : Bits (shown_slot b * 2 ^ 12) (λ m. bit (shown_slot b * 2 ^ 12) m) 12
  start = record { bits = λ m. refl; above = omega arith }

  gsr_bits : (m : ℕ)
      → bit (gsr b) m
      ≡ (bit (shown_slot b * 2 ^ 12) m || filled b && eqb m 10 || eqb b.mode 3 && eqb m 8 || eqb b.mode 1 && eqb m 7 || asleep b && eqb m 6 || eqb b.tso 1 && eqb m 3 || bus_off b && eqb m 2 || passive b && eqb m 1 || warning b && eqb m 0)
  unfolding gsr
  gsr_bits m =
      (more 0 (warning b) 0 (more 0 (passive b) 1 (more 0 (bus_off b) 2 (more 2 (eqb b.tso 1) 3 (more 0 (asleep b) 6 (more 0 (eqb b.mode 1) 7 (more 1 (eqb b.mode 3) 8 (more 1 (filled b) 10 start)))))))).bits m

  no_slot : (m : ℕ) → m < 12 → bit (shown_slot b * 2 ^ 12) m ≡ false
  no_slot m h =
      let z : shown_slot b * 2 ^ 12 % 2 ^ 12 ≡ 0 = omega arith in
      sym (bit-mod (shown_slot b * 2 ^ 12) 12 m h) ∙ ap (λ (x : ℕ). bit x m) z ∙ bit-zero m

  past : (m : ℕ) → 11 ≤ m → bit (gsr b) m ≡ bit (shown_slot b * 2 ^ 12) m
  past m h =
      gsr_bits m
      ∙ rw (ne_eqb m 10 (λ q. omega arith), ne_eqb m 8 (λ q. omega arith), ne_eqb m 7 (λ q. omega arith), ne_eqb m 6 (λ q. omega arith), ne_eqb m 3 (λ q. omega arith), ne_eqb m 2 (λ q. omega arith), ne_eqb m 1 (λ q. omega arith), ne_eqb m 0 (λ q. omega arith))
      (simp (and-false, or-false))

  slot_bits : (n : ℕ) → bit (shown_slot b * 2 ^ 12) (12 + n) ≡ bit (shown_slot b) n
  unfolding digit
  slot_bits n = ap (λ (x : ℕ). eqb (x % 2) 1) (sym (shr-shr (shown_slot b * 2 ^ 12) 12 n) ∙ ap (λ (x : ℕ). x / 2 ^ n) (shl-shr (shown_slot b) 12))

  shown_lt : b.slot ≤ empty_slot → shown_slot b < 32
  shown_lt h = at (vacant b) refl
    where
      at : (t : Bool) → vacant b ≡ t → cond t 31 b.slot < 32
      at true e = omega arith
      at false e = let n = eqb-false b.slot empty_slot e in omega arith

  pub gsr-rule : b.slot ≤ empty_slot → Gsr (of_block m b) (gsr b)
  gsr-rule h =
      let l = shown_lt h in
      record {
        bits_16_12 = λ n h. past (12 + n) (omega arith) ∙ slot_bits n;
        bit_10 = gsr_bits 10 ∙ rw (no_slot 10 (omega arith)) (simp (and-true, and-false, or-false));
        bit_8 = gsr_bits 8 ∙ rw (no_slot 8 (omega arith)) (simp (and-true, and-false, or-false));
        bit_7 = gsr_bits 7 ∙ rw (no_slot 7 (omega arith)) (simp (and-true, and-false, or-false));
        bit_6 = gsr_bits 6 ∙ rw (no_slot 6 (omega arith)) (simp (and-true, and-false, or-false));
        bit_3 = gsr_bits 3 ∙ rw (no_slot 3 (omega arith)) (simp (and-true, and-false, or-false));
        bit_2 = gsr_bits 2 ∙ rw (no_slot 2 (omega arith)) (simp (and-true, and-false, or-false));
        bit_1 = gsr_bits 1 ∙ rw (no_slot 1 (omega arith)) (simp (and-true, and-false, or-false));
        bit_0 = gsr_bits 0 ∙ rw (no_slot 0 (omega arith)) (simp (and-true, and-false));
        others =
            (past 11 (omega arith) ∙ no_slot 11 (omega arith), gsr_bits 9 ∙ rw (no_slot 9 (omega arith)) (simp (and-false, or-false)), gsr_bits 5 ∙ rw (no_slot 5 (omega arith)) (simp (and-false, or-false)), gsr_bits 4 ∙ rw (no_slot 4 (omega arith)) (simp (and-false, or-false)), λ n h. past n (omega arith) ∙ bit_high n 17 (shown_slot b * 2 ^ 12) (omega arith) h);
      }

-- ---- one value

abbrev low : List ℕ
low = 0 ∷ 1 ∷ 2 ∷ 3 ∷ 4 ∷ 5 ∷ 6 ∷ 7 ∷ 8 ∷ 9 ∷ 10 ∷ 11 ∷ []

all-low : all_below (λ n. among n low) 12 ≡ true
unfolding all_below
all-low = refl

pub gsr-one : (w : Words) (v u : ℕ) → Gsr w v → Gsr w u → v ≡ u
gsr-one w v u p q = same_bits v u (λ n. at n (dec_lt n 12) (dec_lt n 17))
  where
    at : (n : ℕ) → Dec (n < 12) → Dec (n < 17) → bit v n ≡ bit u n
    at n (yes l) d =
        among-all (λ n. bit v n ≡ bit u n) low
        (p.bit_0 ∙ sym q.bit_0, (p.bit_1 ∙ sym q.bit_1, (p.bit_2 ∙ sym q.bit_2, (p.bit_3 ∙ sym q.bit_3, (p.others.3 ∙ sym q.others.3, (p.others.2 ∙ sym q.others.2, (p.bit_6 ∙ sym q.bit_6, (p.bit_7 ∙ sym q.bit_7, (p.bit_8 ∙ sym q.bit_8, (p.others.1 ∙ sym q.others.1, (p.bit_10 ∙ sym q.bit_10, (p.others.0 ∙ sym q.others.0, tt)))))))))))) n
        (each_below (λ n. among n low) 12 all-low n l)
    at n (no l) (yes h) =
        let e : 12 + (n - 12) ≡ n = omega arith in
        let k : n - 12 < 5 = omega arith in
        subst (λ (m : ℕ). bit v m ≡ bit u m) e (p.bits_16_12 (n - 12) k ∙ sym (q.bits_16_12 (n - 12) k))
    at n (no l) (no h) = p.others.4 n (omega arith) ∙ sym (q.others.4 n (omega arith))

-- ---- the whole

-- which numbers can be read: those of a word, and GSR's in a CAN-B
number : (ecan : Bool) (k : ℕ) → k ≢ 32 → readable ecan k ≡ is_word k
number ecan k d = rw (ne_eqb k 32 d, and-false (not ecan), or-false (leb k 21))

word_number : (k : ℕ) → is_word k ≡ true → k ≢ 32
word_number k h e = false≢true (sym (ap is_word e) ∙ h)

pub reads : (s : List ℕ) → Bytes s → (k : ℕ) → Reads s k (read s k)
unfolding read value place_of
reads s b k =
    record {
      not_good = λ n. rw (false_from_ne_true (good_image s) (λ h. n (good-rule s b h))) (refl, refl);
      unknown = λ h l d. rw (rule-good s b h, number (ecan (block_of s)) k d, l) (refl, refl);
      no_gsr = λ h e c. rw (rule-good s b h, e, kind c) (refl, refl);
      register = λ h l a. let d = word_number k l in rw (rule-good s b h, number (ecan (block_of s)) k d, l, awake a, ne_eqb k 32 d) (refl, refl);
      gsr =
          λ h e c a.
          rw (rule-good s b h, e, kind c, awake a)
          (refl, subst (λ (w : Words). Gsr w (gsr (block_of s))) (sym (of_block_lem s)) (gsr-rule (words s) (block_of s) (good-slot s (rule-good s b h))));
      asleep = λ h l a. let d = word_number k l in rw (rule-good s b h, number (ecan (block_of s)) k d, l, asleep_is a, ne_eqb k 32 d) (refl, refl);
      asleep_gsr = λ h e c a. rw (rule-good s b h, e, kind c, asleep_is a) (refl, refl);
    }
  where
    kind : {t : Bool} → e_can (words s) ≡ t → ecan (block_of s) ≡ t
    kind c = ap (λ (w : Words). e_can w) (sym (of_block_lem s)) ∙ c

    awake : words s MODE ≢ 2 → asleep (block_of s) ≡ false
    awake a = ne_eqb (block_of s).mode 2 (λ q. a (ap (λ (w : Words). w MODE) (of_block_lem s) ∙ q))

    asleep_is : words s MODE ≡ 2 → asleep (block_of s) ≡ true
    asleep_is a = eq-eqb (block_of s).mode 2 (ap (λ (w : Words). w MODE) (sym (of_block_lem s)) ∙ a)

pub read_one : (s : List ℕ) → Bytes s → (k : ℕ) (r u : Reading) → Reads s k r → Reads s k u → r ≡ u
read_one s b k r u p q = at (good_image s) refl (is_word k) refl (ℕ_discrete k 32) (e_can (words s)) refl (ℕ_discrete (words s MODE) 2)
  where
    pair : r.refusal ≡ u.refusal → r.value ≡ u.value → r ≡ u
    pair x y = λ i. record { refusal = x i; value = y i }

    alike : {n v : ℕ} → (r.refusal ≡ n) × (r.value ≡ v) → (u.refusal ≡ n) × (u.value ≡ v) → r ≡ u
    alike x y = pair (x.0 ∙ sym y.0) (x.1 ∙ sym y.1)

    at : (t : Bool) → good_image s ≡ t → (n : Bool) → is_word k ≡ n → Dec (k ≡ 32) → (c : Bool) → e_can (words s) ≡ c → Dec (words s MODE ≡ 2) → r ≡ u
    at false g n l e c z a =
        let h : Good s → ⊥ = λ k. false≢true (sym g ∙ rule-good s b k) in
        alike (p.not_good h) (q.not_good h)
    at true g true l e c z (yes a) = let h = good-rule s b g in alike (p.asleep h l a) (q.asleep h l a)
    at true g true l e c z (no a) = let h = good-rule s b g in alike (p.register h l a) (q.register h l a)
    at true g false l (no d) c z a = let h = good-rule s b g in alike (p.unknown h l d) (q.unknown h l d)
    at true g false l (yes e) true z a = let h = good-rule s b g in alike (p.no_gsr h e z) (q.no_gsr h e z)
    at true g false l (yes e) false z (yes a) = let h = good-rule s b g in alike (p.asleep_gsr h e z a) (q.asleep_gsr h e z a)
    at true g false l (yes e) false z (no a) =
        let h = good-rule s b g in
        let x = p.gsr h e z a in
        let y = q.gsr h e z a in
        pair (x.0 ∙ sym y.0) (gsr-one (words s) r.value u.value x.1 y.1)
