-- The rule of a good image is the product's test, both ways.
use Rattle.std.proofs.lemmas.Bool.{and_from}
use Prim.Native.Nat.{ℕ, ◌+◌, ◌-◌, ◌*◌, ◌%◌, ◌^◌, ◌<◌}
use mathlib.Core.Path.{◌≡◌, refl, subst}
use mathlib.Core.Bool.{Bool, true, false, ◌||◌, or-true}
use mathlib.Core.List.{List, [], ◌∷◌}
use native.Mathlib.Omega.{arith}
use lib.Dec.{eqb}
use borrow.Author.Tests.{eqb-true, eq-eqb, le-leb}
use Rattle.bits.specs.Bit.{bit}
use Rattle.bits.specs.Tests.{gap_down}
use Rattle.bits.proofs.Sets.{and_l, and_r}
use Rattle.words.specs.Word.{word_at, words_of}
use Rattle.words.proofs.Bytes.{Bytes}
use Rattle.registers.specs.Block.{block_of}
use Rattle.mailboxes.specs.Mailbox.{ide, word_layout, layout}
use Rattle.good.specs.Good.{good_spare, spare_words, good_mask, good_image}
use Rattle.good.proofs.Image.{image_facts, image-good}
use Rattle.bits.proofs.Tests.{holds}
use Rattle.rules.specs.Words.{words, box, among, LAM, GAM, place}
use Rattle.rules.specs.Image.{Layout, GoodWords, Good}
use Rattle.rules.proofs.GoodWords.{field_bits, bits_field, facts, gap, core}

-- ---- the layout of a mailbox

laid : (s : List ℕ) (n : ℕ) → layout s n ≡ true → Layout s n
unfolding layout
laid s n h =
    let w = box s n 1 in
    let p = and_l (word_layout 0 (box s n 0)) (word_layout 1 w) h in
    let q = and_r (word_layout 0 (box s n 0)) (word_layout 1 w) h in
    record {
      standard = λ z. eqb-true _ _ (rw z at p);
      others = λ i l k. let e : 5 + (i - 5) ≡ i = omega arith in subst (λ (j : ℕ). bit w j ≡ false) e (field_bits w 5 11 (eqb-true _ _ q) (i - 5) (omega arith));
    }

lays : (s : List ℕ) (n : ℕ) → Layout s n → layout s n ≡ true
unfolding layout
lays s n h =
    let w = box s n 1 in
    and_from (word_layout 0 (box s n 0)) (word_layout 1 w) (at (ide (box s n 0)) refl)
    (eq-eqb _ _ (bits_field w 5 11 (λ i l. h.others (5 + i) (omega arith) (omega arith))))
  where
    at : (t : Bool) → ide (box s n 0) ≡ t → (t || eqb (box s n 0 % 2 ^ 18) 0) ≡ true
    at true e = refl
    at false e = eq-eqb _ _ (h.standard e)

-- ---- from the test to the rule

pub good-rule : (s : List ℕ) → Bytes s → good_image s ≡ true → Good s
good-rule s b h =
    let g = image_facts s b h in
    record { size = g.size; layouts = λ n l. laid s n (g.layouts n l); registers = facts s g }

-- ---- from the rule to the test

module _ (s : List ℕ) (b : Bytes s) (h : Good s) where
  abbrev q : GoodWords (words s)
  q = h.registers

  spare_test : good_spare s ≡ true
  unfolding good_spare
  spare_test = holds (spare_words s) (eq-eqb _ _ q.spare.0, (eq-eqb _ _ q.spare.1, (eq-eqb _ _ q.spare.2, (eq-eqb _ _ q.spare.3, tt))))

  mask_test : (n : ℕ) → n < 32 → good_mask s n ≡ true
  mask_test n l =
      let u = le-leb 64 (64 + n) (omega arith) in
      let e : 512 + 4 * place (64 + n) ≡ 640 + 4 * n = rw u (omega arith) in
      let m = q.masks (64 + n) (rw (u, le-leb (64 + n) 95 (omega arith)) (or-true (among (64 + n) (LAM ∷ GAM ∷ [])))) in
      subst (λ (i : ℕ). gap_down (word_at s i) ≡ true) e (eq-eqb _ _ (gap s b h (words s (place (64 + n))) m.0 m.1))

  pub rule-good : good_image s ≡ true
  unfolding block_of words_of
  rule-good =
      image-good s
      (record {
        bytes = b;
        size = h.size;
        layouts = λ n l. lays s n (h.layouts n l);
        spare = spare_test;
        masks = mask_test;
        block = record { core = core s b h; waits = record { least = q.waits; most = q.states.1; reason = q.waits_for } };
      })
