-- Another mask in a good image, and a row of other masks.
use Prim.Native.Nat.{ℕ, zero, suc, ◌+◌, ◌*◌, ◌^◌, ◌<◌, ◌≤◌}
use mathlib.Core.Path.{◌≡◌, refl, sym, ◌∙◌, ap, subst}
use mathlib.Core.Bool.{Bool, true, false}
use mathlib.Core.List.{List}
use mathlib.Core.Logic.{inl, inr}
use native.Mathlib.Decide.{ℕ_discrete}
use native.Mathlib.Omega.{arith}
use lib.Dec.{ltb, lit<}
use lib.ListN.{length, replicate}
use borrow.Author.Tests.{ltb-true, ltb-false}
use Rattle.bits.specs.Tests.{gap_down}
use Rattle.words.specs.Word.{word_at, put_word, put_words}
use Rattle.words.proofs.Laws.{length-put, word_same, word-other}
use Rattle.words.proofs.Rows.{words_same, length-put-words}
use Rattle.words.proofs.Bytes.{bytes-put}
use Rattle.registers.specs.Block.{registers_at, register_words, masks_at, protection_at, profile_at, block_of, of_parts}
use Rattle.mailboxes.specs.Mailbox.{mailboxes, layout}
use Rattle.good.specs.Good.{good_spare, good_mask}
use Rattle.good.proofs.Image.{GoodImage}

module _ (s : List ℕ) (n v : ℕ) (hn : n < mailboxes) where
  abbrev to : ℕ
  to = masks_at + 4 * n

  before : (i : ℕ) → i + 4 ≤ masks_at → word_at (put_word s to v) i ≡ word_at s i
  before i h = word-other s to v i (inl (omega arith))

  after : (i : ℕ) → protection_at ≤ i → word_at (put_word s to v) i ≡ word_at s i
  after i h = word-other s to v i (inr (omega arith))

  -- the register block stays
  pub mask_beside : block_of (put_word s to v) ≡ block_of s
  unfolding block_of
  mask_beside =
      let row = words_same (put_word s to v) s registers_at register_words (λ j i. before (registers_at + 4 * j) (omega arith)) in
      let guard = after protection_at (omega arith) in
      let kind = after profile_at (omega arith) in
      λ i. of_parts (row i) (guard i) (kind i)

  pub mask_kept : GoodImage s → v < 2 ^ 32 → gap_down v ≡ true → GoodImage (put_word s to v)
  unfolding good_spare layout
  mask_kept g small gap =
      record {
        bytes = bytes-put s to v g.bytes;
        size = length-put s to v ∙ g.size;
        layouts =
            λ j h. rw (before (16 * j + 4 * 0) (omega arith), before (16 * j + 4 * 1) (omega arith)) (g.layouts j h);
        spare = rw (before 624 (omega arith), before 628 (omega arith), before 632 (omega arith), before 636 (omega arith)) g.spare;
        masks = λ j h. there j h (ℕ_discrete j n);
        block = rw mask_beside g.block;
      }
    where
      there : (j : ℕ) → j < mailboxes → Dec (j ≡ n) → good_mask (put_word s to v) j ≡ true
      there j h (yes e) = rw (e, word_same s to v (omega (arith, g.size)) small) gap
      there j h (no d) = at (ltb j n) refl
        where
          at : (t : Bool) → ltb j n ≡ t → good_mask (put_word s to v) j ≡ true
          at true e =
              let l = ltb-true j n e in
              rw (word-other s to v (masks_at + 4 * j) (inl (omega arith))) (g.masks j h)
          at false e =
              let l = ltb-false j n e in
              rw (word-other s to v (masks_at + 4 * j) (inr (omega arith))) (g.masks j h)

-- zeros in the place of k masks from mailbox n on
module _ where
  next : (n : ℕ) → masks_at + 4 * n + 4 ≡ masks_at + 4 * suc n
  next n = omega arith

  pub zeros_size : (k n : ℕ) (s : List ℕ) → length (put_words s (masks_at + 4 * n) (replicate k 0)) ≡ length s
  zeros_size k n s = length-put-words s (masks_at + 4 * n) (replicate k 0)

  pub zeros_beside : (k n : ℕ) (s : List ℕ) → n + k ≤ mailboxes → block_of (put_words s (masks_at + 4 * n) (replicate k 0)) ≡ block_of s
  unfolding put_words
  zeros_beside zero n s h = refl
  zeros_beside (suc k) n s h =
      ap (λ (i : ℕ). block_of (put_words (put_word s (masks_at + 4 * n) 0) i (replicate k 0))) (next n)
      ∙ zeros_beside k (suc n) (put_word s (masks_at + 4 * n) 0) (omega arith)
      ∙ mask_beside s n 0 (omega arith)

  pub zeros_kept : (k n : ℕ) (s : List ℕ) → n + k ≤ mailboxes → GoodImage s → GoodImage (put_words s (masks_at + 4 * n) (replicate k 0))
  unfolding put_words
  zeros_kept zero n s h g = g
  zeros_kept (suc k) n s h g =
      subst (λ (i : ℕ). GoodImage (put_words (put_word s (masks_at + 4 * n) 0) i (replicate k 0))) (sym (next n))
      (zeros_kept k (suc n) (put_word s (masks_at + 4 * n) 0) (omega arith) (mask_kept s n 0 (omega arith) g (lit< tt) refl))
