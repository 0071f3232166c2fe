-- Images that have the same words are the same.
use Prim.Native.Nat.{ℕ, ◌+◌, ◌*◌, ◌/◌, ◌%◌, ◌<◌}
use mathlib.Core.Path.{◌≡◌, sym, ◌∙◌, ap, subst}
use mathlib.Core.List.{List}
use native.Mathlib.Omega.{arith}
use lib.ListN.{get_or, length}
use lib.Seq.{ext_get_or}
use Rattle.words.specs.Bytes.{Bytes}
use Rattle.registers.specs.Block.{image_bytes}
use Rattle.mailboxes.proofs.Spliced.{byte_of, word_byte}
use Rattle.compare.specs.Compare.{image_words, image_word}

module _ (x y : List ℕ) (p : Bytes x) (q : Bytes y) where
  same_byte : (i : ℕ) → image_word x (i / 4) ≡ image_word y (i / 4) → get_or x i 0 ≡ get_or y i 0
  same_byte i h =
      let e : 4 * (i / 4) + i % 4 ≡ i = omega arith in
      subst (λ (j : ℕ). get_or x j 0 ≡ get_or y j 0) e
      (sym (word_byte x (4 * (i / 4)) (i % 4) p (omega arith)) ∙ ap (λ (w : ℕ). byte_of w (i % 4)) h ∙ word_byte y (4 * (i / 4)) (i % 4) q (omega arith))

  pub same-words : length x ≡ image_bytes → length y ≡ image_bytes → ((k : ℕ) → k < image_words → image_word x k ≡ image_word y k) → x ≡ y
  same-words a b h = ext_get_or 0 x y (a ∙ sym b) (λ i l. same_byte i (h (i / 4) (omega arith)))
