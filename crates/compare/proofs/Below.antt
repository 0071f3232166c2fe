-- The list of the words below a number, as the loops build it, and its bytes.
use Prim.Native.Nat.{ℕ, zero, suc, ◌+◌, ◌*◌, ◌^◌, ◌<◌, ◌≤◌}
use mathlib.Core.Path.{◌≡◌, refl, sym, ◌∙◌, ap, ap₂}
use mathlib.Core.Bool.{Bool, true, false, ◌&&◌}
use mathlib.Core.List.{List, [], ◌∷◌, ◌++◌, append_assoc, append-nil}
use mathlib.Core.Logic.{◌≢◌}
use native.Mathlib.Nat.{add-zero}
use native.Mathlib.Numerals.{add-one}
use native.Mathlib.Omega.{arith}
use lib.Dec.{eqb, leb}
use lib.ListN.{length, length-append}
use borrow.Author.Tests.{eqb-true, eqb-false, eq-eqb, ne_eqb, leb-true, leb-false}
use Rattle.bits.proofs.Sets.{and_l, and_r}
use Rattle.texts.proofs.Parts.{parts_none, parts_one, parts_more, parts_both, parts_length}
use Rattle.compare.specs.declared.Entry.{Entry}
use Rattle.compare.specs.Compare.{image_words, image_word, difference, differences_below, differences, entry_bytes, list_bytes}
use Rattle.compare.specs.Terms.{same, same_two, same_four, one_bytes, bytes_from}

-- ---- one word

module _ (a b : List ℕ) (k : ℕ) {x y : ℕ} (p : x ≡ image_word a k) (q : y ≡ image_word b k) where
  pub word_same : x ≡ y → difference a b k ≡ []
  word_same e = rw (eq-eqb _ _ (sym p ∙ e ∙ q))

  pub word-other : x ≢ y → difference a b k ≡ record { number = k; first = x; second = y } ∷ []
  word-other n =
      let d : image_word a k ≢ image_word b k = λ e. n (p ∙ e ∙ sym q) in
      rw (ne_eqb _ _ d) (ap₂ (λ (u v : ℕ). record { number = k; first = u; second = v } ∷ []) (sym p) (sym q))

-- ---- all below a number

module _ (a b : List ℕ) where
  abbrev below : ℕ → List Entry
  below = differences_below a b

  pub below_next : (k : ℕ) → below (k + 1) ≡ below k ++ difference a b k
  unfolding differences_below
  below_next k = ap (differences_below a b) (add-one k)

  longer : (n : ℕ) → length (below (suc n)) ≡ length (below n) + length (difference a b n)
  unfolding differences_below
  longer n = length-append (below n) (difference a b n)

  pub below_most : (k n : ℕ) → k ≤ n → length (below k) ≤ length (below n)
  below_most k zero h = let e : k ≡ 0 = omega arith in rw e (omega arith)
  below_most k (suc n) h = at (leb k n) refl (below_most k n)
    where
      at : (t : Bool) → leb k n ≡ t → (k ≤ n → length (below k) ≤ length (below n)) → length (below k) ≤ length (below (suc n))
      at true p go = omega (arith, go (leb-true k n p), longer n)
      at false p go = let l = leb-false k n p in let e : k ≡ suc n = omega arith in rw e (omega arith)

  -- a word has one entry at most
  one : (k : ℕ) → length (difference a b k) ≤ 1
  one k = at (eqb (image_word a k) (image_word b k)) refl
    where
      at : (t : Bool) → eqb (image_word a k) (image_word b k) ≡ t → length (difference a b k) ≤ 1
      at true p = rw p (omega arith)
      at false p = rw p (omega arith)

  below_long : (n : ℕ) → length (below n) ≤ n
  unfolding differences_below
  below_long zero = omega arith
  below_long (suc n) = omega (arith, longer n, one n, below_long n)

pub list_most : (a b : List ℕ) → length (differences a b) ≤ image_words
unfolding differences
list_most a b = below_long a b image_words

-- ---- four words at once

-- two words in one number are the same where both are
pub same_double : (x u y v : ℕ) → x < 2 ^ 32 → y < 2 ^ 32 → eqb (x + 4294967296 * u) (y + 4294967296 * v) ≡ (eqb x y && eqb u v)
same_double x u y v p q = at (eqb x y) (eqb u v) refl refl
  where
    at : (s t : Bool) → eqb x y ≡ s → eqb u v ≡ t → eqb (x + 4294967296 * u) (y + 4294967296 * v) ≡ (s && t)
    at true true e f =
        let g : x ≡ y = eqb-true x y e in
        let h : u ≡ v = eqb-true u v f in
        eq-eqb (x + 4294967296 * u) (y + 4294967296 * v) (omega arith)
    at true false e f =
        let g : x ≡ y = eqb-true x y e in
        ne_eqb (x + 4294967296 * u) (y + 4294967296 * v) (λ n. eqb-false u v f (omega arith))
    at false t e f = ne_eqb (x + 4294967296 * u) (y + 4294967296 * v) (λ n. eqb-false x y e (omega arith))

module _ (a b : List ℕ) where
  pass_one : (k : ℕ) → same a b k ≡ true → differences_below a b (k + 1) ≡ differences_below a b k
  pass_one k h = below_next a b k ∙ ap (λ (l : List Entry). differences_below a b k ++ l) (word_same a b k refl refl (eqb-true _ _ h)) ∙ append-nil _

  pass_two : (k : ℕ) → same_two a b k ≡ true → differences_below a b (k + 2) ≡ differences_below a b k
  pass_two k h =
      let e : k + 2 ≡ k + 1 + 1 = omega arith in
      ap (differences_below a b) e ∙ pass_one (k + 1) (and_r (same a b k) (same a b (k + 1)) h) ∙ pass_one k (and_l (same a b k) (same a b (k + 1)) h)

  pub pass_four : (k : ℕ) → same_four a b k ≡ true → differences_below a b (k + 4) ≡ differences_below a b k
  pass_four k h =
      let e : k + 4 ≡ k + 2 + 2 = omega arith in
      ap (differences_below a b) e ∙ pass_two (k + 2) (and_r (same_two a b k) (same_two a b (k + 2)) h) ∙ pass_two k (and_l (same_two a b k) (same_two a b (k + 2)) h)

-- ---- the bytes of a list

pub list_none : list_bytes [] ≡ []
unfolding list_bytes
list_none = parts_none entry_bytes

pub list_one : (e : Entry) → list_bytes (e ∷ []) ≡ entry_bytes e
unfolding list_bytes
list_one = parts_one entry_bytes

pub list_more : (e : Entry) (es : List Entry) → list_bytes (e ∷ es) ≡ entry_bytes e ++ list_bytes es
unfolding list_bytes
list_more = parts_more entry_bytes

pub list_both : (es fs : List Entry) → list_bytes (es ++ fs) ≡ list_bytes es ++ list_bytes fs
unfolding list_bytes
list_both = parts_both entry_bytes

-- 12 an entry
pub length_list : (es : List Entry) → length (list_bytes es) ≡ 12 * length es
unfolding list_bytes
length_list = parts_length entry_bytes 12 (λ e. refl)

module _ (a b : List ℕ) where
  abbrev text : ℕ → List ℕ
  text k = list_bytes (differences_below a b k)

  one_more : (k : ℕ) → text (k + 1) ≡ text k ++ one_bytes a b k
  one_more k = ap list_bytes (below_next a b k) ∙ list_both (differences_below a b k) (difference a b k)

  -- n words more
  pub more : (k n : ℕ) → text (k + n) ≡ text k ++ bytes_from a b k n
  unfolding bytes_from
  more k zero = ap text (add-zero k) ∙ sym (append-nil (text k))
  more k (suc n) =
      let e : k + suc n ≡ k + n + 1 = omega arith in
      ap text e
      ∙ one_more (k + n)
      ∙ ap (λ (l : List ℕ). l ++ one_bytes a b (k + n)) (more k n)
      ∙ append_assoc (text k) (bytes_from a b k n) (one_bytes a b (k + n))

  -- the bytes of one word more
  pub from_next : (k n : ℕ) → bytes_from a b k (n + 1) ≡ bytes_from a b k n ++ one_bytes a b (k + n)
  unfolding bytes_from
  from_next k n = ap (bytes_from a b k) (add-one n)

  -- those of the first words are not longer
  pub from_most : (k m n : ℕ) → m ≤ n → length (bytes_from a b k m) ≤ length (bytes_from a b k n)
  from_most k m n h =
      omega (arith, ap length (more k m) ∙ length-append (text k) (bytes_from a b k m), ap length (more k n) ∙ length-append (text k) (bytes_from a b k n), length_list (differences_below a b (k + m)), length_list (differences_below a b (k + n)), below_most a b (k + m) (k + n) (omega arith))
