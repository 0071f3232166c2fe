-- The words of a block, and those of an image.
use Prim.Native.Nat.{ℕ, zero, suc, ◌+◌, ◌*◌, ◌/◌, ◌%◌, ◌<◌, ◌≤◌}
use mathlib.Core.Path.{◌≡◌, refl, sym, ◌∙◌, ap, subst}
use mathlib.Core.Bool.{Bool, true, false, cond, false≢true}
use mathlib.Core.List.{List, [], ◌∷◌, ◌++◌}
use mathlib.Core.Logic.{◌≢◌}
use native.Mathlib.Decide.{dec_lt, ℕ_discrete}
use native.Mathlib.Omega.{arith}
use lib.Dec.{eqb, ltb}
use lib.ListN.{get_or, length, drop, get_or-append}
use lib.Seq.{ext_get_or}
use borrow.Author.Tests.{eqb-true, ltb-true, ltb-false, lt-ltb, le-ltb, ne_eqb}
use Rattle.words.specs.Word.{words_of}
use Rattle.words.proofs.Rows.{length-words, word_of}
use Rattle.words.proofs.Bytes.{Bytes}
use Rattle.registers.specs.declared.Block.{Block}
use Rattle.registers.specs.Block.{block_of, put_block, last_words, to_words}
use Rattle.registers.proofs.Laws.{Small, spare-stays, past_stays, block_back}
use Rattle.mailboxes.proofs.Spliced.{byte_of, word_byte, from}
use Rattle.rules.specs.Words.{Words, words, byte, among, Only, PROTECTION, PROFILE}

-- the words of an image, by its block and by the words that are not of the block
abbrev pub of_block : Words → Block → Words
of_block m b k = cond (ltb k 28) (get_or (to_words b) k 0) (cond (eqb k PROTECTION) b.protection (cond (eqb k PROFILE) b.profile (m k)))

-- a statement of a word, by where it stands
pub word_cases : (P : ℕ → Type 0) → ((k : ℕ) → k < 28 → P k) → P PROTECTION → P PROFILE
    → ((k : ℕ) → 28 ≤ k → k ≢ PROTECTION → k ≢ PROFILE → P k) → (k : ℕ) → P k
word_cases P low guard kind other k = at (ltb k 28) refl (ℕ_discrete k PROTECTION) (ℕ_discrete k PROFILE)
  where
    at : (t : Bool) → ltb k 28 ≡ t → Dec (k ≡ PROTECTION) → Dec (k ≡ PROFILE) → P k
    at true p d e = low k (ltb-true k 28 p)
    at false p (yes q) e = subst P (sym q) guard
    at false p (no d) (yes q) = subst P (sym q) kind
    at false p (no d) (no e) = other k (ltb-false k 28 p) d e

module _ (m : Words) (b : Block) where
  pub of_low : (k : ℕ) → k < 28 → of_block m b k ≡ get_or (to_words b) k 0
  of_low k h = rw (lt-ltb k 28 h)

  pub of_other : (k : ℕ) → 28 ≤ k → k ≢ PROTECTION → k ≢ PROFILE → of_block m b k ≡ m k
  of_other k h p q = rw (le-ltb k 28 h, ne_eqb k PROTECTION p, ne_eqb k PROFILE q)

-- ---- words that stay

-- the old words, with new ones at the numbers where the test holds
abbrev pub patched : (ℕ → Bool) → List ℕ → List ℕ → List ℕ
patched p new [] = []
patched p new (a ∷ old) = cond (p 0) (get_or new 0 0) a ∷ patched (λ k. p (suc k)) (drop 1 new) old

old-word : (p : ℕ → Bool) (new old : List ℕ) (k : ℕ) → p k ≡ false → get_or (patched p new old) k 0 ≡ get_or old k 0
old-word p new [] k e = refl
old-word p new (a ∷ old) zero e = rw e
old-word p new (a ∷ old) (suc k) e = old-word (λ n. p (suc n)) (drop 1 new) old k e

-- which word of the image word j of the block is
abbrev pub number_of : ℕ → ℕ
number_of j = cond (ltb j 28) j (j + 36)

-- the new words are the old ones but for those listed
pub only : (l : List ℕ) (m : Words) (y x : Block) → to_words x ≡ patched (λ j. among (number_of j) l) (to_words x) (to_words y)
    → Only l (of_block m y) (of_block m x)
only l m y x e = word_cases (λ k. among k l ≡ false → of_block m x k ≡ of_block m y k) low (old 28) (old 29) other
  where
    old : (j : ℕ) → among (number_of j) l ≡ false → get_or (to_words x) j 0 ≡ get_or (to_words y) j 0
    old j h = ap (λ (w : List ℕ). get_or w j 0) e ∙ old-word (λ j. among (number_of j) l) (to_words x) (to_words y) j h

    low : (k : ℕ) → k < 28 → among k l ≡ false → of_block m x k ≡ of_block m y k
    low k h n = of_low m x k h ∙ old k (rw (lt-ltb k 28 h) n) ∙ sym (of_low m y k h)

    other : (k : ℕ) → 28 ≤ k → k ≢ PROTECTION → k ≢ PROFILE → among k l ≡ false → of_block m x k ≡ of_block m y k
    other k h p q n = of_other m x k h p q ∙ sym (of_other m y k h p q)

pub still : (l : List ℕ) (m : Words) (y x : Block) → x ≡ y → Only l (of_block m y) (of_block m x)
still l m y x e k h = ap (λ (b : Block). of_block m b k) e

-- ---- the words of an image by its own block, and by a block that was put

module _ (s : List ℕ) where
  row : to_words (block_of s) ≡ words_of s 512 28 ++ last_words (block_of s)
  unfolding block_of words_of
  row = refl

  low_word : (k : ℕ) → k < 28 → words s k ≡ get_or (to_words (block_of s)) k 0
  low_word k h =
      let l = length-words s 512 28 in
      sym (word_of s 512 28 k h)
      ∙ sym (get_or-append (words_of s 512 28) (last_words (block_of s)) 0 k (omega arith))
      ∙ ap (λ (l : List ℕ). get_or l k 0) (sym row)

  pub of_block_lem : words s ≡ of_block (words s) (block_of s)
  unfolding block_of
  of_block_lem =
      let same : (k : ℕ) → words s k ≡ of_block (words s) (block_of s) k =
      word_cases (λ k. words s k ≡ of_block (words s) (block_of s) k)
      (λ k h. low_word k h ∙ sym (of_low (words s) (block_of s) k h)) refl refl
      (λ k h p q. sym (of_other (words s) (block_of s) k h p q)) in
      λ i k. same k i

-- the words that are not of the block stay
module _ (s : List ℕ) (b : Block) where
  beside_stays : (k : ℕ) → 28 ≤ k → k ≢ PROTECTION → k ≢ PROFILE → words (put_block s b) k ≡ words s k
  beside_stays k h p q = at (dec_lt k 64)
    where
      at : Dec (k < 64) → words (put_block s b) k ≡ words s k
      at (yes l) = spare-stays s b k h l
      at (no l) = past_stays s b (512 + 4 * k) (omega arith)

  pub put-words : length s ≡ 776 → Small b → words (put_block s b) ≡ of_block (words s) b
  put-words h fit =
      let x = put_block s b in
      let e = block_back s b h fit in
      let same : (k : ℕ) → words x k ≡ of_block (words s) b k =
      word_cases (λ k. words x k ≡ of_block (words s) b k)
      (λ k l. ap (λ (w : Words). w k) (of_block_lem x) ∙ of_low (words x) (block_of x) k l ∙ ap (λ (c : Block). get_or (to_words c) k 0) e ∙ sym (of_low (words s) b k l))
      (ap (λ (w : Words). w PROTECTION) (of_block_lem x) ∙ ap (λ (c : Block). c.protection) e)
      (ap (λ (w : Words). w PROFILE) (of_block_lem x) ∙ ap (λ (c : Block). c.profile) e)
      (λ k l p q. beside_stays k l p q ∙ sym (of_other (words s) b k l p q)) in
      λ i k. same k i

-- ---- an image by its mailbox bytes and its words

pub image_by : (x y : List ℕ) → length x ≡ 776 → length y ≡ 776 → Bytes x → Bytes y
    → ((i : ℕ) → i < 512 → byte x i ≡ byte y i) → ((k : ℕ) → words x k ≡ words y k) → x ≡ y
image_by x y lx ly bx by boxes regs =
    ext_get_or 0 x y (lx ∙ sym ly)
    (λ i h. from (λ i. i < 776 → byte x i ≡ byte y i) 512 (λ i l q. boxes i l) high i (omega arith))
  where
    high : (i : ℕ) → 512 + i < 776 → byte x (512 + i) ≡ byte y (512 + i)
    high i q =
        let e : 512 + 4 * (i / 4) + i % 4 ≡ 512 + i = omega arith in
        let l : i % 4 < 4 = omega arith in
        subst (λ (j : ℕ). byte x j ≡ byte y j) e
        (sym (word_byte x (512 + 4 * (i / 4)) (i % 4) bx l) ∙ ap (λ (w : ℕ). byte_of w (i % 4)) (regs (i / 4)) ∙ word_byte y (512 + 4 * (i / 4)) (i % 4) by l)

-- ---- a statement of every word, by those listed and the others

abbrev pub All : (ℕ → Type 0) → List ℕ → Type 0
All P [] = Unit
All P (a ∷ l) = P a × All P l

pub among-all : (P : ℕ → Type 0) (l : List ℕ) → All P l → (k : ℕ) → among k l ≡ true → P k
among-all P [] h k e = absurd (false≢true e)
among-all P (a ∷ l) h k e = at (among-all P l h.1 k) (eqb k a) refl
  where
    at : (among k l ≡ true → P k) → (t : Bool) → eqb k a ≡ t → P k
    at r true q = subst P (sym (eqb-true k a q)) h.0
    at r false q = r (rw q at e)

pub every-word : (P : ℕ → Type 0) (l : List ℕ) → All P l → ((k : ℕ) → among k l ≡ false → P k) → (k : ℕ) → P k
every-word P l h o k = at (among k l) refl
  where
    at : (t : Bool) → among k l ≡ t → P k
    at true e = among-all P l h k e
    at false e = o k e
