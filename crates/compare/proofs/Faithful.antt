-- The list is faithful: exactly what differs, in rising order; applied to the first image it yields the second; no other list does; and its
-- bytes, read back, are its entries.
use Prim.Native.Nat.{ℕ, zero, suc, ◌+◌, ◌*◌, ◌^◌, ◌<◌, ◌≤◌}
use mathlib.Core.Path.{◌≡◌, refl, sym, ◌∙◌, ap, ap₂, subst}
use mathlib.Core.Bool.{Bool, true, false}
use mathlib.Core.List.{List, [], ◌∷◌, ◌++◌, append-nil}
use mathlib.Core.Logic.{◌⊎◌, inl, inr, ⊎_elim, ◌≢◌}
use native.Mathlib.Nat.{add-zero}
use native.Mathlib.Omega.{arith}
use lib.Dec.{eqb, ltb}
use lib.ListN.{length, get_or}
use lib.Seq.{get_or-append-add}
use borrow.Author.Count.{below_more}
use borrow.Author.Tests.{eqb-true, eqb-false, ltb-true, ltb-false}
use Rattle.words.specs.Bytes.{Bytes}
use Rattle.words.specs.Word.{word_at}
use Rattle.words.proofs.Laws.{length-put, word_same, word-other, word_by_bytes, bytes_of}
use Rattle.words.proofs.Bytes.{bytes-put, word_lt}
use Rattle.registers.specs.Block.{image_bytes}
use Rattle.compare.specs.declared.Entry.{Entry}
use Rattle.compare.specs.Compare.{image_words, image_word, difference, differences_below, differences, entry_size, entry_bytes, list_bytes}
use Rattle.compare.specs.Faithful.{IsListed, Change, Changes, changed, applied, Holds, Faithful}
use Rattle.compare.proofs.Words.{same-words}
use Rattle.compare.proofs.Below.{word_same as same_None, word-other as other_one, list_both, list_more, length_list}

-- ---- one word of two images

abbrev entry : List ℕ → List ℕ → ℕ → Entry
entry a b k = record { number = k; first = image_word a k; second = image_word b k }

module _ (a b : List ℕ) (k : ℕ) where
  -- a word of two images is the same, and has no entry, or it differs, and has one
  either : (P : List Entry → Type 0) → (image_word a k ≡ image_word b k → P []) → (image_word a k ≢ image_word b k → P (entry a b k ∷ [])) → P (difference a b k)
  either P f g = at (eqb (image_word a k) (image_word b k)) refl
    where
      at : (t : Bool) → eqb (image_word a k) (image_word b k) ≡ t → P (difference a b k)
      at true e = let s = eqb-true _ _ e in subst P (sym (same_None a b k refl refl s)) (f s)
      at false e = let d = eqb-false _ _ e in subst P (sym (other_one a b k refl refl d)) (g d)

-- ---- an entry is listed exactly where the images differ

listed-left : (e : Entry) (es fs : List Entry) → IsListed e es → IsListed e (es ++ fs)
listed-left e [] fs h = absurd h
listed-left e (d ∷ es) fs (inl p) = inl p
listed-left e (d ∷ es) fs (inr h) = inr (listed-left e es fs h)

listed_right : (e : Entry) (es fs : List Entry) → IsListed e fs → IsListed e (es ++ fs)
listed_right e [] fs h = h
listed_right e (d ∷ es) fs h = inr (listed_right e es fs h)

listed_either : (e : Entry) (es fs : List Entry) → IsListed e (es ++ fs) → IsListed e es ⊎ IsListed e fs
listed_either e [] fs h = inr h
listed_either e (d ∷ es) fs (inl p) = inl (inl p)
listed_either e (d ∷ es) fs (inr h) = ⊎_elim (λ g. inl (inr g)) (λ g. inr g) (listed_either e es fs h)

module _ (a b : List ℕ) where
  -- as Differs says it, for the words below n
  abbrev Below : ℕ → Entry → Type 0
  Below n e = (e.number < n) × (e.first ≡ image_word a e.number) × (e.second ≡ image_word b e.number) × (e.first ≢ e.second)

  one_told : (k : ℕ) (e : Entry) → IsListed e (difference a b k) → Below (suc k) e
  one_told k e = either a b k (λ l. IsListed e l → Below (suc k) e) (λ s h. absurd h)
      (λ d h. ⊎_elim
      (λ p.
      let n : e.number ≡ k = ap (λ (x : Entry). x.number) p in
      let f : e.first ≡ image_word a k = ap (λ (x : Entry). x.first) p in
      let g : e.second ≡ image_word b k = ap (λ (x : Entry). x.second) p in
      (omega arith, f ∙ ap (image_word a) (sym n), g ∙ ap (image_word b) (sym n), λ q. d (sym f ∙ q ∙ g)))
      (λ h. absurd h) h)

  told_below : (n : ℕ) (e : Entry) → IsListed e (differences_below a b n) → Below n e
  unfolding differences_below
  told_below zero e h = absurd h
  told_below (suc n) e h =
      ⊎_elim (λ g. let t = told_below n e g in let l = t.0 in (omega arith, t.1, t.2, t.3)) (one_told n e)
      (listed_either e (differences_below a b n) (difference a b n) h)

  one-listed : (k : ℕ) (e : Entry) → e.number ≡ k → e.first ≡ image_word a k → e.second ≡ image_word b k → e.first ≢ e.second → IsListed e (difference a b k)
  one-listed k e n f g d =
      either a b k (IsListed e) (λ s. absurd (d (f ∙ s ∙ sym g))) (λ w. inl (λ i. record { number = n i; first = f i; second = g i }))

  below_told : (n : ℕ) (e : Entry) → Below n e → IsListed e (differences_below a b n)
  unfolding differences_below
  below_told zero e h = let l = h.0 in absurd (omega arith)
  below_told (suc n) e h = at (ltb e.number n) refl (below_told n e)
    where
      at : (t : Bool) → ltb e.number n ≡ t → (Below n e → IsListed e (differences_below a b n)) → IsListed e (differences_below a b n ++ difference a b n)
      at true p go = listed-left e (differences_below a b n) (difference a b n) (go (ltb-true _ _ p, h.1, h.2, h.3))
      at false p go =
          let l = h.0 in
          let m = ltb-false e.number n p in
          let k : e.number ≡ n = omega arith in
          listed_right e (differences_below a b n) (difference a b n) (one-listed n e k (h.1 ∙ ap (image_word a) k) (h.2 ∙ ap (image_word b) k) h.3)

-- ---- numbers rise, and nothing equal is listed

module _ (a : List ℕ) where
  lower : (j k n : ℕ) (es : List Entry) → j ≤ k → Changes a k n es → Changes a j n es
  lower j k n [] l c = tt
  lower j k n (e ∷ es) l c = let m = c.0 in (omega arith, c.1, c.2, c.3)

  changes_both : (k m n : ℕ) (es fs : List Entry) → k ≤ m → m ≤ n → Changes a k m es → Changes a m n fs → Changes a k n (es ++ fs)
  changes_both k m n [] fs l o c d = lower k m n fs l d
  changes_both k m n (e ∷ es) fs l o c d = let p = c.1 in (c.0, omega arith, c.2, changes_both (e.number + 1) m n es fs (omega arith) o c.3 d)

  -- no word lies from k on and below k
  none : (k n : ℕ) (es : List Entry) → n ≤ k → Changes a k n es → es ≡ []
  none k n [] l c = refl
  none k n (e ∷ es) l c = let p = c.0 in let q = c.1 in absurd (omega arith)

  rising : (b : List ℕ) → Bytes b → (n : ℕ) → Changes a 0 n (differences_below a b n)
  unfolding differences_below
  rising b q zero = tt
  rising b q (suc n) =
      changes_both 0 n (suc n) (differences_below a b n) (difference a b n) (omega arith) (omega arith) (rising b q n)
      (either a b n (Changes a n (suc n)) (λ s. tt) (λ d. (omega arith, omega arith, record { was = refl; word = word_lt b q (4 * n); other = d }, tt)))

-- ---- a list applied

applied_both : (s : List ℕ) (es fs : List Entry) → applied s (es ++ fs) ≡ applied (applied s es) fs
unfolding applied
applied_both s [] fs = refl
applied_both s (e ∷ es) fs = applied_both (changed s e) es fs

applied-one : (s : List ℕ) (e : Entry) → applied s (e ∷ []) ≡ changed s e
unfolding applied
applied-one s e = refl

applied-none : (s : List ℕ) → applied s [] ≡ s
unfolding applied
applied-none s = refl

length-applied : (s : List ℕ) (es : List Entry) → length (applied s es) ≡ length s
unfolding applied
length-applied s [] = refl
length-applied s (e ∷ es) = length-applied (changed s e) es ∙ length-put s (4 * e.number) e.second

bytes-applied : (s : List ℕ) (es : List Entry) → Bytes s → Bytes (applied s es)
unfolding applied
bytes-applied s [] h = h
bytes-applied s (e ∷ es) h = bytes-applied (changed s e) es (bytes-put s (4 * e.number) e.second h)

-- words that are not named stay
untouched : (a : List ℕ) (k n : ℕ) (es : List Entry) → Changes a k n es → (s : List ℕ) (i : ℕ) → (i < k) ⊎ (n ≤ i) → image_word (applied s es) i ≡ image_word s i
unfolding applied
untouched a k n [] c s i o = refl
untouched a k n (e ∷ es) c s i (inl l) =
    let m = c.0 in
    untouched a (e.number + 1) n es c.3 (changed s e) i (inl (omega arith)) ∙ word-other s (4 * e.number) e.second (4 * i) (inl (omega arith))
untouched a k n (e ∷ es) c s i (inr l) =
    let m = c.1 in
    untouched a (e.number + 1) n es c.3 (changed s e) i (inr l) ∙ word-other s (4 * e.number) e.second (4 * i) (inr (omega arith))

module _ (a b : List ℕ) (p : Bytes a) (q : Bytes b) (long : length a ≡ image_bytes) (sized : length b ≡ image_bytes) where
  -- the first image, changed in the words below n
  abbrev halfway : ℕ → List ℕ
  halfway n = applied a (differences_below a b n)

  -- one word more
  next : (n : ℕ) → n < image_words → ((i : ℕ) → i < n → image_word (halfway n) i ≡ image_word b i) → (i : ℕ) → i < suc n → image_word (halfway (suc n)) i ≡ image_word b i
  unfolding differences_below
  next n l h i m =
      ap (λ (x : List ℕ). image_word x i) (applied_both a (differences_below a b n) (difference a b n))
      ∙ below_more (λ i. image_word (applied (halfway n) (difference a b n)) i ≡ image_word b i) n
      (λ i o.
      either a b n (λ d. image_word (applied (halfway n) d) i ≡ image_word b i)
      (λ s. ap (λ (x : List ℕ). image_word x i) (applied-none (halfway n)) ∙ h i o)
      (λ d. ap (λ (x : List ℕ). image_word x i) (applied-one (halfway n) (entry a b n)) ∙ word-other (halfway n) (4 * n) (image_word b n) (4 * i) (inl (omega arith)) ∙ h i o))
      (either a b n (λ d. image_word (applied (halfway n) d) n ≡ image_word b n)
      (λ s. ap (λ (x : List ℕ). image_word x n) (applied-none (halfway n)) ∙ untouched a 0 n (differences_below a b n) (rising a b q n) a n (inr (omega arith)) ∙ s)
      (λ d. ap (λ (x : List ℕ). image_word x n) (applied-one (halfway n) (entry a b n)) ∙ word_same (halfway n) (4 * n) (image_word b n) (omega (arith, length-applied a (differences_below a b n))) (word_lt b q (4 * n))))
      i (omega arith)

  -- the words below n are those of the second image
  yield_below : (n : ℕ) → n ≤ image_words → (i : ℕ) → i < n → image_word (halfway n) i ≡ image_word b i
  yield_below zero l i h = absurd (omega arith)
  yield_below (suc n) l i h = next n (omega arith) (yield_below n (omega arith)) i h

  yielded : applied a (differences a b) ≡ b
  unfolding differences
  yielded = same-words (halfway image_words) b (bytes-applied a (differences_below a b image_words) p) q (length-applied a (differences_below a b image_words) ∙ long) sized (yield_below image_words (omega arith))

-- ---- no other list does that

-- the list names word n last, behind a list of words below n
record Last (a : List ℕ) (k n : ℕ) (es : List Entry) : Type 0 where
  pub front : List Entry
  pub last : Entry
  pub joined : es ≡ front ++ (last ∷ [])
  pub at : last.number ≡ n
  pub from : k ≤ n
  pub change : Change a last
  pub others : Changes a k n front

-- or it does not name word n
split : (a : List ℕ) (n k : ℕ) (es : List Entry) → Changes a k (suc n) es → Changes a k n es ⊎ Last a k n es
split a n k [] c = inl tt
split a n k (e ∷ es) c = ⊎_elim (λ r. at (ltb e.number n) refl r) behind (split a n (e.number + 1) es c.3)
  where
    at : (t : Bool) → ltb e.number n ≡ t → Changes a (e.number + 1) n es → Changes a k n (e ∷ es) ⊎ Last a k n (e ∷ es)
    at true p r = inl (c.0, ltb-true e.number n p, c.2, r)
    at false p r =
        let l = ltb-false e.number n p in
        let m = c.0 in
        let o = c.1 in
        inr (record {
          front = [];
          last = e;
          joined = ap (λ (l : List Entry). e ∷ l) (none a (e.number + 1) n es (omega arith) r);
          at = omega arith;
          from = omega arith;
          change = c.2;
          others = tt;
        })

    behind : Last a (e.number + 1) n es → Changes a k n (e ∷ es) ⊎ Last a k n (e ∷ es)
    behind l =
        let m = c.0 in
        let o = l.from in
        inr (record {
          front = e ∷ l.front;
          last = l.last;
          joined = ap (λ (x : List Entry). e ∷ x) l.joined;
          at = l.at;
          from = omega arith;
          change = l.change;
          others = (c.0, omega arith, c.2, l.others);
        })

module _ (a b : List ℕ) (long : length a ≡ image_bytes) where
  -- a list whose words below n are those of b
  abbrev Makes : ℕ → List Entry → Type 0
  Makes n es = (i : ℕ) → i < n → image_word (applied a es) i ≡ image_word b i

  -- word n is not named, so it is the same in both
  unnamed : (n : ℕ) (es : List Entry) → Changes a 0 n es → Makes (suc n) es → (Makes n es → es ≡ differences_below a b n) → es ≡ differences_below a b (suc n)
  unfolding differences_below
  unnamed n es c h go =
      let s = sym (untouched a 0 n es c a n (inr (omega arith))) ∙ h n (omega arith) in
      go (λ i l. h i (omega arith))
      ∙ sym (append-nil (differences_below a b n))
      ∙ ap (λ (d : List Entry). differences_below a b n ++ d) (sym (same_None a b n refl refl s))

  -- it is named, so it differs
  named : (n : ℕ) (es : List Entry) → n < image_words → (l : Last a 0 n es) → Makes (suc n) es → (Makes n l.front → l.front ≡ differences_below a b n)
      → es ≡ differences_below a b (suc n)
  unfolding differences_below
  named n es o l h go =
      let e = l.last in
      let x = applied a l.front in
      let k : e.number ≡ n = l.at in
      let made : applied a es ≡ changed x e = ap (applied a) l.joined ∙ applied_both a l.front (e ∷ []) ∙ applied-one x e in
      let first : e.first ≡ image_word a n = l.change.was ∙ ap (image_word a) k in
      let second : e.second ≡ image_word b n =
      sym (word_same x (4 * e.number) e.second (omega (arith, length-applied a l.front)) l.change.word)
      ∙ ap (image_word (changed x e)) k
      ∙ sym (ap (λ (y : List ℕ). image_word y n) made)
      ∙ h n (omega arith) in
      let before = go (λ i m. sym (word-other x (4 * e.number) e.second (4 * i) (inl (omega arith))) ∙ sym (ap (λ (y : List ℕ). image_word y i) made) ∙ h i (omega arith)) in
      let this : e ≡ entry a b n = λ i. record { number = k i; first = first i; second = second i } in
      l.joined
      ∙ ap₂ (λ (f : List Entry) (d : Entry). f ++ (d ∷ [])) before this
      ∙ ap (λ (d : List Entry). differences_below a b n ++ d) (sym (other_one a b n refl refl (λ u. l.change.other (first ∙ u ∙ sym second))))

  only_below : (n : ℕ) → n ≤ image_words → (es : List Entry) → Changes a 0 n es → Makes n es → es ≡ differences_below a b n
  unfolding differences_below
  only_below zero m es c h = none a 0 0 es (omega arith) c
  only_below (suc n) m es c h =
      ⊎_elim (λ r. unnamed n es r h (only_below n (omega arith) es r)) (λ l. named n es (omega arith) l h (only_below n (omega arith) l.front l.others))
      (split a n 0 es c)

-- ---- the bytes, read back

word-behind : (p q : List ℕ) (j : ℕ) → word_at (p ++ q) (length p + j) ≡ word_at q j
word-behind p q j =
    word_by_bytes (p ++ q) q (length p + j) j
    (λ k l. let e : length p + j + k ≡ length p + (j + k) = omega arith in ap (λ (i : ℕ). get_or (p ++ q) i 0) e ∙ get_or-append-add p q (j + k) 0)

module _ (e : Entry) (m : e.number < 2 ^ 32) (f : e.first < 2 ^ 32) (g : e.second < 2 ^ 32) where
  -- at the front of bytes
  at_once : (t : List ℕ) → Holds (entry_bytes e ++ t) 0 e
  unfolding word_at
  at_once t = (bytes_of e.number m, bytes_of e.first f, bytes_of e.second g)

  -- behind others
  held : (ds es : List Entry) → Holds (list_bytes (ds ++ (e ∷ es))) (entry_size * length ds) e
  held ds es = (ap (word_at (list_bytes (ds ++ (e ∷ es)))) (sym (add-zero (entry_size * length ds))) ∙ at 0 ∙ (at_once (list_bytes es)).0, at 4 ∙ (at_once (list_bytes es)).1, at 8 ∙ (at_once (list_bytes es)).2)
    where
      at : (j : ℕ) → word_at (list_bytes (ds ++ (e ∷ es))) (entry_size * length ds + j) ≡ word_at (entry_bytes e ++ list_bytes es) j
      at j =
          ap₂ word_at (list_both ds (e ∷ es) ∙ ap (λ (t : List ℕ). list_bytes ds ++ t) (list_more e es)) (ap (λ (n : ℕ). n + j) (sym (length_list ds)))
          ∙ word-behind (list_bytes ds) (entry_bytes e ++ list_bytes es) j

-- ---- all of it

pub faithful : Faithful
unfolding differences
faithful =
    record {
      listed = λ a b e. (told_below a b image_words e, below_told a b image_words e);
      rises = λ a b q. rising a b q image_words;
      yields = yielded;
      bytes = λ ds es e m f g. held e m f g ds es;
      only = λ a b l es c h. only_below a b l image_words (omega arith) es c (λ i o. ap (λ (x : List ℕ). image_word x i) h);
    }
