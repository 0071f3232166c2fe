-- The state bytes tell where a stream stands, and those that a call takes are those of such a standing.
use Prim.Native.Nat.{ℕ, zero, suc, ◌+◌, ◌-◌, ◌*◌, ◌<◌, ◌≤◌}
use mathlib.Core.Path.{◌≡◌, refl, sym, ◌∙◌, ap}
use mathlib.Core.Bool.{Bool, true, false, cond, ◌||◌, false≢true}
use mathlib.Core.List.{List, [], ◌∷◌, ◌++◌}
use mathlib.Core.Logic.{◌≢◌}
use native.Mathlib.Omega.{arith}
use lib.Dec.{eqb, ltb, leb}
use lib.ListN.{length, take, drop, get_or, replicate, length-append, length-drop, length-replicate, get_or-append}
use lib.Seq.{take-append_seam, drop-append_seam, length-take-le, get_or-take, get_or-drop, drop-drop}
use borrow.Author.Tests.{eqb-true, eqb-false, eq-eqb, ne_eqb, ltb-true, lt-ltb, leb-true, le-leb}
use Rattle.bits.specs.Tests.{every}
use Rattle.bits.proofs.Tests.{All, all, holds}
use Rattle.words.specs.Word.{word_at}
use Rattle.words.proofs.Bytes.{Bytes, bytes_take, bytes_drop}
use Rattle.words.proofs.Laws.{bytes_of}
use Rattle.trace.specs.Trace.{takes}
use Rattle.stream.specs.Stream.{Standing, at, behind, over}
use Rattle.stream.specs.Calls.{state_of, standing, seen, known, whole, all_zero, ranges, ready}
use Rattle.stream.specs.Terms.{Ready}
use Rattle.stream.proofs.Ready.{whole-most, gathered-few, steps-few}

-- ---- from a standing to its bytes

module _ (σ : Standing) (d : Ready σ) where
  abbrev g : List ℕ
  g = σ.gathered

  abbrev t : List ℕ
  t = state_of σ

  abbrev zeros : List ℕ
  zeros = replicate (16 - length g) 0

  pub length-state : length t ≡ 32
  unfolding state_of
  length-state = omega (arith, length-append g zeros, length-replicate {A = ℕ} (16 - length g) 0, gathered-few σ d)

  pub section_back : word_at t 0 ≡ σ.section
  unfolding state_of word_at
  section_back = bytes_of σ.section (omega (arith, d.last))

  left_back : word_at t 4 ≡ σ.left
  unfolding state_of word_at
  left_back = bytes_of σ.left (omega (arith, d.few))

  steps_back : word_at t 8 ≡ σ.steps
  unfolding state_of word_at
  steps_back = bytes_of σ.steps (omega (arith, steps-few σ d))

  seen_back : seen t ≡ length g
  unfolding state_of word_at
  seen_back = bytes_of (length g) (omega (arith, gathered-few σ d))

  gathered_back : take (seen t) (drop 16 t) ≡ g
  unfolding state_of
  gathered_back = ap (λ (n : ℕ). take n (g ++ zeros)) seen_back ∙ take-append_seam g zeros

  pub standing_back : standing σ.image (state_of σ) ≡ σ
  unfolding standing
  standing_back = λ i. at (section_back i) (left_back i) (steps_back i) (gathered_back i) σ.image

  -- ---- the bytes of a stream that is not over are taken

  first_back : 0 < length g → get_or t 16 0 ≡ get_or g 0 0
  unfolding state_of
  first_back h = get_or-append g zeros 0 0 h

  zeros_back : drop (16 + seen t) t ≡ zeros
  unfolding state_of
  zeros_back =
      ap (λ (n : ℕ). drop (16 + n) t) seen_back
      ∙ sym (drop-drop (length g) 16 t)
      ∙ drop-append_seam g zeros

all-zero : (n : ℕ) → all_zero (replicate n 0) ≡ true
unfolding all_zero
all-zero zero = refl
all-zero (suc n) = all-zero n

-- the tests of the ranges, by numbers
abbrev asked : ℕ → ℕ → ℕ → ℕ → ℕ → List ℕ → List Bool
asked k l n m x z =
    leb 1 k
    ∷ leb k behind
    ∷ leb l (cond (eqb k behind) 0 1000)
    ∷ leb (n + l) (1000 * known k l)
    ∷ ltb m (whole k l)
    ∷ (eqb l 0 || (eqb m 0 || takes k x))
    ∷ all_zero z
    ∷ []

module _ (σ : Standing) (d : Ready σ) (going : σ.section ≢ over) where
  few-left : leb σ.left (cond (eqb σ.section behind) 0 1000) ≡ true
  few-left = to (eqb σ.section behind) refl (eqb σ.left 0) refl
    where
      to : (a : Bool) → eqb σ.section behind ≡ a → (b : Bool) → eqb σ.left 0 ≡ b → leb σ.left (cond a 0 1000) ≡ true
      to false e b f = le-leb σ.left 1000 d.few
      to true e true f = let z = eqb-true σ.left 0 f in le-leb σ.left 0 (omega arith)
      to true e false f =
          let z = eqb-false σ.left 0 f in
          absurd (omega (arith, eqb-true σ.section behind e, (d.running (omega arith)).0))

  few-steps : leb (σ.steps + σ.left) (1000 * known σ.section σ.left) ≡ true
  few-steps = to (eqb σ.left 0) refl
    where
      to : (a : Bool) → eqb σ.left 0 ≡ a → leb (σ.steps + σ.left) (1000 * cond a (σ.section - 1) σ.section) ≡ true
      to true e =
          let z = eqb-true σ.left 0 e in
          le-leb (σ.steps + σ.left) (1000 * (σ.section - 1)) (omega (arith, d.counting z (omega (arith, going, d.last))))
      to false e =
          let z = eqb-false σ.left 0 e in
          le-leb _ _ (d.running (omega arith)).1

  in_place : (eqb σ.left 0 || (eqb (length σ.gathered) 0 || takes σ.section (get_or (state_of σ) 16 0))) ≡ true
  in_place = to (eqb σ.left 0) refl (eqb (length σ.gathered) 0) refl
    where
      to : (a : Bool) → eqb σ.left 0 ≡ a → (b : Bool) → eqb (length σ.gathered) 0 ≡ b
          → (a || (b || takes σ.section (get_or (state_of σ) 16 0))) ≡ true
      to true e b f = refl
      to false e true f = refl
      to false e false f =
          let z = eqb-false σ.left 0 e in
          let n = eqb-false (length σ.gathered) 0 f in
          let h : 0 < length σ.gathered = omega arith in
          ap (takes σ.section) (first_back σ d h) ∙ d.placed (omega arith) h

  pub ready-state : ready (state_of σ) ≡ true
  unfolding ready
  ready-state =
      let t = state_of σ in
      let z = zeros σ d in
      ap every (λ i. asked (section_back σ d i) (left_back σ d i) (steps_back σ d i) (seen_back σ d i) (get_or t 16 0) (zeros_back σ d i))
      ∙ holds (asked σ.section σ.left σ.steps (length σ.gathered) (get_or t 16 0) z) (
        le-leb _ _ d.first,
        (
          le-leb σ.section behind (omega (arith, going, d.last)),
          (few-left, (few-steps, (lt-ltb _ _ d.short, (in_place, (all-zero (16 - length σ.gathered), tt))))),
        ),
      )

-- ---- from bytes that are taken to the standing

or-false_l : (a b : Bool) → (a || b) ≡ true → a ≡ false → b ≡ true
or-false_l true b h e = absurd (false≢true (sym e))
or-false_l false b h e = h

module _ (t : List ℕ) (r : ready t ≡ true) where
  pub ranged : All (ranges t)
  unfolding ready
  ranged = all (ranges t) r

  short : seen t < whole (word_at t 0) (word_at t 4)
  short = ltb-true (seen t) (whole (word_at t 0) (word_at t 4)) ranged.1.1.1.1.0

  pub seen_few : seen t ≤ 15
  seen_few = omega (arith, short, whole-most (word_at t 0) (word_at t 4))

module _ (s t : List ℕ) (size : length t ≡ 32) (b : Bytes t) (r : ready t ≡ true) where
  abbrev k : ℕ
  k = word_at t 0

  abbrev l : ℕ
  l = word_at t 4

  abbrev pub came : List ℕ
  came = take (seen t) (drop 16 t)

  pub length_came : length came ≡ seen t
  length_came = length-take-le (seen t) (drop 16 t) (omega (arith, seen_few t r, length-drop 16 t))

  inside : k ≤ behind
  inside = leb-true k behind (ranged t r).1.0

  pub not-over : (standing s t).section ≢ over
  unfolding standing
  not-over e = omega (arith, inside)

  left-most : l ≤ cond (eqb k behind) 0 1000
  left-most = leb-true l (cond (eqb k behind) 0 1000) (ranged t r).1.1.0

  some_left : 0 < l → k ≤ 3
  some_left h = to (eqb k behind) refl left-most
    where
      to : (a : Bool) → eqb k behind ≡ a → l ≤ cond a 0 1000 → k ≤ 3
      to true e m = absurd (omega arith)
      to false e m = let n = eqb-false k behind e in omega (arith, inside)

  few_came : l ≤ 1000
  few_came = to (eqb k behind) left-most
    where
      to : (a : Bool) → l ≤ cond a 0 1000 → l ≤ 1000
      to true m = omega arith
      to false m = m

  steps-most : (a : Bool) → eqb l 0 ≡ a → word_at t 8 + l ≤ 1000 * cond a (k - 1) k
  steps-most a e = leb-true _ _ (ap (λ (x : Bool). leb (word_at t 8 + l) (1000 * cond x (k - 1) k)) (sym e) ∙ (ranged t r).1.1.1.0)

  fitting : 0 < l → 0 < length came → takes k (get_or came 0 0) ≡ true
  fitting h i =
      let p = or-false_l (eqb l 0) _ (ranged t r).1.1.1.1.1.0 (ne_eqb l 0 (λ e. omega arith)) in
      ap (takes k) (get_or-take (seen t) (drop 16 t) 0 0 (omega (arith, length_came)) ∙ get_or-drop 16 t 0 0)
      ∙ or-false_l (eqb (seen t) 0) _ p (ne_eqb (seen t) 0 (λ e. omega (arith, length_came)))

  pub ready-standing : Ready (standing s t)
  unfolding standing
  ready-standing =
      record {
        first = leb-true 1 k (ranged t r).0;
        last = omega (arith, inside);
        few = few_came;
        counting = λ z h. omega (arith, steps-most true (eq-eqb l 0 z));
        running = λ h. (some_left h, steps-most false (ne_eqb l 0 (λ e. omega arith)));
        done = λ e. absurd (omega (arith, inside));
        short = rw length_came (short t r);
        placed = fitting;
        bytes = bytes_take (seen t) (drop 16 t) (bytes_drop 16 t b);
      }
