-- The code that judges image and state before a call.
use Prim.Native.Nat.{ℕ, ◌+◌, ◌-◌, ◌*◌, ◌<◌, ◌≤◌}
use mathlib.Core.Path.{◌≡◌, refl, ◌∙◌, ap}
use mathlib.Core.Bool.{Bool, true, false, cond, ◌&&◌, ◌||◌}
use mathlib.Core.List.{List, [], ◌∷◌}
use mathlib.Core.Logic.{◌≢◌}
use native.Mathlib.Omega.{arith}
use lib.Dec.{eqb, ltb, leb}
use lib.ListN.{length, drop, get_or}
use borrow.Author.Tests.{eq-eqb, ne_eqb, eqb-true, eqb-false, leb-true, ltb-true, le-leb, lt-ltb}
use Rattle.bits.specs.Tests.{every}
use Rattle.words.specs.Word.{word_at}
use Rattle.words.proofs.Bytes.{Bytes}
use Rattle.trace.specs.Trace.{takes}
use Rattle.stream.specs.declared.Reader.{Reader}
use Rattle.stream.specs.Stream.{behind, over}
use Rattle.stream.specs.Calls.{standing, seen, known, whole, all_zero, ready, against}
use Rattle.stream.specs.Terms.{reader_of, state_against}
use Rattle.stream.proofs.Ready.{steps-few}
use Rattle.stream.proofs.State.{ranged, ready-standing}

-- ---- the state

-- a state that would be taken, but cannot be
not-ready : (t : List ℕ) → (ready t ≡ true → ⊥) → false ≡ ready t
not-ready t h = to (ready t) refl
  where
    to : (a : Bool) → ready t ≡ a → false ≡ a
    to true e = absurd (h e)
    to false e = refl

-- the other tests hold
all_seven : (a b c d e f g : Bool) → a ≡ true → b ≡ true → c ≡ true → e ≡ true → (d && f && g) ≡ every (a ∷ b ∷ c ∷ d ∷ e ∷ f ∷ g ∷ [])
all_seven a b c d e f g p q r s = rw (p, q, r, s) (to d)
  where
    to : (d : Bool) → (d && f && g) ≡ every (true ∷ true ∷ true ∷ d ∷ true ∷ f ∷ g ∷ [])
    to true = refl
    to false = refl

module _ (t : List ℕ) (r : Reader) (h : r ≡ reader_of t) where
  section_is : r.section ≡ word_at t 0
  section_is = ap (λ (r : Reader). r.section) h

  left_is : r.left ≡ word_at t 4
  left_is = ap (λ (r : Reader). r.left) h

  steps_is : r.steps ≡ word_at t 8
  steps_is = ap (λ (r : Reader). r.steps) h

  seen_is : r.seen ≡ seen t
  seen_is = ap (λ (r : Reader). r.seen) h

  pub no_section : r.section ≡ 0 → false ≡ ready t
  no_section z = not-ready t (λ e. omega (arith, section_is, leb-true 1 (word_at t 0) (ranged t e).0))

  pub past_sections : 4 < r.section → false ≡ ready t
  past_sections z = not-ready t (λ e. omega (arith, section_is, leb-true (word_at t 0) behind (ranged t e).1.0))

  module _ {m : ℕ} (k : m ≡ cond (eqb r.section 4) 0 1000) where
    most_is : m ≡ cond (eqb (word_at t 0) 4) 0 1000
    most_is = k ∙ ap (λ (n : ℕ). cond (eqb n 4) 0 1000) section_is

    pub too_many_left : m < r.left → false ≡ ready t
    too_many_left z = not-ready t (λ e. omega (arith, left_is, most_is, leb-true (word_at t 4) (cond (eqb (word_at t 0) 4) 0 1000) (ranged t e).1.1.0))

  pub too_many_steps : Bytes t → length t ≡ 32 → 3000 < r.steps → false ≡ ready t
  unfolding standing
  too_many_steps b l z = not-ready t (λ e. omega (arith, steps_is, steps-few (standing [] t) (ready-standing [] t l b e)))

  module _ {w v : ℕ} (p : v ≡ cond (eqb r.left 0) 2 16) (q : w ≡ cond (eqb r.section 4) 1 v) where
    whole_is : w ≡ whole (word_at t 0) (word_at t 4)
    whole_is =
        q
        ∙ ap (λ (n : ℕ). cond (eqb r.section 4) 1 n) p
        ∙ ap (λ (r : Reader). cond (eqb r.section 4) 1 (cond (eqb r.left 0) 2 16)) h

    pub too_much_seen : w ≤ r.seen → false ≡ ready t
    too_much_seen z = not-ready t (λ e. omega (arith, seen_is, whole_is, ltb-true (seen t) (whole (word_at t 0) (word_at t 4)) (ranged t e).1.1.1.1.0))

    -- where none of these holds, the rest decides
    pub rest_decides : {m n : ℕ} {u z : Bool} → m ≡ cond (eqb r.section 4) 0 1000 → n ≡ cond (eqb r.left 0) (r.section - 1) r.section
        → u ≡ takes r.section (get_or t 16 0) → z ≡ all_zero (drop (16 + r.seen) t) → 1 ≤ r.section → r.section ≤ 4 → r.left ≤ m → r.seen < w
        → (leb (r.steps + r.left) (1000 * n) && (eqb r.left 0 || (eqb r.seen 0 || u)) && z) ≡ ready t
    unfolding ready
    rest_decides {u = u} {z = z} k y a b f g i j =
        let x : r ≡ reader_of t = h in
        ap (λ (n : ℕ). leb (r.steps + r.left) (1000 * n) && (eqb r.left 0 || (eqb r.seen 0 || u)) && z) y
        ∙ ap (λ (u : Bool). leb (r.steps + r.left) (1000 * known r.section r.left) && (eqb r.left 0 || (eqb r.seen 0 || u)) && z) a
        ∙ ap (λ (z : Bool). leb (r.steps + r.left) (1000 * known r.section r.left) && (eqb r.left 0 || (eqb r.seen 0 || takes r.section (get_or t 16 0))) && z) b
        ∙ ap (λ (r : Reader). leb (r.steps + r.left) (1000 * known r.section r.left) && (eqb r.left 0 || (eqb r.seen 0 || takes r.section (get_or t 16 0))) && all_zero (drop (16 + r.seen) t)) x
        ∙ all_seven (leb 1 (word_at t 0)) (leb (word_at t 0) behind) (leb (word_at t 4) (cond (eqb (word_at t 0) behind) 0 1000)) _ (ltb (seen t) (whole (word_at t 0) (word_at t 4))) _ _
        (le-leb 1 (word_at t 0) (omega (arith, section_is)))
        (le-leb (word_at t 0) behind (omega (arith, section_is)))
        (le-leb (word_at t 4) (cond (eqb (word_at t 0) behind) 0 1000) (omega (arith, left_is, most_is k)))
        (lt-ltb (seen t) (whole (word_at t 0) (word_at t 4)) (omega (arith, seen_is, whole_is)))

-- ---- image and state

module _ (s t : List ℕ) where
  pub other-image : length s ≢ 776 → 1 ≡ against s t
  unfolding against
  other-image h = rw (ne_eqb (length s) 776 h)

  module _ (h : length s ≡ 776) where
    pub other-state : length t ≢ 32 → 1 ≡ against s t
    unfolding against
    other-state i = rw (eq-eqb (length s) 776 h, ne_eqb (length t) 32 i)

    module _ (i : length t ≡ 32) where
      -- what stands against a state is what stands against the call
      pub of_state : state_against t ≡ against s t
      unfolding against
      of_state = rw (eq-eqb (length s) 776 h, eq-eqb (length t) 32 i)

      pub over_already : word_at t 0 ≡ over → 8 ≡ against s t
      unfolding against
      over_already o = rw (eq-eqb (length s) 776 h, eq-eqb (length t) 32 i, eq-eqb (word_at t 0) over o)

      module _ (o : word_at t 0 ≢ over) where
        pub not_left : ready t ≡ false → 1 ≡ against s t
        unfolding against
        not_left r = rw (eq-eqb (length s) 776 h, eq-eqb (length t) 32 i, ne_eqb (word_at t 0) over o, r)

        pub nothing-against : ready t ≡ true → 0 ≡ against s t
        unfolding against
        nothing-against r = rw (eq-eqb (length s) 776 h, eq-eqb (length t) 32 i, ne_eqb (word_at t 0) over o, r)

-- what holds where nothing stands against a call
pub record Taken (s t : List ℕ) : Type 0 where
  pub image : length s ≡ 776
  pub state : length t ≡ 32
  pub going : word_at t 0 ≢ over
  pub left : ready t ≡ true

-- a state that a call leaves is not over
pub fit : (s t : List ℕ) → length s ≡ 776 → length t ≡ 32 → ready t ≡ true → Taken s t
fit s t h i r = record { image = h; state = i; going = λ o. omega (arith, leb-true (word_at t 0) behind (ranged t r).1.0); left = r }

-- nothing stands against a call; the stream is over; or a length or the state is none
pub data Stands (s t : List ℕ) : ℕ → Type 0 where
  free : Taken s t → Stands s t 0
  past : length s ≡ 776 → length t ≡ 32 → word_at t 0 ≡ over → Stands s t 8
  unfit : Stands s t 1

pub stands : (s t : List ℕ) → Stands s t (against s t)
unfolding against
stands s t = to (eqb (length s) 776) refl (eqb (length t) 32) refl (eqb (word_at t 0) over) refl (ready t) refl
  where
    to : (a : Bool) → eqb (length s) 776 ≡ a → (b : Bool) → eqb (length t) 32 ≡ b → (c : Bool) → eqb (word_at t 0) over ≡ c → (d : Bool) → ready t ≡ d
        → Stands s t (cond (a && b) (cond c 8 (cond d 0 1)) 1)
    to false p b q c r d u = unfit
    to true p false q c r d u = unfit
    to true p true q true r d u = past (eqb-true _ _ p) (eqb-true _ _ q) (eqb-true _ _ r)
    to true p true q false r false u = unfit
    to true p true q false r true u =
        free (record { image = eqb-true _ _ p; state = eqb-true _ _ q; going = eqb-false _ _ r; left = u })

pub taken : (s t : List ℕ) → against s t ≡ 0 → Taken s t
taken s t h = to (stands s t) h
  where
    to : {r : ℕ} → Stands s t r → r ≡ 0 → Taken s t
    to (free k) e = k
    to (past h k o) e = absurd (omega arith)
    to unfit e = absurd (omega arith)
