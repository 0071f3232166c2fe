-- What holds of every number below a bound.
use Rattle.std.proofs.lemmas.Bool.{and_from}
use Prim.Native.Nat.{ℕ, zero, suc, ◌+◌, ◌<◌, ◌≤◌}
use mathlib.Core.Path.{◌≡◌, refl, sym, ◌∙◌, ap}
use mathlib.Core.Bool.{Bool, true, false, cond, false≢true}
use native.Mathlib.Decide.{ℕ_discrete}
use native.Mathlib.Omega.{arith}
use lib.Dec.{ltb}
use borrow.Author.Tests.{ltb-true, ltb-false}
use Rattle.bits.specs.Below.{all_below, count_below, first_below}
use Rattle.bits.proofs.Sets.{and_l, and_r}

-- a number below n + 1 is n or below n
below_cases : {A : Type 0} (i n : ℕ) → i < suc n → (i ≡ n → A) → (i < n → A) → A
below_cases {A} i n l f g = at (ℕ_discrete i n)
  where
    at : Dec (i ≡ n) → A
    at (yes e) = f e
    at (no d) = g (omega arith)

pub each_below : (p : ℕ → Bool) (n : ℕ) → all_below p n ≡ true → (i : ℕ) → i < n → p i ≡ true
unfolding all_below
each_below p zero h i l = absurd (omega arith)
each_below p (suc n) h i l =
    below_cases i n l
    (λ e. ap p e ∙ and_r (all_below p n) (p n) h)
    (λ k. each_below p n (and_l (all_below p n) (p n) h) i k)

pub all_below_lem : (p : ℕ → Bool) (n : ℕ) → ((i : ℕ) → i < n → p i ≡ true) → all_below p n ≡ true
unfolding all_below
all_below_lem p zero h = refl
all_below_lem p (suc n) h =
    and_from (all_below p n) (p n) (all_below_lem p n (λ i l. h i (omega arith))) (h n (omega arith))

-- a number that is at least k and is not k
pub past : (k : ℕ) {t : ℕ} → k ≤ t → (t ≡ k → ⊥) → suc k ≤ t
past k h n = omega arith

-- ---- the first number below a bound

pub record First (p : ℕ → Bool) (n i : ℕ) : Type 0 where
  -- it is a number below n of which the test holds, or n itself
  pub most : i ≤ n
  pub holds : i < n → p i ≡ true
  -- and of none before it does it hold
  pub none : (j : ℕ) → j < i → p j ≡ false

pub first_is : (p : ℕ → Bool) (n : ℕ) → First p n (first_below p n)
unfolding first_below
first_is p zero = record { most = omega arith; holds = λ h. absurd (omega arith); none = λ j h. absurd (omega arith) }
first_is p (suc n) = at (p n) refl (ltb (first_below p n) n) refl (first_is p n)
  where
    at : (u : Bool) → p n ≡ u → (t : Bool) → ltb (first_below p n) n ≡ t → First p n (first_below p n) → First p (suc n) (cond t (first_below p n) (cond (p n) n (suc n)))
    at u q true e f =
        let l = ltb-true (first_below p n) n e in
        record { most = omega (arith, f.most); holds = λ h. f.holds l; none = f.none }
    at true q false e f =
        let l = ltb-false (first_below p n) n e in
        rw q (record { most = omega arith; holds = λ h. q; none = λ j h. f.none j (omega arith) })
    at false q false e f =
        let l = ltb-false (first_below p n) n e in
        rw q
        (record {
          most = omega arith;
          holds = λ h. absurd (omega arith);
          none = λ j h. below_cases j n h (λ s. ap p s ∙ q) (λ k. f.none j (omega arith));
        })

-- no other number is the first
pub first_unique : (p : ℕ → Bool) (n i j : ℕ) → First p n i → First p n j → i ≡ j
first_unique p n i j a b = at (ltb i j) refl (ltb j i) refl
  where
    clash : (x y : ℕ) → First p n x → First p n y → x < y → ⊥
    clash x y f g h = false≢true (sym (g.none x h) ∙ f.holds (omega (arith, g.most)))

    at : (t : Bool) → ltb i j ≡ t → (u : Bool) → ltb j i ≡ u → i ≡ j
    at true e u q = absurd (clash i j a b (ltb-true i j e))
    at false e true q = absurd (clash j i b a (ltb-true j i q))
    at false e false q = omega (arith, ltb-false i j e, ltb-false j i q)

pub first_by : (p : ℕ → Bool) (n i : ℕ) → First p n i → first_below p n ≡ i
first_by p n i f = first_unique p n (first_below p n) i (first_is p n) f

-- ---- how many numbers below a bound

-- one number more
module _ (p : ℕ → Bool) (n : ℕ) where
  pub count_in : p n ≡ true → count_below p (suc n) ≡ count_below p n + 1
  unfolding count_below
  count_in e = rw e

  pub count_out : p n ≡ false → count_below p (suc n) ≡ count_below p n
  unfolding count_below
  count_out e = rw e (omega arith)

pub count_most : (p : ℕ → Bool) (n : ℕ) → count_below p n ≤ n
unfolding count_below
count_most p zero = omega arith
count_most p (suc n) = at (p n) refl (count_most p n)
  where
    at : (t : Bool) → p n ≡ t → count_below p n ≤ n → count_below p (suc n) ≤ suc n
    at true e h = omega (arith, count_in p n e)
    at false e h = omega (arith, count_out p n e)
