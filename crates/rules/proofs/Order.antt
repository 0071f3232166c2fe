-- The number that the step gives is the first refusal that applies.
use Prim.Native.Nat.{ℕ, zero, suc, ◌+◌, ◌-◌, ◌<◌, ◌≤◌}
use mathlib.Core.Path.{◌≡◌, refl, sym, ◌∙◌, subst}
use mathlib.Core.Bool.{Bool, true, false, false≢true}
use mathlib.Core.List.{List, [], ◌∷◌}
use mathlib.Core.Logic.{◌≢◌}
use native.Mathlib.Decide.{dec_lt, ℕ_discrete}
use native.Mathlib.Omega.{arith}
use lib.ListN.{get_or}
use Rattle.bits.specs.Tests.{first_from}
use Rattle.words.proofs.Bytes.{Bytes}
use Rattle.good.specs.Good.{good_image}
use Rattle.refusals.specs.Refusal.{refusal}
use Rattle.refusals.proofs.Order.{refusal-bad}
use Rattle.rules.specs.Image.{Good}
use Rattle.rules.specs.Events.{Applies, not_good, is_unknown, is_asleep, not_allowed, is_busy, is_locked, slot_empty, FirstRefusal}
use Rattle.rules.proofs.Good.{good-rule, rule-good}
use Rattle.rules.proofs.Refusals.{tests, same-refusal}

-- ---- the first test of a list that holds

-- where test k holds, the first is no later; what is given is a number of the list
first-most : (n : ℕ) (l : List Bool) (k : ℕ) → get_or l k false ≡ true → (n ≤ first_from n l) × (first_from n l ≤ n + k)
first-most n [] k h = absurd (false≢true h)
first-most n (true ∷ l) k h = (omega arith, omega arith)
first-most n (false ∷ l) zero h = absurd (false≢true h)
first-most n (false ∷ l) (suc k) h = let r = first-most (n + 1) l k h in (omega (arith, r.0), omega (arith, r.1))

first_least : (n : ℕ) (l : List Bool) → first_from n l ≢ 0 → n ≤ first_from n l
first_least n [] z = absurd (z refl)
first_least n (true ∷ l) z = omega arith
first_least n (false ∷ l) z = omega (arith, first_least (n + 1) l z)

first_holds : (n : ℕ) (l : List Bool) (k : ℕ) → first_from n l ≢ 0 → first_from n l ≡ n + k → get_or l k false ≡ true
first_holds n [] k z e = absurd (z refl)
first_holds n (true ∷ l) zero z e = refl
first_holds n (true ∷ l) (suc k) z e = absurd (omega arith)
first_holds n (false ∷ l) zero z e = absurd (omega (arith, first_least (n + 1) l z))
first_holds n (false ∷ l) (suc k) z e = first_holds (n + 1) l k z (omega arith)

module _ (s e : List ℕ) (bytes : Bytes s) (small : Bytes e) where
  -- ---- of a good image, by the list of tests

  applies-at : (j : ℕ) → get_or (tests s e) j false ≡ true → Applies s e (2 + j)
  applies-at zero p = is_unknown refl p
  applies-at (suc zero) p = is_asleep refl p
  applies-at (suc (suc zero)) p = not_allowed refl p
  applies-at (suc (suc (suc zero))) p = is_busy refl p
  applies-at (suc (suc (suc (suc zero)))) p = is_locked refl p
  applies-at (suc (suc (suc (suc (suc zero))))) p = slot_empty refl p
  applies-at (suc (suc (suc (suc (suc (suc j)))))) p = absurd (false≢true p)

  test_at : (j k : ℕ) → k ≡ 2 + j → get_or (tests s e) j false ≡ true → (0 < first_from 2 (tests s e)) × (first_from 2 (tests s e) ≤ k)
  test_at j k q p = let r = first-most 2 (tests s e) j p in (omega (arith, r.0), omega (arith, r.1))

  among_tests : Good s → (k : ℕ) → Applies s e k → (0 < first_from 2 (tests s e)) × (first_from 2 (tests s e) ≤ k)
  among_tests g k (not_good q p) = absurd (p g)
  among_tests g k (is_unknown q p) = test_at 0 k q p
  among_tests g k (is_asleep q p) = test_at 1 k q p
  among_tests g k (not_allowed q p) = test_at 2 k q p
  among_tests g k (is_busy q p) = test_at 3 k q p
  among_tests g k (is_locked q p) = test_at 4 k q p
  among_tests g k (slot_empty q p) = test_at 5 k q p

  -- ---- of any image

  positive : (k : ℕ) → Applies s e k → 0 < k
  positive k (not_good q p) = omega arith
  positive k (is_unknown q p) = omega arith
  positive k (is_asleep q p) = omega arith
  positive k (not_allowed q p) = omega arith
  positive k (is_busy q p) = omega arith
  positive k (is_locked q p) = omega arith
  positive k (slot_empty q p) = omega arith

  least : (k : ℕ) → Applies s e k → (0 < refusal s e) × (refusal s e ≤ k)
  least k a = at (good_image s) refl
    where
      at : (t : Bool) → good_image s ≡ t → (0 < refusal s e) × (refusal s e ≤ k)
      at false h = let r = refusal-bad s e h in (omega arith, omega (arith, positive k a))
      at true h =
          let r = same-refusal s e bytes small h in
          let p = among_tests (good-rule s bytes h) k a in
          (omega (arith, p.0), omega (arith, p.1))

  applies : refusal s e ≢ 0 → Applies s e (refusal s e)
  applies z = at (good_image s) refl
    where
      at : (t : Bool) → good_image s ≡ t → Applies s e (refusal s e)
      at false h = not_good (refusal-bad s e h) (λ g. false≢true (sym h ∙ rule-good s bytes g))
      at true h =
          let r = same-refusal s e bytes small h in
          let n : first_from 2 (tests s e) ≢ 0 = λ q. z (sym r ∙ q) in
          let l = first_least 2 (tests s e) n in
          let k = first_from 2 (tests s e) - 2 in
          subst (Applies s e) (omega (arith, r, l)) (applies-at k (first_holds 2 (tests s e) k n (omega (arith, l))))

  -- ---- what the rules ask

  pub number : (r : ℕ) → FirstRefusal s e r → refusal s e ≡ r
  number r f = at (dec_lt (refusal s e) r)
    where
      p : (0 < refusal s e) × (refusal s e ≤ r)
      p = least r f.applies

      at : Dec (refusal s e < r) → refusal s e ≡ r
      at (yes l) = absurd (f.before (refusal s e) l (applies (λ z. omega (arith, p.0))))
      at (no l) = omega (arith, p.1)

  pub positive_number : (r : ℕ) → FirstRefusal s e r → refusal s e ≢ 0
  positive_number r f z = omega (arith, (least r f.applies).0)

  pub no_number : ((r : ℕ) → Applies s e r → ⊥) → refusal s e ≡ 0
  no_number f = at (ℕ_discrete (refusal s e) 0)
    where
      at : Dec (refusal s e ≡ 0) → refusal s e ≡ 0
      at (yes z) = z
      at (no d) = absurd (f (refusal s e) (applies d))

  pub first-refusal : refusal s e ≢ 0 → FirstRefusal s e (refusal s e)
  first-refusal z = record { applies = applies z; before = λ k l a. omega (arith, (least k a).1) }

  pub none-applies : refusal s e ≡ 0 → (r : ℕ) → Applies s e r → ⊥
  none-applies z r a = omega (arith, (least r a).0)

  pub accepted-good : refusal s e ≡ 0 → good_image s ≡ true
  accepted-good z = at (good_image s) refl
    where
      at : (t : Bool) → good_image s ≡ t → good_image s ≡ true
      at true h = h
      at false h = absurd (omega (arith, refusal-bad s e h))
