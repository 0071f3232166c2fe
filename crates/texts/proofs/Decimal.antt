-- A number in decimal digits: one, or those of a tenth of it and one more; and how many at most.
use Prim.Native.Nat.{ℕ, zero, suc, ◌+◌, ◌*◌, ◌/◌, ◌%◌, ◌<◌, ◌≤◌}
use mathlib.Core.Path.{◌≡◌, refl, ◌∙◌, ap}
use mathlib.Core.Bool.{Bool, true, false, cond}
use mathlib.Core.List.{List, [], ◌∷◌, ◌++◌, append_assoc}
use native.Mathlib.Omega.{arith}
use lib.Dec.{ltb}
use lib.ListN.{length, length-append}
use borrow.Author.Tests.{ltb-true, ltb-false, lt-ltb, le-ltb}
use Rattle.texts.specs.Text.{decimal_in, decimal}

abbrev last : ℕ → List ℕ
last n = (48 + n % 10) ∷ []

-- more turns than the number needs change nothing
enough : (j k n : ℕ) → n < j → n < k → decimal_in j n ≡ decimal_in k n
unfolding decimal_in
enough zero k n h l = absurd (omega arith)
enough (suc j) zero n h l = absurd (omega arith)
enough (suc j) (suc k) n h l = at (ltb n 10) refl (λ m. enough j k (n / 10) (omega arith) (omega arith))
  where
    at : (t : Bool) → ltb n 10 ≡ t → (10 ≤ n → decimal_in j (n / 10) ≡ decimal_in k (n / 10))
        → cond t [] (decimal_in j (n / 10)) ++ last n ≡ cond t [] (decimal_in k (n / 10)) ++ last n
    at true e r = refl
    at false e r = ap (λ (x : List ℕ). x ++ last n) (r (ltb-false n 10 e))

pub decimal-short : (n : ℕ) → n < 10 → decimal n ≡ (48 + n % 10) ∷ []
unfolding decimal decimal_in
decimal-short n h = rw (lt-ltb n 10 h)

pub decimal_long : (n : ℕ) → 10 ≤ n → decimal n ≡ decimal (n / 10) ++ ((48 + n % 10) ∷ [])
unfolding decimal decimal_in
decimal_long n h =
    rw (le-ltb n 10 h) (ap (λ (x : List ℕ). x ++ last n) (enough n (suc (n / 10)) (n / 10) (omega arith) (omega arith)))

-- how many digits: one more for a bound ten times as large
digits_more : (b k : ℕ) → ((m : ℕ) → m < b → length (decimal m) ≤ k) → 1 ≤ k → (n : ℕ) → n < 10 * b → length (decimal n) ≤ suc k
digits_more b k f p n h = at (ltb n 10) refl
  where
    at : (t : Bool) → ltb n 10 ≡ t → length (decimal n) ≤ suc k
    at true e = rw (decimal-short n (ltb-true n 10 e)) (omega arith)
    at false e =
        let m = ltb-false n 10 e in
        omega (arith, ap length (decimal_long n m) ∙ length-append (decimal (n / 10)) (last n), f (n / 10) (omega arith))

pub digits-one : (n : ℕ) → n < 10 → length (decimal n) ≤ 1
digits-one n h = rw (decimal-short n h) (omega arith)

pub digits_two : (n : ℕ) → n < 100 → length (decimal n) ≤ 2
digits_two n h = digits_more 10 1 digits-one (omega arith) n h

digits_three : (n : ℕ) → n < 1000 → length (decimal n) ≤ 3
digits_three n h = digits_more 100 2 digits_two (omega arith) n h

pub digits_four : (n : ℕ) → n < 10000 → length (decimal n) ≤ 4
digits_four n h = digits_more 1000 3 digits_three (omega arith) n h

-- the last two digits
pub decimal_two : (n : ℕ) → 10 ≤ n → n < 100 → decimal n ≡ (48 + n / 10 % 10) ∷ (48 + n % 10) ∷ []
decimal_two n h l = decimal_long n h ∙ ap (λ (x : List ℕ). x ++ last n) (decimal-short (n / 10) (omega arith))

pub decimal_more : (n : ℕ) → 100 ≤ n → decimal n ≡ decimal (n / 100) ++ ((48 + n / 10 % 10) ∷ (48 + n % 10) ∷ [])
decimal_more n h =
    let e : n / 10 / 10 ≡ n / 100 = omega arith in
    decimal_long n (omega arith)
    ∙ ap (λ (x : List ℕ). x ++ last n) (decimal_long (n / 10) (omega arith) ∙ ap (λ (m : ℕ). decimal m ++ last (n / 10)) e)
    ∙ append_assoc (decimal (n / 100)) (last (n / 10)) (last n)
