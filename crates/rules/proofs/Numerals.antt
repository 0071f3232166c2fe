-- Each number has one numeral: the decimal digits that the listing writes.
use Prim.Native.Nat.{ℕ, zero, suc, ◌+◌, ◌-◌, ◌*◌, ◌/◌, ◌%◌, ◌<◌, ◌≤◌}
use mathlib.Core.Path.{◌≡◌, refl, sym, ◌∙◌, ap, subst}
use mathlib.Core.List.{List, [], ◌∷◌, ◌++◌, foldl, foldl-append}
use mathlib.Core.Logic.{◌≢◌}
use native.Mathlib.Decide.{dec_lt}
use native.Mathlib.Omega.{arith}
use lib.ListN.{length, length-append, get_or-append}
use lib.Seq.{get_or-append_seam}
use Rattle.texts.specs.Text.{decimal}
use Rattle.texts.proofs.Decimal.{decimal-short, decimal_long}
use Rattle.rules.specs.Words.{byte}
use Rattle.rules.specs.Listing.{Numeral}

-- the value of digits behind a number v
abbrev worth : ℕ → List ℕ → ℕ
worth v t = foldl (λ w d. 10 * w + (d - 48)) v t

grows : (v : ℕ) (t : List ℕ) → v ≤ worth v t
grows v [] = omega arith
grows v (x ∷ t) = omega (arith, grows (10 * v + (x - 48)) t)

more : (t : List ℕ) (x : ℕ) → worth 0 (t ++ (x ∷ [])) ≡ 10 * worth 0 t + (x - 48)
more t x = foldl-append {A = ℕ} {B = ℕ} (λ w d. 10 * w + (d - 48)) 0 t (x ∷ [])

-- ---- one digit, and a digit behind others

abbrev Digits : List ℕ → Type 0
Digits t = (i : ℕ) → i < length t → (48 ≤ byte t i) × (byte t i ≤ 57)

digits_snoc : (t : List ℕ) (x : ℕ) → Digits t → 48 ≤ x → x ≤ 57 → Digits (t ++ (x ∷ []))
digits_snoc t x h l m i b = at (dec_lt i (length t))
  where
    at : Dec (i < length t) → (48 ≤ byte (t ++ (x ∷ [])) i) × (byte (t ++ (x ∷ [])) i ≤ 57)
    at (yes p) = rw (get_or-append t (x ∷ []) 0 i p) (h i p)
    at (no p) =
        let e : i ≡ length t = omega (arith, length-append t (x ∷ [])) in
        rw (e, get_or-append_seam t x [] 0) (l, m)

digits-front : (t : List ℕ) (x : ℕ) → Digits (t ++ (x ∷ [])) → Digits t
digits-front t x h i l = rw (get_or-append t (x ∷ []) 0 i l) at (h i (omega (arith, length-append t (x ∷ []))))

digit-last : (t : List ℕ) (x : ℕ) → Digits (t ++ (x ∷ [])) → (48 ≤ x) × (x ≤ 57)
digit-last t x h = rw (get_or-append_seam t x [] 0) at (h (length t) (omega (arith, length-append t (x ∷ []))))

-- a number that is not 0 does not begin with the digit 0
front_of : (t : List ℕ) (m : ℕ) → Numeral m t → 1 ≤ m → byte t 0 ≢ 48
front_of [] m p l e = omega (arith, p.some)
front_of (x ∷ []) m p l e = omega (arith, p.value)
front_of (x ∷ y ∷ t) m p l e = p.front (omega arith) e

above : (t : List ℕ) → Digits t → 0 < length t → byte t 0 ≢ 48 → 1 ≤ worth 0 t
above [] h l d = absurd (omega arith)
above (x ∷ t) h l d = at (dec_lt 48 x)
  where
    at : Dec (48 < x) → 1 ≤ worth 0 (x ∷ t)
    at (yes p) = omega (arith, grows (10 * 0 + (x - 48)) t)
    at (no p) = absurd (d (omega (arith, (h 0 (omega arith)).0)))

-- ---- the digits that are written are a numeral

numeral_short : (n : ℕ) → n < 10 → Numeral n ((48 + n % 10) ∷ [])
numeral_short n h =
    record {
      digits = digits_snoc [] (48 + n % 10) (λ i l. absurd (omega arith)) (omega arith) (omega arith);
      some = omega arith;
      front = λ l. absurd (omega arith);
      value = omega arith;
    }

numeral_long : (n : ℕ) (t : List ℕ) → 10 ≤ n → Numeral (n / 10) t → Numeral n (t ++ ((48 + n % 10) ∷ []))
numeral_long n t h p =
    let x = 48 + n % 10 in
    let l = length-append t (x ∷ []) in
    record {
      digits = digits_snoc t x p.digits (omega arith) (omega arith);
      some = omega (arith, l);
      front = λ m. rw (get_or-append t (x ∷ []) 0 0 p.some) (front_of t (n / 10) p (omega arith));
      value = more t x ∙ omega (arith, p.value);
    }

numeral_in : (k n : ℕ) → n < k → Numeral n (decimal n)
numeral_in zero n h = absurd (omega arith)
numeral_in (suc k) n h = at (dec_lt n 10) (λ q. numeral_in k (n / 10) (omega arith))
  where
    at : Dec (n < 10) → (10 ≤ n → Numeral (n / 10) (decimal (n / 10))) → Numeral n (decimal n)
    at (yes p) r = rw (decimal-short n p) (numeral_short n p)
    at (no p) r =
        let q : 10 ≤ n = omega arith in
        rw (decimal_long n q) (numeral_long n (decimal (n / 10)) q (r q))

pub numeral : (n : ℕ) → Numeral n (decimal n)
numeral n = numeral_in (suc n) n (omega arith)

-- ---- and there is no other

record Last (t : List ℕ) : Type 0 where
  others : List ℕ
  last : ℕ
  whole : t ≡ others ++ (last ∷ [])

last_of : (x : ℕ) (t : List ℕ) → Last (x ∷ t)
last_of x [] = record { others = []; last = x; whole = refl }
last_of x (y ∷ t) =
    let r = last_of y t in
    record { others = x ∷ r.others; last = r.last; whole = ap (λ (l : List ℕ). x ∷ l) r.whole }

-- digits t that are the only numeral of their number, and x behind them
behind : (n : ℕ) (t : List ℕ) (x : ℕ) → ((m : ℕ) → Numeral m t → t ≡ decimal m) → Numeral n (t ++ (x ∷ [])) → t ++ (x ∷ []) ≡ decimal n
behind n [] x r p =
    let d = digit-last [] x p.digits in
    let e : x ≡ 48 + n % 10 = omega (arith, p.value) in
    ap (λ (y : ℕ). y ∷ []) e ∙ sym (decimal-short n (omega (arith, p.value)))
behind n (y ∷ t) x r p =
    let u = y ∷ t in
    let d = digit-last u x p.digits in
    let l = length-append u (x ∷ []) in
    let v : 10 * worth 0 u + (x - 48) ≡ n = sym (more u x) ∙ p.value in
    let f = digits-front u x p.digits in
    let z : byte u 0 ≢ 48 = p.front (omega (arith, l)) in
    let w = above u f (omega arith) z in
    let q : Numeral (n / 10) u = record { digits = f; some = omega arith; front = λ m. z; value = omega arith } in
    let e : x ≡ 48 + n % 10 = omega arith in
    ap (λ (k : ℕ). u ++ (k ∷ [])) e ∙ ap (λ (a : List ℕ). a ++ ((48 + n % 10) ∷ [])) (r (n / 10) q) ∙ sym (decimal_long n (omega arith))

one : (k n : ℕ) (t : List ℕ) → length t ≤ k → Numeral n t → t ≡ decimal n
one zero n t h p = absurd (omega (arith, p.some))
one (suc k) n [] h p = absurd (omega (arith, p.some))
one (suc k) n (y ∷ t) h p =
    let s = last_of y t in
    let l = ap length s.whole ∙ length-append s.others (s.last ∷ []) in
    s.whole ∙ behind n s.others s.last (λ m. one k m s.others (omega (arith, l))) (subst (Numeral n) s.whole p)

pub numeral_one : (n : ℕ) (t : List ℕ) → Numeral n t → t ≡ decimal n
numeral_one n t p = one (length t) n t (omega arith) p
