-- What holds of every row of a table, by the row's number.
use Prim.Native.Nat.{ℕ, zero, suc}
use mathlib.Core.List.{List, [], ◌∷◌}
use mathlib.Core.Path.{◌≡◌, ap}
use lib.ListN.{get_or, drop}

-- the facts of a table, row upon row
infixr 3 ◌▸◌
pub ◌▸◌ : {A B : Type 0} → A → B → A × B
◌▸◌ a b = (a, b)

abbrev pub Each : {A : Type 0} → (ℕ → A → Type 0) → List A → Type 0
Each P [] = Unit
Each P (a ∷ l) = (P 0 a) × (Each (λ n. P (suc n)) l)

-- of any row, and of what stands for the rows past the last
pub row : {A : Type 0} (P : ℕ → A → Type 0) (l : List A) (d : A) → Each P l → ((n : ℕ) → P n d) → (n : ℕ) → P n (get_or l n d)
row P [] d e h n = h n
row P (a ∷ l) d e h zero = e.0
row P (a ∷ l) d e h (suc n) = row (λ k. P (suc k)) l d e.1 (λ k. h (suc k)) n

-- ---- equations, all rows at once: where both sides give the same column

abbrev pub column : {A X : Type 0} → (ℕ → A → X) → List A → List X
column f [] = []
column f (a ∷ l) = f 0 a ∷ column (λ n. f (suc n)) l

pub row_same : {A X : Type 0} (f g : ℕ → A → X) (l : List A) (d : A) → column f l ≡ column g l → ((n : ℕ) → f n d ≡ g n d)
    → (n : ℕ) → f n (get_or l n d) ≡ g n (get_or l n d)
row_same f g [] d e h n = h n
row_same f g (a ∷ l) d e h zero = ap (λ c. get_or c 0 (f 0 a)) e
row_same f g (a ∷ l) d e h (suc n) = row_same (λ k. f (suc k)) (λ k. g (suc k)) l d (ap (drop 1) e) (λ k. h (suc k)) n
