-- A text that is made of parts: one behind the other, for each entry of a list.
use Prim.Native.Nat.{ℕ, ◌*◌}
use mathlib.Core.Path.{◌≡◌, refl, sym, ◌∙◌, ap}
use mathlib.Core.List.{List, [], ◌∷◌, ◌++◌, append_assoc, append-nil, flat_map}
use native.Mathlib.Omega.{arith}
use lib.ListN.{length, length-append}

module _ {A : Type 0} (part : A → List ℕ) where
  pub parts_none : flat_map part [] ≡ []
  unfolding flat_map
  parts_none = refl

  pub parts_more : (x : A) (l : List A) → flat_map part (x ∷ l) ≡ part x ++ flat_map part l
  unfolding flat_map
  parts_more x l = refl

  pub parts_one : (x : A) → flat_map part (x ∷ []) ≡ part x
  unfolding flat_map
  parts_one x = append-nil (part x)

  pub parts_both : (l m : List A) → flat_map part (l ++ m) ≡ flat_map part l ++ flat_map part m
  unfolding flat_map
  parts_both [] m = refl
  parts_both (x ∷ l) m = ap (λ (t : List ℕ). part x ++ t) (parts_both l m) ∙ sym (append_assoc (part x) (flat_map part l) (flat_map part m))

  -- parts of one size
  pub parts_length : (k : ℕ) → ((x : A) → length (part x) ≡ k) → (l : List A) → length (flat_map part l) ≡ k * length l
  unfolding flat_map
  parts_length k h [] = omega arith
  parts_length k h (x ∷ l) = length-append (part x) (flat_map part l) ∙ omega (arith, h x, parts_length k h l)
