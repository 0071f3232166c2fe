use Prim.Native.Nat.{ℕ, zero, suc, ◌+◌, ◌-◌, ◌≤◌}
use mathlib.Core.Path.{◌≡◌, refl, ap}
use mathlib.Core.List.{List, [], ◌∷◌, ◌++◌}
use native.Mathlib.Numerals.{unary_clauses}
use native.Mathlib.Omega.{arith}
use lib.ListN.{length, take, drop, set}
use Rattle.words.specs.Word.{put_word}
use Rattle.words.proofs.put_word.Goals as goal

-- four bytes in a row, set one by one: what stands before and behind them stays
four_set : (s : List ℕ) (at a b c d : ℕ) → at + 4 ≤ length s
    → take at s ++ (a ∷ b ∷ c ∷ d ∷ drop 4 (drop at s)) ≡ set (set (set (set s at a) (at + 1) b) (at + 2) c) (at + 3) d
four_set [] at a b c d h = absurd (omega arith)
four_set (_ ∷ []) zero a b c d h = absurd (omega arith)
four_set (_ ∷ _ ∷ []) zero a b c d h = absurd (omega arith)
four_set (_ ∷ _ ∷ _ ∷ []) zero a b c d h = absurd (omega arith)
four_set (_ ∷ _ ∷ _ ∷ _ ∷ s) zero a b c d h = refl
four_set (x ∷ s) (suc at) a b c d h = simp unary_clauses (ap (λ (l : List ℕ). x ∷ l) (simp unary_clauses at (four_set s at a b c d (omega arith))))

pub returns : goal.returns
unfolding put_word
returns c =
    let a = c.args in
    let size : a.at + 4 - a.at ≡ 4 = omega arith in
    rw (size, c.copy_from_slice.ensures.after, c.to_le_bytes.ensures) (four_set a.s.now a.at _ _ _ _ c.requires)
