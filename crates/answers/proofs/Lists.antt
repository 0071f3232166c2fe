-- What a call leaves that writes a list: by the room for it, and that this is one outcome.
use Prim.Native.Nat.{ℕ, ◌<◌, ◌≤◌}
use mathlib.Core.Path.{◌≡◌, refl, sym, ◌∙◌, subst}
use mathlib.Core.Bool.{Bool, true, false}
use mathlib.Core.List.{List}
use native.Mathlib.Omega.{arith}
use lib.Dec.{ltb}
use lib.ListN.{length}
use borrow.Author.Tests.{ltb-true, ltb-false}
use Rattle.answers.specs.Answer.{Refuses, Tells, Fitted}

module _ {count : ℕ} {text o x : List ℕ} {r : ℕ} where
  pub too_short : length o < length text → Refuses 9 o x r → Fitted count text o x r
  too_short l t = record { short = λ m. t; fits = λ m. absurd (omega arith) }

  pub long_enough : length text ≤ length o → Tells count text o x r → Fitted count text o x r
  long_enough l t = record { short = λ m. absurd (omega arith); fits = λ m. t }

-- the same list, in other words
pub fitted_as : {n m : ℕ} {t u o x : List ℕ} {r : ℕ} → n ≡ m → t ≡ u → Fitted n t o x r → Fitted m u o x r
fitted_as {m = m} {t = t} {o = o} {x = x} {r = r} p q f =
    subst (λ (v : List ℕ). Fitted m v o x r) q (subst (λ (k : ℕ). Fitted k t o x r) p f)

module _ {x y : List ℕ} {r s : ℕ} where
  -- two outcomes that are both a third one
  pub same_end : {u : List ℕ} {m : ℕ} → (x ≡ u) × (r ≡ m) → (y ≡ u) × (s ≡ m) → (x ≡ y) × (r ≡ s)
  same_end e f = (e.0 ∙ sym f.0, e.1 ∙ sym f.1)

  pub fitted_unique : {count : ℕ} {text o : List ℕ} → Fitted count text o x r → Fitted count text o y s → (x ≡ y) × (r ≡ s)
  fitted_unique {count} {text} {o} p q = at (ltb (length o) (length text)) refl
    where
      at : (t : Bool) → ltb (length o) (length text) ≡ t → (x ≡ y) × (r ≡ s)
      at true e = same_end (p.short (ltb-true _ _ e)) (q.short (ltb-true _ _ e))
      at false e = same_end (p.fits (ltb-false _ _ e)) (q.fits (ltb-false _ _ e))
