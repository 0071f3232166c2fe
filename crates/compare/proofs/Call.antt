-- The call, case by case; and that it has one outcome.
use Prim.Native.Nat.{ℕ, ◌*◌, ◌/◌}
use mathlib.Core.Path.{◌≡◌, sym, ◌∙◌, ap}
use mathlib.Core.Bool.{true, false, false≢true}
use mathlib.Core.List.{List}
use mathlib.Core.Logic.{◌⊎◌, ⊎_elim, ◌↔◌}
use native.Mathlib.Omega.{arith}
use lib.ListN.{length}
use Rattle.texts.specs.Text.{Put}
use Rattle.answers.specs.Answer.{no_mailbox, packed, Refuses}
use Rattle.answers.proofs.Lists.{same_end, fitted_unique}
use Rattle.compare.specs.Compare.{differences, list_bytes, Compares}
use Rattle.compare.specs.Terms.{both_good}
use Rattle.compare.proofs.Below.{length_list}

module _ (a b : List ℕ) where
  -- how long the bytes of a list are
  pub list_long : length (list_bytes (differences a b)) ≡ 12 * length (differences a b)
  list_long = length_list (differences a b)

  -- the answer of a list that was put at the front, from the place behind it
  pub counted_by : {o x : List ℕ} {p r : ℕ} → Put o 0 (list_bytes (differences a b)) x p → r ≡ packed 0 no_mailbox (p / 12)
      → r ≡ packed 0 no_mailbox (length (differences a b))
  counted_by {p = p} w e =
      let n : p / 12 ≡ length (differences a b) = omega (arith, w.behind, list_long) in
      e ∙ ap (packed 0 no_mailbox) n

  module _ (o x : List ℕ) (r : ℕ) where
    pub call_bad : both_good a b ≡ false → Refuses 1 o x r → Compares (both_good a b ≡ true) a b o x r
    call_bad h t = record { bad = λ z. t; fitted = λ g. absurd (false≢true (sym h ∙ g)) }

  -- the same promise, where good is said in other words
  pub call_as : (good better : Type 0) → good ↔ better → (o x : List ℕ) (r : ℕ) → Compares good a b o x r → Compares better a b o x r
  call_as good better e o x r c = record { bad = λ n. c.bad (λ g. n (e.0 g)); fitted = λ g. c.fitted (e.1 g) }

  -- Comparing two images: two outcomes that meet the promise are the same
  pub call_unique : (good : Type 0) → good ⊎ (good → ⊥) → (o x y : List ℕ) (r s : ℕ) → Compares good a b o x r → Compares good a b o y s → (x ≡ y) × (r ≡ s)
  call_unique good judged o x y r s c d = ⊎_elim (λ g. fitted_unique (c.fitted g) (d.fitted g)) (λ n. same_end (c.bad n) (d.bad n)) judged
