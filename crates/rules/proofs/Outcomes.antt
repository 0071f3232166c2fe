-- An outcome by its parts.
use Prim.Native.Nat.{ℕ}
use mathlib.Core.Path.{◌≡◌, refl, sym, ◌∙◌, subst}
use mathlib.Core.List.{List}
use Rattle.answers.specs.Answer.{Outcome, refused}
use Rattle.rules.specs.Step.{Refused}

pub outcome_by : (o u : Outcome) → o.image ≡ u.image → o.refusal ≡ u.refusal → o.mailbox ≡ u.mailbox → o.count ≡ u.count → o ≡ u
outcome_by o u a b c d = λ i. record { image = a i; refusal = b i; mailbox = c i; count = d i }

pub refused_is : (s : List ℕ) (r : ℕ) (o : Outcome) → o ≡ refused s r → Refused s r o
refused_is s r o e = subst (Refused s r) (sym e) (refl, refl, (refl, refl))

pub refused-one : (s : List ℕ) (r : ℕ) (o u : Outcome) → Refused s r o → Refused s r u → o ≡ u
refused-one s r o u p q = outcome_by o u (p.0 ∙ sym q.0) (p.1 ∙ sym q.1) (p.2.0 ∙ sym q.2.0) (p.2.1 ∙ sym q.2.1)
