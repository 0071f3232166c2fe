-- The step is what the rulebook asks, and the rulebook asks nothing else.
use Prim.Native.Nat.{ℕ}
use mathlib.Core.Path.{◌≡◌, sym, ◌∙◌, ap, subst}
use mathlib.Core.List.{List}
use mathlib.Core.Logic.{◌≢◌}
use native.Mathlib.Decide.{ℕ_discrete}
use borrow.Author.Tests.{eq-eqb, ne_eqb}
use Rattle.words.proofs.Bytes.{Bytes}
use Rattle.answers.specs.Answer.{Outcome, refused}
use Rattle.good.proofs.Image.{image-good}
use Rattle.events.specs.Decode.{event}
use Rattle.refusals.specs.Refusal.{refusal}
use Rattle.model.specs.Step.{accepted, step}
use Rattle.model.proofs.Kept.{step-good}
use Rattle.rules.specs.Image.{Good}
use Rattle.rules.specs.Step.{Accepted, Rules}
use Rattle.rules.proofs.Good.{good-rule, rule-good}
use Rattle.rules.proofs.Outcomes.{refused_is, refused-one}
use Rattle.rules.proofs.Order.{number, no_number, first-refusal, none-applies, accepted-good, positive_number}
use Rattle.rules.proofs.Meets.{meets}
use Rattle.rules.proofs.Complete.{one}

module _ (s e : List ℕ) (bytes : Bytes s) (small : Bytes e) where
  refuses : refusal s e ≢ 0 → step s e ≡ refused s (refusal s e)
  unfolding step
  refuses h = rw (ne_eqb (refusal s e) 0 h)

  accepts : refusal s e ≡ 0 → step s e ≡ accepted s (event e)
  unfolding step
  accepts h = rw (eq-eqb (refusal s e) 0 h)

  -- the step meets the rulebook
  pub step_meets : Rules s e (step s e)
  step_meets =
      record {
        refuses =
            λ r f.
            let n = number s e bytes small r f in
            refused_is s r (step s e) (refuses (positive_number s e bytes small r f) ∙ ap (refused s) n);
        accepts =
            λ f.
            let z = no_number s e bytes small f in
            subst (λ (o : Outcome). Accepted s e o) (sym (accepts z)) (meets s e bytes small (accepted-good s e bytes small z) z);
      }

  -- and nothing else does
  pub rules_one : (o u : Outcome) → Rules s e o → Rules s e u → o ≡ u
  rules_one o u p q = at (ℕ_discrete (refusal s e) 0)
    where
      at : Dec (refusal s e ≡ 0) → o ≡ u
      at (no d) =
          let f = first-refusal s e bytes small d in
          refused-one s (refusal s e) o u (p.refuses (refusal s e) f) (q.refuses (refusal s e) f)
      at (yes z) =
          let f = none-applies s e bytes small z in
          one s e bytes small (accepted-good s e bytes small z) z o u (p.accepts f) (q.accepts f)

  -- what holds of the image as it came, and of what an accepted event leaves, holds of what is left by an outcome that keeps the rules
  pub stays-or_moves : (o : Outcome) → Rules s e o → (P : List ℕ → Type 0) → P s → (Accepted s e o → P o.image) → P o.image
  stays-or_moves o p P stays moves = at (ℕ_discrete (refusal s e) 0)
    where
      at : Dec (refusal s e ≡ 0) → P o.image
      at (no d) = subst P (sym (p.refuses (refusal s e) (first-refusal s e bytes small d)).0) stays
      at (yes z) = moves (p.accepts (none-applies s e bytes small z))

  -- a good image stays good
  pub good-step : Good s → Good (step s e).image
  good-step g = let h = step-good s e bytes small (rule-good s bytes g) in good-rule _ h.bytes (image-good _ h)
