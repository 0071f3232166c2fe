-- The step keeps demands 1 and 2.
use Prim.Native.Nat.{ℕ, ◌+◌, ◌*◌, ◌%◌, ◌≤◌}
use mathlib.Core.Path.{◌≡◌, refl, sym, ◌∙◌, ap, subst}
use mathlib.Core.Bool.{Bool, true, false}
use mathlib.Core.List.{List}
use mathlib.Core.Logic.{inl}
use native.Mathlib.Omega.{arith}
use lib.ListN.{length}
use Rattle.words.proofs.Bytes.{Bytes}
use Rattle.answers.specs.Answer.{Outcome}
use Rattle.fresh.specs.Fresh.{fresh, fresh_image}
use Rattle.fresh.proofs.Good.{fresh_facts, fresh-good}
use Rattle.model.specs.Step.{step}
use Rattle.rules.specs.Words.{words, box, ◌has◌, BoxesStayBut, MD}
use Rattle.rules.specs.Image.{Good, on_bus}
use Rattle.rules.specs.Events.{operation, Applies, FirstRefusal}
use Rattle.rules.specs.Receiving.{First, Frame}
use Rattle.rules.specs.Step.{Accepted}
use Rattle.rules.specs.Calls.{FreshCall, StepCall}
use Rattle.rules.specs.Demands.{Demand1, Demand2}
use Rattle.rules.proofs.Good.{good-rule}
use Rattle.rules.proofs.Fresh.{filled, fresh_meets, fresh-one}
use Rattle.rules.proofs.Step.{step_meets, rules_one, stays-or_moves, good-step}
use Rattle.rules.proofs.Calls.{step_call, step_unique}

-- ---- demand 1

pub answered : (s e : List ℕ) → Bytes s → Bytes e → (x : List ℕ) × (a : ℕ) × StepCall s e x a
answered s e b y = ((step s e).image, _, step_call s e _ _ b y (record { image = refl; answered = refl }))

module _ (s e x : List ℕ) (a : ℕ) (c : StepCall s e x a) where
  pub refused : (r : ℕ) → FirstRefusal s e r → (x ≡ s) × (a ≡ r + 256 * 32 + 65536 * 0)
  refused r f = let p = c.keeps.refuses r f in (c.image ∙ p.0, c.packs ∙ rw (p.1, p.2.0, p.2.1))

  pub accepted : ((r : ℕ) → Applies s e r → ⊥) → a % 256 ≡ 0
  accepted f = omega (arith, c.packs, (c.keeps.accepts f).refusal)

-- ---- demand 2

pub fresh_is_good : (s x : List ℕ) (p a : ℕ) → FreshCall s p x a → length s ≡ 776 → p ≤ 1 → Good x
fresh_is_good s x p a c h k =
    subst Good (sym (c.image ∙ ap (λ (u : Outcome). u.image) (fresh-one s p c.outcome (fresh s p) c.keeps (fresh_meets s p) ∙ filled p k s h)))
    (good-rule (fresh_image p) (fresh_facts p k).bytes (fresh-good p k))

module _ (s e x : List ℕ) (a : ℕ) (bytes : Bytes s) (small : Bytes e) (c : StepCall s e x a) where
  abbrev o : Outcome
  o = c.outcome

  pub stays-good : Good s → Good x
  stays-good g =
      let same = rules_one s e bytes small o (step s e) c.keeps (step_meets s e bytes small) in
      subst Good (sym (c.image ∙ ap (λ (u : Outcome). u.image) same)) (good-step s e bytes small g)

  -- what holds of the image as it came, and of what an accepted event leaves, holds of what the call left
  left : (P : List ℕ → Type 0) → P s → (Accepted s e o → P o.image) → P x
  left P stays moves = subst P (sym c.image) (stays-or_moves s e bytes small o c.keeps P stays moves)

  -- where no mailbox byte changes, none changes outside mailbox n
  none : (n : ℕ) (y : List ℕ) → BoxesStayBut 32 s y → BoxesStayBut n s y
  none n y p i l q = p i l (inl l)

  pub picked : operation e ≡ 2 → (k n : ℕ) → First s e k n → BoxesStayBut n s x
  picked op place n first = left (BoxesStayBut n s) (λ i l q. refl) (λ p. at (p.does.frame op) (on_bus (words s)) refl (words s MD has n) refl (box s n 0 has 29) refl)
    where
      at : {now : ℕ → ℕ} → Frame s e (words s) now o → (t : Bool) → on_bus (words s) ≡ t → (u : Bool) → words s MD has n ≡ u → (v : Bool) → box s n 0 has 29 ≡ v
          → BoxesStayBut n s o.image
      at p false h u r v k = none n o.image (p.unheard h).1
      at p true h true r v k = ((p.heard h).stored place n first r).1.elsewhere
      at p true h false r true k = none n o.image ((p.heard h).replied place n first r k).1
      at p true h false r false k = none n o.image ((p.heard h).ignored place n first r k).1

  pub nobody : operation e ≡ 2 → ((k n : ℕ) → First s e k n → ⊥) → BoxesStayBut 32 s x
  nobody op no-first = left (BoxesStayBut 32 s) (λ i l q. refl) (λ p. at (p.does.frame op) (on_bus (words s)) refl)
    where
      at : {now : ℕ → ℕ} → Frame s e (words s) now o → (t : Bool) → on_bus (words s) ≡ t → BoxesStayBut 32 s o.image
      at p false h = (p.unheard h).1
      at p true h = ((p.heard h).nobody no-first).1

pub demand1 : Demand1
demand1 = record { answered = answered; refused = refused; accepted = accepted; malformed = λ f o x a c l n. (c.listing l).1.refused n }

pub demand2 : Demand2
demand2 = record { exactly = step_unique; fresh = fresh_is_good; good = stays-good; picked = picked; nobody = nobody }
