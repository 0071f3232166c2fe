-- The answer of a step: how large its three numbers are, so that one number tells them all and each has few digits.
use Prim.Native.Nat.{ℕ, ◌/◌, ◌%◌, ◌≤◌}
use mathlib.Core.Path.{◌≡◌, refl, ◌∙◌, ap}
use mathlib.Core.Bool.{Bool, true, false, cond}
use mathlib.Core.List.{List}
use native.Mathlib.Omega.{arith}
use lib.Dec.{eqb, lit≤}
use borrow.Author.Tests.{eqb-true}
use Rattle.events.specs.declared.Event.{Event}
use Rattle.events.specs.declared.Event.TheVariants.{Refused, Register, Mailbox, Heard, Start, Outcome, ReceiveError, Recessive, Tick, Mode, Options, Reset}
use Rattle.events.specs.declared.Frame.{Frame}
use Rattle.events.specs.Decode.{event}
use Rattle.filter.specs.declared.Delivery.{Delivery}
use Rattle.filter.specs.Filter.{delivery}
use Rattle.filter.proofs.Ways.{Way, off_bus, no_match, stored, replied, ignored, way}
use Rattle.sending.proofs.Choice.{next-most}
use Rattle.good.specs.Good.{good_image}
use Rattle.good.proofs.Image.{good-slot}
use Rattle.refusals.specs.Refusal.{refusal}
use Rattle.refusals.proofs.Order.{refusal-bad, refusal-most}
use Rattle.answers.specs.Answer.{Outcome as Result, refused, packed}
use Rattle.answers.proofs.Parts.{refusal_of, mailbox_of, count_of_lem}
use Rattle.model.specs.Step.{goes, named, named_by, count_of, accepted, step}
use Rattle.trace.specs.Trace.{line_of, line}

-- ---- a frame

record Named (d : Delivery) : Type 0 where
  mailbox : named_by d ≤ 32
  count : count_of d ≤ 32

delivered_small : (s : List ℕ) (f : Frame) → Named (delivery s f)
delivered_small s f = at (way s f)
  where
    at : Way s f (delivery s f) → Named (delivery s f)
    at (off_bus h d) = rw d (record { mailbox = lit≤ tt; count = lit≤ tt })
    at (no_match c h p d) = rw d (record { mailbox = lit≤ tt; count = p.at-most })
    at (stored n c h p r d) = rw d (record { mailbox = omega (arith, p.there); count = omega (arith, p.there, p.at-most) })
    at (replied n c h p r q d) = rw d (record { mailbox = omega (arith, p.there); count = omega (arith, p.there, p.at-most) })
    at (ignored n c h p r q d) = rw d (record { mailbox = lit≤ tt; count = omega (arith, p.there, p.at-most) })

-- ---- any accepted event of a good image

module _ (s : List ℕ) (g : good_image s ≡ true) where
  named_small : (v : Event) → named s v ≤ 32
  unfolding named
  named_small (Refused r) = lit≤ tt
  named_small (Register t v) = lit≤ tt
  named_small (Mailbox n k v) = lit≤ tt
  named_small (Heard f) = (delivered_small s f).mailbox
  named_small Start = next-most s
  named_small (Outcome k) = omega (arith, good-slot s g)
  named_small (ReceiveError v) = lit≤ tt
  named_small Recessive = lit≤ tt
  named_small Tick = lit≤ tt
  named_small (Mode m) = lit≤ tt
  named_small (Options v) = lit≤ tt
  named_small Reset = lit≤ tt

  count_small : (v : Event) → count_of (goes s v) ≤ 32
  unfolding goes
  count_small (Refused r) = lit≤ tt
  count_small (Register t v) = lit≤ tt
  count_small (Mailbox n k v) = lit≤ tt
  count_small (Heard f) = (delivered_small s f).count
  count_small Start = lit≤ tt
  count_small (Outcome k) = lit≤ tt
  count_small (ReceiveError v) = lit≤ tt
  count_small Recessive = lit≤ tt
  count_small Tick = lit≤ tt
  count_small (Mode m) = lit≤ tt
  count_small (Options v) = lit≤ tt
  count_small Reset = lit≤ tt

-- ---- any step

pub record Small (o : Result) : Type 0 where
  pub refusal : o.refusal ≤ 7
  pub mailbox : o.mailbox ≤ 32
  pub count : o.count ≤ 32

pub step_small : (s e : List ℕ) → Small (step s e)
unfolding step accepted
step_small s e = at (eqb (refusal s e) 0) refl (good_image s) refl
  where
    at : (t : Bool) → eqb (refusal s e) 0 ≡ t → (u : Bool) → good_image s ≡ u → Small (cond t (accepted s (event e)) (refused s (refusal s e)))
    at false z u g = record { refusal = refusal-most s e; mailbox = lit≤ tt; count = lit≤ tt }
    at true z true g = record { refusal = lit≤ tt; mailbox = named_small s g (event e); count = count_small s g (event e) }
    at true z false g = absurd (omega (arith, eqb-true (refusal s e) 0 z, refusal-bad s e g))

-- the parts of the one number
module _ (o : Result) (h : Small o) (r : ℕ) (e : r ≡ packed o.refusal o.mailbox o.count) where
  pub code_part : r % 256 ≡ o.refusal
  code_part = ap (λ (x : ℕ). x % 256) e ∙ refusal_of o.refusal o.mailbox o.count (omega (arith, h.refusal))

  pub mailbox_part : r / 256 % 256 ≡ o.mailbox
  mailbox_part =
      ap (λ (x : ℕ). x / 256 % 256) e
      ∙ mailbox_of o.refusal o.mailbox o.count (omega (arith, h.refusal)) (omega (arith, h.mailbox))

  pub count_part : r / 65536 ≡ o.count
  count_part =
      ap (λ (x : ℕ). x / 65536) e
      ∙ count_of_lem o.refusal o.mailbox o.count (omega (arith, h.refusal)) (omega (arith, h.mailbox))

  -- the line that is made of that number
  pub line_of_lem : (n : ℕ) → line_of n (r % 256) (r / 256 % 256) (r / 65536) ≡ line n o
  line_of_lem n =
      ap (λ (x : ℕ). line_of n x (r / 256 % 256) (r / 65536)) code_part
      ∙ ap (λ (x : ℕ). line_of n o.refusal x (r / 65536)) mailbox_part
      ∙ ap (λ (x : ℕ). line_of n o.refusal o.mailbox x) count_part
