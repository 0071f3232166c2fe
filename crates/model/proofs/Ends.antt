-- The end of an accepted step: the block that an operation has put is read back, and a waiting mode is taken.
use Prim.Native.Nat.{ℕ}
use mathlib.Core.Path.{◌≡◌, refl, sym, ◌∙◌, ap, ap₂}
use mathlib.Core.Bool.{Bool, true, false, cond}
use mathlib.Core.List.{List}
use lib.Dec.{eqb}
use borrow.Author.Tests.{eqb-true}
use Rattle.words.proofs.Bytes.{Bytes}
use Rattle.registers.specs.declared.Block.{Block}
use Rattle.registers.specs.Block.{block_of, put_block, no_mode}
use Rattle.registers.specs.Modes.{risen, settled}
use Rattle.registers.proofs.Laws.{put_block_again, block_back}
use Rattle.events.specs.Decode.{event}
use Rattle.good.specs.Good.{good_image}
use Rattle.good.proofs.Image.{small}
use Rattle.refusals.specs.Refusal.{refusal}
use Rattle.refusals.proofs.Order.{refusal-bad}
use Rattle.keeps.proofs.Open.{risen_open}
use Rattle.answers.specs.Answer.{no_mailbox, packed, Promise}
use Rattle.model.specs.Step.{acted, block_after, beside_after, accepted, step}
use Rattle.model.specs.Parts.{Acted}
use Rattle.model.proofs.Meets.{unsettled}
use Rattle.model.proofs.Kept.{taken, acted_open, boxes-after}

-- what is left of an image m into which the block b was put
abbrev ended : List ℕ → Block → List ℕ
ended x b = cond (eqb b.waiting no_mode) x (put_block x (settled b))

ends-put : (m : List ℕ) (b : Block) → ended (put_block m b) b ≡ put_block m (settled b)
ends-put m b = at (eqb b.waiting no_mode) refl
  where
    at : (t : Bool) → eqb b.waiting no_mode ≡ t → cond t (put_block m b) (put_block (put_block m b) (settled b)) ≡ put_block m (settled b)
    at true e = ap (put_block m) (sym (unsettled b (eqb-true _ _ e)))
    at false e = put_block_again m b (settled b)

pub ends : (s e : List ℕ) → Bytes s → Bytes e → good_image s ≡ true → refusal s e ≡ 0 → {x y : List ℕ} {r : ℕ}
    → Acted s (event e) x r → y ≡ ended x (block_of x) → Promise (accepted s (event e)) y r
unfolding accepted block_after
ends s e bytes small_bytes g z {x} {y} {r} p q =
    let v = event e in
    let t = taken s e bytes small_bytes g z in
    let m = beside_after s v in
    let b = risen (block_of s) (acted s v) in
    let o = risen_open (block_of s) (acted_open s v t) in
    let back = ap block_of p.image ∙ block_back m b (boxes-after s v t).size (small b o.core o.most) in
    record { image = q ∙ ap₂ ended p.image back ∙ ends-put m b; answered = p.answered }

-- bytes that are no good image stay
pub stays : (s e : List ℕ) → good_image s ≡ false → {y : List ℕ} {r : ℕ} → y ≡ s → r ≡ packed 1 no_mailbox 0 → Promise (step s e) y r
unfolding step
stays s e g p q = rw (refusal-bad s e g) (record { image = p; answered = q })
