use Prim.Native.Nat.{ℕ, ◌≤◌}
use mathlib.Core.Path.{◌≡◌, refl, ◌∙◌, ap}
use mathlib.Core.Bool.{Bool, true, false, cond}
use mathlib.Core.List.{List}
use native.Mathlib.Omega.{arith}
use lib.Dec.{ltb}
use borrow.Author.Tests.{ltb-false}
use borrow.Author.Rules.{rules}
use Rattle.std.specs.Bool.{then_some}
use Rattle.std.specs.Option.{unwrap_or, option_map_or}
use Rattle.registers.specs.declared.Block.{Block}
use Rattle.registers.specs.Block.{block_of}
use Rattle.registers.specs.Sending.{started}
use Rattle.events.specs.declared.Event.TheVariants.{Start}
use Rattle.sending.specs.Choice.{next, named as mailbox_named}
use Rattle.sending.proofs.Choice.{next-most}
use Rattle.model.specs.Step.{started_with, own, goes, beside_after, named}
use Rattle.model.proofs.Meets.{acts}
use Rattle.model.proofs.start.Goals as goal

-- a choice that may be none starts what the number of the mailbox, or 32, starts
by_number : (b : Block) (n : ℕ) → option_map_or (started b) (mailbox_named n) b ≡ started_with b n
by_number b n = at (ltb n 32)
  where
    at : (t : Bool) → option_map_or (started b) (then_some t n) b ≡ cond t (started b n) b
    at true = refl
    at false = refl

-- and it is told by that number
told : (n : ℕ) → n ≤ 32 → unwrap_or (mailbox_named n) 32 ≡ n
told n l = at (ltb n 32) refl
  where
    at : (t : Bool) → ltb n 32 ≡ t → unwrap_or (then_some t n) 32 ≡ n
    at true e = refl
    at false e = let h = ltb-false n 32 e in omega arith

pub returns : goal.returns
unfolding own goes beside_after named
returns c =
    let s = c.args.image.now in
    let b = block_of s in
    let n = c.next-n.ensures ∙ ap (λ (x : List ℕ). mailbox_named (next x)) c.load.ensures in
    let h = c.change.ensures.block in
    let made : h.0 ≡ option_map_or (started b) c.next-n.result b = search (rules, h.1) in
    acts s Start s h.0 c.unwrap_or.result refl refl
    (made ∙ ap (λ o. option_map_or (started b) o b) n ∙ by_number b (next s))
    refl
    (c.unwrap_or.ensures ∙ ap (λ o. unwrap_or o 32) n ∙ told (next s) (next-most s))
    h.2 c.change.ensures.answered
