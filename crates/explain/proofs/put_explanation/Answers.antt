use Prim.Native.Nat.{◌≤◌}
use mathlib.Core.Path.{◌≡◌, sym, ◌∙◌, ap, subst}
use mathlib.Core.List.{List}
use Prim.Native.Nat.{ℕ}
use native.Mathlib.Omega.{arith}
use lib.ListN.{length}
use Rattle.registers.specs.declared.Block.{Block}
use Rattle.registers.specs.Block.{block_of}
use Rattle.registers.specs.Status.{bus_off}
use Rattle.registers.specs.Modes.{on_bus}
use Rattle.filter.specs.Filter.{seat}
use Rattle.texts.proofs.Writing.{as_text}
use Rattle.explain.specs.Explain.{lines, unheard, list_bytes}
use Rattle.explain.specs.Terms.{reason_by}
use Rattle.explain.proofs.Lines.{heard-lines, unheard-lines}
use Rattle.explain.proofs.put_explanation.Goals.{After-load-m}
use Rattle.explain.proofs.put_explanation.Goals as goal

-- the block that was loaded is the image's
loaded : (c : After-load-m) → c.load-m.result.block ≡ block_of c.args.s.now
loaded c = c.load-m.result.of_image ∙ ap block_of c.load-m.ensures

pub put_unheard-requires : goal.put_unheard-requires
put_unheard-requires c =
    let r = c.requires in
    let room : 8 ≤ length c.args.list.now = let l = r.2 in omega arith in
    (subst (λ (b : Block). b.mode ≤ 3) (sym (loaded (goal.at.put_unheard-requires c).After-load-m)) r.0, room)

pub returns-then-is_on_bus : goal.returns-then-is_on_bus
returns-then-is_on_bus c =
    let a = c.args in
    let on = sym (ap on_bus (loaded (goal.at.returns-then-is_on_bus c).After-load-m)) ∙ sym c.is_on_bus.ensures ∙ c.if-is_on_bus.true in
    let s = ap (λ (s : List ℕ). lines (seat (block_of s)) (reason_by s a.f)) c.load-m.ensures in
    as_text (ap list_bytes (s ∙ sym (heard-lines a.s.now a.f on))) c.put_lines.ensures

pub returns-else-is_on_bus : goal.returns-else-is_on_bus
returns-else-is_on_bus c =
    let a = c.args in
    let b = loaded (goal.at.returns-else-is_on_bus c).After-load-m in
    let off = sym (ap on_bus b) ∙ sym c.is_on_bus.ensures ∙ c.if-is_on_bus.false in
    as_text (ap list_bytes (ap (λ (x : Block). unheard x.mode (bus_off x)) b ∙ sym (unheard-lines a.s.now a.f off))) c.put_unheard.ensures
