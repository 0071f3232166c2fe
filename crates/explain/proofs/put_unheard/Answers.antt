use Prim.Native.Nat.{ℕ}
use mathlib.Core.Path.{sym, ◌∙◌, ap}
use mathlib.Core.Bool.{Bool, cond}
use Rattle.registers.specs.Status.{bus_off}
use Rattle.texts.proofs.Writing.{as_text}
use Rattle.explain.specs.declared.Reason.TheVariants.{NotHeard}
use Rattle.explain.specs.Explain.{line_bytes}
use Rattle.explain.proofs.Lines.{unheard-bytes}
use Rattle.explain.proofs.put_unheard.Goals as goal

pub returns : goal.returns
returns c =
    let b = c.args.b in
    let e = c.choose-state.ensures ∙ ap (λ (t : Bool). cond t 4 b.mode) c.is_bus_off.ensures in
    as_text (ap (λ (x : ℕ). line_bytes (record { mailbox = 32; reason = NotHeard x })) e ∙ sym (unheard-bytes b.mode (bus_off b))) c.put_line.ensures
