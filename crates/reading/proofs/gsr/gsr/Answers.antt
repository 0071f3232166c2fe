use mathlib.Core.Bool.{Bool, not}
use mathlib.Core.Path.{◌∙◌, ap}
use Prim.Native.Nat.{◌*◌, ◌%◌}
use native.Mathlib.Omega.{arith}
use Rattle.bits.specs.Bit.{flag}
use lib.Dec.{eqb}
use Rattle.registers.specs.Status.{filled, asleep, bus_off, passive, warning}
use Rattle.reading.specs.Gsr.{shown_slot, gsr}
use Rattle.reading.proofs.Fields.{Sum, next, shown_most}
use Rattle.reading.proofs.gsr.gsr.Goals as goal

pub returns : goal.returns
unfolding gsr
returns c =
    let b = c.args.b in
    let slot : Sum (c.shown_slot.result * 4096 % 4294967296) (shown_slot b * 4096) 12 =
    record { same = omega (arith, c.shown_slot.ensures, shown_most b c.requires); above = omega arith } in
    (next 0 (warning b) 0 (c.flag-8.ensures ∙ ap (λ (t : Bool). flag t 0) c.is_warned.ensures)
    (next 0 (passive b) 1 (c.flag-7.ensures ∙ ap (λ (t : Bool). flag t 1) c.is_passive.ensures)
    (next 0 (bus_off b) 2 (c.flag-6.ensures ∙ ap (λ (t : Bool). flag t 2) c.is_bus_off.ensures)
    (next 2 (eqb b.tso 1) 3 c.flag-5.ensures
    (next 0 (asleep b) 6 (c.flag-4.ensures ∙ ap (λ (t : Bool). flag t 6) c.is_asleep.ensures)
    (next 0 (eqb b.mode 1) 7 c.flag-3.ensures
    (next 1 (eqb b.mode 3) 8 c.flag-2.ensures
    (next 1 (filled b) 10 (c.flag.ensures ∙ ap (λ (t : Bool). flag (not t) 10) c.is_vacant.ensures) slot)))))))
    ).same
