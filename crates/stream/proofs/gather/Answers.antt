use Rattle.stream.proofs.Bytewise.{steps_below, fault_room, fault-there, more_there, line_room, whole-there}
use mathlib.Core.Path.{refl}
use native.Mathlib.Omega.{arith}
use Rattle.stream.proofs.gather.Goals as goal

pub fault-requires : goal.fault-requires
fault-requires c =
    let a = c.args in
    let p = c.requires in
    fault_room a.r a.event.now a.image.now p.0 (omega arith) p.1 p.2 a.bytes.now p.3 p.4 a.out.now a.place c.put_behind-seen.ensures (rw c.from.ensures at c.takes.ensures) (c.if-not-takes.true) p.6

pub returns-then-not-takes : goal.returns-then-not-takes
returns-then-not-takes c =
    let a = c.args in
    let p = c.requires in
    fault-there a.r a.event.now a.image.now p.0 (omega arith) p.1 p.2 a.bytes.now p.3 p.4 a.out.now a.place c.put_behind-seen.ensures (rw c.from.ensures at c.takes.ensures) (c.if-not-takes.true) c.fault.ensures.0 refl c.fault.ensures.1

pub returns-then-seen-lt16 : goal.returns-then-seen-lt16
returns-then-seen-lt16 c =
    let a = c.args in
    let p = c.requires in
    more_there a.r a.event.now a.image.now p.0 (omega arith) p.1 p.2 a.bytes.now p.3 p.4 a.out.now a.place c.put_behind-seen.ensures (rw c.from.ensures at c.takes.ensures) (c.if-not-takes.false) (omega arith) p.5 c.wait.ensures.0 c.wait.ensures.1

pub run_event-length-requires : goal.run_event-length-requires
run_event-length-requires c =
    let a = c.args in
    let p = c.requires in
    rw c.from-2.ensures (line_room a.r a.event.now a.image.now p.0 (omega arith) p.1 p.2 a.bytes.now p.3 p.4 a.out.now a.place c.put_behind-seen.ensures (rw c.from.ensures at c.takes.ensures) (c.if-not-takes.false) (omega arith) (omega arith) p.6)

pub overflow_add-r : goal.overflow_add-r
overflow_add-r c =
    let a = c.args in
    let p = c.requires in
    record { fits = omega (arith, steps_below a.r a.event.now a.image.now p.0 (omega arith) p.2) }

pub returns : goal.returns
returns c =
    let a = c.args in
    let p = c.requires in
    whole-there a.r a.event.now a.image.now p.0 (omega arith) p.1 p.2 a.bytes.now p.3 p.4 a.out.now a.place c.put_behind-seen.ensures (rw c.from.ensures at c.takes.ensures) (c.if-not-takes.false) (omega arith) (omega arith) (rw c.from-2.ensures at c.run_event-length.ensures.0) c.run_event-length.ensures.1 refl c.onward.ensures
