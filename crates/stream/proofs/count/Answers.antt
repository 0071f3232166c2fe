use Rattle.stream.proofs.Bytewise.{low_byte, high_byte-fault, high_byte}
use Prim.Native.Nat.{◌+◌, ◌*◌}
use mathlib.Core.Path.{◌≡◌, refl}
use lib.ListN.{get_or}
use native.Mathlib.Omega.{arith}
use Rattle.stream.proofs.count.Goals as goal

pub returns-then-r-eq0 : goal.returns-then-r-eq0
returns-then-r-eq0 c =
    let a = c.args in
    let p = c.requires in
    low_byte a.r a.event.now (omega arith) a.out.now a.place c.if-r-eq0.true p.2 c.wait.ensures.0 c.wait.ensures.1

pub fault-requires : goal.fault-requires
fault-requires c =
    let n : c.from-n.result ≡ get_or c.args.event.now 0 0 + 256 * get_or c.args.event.now 1 0 = omega (arith, c.from-n.ensures, c.from_le_bytes.ensures) in
    c.requires.3 (λ z. omega arith) (omega (arith, n))

pub returns-then-n-gt1000 : goal.returns-then-n-gt1000
returns-then-n-gt1000 c =
    let a = c.args in
    let p = c.requires in
    let n : c.from-n.result ≡ get_or c.args.event.now 0 0 + 256 * get_or c.args.event.now 1 0 = omega (arith, c.from-n.ensures, c.from_le_bytes.ensures) in
    high_byte-fault a.r a.event.now (omega arith) a.out.now a.place p.1 (λ z. omega arith) n (omega arith) refl c.fault.ensures.0 c.fault.ensures.1

pub returns : goal.returns
returns c =
    let a = c.args in
    let p = c.requires in
    let n : c.from-n.result ≡ get_or c.args.event.now 0 0 + 256 * get_or c.args.event.now 1 0 = omega (arith, c.from-n.ensures, c.from_le_bytes.ensures) in
    high_byte a.r a.event.now (omega arith) a.out.now a.place p.1 (λ z. omega arith) n (omega arith) refl c.onward.ensures
