use Prim.Native.Nat.{ℕ, ◌+◌, ◌-◌, ◌≤◌}
use mathlib.Core.Path.{◌≡◌, refl, sym, ◌∙◌}
use mathlib.Core.Bool.{Bool, true, false}
use native.Mathlib.Omega.{arith}
use lib.Dec.{leb}
use borrow.Author.Tests.{lt-leb, leb-true, leb-false, le-leb}
use Rattle.stream.proofs.is_roomy.Goals as goal

-- so many more on one side, or fewer on the other
to : (n p r : ℕ) → n ≤ r → (b : Bool) → leb p (r - n) ≡ b → leb p (r - n) ≡ leb (p + n) r
to n p r h true e = let l = leb-true p (r - n) e in e ∙ sym (le-leb (p + n) r (omega arith))
to n p r h false e = let l = leb-false p (r - n) e in e ∙ sym (lt-leb (p + n) r (omega arith))

pub returns-then-room-lt31 : goal.returns-then-room-lt31
returns-then-room-lt31 c = sym (lt-leb (c.args.part + 31) c.args.room (omega arith))

pub returns : goal.returns
returns c =
    let p = c.args.part in
    let r = c.args.room in
    let h = c.if-room-lt31.false in
    to 31 p r (omega arith) (leb p (r - 31)) refl
