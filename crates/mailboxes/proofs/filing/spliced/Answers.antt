use Prim.Native.Nat.{ℕ, ◌-◌, ◌*◌, ◌/◌, ◌%◌, ◌^◌, ◌<◌, ◌≤◌}
use mathlib.Core.Path.{◌≡◌, sym, ◌∙◌, ap}
use mathlib.Core.Logic.{◌≢◌}
use native.Mathlib.Omega.{arith}
use native.Mathlib.Nat.{mod-lt, mul-mod_left, add-sub_cancel}
use lib.Bits.{bit_or}
use lib.Pow.{pow_pos, shl_exact, split}
use Rattle.bits.proofs.Laws.{or_below}
use Rattle.mailboxes.specs.Filing.{spliced}
use Rattle.mailboxes.proofs.filing.spliced.Goals as goal

-- the unit of n bytes, where it fits
unit : (n : ℕ) → n ≤ 8 → n ≢ 8 → 1 * 2 ^ (8 * n) % 2 ^ 64 ≡ 2 ^ (8 * n)
unit n h l = shl_exact 1 (8 * n) 64 (omega arith) (omega arith) ∙ omega arith

spliced_or : (old new n : ℕ) → bit_or (old - old % 2 ^ (8 * n)) (new % 2 ^ (8 * n)) ≡ spliced old new n
unfolding spliced
spliced_or old new n =
    let u = 2 ^ (8 * n) in
    let e : old - old % u ≡ old / u * u =
    ap (λ (x : ℕ). x - old % u) (sym (split old (8 * n))) ∙ add-sub_cancel (old / u * u) (old % u) in
    ap (λ (x : ℕ). bit_or x (new % u)) e
    ∙ or_below (old / u * u) (new % u) (8 * n) (mul-mod_left (old / u) u) (mod-lt new (pow_pos (8 * n)))

-- all eight bytes are new
spliced_all : (old new : ℕ) → old < 2 ^ 64 → new < 2 ^ 64 → new ≡ spliced old new 8
unfolding spliced
spliced_all old new h l = omega arith

pub returns-then-n-eq-MOST_DATA_BYTES : goal.returns-then-n-eq-MOST_DATA_BYTES
returns-then-n-eq-MOST_DATA_BYTES c =
    let a = c.args in
    let f = c.ranges in
    rw c.if-n-eq-MOST_DATA_BYTES.true (spliced_all a.old a.new f.old.fits f.new.fits)

pub returns : goal.returns
returns c =
    let a = c.args in
    ap (λ (u : ℕ). bit_or (a.old - a.old % u) (a.new % u)) (unit a.n c.requires c.if-n-eq-MOST_DATA_BYTES.false)
    ∙ spliced_or a.old a.new a.n
