use Prim.Native.Nat.{ℕ, ◌+◌}
use mathlib.Core.Path.{◌≡◌, refl, sym, ◌∙◌, ap, ap₂}
use mathlib.Core.Bool.{true, false}
use native.Mathlib.Omega.{arith}
use borrow.Author.Count.{below_more}
use Rattle.bits.proofs.Laws.{bit_high}
use Rattle.bits.proofs.Sets.{top_up_lem}
use Rattle.bits.proofs.Below.{count_in, count_out, count_most}
use Rattle.registers.specs.declared.Block.{Block}
use Rattle.registers.specs.Block.{block_of}
use Rattle.filter.specs.declared.Found.TheVariants.{At, Missing}
use Rattle.filter.specs.Filter.{last_mailbox, seat, takes, compared_at}
use Rattle.filter.proofs.Search.{takes_by_lam, hit, not-compared, not_taking, stops, passes}
use Rattle.filter.proofs.last.Goals as goal

pub returns-then-pool-lt2147483648 : goal.returns-then-pool-lt2147483648
returns-then-pool-lt2147483648 c =
    let a = c.args in
    let p = c.requires in
    let t : compared_at a.m.image.now a.f last_mailbox ≡ false =
    sym (p.1 last_mailbox (omega arith)) ∙ bit_high 31 31 a.pool c.if-pool-lt2147483648.true (omega arith) in
    ap Missing (p.2 ∙ sym (count_out (compared_at a.m.image.now a.f) last_mailbox t))
    ∙ sym (passes a.m.image.now a.f (below_more _ last_mailbox p.3 (not-compared a.m.image.now a.f (seat (block_of a.m.image.now) last_mailbox) t)))

pub overflow_add-result : goal.overflow_add-result
overflow_add-result c =
    let a = c.args in
    let p = c.requires in
    let m = count_most (compared_at a.m.image.now a.f) last_mailbox in
    omega (arith, p.2)

pub returns-then-takes : goal.returns-then-takes
returns-then-takes c =
    let a = c.args in
    let p = c.requires in
    let n = seat (block_of a.m.image.now) last_mailbox in
    let t : compared_at a.m.image.now a.f last_mailbox ≡ true =
    sym (p.1 last_mailbox (omega arith)) ∙ top_up_lem a.pool c.ranges.pool.fits c.if-pool-lt2147483648.false in
    let m : takes a.m.image.now a.f n ≡ true =
    sym (takes_by_lam a.m.image.now a.f last_mailbox a.m.block a.m.of_image refl) ∙ sym c.takes.ensures ∙ c.if-takes.true in
    ap₂ At (c.seat.ensures ∙ ap (λ (x : Block). seat x last_mailbox) a.m.of_image) (ap (λ (x : ℕ). x + 1) p.2 ∙ sym (count_in (compared_at a.m.image.now a.f) last_mailbox t))
    ∙ sym (stops a.m.image.now a.f last_mailbox (omega arith) (hit a.m.image.now a.f n t m) p.3)

pub overflow_add-result-2 : goal.overflow_add-result-2
overflow_add-result-2 c =
    let a = c.args in
    let p = c.requires in
    let m = count_most (compared_at a.m.image.now a.f) last_mailbox in
    omega (arith, p.2)

pub returns : goal.returns
returns c =
    let a = c.args in
    let p = c.requires in
    let n = seat (block_of a.m.image.now) last_mailbox in
    let t : compared_at a.m.image.now a.f last_mailbox ≡ true =
    sym (p.1 last_mailbox (omega arith)) ∙ top_up_lem a.pool c.ranges.pool.fits c.if-pool-lt2147483648.false in
    let m : takes a.m.image.now a.f n ≡ false =
    sym (takes_by_lam a.m.image.now a.f last_mailbox a.m.block a.m.of_image refl) ∙ sym c.takes.ensures ∙ c.if-takes.false in
    ap Missing (ap (λ (x : ℕ). x + 1) p.2 ∙ sym (count_in (compared_at a.m.image.now a.f) last_mailbox t))
    ∙ sym (passes a.m.image.now a.f (below_more _ last_mailbox p.3 (not_taking a.m.image.now a.f n m)))
