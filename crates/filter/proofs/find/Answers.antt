use Prim.Native.Nat.{ℕ, ◌+◌, ◌<◌}
use mathlib.Core.Path.{◌≡◌, sym, ◌∙◌, ap, subst}
use native.Mathlib.Nat.{add_assoc}
use native.Mathlib.Omega.{arith}
use borrow.Author.Rules.{rules}
use borrow.Author.Tests.{eq-eqb, ne_eqb}
use Rattle.bits.specs.Bit.{bit}
use Rattle.registers.specs.declared.Block.{Block}
use Rattle.filter.specs.declared.Found.TheVariants.{At}
use Rattle.filter.specs.Filter.{candidates, last_mailbox, seat, compared_at}
use Rattle.filter.proofs.Rest.{rest_all, rest_more, bit-here, bit-after, both_passed}
use Rattle.filter.proofs.Walk.{Walked, walk_starts, walked_most, passes_over, passes_by, stops_at, walk_counted, walk_none}
use Rattle.filter.proofs.find.Goals.{After-turned-pool, Else-rest-eq0, Joined-rest-eq1, then-rest-eq1+else-takes, else-rest-eq1, then-rest-eq1-2+else-takes-2, else-rest-eq1-2}
use Rattle.filter.proofs.find.Goals as goal

-- bit k of the turned candidates is that of the mailbox at place k
pooled : (c : After-turned-pool) → (k : ℕ) → k < 32 → bit c.turned-pool.result k ≡ compared_at c.args.m.image.now c.args.f k
pooled c k h =
    let a = c.args in
    c.turned-pool.ensures k h
    ∙ ap (λ (x : ℕ). bit x (seat a.m.block k)) c.candidates.ensures
    ∙ ap (λ (x : Block). bit (candidates x a.f) (seat x k)) a.m.of_image

-- where something is left, k is a place before the last
more : (c : Else-rest-eq0) → c.loop-rest.k < last_mailbox
more c =
    let l = c.loop-rest in
    rest_more last_mailbox c.turned-pool.result l.k (λ z. c.if-rest-eq0.false (l.invariant.0 ∙ z))

-- place k is passed
first : (c : Joined-rest-eq1) → Walked c.args.m.image.now c.args.f c.turned-pool.result (c.loop-rest.k + 1) c.if-rest-eq1.count
first c =
    let l = c.loop-rest in
    let a = c.args in
    let g = c.turned-pool.result in
    let e = pooled (goal.at.Joined-rest-eq1 c).After-turned-pool in
    let t = bit-here last_mailbox g l.rest l.k l.invariant.0 in
    elim c.if-rest-eq1.branch [
      | then-rest-eq1+else-takes w ↦
          subst (Walked a.m.image.now a.f g (l.k + 1)) (sym w.count-is)
          (passes_by a.m.image.now a.f a.m.block a.m.of_image g e l.k l.count l.invariant.1
          (sym t ∙ eq-eqb _ _ w.if-rest-eq1.true) (sym w.takes.ensures ∙ w.if-takes.false))
      | else-rest-eq1 w ↦
          subst (Walked a.m.image.now a.f g (l.k + 1)) (sym w.count-is)
          (passes_over a.m.image.now a.f a.m.block a.m.of_image g e l.k l.count l.invariant.1
          (sym t ∙ ne_eqb _ _ w.if-rest-eq1.false))
    ]

pub loop-rest-init : goal.loop-rest-init
loop-rest-init c = (rest_all last_mailbox c.turned-pool.result, walk_starts _ _ _)

-- nothing is left: no mailbox from place k on, before the last, is compared
pub last-requires : goal.last-requires
last-requires c =
    let l = c.loop-rest in
    let a = c.args in
    let g = c.turned-pool.result in
    let e = pooled (goal.at.last-requires c).After-turned-pool in
    let z = sym l.invariant.0 ∙ c.if-rest-eq0.true in (
      c.requires,
      e,
      walk_counted a.m.image.now a.f a.m.block a.m.of_image g e l.k l.count l.invariant.1 z,
      walk_none a.m.image.now a.f a.m.block a.m.of_image g e l.k l.count l.invariant.1 z,
    )

pub overflow_add-count : goal.overflow_add-count
overflow_add-count c =
    let h = more (goal.at.overflow_add-count c).Else-rest-eq0 in
    let m = walked_most _ _ _ _ _ c.loop-rest.invariant.1 in
    omega arith

pub takes-requires : goal.takes-requires
takes-requires c = let h = more (goal.at.takes-requires c).Else-rest-eq0 in search rules

pub seat-requires : goal.seat-requires
seat-requires c = let h = more (goal.at.seat-requires c).Else-rest-eq0 in search rules

pub overflow_add-count-then-rest-eq1-2 : goal.overflow_add-count-then-rest-eq1-2
overflow_add-count-then-rest-eq1-2 c =
    let h = more (goal.at.overflow_add-count-then-rest-eq1-2 c).Else-rest-eq0 in
    let m = walked_most _ _ _ _ _ (first (goal.at.overflow_add-count-then-rest-eq1-2 c).Joined-rest-eq1) in
    omega arith

pub overflow_add-k : goal.overflow_add-k
overflow_add-k c = let h = more (goal.at.overflow_add-k c).Else-rest-eq0 in search rules

pub takes-requires-then-rest-eq1-2 : goal.takes-requires-then-rest-eq1-2
takes-requires-then-rest-eq1-2 c = let h = more (goal.at.takes-requires-then-rest-eq1-2 c).Else-rest-eq0 in search rules

pub overflow_add-k-then-takes-2 : goal.overflow_add-k-then-takes-2
overflow_add-k-then-takes-2 c = let h = more (goal.at.overflow_add-k-then-takes-2 c).Else-rest-eq0 in search rules

pub seat-requires-then-takes-2 : goal.seat-requires-then-takes-2
seat-requires-then-takes-2 c = let h = more (goal.at.seat-requires-then-takes-2 c).Else-rest-eq0 in search rules

pub overflow_add-k-in-loop-rest : goal.overflow_add-k-in-loop-rest
overflow_add-k-in-loop-rest c = let h = more (goal.at.overflow_add-k-in-loop-rest c).Else-rest-eq0 in search rules

pub loop-rest-preserved : goal.loop-rest-preserved
loop-rest-preserved c =
    let l = c.loop-rest in
    let a = c.args in
    let g = c.turned-pool.result in
    let e = pooled (goal.at.loop-rest-preserved c).After-turned-pool in
    let t = bit-after last_mailbox g l.rest l.k l.invariant.0 in (
      both_passed last_mailbox g l.rest l.k l.invariant.0,
      subst (λ (m : ℕ). Walked a.m.image.now a.f g m c.if-rest-eq1-2.count) (add_assoc l.k 1 1)
          (elim c.if-rest-eq1-2.branch [
            | then-rest-eq1-2+else-takes-2 w ↦
                subst (Walked a.m.image.now a.f g (l.k + 1 + 1)) (sym w.count-is)
                (passes_by a.m.image.now a.f a.m.block a.m.of_image g e (l.k + 1) c.if-rest-eq1.count (first (goal.at.loop-rest-preserved c).Joined-rest-eq1)
                (sym t ∙ eq-eqb _ _ w.if-rest-eq1-2.true) (sym w.takes-then-rest-eq1-2.ensures ∙ w.if-takes-2.false))
            | else-rest-eq1-2 w ↦
                subst (Walked a.m.image.now a.f g (l.k + 1 + 1)) (sym w.count-is)
                (passes_over a.m.image.now a.f a.m.block a.m.of_image g e (l.k + 1) c.if-rest-eq1.count (first (goal.at.loop-rest-preserved c).Joined-rest-eq1)
                (sym t ∙ ne_eqb _ _ w.if-rest-eq1-2.false))
          ]),
    )

pub returns-then-rest-eq0 : goal.returns-then-rest-eq0
returns-then-rest-eq0 c = c.last.ensures

pub returns-then-takes : goal.returns-then-takes
returns-then-takes c =
    let l = c.loop-rest in
    let a = c.args in
    let g = c.turned-pool.result in
    ap (λ (n : ℕ). At n (l.count + 1)) c.seat.ensures
    ∙ stops_at a.m.image.now a.f a.m.block a.m.of_image g (pooled (goal.at.returns-then-takes c).After-turned-pool) l.k l.count l.invariant.1
    (sym (bit-here last_mailbox g l.rest l.k l.invariant.0) ∙ eq-eqb _ _ c.if-rest-eq1.true)
    (sym c.takes.ensures ∙ c.if-takes.true)

pub returns-then-takes-2 : goal.returns-then-takes-2
returns-then-takes-2 c =
    let l = c.loop-rest in
    let a = c.args in
    let g = c.turned-pool.result in
    ap (λ (n : ℕ). At n (c.if-rest-eq1.count + 1)) c.seat-then-takes-2.ensures
    ∙ stops_at a.m.image.now a.f a.m.block a.m.of_image g (pooled (goal.at.returns-then-takes-2 c).After-turned-pool) (l.k + 1) c.if-rest-eq1.count (first (goal.at.returns-then-takes-2 c).Joined-rest-eq1)
    (sym (bit-after last_mailbox g l.rest l.k l.invariant.0) ∙ eq-eqb _ _ c.if-rest-eq1-2.true)
    (sym c.takes-then-rest-eq1-2.ensures ∙ c.if-takes-2.true)
