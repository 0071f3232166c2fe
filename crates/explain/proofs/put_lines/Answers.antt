use Prim.Native.Nat.{ℕ, ◌+◌, ◌<◌, ◌≤◌}
use mathlib.Core.Path.{◌≡◌, refl, sym, ◌∙◌, ap}
use native.Mathlib.Omega.{arith}
use lib.ListN.{length}
use borrow.Author.Count.{below_none as below-first, below_more}
use Rattle.texts.specs.Text.{written, Put}
use Rattle.texts.proofs.Writing.{as_text, both_put, kept}
use Rattle.registers.specs.declared.Block.{Block}
use Rattle.registers.specs.Block.{block_of}
use Rattle.filter.specs.Filter.{seat}
use Rattle.filter.proofs.Search.{seat_lt}
use Rattle.explain.specs.declared.Reason.{Reason}
use Rattle.explain.specs.Explain.{is_matched, lines_below, line_bytes, list_bytes}
use Rattle.explain.specs.Terms.{reason_by}
use Rattle.explain.proofs.Lines.{text-next, none_below, below_bytes, matched_at, matched-ends, none-ends}
use Rattle.explain.proofs.put_lines.Goals.{After-is_matched, After-seat-n}
use Rattle.explain.proofs.put_lines.Goals as goal

-- the mailbox at place k
seated : (c : After-seat-n) → c.seat-n.result ≡ seat (block_of c.args.m.image.now) c.loop-k.k
seated c = c.seat-n.ensures ∙ ap (λ (b : Block). seat b c.loop-k.k) c.args.m.of_image

there : (c : After-seat-n) → c.seat-n.result < 32
there c = rw (seated c) (seat_lt (block_of c.args.m.image.now) c.loop-k.k (omega arith))

-- the line is written, and it is known whether it is the last
abbrev order : (c : After-is_matched) → ℕ → ℕ
order c = seat (block_of c.args.m.image.now)

abbrev reasons : (c : After-is_matched) → ℕ → Reason
reasons c = reason_by c.args.m.image.now c.args.f

next : (c : After-is_matched) → Put c.args.list.now 0 (list_bytes (lines_below (order c) (reasons c) (c.loop-k.k + 1))) c.put_line-at.new.list c.put_line-at.result
next c =
    let l = c.loop-k in
    let n = seated (goal.at.After-is_matched c).After-seat-n in
    let e = c.reason_at-reason.ensures ∙ ap (reasons c) n in
    as_text (sym (text-next (order c) (reasons c) l.k))
    (both_put l.invariant.0 (as_text (λ i. line_bytes (record { mailbox = n i; reason = e i })) c.put_line-at.ensures))

ended : (c : After-is_matched) → matched_at (order c) (reasons c) c.loop-k.k ≡ c.is_matched.result
ended c = sym (c.is_matched.ensures ∙ ap is_matched (c.reason_at-reason.ensures ∙ ap (reasons c) (seated (goal.at.After-is_matched c).After-seat-n)))

pub loop-k-init : goal.loop-k-init
unfolding written
loop-k-init c = (as_text (sym (none_below _ _)) (record { bytes = refl; behind = refl }), below-first _)

pub reason_at-reason-requires : goal.reason_at-reason-requires
reason_at-reason-requires c = (c.requires.0, there (goal.at.reason_at-reason-requires c).After-seat-n)

pub overflow_cast-n : goal.overflow_cast-n
overflow_cast-n c = omega (arith, there (goal.at.overflow_cast-n c).After-seat-n)

pub put_line-at-requires : goal.put_line-at-requires
put_line-at-requires c =
    let l = c.loop-k in
    let o = seat (block_of c.args.m.image.now) in
    let r = reason_by c.args.m.image.now c.args.f in
    let b : l.at ≡ 0 + length (list_bytes (lines_below o r l.k)) = l.invariant.0.behind in
    let f : 256 ≤ length c.args.list.now = c.requires.1 in
    let g : l.at + 8 ≤ length l.list = omega (arith, below_bytes o r l.k, kept l.invariant.0) in
    g

pub returns-then-is_matched : goal.returns-then-is_matched
returns-then-is_matched c =
    let l = c.loop-k in
    let d = (goal.at.returns-then-is_matched c).After-is_matched in
    as_text (ap list_bytes (sym (matched-ends (order d) (reasons d) l.k (omega arith) (ended d ∙ c.if-is_matched.true) l.invariant.1))) (next d)

pub loop-k-preserved : goal.loop-k-preserved
loop-k-preserved c =
    let l = c.loop-k in
    let d = (goal.at.loop-k-preserved c).After-is_matched in
    (next d, below_more _ l.k l.invariant.1 (ended d ∙ c.if-is_matched.false))

pub returns : goal.returns
returns c =
    let l = c.loop-k in
    let a = c.args in
    let o = seat (block_of a.m.image.now) in
    let r = reason_by a.m.image.now a.f in
    let e : l.k ≡ 32 = omega arith in
    as_text (ap (λ (k : ℕ). list_bytes (lines_below o r k)) e ∙ ap list_bytes (sym (none-ends o r (λ j h. l.invariant.1 j (omega arith))))) l.invariant.0
