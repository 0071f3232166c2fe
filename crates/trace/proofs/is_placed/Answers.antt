use Rattle.std.proofs.Common.{◌≡◌, ℕ, zero, suc, Bool, rules, arith, List, ◌+◌, ◌*◌, ◌&&◌, get_or, refl, ap, ◌∙◌}
use Rattle.std.specs.List.{list_all, range_with_len}
use Rattle.std.proofs.lemmas.Iterator.{YieldsList-from_range}
use Rattle.std.proofs.lemmas.Iterator.Search.{all_from_yields_List}
use borrow.Author.Tests.{tests}
use Rattle.trace.specs.Trace.{placed, takes}
use Rattle.trace.proofs.is_placed.Goals as goal

-- the test of the event with that index, and the events from an index on
abbrev in_place : ℕ → List ℕ → ℕ → ℕ → Bool
in_place k f from i = takes k (get_or f (from + 16 * i) 0)

placed_all : (k : ℕ) (f : List ℕ) (from a n : ℕ) → list_all (in_place k f from) (range_with_len a n) ≡ placed k f (from + 16 * a) n
unfolding placed
placed_all k f from a zero = refl
placed_all k f from a (suc n) =
    let e : from + 16 * (a + 1) ≡ from + 16 * a + 16 = omega arith in
    ap (λ (b : Bool). in_place k f from a && b) (placed_all k f from (a + 1) n ∙ ap (λ (x : ℕ). placed k f x n) e)

pub returns : goal.returns
returns c =
    let k = c.args.k in
    let f = c.args.file.now in
    let from = c.args.from in
    let e : from + 16 * 0 ≡ from = omega arith in
    all_from_yields_List (in_place k f from) _ _ _ c.all.ensures.ran (YieldsList-from_range 0 c.args.n c.args.n refl (omega arith)) (λ x b q h. search (rules, tests))
    ∙ placed_all k f from 0 c.args.n ∙ ap (λ (x : ℕ). placed k f x c.args.n) e
