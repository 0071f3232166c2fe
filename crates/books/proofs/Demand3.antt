-- Demand 3: after any events, for every mailbox, the book balances and the flag words say what it says.
use Prim.Native.Nat.{ℕ, ◌<◌}
use mathlib.Core.Path.{◌≡◌, refl, sym, ◌∙◌, ap, subst}
use mathlib.Core.Bool.{false}
use mathlib.Core.List.{List, [], ◌∷◌}
use lib.Dec.{lit≤}
use Rattle.bits.proofs.Laws.{bit-zero}
use Rattle.registers.specs.Block.{block_of}
use Rattle.fresh.specs.Fresh.{fresh_block, zero_image, fresh_image}
use Rattle.fresh.proofs.Good.{zero-length}
use Rattle.model.specs.Step.{step}
use Rattle.books.specs.Ledger.{Now, now, afters, empty}
use Rattle.books.specs.Happen.{happenings, run, history, left, booked, Demand3, flags, EachStep}
use Rattle.books.proofs.Balance.{Fairs, balance, books-now}
use Rattle.books.proofs.Follows.{Follows, Any, none, both}
use Rattle.books.proofs.Back.{look_back}
use Rattle.books.proofs.Step.{step_follows}

pub each_step : EachStep
unfolding EachStep
each_step s e m h = (step_follows s e m h).seen

-- a run follows by its history
run_follows : (m : ℕ) (s : List ℕ) (l : List (List ℕ)) → m < 32 → Follows Any m (block_of s) (block_of (run s l)) (history m s l)
unfolding run history
run_follows m s [] h = none m (block_of s) (block_of s) refl (λ k. k)
run_follows m s (e ∷ l) h =
    both m (block_of s) (block_of (step s e).image) _ (happenings s e m) (history m (step s e).image l) (step_follows s e m h)
    (run_follows m (step s e).image l h)

-- a fresh image has none of the flags
begin : (p m : ℕ) → m < 32 → flags m (fresh_image p) ≡ empty.now
unfolding fresh_image fresh_block
begin p m h =
    look_back m zero_image (fresh_block p) h zero-length (lit≤ tt) ∙ (λ i. now (bit-zero m i) (bit-zero m i) (bit-zero m i) false (bit-zero m i))

pub demand3 : Demand3
unfolding Demand3
demand3 p q events m h =
    let l = history m (fresh_image p) events in
    let f = run_follows m (fresh_image p) events h in
    let seen : flags m (left p events) ≡ (booked p m events).now = f.seen ∙ ap (λ (n : Now). afters n l) (begin p m h) ∙ sym (books-now empty l) in
    record {
      balanced = balance empty l (subst (λ (n : Now). Fairs n l) (begin p m h) f.fair) (record { frames = refl; requests = refl });
      pending = ap (λ (n : Now). n.held) seen;
      lost = ap (λ (n : Now). n.lost) seen;
      requested = ap (λ (n : Now). n.waiting) seen;
    }
