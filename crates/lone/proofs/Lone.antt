-- Runs of a tool alone.
use Prim.Native.Nat.{ℕ, zero, suc, ◌+◌, ◌*◌, ◌<◌, ◌≤◌}
use mathlib.Core.Path.{◌≡◌, refl, sym, ◌∙◌, ap}
use mathlib.Core.List.{List, [], ◌∷◌}
use mathlib.Core.Logic.{inl, inr}
use native.Mathlib.Decide.{ℕ_discrete, dec_lt}
use native.Mathlib.Omega.{arith}
use lib.Dec.{eqb, lit<, lit≤}
use borrow.Author.Tests.{eqb-true, eq-eqb, ne_eqb, lt-ltb, le-ltb}
use Rattle.bits.proofs.Tests.{same_test}
use Rattle.model.specs.Step.{step}
use Rattle.books.specs.Happen.{run}
use Rattle.rules.specs.Words.{words, at_most, TEC, REC}
use Rattle.rules.specs.Sending.{unacknowledged_tec}
use Rattle.lone.specs.Lone.{tries, AllAlone, Ready, Stays, Never, Settles, Rises, Off}
use Rattle.lone.proofs.Steps.{step-bytes, below}
use Rattle.lone.proofs.Try.{plain_bytes, second, error_tried, unacknowledged_tried}

pub stays : Stays
unfolding Stays run
stays s b h [] a = h
stays s b h (e ∷ l) a =
    let y = a.0.0 in
    stays (step s e).image (step-bytes s e b y) (below s e b y h a.0) l a.1

all_alone : (n : ℕ) → AllAlone (tries 3 n)
all_alone zero = tt
all_alone (suc n) =
    ((plain_bytes 3 0 (lit< tt) (lit< tt), inl refl), ((plain_bytes 4 3 (lit< tt) (lit< tt), inr (refl, refl)), all_alone n))

pub never : Never
unfolding Never Stays
never s b h n =
    let k = stays s b h (tries 3 n) (all_alone n) in
    ne_eqb (words (run s (tries 3 n)) TEC) 256 (λ e. omega arith)

full : (x : ℕ) → 128 ≤ x → at_most 128 x ≡ 128
full x h = at (dec_lt 128 x)
  where
    at : Dec (128 < x) → at_most 128 x ≡ 128
    at (yes l) = rw (lt-ltb 128 x l)
    at (no l) = rw (le-ltb 128 x (omega arith)) (omega arith)

-- TEC 8 * j before a try: at 16 it stays, below it rises
settles_on : (s x : List ℕ) (j n end : ℕ) → j ≤ 16 → words s TEC ≡ 8 * j → words s REC ≤ 127 → words x TEC ≡ unacknowledged_tec (words s)
    → ((k : ℕ) → k ≤ 16 → words x TEC ≡ 8 * k → end ≡ at_most 128 (8 * (k + n))) → end ≡ at_most 128 (8 * (j + suc n))
settles_on s x j n end h e l u rest = at (ℕ_discrete j 16)
  where
    at : Dec (j ≡ 16) → end ≡ at_most 128 (8 * (j + suc n))
    at (yes q) =
        rest 16 (lit≤ tt) (u ∙ rw (lt-ltb 127 (words s TEC) (omega arith)) (omega arith))
        ∙ full (8 * (16 + n)) (omega arith)
        ∙ sym (full (8 * (j + suc n)) (omega arith))
    at (no q) =
        let counted : suc j + n ≡ j + suc n = omega arith in
        rest (suc j) (omega arith) (u ∙ rw (le-ltb 127 (words s TEC) (omega arith), le-ltb 127 (words s REC) l) (omega arith))
        ∙ ap (λ (x : ℕ). at_most 128 (8 * x)) counted

settles_from : (s : List ℕ) (m : ℕ) → Ready s m → (j : ℕ) → j ≤ 16 → words s TEC ≡ 8 * j → words s REC ≤ 127 → (n : ℕ)
    → words (run s (tries 3 n)) TEC ≡ at_most 128 (8 * (j + n))
unfolding run
settles_from s m r j h e l zero = rw (le-ltb 128 (8 * (j + 0)) (omega arith)) (omega arith)
settles_from s m r j h e l (suc n) =
    let t = unacknowledged_tried s m r (omega arith) in
    settles_on s (second s 3) j n _ h e l t.1 (λ k g q. settles_from (second s 3) m t.0 k g q (omega (arith, t.2)) n)

pub settles : Settles
unfolding Settles
settles s m r z h n =
    let all : 0 + n ≡ n = omega arith in
    settles_from s m r 0 (lit≤ tt) z h n ∙ ap (λ (x : ℕ). at_most 128 (8 * x)) all

pub rises : Rises
unfolding Rises run
rises s m r zero h = omega arith
rises s m r (suc n) h =
    let t = error_tried s m r (omega arith) in
    let up : words (second s 2) TEC ≡ words s TEC + 8 = t.1 ∙ rw (le-ltb 256 (words s TEC + 8) (omega arith)) in
    let rest = rises (second s 2) m t.0 n (omega arith) in
    omega arith

pub off : Off
unfolding Off Rises
off s m r z n h =
    let up = rises s m r n (omega arith) in
    let tec = words (run s (tries 2 n)) TEC in
    same_test (eqb tec 256) (eqb n 32)
    (λ e. eq-eqb n 32 (let q = eqb-true tec 256 e in omega arith))
    (λ e. eq-eqb tec 256 (let q = eqb-true n 32 e in omega arith))
