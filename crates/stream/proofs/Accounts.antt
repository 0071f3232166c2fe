-- Every byte is accounted for: nothing that is complete is kept back, and the fault completes nothing.
use Prim.Native.Nat.{ℕ, ◌+◌, ◌-◌, ◌*◌, ◌<◌}
use mathlib.Core.Path.{◌≡◌, refl, sym, ◌∙◌, ap, ap₂}
use mathlib.Core.Bool.{Bool, true, false, cond}
use mathlib.Core.List.{List, [], ◌∷◌, ◌++◌, append-nil}
use mathlib.Core.Logic.{◌≢◌}
use native.Mathlib.Omega.{arith}
use lib.Dec.{eqb}
use lib.ListN.{length}
use borrow.Author.Tests.{eqb-true, eqb-false, eq-eqb, ne_eqb}
use Rattle.words.proofs.Bytes.{Bytes, bytes_tail}
use Rattle.trace.specs.Trace.{count_at}
use Rattle.stream.specs.Stream.{Standing, Turn, over, opened, runs, turn, fed, complete}
use Rattle.stream.specs.Calls.{known}
use Rattle.stream.specs.Terms.{Ready}
use Rattle.stream.specs.Agreement.{Accounted, FaultLast}
use Rattle.stream.proofs.Cuts.{fed-append, fed-over, complete-over}
use Rattle.stream.proofs.Ready.{opened-ready, turn-ready, fed-ready, gathered-few, whole-count, length-with}
use Rattle.stream.proofs.Story.{complete-append, story}
use Rattle.stream.proofs.Cases.{Kind, still, surplus, low, many, counted, misplaced, more, last, with}
use Rattle.stream.proofs.Turns.{kind}

-- so many bytes lead to a standing
abbrev account : Standing → ℕ
account σ = 2 * known σ.section σ.left + 16 * σ.steps + length σ.gathered

known-onward : (k l : ℕ) → known (cond (eqb l 0) (k + 1) k) l ≡ k
known-onward k l = to (eqb l 0)
  where
    to : (a : Bool) → cond a (cond a (k + 1) k - 1) (cond a (k + 1) k) ≡ k
    to true = omega arith
    to false = refl

module _ (σ : Standing) (d : Ready σ) (x : ℕ) where
  known-none : σ.left ≡ 0 → known σ.section σ.left ≡ σ.section - 1
  known-none h = rw (eq-eqb σ.left 0 h)

  known_some : 0 < σ.left → known σ.section σ.left ≡ σ.section
  known_some h = rw (ne_eqb σ.left 0 (λ e. omega arith))

  -- each byte counts once, unless it is over
  one_more : {t : Turn} → Kind σ x t → t.next.section ≢ over → account t.next ≡ account σ + 1
  unfolding runs
  one_more (still h) n = absurd (n h)
  one_more (surplus h) n = absurd (n refl)
  one_more (low h z l) n = omega (arith, length-with σ x)
  one_more (many h z l m) n = absurd (n refl)
  one_more (counted h z l m) n =
      let w = whole-count σ.section σ.left (λ e. omega arith) z in
      omega (arith, known-onward σ.section (count_at (with σ x) 0), known-none z, d.first, d.short, w, l, length-with σ x)
  one_more (misplaced h z p) n = absurd (n refl)
  one_more (more h z p l) n = omega (arith, length-with σ x)
  one_more (last h z p l) n =
      omega (arith, known-onward σ.section (σ.left - 1), known_some z, gathered-few σ d, l, length-with σ x)

-- one that is not over later was not before
not-before : (σ : Standing) (l : List ℕ) → (fed σ l).section ≢ over → σ.section ≢ over
not-before σ l h e = h (ap (λ (τ : Standing). τ.section) (fed-over σ e l) ∙ e)

accounted_from : (σ : Standing) → Ready σ → (l : List ℕ) → Bytes l → (fed σ l).section ≢ over → account (fed σ l) ≡ account σ + length l
unfolding fed
accounted_from σ d [] b h = omega arith
accounted_from σ d (x ∷ l) b h =
    let τ = (turn σ x).next in
    omega
    (arith, accounted_from τ (turn-ready σ d x (b.small 0)) l (bytes_tail b) h, one_more σ d x (kind σ x d.last) (not-before τ l h))

pub accounted : Accounted
accounted p b h =
    let σ = fed opened p in
    let a = accounted_from opened opened-ready p b (eqb-false σ.section over h) in
    let n = (story opened (omega arith) p).steps_are h in
    record { bytes = omega (arith, a, n); waiting = omega (arith, gathered-few σ (fed-ready opened opened-ready p b)) }

-- ---- the fault

module _ (σ : Standing) (x : ℕ) where
  ran-none : {t : Turn} → Kind σ x t → σ.section ≢ over → t.next.section ≡ over → t.ran ≡ []
  unfolding runs
  ran-none (still h) n e = refl
  ran-none (surplus h) n e = refl
  ran-none (low h z l) n e = refl
  ran-none (many h z l m) n e = refl
  ran-none (counted h z l m) n e = refl
  ran-none (misplaced h z p) n e = refl
  ran-none (more h z p l) n e = refl
  ran-none (last h z p l) n e = absurd (to (eqb (σ.left - 1) 0) e)
    where
      to : (a : Bool) → cond a (σ.section + 1) σ.section ≡ over → ⊥
      to true e = omega arith
      to false e = omega arith

pub fault-last : FaultLast
fault-last p x r b h e =
    unfold fed complete in
    let σ = fed opened p in
    let d = fed-ready opened opened-ready p b in
    let o : (turn σ x).next.section ≡ over = sym (ap (λ (τ : Standing). τ.section) (fed-append opened p (x ∷ []))) ∙ eqb-true _ _ e in
    complete-append opened p (x ∷ r)
    ∙ ap (λ (es : List (List ℕ)). complete opened p ++ es)
    (ap₂ (λ (a c : List (List ℕ)). a ++ c) (ran-none σ x (kind σ x d.last) (eqb-false σ.section over h) o) (complete-over (turn σ x).next o r))
    ∙ append-nil (complete opened p)
