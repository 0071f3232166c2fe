-- What any bytes tell: the lines of the events that they complete, and the refusal line where there was a fault.
use Prim.Native.Nat.{ℕ, ◌+◌, ◌-◌, ◌≤◌}
use mathlib.Core.Path.{◌≡◌, refl, sym, ◌∙◌, ap}
use mathlib.Core.Bool.{Bool, true, false, cond, false≢true}
use mathlib.Core.List.{List, [], ◌∷◌, ◌++◌, append_assoc}
use native.Mathlib.Omega.{arith}
use lib.Dec.{eqb}
use lib.ListN.{length}
use borrow.Author.Tests.{ne_eqb}
use Rattle.model.specs.Step.{step}
use Rattle.trace.specs.Trace.{count_at, line, lines, image_after, refused_line}
use Rattle.stream.specs.Stream.{Standing, Turn, behind, is_over, ended, fault, runs, turn, fed, printed, complete}
use Rattle.stream.proofs.Cuts.{fed-over, printed-over, complete-over}
use Rattle.stream.proofs.Cases.{Kind, still, surplus, low, many, counted, misplaced, more, last, with}
use Rattle.stream.proofs.Turns.{kind}

pub complete-append : (σ : Standing) (p q : List ℕ) → complete σ (p ++ q) ≡ complete σ p ++ complete (fed σ p) q
unfolding fed complete
complete-append σ [] q = refl
complete-append σ (x ∷ p) q =
    ap (λ (l : List (List ℕ)). (turn σ x).ran ++ l) (complete-append (turn σ x).next p q)
    ∙ sym (append_assoc (turn σ x).ran (complete (turn σ x).next p) (complete (fed (turn σ x).next p) q))

-- behind n steps, with the image s: the text, where it ends, and the events es
pub record Tale (n : ℕ) (s text : List ℕ) (end : Standing) (es : List (List ℕ)) : Type 0 where
  pub text_is : text ≡ lines (n + 1) s es ++ cond (is_over end) refused_line []
  pub image_is : end.image ≡ image_after s es
  pub steps_are : is_over end ≡ false → end.steps ≡ n + length es

abbrev pub Story : Standing → List ℕ → Type 0
Story σ l = Tale σ.steps σ.image (printed σ l) (fed σ l) (complete σ l)

onward_in : (k l : ℕ) → k ≤ 3 → cond (eqb l 0) (k + 1) k ≤ behind
onward_in k l h = to (eqb l 0)
  where
    to : (a : Bool) → cond a (k + 1) k ≤ behind
    to true = omega arith
    to false = omega arith

module _ (σ : Standing) (x : ℕ) (l : List ℕ) where
  abbrev After : Turn → Type 0
  After t = Tale σ.steps σ.image (t.text ++ printed t.next l) (fed t.next l) (t.ran ++ complete t.next l)

  faulty : After (fault σ)
  unfolding lines image_after
  faulty =
      let s = σ.image in
      let e = fed-over (ended s) refl l in
      record {
        text_is = rw (printed-over (ended s) refl l, complete-over (ended s) refl l, e);
        image_is = rw (complete-over (ended s) refl l, e);
        steps_are = λ h. absurd (false≢true (sym h ∙ ap is_over e));
      }

  ran : (e : List ℕ) → Story (runs σ e).next l → After (runs σ e)
  unfolding runs lines image_after
  ran e t =
      let τ = (runs σ e).next in
      let a = line (σ.steps + 1) (step σ.image e) in
      record {
        text_is = ap (λ (u : List ℕ). a ++ u) t.text_is ∙ sym (append_assoc a (lines (τ.steps + 1) τ.image (complete τ l)) _);
        image_is = t.image_is;
        steps_are = λ h. omega (arith, t.steps_are h);
      }

  told : σ.section ≤ behind → {t : Turn} → Kind σ x t → (t.next.section ≤ behind → Story t.next l) → After t
  unfolding runs
  told g (still h) r = absurd (omega arith)
  told g (surplus h) r = faulty
  told g (low h z m) r = r g
  told g (many h z m n) r = faulty
  told g (counted h z m n) r = r (onward_in σ.section (count_at (with σ x) 0) h)
  told g (misplaced h z p) r = faulty
  told g (more h z p m) r = r g
  told g (last h z p m) r = ran (with σ x) (r (onward_in σ.section (σ.left - 1) h))

pub story : (σ : Standing) → σ.section ≤ behind → (l : List ℕ) → Story σ l
unfolding fed printed complete
story σ h [] =
    unfold lines image_after in
    record { text_is = rw (ne_eqb σ.section 5 (λ e. omega arith)); image_is = refl; steps_are = λ e. omega arith }
story σ h (x ∷ l) = told σ x l h (kind σ x (omega arith)) (λ g. story (turn σ x).next g l)
