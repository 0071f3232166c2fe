-- Bytes of an event, several at once: none of them, or the last completes it, or its first is the fault.
use Prim.Native.Nat.{ℕ, ◌+◌, ◌-◌, ◌<◌, ◌≤◌}
use mathlib.Core.Path.{◌≡◌, refl, sym, ◌∙◌, ap, ap₂}
use mathlib.Core.Bool.{Bool, true, false, cond, false≢true}
use mathlib.Core.List.{List, [], ◌∷◌, ◌++◌, append-nil}
use native.Mathlib.Omega.{arith}
use lib.Dec.{eqb}
use lib.ListN.{length, get_or}
use borrow.Author.Tests.{ne_eqb}
use Rattle.model.specs.Step.{step}
use Rattle.trace.specs.Trace.{takes, line, lines, refused_line}
use Rattle.stream.specs.Stream.{Standing, Turn, at, over, is_over, ended, onward, fed, printed, complete}
use Rattle.stream.proofs.Turns.{turn-gathers, gathers-fault}
use Rattle.stream.proofs.Cuts.{fed-over, printed-over}
use Rattle.stream.proofs.Story.{story}
use Rattle.stream.proofs.Walk.{gather, event}

-- onward is never over
onward_on : (k l n : ℕ) (s : List ℕ) → k ≤ 3 → is_over (onward k l n s) ≡ false
onward_on k l n s h = to (eqb l 0)
  where
    to : (a : Bool) → eqb (cond a (k + 1) k) over ≡ false
    to true = ne_eqb (k + 1) over (λ e. omega arith)
    to false = ne_eqb k over (λ e. omega arith)

module _ (k : ℕ) (inside : k ≤ 3) (l n : ℕ) (s : List ℕ) (some : 0 < l) where
  abbrev gathering : List ℕ → Standing
  gathering g = at k l n g s

  -- what is printed, by what is completed
  told : (g r : List ℕ) {τ : Standing} {es : List (List ℕ)} → fed (gathering g) r ≡ τ → complete (gathering g) r ≡ es → is_over τ ≡ false
      → printed (gathering g) r ≡ lines (n + 1) s es
  told g r {τ} {es} a b c =
      (story (gathering g) (omega arith) r).text_is
      ∙ ap₂ (λ (x : List (List ℕ)) (σ : Standing). lines (n + 1) s x ++ cond (is_over σ) refused_line []) b a
      ∙ rw c (append-nil (lines (n + 1) s es))

  module _ (g r : List ℕ) (here : 0 < length r) where
    pub not_yet : length g + length r ≤ 15 → takes k (get_or (g ++ r) 0 0) ≡ true → (fed (gathering g) r ≡ gathering (g ++ r)) × (printed (gathering g) r ≡ [])
    unfolding lines
    not_yet h t =
        let w = gather k inside l n s some g r h (λ z. t) in
        (w.to, told g r w.to w.done (ne_eqb k over (λ e. omega arith)))

    pub completed : length g + length r ≡ 16 → takes k (get_or (g ++ r) 0 0) ≡ true
        → (fed (gathering g) r ≡ onward k (l - 1) (n + 1) (step s (g ++ r)).image) × (printed (gathering g) r ≡ line (n + 1) (step s (g ++ r)))
    unfolding lines
    completed h t =
        let w = event k inside l n s some g r here h t in
        (w.to, told g r w.to w.done (onward_on k (l - 1) (n + 1) (step s (g ++ r)).image inside) ∙ append-nil (line (n + 1) (step s (g ++ r))))

  pub misplaced : (g r : List ℕ) → 0 < length r → (0 < length g → takes k (get_or g 0 0) ≡ true) → takes k (get_or (g ++ r) 0 0) ≡ false
      → (fed (gathering g) r ≡ ended s) × (printed (gathering g) r ≡ refused_line)
  misplaced (y ∷ g) r h f t = absurd (false≢true (sym t ∙ f (omega arith)))
  misplaced [] [] h f t = absurd (omega arith)
  misplaced [] (x ∷ r) h f t =
      unfold fed printed in
      let e = turn-gathers (gathering []) x inside some ∙ gathers-fault (gathering []) (x ∷ []) t in (
        ap (λ (t : Turn). fed t.next r) e ∙ fed-over (ended s) refl r,
        ap (λ (t : Turn). t.text ++ printed t.next r) e ∙ ap (λ (u : List ℕ). refused_line ++ u) (printed-over (ended s) refl r) ∙ append-nil refused_line,
      )
