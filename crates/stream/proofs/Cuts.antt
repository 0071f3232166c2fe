-- Bytes one after the other: what is left and what is printed do not hang on where they are cut; once it is over nothing happens.
use Prim.Native.Nat.{ℕ}
use mathlib.Core.Path.{◌≡◌, refl, sym, ◌∙◌, ap}
use mathlib.Core.List.{List, [], ◌∷◌, ◌++◌, append_assoc}
use Rattle.stream.specs.Stream.{Standing, Turn, over, turn, fed, printed, complete}
use Rattle.stream.proofs.Turns.{turn-over}

pub fed-append : (σ : Standing) (p q : List ℕ) → fed σ (p ++ q) ≡ fed (fed σ p) q
unfolding fed
fed-append σ [] q = refl
fed-append σ (x ∷ p) q = fed-append (turn σ x).next p q

pub printed-append : (σ : Standing) (p q : List ℕ) → printed σ (p ++ q) ≡ printed σ p ++ printed (fed σ p) q
unfolding fed printed
printed-append σ [] q = refl
printed-append σ (x ∷ p) q =
    ap (λ (l : List ℕ). (turn σ x).text ++ l) (printed-append (turn σ x).next p q)
    ∙ sym (append_assoc (turn σ x).text (printed (turn σ x).next p) (printed (fed (turn σ x).next p) q))

module _ (σ : Standing) (h : σ.section ≡ over) where
  pub fed-over : (l : List ℕ) → fed σ l ≡ σ
  unfolding fed
  fed-over [] = refl
  fed-over (x ∷ l) = ap (λ (t : Turn). fed t.next l) (turn-over σ x h) ∙ fed-over l

  pub printed-over : (l : List ℕ) → printed σ l ≡ []
  unfolding printed
  printed-over [] = refl
  printed-over (x ∷ l) = ap (λ (t : Turn). t.text ++ printed t.next l) (turn-over σ x h) ∙ printed-over l

  pub complete-over : (l : List ℕ) → complete σ l ≡ []
  unfolding complete
  complete-over [] = refl
  complete-over (x ∷ l) = ap (λ (t : Turn). t.ran ++ complete t.next l) (turn-over σ x h) ∙ complete-over l
