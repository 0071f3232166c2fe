-- The code of the state bytes: what it writes there is the state of where the stream stands.
use Prim.Native.Nat.{ℕ, ◌-◌, ◌≤◌}
use mathlib.Core.Path.{◌≡◌, refl, sym, ◌∙◌, ap}
use mathlib.Core.List.{List, [], ◌++◌}
use mathlib.Core.Logic.{◌≢◌}
use native.Mathlib.Omega.{arith}
use lib.ListN.{length, take, drop, replicate, take-append-drop}
use lib.Seq.{length-take-le}
use borrow.Author.Tests.{eq-eqb, ne_eqb}
use Rattle.texts.specs.Text.{word_bytes, Put}
use Rattle.texts.proofs.Writing.{at_front, both_put}
use Rattle.trace.specs.Trace.{ending, refused_line}
use Rattle.stream.specs.declared.Reader.{Reader}
use Rattle.stream.specs.Stream.{at, behind, last_line}
use Rattle.stream.specs.Calls.{state_of}
use Rattle.stream.specs.Terms.{standing_by, Clean, numbers}

-- four words from the front on
pub numbers-put : (r : Reader) {t u v w x : List ℕ} {i j k m : ℕ} → length t ≡ 32 → Put t 0 (word_bytes r.section) u i → Put u i (word_bytes r.left) v j
    → Put v j (word_bytes r.steps) w k → Put w k (word_bytes r.seen) x m → x ≡ numbers r (drop 16 t)
numbers-put r l p1 p2 p3 p4 = at_front (omega arith) (both_put (both_put (both_put p1 p2) p3) p4)

-- they and the bytes in which is gathered are the state
pub state_made : (r : Reader) (e s : List ℕ) → length e ≡ 16 → r.seen ≤ 15 → Clean r.seen e → numbers r e ≡ state_of (standing_by r e s)
unfolding state_of
state_made r e s l f c =
    let g = take r.seen e in
    let a = word_bytes r.section in
    let b = word_bytes r.left in
    let d = word_bytes r.steps in
    ap (numbers r) (sym (take-append-drop r.seen e) ∙ ap (λ (z : List ℕ). g ++ z) c)
    ∙ ap (λ (k : ℕ). a ++ (b ++ (d ++ (word_bytes k ++ (g ++ replicate (16 - k) 0))))) (sym (length-take-le r.seen e (omega arith)))

-- nothing is read yet, or any more
pub state_anew : (k : ℕ) → numbers (record { section = k; left = 0; steps = 0; seen = 0 }) (replicate 16 0) ≡ state_of (at k 0 0 [] [])
unfolding state_of
state_anew k = refl

-- ---- the closing's line

pub end_line : (k l n : ℕ) → k ≡ behind → ending n ≡ last_line (at k l n [] [])
unfolding last_line
end_line k l n h = rw (eq-eqb k behind h)

pub short-line : (k l n : ℕ) → k ≢ behind → refused_line ≡ last_line (at k l n [] [])
unfolding last_line
short-line k l n h = rw (ne_eqb k behind h)
