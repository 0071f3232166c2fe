-- What one byte does, case by case.
use Prim.Native.Nat.{ℕ, ◌<◌, ◌≤◌}
use mathlib.Core.Path.{◌≡◌, refl}
use mathlib.Core.Bool.{Bool, true, false, cond}
use mathlib.Core.List.{List}
use native.Mathlib.Omega.{arith}
use lib.Dec.{eqb}
use lib.ListN.{length, get_or}
use borrow.Author.Tests.{eqb-true, eqb-false, eq-eqb, ne_eqb, lt-ltb, le-ltb}
use Rattle.trace.specs.Trace.{most_events, count_at, takes}
use Rattle.stream.specs.Stream.{Standing, behind, over, is_over, quietly, fault, waits, onward, counts, gathers, turn}
use Rattle.stream.proofs.Cases.{Kind, still, surplus, counts_kind, gathers_kind, with}

module _ (σ : Standing) (x : ℕ) where
  abbrev g : List ℕ
  g = with σ x

  pub kind : σ.section ≤ over → Kind σ x (turn σ x)
  unfolding turn
  kind h = to (is_over σ) refl (eqb σ.section behind) refl (eqb σ.left 0) refl
    where
      to : (a : Bool) → is_over σ ≡ a → (b : Bool) → eqb σ.section behind ≡ b → (c : Bool) → eqb σ.left 0 ≡ c
          → Kind σ x (cond a (quietly σ) (cond b (fault σ) (cond c (counts σ g) (gathers σ g))))
      to true p b q c r = still (eqb-true _ _ p)
      to false p true q c r = surplus (eqb-true _ _ q)
      to false p false q c r =
          let u = eqb-false σ.section over p in
          let v = eqb-false σ.section behind q in
          let inside : σ.section ≤ 3 = omega arith in
          left inside c r
        where
          left : σ.section ≤ 3 → (c : Bool) → eqb σ.left 0 ≡ c → Kind σ x (cond c (counts σ g) (gathers σ g))
          left i true e = counts_kind σ x i (eqb-true _ _ e)
          left i false e = let n = eqb-false σ.left 0 e in gathers_kind σ x i (omega arith)

  -- ---- the turn, where the case is known

  pub turn-over : σ.section ≡ over → turn σ x ≡ quietly σ
  unfolding turn
  turn-over h = rw (eq-eqb σ.section over h)

  pub turn-behind : σ.section ≡ behind → turn σ x ≡ fault σ
  unfolding turn
  turn-behind h = rw (ne_eqb σ.section over (λ e. omega arith), eq-eqb σ.section behind h)

  module _ (inside : σ.section ≤ 3) where
    pub turn-counts : σ.left ≡ 0 → turn σ x ≡ counts σ g
    unfolding turn
    turn-counts h =
        rw (ne_eqb σ.section over (λ e. omega arith), ne_eqb σ.section behind (λ e. omega arith), eq-eqb σ.left 0 h)

    pub turn-gathers : 0 < σ.left → turn σ x ≡ gathers σ g
    unfolding turn
    turn-gathers h =
        rw (ne_eqb σ.section over (λ e. omega arith), ne_eqb σ.section behind (λ e. omega arith), ne_eqb σ.left 0 (λ e. omega arith))

-- ---- the bytes of a count and of an event, where the case is known

module _ (σ : Standing) (g : List ℕ) where
  pub counts-low : length g < 2 → counts σ g ≡ waits σ g
  unfolding counts
  counts-low h = rw (lt-ltb (length g) 2 h)

  pub counts_many : 2 ≤ length g → most_events < count_at g 0 → counts σ g ≡ fault σ
  unfolding counts
  counts_many h m = rw (le-ltb (length g) 2 h, lt-ltb most_events (count_at g 0) m)

  pub counts_some : 2 ≤ length g → count_at g 0 ≤ most_events
      → counts σ g ≡ quietly (onward σ.section (count_at g 0) σ.steps σ.image)
  unfolding counts
  counts_some h m = rw (le-ltb (length g) 2 h, le-ltb most_events (count_at g 0) m)

  pub gathers-fault : takes σ.section (get_or g 0 0) ≡ false → gathers σ g ≡ fault σ
  unfolding gathers
  gathers-fault h = rw h
