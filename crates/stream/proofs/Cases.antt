-- The cases of one byte, and that those of a count and of an event have it.
use Prim.Native.Nat.{ℕ, ◌<◌, ◌≤◌}
use mathlib.Core.Path.{◌≡◌, refl}
use mathlib.Core.Bool.{Bool, true, false, cond}
use mathlib.Core.List.{List, [], ◌∷◌, ◌++◌}
use lib.Dec.{ltb}
use lib.ListN.{length, get_or}
use borrow.Author.Tests.{ltb-true, ltb-false}
use Rattle.events.specs.Parts.{event_bytes}
use Rattle.trace.specs.Trace.{most_events, count_at, takes}
use Rattle.stream.specs.Stream.{Standing, Turn, behind, over, quietly, fault, waits, onward, counts, runs, gathers}

-- what has come, with the byte
abbrev pub with : Standing → ℕ → List ℕ
with σ x = σ.gathered ++ (x ∷ [])

-- it is over; a byte behind the third section; the low byte of a count; too high a count, an allowed one; an event's first byte that may not
-- stand there; a byte of an event; its last
pub data Kind (σ : Standing) (x : ℕ) : Turn → Type 0 where
  still : σ.section ≡ over → Kind σ x (quietly σ)
  surplus : σ.section ≡ behind → Kind σ x (fault σ)
  low : σ.section ≤ 3 → σ.left ≡ 0 → length (with σ x) < 2 → Kind σ x (waits σ (with σ x))
  many : σ.section ≤ 3 → σ.left ≡ 0 → 2 ≤ length (with σ x) → most_events < count_at (with σ x) 0 → Kind σ x (fault σ)
  counted : σ.section ≤ 3 → σ.left ≡ 0 → 2 ≤ length (with σ x) → count_at (with σ x) 0 ≤ most_events
      → Kind σ x (quietly (onward σ.section (count_at (with σ x) 0) σ.steps σ.image))
  misplaced : σ.section ≤ 3 → 0 < σ.left → takes σ.section (get_or (with σ x) 0 0) ≡ false → Kind σ x (fault σ)
  more : σ.section ≤ 3 → 0 < σ.left → takes σ.section (get_or (with σ x) 0 0) ≡ true → length (with σ x) < event_bytes → Kind σ x (waits σ (with σ x))
  last : σ.section ≤ 3 → 0 < σ.left → takes σ.section (get_or (with σ x) 0 0) ≡ true → event_bytes ≤ length (with σ x) → Kind σ x (runs σ (with σ x))

module _ (σ : Standing) (x : ℕ) where
  abbrev g : List ℕ
  g = with σ x

  pub counts_kind : σ.section ≤ 3 → σ.left ≡ 0 → Kind σ x (counts σ g)
  unfolding counts
  counts_kind h z = to (ltb (length g) 2) refl (ltb most_events (count_at g 0)) refl
    where
      to : (a : Bool) → ltb (length g) 2 ≡ a → (b : Bool) → ltb most_events (count_at g 0) ≡ b
          → Kind σ x (cond a (waits σ g) (cond b (fault σ) (quietly (onward σ.section (count_at g 0) σ.steps σ.image))))
      to true p b q = low h z (ltb-true _ _ p)
      to false p true q = many h z (ltb-false _ _ p) (ltb-true _ _ q)
      to false p false q = counted h z (ltb-false _ _ p) (ltb-false _ _ q)

  pub gathers_kind : σ.section ≤ 3 → 0 < σ.left → Kind σ x (gathers σ g)
  unfolding gathers
  gathers_kind h z = to (takes σ.section (get_or g 0 0)) refl (ltb (length g) event_bytes) refl
    where
      to : (a : Bool) → takes σ.section (get_or g 0 0) ≡ a → (b : Bool) → ltb (length g) event_bytes ≡ b
          → Kind σ x (cond a (cond b (waits σ g) (runs σ g)) (fault σ))
      to false p b q = misplaced h z p
      to true p true q = more h z p (ltb-true _ _ q)
      to true p false q = last h z p (ltb-false _ _ q)
