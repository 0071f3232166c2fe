-- Lists of tests: all hold, one follows from another, two are the same.
use mathlib.Core.Path.{◌≡◌, refl, sym}
use mathlib.Core.Bool.{Bool, true, false, ◌&&◌, ◌||◌, false≢true}
use mathlib.Core.List.{List, [], ◌∷◌}
use Rattle.bits.specs.Tests.{every, every_from, implies}
use Rattle.bits.proofs.Sets.{and_l, and_r}

abbrev pub All : List Bool → Type 0
All [] = Unit
All (a ∷ l) = (a ≡ true) × (All l)

every-all : (t : Bool) (l : List Bool) → every_from t l ≡ true → (t ≡ true) × (All l)
every-all t [] h = (h, tt)
every-all t (a ∷ l) h = let r = every-all (t && a) l h in (and_l t a r.0, (and_r t a r.0, r.1))

all-every : (t : Bool) (l : List Bool) → t ≡ true → All l → every_from t l ≡ true
all-every t [] p h = p
all-every t (a ∷ l) p h = all-every (t && a) l (rw (p, h.0)) h.1

pub all : (l : List Bool) → every l ≡ true → All l
all l h = (every-all true l h).1

pub holds : (l : List Bool) → All l → every l ≡ true
holds l h = all-every true l refl h

pub given : (a b : Bool) → implies a b ≡ true → a ≡ true → b ≡ true
given true b h p = h
given false b h p = absurd (false≢true p)

pub implied : (a b : Bool) → (a ≡ true → b ≡ true) → implies a b ≡ true
implied true b h = h refl
implied false b h = refl

-- two tests that hold together
pub same_test : (a b : Bool) → (a ≡ true → b ≡ true) → (b ≡ true → a ≡ true) → a ≡ b
same_test true b f g = sym (f refl)
same_test false true f g = g refl
same_test false false f g = refl
