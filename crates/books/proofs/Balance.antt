-- A book balances after any happenings, if nothing is sent or aborted in the slot but what waits.
use Prim.Native.Nat.{◌+◌}
use mathlib.Core.Path.{◌≡◌, refl, ap}
use mathlib.Core.Bool.{Bool, true, false, not, ◌&&◌}
use mathlib.Core.List.{List, [], ◌∷◌, ◌++◌}
use native.Mathlib.Omega.{arith}
use Rattle.books.specs.Ledger.{Happening, store, acknowledge, request, cancel, start, send, fail, sleep, reset, Now, after, afters, one, entry, plus, Book, book, books, Balanced}

-- only a waiting request is sent, or cancelled in the slot
abbrev pub Fair : Now → Happening → Type 0
Fair n store = Unit
Fair n acknowledge = Unit
Fair n request = Unit
Fair n cancel = Unit
Fair n start = Unit
Fair n send = n.waiting ≡ true
Fair n fail = n.waiting ≡ true
Fair n sleep = Unit
Fair n reset = Unit

abbrev pub Fairs : Now → List Happening → Type 0
Fairs n [] = Unit
Fairs n (h ∷ l) = Fair n h × Fairs (after n h) l

pub one-not : (t : Bool) → one (not t) + one t ≡ 1
one-not true = refl
one-not false = refl

-- a request ends or goes on waiting
one_split : (w t : Bool) → one (w && t) + one (w && not t) ≡ one w
one_split true true = refl
one_split true false = refl
one_split false t = refl

step : (k : Book) (h : Happening) → Fair k.now h → Balanced k → Balanced (book k h)
unfolding book after entry plus
step k store f q = omega (arith, q)
step k acknowledge f q = omega (arith, q)
step k request f q = omega (arith, q, one-not k.now.waiting)
step k cancel f q = omega (arith, q, one_split k.now.waiting k.now.sending)
step k start f q = omega (arith, q)
step k send f q = omega (arith, q, ap one f)
step k fail f q = omega (arith, q, ap one f, ap (λ (w : Bool). one (w && not k.now.cancelled)) f, one-not k.now.cancelled)
step k sleep f q = omega (arith, q)
step k reset f q = omega (arith, q)

pub balance : (k : Book) (l : List Happening) → Fairs k.now l → Balanced k → Balanced (books k l)
unfolding books book
balance k [] f q = q
balance k (h ∷ l) f q = balance (book k h) l f.1 (step k h f.0 q)

pub books-now : (k : Book) (l : List Happening) → (books k l).now ≡ afters k.now l
unfolding books book afters
books-now k [] = refl
books-now k (h ∷ l) = books-now (book k h) l

-- some happenings, then others

pub afters_join : (n : Now) (l r : List Happening) → afters n (l ++ r) ≡ afters (afters n l) r
unfolding afters
afters_join n [] r = refl
afters_join n (h ∷ l) r = afters_join (after n h) l r

pub fairs_join : (n : Now) (l r : List Happening) → Fairs n l → Fairs (afters n l) r → Fairs n (l ++ r)
unfolding afters
fairs_join n [] r f g = g
fairs_join n (h ∷ l) r f g = (f.0, fairs_join (after n h) l r f.1 g)
