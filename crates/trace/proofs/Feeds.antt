-- A well-formed file's listing has a line for each event, between the header and the line that ends it.
use Prim.Native.Nat.{ℕ, zero, suc, ◌+◌, ◌%◌, ◌/◌}
use mathlib.Core.Path.{◌≡◌, refl, ◌∙◌, ap}
use mathlib.Core.Bool.{Bool, true, false, cond}
use mathlib.Core.List.{List, [], ◌∷◌, ◌++◌}
use native.Mathlib.Omega.{arith}
use lib.Dec.{eqb, ltb}
use lib.ListN.{length}
use borrow.Author.Tests.{ne_eqb}
use Rattle.model.specs.Step.{step}
use Rattle.registers.specs.Block.{can_b}
use Rattle.fresh.specs.Fresh.{fresh_image}
use Rattle.texts.specs.Text.{decimal_in, decimal, field}
use Rattle.trace.specs.Trace.{well_formed, events, line_of, line, lines, header, end_word, ending, run, listing, space, feed}

-- how many line feeds a text has
unfoldable pub feeds : List ℕ → ℕ
feeds [] = 0
feeds (x ∷ t) = cond (eqb x feed) 1 0 + feeds t

pub feeds-append : (t u : List ℕ) → feeds (t ++ u) ≡ feeds t + feeds u
unfolding feeds
feeds-append [] u = omega arith
feeds-append (x ∷ t) u = ap (λ (k : ℕ). cond (eqb x feed) 1 0 + k) (feeds-append t u) ∙ omega arith

digits-none : (k n : ℕ) → feeds (decimal_in k n) ≡ 0
unfolding decimal_in feeds
digits-none zero n = refl
digits-none (suc k) n = at (ltb n 10) (digits-none k (n / 10))
  where
    digit : eqb (48 + n % 10) feed ≡ false
    digit = ne_eqb (48 + n % 10) feed (λ e. omega arith)

    at : (t : Bool) → feeds (decimal_in k (n / 10)) ≡ 0 → feeds (cond t [] (decimal_in k (n / 10)) ++ ((48 + n % 10) ∷ [])) ≡ 0
    at true r = rw digit
    at false r = feeds-append (decimal_in k (n / 10)) ((48 + n % 10) ∷ []) ∙ rw (r, digit)

field-feeds : (n end : ℕ) → feeds (field n end) ≡ feeds (end ∷ [])
unfolding decimal
field-feeds n end = omega (arith, feeds-append (decimal n) (end ∷ []), digits-none (suc n) n)

line-feeds : (n c m k : ℕ) → feeds (line_of n c m k) ≡ 1
unfolding line_of feeds
line-feeds n c m k =
    let x = field k feed in
    let y = field m space in
    let z = field c space in
    omega
    (arith, feeds-append (field n space) (z ++ (y ++ x)), feeds-append z (y ++ x), feeds-append y x, field-feeds n space, field-feeds c space, field-feeds m space, field-feeds k feed)

pub lines-feeds : (n : ℕ) (s : List ℕ) (es : List (List ℕ)) → feeds (lines n s es) ≡ length es
unfolding lines feeds
lines-feeds n s [] = refl
lines-feeds n s (e ∷ es) =
    let o = step s e in
    omega
    (arith, feeds-append (line n o) (lines (n + 1) o.image es), line-feeds n o.refusal o.mailbox o.count, lines-feeds (n + 1) o.image es)

ending-feeds : (n : ℕ) → feeds (ending n) ≡ 1
unfolding ending feeds
ending-feeds n = omega (arith, feeds-append end_word (field n feed), field-feeds n feed)

-- the header, a line for each event, and the end
pub listing-feeds : (f : List ℕ) → well_formed f ≡ true → feeds (listing f) ≡ length (events f) + 2
unfolding listing run feeds
listing-feeds f h =
    let l = lines 1 (fresh_image can_b) (events f) in
    let n = length (events f) in
    rw h
    (omega (arith, feeds-append header (l ++ ending n), feeds-append l (ending n), lines-feeds 1 (fresh_image can_b) (events f), ending-feeds n))

-- a malformed file's listing is one line
pub refused-feeds : (f : List ℕ) → well_formed f ≡ false → feeds (listing f) ≡ 1
unfolding listing feeds
refused-feeds f h = rw h
