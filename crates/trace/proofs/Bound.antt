-- A listing is never longer than its bound.
use Prim.Native.Nat.{ℕ, ◌+◌, ◌*◌, ◌<◌, ◌≤◌}
use mathlib.Core.Path.{◌≡◌, refl}
use mathlib.Core.Bool.{Bool, true, false, cond}
use mathlib.Core.List.{List, [], ◌∷◌, ◌++◌}
use native.Mathlib.Omega.{arith}
use lib.Dec.{lit≤}
use lib.ListN.{length, length-append}
use Rattle.answers.specs.Answer.{Outcome}
use Rattle.model.specs.Step.{step}
use Rattle.registers.specs.Block.{can_b}
use Rattle.fresh.specs.Fresh.{fresh_image}
use Rattle.texts.specs.Text.{decimal, field}
use Rattle.trace.specs.Trace.{end_of, well_formed, events, line_of, line, lines, header, refused_line, end_word, ending, run, listing, longest, space, feed}
use Rattle.texts.proofs.Decimal.{digits-one, digits_two, digits_four}
use Rattle.trace.proofs.Answers.{Small, step_small}
use Rattle.trace.proofs.Runs.{formed, event-count}

length-field : (n end : ℕ) → length (field n end) ≡ length (decimal n) + 1
length-field n end = length-append (decimal n) (end ∷ [])

-- the line of an event: four digits, one, two and two, and four bytes that end them
pub line-most : (n : ℕ) (o : Outcome) → n < 10000 → Small o → length (line n o) ≤ 13
unfolding line_of
line-most n o h s =
    let c = field o.count feed in
    let m = field o.mailbox space in
    let r = field o.refusal space in
    omega
    (arith, length-append (field n space) (r ++ (m ++ c)), length-append r (m ++ c), length-append m c, length-field n space, length-field o.refusal space, length-field o.mailbox space, length-field o.count feed, digits_four n h, digits-one o.refusal (omega (arith, s.refusal)), digits_two o.mailbox (omega (arith, s.mailbox)), digits_two o.count (omega (arith, s.count)))

lines-most : (n : ℕ) (s : List ℕ) (es : List (List ℕ)) → n + length es ≤ 10000 → length (lines n s es) ≤ 13 * length es
unfolding lines
lines-most n s [] h = omega arith
lines-most n s (e ∷ es) h =
    let t = (step s e).image in
    omega (arith, length-append (line n (step s e)) (lines (n + 1) t es), line-most n (step s e) (omega arith) (step_small s e), lines-most (n + 1) t es (omega arith))

pub ending-most : (n : ℕ) → n < 10000 → length (ending n) ≤ 9
unfolding ending
ending-most n h = omega (arith, length-append end_word (field n feed), length-field n feed, digits_four n h)

module _ (f : List ℕ) (h : well_formed f ≡ true) where
  pub events-most : length (events f) ≤ 3000
  events-most = let w = formed f h in omega (arith, event-count f, w.first-most, w.second-most, w.third-most)

  pub run-most : length (run f) ≤ longest
  unfolding run
  run-most =
      let l = lines 1 (fresh_image can_b) (events f) in
      let n = length (events f) in
      omega
      (arith, length-append header (l ++ ending n), length-append l (ending n), lines-most 1 (fresh_image can_b) (events f) (omega (arith, events-most)), ending-most n (omega (arith, events-most)), events-most)

-- a listing is never longer than its bound
pub listing-most : (f : List ℕ) → length (listing f) ≤ longest
unfolding listing
listing-most f = at (well_formed f) refl
  where
    at : (t : Bool) → well_formed f ≡ t → length (cond t (run f) refused_line) ≤ longest
    at true h = run-most f h
    at false h = lit≤ tt

-- ---- the longest file: of one that is longer, no bytes behind these matter

abbrev pub longest_file : ℕ
longest_file = 48006

pub file-most : (f : List ℕ) → well_formed f ≡ true → length f ≤ longest_file
unfolding end_of
file-most f h = let w = formed f h in omega (arith, w.ends, w.first-most, w.second-most, w.third-most)

pub long_refused : (f : List ℕ) → longest_file < length f → listing f ≡ refused_line
unfolding listing
long_refused f l = at (well_formed f) refl
  where
    at : (t : Bool) → well_formed f ≡ t → cond t (run f) refused_line ≡ refused_line
    at true h = absurd (omega (arith, file-most f h))
    at false h = refl
