-- The promise of the listing: how it is met where there is room, and that it leaves no choice.
use Prim.Native.Nat.{ℕ, ◌+◌, ◌≤◌}
use mathlib.Core.Path.{◌≡◌, refl, sym, ◌∙◌}
use mathlib.Core.List.{List, ◌++◌}
use native.Mathlib.Omega.{arith}
use lib.Dec.{ltb}
use lib.ListN.{length, take, drop}
use lib.Seq.{take-append_seam}
use mathlib.Core.Bool.{Bool, true, false}
use borrow.Author.Tests.{le-ltb, ltb-false}
use Rattle.texts.specs.Text.{Put}
use Rattle.trace.specs.Trace.{listing, longest, Listed}
use Rattle.texts.proofs.Writing.{at_front}
use Rattle.trace.proofs.Bound.{listing-most}

-- the listing, written from the front on
pub listed : (f o : List ℕ) {x : List ℕ} {r : ℕ} → longest ≤ length o → Put o 0 (listing f) x r → Listed f o x r
listed f o l p =
    let e = le-ltb (length o) longest l in
    let m = listing-most f in
    let n : 0 + length (listing f) ≡ length (listing f) = omega arith in
    record {
      bytes = rw e (at_front (omega arith) p);
      answered = rw e (p.behind ∙ n);
    }

-- where there is room, the front of the bytes is the listing
pub front : {f o x : List ℕ} {r : ℕ} → longest ≤ length o → Listed f o x r → take r x ≡ listing f
front {f} {o} {x} {r} l p =
    let e = le-ltb (length o) longest l in
    let a : r ≡ length (listing f) = rw e at p.answered in
    let b : x ≡ listing f ++ drop (length (listing f)) o = rw e at p.bytes in
    rw (a, b) (take-append_seam (listing f) (drop (length (listing f)) o))

-- two outcomes that meet the promise coincide
pub same_bytes : {f o x y : List ℕ} {q r : ℕ} → Listed f o x q → Listed f o y r → x ≡ y
same_bytes p q = p.bytes ∙ sym q.bytes

pub same_answer : {f o x y : List ℕ} {q r : ℕ} → Listed f o x q → Listed f o y r → q ≡ r
same_answer p q = p.answered ∙ sym q.answered

-- the answer is never more than the lent bytes
pub answer_most : {f o x : List ℕ} {r : ℕ} → Listed f o x r → r ≤ length o
answer_most {f} {o} {x} {r} p = at (ltb (length o) longest) refl
  where
    at : (t : Bool) → ltb (length o) longest ≡ t → r ≤ length o
    at true e = omega (arith, rw e at p.answered)
    at false e = omega (arith, rw e at p.answered, ltb-false (length o) longest e, listing-most f)
