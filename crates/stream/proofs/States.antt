-- The states that a call takes are exactly those that some bytes lead to.
use Prim.Native.Nat.{ℕ, zero, suc, ◌+◌, ◌-◌, ◌*◌, ◌/◌, ◌%◌, ◌<◌, ◌≤◌}
use mathlib.Core.Path.{◌≡◌, refl, sym, ◌∙◌, ap}
use mathlib.Core.Bool.{Bool, true, false, cond}
use mathlib.Core.List.{List, [], ◌∷◌, ◌++◌, flatten}
use mathlib.Core.Logic.{◌≢◌}
use native.Mathlib.Omega.{arith}
use lib.Dec.{eqb}
use lib.ListN.{length}
use borrow.Author.Tests.{eqb-true, eqb-false, ne_eqb}
use Rattle.words.proofs.Bytes.{Bytes, bytes-nil, bytes-cons, bytes-append}
use Rattle.registers.specs.Block.{can_b}
use Rattle.fresh.specs.Fresh.{fresh_image}
use Rattle.stream.specs.Stream.{Standing, at, behind, over, is_over, opened, fed}
use Rattle.stream.specs.Calls.{state_of, standing, ready}
use Rattle.stream.specs.Terms.{Ready}
use Rattle.stream.specs.Agreement.{Reached, States}
use Rattle.stream.proofs.Cuts.{fed-append}
use Rattle.stream.proofs.Ready.{opened-ready, fed-ready, gathered-few, whole-count, whole-behind}
use Rattle.stream.proofs.State.{ready-state, not-over, ready-standing}
use Rattle.stream.proofs.FromState.{standing-state}
use Rattle.stream.proofs.Walk.{Leads, nowhere, byte, then, low, count, gather}
use Rattle.stream.proofs.Fitting.{several, several_bytes, run_several}

-- some bytes lead there, with some image
record Comes (k l n : ℕ) (g : List ℕ) : Type 0 where
  file : List ℕ
  small : Bytes file
  image : List ℕ
  there : fed opened file ≡ at k l n g image

-- bytes behind
on : {k l n j m i : ℕ} {g p h s : List ℕ} {es : List (List ℕ)} (c : Comes k l n g) → Bytes p
    → Leads (at k l n g c.image) p (at j m i h s) es → Comes j m i h
on {p = p} {s = s} c b l =
    record {
      file = c.file ++ p;
      small = bytes-append c.file p c.small b;
      image = s;
      there = fed-append opened c.file p ∙ ap (λ (σ : Standing). fed σ p) c.there ∙ l.to;
    }

-- e + l events are counted, and e of them come
into : (k l e n : ℕ) → 1 ≤ k → k ≤ 3 → e + l ≤ 1000 → Comes k 0 n [] → Comes (cond (eqb l 0) (k + 1) k) l (n + e) []
into k l e n h i m c =
    let d = e + l in
    let b : Bytes (d % 256 ∷ d / 256 ∷ []) = bytes-cons (omega arith) (bytes-cons (omega arith) bytes-nil) in
    on c (bytes-append (d % 256 ∷ d / 256 ∷ []) (flatten (several k e)) b (several_bytes k e))
    (then (count k i d n c.image m) (run_several k h i e l n c.image))

-- before the first count; before a later one, with n events in front of it: as many as can be in the section right before it
start : Comes 1 0 0 []
unfolding fed
start = record { file = []; small = bytes-nil; image = fresh_image can_b; there = refl }

next : (j n : ℕ) → suc j ≤ 3 → n ≤ 1000 * suc j → Comes (j + 1) 0 (n - 1000) [] → Comes (suc j + 1) 0 n []
next j n h m c =
    let e = n - (n - 1000) in
    let t : n - 1000 + e ≡ n = omega arith in
    let u : j + 1 + 1 ≡ suc j + 1 = omega arith in
    rw (t, u) at (into (j + 1) 0 e (n - 1000) (omega arith) (omega arith) (omega arith) c)

before : (j n : ℕ) → j ≤ 3 → n ≤ 1000 * j → Comes (j + 1) 0 n []
before zero n h m =
    let z : n ≡ 0 = omega arith in
    rw z start
before (suc j) n h m = next j n h m (before j (n - 1000) (omega arith) (omega arith))

-- with what is gathered of a count
counting : (k n : ℕ) (g : List ℕ) → Comes k 0 n [] → Bytes g → length g < 2 → (0 < length g → k ≤ 3) → Comes k 0 n g
counting k n [] c b h i = c
counting k n (x ∷ []) c b h i = on c b (byte x _ (low k (i (omega arith)) n c.image x) (nowhere _))
counting k n (x ∷ y ∷ g) c b h i = absurd (omega arith)

-- between two events, with l left
between : (k l n : ℕ) → 1 ≤ k → k ≤ 3 → 0 < l → l ≤ 1000 → n + l ≤ 1000 * k → Comes k l n []
between k l n h i some few m =
    let e = n - 1000 * (k - 1) in
    let t : n - e + e ≡ n = omega arith in
    let u : k - 1 + 1 ≡ k = omega arith in
    let c = before (k - 1) (n - e) (omega arith) (omega arith) in
    rw (ne_eqb l 0 (λ z. omega arith), t) at (into k l e (n - e) h i (omega arith) (rw u at c))

module _ (σ : Standing) (d : Ready σ) (going : σ.section ≢ over) where
  -- behind the third section nothing is gathered, in a count one byte
  count-few : σ.left ≡ 0 → (length σ.gathered < 2) × (0 < length σ.gathered → σ.section ≤ 3)
  count-few z = to (eqb σ.section behind) refl
    where
      to : (a : Bool) → eqb σ.section behind ≡ a → (length σ.gathered < 2) × (0 < length σ.gathered → σ.section ≤ 3)
      to true e =
          let w = whole-behind σ.section σ.left (eqb-true _ _ e) in
          (omega (arith, d.short), λ h. absurd (omega (arith, d.short)))
      to false e =
          let n = eqb-false σ.section behind e in
          (omega (arith, d.short, whole-count σ.section σ.left n z), λ h. omega (arith, d.last))

  comes : Comes σ.section σ.left σ.steps σ.gathered
  comes = to (eqb σ.left 0) refl
    where
      to : (a : Bool) → eqb σ.left 0 ≡ a → Comes σ.section σ.left σ.steps σ.gathered
      to true e =
          let z = eqb-true σ.left 0 e in
          let f : σ.section ≤ behind = omega (arith, d.last) in
          let u : σ.section - 1 + 1 ≡ σ.section = omega (arith, d.first) in
          let c = before (σ.section - 1) σ.steps (omega arith) (d.counting z f) in
          let few = count-few z in
          rw z (counting σ.section σ.steps σ.gathered (rw u at c) d.bytes few.0 few.1)
      to false e =
          let z = eqb-false σ.left 0 e in
          let some : 0 < σ.left = omega arith in
          let r = d.running some in
          let c = between σ.section σ.left σ.steps d.first r.0 some d.few r.1 in
          on c d.bytes
          (gather σ.section r.0 σ.left σ.steps c.image some [] σ.gathered (omega (arith, gathered-few σ d)) (d.placed some))

pub states : States
states t b size = (reached, leaves)
  where
    reached : ready t ≡ true → Reached t
    reached r =
        let σ = standing [] t in
        let n = not-over [] t size b r in
        let c = comes σ (ready-standing [] t size b r) n in
        record {
          file = c.file;
          small = c.small;
          going = ap is_over c.there ∙ ne_eqb σ.section over n;
          state = standing-state [] t size b r ∙ unfold state_of in sym (ap state_of c.there);
        }

    leaves : Reached t → ready t ≡ true
    leaves r =
        let σ = fed opened r.file in
        ap ready r.state ∙ ready-state σ (fed-ready opened opened-ready r.file r.small) (eqb-false _ _ r.going)
