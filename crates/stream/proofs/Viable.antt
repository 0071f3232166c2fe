-- A stream that is not over can be ended; so the fault is the first byte that no well-formed file could have there.
use Rattle.std.proofs.lemmas.Bool.{false_from_ne_true}
use Prim.Native.Nat.{ℕ, zero, suc, ◌+◌, ◌-◌, ◌<◌, ◌≤◌}
use mathlib.Core.Path.{◌≡◌, refl, sym, ◌∙◌, ap, subst}
use mathlib.Core.Bool.{Bool, true, false, false≢true}
use mathlib.Core.List.{List, [], ◌∷◌, ◌++◌}
use mathlib.Core.Logic.{◌≢◌}
use native.Mathlib.Omega.{arith}
use lib.Dec.{eqb}
use lib.ListN.{length, get_or, replicate, length-replicate}
use borrow.Author.Tests.{eqb-true, eqb-false}
use Rattle.words.proofs.Bytes.{Bytes, bytes-nil, bytes-append}
use Rattle.trace.specs.Trace.{takes, well_formed}
use Rattle.stream.specs.Stream.{Standing, at, behind, over, is_over, opened, onward, fed}
use Rattle.stream.specs.Terms.{Ready}
use Rattle.stream.specs.Agreement.{Fault}
use Rattle.stream.proofs.Cuts.{fed-append, fed-over}
use Rattle.stream.proofs.Ready.{opened-ready, fed-ready, gathered-few, whole-count}
use Rattle.stream.proofs.Walk.{Leads, nowhere, byte, high, count, event, all_read}
use Rattle.stream.proofs.Fitting.{zeros_bytes, fitting, fitting_bytes, fitting_fits, several_bytes, run_several}
use Rattle.stream.proofs.Came.{read_back}

-- some bytes lead behind the third section
record Ends (σ : Standing) : Type 0 where
  rest : List ℕ
  small : Bytes rest
  ends : (fed σ rest).section ≡ behind

-- bytes in front
on : {σ τ : Standing} {p : List ℕ} {es : List (List ℕ)} → Leads σ p τ es → Bytes p → Ends τ → Ends σ
on {σ} {p = p} l b r =
    record {
      rest = p ++ r.rest;
      small = bytes-append p r.rest b r.small;
      ends = ap (λ (ρ : Standing). ρ.section) (fed-append σ p r.rest ∙ ap (λ (ρ : Standing). fed ρ r.rest) l.to) ∙ r.ends;
    }

all-read-ends : (σ : Standing) → σ.section ≡ behind → Ends σ
unfolding fed
all-read-ends σ h = record { rest = []; small = bytes-nil; ends = h }

-- d sections come: none of them has an event
counting-ends : (d k n : ℕ) (s : List ℕ) → k + d ≡ behind → Ends (at k 0 n [] s)
counting-ends zero k n s h = all-read-ends (at k 0 n [] s) (omega arith)
counting-ends (suc d) k n s h =
    on (count k (omega arith) 0 n s (omega arith)) (zeros_bytes 2) (counting-ends d (k + 1) n s (omega arith))

module _ (k : ℕ) (first : 1 ≤ k) (inside : k ≤ 3) where
  onward-ends : (l n : ℕ) (s : List ℕ) → Ends (onward k l n s)
  onward-ends l n s =
      let e : l + 0 ≡ l = omega arith in
      on (rw e at (run_several k first inside l 0 n s)) (several_bytes k l) (counting-ends (3 - k) (k + 1) (n + l) _ (omega arith))

  -- a count is read
  count-ends : (n : ℕ) (g s : List ℕ) → length g < 2 → Bytes g → Ends (at k 0 n g s)
  count-ends n [] s h b = counting-ends (4 - k) k n s (omega arith)
  count-ends n (x ∷ []) s h b =
      let small : x < 256 = b.small 0 in
      on (byte 0 _ (high k inside n s x 0 x (omega arith) (omega arith)) (nowhere (onward k x n s))) (zeros_bytes 1) (onward-ends x n s)
  count-ends n (x ∷ y ∷ g) s h b = absurd (omega arith)

  -- an event is read
  event-ends : (l n : ℕ) (g s : List ℕ) → 0 < l → length g ≤ 15 → (0 < length g → takes k (get_or g 0 0) ≡ true) → Ends (at k l n g s)
  event-ends l n [] s some h t =
      let f = fitting_fits k first inside in
      on (event k inside l n s some [] (fitting k) (omega (arith, f.0)) (omega (arith, f.0)) f.1) (fitting_bytes k)
      (onward-ends (l - 1) (n + 1) _)
  event-ends l n (x ∷ g) s some h t =
      let m = 15 - length g in
      let z = length-replicate {A = ℕ} m 0 in
      on (event k inside l n s some (x ∷ g) (replicate m 0) (omega arith) (omega arith) (t (omega arith))) (zeros_bytes m)
      (onward-ends (l - 1) (n + 1) _)

ends : (σ : Standing) → Ready σ → σ.section ≢ over → Ends σ
ends σ d n = to (eqb σ.section behind) refl (eqb σ.left 0) refl
  where
    to : (a : Bool) → eqb σ.section behind ≡ a → (b : Bool) → eqb σ.left 0 ≡ b → Ends σ
    to true e b f = all-read-ends σ (eqb-true _ _ e)
    to false e true f =
        let m = eqb-false σ.section behind e in
        let z = eqb-true σ.left 0 f in
        subst Ends (λ i. at σ.section (sym z i) σ.steps σ.gathered σ.image)
        (count-ends σ.section d.first (omega (arith, d.last)) σ.steps σ.gathered σ.image
        (omega (arith, d.short, whole-count σ.section σ.left m z)) d.bytes)
    to false e false f =
        let z = eqb-false σ.left 0 f in
        let some : 0 < σ.left = omega arith in
        event-ends σ.section d.first (d.running some).0 σ.left σ.steps σ.gathered σ.image some (gathered-few σ d) (d.placed some)

-- ---- some well-formed file begins so

pub record Begins (p : List ℕ) : Type 0 where
  pub rest : List ℕ
  pub small : Bytes rest
  pub well : well_formed (p ++ rest) ≡ true

pub viable : (p : List ℕ) → Bytes p → is_over (fed opened p) ≡ false → Begins p
viable p b h =
    let r = ends (fed opened p) (fed-ready opened opened-ready p b) (eqb-false _ _ h) in
    let e = ap (λ (σ : Standing). σ.section) (fed-append opened p r.rest) ∙ r.ends in
    record { rest = r.rest; small = r.small; well = read_back (p ++ r.rest) (bytes-append p r.rest b r.small) e }

-- behind the fault there is none
final : (p g : List ℕ) → Bytes p → Bytes g → is_over (fed opened p) ≡ true → well_formed (p ++ g) ≡ true → ⊥
final p g b d h w =
    let o = eqb-true (fed opened p).section over h in
    let e = fed-append opened p g ∙ fed-over (fed opened p) o g in
    omega (arith, o, (all_read (p ++ g) (bytes-append p g b d) w).0, ap (λ (σ : Standing). σ.section) e)

pub fault : Fault
fault p b = (λ h g d. false_from_ne_true (well_formed (p ++ g)) (final p g b d h), λ f. yes (is_over (fed opened p)) refl f)
  where
    yes : (a : Bool) → is_over (fed opened p) ≡ a → ((g : List ℕ) → Bytes g → well_formed (p ++ g) ≡ false) → a ≡ true
    yes true h f = refl
    yes false h f =
        let v = viable p b h in
        absurd (false≢true (sym (f v.rest v.small) ∙ v.well))
