-- A try: a start and an outcome after it, from an image in which a mailbox waits to be sent.
use Prim.Native.Nat.{ℕ, zero, suc, ◌+◌, ◌<◌, ◌≤◌}
use mathlib.Core.Path.{◌≡◌, refl, sym, ◌∙◌, ap, subst}
use mathlib.Core.Bool.{true, false, cond, not, ◌&&◌, ◌||◌, and-false, false≢true}
use mathlib.Core.List.{List, [], ◌∷◌}
use mathlib.Core.Logic.{◌≢◌}
use native.Mathlib.Decide.{ℕ_discrete}
use native.Mathlib.Omega.{arith}
use lib.Dec.{eqb, ltb, lit<, lit≤}
use lib.ListN.{replicate}
use borrow.Author.Tests.{ne_eqb, lt-ltb, le-ltb, not-true}
use Rattle.bits.proofs.Sets.{and_l, and_r}
use Rattle.bits.specs.Below.{all_below}
use Rattle.words.specs.Word.{word_at}
use Rattle.words.specs.Bytes.{Bytes}
use Rattle.words.proofs.Bytes.{bytes-nil, bytes-cons}
use Rattle.answers.specs.Answer.{Outcome}
use Rattle.events.specs.Parts.{plain_event}
use Rattle.model.specs.Step.{step}
use Rattle.rules.specs.Words.{Words, ◌has◌, words, at_most, Only, MC, TRS, TRR, CDR, TEC, REC, MODE, WAITING, SLOT, empty_slot}
use Rattle.rules.specs.Image.{Good}
use Rattle.rules.specs.Events.{Applies, not_good, is_unknown, is_asleep, not_allowed, is_busy, is_locked, slot_empty}
use Rattle.rules.specs.Sending.{candidate, Unsent, unacknowledged_tec, Ending}
use Rattle.rules.specs.Step.{Does}
use Rattle.rules.proofs.Step.{step_meets, good-step}
use Rattle.lone.specs.Lone.{Ready}
use Rattle.lone.proofs.Steps.{step-bytes}

-- ---- the events, and good images

zeros : (n : ℕ) → Bytes (replicate n 0)
zeros zero = bytes-nil
zeros (suc n) = bytes-cons (lit< tt) (zeros n)

pub plain_bytes : (op target : ℕ) → op < 256 → target < 256 → Bytes (plain_event op target 0)
plain_bytes op target h k = bytes-cons h (bytes-cons k (zeros 14))

-- what makes a candidate
parts : (w : Words) (n : ℕ) → candidate w n ≡ true → (w TRS has n ≡ true) × (w MC has n ≡ true) × (w CDR has n ≡ false) × (w TRR has n ≡ false)
parts w n c =
    let trs = w TRS has n in
    let mc = w MC has n in
    let cdr = w CDR has n in
    let most = and_l (trs && mc && not cdr) (not (w TRR has n)) c in
    let first = and_l (trs && mc) (not cdr) most in
    (and_l trs mc first, and_r trs mc first, not-true cdr (and_r (trs && mc) (not cdr) most), not-true (w TRR has n) (and_r (trs && mc && not cdr) (not (w TRR has n)) c))

-- where no mode waits, the end of a step changes nothing
nothing-waits : (was now : Words) → Ending was now → was WAITING ≡ 4 → Only [] was now
nothing-waits was now k h = k.none (rw h)

-- ---- the start

module _ (s : List ℕ) (n : ℕ) (r : Ready s n) (room : words s TEC < 256) where
  abbrev start : List ℕ
  start = plain_event 3 0 0

  abbrev begun : List ℕ
  begun = (step s start).image

  none-waiting : words s WAITING ≡ 4
  none-waiting = at (ℕ_discrete (words s WAITING) 4)
    where
      at : Dec (words s WAITING ≡ 4) → words s WAITING ≡ 4
      at (yes e) = e
      at (no d) = let z = r.good.registers.waits_for d r.vacant in absurd (omega arith)

  start_free : (k : ℕ) → Applies s start k → ⊥
  unfolding word_at all_below
  start_free k (not_good e d) = d r.good
  start_free k (is_unknown e d) = false≢true d
  start_free k (is_asleep e d) = false≢true d
  start_free k (not_allowed e d) = false≢true d
  start_free k (is_busy e d) = false≢true (sym (rw r.vacant) ∙ d)
  start_free k (is_locked e d) = false≢true d
  start_free k (slot_empty e d) = false≢true d

  -- the mailbox that is taken
  begins : (m : ℕ) × (m < 32) × (candidate (words s) m ≡ true) × (words begun SLOT ≡ m) × Only (SLOT ∷ []) (words s) (words begun)
  begins =
      let p = (step_meets s start r.bytes (plain_bytes 3 0 (lit< tt) (lit< tt))).accepts start_free in
      let q = (p.does.start refl).0 in
      let c = q.some (rw (r.normal, lt-ltb (words s TEC) 256 room)) n r.asks.0 r.asks.1 in
      let end = nothing-waits p.middle (words begun) p.ending (q.rest WAITING refl ∙ none-waiting) in
      ((step s start).mailbox, c.0, c.1, end SLOT refl ∙ q.slot ∙ rw (lt-ltb (step s start).mailbox 32 c.0), λ k h. end k refl ∙ q.rest k h)

-- ---- the outcome

module _ (s : List ℕ) (bytes : Bytes s) (good : Good s) (filled : words s SLOT ≢ empty_slot) (calm : words s WAITING ≡ 4) (k : ℕ) (known : k ≤ 3) where
  abbrev outcome : List ℕ
  outcome = plain_event 4 k 0

  outcome_free : (r : ℕ) → Applies s outcome r → ⊥
  unfolding word_at all_below
  outcome_free r (not_good e d) = d good
  outcome_free r (is_unknown e d) = false≢true (sym (le-ltb 3 k known) ∙ d)
  outcome_free r (is_asleep e d) = false≢true d
  outcome_free r (not_allowed e d) = false≢true d
  outcome_free r (is_busy e d) = false≢true d
  outcome_free r (is_locked e d) = false≢true d
  outcome_free r (slot_empty e d) = false≢true (sym (ne_eqb (words s SLOT) empty_slot filled) ∙ d)

  -- what it does by the rules, it leaves
  fails : (t : ℕ) → ((now : Words) (o : Outcome) → Does s outcome (words s) now o → Unsent t (words s) now)
      → Unsent t (words s) (words (step s outcome).image)
  fails t by =
      let p = (step_meets s outcome bytes (plain_bytes 4 k (lit< tt) (omega arith))).accepts outcome_free in
      let u = by p.middle (step s outcome) p.does in
      let end = nothing-waits p.middle (words (step s outcome).image) p.ending (u.rest WAITING refl ∙ calm) in
      subst (Unsent t (words s)) (λ i j. sym (end j refl) i) u

-- who may be sent before it may be sent after it: its request is not cancelled
may_again : (t n : ℕ) (was now : Words) → Unsent t was now → candidate was n ≡ true → candidate now n ≡ true
may_again t n was now u c =
    let w = parts was n c in
    let trs : now TRS has n ≡ true = u.trs n ∙ rw (w.0, w.3, and-false (eqb n (was SLOT))) in
    let mc : now MC has n ≡ true = ap (λ (x : ℕ). x has n) (u.rest MC refl) ∙ w.1 in
    let cdr : now CDR has n ≡ false = ap (λ (x : ℕ). x has n) (u.rest CDR refl) ∙ w.2 in
    let trr : now TRR has n ≡ false = u.trr n ∙ rw w.3 in
    rw (trs, mc, cdr, trr)

-- ---- both: a try

-- the image after the start, and after outcome k
abbrev first : List ℕ → List ℕ
first s = (step s (plain_event 3 0 0)).image

abbrev pub second : List ℕ → ℕ → List ℕ
second s k = (step (first s) (plain_event 4 k 0)).image

module _ (s : List ℕ) (n : ℕ) (r : Ready s n) (room : words s TEC < 256) where
  -- the try leaves the tool ready for the next one; TEC is what the rule of the outcome makes of it, REC stays
  tried : (k : ℕ) → k ≤ 3 → (tec : ℕ → ℕ → ℕ)
      → ((s : List ℕ) (now : Words) (o : Outcome) → Does s (plain_event 4 k 0) (words s) now o → Unsent (tec (words s TEC) (words s REC)) (words s) now)
      → Ready (second s k) n × (words (second s k) TEC ≡ tec (words s TEC) (words s REC)) × (words (second s k) REC ≡ words s REC)
  tried k known tec by =
      let b = begins s n r room in
      let same = b.4 in
      let y = plain_bytes 3 0 (lit< tt) (lit< tt) in
      let bytes = step-bytes s _ r.bytes y in
      let good = good-step s _ r.bytes y r.good in
      let sends : words (first s) SLOT ≢ empty_slot = λ e. omega (arith, b.1, b.3) in
      let u = fails (first s) bytes good sends (same WAITING refl ∙ none-waiting s n r room) k known _ (by (first s)) in
      let z = plain_bytes 4 k (lit< tt) (omega arith) in
      let c : candidate (words (first s)) n ≡ true = rw (same TRS refl, same MC refl, same CDR refl, same TRR refl) r.asks.1 in (
        record {
          bytes = step-bytes (first s) _ bytes z;
          good = good-step (first s) _ bytes z good;
          normal = u.rest MODE refl ∙ same MODE refl ∙ r.normal;
          vacant = u.slot;
          asks = (r.asks.0, may_again _ n (words (first s)) (words (second s k)) u c);
        },
        u.tec ∙ rw (same TEC refl, same REC refl),
        u.rest REC refl ∙ same REC refl,
      )

  pub error_tried : Ready (second s 2) n × (words (second s 2) TEC ≡ at_most 256 (words s TEC + 8)) × (words (second s 2) REC ≡ words s REC)
  error_tried = tried 2 (lit≤ tt) (λ tec rec. at_most 256 (tec + 8)) (λ s now o d. (d.error refl refl).0)

  pub unacknowledged_tried : Ready (second s 3) n × (words (second s 3) TEC ≡ unacknowledged_tec (words s)) × (words (second s 3) REC ≡ words s REC)
  unacknowledged_tried =
      tried 3 (lit≤ tt) (λ tec rec. cond (ltb 127 tec || ltb 127 rec) tec (tec + 8)) (λ s now o d. (d.unacknowledged refl refl).0)
