-- What whole events and sections do; a trace, byte by byte: its events run in order, and its text is the listing.
use Prim.Native.Nat.{ℕ, suc, ◌+◌, ◌-◌, ◌*◌, ◌/◌, ◌%◌, ◌<◌, ◌≤◌}
use mathlib.Core.Path.{◌≡◌, refl, sym, ◌∙◌, ap, ap₂}
use mathlib.Core.Bool.{true, or-false}
use mathlib.Core.List.{List, [], ◌∷◌, ◌++◌, append_assoc, append-nil, flatten}
use native.Mathlib.Omega.{arith}
use lib.ListN.{length, get_or, length-append}
use borrow.Author.Tests.{eq-eqb, ne_eqb, lt-ltb, le-ltb}
use Rattle.words.proofs.Bytes.{Bytes, bytes-append}
use Rattle.registers.specs.Block.{can_b}
use Rattle.fresh.specs.Fresh.{fresh_image}
use Rattle.model.specs.Step.{step}
use Rattle.trace.specs.Trace.{count_at, takes, well_formed, events, lines, image_after, run, listing}
use Rattle.rules.specs.Listing.{counted, Section, Trace}
use Rattle.rules.proofs.Exact.{exact}
use Rattle.rules.proofs.Files.{is_trace, trace_formed}
use Rattle.stream.specs.Stream.{Standing, Turn, at, behind, over, opened, quietly, waits, onward, counts, runs, gathers, turn}
use Rattle.stream.specs.Stream.{fed, complete, last_line, transcript}
use Rattle.stream.specs.Agreement.{Agreement, Completes}
use Rattle.stream.proofs.Turns.{turn-counts, turn-gathers}
use Rattle.stream.proofs.Cuts.{fed-append}
use Rattle.stream.proofs.Story.{complete-append, story}

-- the bytes p lead from σ to τ, and complete the events es
pub record Leads (σ : Standing) (p : List ℕ) (τ : Standing) (es : List (List ℕ)) : Type 0 where
  pub to : fed σ p ≡ τ
  pub done : complete σ p ≡ es

-- no byte, a byte in front, bytes behind
pub nowhere : (σ : Standing) → Leads σ [] σ []
unfolding fed complete
nowhere σ = record { to = refl; done = refl }

pub byte : {σ τ : Standing} {p : List ℕ} {es : List (List ℕ)} (x : ℕ) (t : Turn)
    → turn σ x ≡ t → Leads t.next p τ es → Leads σ (x ∷ p) τ (t.ran ++ es)
unfolding fed complete
byte x t e l = record { to = rw e l.to; done = rw (e, l.done) }

pub then : {σ τ υ : Standing} {p q : List ℕ} {es ds : List (List ℕ)} → Leads σ p τ es → Leads τ q υ ds → Leads σ (p ++ q) υ (es ++ ds)
then {σ} {p = p} {q} {es} a b =
    record {
      to = fed-append σ p q ∙ ap (λ (ρ : Standing). fed ρ q) a.to ∙ b.to;
      done =
          complete-append σ p q
          ∙ ap₂ (λ (x : List (List ℕ)) (ρ : Standing). x ++ complete ρ q) a.done a.to
          ∙ ap (λ (x : List (List ℕ)). es ++ x) b.done;
    }

-- an event of section k, and several
abbrev pub Fits : ℕ → List ℕ → Type 0
Fits k e = (length e ≡ 16) × (takes k (get_or e 0 0) ≡ true)

abbrev pub AllFit : ℕ → List (List ℕ) → Type 0
AllFit k es = (i : ℕ) → i < length es → Fits k (get_or es i [])

-- its first byte stays the first
first : (g : List ℕ) (x : ℕ) (r : List ℕ) → get_or (g ++ (x ∷ [])) 0 0 ≡ get_or (g ++ (x ∷ r)) 0 0
first [] x r = refl
first (y ∷ g) x r = refl

-- ---- in a section

module _ (k : ℕ) (inside : k ≤ 3) where
  -- the two bytes of a count
  pub low : (n : ℕ) (s : List ℕ) (x : ℕ) → turn (at k 0 n [] s) x ≡ waits (at k 0 n [] s) (x ∷ [])
  unfolding counts
  low n s x = turn-counts (at k 0 n [] s) x inside refl

  pub high : (n : ℕ) (s : List ℕ) (x y c : ℕ) → x + 256 * y ≡ c → c ≤ 1000 → turn (at k 0 n (x ∷ []) s) y ≡ quietly (onward k c n s)
  unfolding counts count_at
  high n s x y c e h = turn-counts (at k 0 n (x ∷ []) s) y inside refl ∙ rw (e, le-ltb 1000 c h)

  pub count : (c n : ℕ) (s : List ℕ) → c ≤ 1000 → Leads (at k 0 n [] s) (c % 256 ∷ c / 256 ∷ []) (onward k c n s) []
  count c n s h =
      byte (c % 256) _ (low n s (c % 256)) (byte (c / 256) _ (high n s (c % 256) (c / 256) c (omega arith) h) (nowhere (onward k c n s)))

  -- an event
  module _ (l n : ℕ) (s : List ℕ) (some : 0 < l) where
    abbrev gathering : List ℕ → Standing
    gathering g = at k l n g s

    gathered : (g : List ℕ) (x : ℕ) → length g < 15 → takes k (get_or (g ++ (x ∷ [])) 0 0) ≡ true
        → turn (gathering g) x ≡ waits (gathering g) (g ++ (x ∷ []))
    unfolding gathers
    gathered g x h t = turn-gathers (gathering g) x inside some ∙ rw (t, lt-ltb (length (g ++ (x ∷ []))) 16 (omega (arith, length-append g (x ∷ []))))

    ran : (g : List ℕ) (x : ℕ) → length g ≡ 15 → takes k (get_or (g ++ (x ∷ [])) 0 0) ≡ true
        → turn (gathering g) x ≡ runs (gathering g) (g ++ (x ∷ []))
    unfolding gathers
    ran g x h t = turn-gathers (gathering g) x inside some ∙ rw (t, le-ltb (length (g ++ (x ∷ []))) 16 (omega (arith, length-append g (x ∷ []))))

    -- some of its bytes
    pub gather : (g r : List ℕ) → length g + length r ≤ 15 → (0 < length r → takes k (get_or (g ++ r) 0 0) ≡ true)
        → Leads (gathering g) r (gathering (g ++ r)) []
    gather g [] h t = rw (append-nil g) (nowhere (gathering g))
    gather g (x ∷ r) h t =
        let e = append_assoc g (x ∷ []) r in
        let fits = t (omega arith) in
        byte x _ (gathered g x (omega arith) (ap (takes k) (first g x r) ∙ fits))
        (rw e at (gather (g ++ (x ∷ [])) r (omega (arith, length-append g (x ∷ []))) (λ i. rw e fits)))

    -- its last ones
    pub event : (g r : List ℕ) → 0 < length r → length g + length r ≡ 16 → takes k (get_or (g ++ r) 0 0) ≡ true
        → Leads (gathering g) r (onward k (l - 1) (n + 1) (step s (g ++ r)).image) ((g ++ r) ∷ [])
    unfolding runs
    event g [] h z t = absurd (omega arith)
    event g (x ∷ []) h z t = byte x _ (ran g x (omega arith) t) (nowhere _)
    event g (x ∷ y ∷ r) h z t =
        let e = append_assoc g (x ∷ []) (y ∷ r) in
        byte x _ (gathered g x (omega arith) (ap (takes k) (first g x (y ∷ r)) ∙ t))
        (rw e at (event (g ++ (x ∷ [])) (y ∷ r) (omega arith) (omega (arith, length-append g (x ∷ []))) (rw e t)))

  -- events in a row
  pub run_of : (l n : ℕ) (s : List ℕ) (es : List (List ℕ)) → AllFit k es
      → Leads (onward k (length es + l) n s) (flatten es) (onward k l (n + length es) (image_after s es)) es
  unfolding flatten image_after
  run_of l n s [] f =
      let e : n + 0 ≡ n = omega arith in
      let z : 0 + l ≡ l = omega arith in
      rw (e, z) (nowhere (onward k l n s))
  run_of l n s (e ∷ es) f =
      let c = suc (length es) + l in
      let j : c - 1 ≡ length es + l = omega arith in
      let m : n + 1 + length es ≡ n + suc (length es) = omega arith in
      let first = f 0 (omega arith) in
      let a = event c n s (omega arith) [] e (omega (arith, first.0)) (omega (arith, first.0)) first.1 in
      let b = run_of l (n + 1) (step s e).image es (λ i h. f (suc i) (omega arith)) in
      rw (ne_eqb c 0 (λ h. omega arith)) (then (rw j at a) (rw m at b))

  pub whole-section : (n : ℕ) (s : List ℕ) (es : List (List ℕ)) → Section (takes k) es
      → Leads (at k 0 n [] s) (counted es) (at (k + 1) 0 (n + length es) [] (image_after s es)) es
  whole-section n s es t =
      let e : length es + 0 ≡ length es = omega arith in
      then (count (length es) n s t.most) (rw e at (run_of 0 n s es (λ i h. (t.sizes i h, t.placed i h))))

-- ---- a trace

-- a trace leads behind the third section, and completes its events
trace_leads : {f : List ℕ} {a b c : List (List ℕ)} → Trace f a b c → ((fed opened f).section ≡ behind) × (complete opened f ≡ a ++ (b ++ c))
trace_leads {f} {a} {b} {c} t =
    let u = image_after (fresh_image can_b) a in
    let x : Section (takes 1) a =
    record { most = t.first.most; sizes = t.first.sizes; placed = λ n h. or-false _ ∙ t.first.placed n h } in
    let l =
    then (whole-section 1 (omega arith) 0 (fresh_image can_b) a x)
    (then (whole-section 2 (omega arith) (0 + length a) u b t.second)
    (whole-section 3 (omega arith) (0 + length a + length b) (image_after u b) c t.third)) in
    (ap (λ (p : List ℕ). (fed opened p).section) t.whole ∙ ap (λ (σ : Standing). σ.section) l.to, ap (complete opened) t.whole ∙ l.done)

pub all_read : (f : List ℕ) → Bytes f → well_formed f ≡ true → ((fed opened f).section ≡ behind) × (complete opened f ≡ events f)
all_read f small h =
    let t = is_trace f small h in
    let r = trace_leads t in
    (r.0, r.1 ∙ sym (trace_formed f _ _ _ t).1)

pub agreement : Agreement
unfolding transcript listing run last_line
agreement f small h =
    let r = all_read f small h in
    let t = story opened (omega arith) f in
    let going = ne_eqb (fed opened f).section over (λ e. omega (arith, r.0)) in
    let n : (fed opened f).steps ≡ length (events f) = omega (arith, t.steps_are going, ap length r.1) in
    let text : transcript f ≡ listing f =
    rw (h, t.text_is, going, eq-eqb (fed opened f).section behind r.0, n, r.1, append-nil (lines 1 (fresh_image can_b) (events f))) in
    record {
      text = text;
      rule = (exact.listing_exact f small (transcript f)).1 text;
      image = t.image_is ∙ ap (image_after (fresh_image can_b)) r.1;
    }

pub completes : Completes
completes p g b d h = sym (all_read (p ++ g) (bytes-append p g b d) h).1 ∙ complete-append opened p g
