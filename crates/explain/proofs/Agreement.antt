-- The lines agree with the search of the step, and with what it answers and leaves.
use Prim.Native.Nat.{ℕ, ◌+◌, ◌/◌, ◌%◌, ◌<◌, ◌≤◌}
use mathlib.Core.Path.{◌≡◌, refl, sym, ◌∙◌, ap}
use mathlib.Core.Bool.{Bool, true, false, not, ◌&&◌, ◌||◌, false≢true}
use mathlib.Core.List.{List}
use mathlib.Core.Logic.{◌⊎◌, inl, inr, ⊎_elim, ◌↔◌}
use native.Mathlib.Omega.{arith}
use lib.Dec.{ltb}
use lib.ListN.{length}
use borrow.Author.Tests.{ltb-true, ltb-false}
use Rattle.bits.specs.Below.{count_below, first_below}
use Rattle.bits.proofs.Below.{First as FirstBelow, first_is, first_by}
use Rattle.bits.proofs.Sets.{and_l, and_r}
use Rattle.answers.specs.Answer.{Outcome}
use Rattle.events.specs.Parts.{frame_of}
use Rattle.filter.specs.Filter.{matches, takes, hits, passes}
use Rattle.filter.proofs.Search.{is_compared, is_guarded, takes_matching, takes_open}
use Rattle.rules.specs.Words.{Words, words, box, byte, ◌has◌, BoxesStayBut, MC, MD, MODE}
use Rattle.rules.specs.Image.{on_bus, bus_off}
use Rattle.rules.specs.Events.{rtr}
use Rattle.rules.specs.Receiving.{compared, Matches, seat, guarded, First, count_to, Heard}
use Rattle.rules.proofs.Receiving.{compared_same, guarded-same, match_same, same_match, first-there}
use Rattle.rules.proofs.Demands.{picked, nobody}
use Rattle.explain.specs.declared.Reason.{Reason}
use Rattle.explain.specs.declared.Reason.TheVariants.{Matched, Protected}
use Rattle.explain.specs.Explain.{differs, reason, lines_below, is_matched, line_count, lines, unheard, explained}
use Rattle.explain.specs.Agreement.{IsTold, InOrder, comparisons, Takes, Agreement}
use Rattle.explain.proofs.Reasons.{is_passed, same-reasons, matched-hits, passed-passes, counts-compared, is_matched_lem, is_passed_lem, named-bit}
use Rattle.explain.proofs.Lines.{ends_at, ends_last, is_below, below_is, below_length, order_below, comparisons_below}

module _ (s e : List ℕ) where
  abbrev order : ℕ → ℕ
  order = seat (words s)

  -- ---- one mailbox

  matched_is : (n : ℕ) → is_matched (reason s e n) ≡ hits s (frame_of e) n
  matched_is n = sym (ap (λ (r : ℕ → Reason). is_matched (r n)) (same-reasons s e)) ∙ matched-hits s (frame_of e) n

  passed_is : (n : ℕ) → is_passed (reason s e n) ≡ passes s (frame_of e) n
  passed_is n = sym (ap (λ (r : ℕ → Reason). is_passed (r n)) (same-reasons s e)) ∙ passed-passes s (frame_of e) n

  -- it matched where it is compared, matches and is open; it is protected where it passes the frame over
  abbrev Meets : ℕ → Bool → Type 0
  Meets n t = (compared s e n ≡ true) × Matches s e n × (guarded (words s) n ≡ t)

  match_told : (n : ℕ) → is_matched (reason s e n) ≡ true → Meets n false
  unfolding hits
  match_told n h =
      let g = sym (matched_is n) ∙ h in
      let t = and_r (is_compared s (frame_of e) n) (takes s (frame_of e) n) g in (
        sym (compared_same s e n) ∙ and_l (is_compared s (frame_of e) n) (takes s (frame_of e) n) g,
        match_same s e n (takes_matching s (frame_of e) n t),
        sym (guarded-same s e n) ∙ takes_open s (frame_of e) n t,
      )

  told_match : (n : ℕ) → Meets n false → is_matched (reason s e n) ≡ true
  unfolding hits takes
  told_match n p = matched_is n ∙ rw (compared_same s e n ∙ p.0, same_match s e n p.1, guarded-same s e n ∙ p.2)

  pass_told : (n : ℕ) → reason s e n ≡ Protected → Meets n true
  unfolding passes
  pass_told n h =
      let g = sym (passed_is n) ∙ ap is_passed h in
      let t = and_r (is_compared s (frame_of e) n) (matches s (frame_of e) n && is_guarded s n) g in (
        sym (compared_same s e n) ∙ and_l (is_compared s (frame_of e) n) (matches s (frame_of e) n && is_guarded s n) g,
        match_same s e n (and_l (matches s (frame_of e) n) (is_guarded s n) t),
        sym (guarded-same s e n) ∙ and_r (matches s (frame_of e) n) (is_guarded s n) t,
      )

  told_pass : (n : ℕ) → Meets n true → reason s e n ≡ Protected
  unfolding passes
  told_pass n p = is_passed_lem (reason s e n) (passed_is n ∙ rw (compared_same s e n ∙ p.0, same_match s e n p.1, guarded-same s e n ∙ p.2))

  -- ---- the search

  -- the first place whose mailbox matched, or 32
  abbrev matched_at : ℕ → Bool
  matched_at k = is_matched (reason s e (order k))

  abbrev stop : ℕ
  stop = first_below matched_at 32

  is_stop : FirstBelow matched_at 32 stop
  is_stop = first_is matched_at 32

  -- where none matched before place k, those that match there pass the frame over
  passed-before : (k : ℕ) → ((j : ℕ) → j < k → matched_at j ≡ false) → (j : ℕ) → j < k → compared s e (order j) ≡ true → Matches s e (order j) → guarded (words s) (order j) ≡ true
  passed-before k h j l p q = at (guarded (words s) (order j)) refl
    where
      at : (t : Bool) → guarded (words s) (order j) ≡ t → guarded (words s) (order j) ≡ true
      at true g = g
      at false g = absurd (false≢true (sym (h j l) ∙ told_match (order j) (p, q, g)))

  first-at : (k : ℕ) → k < 32 → matched_at k ≡ true → ((j : ℕ) → j < k → matched_at j ≡ false) → First s e k (order k)
  first-at k l h before =
      let m = match_told (order k) h in
      record { there = l; seated = refl; compares = m.0; matches = m.1; takes = m.2; before = passed-before k before }

  stop_first : stop < 32 → First s e stop (order stop)
  stop_first l = first-at stop l (is_stop.holds l) is_stop.none

  first_stop : (k n : ℕ) → First s e k n → stop ≡ k
  first_stop k n f =
      first_by matched_at 32 k
      (record {
        most = let l = f.there in omega arith;
        holds = λ l. ap (λ (m : ℕ). is_matched (reason s e m)) f.seated ∙ told_match n (f.compares, f.matches, f.takes);
        none = λ j i. unmatched j i (matched_at j) refl;
      })
    where
      unmatched : (j : ℕ) → j < k → (t : Bool) → matched_at j ≡ t → matched_at j ≡ false
      unmatched j i true q = let m = match_told (order j) q in absurd (false≢true (sym m.2 ∙ f.before j i m.0 m.1))
      unmatched j i false q = q

  none_first : 32 ≤ stop → (k n : ℕ) → First s e k n → ⊥
  none_first l k n f = let q = first_stop k n f in let m = f.there in omega arith

  -- ---- the lines

  module _ (on : on_bus (words s) ≡ true) where
    heard-lines : explained s e ≡ lines_below order (reason s e) (line_count stop)
    unfolding explained lines
    heard-lines = rw on

    -- a place that has a line is not behind the first whose mailbox matched
    within : (k : ℕ) → k < line_count stop → (k ≤ stop) × (k < 32)
    within k h = at (ltb stop 32) refl
      where
        at : (t : Bool) → ltb stop 32 ≡ t → (k ≤ stop) × (k < 32)
        at true q = let l = ltb-true stop 32 q in let m = ends_at stop l in (omega arith, omega arith)
        at false q = let l = ltb-false stop 32 q in let m = ends_last stop l in (omega arith, omega arith)

    told-first : (n : ℕ) → IsTold n Matched (explained s e) → (k : ℕ) × First s e k n
    told-first n h =
        let b = is_below order (reason s e) n Matched (line_count stop) (rw heard-lines at h) in
        let w = within b.0 b.1 in
        let l = w.0 in
        (b.0, rw b.2 at (first-at b.0 w.1 (ap (λ (m : ℕ). is_matched (reason s e m)) b.2 ∙ ap is_matched b.3) (λ j i. is_stop.none j (omega arith))))

    first-told : (k n : ℕ) → First s e k n → IsTold n Matched (explained s e)
    first-told k n f =
        let l = f.there in
        let q = first_stop k n f in
        let m = ends_at stop (omega arith) in
        rw heard-lines (below_is order (reason s e) n Matched (line_count stop) k (omega arith) f.seated (is_matched_lem (reason s e n) (told_match n (f.compares, f.matches, f.takes))))

    in_order : InOrder (words s) 0 (explained s e)
    in_order = rw heard-lines (order_below (words s) (reason s e) (line_count stop))

    told-reason : (n : ℕ) (why : Reason) → IsTold n why (explained s e) → reason s e n ≡ why
    told-reason n why h = (is_below order (reason s e) n why (line_count stop) (rw heard-lines at h)).3

    to_first : (k n : ℕ) → First s e k n → length (explained s e) ≡ k + 1
    to_first k n f =
        let l = f.there in
        let q = first_stop k n f in
        ap length heard-lines ∙ below_length order (reason s e) (line_count stop) ∙ ends_at stop (omega arith) ∙ omega arith

    to_last : ((k n : ℕ) → First s e k n → ⊥) → length (explained s e) ≡ 32
    to_last none = at (ltb stop 32) refl
      where
        at : (t : Bool) → ltb stop 32 ≡ t → length (explained s e) ≡ 32
        at true q = absurd (none stop (order stop) (stop_first (ltb-true stop 32 q)))
        at false q = ap length heard-lines ∙ below_length order (reason s e) (line_count stop) ∙ ends_last stop (ltb-false stop 32 q)

    counted : comparisons (explained s e) ≡ count_to s e (line_count stop)
    counted =
        ap comparisons heard-lines
        ∙ comparisons_below order (reason s e) (line_count stop)
        ∙ ap (λ (p : ℕ → Bool). count_below p (line_count stop)) (λ i k. counts-compared s e (order k) i)

  -- ---- a step that takes the frame

  module _ (x : List ℕ) (a : ℕ) (h : Takes s e x a) where
    abbrev o : Outcome
    o = h.step.outcome

    refusal_0 : o.refusal ≡ 0
    refusal_0 = (h.step.keeps.accepts h.taken).refusal

    -- the frame is heard
    module _ (on : on_bus (words s) ≡ true) where
      -- does mailbox n store the frame or reply to it, if it matched?
      abbrev acts : ℕ → Bool
      acts n = words s MD has n || box s n 0 has 29

      -- the mailbox where the search stops
      abbrev where_stopped : ℕ
      where_stopped = order stop

      -- what it answers
      abbrev Named : Type 0
      Named = ((o.mailbox ≡ 32) × ((32 ≤ stop) ⊎ (acts where_stopped ≡ false))) ⊎ ((o.mailbox ≡ where_stopped) × (stop < 32) × (acts where_stopped ≡ true))

      abbrev Said : Type 0
      Said = (o.count ≡ count_to s e (line_count stop)) × Named

      said : Said
      said = at (((h.step.keeps.accepts h.taken).does.frame h.frame).heard on) (ltb stop 32) refl (words s MD has where_stopped) refl (box s where_stopped 0 has 29) refl
        where
          to_stop : (k : ℕ) → k ≡ line_count stop → o.count ≡ count_to s e k → o.count ≡ count_to s e (line_count stop)
          to_stop k q c = c ∙ ap (count_to s e) q

          at : {now : Words} → Heard s e (words s) now o → (t : Bool) → ltb stop 32 ≡ t → (u : Bool) → words s MD has where_stopped ≡ u → (v : Bool) → box s where_stopped 0 has 29 ≡ v → Said
          at p false q u r v k = let l = ltb-false stop 32 q in let b = (p.nobody (none_first l)).0 in (to_stop 32 (sym (ends_last stop l)) b.1, inl (b.0, inl l))
          at p true q true r v k = let l = ltb-true stop 32 q in let b = (p.stored stop where_stopped (stop_first l) r).0 in (to_stop (stop + 1) (sym (ends_at stop l)) b.1, inr (b.0, l, rw r))
          at p true q false r true k = let l = ltb-true stop 32 q in let b = (p.replied stop where_stopped (stop_first l) r k).0 in (to_stop (stop + 1) (sym (ends_at stop l)) b.1, inr (b.0, l, rw (r, k)))
          at p true q false r false k = let l = ltb-true stop 32 q in let b = (p.ignored stop where_stopped (stop_first l) r k).0 in (to_stop (stop + 1) (sym (ends_at stop l)) b.1, inl (b.0, inr (rw (r, k))))

      small : o.mailbox ≤ 32
      small = ⊎_elim (λ p. let z = p.0 in omega arith) (λ p. let q = p.0 in let l = first-there s e stop where_stopped (stop_first p.1) in omega arith) said.1

      heard-count : a / 65536 ≡ comparisons (explained s e)
      heard-count = omega (arith, h.step.packs, refusal_0, small) ∙ said.0 ∙ sym (counted on)

      answered : a / 256 % 256 ≡ o.mailbox
      answered = omega (arith, h.step.packs, refusal_0, small)

      -- a matched mailbox is the one where the search stops
      stopped_at : (n : ℕ) → IsTold n Matched (explained s e) → (stop < 32) × (where_stopped ≡ n)
      stopped_at n t =
          let f = told-first on n t in
          let q = first_stop f.0 n f.1 in
          let l = f.1.there in
          (omega arith, ap order q ∙ f.1.seated)

      heard-named : (n : ℕ) → n < 32 → (a / 256 % 256 ≡ n) ↔ (IsTold n Matched (explained s e) × (acts n ≡ true))
      heard-named n l = (to said.1, from said.1)
        where
          to : Named → a / 256 % 256 ≡ n → IsTold n Matched (explained s e) × (acts n ≡ true)
          to (inl p) q = let z = p.0 in absurd (omega (arith, answered))
          to (inr p) q =
              let i : where_stopped ≡ n = sym p.0 ∙ sym answered ∙ q in
              (rw i at (first-told on stop where_stopped (stop_first p.1)), ap acts (sym i) ∙ p.2)

          from : Named → IsTold n Matched (explained s e) × (acts n ≡ true) → a / 256 % 256 ≡ n
          from (inl p) m =
              let i = stopped_at n m.0 in
              let k = i.0 in
              ⊎_elim (λ z. absurd (omega arith)) (λ z. absurd (false≢true (sym z ∙ ap acts i.1 ∙ m.1))) p.1
          from (inr p) m = answered ∙ p.0 ∙ (stopped_at n m.0).1

      heard-changed : (n : ℕ) → IsTold n Matched (explained s e) → BoxesStayBut n s x
      heard-changed n t = let f = told-first on n t in picked s e x a h.bytes.0 h.bytes.1 h.step h.frame f.0 n f.1

      heard-unchanged : ((n : ℕ) → IsTold n Matched (explained s e) → ⊥) → BoxesStayBut 32 s x
      heard-unchanged none = nobody s e x a h.bytes.0 h.bytes.1 h.step h.frame (λ k n f. none n (first-told on k n f))

    -- it is not
    module _ (off : on_bus (words s) ≡ false) where
      one_line : explained s e ≡ unheard (words s MODE) (bus_off (words s))
      unfolding explained
      one_line = rw off

      none_told : (n : ℕ) → IsTold n Matched (explained s e) → ⊥
      none_told n t = at (rw one_line at t)
        where
          at : IsTold n Matched (unheard (words s MODE) (bus_off (words s))) → ⊥
          at (inl p) = let q : ◌≡◌ {A = Bool} false true = ap is_matched p.1 in false≢true q
          at (inr z) = z

      none-counted : comparisons (explained s e) ≡ 0
      unfolding comparisons
      none-counted = ap comparisons one_line

      silent_count : a / 65536 ≡ comparisons (explained s e)
      silent_count =
          let b = (((h.step.keeps.accepts h.taken).does.frame h.frame).unheard off).0 in
          omega (arith, h.step.packs, refusal_0, b.0, b.1) ∙ sym none-counted

      silent_named : (n : ℕ) → n < 32 → (a / 256 % 256 ≡ n) ↔ (IsTold n Matched (explained s e) × ((words s MD has n || box s n 0 has 29) ≡ true))
      silent_named n l =
          let b = (((h.step.keeps.accepts h.taken).does.frame h.frame).unheard off).0 in
          (λ q. absurd (omega (arith, h.step.packs, refusal_0, b.0, b.1)), λ m. absurd (none_told n m.0))

      silent_unchanged : BoxesStayBut 32 s x
      silent_unchanged i l m = ap (λ (y : List ℕ). byte y i) h.step.image ∙ (((h.step.keeps.accepts h.taken).does.frame h.frame).unheard off).1 i l m

    heard-or-not : {A : Type 0} → (on_bus (words s) ≡ true → A) → (on_bus (words s) ≡ false → A) → A
    heard-or-not {A} f g = at (on_bus (words s)) refl
      where
        at : (t : Bool) → on_bus (words s) ≡ t → A
        at true q = f q
        at false q = g q

    count : a / 65536 ≡ comparisons (explained s e)
    count = heard-or-not heard-count silent_count

    named : (n : ℕ) → n < 32 → (a / 256 % 256 ≡ n) ↔ (IsTold n Matched (explained s e) × ((words s MD has n || box s n 0 has 29) ≡ true))
    named n l = heard-or-not (λ on. heard-named on n l) (λ off. silent_named off n l)

    changed : (n : ℕ) → IsTold n Matched (explained s e) → BoxesStayBut n s x
    changed n t = heard-or-not (λ on. heard-changed on n t) (λ off. absurd (none_told off n t))

    unchanged : ((n : ℕ) → IsTold n Matched (explained s e) → ⊥) → BoxesStayBut 32 s x
    unchanged none = heard-or-not (λ on. heard-unchanged on none) (λ off. silent_unchanged off)

pub agreement : Agreement
agreement =
    record {
      bit = λ s e n i. named-bit (not (words s MC has n)) (not (rtr e || words s MD has n)) (guarded (words s) n) (differs s e n) i;
      passed = λ s e n. (pass_told s e n, told_pass s e n);
      order = in_order;
      told = told-reason;
      last = to_first;
      all = to_last;
      matched = λ s e on n. (told-first s e on n, λ f. first-told s e on f.0 n f.1);
      count = count;
      named = named;
      changed = changed;
      unchanged = unchanged;
    }
