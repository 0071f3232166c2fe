-- A stream of calls: it hangs on the bytes of the trace alone; 9 exactly where a text does not fit; once it is over nothing changes; and the promise of
-- each call leaves one outcome.
use Prim.Native.Nat.{ℕ, ◌≤◌}
use mathlib.Core.Path.{◌≡◌, refl, sym, ◌∙◌, ap, ap₂, subst}
use mathlib.Core.Bool.{Bool, true, false, cond, not, false≢true}
use mathlib.Core.List.{List, [], ◌∷◌, ◌++◌, append_assoc, append-nil, flat_map}
use mathlib.Core.Logic.{◌≢◌}
use native.Mathlib.Omega.{arith}
use lib.Dec.{eqb, ltb, lit≤}
use lib.ListN.{length, take, drop}
use lib.Seq.{take-append_seam}
use borrow.Author.Tests.{eq-eqb, ne_eqb, eqb-true, eqb-false, ltb-true, ltb-false, not-true}
use Rattle.bits.proofs.Sets.{and_l, and_r}
use Rattle.words.specs.Word.{word_at}
use Rattle.words.proofs.Bytes.{Bytes, bytes_take}
use Rattle.registers.specs.Block.{can_b}
use Rattle.fresh.proofs.Good.{fresh_facts}
use Rattle.model.specs.Step.{step}
use Rattle.model.proofs.Lengths.{step-length}
use Rattle.trace.specs.Trace.{well_formed, image_after, header}
use Rattle.stream.specs.Stream.{Standing, behind, over, is_over, opened, ended, fed, printed, complete, last_line, transcript}
use Rattle.stream.specs.Calls.{state_of, standing, Call, refused, prints, lengths, against, unless, opening, fed_call, feeding, last_call, closing, Leaves, OpenCall, FeedCall, CloseCall}
use Rattle.stream.specs.Terms.{Ready}
use Rattle.stream.specs.Agreement.{Held, Stands, Feeding, after, Part, fed_to, after_parts, roomy, begun, last_of, file, Ends, Cutting, Nine, Rooms, Over, Finished}
use Rattle.stream.proofs.Cuts.{fed-append, printed-append, fed-over, printed-over}
use Rattle.stream.proofs.Ready.{opened-ready, ended-ready, fed-ready, steps-few, last-short, printed-most, printed-fits}
use Rattle.stream.proofs.State.{length-state, section_back, standing_back, ready-state, ready-standing}
use Rattle.stream.proofs.FromState.{standing-state}
use Rattle.stream.proofs.Judging.{Stands as Against, taken, free, past, unfit, stands, over_already, nothing-against}
use Rattle.stream.proofs.Leaving.{there, prints-fits, prints-short, unless-none, unless-some}
use Rattle.stream.proofs.Story.{story}
use Rattle.stream.proofs.Walk.{all_read}
use Rattle.stream.proofs.Came.{read_back}

-- ---- a text that fits, and one that does not

module _ (s t o : List ℕ) (σ : Standing) (u : List ℕ) (r : ℕ) where
  nine : r ≢ 9 → Nine s t o u (prints s t o σ u r)
  nine n = to (ltb (length o) (length u)) refl
    where
      to : (a : Bool) → ltb (length o) (length u) ≡ a → Nine s t o u (prints s t o σ u r)
      to true e =
          let l = ltb-true (length o) (length u) e in
          let c = prints-short s t o σ u r l in
          record { exactly = (λ h. l, λ h. ap (λ (c : Call). c.refusal) c); unchanged = λ h. c }
      to false e =
          let l = ltb-false (length o) (length u) e in
          let never : (prints s t o σ u r).refusal ≡ 9 → ⊥ = λ h. n (sym (ap (λ (c : Call). c.refusal) (prints-fits s t o σ u r l)) ∙ h) in
          record { exactly = (λ h. absurd (never h), λ h. absurd (omega arith)); unchanged = λ h. absurd (never h) }

  -- no 9: it is there
  not_nine : r ≢ 9 → (prints s t o σ u r).refusal ≢ 9 → prints s t o σ u r ≡ there s t o σ u r
  not_nine n h = to (ltb (length o) (length u)) refl
    where
      to : (a : Bool) → ltb (length o) (length u) ≡ a → prints s t o σ u r ≡ there s t o σ u r
      to true e = absurd (h (ap (λ (c : Call). c.refusal) (prints-short s t o σ u r (ltb-true (length o) (length u) e))))
      to false e = prints-fits s t o σ u r (ltb-false (length o) (length u) e)

neither : (a : Bool) (m n : ℕ) → m ≢ 9 → n ≢ 9 → cond a m n ≢ 9
neither true m n h k = h
neither false m n h k = k

-- ---- what stands against a call

module _ (s t : List ℕ) (h : length s ≡ 776) (k : length t ≡ 32) where
  lengths_hold : lengths s t ≡ true
  lengths_hold = rw (eq-eqb (length s) 776 h, eq-eqb (length t) 32 k)

  opening_is : (o : List ℕ) → opening s t o ≡ prints s t o opened header 0
  unfolding opening
  opening_is o = rw lengths_hold (unless-none 0 s t o (prints s t o opened header 0) refl)

module _ (s t : List ℕ) {r : ℕ} (h : against s t ≡ r) (n : r ≢ 0) where
  stops : (o : List ℕ) (c : Call) → unless (against s t) s t o c ≡ refused s t o r
  stops o c = unless-some (against s t) s t o c (λ z. n (sym h ∙ z)) ∙ ap (refused s t o) h

  feeding_stops : (p o : List ℕ) → feeding s t p o ≡ refused s t o r
  unfolding feeding
  feeding_stops p o = stops o (fed_call s t p o)

  closing_stops : (o : List ℕ) → closing s t o ≡ refused s t o r
  unfolding closing
  closing_stops o = stops o (last_call s t o)

over_is : (s t : List ℕ) → against s t ≡ 8 → Over s t
over_is s t h = record { feeds = feeding_stops s t h (λ z. omega arith); closes = closing_stops s t h (λ z. omega arith) }

module _ (s t : List ℕ) (h : against s t ≡ 0) where
  feeding_is : (p o : List ℕ) → feeding s t p o ≡ fed_call s t p o
  unfolding feeding
  feeding_is p o = unless-none (against s t) s t o (fed_call s t p o) h

  closing_is : (o : List ℕ) → closing s t o ≡ last_call s t o
  unfolding closing
  closing_is o = unless-none (against s t) s t o (last_call s t o) h

-- ---- rooms

nine_as : {s t o u : List ℕ} {c d : Call} → c ≡ d → Nine s t o u d → Nine s t o u c
nine_as {s} {t} {o} {u} e n = subst (λ (c : Call). Nine s t o u c) (sym e) n

-- where any text has room
module _ (s t p o : List ℕ) (small : Bytes t) (l : Ready (standing s t) → length (printed (standing s t) p) ≤ length o) where
  stopped : {r : ℕ} → against s t ≡ r → r ≢ 0 → r ≢ 9 → (feeding s t p o).refusal ≢ 9
  stopped e n m h = m (sym (ap (λ (c : Call). c.refusal) (feeding_stops s t e n p o)) ∙ h)

  enough : (feeding s t p o).refusal ≢ 9
  unfolding fed_call
  enough = to (stands s t) refl
    where
      to : {r : ℕ} → Against s t r → against s t ≡ r → (feeding s t p o).refusal ≢ 9
      to (free k) e h =
          let σ = standing s t in
          let c = feeding_is s t e p o ∙ prints-fits s t o (fed σ p) (printed σ p) (cond (is_over (fed σ p)) 8 0) (l (ready-standing s t k.state small k.left)) in
          neither (is_over (fed σ p)) 8 0 (λ e. omega arith) (λ e. omega arith) (sym (ap (λ (c : Call). c.refusal) c) ∙ h)
      to (past i k z) e h = stopped e (λ z. omega arith) (λ z. omega arith) h
      to unfit e h = stopped e (λ z. omega arith) (λ z. omega arith) h

module _ (s t o : List ℕ) (small : Bytes t) (l : 16 ≤ length o) where
  closes_enough : (closing s t o).refusal ≢ 9
  unfolding last_call
  closes_enough = to (stands s t) refl
    where
      off : {r : ℕ} → against s t ≡ r → r ≢ 0 → r ≢ 9 → (closing s t o).refusal ≢ 9
      off e n m h = m (sym (ap (λ (c : Call). c.refusal) (closing_stops s t e n o)) ∙ h)

      to : {r : ℕ} → Against s t r → against s t ≡ r → (closing s t o).refusal ≢ 9
      to (free k) e h =
          let σ = standing s t in
          let n = last-short σ (steps-few σ (ready-standing s t k.state small k.left)) in
          let q : ℕ = cond (eqb (word_at t 0) behind) 0 8 in
          let c = closing_is s t e o ∙ prints-fits s t o (ended s) (last_line σ) q (omega arith) in
          neither (eqb (word_at t 0) behind) 0 8 (λ e. omega arith) (λ e. omega arith) (sym (ap (λ (c : Call). c.refusal) c) ∙ h)
      to (past i k z) e h = off e (λ z. omega arith) (λ z. omega arith) h
      to unfit e h = off e (λ z. omega arith) (λ z. omega arith) h

-- a part without bytes
nothing_changes : (s t o : List ℕ) → Bytes t → against s t ≡ 0 → feeding s t [] o ≡ refused s t o 0
unfolding fed_call fed printed standing
nothing_changes s t o b h =
    let k = taken s t h in
    let σ = standing s t in
    let z = ne_eqb (word_at t 0) over k.going in
    feeding_is s t h [] o
    ∙ prints-fits s t o σ [] (cond (is_over σ) 8 0) (omega arith)
    ∙ ap₂ (λ (y : List ℕ) (r : ℕ). record { image = s; state = y; text = o; refusal = r; bytes = 0 }) (sym (standing-state s t k.state b k.left)) (rw z)

pub rooms : Rooms
unfolding fed_call last_call
rooms =
    record {
      opens = λ s t o h k. nine_as (opening_is s t h k o) (nine s t o opened header 0 (λ e. omega arith));
      feeds = λ s t p o h.
          let σ = standing s t in
          nine_as (feeding_is s t h p o) (nine s t o (fed σ p) (printed σ p) _ (neither (is_over (fed σ p)) 8 0 (λ e. omega arith) (λ e. omega arith)));
      closes = λ s t o h. nine_as (closing_is s t h o) (nine s t o (ended s) (last_line (standing s t)) _ (neither (eqb (word_at t 0) behind) 0 8 (λ e. omega arith) (λ e. omega arith)));
      enough = λ s t p o small b l. enough s t p o small (λ d. omega (arith, l, printed-fits (standing s t) d p b));
      most = λ s t p o small b l. enough s t p o small (λ d. omega (arith, l, printed-most (standing s t) d p b));
      closes_enough = closes_enough;
      nothing = nothing_changes;
    }

-- ---- once it is over

-- the image keeps its length
after-length : (s : List ℕ) (es : List (List ℕ)) → length (image_after s es) ≡ length s
unfolding image_after
after-length s [] = refl
after-length s (e ∷ es) = after-length (step s e).image es ∙ step-length s e

fed-length : (σ : Standing) → Ready σ → (l : List ℕ) → length (fed σ l).image ≡ length σ.image
fed-length σ d l = to (is_over σ) refl
  where
    to : (a : Bool) → is_over σ ≡ a → length (fed σ l).image ≡ length σ.image
    to true e = ap (λ (τ : Standing). length τ.image) (fed-over σ (eqb-true _ _ e) l)
    to false e =
        let n = eqb-false σ.section over e in
        ap length (story σ (omega (arith, d.last)) l).image_is ∙ after-length σ.image (complete σ l)

-- what stands against a call where a stream stands
module _ (σ : Standing) (d : Ready σ) (l : length σ.image ≡ 776) where
  over-against : σ.section ≡ over → against σ.image (state_of σ) ≡ 8
  over-against h = sym (over_already σ.image (state_of σ) l (length-state σ d) (section_back σ d ∙ h))

  none-against : σ.section ≢ over → against σ.image (state_of σ) ≡ 0
  none-against h =
      sym (nothing-against σ.image (state_of σ) l (length-state σ d) (λ e. h (sym (section_back σ d) ∙ e)) (ready-state σ d h))

  stands-over : σ.section ≡ over → Over σ.image (state_of σ)
  stands-over h = over_is σ.image (state_of σ) (over-against h)

over_as : {c d : Call} → c ≡ d → Over d.image d.state → Over c.image c.state
over_as e o = subst (λ (c : Call). Over c.image c.state) (sym e) o

module _ (s t p o : List ℕ) (small : Bytes t) (b : Bytes p) (h : (feeding s t p o).refusal ≡ 8) where
  abbrev σ : Standing
  σ = standing s t

  fault-over : is_over (fed σ p) ≡ true → Ready σ → length s ≡ 776 → Over (fed σ p).image (state_of (fed σ p))
  unfolding standing
  fault-over e d l = stands-over (fed σ p) (fed-ready σ d p b) (fed-length σ d p ∙ l) (eqb-true _ _ e)

  its_fault : (a : Bool) → ◌≡◌ {A = ℕ} (cond a 8 0) 8 → a ≡ true
  its_fault true e = refl
  its_fault false e = absurd (omega arith)

  fed_finished : Over (feeding s t p o).image (feeding s t p o).state
  unfolding fed_call
  fed_finished = to (stands s t) refl
    where
      to : {r : ℕ} → Against s t r → against s t ≡ r → Over (feeding s t p o).image (feeding s t p o).state
      to (free k) e =
          let m : ℕ = cond (is_over (fed σ p)) 8 0 in
          let c : feeding s t p o ≡ there s t o (fed σ p) (printed σ p) m =
          feeding_is s t e p o
          ∙ not_nine s t o (fed σ p) (printed σ p) m (neither (is_over (fed σ p)) 8 0 (λ e. omega arith) (λ e. omega arith))
          (λ z. omega (arith, h, ap (λ (c : Call). c.refusal) (feeding_is s t e p o), z)) in
          over_as c
          (fault-over (its_fault (is_over (fed σ p)) (sym (ap (λ (c : Call). c.refusal) c) ∙ h)) (ready-standing s t k.state small k.left) k.image)
      to (past i k z) e = over_as (feeding_stops s t e (λ z. omega arith) p o) (over_is s t e)
      to unfit e = absurd (omega (arith, h, ap (λ (c : Call). c.refusal) (feeding_stops s t e (λ z. omega arith) p o)))

module _ (s t o : List ℕ) (n : (closing s t o).refusal ≢ 1) (m : (closing s t o).refusal ≢ 9) where
  close_finished : Over (closing s t o).image (closing s t o).state
  unfolding last_call
  close_finished = to (stands s t) refl
    where
      to : {r : ℕ} → Against s t r → against s t ≡ r → Over (closing s t o).image (closing s t o).state
      to (free k) e =
          let q : ℕ = cond (eqb (word_at t 0) behind) 0 8 in
          let c : closing s t o ≡ there s t o (ended s) (last_line (standing s t)) q =
          closing_is s t e o
          ∙ not_nine s t o (ended s) (last_line (standing s t)) q (neither (eqb (word_at t 0) behind) 0 8 (λ e. omega arith) (λ e. omega arith))
          (λ z. m (ap (λ (c : Call). c.refusal) (closing_is s t e o) ∙ z)) in
          over_as c (stands-over (ended s) (ended-ready s) k.image refl)
      to (past i k z) e = over_as (closing_stops s t e (λ z. omega arith) o) (over_is s t e)
      to unfit e = absurd (n (ap (λ (c : Call). c.refusal) (closing_stops s t e (λ z. omega arith) o)))

pub finished : Finished
finished = record { fed = fed_finished; closed = close_finished }

-- ---- however a file is cut

-- what a call wrote
wrote : (h : Held) (u o : List ℕ) → h.text ++ take (length u) (u ++ drop (length u) o) ≡ h.text ++ u
wrote h u o = ap (λ (x : List ℕ). h.text ++ x) (take-append_seam u (drop (length u) o))

begins : (s t o : List ℕ) → length s ≡ 776 → length t ≡ 32 → (opening s t o).refusal ≢ 9 → Stands [] (begun s t o)
unfolding fed printed
begins s t o h k n =
    let p = prints s t o opened header 0 in
    let e = opening_is s t h k o in
    let c = e ∙ not_nine s t o opened header 0 (λ z. omega arith) (λ z. n (ap (λ (c : Call). c.refusal) e ∙ z)) in
    record {
      image = ap (λ (c : Call). c.image) c;
      state = ap (λ (c : Call). c.state) c;
      text = ap (λ (c : Call). take c.bytes c.text) c ∙ take-append_seam header (drop (length header) o) ∙ sym (append-nil header);
      refusal = ap (λ (c : Call). c.refusal) c;
    }

module _ (f : List ℕ) (b : Bytes f) where
  abbrev τ : Standing
  τ = fed opened f

  τ_ready : Ready τ
  τ_ready = fed-ready opened opened-ready f b

  τ_length : length τ.image ≡ 776
  τ_length = fed-length opened opened-ready f ∙ (fresh_facts can_b (lit≤ tt)).size

  τ_back : standing τ.image (state_of τ) ≡ τ
  τ_back = standing_back τ τ_ready

  -- a part more
  module _ (h : Held) (w : Stands f h) (q : Part) where
    abbrev p : List ℕ
    p = q.part

    call_is : fed_to h q ≡ feeding τ.image (state_of τ) p q.lent
    call_is = ap₂ (λ (x y : List ℕ). feeding x y p q.lent) w.image w.state

    more_text : (u : List ℕ) → h.text ++ u ≡ header ++ (printed opened f ++ u)
    more_text u = ap (λ (x : List ℕ). x ++ u) w.text ∙ append_assoc header (printed opened f) u

    fed_on : (fed_to h q).refusal ≢ 9 → Stands (f ++ p) (after h (fed_to h q))
    unfolding fed_call
    fed_on n = to (is_over τ) refl
      where
        to : (a : Bool) → is_over τ ≡ a → Stands (f ++ p) (after h (fed_to h q))
        to true e =
            let o = eqb-true τ.section over e in
            let c = call_is ∙ (stands-over τ τ_ready τ_length o).feeds p q.lent in
            let z = fed-append opened f p ∙ fed-over τ o p in
            record {
              image = ap (λ (c : Call). c.image) c ∙ ap (λ (σ : Standing). σ.image) (sym z);
              state = ap (λ (c : Call). c.state) c ∙ ap state_of (sym z);
              text =
                  ap (λ (c : Call). h.text ++ take c.bytes c.text) c
                  ∙ more_text []
                  ∙ ap (λ (u : List ℕ). header ++ (printed opened f ++ u)) (sym (printed-over τ o p))
                  ∙ ap (λ (u : List ℕ). header ++ u) (sym (printed-append opened f p));
              refusal = ap (λ (c : Call). c.refusal) c ∙ sym (ap (λ (σ : Standing). cond (is_over σ) 8 0) z ∙ rw e);
            }
        to false e =
            let o = eqb-false τ.section over e in
            let m : ℕ = cond (is_over (fed τ p)) 8 0 in
            let s = τ.image in
            let t = state_of τ in
            let i : fed_to h q ≡ prints s t q.lent (fed τ p) (printed τ p) m =
            call_is
            ∙ feeding_is s t (none-against τ τ_ready τ_length o) p q.lent
            ∙ ap (λ (σ : Standing). prints s t q.lent (fed σ p) (printed σ p) (cond (is_over (fed σ p)) 8 0)) τ_back in
            let c =
            i
            ∙ not_nine s t q.lent (fed τ p) (printed τ p) m (neither (is_over (fed τ p)) 8 0 (λ e. omega arith) (λ e. omega arith))
            (λ z. n (ap (λ (c : Call). c.refusal) i ∙ z)) in
            let z = fed-append opened f p in
            record {
              image = ap (λ (c : Call). c.image) c ∙ ap (λ (σ : Standing). σ.image) (sym z);
              state = ap (λ (c : Call). c.state) c ∙ ap state_of (sym z);
              text =
                  ap (λ (c : Call). h.text ++ take c.bytes c.text) c
                  ∙ wrote h (printed τ p) q.lent
                  ∙ more_text (printed τ p)
                  ∙ ap (λ (u : List ℕ). header ++ u) (sym (printed-append opened f p));
              refusal = ap (λ (c : Call). c.refusal) c ∙ ap (λ (σ : Standing). cond (is_over σ) 8 0) (sym z);
            }

  -- the closing
  module _ (h : Held) (w : Stands f h) (e : List ℕ) (n : (last_of h e).refusal ≢ 9) where
    last_is : last_of h e ≡ closing τ.image (state_of τ) e
    last_is = ap₂ (λ (x y : List ℕ). closing x y e) w.image w.state

    -- behind the third section exactly where the file is well formed
    whole-file : eqb τ.section behind ≡ well_formed f
    whole-file = to (well_formed f) refl
      where
        to : (a : Bool) → well_formed f ≡ a → eqb τ.section behind ≡ a
        to true k = eq-eqb τ.section behind (all_read f b k).0
        to false k = ne_eqb τ.section behind (λ z. false≢true (sym k ∙ read_back f b z))

    ends : Ends f (after h (last_of h e))
    unfolding last_call transcript last_line
    ends = to (is_over τ) refl
      where
        to : (a : Bool) → is_over τ ≡ a → Ends f (after h (last_of h e))
        to true k =
            let o = eqb-true τ.section over k in
            let c = last_is ∙ (stands-over τ τ_ready τ_length o).closes e in
            let z : well_formed f ≡ false = sym whole-file ∙ ne_eqb τ.section behind (λ z. omega arith) in
            record {
              text = ap (λ (c : Call). h.text ++ take c.bytes c.text) c ∙ ap (λ (x : List ℕ). x ++ []) w.text ∙ append_assoc header (printed opened f) [] ∙ rw k;
              image = ap (λ (c : Call). c.image) c;
              refusal = ap (λ (c : Call). c.refusal) c ∙ rw z;
            }
        to false k =
            let o = eqb-false τ.section over k in
            let s = τ.image in
            let t = state_of τ in
            let m : ℕ = cond (eqb (word_at t 0) behind) 0 8 in
            let i : last_of h e ≡ prints s t e (ended s) (last_line τ) m =
            last_is
            ∙ closing_is s t (none-against τ τ_ready τ_length o) e
            ∙ ap (λ (σ : Standing). prints s t e (ended s) (last_line σ) m) τ_back in
            let c =
            i
            ∙ not_nine s t e (ended s) (last_line τ) m (neither (eqb (word_at t 0) behind) 0 8 (λ e. omega arith) (λ e. omega arith))
            (λ z. n (ap (λ (c : Call). c.refusal) i ∙ z)) in
            record {
              text =
                  ap (λ (c : Call). h.text ++ take c.bytes c.text) c
                  ∙ wrote h (last_line τ) e
                  ∙ ap (λ (x : List ℕ). x ++ last_line τ) w.text
                  ∙ append_assoc header (printed opened f) (last_line τ)
                  ∙ rw k;
              image = ap (λ (c : Call). c.image) c;
              refusal =
                  ap (λ (c : Call). c.refusal) c
                  ∙ ap (λ (x : ℕ). cond (eqb x behind) 0 8) (section_back τ τ_ready)
                  ∙ ap (λ (x : Bool). cond x 0 8) whole-file;
            }

-- the parts, one after the other
parts : (l : List Part) (f : List ℕ) (h : Held) → Bytes (f ++ file l) → Stands f h → roomy h l ≡ true → Stands (f ++ file l) (after_parts h l)
unfolding after_parts roomy flat_map
parts [] f h b w r = subst (λ (x : List ℕ). Stands x h) (sym (append-nil f)) w
parts (q ∷ l) f h b w r =
    let e = append_assoc f q.part (file l) in
    let d = subst Bytes (take-append_seam f (file (q ∷ l))) (bytes_take (length f) (f ++ file (q ∷ l)) b) in
    let n = and_l (not (eqb (fed_to h q).refusal 9)) (roomy (after h (fed_to h q)) l) r in
    let k = fed_on f d h w q (eqb-false (fed_to h q).refusal 9 (not-true _ n)) in
    subst (λ (x : List ℕ). Stands x (after_parts (after h (fed_to h q)) l)) e
    (parts l (f ++ q.part) (after h (fed_to h q)) (subst Bytes (sym e) b) k (and_r (not (eqb (fed_to h q).refusal 9)) (roomy (after h (fed_to h q)) l) r))

pub fed_parts : Feeding
fed_parts s t o l h k b n r = parts l [] (begun s t o) b (begins s t o h k n) r

pub cutting : Cutting
cutting s t o l e h k b n r m = ends (file l) b (after_parts (begun s t o) l) (fed_parts s t o l h k b n r) e m

-- ---- one outcome

-- two outcomes that meet the promise of a call coincide
abbrev Same : (x x' y y' z z' : List ℕ) (a a' : ℕ) → Type 0
Same x x' y y' z z' a a' = (x ≡ x') × (y ≡ y') × (z ≡ z') × (a ≡ a')

module _ {x x' y y' z z' : List ℕ} {a a' : ℕ} where
  one : (c : Call) → Leaves c x y z a → Leaves c x' y' z' a' → Same x x' y y' z z' a a'
  one c p q = (p.image ∙ sym q.image, p.state ∙ sym q.state, p.text ∙ sym q.text, p.answered ∙ sym q.answered)

  pub open_unique : (s t o : List ℕ) → OpenCall s t o x y z a → OpenCall s t o x' y' z' a' → Same x x' y y' z z' a a'
  open_unique s t o = one (opening s t o)

  pub feed_unique : (s t p o : List ℕ) → FeedCall s t p o x y z a → FeedCall s t p o x' y' z' a' → Same x x' y y' z z' a a'
  feed_unique s t p o = one (feeding s t p o)

  pub close_unique : (s t o : List ℕ) → CloseCall s t o x y z a → CloseCall s t o x' y' z' a' → Same x x' y y' z z' a a'
  close_unique s t o = one (closing s t o)
