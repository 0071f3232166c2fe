-- The listing is what the rulebook asks of a file, and the rulebook asks nothing else.
use Rattle.std.proofs.lemmas.Bool.{false_from_ne_true}
use Prim.Native.Nat.{ℕ, zero, suc, ◌+◌, ◌-◌, ◌<◌, ◌≤◌}
use mathlib.Core.Path.{◌≡◌, refl, sym, ◌∙◌, ap, ap₂, subst, fun_ext}
use mathlib.Core.Bool.{Bool, true, false, cond, false≢true}
use mathlib.Core.List.{List, [], ◌∷◌, ◌++◌, append_assoc, append-nil}
use mathlib.Core.Logic.{◌↔◌}
use native.Mathlib.Numerals.{add-one}
use native.Mathlib.Omega.{arith}
use lib.Dec.{ltb}
use lib.ListN.{length, get_or, take, drop, length-append, length-drop, take-append-drop}
use lib.Seq.{length-take-le, ext_get_or, get_or-append-add, get_or-drop}
use borrow.Author.Tests.{eq-eqb, ltb-true, ltb-false, lt-ltb}
use Rattle.words.proofs.Bytes.{Bytes, bytes-nil, bytes_take, bytes_drop}
use Rattle.good.proofs.Image.{GoodImage, image-good}
use Rattle.answers.specs.Answer.{Outcome, accepted}
use Rattle.registers.specs.Block.{can_b}
use Rattle.fresh.specs.Fresh.{zero_image, fresh_image, fresh}
use Rattle.fresh.proofs.Good.{zero-length, fresh_facts}
use Rattle.model.specs.Step.{step}
use Rattle.model.proofs.Kept.{step-good}
use Rattle.texts.specs.Text.{decimal}
use Rattle.trace.specs.Trace as trace
use Rattle.trace.proofs.Bound.{listing-most}
use Rattle.trace.proofs.Unique.{front, answer_most}
use Rattle.rules.specs.Words.{byte}
use Rattle.rules.specs.Step.{Fresh, Rules}
use Rattle.rules.specs.Listing.{line, up_to, whole_text, Run, Listing}
use Rattle.rules.specs.Calls.{ListingCall}
use Rattle.rules.proofs.Fresh.{fresh_meets, fresh-one}
use Rattle.rules.proofs.Step.{step_meets, rules_one}
use Rattle.rules.proofs.Numerals.{numeral, numeral_one}
use Rattle.rules.proofs.Files.{is_trace, trace_formed}

-- ---- the text

line_same : (n : ℕ) (o : Outcome) → line decimal n o ≡ trace.line n o
unfolding trace.line_of
line_same n o = simp append_assoc

whole_same : (h l e d x : List ℕ) → h ++ l ++ e ++ d ++ x ≡ h ++ (l ++ (e ++ (d ++ x)))
whole_same h l e d x = simp append_assoc

up_to-front : (n : ℕ) (t : ℕ → List ℕ) → up_to (suc n) t ≡ t 1 ++ up_to n (λ m. t (suc m))
up_to-front zero t = simp append-nil
up_to-front (suc n) t =
    ap (λ (x : List ℕ). x ++ t (suc (suc n))) (up_to-front n t) ∙ append_assoc (t 1) (up_to n (λ m. t (suc m))) (t (suc (suc n)))

-- the lines of events, where g are the outcomes of their steps and t the lines, numbered on from k
texts : (es : List (List ℕ)) (k : ℕ) (g : ℕ → Outcome) (t : ℕ → List ℕ)
    → ((n : ℕ) → n < length es → g (suc n) ≡ step (g n).image (get_or es n []))
    → ((n : ℕ) → t (suc n) ≡ trace.line (k + n) (g (suc n)))
    → up_to (length es) t ≡ trace.lines k (g 0).image es
unfolding trace.lines
texts [] k g t h l = refl
texts (e ∷ es) k g t h l =
    let one : g 1 ≡ step (g 0).image e = h 0 (omega arith) in
    let z : k + 0 ≡ k = omega arith in
    let r =
    texts es (k + 1) (λ n. g (suc n)) (λ n. t (suc n)) (λ n m. h (suc n) (omega arith))
    (λ n. let q : k + suc n ≡ k + 1 + n = omega arith in l (suc n) ∙ ap (λ (j : ℕ). trace.line j (g (suc (suc n)))) q) in
    up_to-front (length es) t
    ∙ ap₂ (λ (x y : List ℕ). x ++ y) (l 0 ∙ ap (λ (j : ℕ). trace.line j (g 1)) z) r
    ∙ ap (λ (o : Outcome). trace.line k o ++ trace.lines (k + 1) o.image es) one

-- ---- the run

made : (lent : List ℕ) → length lent ≡ 776 → Fresh lent can_b (accepted (fresh_image can_b))
unfolding fresh
made lent h = subst (Fresh lent can_b) (rw (eq-eqb (length lent) 776 h)) (fresh_meets lent can_b)

abbrev text : List (List ℕ) → List ℕ
text es = trace.header ++ (trace.lines 1 (fresh_image can_b) es ++ trace.ending (length es))

module _ (es : List (List ℕ)) (small : (n : ℕ) → Bytes (get_or es n [])) where
  -- a step from a good image is the product's
  module _ (s : List ℕ) (n : ℕ) (g : GoodImage s) where
    meets : Rules s (get_or es n []) (step s (get_or es n []))
    meets = step_meets s (get_or es n []) g.bytes (small n)

    only : (o : Outcome) → Rules s (get_or es n []) o → o ≡ step s (get_or es n [])
    only o p = rules_one s (get_or es n []) g.bytes (small n) o (step s (get_or es n [])) p meets

    stays : GoodImage (step s (get_or es n [])).image
    stays = step-good s (get_or es n []) g.bytes (small n) (image-good s g)

  -- the text, from a beginning and outcomes that are the product's
  text_of : (g : ℕ → Outcome) → g 0 ≡ accepted (fresh_image can_b) → ((n : ℕ) → n < length es → g (suc n) ≡ step (g n).image (get_or es n []))
      → whole_text decimal g (length es) ≡ text es
  unfolding trace.ending
  text_of g z h =
      let l = up_to (length es) (λ n. line decimal n (g n)) in
      let e : l ≡ trace.lines 1 (fresh_image can_b) es =
      texts es 1 g (λ n. line decimal n (g n)) h (λ n. let q : suc n ≡ 1 + n = omega arith in line_same (suc n) (g (suc n)) ∙ ap (λ (j : ℕ). trace.line j (g (suc n))) q)
      ∙ ap (λ (o : Outcome). trace.lines 1 o.image es) z in
      whole_same trace.header l trace.end_word (decimal (length es)) (10 ∷ [])
      ∙ ap (λ (x : List ℕ). trace.header ++ (x ++ trace.ending (length es))) e

  -- the product's run meets the rule
  outcomes : ℕ → Outcome
  outcomes zero = accepted (fresh_image can_b)
  outcomes (suc n) = step (outcomes n).image (get_or es n [])

  good : (n : ℕ) → GoodImage (outcomes n).image
  unfolding outcomes
  good zero = fresh_facts can_b (omega arith)
  good (suc n) = stays (outcomes n).image n (good n)

  run_meets : Run es (text es)
  unfolding outcomes
  run_meets =
      record {
        outcome = outcomes;
        starts = made;
        steps = λ n l. rw (add-one n) (meets (outcomes n).image n (good n));
        decimal = decimal;
        numerals = numeral;
        whole = sym (text_of outcomes refl (λ n l. refl));
      }

  -- and any run that does has its text
  module _ (t : List ℕ) (r : Run es t) where
    begun : r.outcome 0 ≡ accepted (fresh_image can_b)
    begun =
        fresh-one zero_image can_b (r.outcome 0) (accepted (fresh_image can_b)) (r.starts zero_image zero-length) (made zero_image zero-length)

    next : (n : ℕ) → n < length es → GoodImage (r.outcome n).image → r.outcome (suc n) ≡ step (r.outcome n).image (get_or es n [])
    next n l g = only (r.outcome n).image n g (r.outcome (suc n)) (rw (add-one n) at (r.steps n l))

    goes_on : (n : ℕ) → n < length es → GoodImage (r.outcome n).image → GoodImage (r.outcome (suc n)).image
    goes_on n l g = subst (λ (o : Outcome). GoodImage o.image) (sym (next n l g)) (stays (r.outcome n).image n g)

    keeps : (n : ℕ) → n ≤ length es → GoodImage (r.outcome n).image
    keeps zero l = subst (λ (o : Outcome). GoodImage o.image) (sym begun) (fresh_facts can_b (omega arith))
    keeps (suc n) l = goes_on n l (keeps n (omega arith))

    run-one : t ≡ text es
    run-one =
        let d : r.decimal ≡ decimal = fun_ext (λ n. numeral_one n (r.decimal n) (r.numerals n)) in
        r.whole
        ∙ ap (λ (d : ℕ → List ℕ). whole_text d r.outcome (length es)) d
        ∙ text_of r.outcome begun (λ n l. next n l (keeps n (omega arith)))

-- ---- the file

events-small : (f : List ℕ) → Bytes f → (at n : ℕ) → (i : ℕ) → Bytes (get_or (trace.events_from f at n) i [])
unfolding trace.events_from
events-small f b at zero i = bytes-nil
events-small f b at (suc n) zero = bytes_take 16 (drop at f) (bytes_drop at f b)
events-small f b at (suc n) (suc i) = events-small f b (at + 16) n i

append-small : (a b : List (List ℕ)) → ((n : ℕ) → Bytes (get_or a n [])) → ((n : ℕ) → Bytes (get_or b n [])) → (n : ℕ) → Bytes (get_or (a ++ b) n [])
append-small [] b p q n = q n
append-small (e ∷ a) b p q zero = p 0
append-small (e ∷ a) b p q (suc n) = append-small a b (λ i. p (suc i)) q n

module _ (f : List ℕ) (b : Bytes f) where
  small : (n : ℕ) → Bytes (get_or (trace.events f) n [])
  unfolding trace.events
  small =
      let a = trace.section f 0 in
      let s = trace.section f (trace.second f) in
      let t = trace.section f (trace.third f) in
      append-small a (s ++ t) (events-small f b 2 (trace.count_at f 0))
      (append-small s t (events-small f b (trace.second f + 2) (trace.count_at f (trace.second f))) (events-small f b (trace.third f + 2) (trace.count_at f (trace.third f))))

  listing_meets : Listing f (trace.listing f)
  unfolding trace.listing trace.run
  listing_meets =
      record {
        refused = λ n. rw (false_from_ne_true (trace.well_formed f) (λ h. n (trace.section f 0) (trace.section f (trace.second f)) (trace.section f (trace.third f)) (is_trace f b h)));
        run =
            λ p q r t.
            let w = trace_formed f p q r t in
            rw w.0 (subst (λ (es : List (List ℕ)). Run es (text (trace.events f))) w.1 (run_meets (trace.events f) small));
      }

  listing-one : (t : List ℕ) → Listing f t → t ≡ trace.listing f
  unfolding trace.listing trace.run trace.events
  listing-one t l = at (trace.well_formed f) refl
    where
      at : (u : Bool) → trace.well_formed f ≡ u → t ≡ cond u (trace.run f) trace.refused_line
      at true h =
          run-one (trace.events f) small t
          (l.run (trace.section f 0) (trace.section f (trace.second f)) (trace.section f (trace.third f)) (is_trace f b h))
      at false h = l.refused (λ p q r s. false≢true (sym h ∙ (trace_formed f p q r s).0))

pub listing_exact : (f : List ℕ) → Bytes f → (t : List ℕ) → Listing f t ↔ (t ≡ trace.listing f)
listing_exact f b t = (listing-one f b t, λ e. subst (Listing f) (sym e) (listing_meets f b))

-- ---- the lent bytes

-- a text at the front of the bytes o, and those that it leaves
behind-front : (t o : List ℕ) (i : ℕ) → length t ≤ i → byte (t ++ drop (length t) o) i ≡ byte o i
behind-front t o i l =
    let e : i ≡ length t + (i - length t) = omega arith in
    rw e (get_or-append-add t (drop (length t) o) (i - length t) 0 ∙ get_or-drop (length t) o (i - length t) 0)

length_front : (t o : List ℕ) → length t ≤ length o → length (t ++ drop (length t) o) ≡ length o
length_front t o l = omega (arith, length-append t (drop (length t) o), length-drop (length t) o)

module _ (f : List ℕ) (b : Bytes f) (o x : List ℕ) (r : ℕ) where
  abbrev t : List ℕ
  t = trace.listing f

  pub lists : trace.Listed f o x r → ListingCall f o x r
  lists p =
      record {
        short = λ h. let e = lt-ltb (length o) trace.longest h in (rw e at p.bytes, rw e at p.answered);
        listing = λ h. (answer_most p, subst (Listing f) (sym (front h p)) (listing_meets f b));
        behind = stays.0;
        size = stays.1;
      }
    where
      at : (u : Bool) → ltb (length o) trace.longest ≡ u → x ≡ cond u o (t ++ drop (length t) o) → r ≡ cond u 0 (length t)
          → ((i : ℕ) → r ≤ i → byte x i ≡ byte o i) × (length x ≡ length o)
      at true h e a = (λ i l. rw e, ap length e)
      at false h e a =
          let m = listing-most f in
          let l = ltb-false (length o) trace.longest h in
          (λ i n. ap (λ (y : List ℕ). byte y i) e ∙ behind-front t o i (omega arith), ap length e ∙ length_front t o (omega arith))

      stays : ((i : ℕ) → r ≤ i → byte x i ≡ byte o i) × (length x ≡ length o)
      stays = at (ltb (length o) trace.longest) refl p.bytes p.answered

  pub listed : ListingCall f o x r → trace.Listed f o x r
  listed p = at (ltb (length o) trace.longest) refl
    where
      at : (u : Bool) → ltb (length o) trace.longest ≡ u → trace.Listed f o x r
      at true h =
          let q = p.short (ltb-true (length o) trace.longest h) in
          record { bytes = rw h q.0; answered = rw h q.1 }
      at false h =
          let q = p.listing (ltb-false (length o) trace.longest h) in
          let e = listing-one f b (take r x) q.1 in
          let n : r ≡ length t = sym (length-take-le r x (omega (arith, p.size, q.0))) ∙ ap length e in
          let d : drop r x ≡ drop r o =
          ext_get_or 0 (drop r x) (drop r o) (omega (arith, length-drop r x, length-drop r o, p.size))
          (λ i l. get_or-drop r x i 0 ∙ p.behind (r + i) (omega arith) ∙ sym (get_or-drop r o i 0)) in
          record {
            bytes = rw h (sym (take-append-drop r x) ∙ ap₂ (λ (y z : List ℕ). y ++ z) e (d ∙ ap (λ (k : ℕ). drop k o) n));
            answered = rw h n;
          }
