-- Which bytes lead where: the whole sections in front, and what has come of the one that is read. Where all is read, the file is a trace.
use Prim.Native.Nat.{ℕ, zero, suc, ◌+◌, ◌-◌, ◌*◌, ◌/◌, ◌%◌, ◌<◌, ◌≤◌}
use mathlib.Core.Path.{◌≡◌, refl, sym, ◌∙◌, ap}
use mathlib.Core.Bool.{Bool, true, false, cond, or-false, false≢true}
use mathlib.Core.List.{List, [], ◌∷◌, ◌++◌, append_assoc, append-nil, flatten}
use mathlib.Core.Logic.{◌≢◌}
use native.Mathlib.Omega.{arith}
use lib.Dec.{eqb}
use lib.ListN.{length, length-append}
use borrow.Author.Tests.{eqb-true, eqb-false, ne_eqb}
use Rattle.words.proofs.Bytes.{Bytes, bytes-nil, bytes-cons, bytes_tail, bytes-append}
use Rattle.registers.specs.Block.{can_b}
use Rattle.fresh.specs.Fresh.{fresh_image}
use Rattle.trace.specs.Trace.{count_at, takes, well_formed, lines, header, refused_line}
use Rattle.rules.specs.Listing.{counted, Section}
use Rattle.rules.proofs.Files.{trace_formed}
use Rattle.stream.specs.Stream.{Standing, Turn, at, behind, over, is_over, opened, onward, runs, turn, fed, complete, last_line, transcript}
use Rattle.stream.specs.Terms.{Ready}
use Rattle.stream.specs.Agreement.{Refusal}
use Rattle.stream.proofs.Cases.{Kind, still, surplus, low, many, counted as tallied, misplaced, more, last, with}
use Rattle.stream.proofs.Turns.{kind}
use Rattle.stream.proofs.Ready.{opened-ready, turn-ready, fed-ready, gathered-few, whole-count, whole-behind, length-with}
use Rattle.stream.proofs.Story.{story}
use Rattle.stream.proofs.Walk.{Fits, AllFit}

-- the bytes q are the whole sections in front of section k
data Past : ℕ → List ℕ → Type 0 where
  none : Past 1 []
  one : (a : List (List ℕ)) → Section (takes 1) a → Past 2 (counted a)
  two : (a b : List (List ℕ)) → Section (takes 1) a → Section (takes 2) b → Past 3 (counted a ++ counted b)
  three : (a b c : List (List ℕ)) → Section (takes 1) a → Section (takes 2) b → Section (takes 3) c → Past 4 (counted a ++ (counted b ++ counted c))

past_more : {k : ℕ} {q : List ℕ} (es : List (List ℕ)) → Past k q → k ≤ 3 → Section (takes k) es → Past (k + 1) (q ++ counted es)
past_more es none h s = one es s
past_more es (one a x) h s = two a es x s
past_more es (two a b x y) h s = rw (append_assoc (counted a) (counted b) (counted es)) (three a b es x y s)
past_more es (three a b c x y z) h s = absurd (omega arith)

past_trace : {k : ℕ} {q : List ℕ} → Past k q → k ≡ behind → well_formed q ≡ true
past_trace none e = absurd (omega arith)
past_trace (one a x) e = absurd (omega arith)
past_trace (two a b x y) e = absurd (omega arith)
past_trace (three a b c x y z) e =
    (trace_formed _ a b c
    (record {
      whole = refl;
      first = record { most = x.most; sizes = x.sizes; placed = λ n h. sym (or-false _) ∙ x.placed n h };
      second = y;
      third = z;
    })
    ).0

-- it is over; a count is read; events are read, of c in all, es of which have come
data Came (σ : Standing) (p : List ℕ) : Type 0 where
  no_more : σ.section ≡ over → Came σ p
  counting : (q : List ℕ) → Past σ.section q → σ.left ≡ 0 → p ≡ q ++ σ.gathered → Came σ p
  running : (q : List ℕ) (c : ℕ) (es : List (List ℕ)) → Past σ.section q → 0 < σ.left → AllFit σ.section es
      → c ≡ length es + σ.left → c ≤ 1000 → p ≡ q ++ (c % 256 ∷ c / 256 ∷ (flatten es ++ σ.gathered)) → Came σ p

-- c events are counted, es have come, and l are left
onward_came : {k : ℕ} {q : List ℕ} (l n : ℕ) (s : List ℕ) (c : ℕ) (es : List (List ℕ)) → Past k q → k ≤ 3 → AllFit k es
    → c ≡ length es + l → c ≤ 1000 → Came (onward k l n s) (q ++ (c % 256 ∷ c / 256 ∷ flatten es))
onward_came {k} {q} l n s c es past h f e m = to (eqb l 0) refl
  where
    to : (a : Bool) → eqb l 0 ≡ a → Came (at (cond a (k + 1) k) l n [] s) (q ++ (c % 256 ∷ c / 256 ∷ flatten es))
    to true z =
        let y = eqb-true l 0 z in
        let j : c ≡ length es = omega arith in
        counting (q ++ counted es) (past_more es past h (record { most = omega arith; sizes = λ i g. (f i g).0; placed = λ i g. (f i g).1 })) y
        (rw j (sym (append-nil (q ++ counted es))))
    to false z =
        let y = eqb-false l 0 z in
        running q c es past (omega arith) f e m (ap (λ (r : List ℕ). q ++ (c % 256 ∷ c / 256 ∷ r)) (sym (append-nil (flatten es))))

-- one event more
fit_more : (k : ℕ) (es : List (List ℕ)) (e : List ℕ) → AllFit k es → Fits k e → AllFit k (es ++ (e ∷ []))
fit_more k [] e f x zero h = x
fit_more k [] e f x (suc i) h = absurd (omega arith)
fit_more k (d ∷ es) e f x zero h = f 0 (omega arith)
fit_more k (d ∷ es) e f x (suc i) h = fit_more k es e (λ j g. f (suc j) (omega arith)) x i (omega arith)

flatten_more : (es : List (List ℕ)) (e : List ℕ) → flatten (es ++ (e ∷ [])) ≡ flatten es ++ e
unfolding flatten
flatten_more [] e = append-nil e
flatten_more (d ∷ es) e = ap (λ (r : List ℕ). d ++ r) (flatten_more es e) ∙ sym (append_assoc d (flatten es) e)

-- the two bytes of a count, by the count
two_bytes_lem : (g : List ℕ) → length g ≡ 2 → Bytes g → g ≡ count_at g 0 % 256 ∷ count_at g 0 / 256 ∷ []
unfolding count_at
two_bytes_lem [] h b = absurd (omega arith)
two_bytes_lem (x ∷ []) h b = absurd (omega arith)
two_bytes_lem (x ∷ y ∷ []) h b =
    let l : x < 256 = b.small 0 in
    let e : x ≡ (x + 256 * y) % 256 = omega arith in
    let f : y ≡ (x + 256 * y) / 256 = omega arith in
    λ i. e i ∷ f i ∷ []
two_bytes_lem (x ∷ y ∷ z ∷ g) h b = absurd (omega arith)

-- ---- byte for byte

module _ (σ : Standing) (d : Ready σ) (x : ℕ) (small : x < 256) (p : List ℕ) where
  abbrev k : ℕ
  k = σ.section

  abbrev e : List ℕ
  e = with σ x

  -- the byte stands behind what was gathered
  behind_it : (q r : List ℕ) → p ≡ q ++ (r ++ σ.gathered) → p ++ (x ∷ []) ≡ q ++ (r ++ e)
  behind_it q r h =
      ap (λ (a : List ℕ). a ++ (x ∷ [])) h
      ∙ append_assoc q (r ++ σ.gathered) (x ∷ [])
      ∙ ap (λ (a : List ℕ). q ++ a) (append_assoc r σ.gathered (x ∷ []))

  counted_is : k ≤ 3 → σ.left ≡ 0 → 2 ≤ length e → e ≡ count_at e 0 % 256 ∷ count_at e 0 / 256 ∷ []
  counted_is h z m =
      two_bytes_lem e (omega (arith, length-with σ x, d.short, whole-count k σ.left (λ i. omega arith) z))
      (bytes-append σ.gathered (x ∷ []) d.bytes (bytes-cons small bytes-nil))

  next_came : {t : Turn} → Kind σ x t → Came σ p → Came t.next (p ++ (x ∷ []))
  unfolding runs
  next_came (still h) w = no_more h
  next_came (surplus h) w = no_more refl
  next_came (many h z m n) w = no_more refl
  next_came (misplaced h z t) w = no_more refl
  next_came (low h z m) (no_more o) = absurd (omega arith)
  next_came (low h z m) (counting q past y i) = counting q past y (behind_it q [] i)
  next_came (low h z m) (running q c es past y f u v i) = absurd (omega arith)
  next_came (tallied h z m n) (no_more o) = absurd (omega arith)
  next_came (tallied h z m n) (counting q past y i) =
      let c = count_at e 0 in
      unfold flatten in
      rw (behind_it q [] i ∙ ap (λ (a : List ℕ). q ++ a) (counted_is h z m))
      (onward_came c σ.steps σ.image c [] past h (λ j g. absurd (omega arith)) (omega arith) n)
  next_came (tallied h z m n) (running q c es past y f u v i) = absurd (omega arith)
  next_came (more h z t m) (no_more o) = absurd (omega arith)
  next_came (more h z t m) (counting q past y i) = absurd (omega arith)
  next_came (more h z t m) (running q c es past y f u v i) = running q c es past y f u v (behind_it q (c % 256 ∷ c / 256 ∷ flatten es) i)
  next_came (last h z t m) (no_more o) = absurd (omega arith)
  next_came (last h z t m) (counting q past y i) = absurd (omega arith)
  next_came (last h z t m) (running q c es past y f u v i) =
      rw (behind_it q (c % 256 ∷ c / 256 ∷ flatten es) i ∙ ap (λ (a : List ℕ). q ++ (c % 256 ∷ c / 256 ∷ a)) (sym (flatten_more es e)))
      (onward_came (σ.left - 1) (σ.steps + 1) _ c (es ++ (e ∷ [])) past h
      (fit_more k es e f (omega (arith, length-with σ x, gathered-few σ d), t))
      (omega (arith, length-append es (e ∷ []))) v)

fed_came : (σ : Standing) → Ready σ → (p l : List ℕ) → Bytes l → Came σ p → Came (fed σ l) (p ++ l)
unfolding fed
fed_came σ d p [] b w = rw (append-nil p) w
fed_came σ d p (x ∷ l) b w =
    let small = b.small 0 in
    let n = next_came σ d x small p (kind σ x d.last) w in
    rw (append_assoc p (x ∷ []) l) at (fed_came (turn σ x).next (turn-ready σ d x small) (p ++ (x ∷ [])) l (bytes_tail b) n)

-- ---- where all is read

empty : (g : List ℕ) → length g < 1 → g ≡ []
empty [] h = refl
empty (x ∷ g) h = absurd (omega arith)

all_came : {σ : Standing} {p : List ℕ} → Ready σ → Came σ p → σ.section ≡ behind → well_formed p ≡ true
all_came d (no_more o) h = absurd (omega arith)
all_came {σ} d (counting q past y i) h =
    let none_left = empty σ.gathered (omega (arith, d.short, whole-behind σ.section σ.left h)) in
    rw (i, none_left, append-nil q) (past_trace past h)
all_came d (running q c es past y f u v i) h = absurd (omega (arith, (d.running y).0))

pub read_back : (f : List ℕ) → Bytes f → (fed opened f).section ≡ behind → well_formed f ≡ true
read_back f b h = all_came (fed-ready opened opened-ready f b) (fed_came opened opened-ready [] f b (counting [] none refl refl)) h

-- ---- a file that is no trace

-- the refusal line comes with the fault or with the closing
closes : (f : List ℕ) → (fed opened f).section ≢ behind → (a : Bool) → is_over (fed opened f) ≡ a → (t : List ℕ)
    → (t ++ cond a refused_line []) ++ cond a [] (last_line (fed opened f)) ≡ t ++ refused_line
unfolding last_line
closes f n true e t = append-nil (t ++ refused_line)
closes f n false e t = rw (append-nil t, ne_eqb (fed opened f).section behind n)

pub refusal : Refusal
unfolding transcript
refusal f b h =
    let t = story opened (omega arith) f in
    let n : (fed opened f).section ≢ behind = λ e. false≢true (sym h ∙ read_back f b e) in
    record {
      text = ap (λ (u : List ℕ). header ++ u) (rw t.text_is (closes f n (is_over (fed opened f)) refl (lines 1 (fresh_image can_b) (complete opened f))));
      image = t.image_is;
    }
