-- The code of some bytes: the reader by value, the bytes in which it gathers, the image and the text are where the stream then stands.
use Prim.Native.Nat.{ℕ, ◌+◌, ◌-◌, ◌*◌, ◌<◌, ◌≤◌}
use mathlib.Core.Path.{◌≡◌, refl, sym, ◌∙◌, ap}
use mathlib.Core.Bool.{Bool, true, false, cond}
use mathlib.Core.List.{List, [], ◌∷◌, ◌++◌, append_assoc, append-nil}
use mathlib.Core.Logic.{◌≢◌}
use native.Mathlib.Omega.{arith}
use native.Mathlib.Numerals.{add-one}
use lib.Dec.{eqb}
use lib.ListN.{length, take, drop, get_or, set, replicate, length-append, length-set, length-replicate, replicate-append-replicate}
use lib.Seq.{length-take-le, take_all, take_at, take-suc-set, get_or-take, drop_at, drop-drop, drop-set-lt}
use borrow.Author.Tests.{eqb-true, eqb-false, eq-eqb, ne_eqb, lt-ltb, le-ltb}
use Rattle.model.specs.Step.{step}
use Rattle.texts.specs.Text.{written, Put}
use Rattle.texts.proofs.Writing.{as_text, written_is}
use Rattle.trace.specs.Trace.{count_at, takes, line, refused_line}
use Rattle.stream.specs.declared.Reader.{Reader}
use Rattle.stream.specs.declared.Taken.{Taken}
use Rattle.stream.specs.Stream.{Standing, Turn, at, behind, over, ended, fault, onward, counts, turn, fed, printed}
use Rattle.stream.specs.Terms.{standing_by, Ready, Clean, Took, TookSome, Counts, at_once}
use Rattle.stream.proofs.Ready.{whole-count, whole-behind}
use Rattle.stream.proofs.Turns.{turn-behind, turn-counts, counts-low, counts_many, counts_some}
use Rattle.stream.proofs.Cuts.{fed-over, printed-over}
use Rattle.stream.proofs.Chunks.{not_yet, completed, misplaced}

-- the same standing and text by other names
took_as : {σ τ : Standing} {t u o : List ℕ} {n : ℕ} {e s x : List ℕ} {p : Taken} → τ ≡ σ → u ≡ t → Took σ t o n e s x p → Took τ u o n e s x p
took_as h k w = record { stands = w.stands ∙ sym h; few = w.few; clean = w.clean; put = as_text (sym k) w.put }

took_turn : {t u : Turn} {o : List ℕ} {n : ℕ} {e s x : List ℕ} {p : Taken} → u ≡ t → Took t.next t.text o n e s x p → Took u.next u.text o n e s x p
took_turn h = took_as (ap (λ (t : Turn). t.next) h) (ap (λ (t : Turn). t.text) h)

-- no text
no_text : (o : List ℕ) {m n : ℕ} → n ≡ m → Put o m [] o n
unfolding written
no_text o h = record { bytes = refl; behind = omega arith }

abbrev pub over_reader : Reader
over_reader = record { section = over; left = 0; steps = 0; seen = 0 }

abbrev pub waiting : Reader → ℕ → Reader
waiting r n = record { section = r.section; left = r.left; steps = r.steps; seen = n }

abbrev pub onward_reader : ℕ → ℕ → ℕ → Reader
onward_reader k l n = record { section = cond (eqb l 0) (k + 1) k; left = l; steps = n; seen = 0 }

faulted : (s : List ℕ) {o e x : List ℕ} {n : ℕ} {p : Taken} → p.reader ≡ over_reader → Clean 0 e → Put o n refused_line x p.length
    → Took (ended s) refused_line o n e s x p
faulted s {e = e} h c t =
    let z = ap (λ (r : Reader). r.seen) h in
    record { stands = ap (λ (r : Reader). standing_by r e s) h; few = omega arith; clean = rw z c; put = t }

waited : (r : Reader) (n : ℕ) (e o s : List ℕ) {m : ℕ} {p : Taken} → n ≤ 15 → Clean n e → p.reader ≡ waiting r n → p.length ≡ m
    → Took (standing_by (waiting r n) e s) [] o m e s o p
waited r n e o s h c w y =
    let z = ap (λ (q : Reader). q.seen) w in
    record { stands = ap (λ (q : Reader). standing_by q e s) w; few = omega arith; clean = rw z c; put = no_text o y }

-- ---- zeros

-- behind more bytes there are fewer
clean-behind : (e : List ℕ) (n k : ℕ) → n + k ≤ 16 → Clean n e → Clean (n + k) e
clean-behind e n k h c =
    let m : 16 - n ≡ k + (16 - (n + k)) = omega arith in
    sym (drop-drop k n e)
    ∙ ap (drop k) (c ∙ ap (λ (j : ℕ). replicate j 0) m ∙ sym (replicate-append-replicate k (16 - (n + k)) 0))
    ∙ drop_at (replicate k 0) (replicate (16 - (n + k)) 0) k (length-replicate k 0)

-- ---- how many at once

module _ (l m n : ℕ) where
  pub one-at_once : l ≡ 0 → 1 ≡ at_once l m n
  one-at_once h = rw (eq-eqb l 0 h)

  pub all-at_once : l ≢ 0 → n < 16 - m → n ≡ at_once l m n
  all-at_once h k = rw (ne_eqb l 0 h, lt-ltb n (16 - m) k)

  pub lack_at_once : l ≢ 0 → 16 - m ≤ n → 16 - m ≡ at_once l m n
  lack_at_once h k = rw (ne_eqb l 0 h, le-ltb n (16 - m) k)

-- ---- the bytes of a count

module _ (r : Reader) (e : List ℕ) (sixteen : length e ≡ 16) (o : List ℕ) (place : ℕ) where
  abbrev g : List ℕ
  g = take (r.seen + 1) e

  abbrev σ : List ℕ → Standing
  σ s = at r.section r.left r.steps [] s

  g_length : r.seen ≤ 15 → length g ≡ r.seen + 1
  g_length h = length-take-le (r.seen + 1) e (omega arith)

  pub low_byte : {p : Taken} → r.seen ≡ 0 → Clean (r.seen + 1) e → p.reader ≡ waiting r 1 → p.length ≡ place → Counts r e e o place o p
  low_byte h c w z s =
      let n : r.seen + 1 ≡ 1 = omega arith in
      took_turn (counts-low (σ s) g (omega (arith, g_length (omega arith))))
      (took_as (ap (λ (k : ℕ). standing_by (waiting r k) e s) n) refl (waited r 1 e o s (omega arith) (rw n at c) w z))

  module _ (one : r.seen ≤ 1) (more : r.seen ≢ 0) {n : ℕ} (h : n ≡ get_or e 0 0 + 256 * get_or e 1 0) where
    two : 2 ≤ length g
    two = omega (arith, g_length (omega arith))

    the_count : count_at g 0 ≡ n
    unfolding count_at
    the_count =
        ap (λ (k : ℕ). k + 256 * get_or g 1 0) (get_or-take (r.seen + 1) e 0 0 (omega arith))
        ∙ ap (λ (k : ℕ). get_or e 0 0 + 256 * k) (get_or-take (r.seen + 1) e 1 0 (omega arith))
        ∙ sym h

    pub many_there : (s : List ℕ) → 1000 < n → counts (σ s) g ≡ fault (σ s)
    many_there s m = counts_many (σ s) g two (omega (arith, the_count))

    pub high_byte-fault : {f x : List ℕ} {p : Taken} → 1000 < n → Clean 0 f → p.reader ≡ over_reader → Put o place refused_line x p.length → Counts r e f o place x p
    high_byte-fault m c w t s = took_turn (many_there s m) (faulted s w c t)

    pub high_byte : {f : List ℕ} {q : Reader} → n ≤ 1000 → Clean 0 f → q ≡ onward_reader r.section n r.steps
        → Counts r e f o place o (record { reader = q; length = place })
    high_byte {f} m c w s =
        let z = ap (λ (q : Reader). q.seen) w in
        took_turn (counts_some (σ s) g two (omega (arith, the_count)))
        (record {
          stands =
              ap (λ (q : Reader). standing_by q f s) w
              ∙ ap (λ (k : ℕ). onward r.section k r.steps s) (sym the_count);
          few = omega arith;
          clean = rw z c;
          put = no_text o refl;
        })

-- a list of one
pub alone : (b : List ℕ) → length b ≡ 1 → b ≡ get_or b 0 0 ∷ []
alone [] h = absurd (omega arith)
alone (x ∷ []) h = refl
alone (x ∷ y ∷ b) h = absurd (omega arith)

-- ---- where a stream can stand

module _ (r : Reader) (e s : List ℕ) (d : Ready (standing_by r e s)) (sixteen : length e ≡ 16) where
  abbrev τ : Standing
  τ = standing_by r e s

  module _ (few : r.seen ≤ 15) where
    seen_is : length (take r.seen e) ≡ r.seen
    seen_is = length-take-le r.seen e (omega arith)

    -- one byte
    module _ (x : ℕ) {b : List ℕ} (only : b ≡ x ∷ []) (o : List ℕ) (place : ℕ) where
      one-text : printed τ b ≡ (turn τ x).text
      unfolding printed
      one-text = ap (printed τ) only ∙ append-nil (turn τ x).text

      one_byte : {y u : List ℕ} {f : List ℕ} {p : Taken} → Took (turn τ x).next (turn τ x).text o place f u y p → TookSome τ b o place f u y p
      unfolding fed
      one_byte w = took_as (ap (fed τ) only) one-text w

      pub behind-text : r.section ≡ behind → printed τ b ≡ refused_line
      behind-text h = one-text ∙ ap (λ (t : Turn). t.text) (turn-behind τ x h)

      pub behind-byte : {y : List ℕ} {p : Taken} → Clean r.seen e → r.section ≡ behind → p.reader ≡ over_reader → Put o place refused_line y p.length
          → TookSome τ b o place e s y p
      behind-byte c h w t =
          let z : r.seen ≡ 0 = omega (arith, d.short, whole-behind r.section r.left h, seen_is) in
          one_byte (took_turn (turn-behind τ x h) (faulted s w (rw z at c) t))

      -- what is gathered with the byte
      abbrev kept : List ℕ
      kept = set e r.seen x

      stored : take r.seen e ++ (x ∷ []) ≡ take (r.seen + 1) kept
      stored = sym (ap (λ (k : ℕ). take k kept) (add-one r.seen) ∙ take-suc-set e r.seen x (omega arith))

      pub still_zeros : Clean r.seen e → Clean (r.seen + 1) kept
      still_zeros c = drop-set-lt (r.seen + 1) e r.seen x (omega arith) ∙ clean-behind e r.seen 1 (omega arith) c

      module _ (h : r.section ≤ 3) (z : r.left ≡ 0) where
        counted-turn : turn τ x ≡ counts τ (take (r.seen + 1) kept)
        counted-turn = turn-counts τ x h z ∙ ap (counts τ) stored

        pub count-byte : {f y : List ℕ} {p : Taken} → Counts r kept f o place y p → TookSome τ b o place f s y p
        unfolding counts
        count-byte c = one_byte (took_turn counted-turn (c s))

        -- the room for the line of the fault
        pub count_room : r.seen ≤ 1 → place + length (printed τ b) ≤ length o → r.seen ≢ 0 → 1000 < get_or kept 0 0 + 256 * get_or kept 1 0 → place + 16 ≤ length o
        unfolding counts
        count_room l m n k =
            let sixteen' = length-set e r.seen x ∙ sixteen in
            let t = one-text ∙ ap (λ (t : Turn). t.text) (counted-turn ∙ many_there r kept sixteen' o place l n refl s k) in
            omega (arith, ap length t)

    pub one_at_most : r.section ≢ behind → r.left ≡ 0 → r.seen ≤ 1
    one_at_most h z =
        omega (arith, d.short, whole-count r.section r.left h z, seen_is)

  -- bytes that come too late
  pub over-bytes : (b o : List ℕ) {m : ℕ} {p : Taken} → Clean r.seen e → r.section ≡ over → p.reader ≡ r → p.length ≡ m → r.seen ≤ 15
      → TookSome τ b o m e s o p
  over-bytes b o c h w y f = took_as (fed-over τ h b) (printed-over τ h b) (waited r r.seen e o s f c w y)

  -- behind the third section no event is left
  pub none_left : r.section ≡ behind → r.left ≡ 0
  none_left h = to (eqb r.left 0) refl
    where
      to : (a : Bool) → eqb r.left 0 ≡ a → r.left ≡ 0
      to true e = eqb-true r.left 0 e
      to false e = let n = eqb-false r.left 0 e in absurd (omega (arith, (d.running (omega arith)).0))

  pub inside : r.section ≢ over → r.section ≢ behind → r.section ≤ 3
  inside h k = omega (arith, d.last)

  pub steps_below : 0 < r.left → r.steps < 3000
  steps_below h = let z = d.running h in omega (arith, z.0, z.1)

  -- ---- bytes of an event

  module _ (in-section : r.section ≤ 3) (some : 0 < r.left) (b : List ℕ) (here : 0 < length b) (room : r.seen + length b ≤ 16) (o : List ℕ) (place : ℕ)
      {f : List ℕ} {n : ℕ} (p : Put e r.seen b f n) where
    abbrev came : List ℕ
    came = take r.seen e

    abbrev rest : List ℕ
    rest = drop (r.seen + length b) e

    came_length : length came ≡ r.seen
    came_length = length-take-le r.seen e (omega arith)

    both_length : length (came ++ b) ≡ n
    both_length = omega (arith, length-append came b, came_length, p.behind)

    event_is : f ≡ (came ++ b) ++ rest
    event_is = p.bytes ∙ written_is b e r.seen (omega arith) ∙ sym (append_assoc came b rest)

    -- what is gathered with them, and the zeros behind it
    all_is : take n f ≡ came ++ b
    all_is = ap (take n) event_is ∙ take_at (came ++ b) rest n both_length

    zeros_left : Clean r.seen e → Clean n f
    zeros_left c =
        ap (drop n) event_is
        ∙ drop_at (came ++ b) rest n both_length
        ∙ clean-behind e r.seen (length b) room c
        ∙ ap (λ (k : ℕ). replicate (16 - k) 0) (sym p.behind)

    first_is : takes r.section (get_or (came ++ b) 0 0) ≡ takes r.section (get_or f 0 0)
    first_is = ap (takes r.section) (ap (λ (x : List ℕ). get_or x 0 0) (sym all_is) ∙ get_or-take n f 0 0 (omega (arith, p.behind)))

    module _ {t : Bool} (h : t ≡ takes r.section (get_or f 0 0)) where
      first : {u : Bool} → t ≡ u → takes r.section (get_or (came ++ b) 0 0) ≡ u
      first k = first_is ∙ sym h ∙ k

      module _ (k : t ≡ false) where
        faulty : (fed τ b ≡ ended s) × (printed τ b ≡ refused_line)
        faulty = misplaced r.section in-section r.left r.steps s some came b here (d.placed some) (first k)

        pub fault_room : place + length (printed τ b) ≤ length o → place + 16 ≤ length o
        fault_room l = omega (arith, ap length faulty.1)

        pub fault-there : {x y : List ℕ} {q : Taken} → q.reader ≡ over_reader → Clean 0 y → Put o place refused_line x q.length → TookSome τ b o place y s x q
        fault-there w c z = took_as faulty.0 faulty.1 (faulted s w c z)

      module _ (k : t ≡ true) where
        pub more_there : {q : Taken} → n < 16 → Clean r.seen e → q.reader ≡ waiting r n → q.length ≡ place → TookSome τ b o place f s o q
        more_there z c w y =
            let m = not_yet r.section in-section r.left r.steps s some came b here (omega (arith, came_length, p.behind)) (first k) in
            took_as (m.0 ∙ ap (λ (x : List ℕ). at r.section r.left r.steps x s) (sym all_is)) m.1 (waited r n f o s (omega arith) (zeros_left c) w y)

        module _ (z : 16 ≤ n) (g : length f ≡ 16) where
          ran : (fed τ b ≡ onward r.section (r.left - 1) (r.steps + 1) (step s f).image) × (printed τ b ≡ line (r.steps + 1) (step s f))
          ran =
              let e : came ++ b ≡ f = sym all_is ∙ take_all n f (omega arith) in
              let m = completed r.section in-section r.left r.steps s some came b here (omega (arith, came_length, p.behind)) (first k) in
              (m.0 ∙ ap (λ (x : List ℕ). onward r.section (r.left - 1) (r.steps + 1) (step s x).image) e, m.1 ∙ ap (λ (x : List ℕ). line (r.steps + 1) (step s x)) e)

          pub line_room : place + length (printed τ b) ≤ length o → place + length (line (r.steps + 1) (step s f)) ≤ length o
          line_room l = omega (arith, ap length ran.1)

          pub whole-there : {u x y : List ℕ} {q : Reader} {j : ℕ} → Put o place (line (r.steps + 1) (step s f)) x j → u ≡ (step s f).image → Clean 0 y
              → q ≡ onward_reader r.section (r.left - 1) (r.steps + 1) → TookSome τ b o place y u x (record { reader = q; length = j })
          whole-there {u} {y = y} w v l c =
              let i = ap (λ (q : Reader). q.seen) c in
              took_as ran.0 ran.1
              (record {
                stands = ap (λ (q : Reader). standing_by q y u) c ∙ ap (onward r.section (r.left - 1) (r.steps + 1)) v;
                few = omega arith;
                clean = rw i l;
                put = w;
              })
