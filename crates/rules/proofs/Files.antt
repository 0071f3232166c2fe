-- A file is a trace by the rule exactly where the product's test says so, and its events are those that the product reads.
use Rattle.std.proofs.lemmas.Bool.{and_from}
use Prim.Native.Nat.{ℕ, zero, suc, ◌+◌, ◌*◌, ◌/◌, ◌%◌, ◌<◌, ◌≤◌}
use mathlib.Core.Path.{◌≡◌, refl, sym, ◌∙◌, ap, ap₂}
use mathlib.Core.Bool.{Bool, true, ◌&&◌, ◌||◌, or-false}
use mathlib.Core.List.{List, [], ◌∷◌, ◌++◌, append_assoc, append-nil, flatten}
use native.Mathlib.Numerals.{add-one}
use native.Mathlib.Omega.{arith}
use lib.Dec.{eqb, leb}
use lib.ListN.{length, get_or, take, drop, length-append, length-drop, take-append-drop, get_or-append}
use lib.Seq.{length-take-le, drop-length, drop-cons, drop-drop, take_at, drop_at, get_or-take, get_or-drop}
use borrow.Author.Tests.{eq-eqb, leb-true, le-leb}
use Rattle.bits.proofs.Sets.{and_l, and_r}
use Rattle.words.proofs.Bytes.{Bytes}
use Rattle.trace.specs.Trace.{count_at, end_of, second, third, takes, placed, sound, well_formed, events_from, section, events}
use Rattle.trace.proofs.Runs.{formed, length-events, first_in, second_in, third_in}
use Rattle.rules.specs.Words.{◌is◌}
use Rattle.rules.specs.Events.{operation}
use Rattle.rules.specs.Listing.{counted, Section, Trace}

-- which operations the sections take
takes_one : (op : ℕ) → takes 1 op ≡ (op is 1)
takes_one op = or-false (op is 1)

takes_two : (op : ℕ) → takes 2 op ≡ (op is 0 || op is 9)
takes_two op = refl

takes_three : (op : ℕ) → takes 3 op ≡ true
takes_three op = refl

-- the first byte of what stands at a place of the file
first_byte : (f : List ℕ) (at : ℕ) → get_or f at 0 ≡ get_or (drop at f) 0 0
first_byte f at =
    let e : at ≡ at + 0 = omega arith in
    ap (λ (i : ℕ). get_or f i 0) e ∙ sym (get_or-drop at f 0 0)

-- the same, for places that are equal
at_place : (f : List ℕ) (i j : ℕ) → i ≡ j → drop i f ≡ drop j f
at_place f i j e = ap (λ (k : ℕ). drop k f) e

abbrev Sized : List (List ℕ) → Type 0
Sized es = (n : ℕ) → n < length es → length (get_or es n []) ≡ 16

abbrev Placed : (ℕ → Bool) → List (List ℕ) → Type 0
Placed ok es = (n : ℕ) → n < length es → ok (operation (get_or es n [])) ≡ true

flatten_length : (es : List (List ℕ)) → Sized es → length (flatten es) ≡ 16 * length es
unfolding flatten
flatten_length [] l = refl
flatten_length (e ∷ es) l =
    omega (arith, length-append e (flatten es), l 0 (omega arith), flatten_length es (λ n m. l (suc n) (omega arith)))

module _ (k : ℕ) (ok : ℕ → Bool) (same : (op : ℕ) → takes k op ≡ ok op) (f : List ℕ) where
  -- ---- from the rule to the test

  -- the events es, read at a place of the file
  record Read (at : ℕ) (es : List (List ℕ)) (rest : List ℕ) : Type 0 where
    found : events_from f at (length es) ≡ es
    fits : placed k f at (length es) ≡ true
    behind : drop (at + 16 * length es) f ≡ rest

  read : (es : List (List ℕ)) (at : ℕ) (rest : List ℕ) → drop at f ≡ flatten es ++ rest → Sized es → Placed ok es → Read at es rest
  unfolding flatten events_from placed
  read [] at rest h l p = record { found = refl; fits = refl; behind = at_place f (at + 16 * 0) at (omega arith) ∙ h }
  read (e ∷ es) at rest h l p =
      let tail = flatten es ++ rest in
      let d : drop at f ≡ e ++ tail = h ∙ append_assoc e (flatten es) rest in
      let z : length e ≡ 16 = l 0 (omega arith) in
      let next : drop (at + 16) f ≡ tail = sym (drop-drop 16 at f) ∙ ap (drop 16) d ∙ drop_at e tail 16 z in
      let op : get_or f at 0 ≡ operation e =
      first_byte f at ∙ ap (λ (x : List ℕ). get_or x 0 0) d ∙ get_or-append e tail 0 0 (omega arith) in
      let r = read es (at + 16) rest next (λ n m. l (suc n) (omega arith)) (λ n m. p (suc n) (omega arith)) in
      record {
        found = ap₂ (λ (x : List ℕ) (y : List (List ℕ)). x ∷ y) (ap (take 16) d ∙ take_at e tail 16 z) r.found;
        fits = and_from (takes k (get_or f at 0)) (placed k f (at + 16) (length es)) (ap (takes k) op ∙ same (operation e) ∙ p 0 (omega arith)) r.fits;
        behind = at_place f (at + 16 * length (e ∷ es)) (at + 16 + 16 * length es) (omega arith) ∙ r.behind;
      }

  -- a section with those events
  record Stands (at : ℕ) (es : List (List ℕ)) (rest : List ℕ) : Type 0 where
    is_sound : sound k f at ≡ true
    found : section f at ≡ es
    behind : drop (end_of f at) f ≡ rest
    ends : end_of f at + length rest ≡ length f

  stands : (es : List (List ℕ)) (at : ℕ) (rest : List ℕ) → drop at f ≡ counted es ++ rest → Section ok es → Stands at es rest
  unfolding count_at end_of sound
  stands es at rest h s =
      let n = length es in
      let low : get_or f at 0 ≡ n % 256 = first_byte f at ∙ ap (λ (x : List ℕ). get_or x 0 0) h in
      let high : get_or f (at + 1) 0 ≡ n / 256 = sym (get_or-drop at f 1 0) ∙ ap (λ (x : List ℕ). get_or x 1 0) h in
      let c : count_at f at ≡ n = omega arith in
      let r = read es (at + 2) rest (sym (drop-drop 2 at f) ∙ ap (drop 2) h) s.sizes s.placed in
      let q = ap length h in
      record {
        is_sound =
            and_from (leb (count_at f at) 1000) (placed k f (at + 2) (count_at f at)) (le-leb (count_at f at) 1000 (omega (arith, s.most)))
            (ap (placed k f (at + 2)) c ∙ r.fits);
        found = ap (events_from f (at + 2)) c ∙ r.found;
        behind = at_place f (end_of f at) (at + 2 + 16 * n) (omega arith) ∙ r.behind;
        ends = omega (arith, q, length-drop at f, length-append (flatten es) rest, flatten_length es s.sizes);
      }

  -- ---- from the test to the rule

  length_from : (n at : ℕ) → at + 16 * suc n ≤ length f → length (take 16 (drop at f)) ≡ 16
  length_from n at h = length-take-le 16 (drop at f) (omega (arith, length-drop at f))

  sized : (n at : ℕ) → at + 16 * n ≤ length f → Sized (events_from f at n)
  unfolding events_from
  sized zero at h i l = absurd (omega arith)
  sized (suc n) at h zero l = length_from n at h
  sized (suc n) at h (suc i) l = sized n (at + 16) (omega arith) i (omega arith)

  in_place : (n at : ℕ) → placed k f at n ≡ true → Placed ok (events_from f at n)
  unfolding events_from placed
  in_place zero at p i l = absurd (omega arith)
  in_place (suc n) at p zero l =
      let t = takes k (get_or f at 0) in
      ap ok (get_or-take 16 (drop at f) 0 0 (omega arith) ∙ sym (first_byte f at))
      ∙ sym (same (get_or f at 0))
      ∙ and_l t (placed k f (at + 16) n) p
  in_place (suc n) at p (suc i) l = in_place n (at + 16) (and_r (takes k (get_or f at 0)) (placed k f (at + 16) n) p) i (omega arith)

  its_section : (at : ℕ) → sound k f at ≡ true → end_of f at ≤ length f → Section ok (section f at)
  unfolding sound end_of
  its_section at s h =
      let n = count_at f at in
      let a = leb n 1000 in
      let p = placed k f (at + 2) n in
      record {
        most = omega (arith, leb-true n 1000 (and_l a p s), length-events f (at + 2) n);
        sizes = sized n (at + 2) (omega arith);
        placed = in_place n (at + 2) (and_r a p s);
      }

module _ (f : List ℕ) (b : Bytes f) where
  flat : (n at : ℕ) → drop at f ≡ flatten (events_from f at n) ++ drop (at + 16 * n) f
  unfolding flatten events_from
  flat zero at = at_place f at (at + 16 * 0) (omega arith)
  flat (suc n) at =
      let e = take 16 (drop at f) in
      let es = flatten (events_from f (at + 16) n) in
      sym (take-append-drop 16 (drop at f))
      ∙ ap (λ (x : List ℕ). e ++ x)
      (drop-drop 16 at f
      ∙ flat n (at + 16)
      ∙ ap (λ (x : List ℕ). es ++ x) (at_place f (at + 16 + 16 * n) (at + 16 * suc n) (omega arith)))
      ∙ sym (append_assoc e es (drop (at + 16 * suc n) f))

  its_bytes : (at : ℕ) → end_of f at ≤ length f → drop at f ≡ counted (section f at) ++ drop (end_of f at) f
  unfolding count_at end_of
  its_bytes at h =
      let n = length (section f at) in
      let c : n ≡ count_at f at = length-events f (at + 2) (count_at f at) in
      let small = b.small at in
      let low : get_or f at 0 ≡ n % 256 = omega arith in
      let high : get_or f (at + 1) 0 ≡ n / 256 = omega arith in
      drop-cons f at 0 (omega arith)
      ∙ ap (λ (x : List ℕ). get_or f at 0 ∷ x)
      (drop-cons f (suc at) 0 (omega arith)
      ∙ ap (λ (x : List ℕ). get_or f (suc at) 0 ∷ x) (at_place f (suc (suc at)) (at + 2) (omega arith) ∙ flat (count_at f at) (at + 2)))
      ∙ ap₂ (λ (x y : ℕ). x ∷ y ∷ (flatten (section f at) ++ drop (end_of f at) f)) low (ap (λ (i : ℕ). get_or f i 0) (sym (add-one at)) ∙ high)

  -- a file that passes the test is a trace of its sections
  pub is_trace : well_formed f ≡ true → Trace f (section f 0) (section f (second f)) (section f (third f))
  unfolding well_formed
  is_trace h =
      let x = sound 1 f 0 in
      let y = sound 2 f (second f) in
      let z = sound 3 f (third f) in
      let e = eqb (end_of f (third f)) (length f) in
      let xyz = and_l ((x && y) && z) e h in
      let xy = and_l (x && y) z xyz in
      let behind : drop (end_of f (third f)) f ≡ [] =
      at_place f (end_of f (third f)) (length f) (formed f h).ends ∙ drop-length f in
      record {
        whole =
            its_bytes 0 (first_in f h)
            ∙ ap (λ (t : List ℕ). counted (section f 0) ++ t)
            (its_bytes (second f) (second_in f h)
            ∙ ap (λ (t : List ℕ). counted (section f (second f)) ++ t)
            (its_bytes (third f) (third_in f h)
            ∙ ap (λ (t : List ℕ). counted (section f (third f)) ++ t) behind
            ∙ append-nil (counted (section f (third f)))));
        first = its_section 1 (λ op. op is 1) takes_one f 0 (and_l x y xy) (first_in f h);
        second = its_section 2 (λ op. op is 0 || op is 9) takes_two f (second f) (and_r x y xy) (second_in f h);
        third = its_section 3 (λ op. true) takes_three f (third f) (and_r (x && y) z xyz) (third_in f h);
      }

-- a trace passes the test, and its events are those that are read
pub trace_formed : (f : List ℕ) (a b c : List (List ℕ)) → Trace f a b c → (well_formed f ≡ true) × (events f ≡ a ++ (b ++ c))
unfolding well_formed events
trace_formed f a b c t =
    let p = stands 1 (λ op. op is 1) takes_one f a 0 (counted b ++ counted c) t.whole t.first in
    let q = stands 2 (λ op. op is 0 || op is 9) takes_two f b (second f) (counted c) p.behind t.second in
    let r = stands 3 (λ op. true) takes_three f c (third f) [] (q.behind ∙ sym (append-nil (counted c))) t.third in
    let x = sound 1 f 0 in
    let y = sound 2 f (second f) in
    let z = sound 3 f (third f) in
    let e = eqb (end_of f (third f)) (length f) in (
      and_from ((x && y) && z) e (and_from (x && y) z (and_from x y p.is_sound q.is_sound) r.is_sound)
          (eq-eqb (end_of f (third f)) (length f) (omega (arith, r.ends))),
      ap₂ (λ (u v : List (List ℕ)). u ++ v) p.found (ap₂ (λ (u v : List (List ℕ)). u ++ v) q.found r.found),
    )
