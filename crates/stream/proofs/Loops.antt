-- The code of the loops: over the bytes of a part, and over those behind what is gathered.
use Prim.Native.Nat.{ℕ, ◌+◌, ◌-◌, ◌<◌, ◌≤◌}
use mathlib.Core.Path.{◌≡◌, refl, sym, ◌∙◌, ap, ap₂}
use mathlib.Core.Bool.{Bool, true, false, cond}
use mathlib.Core.List.{List, [], ◌∷◌, ◌++◌}
use mathlib.Core.Logic.{◌≢◌}
use native.Mathlib.Omega.{arith}
use native.Mathlib.Numerals.{add-one}
use lib.Dec.{eqb, ltb}
use lib.ListN.{length, take, drop, get_or, length-append, take-append-drop, drop_of_length-le}
use lib.Seq.{length-take-le, drop-cons}
use borrow.Author.Tests.{eq-eqb, ne_eqb, eqb-true, eqb-false, ltb-true, ltb-false}
use Rattle.words.specs.Word.{word_at}
use Rattle.words.proofs.Bytes.{Bytes, bytes_take, bytes_drop}
use Rattle.texts.specs.Text.{written}
use Rattle.texts.proofs.Writing.{written-append}
use Rattle.stream.specs.declared.Reader.{Reader}
use Rattle.stream.specs.declared.Taken.{Taken}
use Rattle.stream.specs.Stream.{Standing, fed, printed}
use Rattle.stream.specs.Calls.{all_zero}
use Rattle.stream.specs.Terms.{standing_by, Ready, Clean, TookSome, at_once, room_for, Fed}
use Rattle.stream.proofs.Cuts.{fed-append, printed-append}
use Rattle.stream.proofs.Ready.{fed-ready, printed-most, printed-fits}

-- ---- the bytes of a part

-- what is left of them gives what the whole gives
pub record Going (keeps : Bool) (σ : Standing) (part o e s out : List ℕ) (r : Reader) (n : ℕ) (l : List ℕ) : Type 0 where
  pub rest : fed (standing_by r e s) l ≡ fed σ part
  pub counted : n + length (printed (standing_by r e s) l) ≡ length (printed σ part)
  pub text : keeps ≡ true → written out n (printed (standing_by r e s) l) ≡ written o 0 (printed σ part)
  pub room : room_for keeps (length (printed σ part)) ≤ length o
  pub bound : length (printed σ part) ≤ 39016
  pub ready : Ready (standing_by r e s)
  pub few : r.seen ≤ 15
  pub clean : Clean r.seen e
  pub small : Bytes l
  pub out_length : length out ≡ length o

pub begun : (keeps : Bool) (r : Reader) (part o e s : List ℕ) → Ready (standing_by r e s) → r.seen ≤ 15 → Clean r.seen e
    → room_for keeps (length (printed (standing_by r e s) part)) ≤ length o → Bytes part → Going keeps (standing_by r e s) part o e s o r 0 part
begun keeps r part o e s d f c m b =
    record {
      rest = refl;
      counted = omega arith;
      text = λ k. refl;
      room = m;
      bound = printed-most (standing_by r e s) d part b;
      ready = d;
      few = f;
      clean = c;
      small = b;
      out_length = refl;
    }

module _ {keeps : Bool} {σ : Standing} {part o e s out : List ℕ} {r : Reader} {n : ℕ} {l : List ℕ} (g : Going keeps σ part o e s out r n l) where
  pub ended : length l ≡ 0 → Fed keeps σ part o e s out (record { reader = r; length = n })
  unfolding fed printed written
  ended z =
      let none : l ≡ [] = drop_of_length-le l {i = 0} (omega arith) in
      record {
        next = ap (fed (standing_by r e s)) (sym none) ∙ g.rest;
        few = g.few;
        clean = g.clean;
        counted = omega (arith, g.counted, ap (λ (w : List ℕ). length (printed (standing_by r e s) w)) none);
        text = λ m. ap (λ (w : List ℕ). written out n (printed (standing_by r e s) w)) (sym none) ∙ g.text m;
      }

  module _ (some : 1 ≤ length l) {j : ℕ} (c : j ≡ at_once r.left r.seen (length l)) where
    abbrev τ : Standing
    τ = standing_by r e s

    -- as many as are there at most, and as the event lacks
    pub some-there : (1 ≤ j) × (j ≤ length l) × (r.seen + j ≤ 16) × (r.left ≡ 0 → j ≡ 1)
    some-there = to (eqb r.left 0) refl (ltb (length l) (16 - r.seen)) refl c
      where
        to : (a : Bool) → eqb r.left 0 ≡ a → (b : Bool) → ltb (length l) (16 - r.seen) ≡ b
            → j ≡ cond a 1 (cond b (length l) (16 - r.seen)) → (1 ≤ j) × (j ≤ length l) × (r.seen + j ≤ 16) × (r.left ≡ 0 → j ≡ 1)
        to true x b y z = (omega arith, omega arith, omega (arith, g.few), λ n. z)
        to false x true y z =
            let m = ltb-true (length l) (16 - r.seen) y in
            let n = eqb-false r.left 0 x in
            (omega arith, omega arith, omega arith, λ o. absurd (n o))
        to false x false y z =
            let m = ltb-false (length l) (16 - r.seen) y in
            let n = eqb-false r.left 0 x in
            (omega (arith, g.few), omega (arith, g.few), omega (arith, g.few), λ o. absurd (n o))

    module _ {b more : List ℕ} (h : b ≡ take j l) (i : more ≡ drop j l) where
      pub chunk_length : length b ≡ j
      chunk_length = ap length h ∙ length-take-le j l some-there.1

      bytes_here : Bytes b
      bytes_here = rw h (bytes_take j l g.small)

      bytes_left : Bytes more
      bytes_left = rw i (bytes_drop j l g.small)

      abbrev later : List ℕ
      later = printed (fed τ b) more

      here : l ≡ b ++ more
      here = sym (take-append-drop j l) ∙ ap₂ (λ (x y : List ℕ). x ++ y) (sym h) (sym i)

      this_text : printed τ l ≡ printed τ b ++ later
      this_text = ap (printed τ) here ∙ printed-append τ b more

      this_rest : fed τ l ≡ fed (fed τ b) more
      this_rest = ap (fed τ) here ∙ fed-append τ b more

      in_all : n + (length (printed τ b) + length later) ≡ length (printed σ part)
      in_all = omega (arith, g.counted, ap length this_text, length-append (printed τ b) later)

      -- the place of their text, and the room that is there
      module _ {q : ℕ} (a : q ≡ cond keeps n 0) where
        pub piece_room : q + length (printed τ b) ≤ length out
        piece_room = to keeps g.room a
          where
            to : (k : Bool) → room_for k (length (printed σ part)) ≤ length o → q ≡ cond k n 0 → q + length (printed τ b) ≤ length out
            to true m e = omega (arith, in_all, g.out_length)
            to false m e = omega (arith, printed-fits τ g.ready b bytes_here, chunk_length, some-there.2, g.out_length)

        module _ {d u out' : List ℕ} {p : Taken} (w : TookSome τ b out q d u out' p) where
          pub below : n + (p.length - q) ≤ 39016
          below = omega (arith, w.put.behind, in_all, g.bound)

          pub taken : length out' ≡ length out → Going keeps σ part o d u out' p.reader (n + (p.length - q)) more
          taken oo =
              let k = n + (p.length - q) in
              let m : k ≡ n + length (printed τ b) = omega (arith, w.put.behind) in
              record {
                rest = ap (λ (τ : Standing). fed τ more) w.stands ∙ sym this_rest ∙ g.rest;
                counted =
                    ap (λ (τ : Standing). k + length (printed τ more)) w.stands
                    ∙ omega (arith, m, in_all);
                text = λ f.
                    let c : q ≡ n = a ∙ ap (λ (k : Bool). cond k n 0) f in
                    ap (λ (τ : Standing). written out' k (printed τ more)) w.stands
                    ∙ ap₂ (λ (y : List ℕ) (j : ℕ). written y j later) (w.put.bytes ∙ ap (λ (j : ℕ). written out j (printed τ b)) c) m
                    ∙ written-append out n (printed τ b) later
                    ∙ ap (written out n) (sym this_text)
                    ∙ g.text f;
                room = g.room;
                bound = g.bound;
                ready = rw w.stands (fed-ready τ g.ready b bytes_here);
                few = w.few;
                clean = w.clean;
                small = bytes_left;
                out_length = oo ∙ g.out_length;
              }

-- ---- zeros

module _ (s : List ℕ) (i : ℕ) where
  pub zero_end : length s ≤ i → true ≡ all_zero (drop i s)
  unfolding all_zero
  zero_end h = sym (ap all_zero (drop_of_length-le s h))

  module _ (l : i < length s) where
    split : drop i s ≡ get_or s i 0 ∷ drop (i + 1) s
    split = drop-cons s i 0 l ∙ ap (λ (k : ℕ). get_or s i 0 ∷ drop k s) (sym (add-one i))

    pub zero_broken : get_or s i 0 ≢ 0 → false ≡ all_zero (drop i s)
    unfolding all_zero
    zero_broken h = sym (ap all_zero split ∙ rw (ne_eqb (get_or s i 0) 0 h))

    pub zero-onward : get_or s i 0 ≡ 0 → all_zero (drop (i + 1) s) ≡ all_zero (drop i s)
    unfolding all_zero
    zero-onward h = sym (ap all_zero split ∙ rw (eq-eqb (get_or s i 0) 0 h))

-- a word of them
module _ (s : List ℕ) (i : ℕ) (l : i + 4 ≤ length s) where
  pub word-onward : word_at s i ≡ 0 → all_zero (drop (i + 4) s) ≡ all_zero (drop i s)
  unfolding word_at
  word-onward h =
      let j : i + 1 + 1 + 1 + 1 ≡ i + 4 = omega arith in
      let k : i + 1 + 1 + 1 ≡ i + 3 = omega arith in
      let m : i + 1 + 1 ≡ i + 2 = omega arith in
      ap (λ (n : ℕ). all_zero (drop n s)) (sym j)
      ∙ zero-onward s (i + 1 + 1 + 1) (omega arith) (ap (λ (n : ℕ). get_or s n 0) k ∙ omega arith)
      ∙ zero-onward s (i + 1 + 1) (omega arith) (ap (λ (n : ℕ). get_or s n 0) m ∙ omega arith)
      ∙ zero-onward s (i + 1) (omega arith) (omega arith)
      ∙ zero-onward s i (omega arith) (omega arith)

  pub word_broken : word_at s i ≢ 0 → false ≡ all_zero (drop i s)
  unfolding word_at
  word_broken h = to (eqb (get_or s i 0) 0) refl (eqb (get_or s (i + 1) 0) 0) refl (eqb (get_or s (i + 2) 0) 0) refl
    where
      m : i + 1 + 1 ≡ i + 2
      m = omega arith

      k : i + 1 + 1 + 1 ≡ i + 3
      k = omega arith

      at : (n j : ℕ) → n ≡ j → get_or s n 0 ≡ get_or s j 0
      at n j e = ap (λ (n : ℕ). get_or s n 0) e

      to : (a : Bool) → eqb (get_or s i 0) 0 ≡ a → (b : Bool) → eqb (get_or s (i + 1) 0) 0 ≡ b → (c : Bool) → eqb (get_or s (i + 2) 0) 0 ≡ c → false ≡ all_zero (drop i s)
      to false p b q c r = zero_broken s i (omega arith) (eqb-false _ _ p)
      to true p false q c r =
          zero_broken s (i + 1) (omega arith) (eqb-false _ _ q) ∙ zero-onward s i (omega arith) (eqb-true _ _ p)
      to true p true q false r =
          zero_broken s (i + 1 + 1) (omega arith) (λ e. eqb-false _ _ r (sym (at _ _ m) ∙ e))
          ∙ zero-onward s (i + 1) (omega arith) (eqb-true _ _ q)
          ∙ zero-onward s i (omega arith) (eqb-true _ _ p)
      to true p true q true r =
          let x = eqb-true (get_or s i 0) 0 p in
          let y = eqb-true (get_or s (i + 1) 0) 0 q in
          let z = eqb-true (get_or s (i + 2) 0) 0 r in
          zero_broken s (i + 1 + 1 + 1) (omega arith) (λ e. h (omega (arith, x, y, z, sym (at _ _ k) ∙ e)))
          ∙ zero-onward s (i + 1 + 1) (omega arith) (at _ _ m ∙ z)
          ∙ zero-onward s (i + 1) (omega arith) y
          ∙ zero-onward s i (omega arith) x
