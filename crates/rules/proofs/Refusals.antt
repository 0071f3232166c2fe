-- The refusals of the rulebook are the product's.
use Prim.Native.Nat.{ℕ, zero, suc, ◌+◌, ◌*◌, ◌/◌, ◌%◌, ◌^◌, ◌<◌, ◌≤◌}
use mathlib.Core.Path.{◌≡◌, refl, sym, ◌∙◌, ap, ap₂, subst}
use mathlib.Core.Bool.{Bool, true, false, cond, not, xor, ◌&&◌, ◌||◌, and-true, and-false, or-true, or-false, false≢true}
use mathlib.Core.List.{List, [], ◌∷◌}
use native.Mathlib.Decide.{dec_lt, ℕ_discrete}
use native.Mathlib.Omega.{arith}
use lib.Dec.{eqb, ltb, leb, lit<}
use lib.Bits.{bit_and}
use lib.ListN.{length, get_or-eq_default}
use borrow.Author.Tests.{eqb-true, eqb-false, eq-eqb, ne_eqb, leb-true, ltb-false, lt-ltb, le-ltb, le-leb, lt-leb}
use Rattle.bits.specs.Bit.{digit, bit, without, set_bit, mask}
use Rattle.bits.specs.Below.{all_below}
use Rattle.bits.specs.Tests.{top_down, gap_down, first_from}
use Rattle.bits.proofs.Laws.{bit_high, bit-and, bit-or, bit-xor, bit_mask, bit-without}
use Rattle.bits.proofs.Sets.{and_lt_l, top_up_lem, and_l}
use Rattle.bits.proofs.Below.{each_below, all_below_lem}
use Rattle.words.specs.Word.{words_of}
use Rattle.words.proofs.Bytes.{Bytes, word_lt}
use Rattle.registers.specs.declared.Block.{Block}
use Rattle.registers.specs.Block.{block_of}
use Rattle.registers.specs.Status as Status
use Rattle.registers.specs.Writes.{direction}
use Rattle.mailboxes.proofs.Filed.{data_bytes_le}
use Rattle.events.specs.Parts.{payload, quiet, frame_allowed}
use Rattle.mailboxes.specs.Mailbox.{word_layout}
use Rattle.events.specs.Decode.{is_mask as product_mask, writable, last_outcome, known_as, wakeful_as, quiet_as, allowed_as, event_as, register_allowed}
use Rattle.events.proofs.Laws.{each}
use Rattle.events.proofs.Unused.{data_unused, unused_data}
use Rattle.good.specs.Good.{good_image}
use Rattle.good.proofs.Image.{GoodImage, image_facts}
use Rattle.refusals.specs.Refusal as product
use Rattle.rules.specs.Words.{Words, words, ◌has◌, ◌is◌, byte, box, any, e_can, added, is_mask}
use Rattle.rules.specs.Events.{operation, target, word, value, rtr, highest_dlc, unknown, asleep, uses_data, unused, register_bad, word_bad, bad, turned, busy, foreign, locked, pointless}
use Rattle.rules.proofs.Any.{any_word}
use Rattle.rules.proofs.Blocks.{of_block, of_block_lem}

-- ---- of truth values

not-and : (a b : Bool) → not (a && b) ≡ (not a || not b)
not-and true b = refl
not-and false b = refl

not-or : (a b : Bool) → not (a || b) ≡ (not a && not b)
not-or true b = refl
not-or false b = refl

not-not : (a : Bool) → not (not a) ≡ a
not-not true = refl
not-not false = refl

not-leb : (a b : ℕ) → not (leb a b) ≡ ltb b a
not-leb a b = at (dec_lt b a)
  where
    at : Dec (b < a) → not (leb a b) ≡ ltb b a
    at (yes l) = rw (lt-leb a b l, lt-ltb b a l)
    at (no l) = rw (le-leb a b (omega arith), le-ltb b a (omega arith))

not-ltb : (a b : ℕ) → not (ltb a (suc b)) ≡ ltb b a
not-ltb a b = at (dec_lt b a)
  where
    at : Dec (b < a) → not (ltb a (suc b)) ≡ ltb b a
    at (yes l) = rw (le-ltb a (suc b) (omega arith), lt-ltb b a l)
    at (no l) = rw (lt-ltb a (suc b) (omega arith), le-ltb b a (omega arith))

five : (a b c d f : Bool) → not ((((a && b) && c) && d) && f) ≡ (not a || not b || not c || not d || not f)
five true true true true f = refl
five true true true false f = refl
five true true false d f = refl
five true false c d f = refl
five false b c d f = refl

-- ---- of words

gap_bits : (v : ℕ) → not (gap_down v) ≡ (v has 30 || v has 29)
unfolding digit
gap_bits v = at (v / 2 ^ 29 % 4) refl
  where
    at : (x : ℕ) → v / 2 ^ 29 % 4 ≡ x → not (eqb (v / 2 ^ 29 % 4) 0) ≡ (v has 30 || v has 29)
    at zero e = let p : v / 2 ^ 30 % 2 ≡ 0 = omega arith in let q : v / 2 ^ 29 % 2 ≡ 0 = omega arith in rw (e, p, q)
    at (suc zero) e = let p : v / 2 ^ 30 % 2 ≡ 0 = omega arith in let q : v / 2 ^ 29 % 2 ≡ 1 = omega arith in rw (e, p, q)
    at (suc (suc zero)) e = let p : v / 2 ^ 30 % 2 ≡ 1 = omega arith in rw (e, p)
    at (suc (suc (suc zero))) e = let p : v / 2 ^ 30 % 2 ≡ 1 = omega arith in rw (e, p)
    at (suc (suc (suc (suc x)))) e = absurd (omega arith)

top_bit : (v : ℕ) → v < 2 ^ 32 → not (top_down v) ≡ (v has 31)
top_bit v h = at (dec_lt v (2 ^ 31))
  where
    at : Dec (v < 2 ^ 31) → not (top_down v) ≡ (v has 31)
    at (yes l) = rw (lt-ltb v (2 ^ 31) l) (sym (bit_high 31 31 v l (omega arith)))
    at (no l) = rw (le-ltb v (2 ^ 31) (omega arith)) (sym (top_up_lem v h (omega arith)))

-- a test among others that do not apply
pad1 : (x : Bool) → x ≡ (x || false)
pad1 true = refl
pad1 false = refl

pad2 : (x : Bool) → x ≡ (x || false || false)
pad2 true = refl
pad2 false = refl

pad3 : (x : Bool) → x ≡ (x || false || false || false)
pad3 true = refl
pad3 false = refl

pad4 : (x : Bool) → x ≡ (x || false || false || false || false)
pad4 true = refl
pad4 false = refl

and_comm : (a b : Bool) → (a && b) ≡ (b && a)
and_comm true true = refl
and_comm true false = refl
and_comm false true = refl
and_comm false false = refl

pad5 : (x : Bool) → x ≡ (x || false || false || false || false || false)
pad5 true = refl
pad5 false = refl

-- ---- refusal 4: values

-- a mask is LAM, GAM or one of the registers 64 to 95
mask-same : (t : ℕ) → is_mask t ≡ (eqb t 8 || eqb t 9 || product_mask t)
mask-same t = rw (or-false (eqb t 9))

register-bad : (w : Words) (t v : ℕ) → v < 2 ^ 32 → not (register_allowed (e_can w) t v) ≡ register_bad w t v
unfolding register_allowed
register-bad w t v h = at (ℕ_discrete t 8) (ℕ_discrete t 9) (product_mask t) refl (ℕ_discrete t 11) (ℕ_discrete t 15) (ℕ_discrete t 16) (ℕ_discrete t 17) (ℕ_discrete t 18) (ℕ_discrete t 19)
  where
    Bad : ℕ → Type 0
    Bad t = not (register_allowed (e_can w) t v) ≡ register_bad w t v

    of : (k : ℕ) → Bad k → t ≡ k → Bad t
    of k x e = subst Bad (sym e) x

    top : not (e_can w || top_down v) ≡ (v has 31 && not (e_can w))
    top = not-or (e_can w) (top_down v) ∙ ap (λ (x : Bool). not (e_can w) && x) (top_bit v h) ∙ and_comm (not (e_can w)) (v has 31)

    -- a number from 64 on is none of the low ones
    high : 64 ≤ t → (k : ℕ) → k < 64 → eqb t k ≡ false
    high l k u = ne_eqb t k (λ q. omega arith)

    at : Dec (t ≡ 8) → Dec (t ≡ 9) → (u : Bool) → product_mask t ≡ u → Dec (t ≡ 11) → Dec (t ≡ 15) → Dec (t ≡ 16) → Dec (t ≡ 17) → Dec (t ≡ 18) → Dec (t ≡ 19) → Bad t
    at (yes e) b u m c d f g i j = of 8 (gap_bits v ∙ pad4 _) e
    at (no a) (yes e) u m c d f g i j = of 9 (gap_bits v ∙ pad4 _) e
    at (no a) (no b) true m c d f g i j =
        let l = leb-true 64 t (and_l (leb 64 t) (leb t 95) m) in
        rw (mask-same t, high l 8 (lit< tt), high l 9 (lit< tt), high l 11 (lit< tt), high l 15 (lit< tt), high l 16 (lit< tt), high l 17 (lit< tt), high l 18 (lit< tt), high l 19 (lit< tt), m) (gap_bits v ∙ pad4 _)
    at (no a) (no b) false m (yes e) d f g i j = of 11 (top ∙ pad3 _) e
    at (no a) (no b) false m (no c) (yes e) f g i j = of 15 (not-ltb v 255 ∙ pad2 _) e
    at (no a) (no b) false m (no c) (no d) (yes e) g i j = of 16 (not-ltb v 255 ∙ pad2 _) e
    at (no a) (no b) false m (no c) (no d) (no f) (yes e) i j = of 17 (not-ltb v 1023 ∙ pad1 _) e
    at (no a) (no b) false m (no c) (no d) (no f) (no g) (yes e) j = of 18 (not-ltb v 1023 ∙ pad1 _) e
    at (no a) (no b) false m (no c) (no d) (no f) (no g) (no i) (yes e) = of 19 refl e
    at (no a) (no b) false m (no c) (no d) (no f) (no g) (no i) (no j) =
        rw (mask-same t, ne_eqb t 8 a, ne_eqb t 9 b, m, ne_eqb t 11 c, ne_eqb t 15 d, ne_eqb t 16 f, ne_eqb t 17 g, ne_eqb t 18 i, ne_eqb t 19 j)

word-bad : (j v : ℕ) → not (word_layout j v) ≡ word_bad j v
word-bad zero v = not-or (v has 31) (eqb (v % 2 ^ 18) 0) ∙ pad1 _
word-bad (suc zero) v = refl
word-bad (suc (suc j)) v = rw (ne_eqb (suc (suc j)) 0 (λ q. omega arith), ne_eqb (suc (suc j)) 1 (λ q. omega arith))

frame-bad : (e : List ℕ) → not (frame_allowed e) ≡ (ltb highest_dlc (target e) || value e has 29 || not (value e has 31) && not (value e % 2 ^ 18 is 0))
unfolding frame_allowed
frame-bad e =
    not-and (leb (target e) highest_dlc && not (value e has 29)) (value e has 31 || value e % 2 ^ 18 is 0)
    ∙ ap₂ ◌||◌ (not-and (leb (target e) highest_dlc) (not (value e has 29)) ∙ ap₂ ◌||◌ (not-leb (target e) highest_dlc) (not-not (value e has 29))) (not-or (value e has 31) (value e % 2 ^ 18 is 0))

-- ---- refusal 4: unused bytes

module _ (e : List ℕ) (b : Bytes e) where
  data_same : (n : ℕ) → n ≤ 8 → (u : ℕ → Bool) → ((i : ℕ) → i < 8 → u i ≡ ltb i n)
      → eqb (payload e / 2 ^ (8 * n)) 0 ≡ all_below (λ i. u i || byte e (8 + i) is 0) 8
  data_same n l u h = at (all_below (λ i. u i || byte e (8 + i) is 0) 8) refl
    where
      test : (i : ℕ) → i < 8 → (t : Bool) → u i ≡ t → (n ≤ i → byte e (8 + i) ≡ 0) → (u i || byte e (8 + i) is 0) ≡ true
      test i k true q z = rw q
      test i k false q z = rw (q, eq-eqb (byte e (8 + i)) 0 (z (ltb-false i n (sym (h i k) ∙ q))))

      at : (t : Bool) → all_below (λ i. u i || byte e (8 + i) is 0) 8 ≡ t → eqb (payload e / 2 ^ (8 * n)) 0 ≡ t
      at true q =
          eq-eqb _ _
          (unused_data e b n l
          (λ j m k. eqb-true (byte e (8 + j)) 0 (rw (h j k ∙ le-ltb j n m) at (each_below (λ i. u i || byte e (8 + i) is 0) 8 q j k))))
      at false q =
          ne_eqb _ _
          (λ z. false≢true (sym q ∙ all_below_lem (λ i. u i || byte e (8 + i) is 0) 8 (λ i k. test i k (u i) refl (λ m. data_unused e b n z i m k))))

  quiet_same : (x y z : Bool) (n : ℕ) (u : ℕ → Bool) → n ≤ 8 → ((i : ℕ) → i < 8 → u i ≡ ltb i n)
      → not (quiet e x y z n)
      ≡ (not x && not (target e is 0) || not y && not (word e is 0) || not (byte e 3 is 0) || not z && not (value e is 0) || not (all_below (λ i. u i || byte e (8 + i) is 0) 8))
  unfolding quiet
  quiet_same x y z n u l h =
      five (x || target e is 0) (y || word e is 0) (byte e 3 is 0) (z || value e is 0) (eqb (payload e / 2 ^ (8 * n)) 0)
      ∙ rw (not-or x (target e is 0), not-or y (word e is 0), not-or z (value e is 0), data_same n l u h)

  none : (i : ℕ) → i < 8 → false ≡ ltb i 0
  none i l = sym (le-ltb i 0 (omega arith))

  abbrev Fourth : Words → ℕ → Type 0
  Fourth w k = not (quiet_as k e && allowed_as k (e_can w) e) ≡ (unused k e || bad k w e)

  fourth : (w : Words) (k : ℕ) → not (quiet_as k e) ≡ unused k e → not (allowed_as k (e_can w) e) ≡ bad k w e → Fourth w k
  fourth w k x y = not-and (quiet_as k e) (allowed_as k (e_can w) e) ∙ ap₂ ◌||◌ x y

  no_data : (x y z : Bool)
      → not (quiet e x y z 0)
      ≡ (not x && not (target e is 0) || not y && not (word e is 0) || not (byte e 3 is 0) || not z && not (value e is 0) || not (all_below (λ i. false || byte e (8 + i) is 0) 8))
  no_data x y z = quiet_same x y z 0 (λ i. false) (omega arith) none

  fourths : (w : Words) (k : ℕ) → k < 11 → Fourth w k
  fourths w =
      each (Fourth w) 11
      ((((((((((((tt, fourth w 0 (no_data true false true) (register-bad w (target e) (value e) (word_lt e b 4) ∙ pad4 _)), fourth w 1 (no_data true true true) (word-bad (word e) (value e) ∙ pad3 _)), fourth w 2 (quiet_same true false true _ (uses_data 2 e) (data_bytes_le (rtr e) (target e)) (λ i l. refl)) (frame-bad e ∙ pad2 _)), fourth w 3 (no_data false false false) refl), fourth w 4 (no_data true false false) refl), fourth w 5 (no_data false false true) (pad1 _)), fourth w 6 (no_data false false false) refl), fourth w 7 (no_data false false false) refl), fourth w 8 (no_data false false true) (not-leb (value e) 3)), fourth w 9 (no_data false false true) (not-leb (value e) 3)), fourth w 10 (no_data false false false) refl))

  -- of a frame, which either controller judges alike
  pub frame_refused : (w : Words) → not (quiet_as 2 e && allowed_as 2 false e) ≡ (unused 2 e || bad 2 w e)
  frame_refused w = fourths w 2 (omega arith)

-- ---- refusal 2

module _ (e : List ℕ) where
  abbrev Second : ℕ → Type 0
  Second k = (not (length e is 16) || not (known_as k e)) ≡ unknown k e

  at_0 : (l x : Bool) → (l || x) ≡ (l || false || x || false || false)
  at_0 true x = refl
  at_0 false x = pad2 x

  at_1 : (l x : Bool) → (l || x) ≡ (l || false || false || x || false)
  at_1 true x = refl
  at_1 false x = pad1 x

  at_4 : (l x : Bool) → (l || x) ≡ (l || false || false || false || x)
  at_4 true x = refl
  at_4 false x = refl

  -- a register that cannot be written: neither 0 to 19, RML and RFP left out, nor an added one
  register-unknown : (t : ℕ) → not (writable t) ≡ (ltb 19 t && not (added t) || t is 7 || t is 10)
  register-unknown t = at (added t) refl
    where
      unwritable : (a b c : Bool) → not (a && not b && not c) ≡ (not a || b || c)
      unwritable true true c = refl
      unwritable true false true = refl
      unwritable true false false = refl
      unwritable false b c = refl

      at : (u : Bool) → added t ≡ u → not ((leb t 19 && not (t is 7) && not (t is 10)) || u) ≡ (ltb 19 t && not u || t is 7 || t is 10)
      at false e =
          rw (or-false (leb t 19 && not (t is 7) && not (t is 10)), and-true (ltb 19 t))
          (unwritable (leb t 19) (t is 7) (t is 10) ∙ ap (λ (x : Bool). x || t is 7 || t is 10) (not-leb t 19))
      at true e =
          let l = leb-true 64 t (and_l (leb 64 t) (leb t 96) e) in
          rw (or-true (leb t 19 && not (t is 7) && not (t is 10)), and-false (ltb 19 t), ne_eqb t 7 (λ q. omega arith), ne_eqb t 10 (λ q. omega arith))

  abbrev l16 : Bool
  l16 = not (length e is 16)

  second_0 : Second 0
  second_0 =
      ap (λ (x : Bool). l16 || x) (register-unknown (target e))
      ∙ at_0 l16 (ltb 19 (target e) && not (added (target e)) || target e is 7 || target e is 10)

  second_1 : Second 1
  second_1 =
      ap (λ (x : Bool). l16 || x) (not-and (leb (target e) 31) (leb (word e) 3) ∙ ap₂ ◌||◌ (not-leb (target e) 31) (not-leb (word e) 3))
      ∙ at_1 l16 (ltb 31 (target e) || ltb 3 (word e))

  second_4 : Second 4
  second_4 = ap (λ (x : Bool). l16 || x) (not-leb (target e) last_outcome) ∙ at_4 l16 (ltb last_outcome (target e))

  seconds : (k : ℕ) → k < 11 → Second k
  seconds =
      each Second 11
      ((((((((((((tt, second_0), second_1), at_4 l16 false), at_4 l16 false), second_4), at_4 l16 false), at_4 l16 false), at_4 l16 false), at_4 l16 false), at_4 l16 false), at_4 l16 false))

  second_past : (k : ℕ) → 11 ≤ k → (unknown k e ≡ true) × ((l16 || not (known_as k e)) ≡ true)
  second_past k h =
      (rw (lt-ltb 10 k h, or-true l16), rw (get_or-eq_default _ false h, or-true l16))

-- ---- refusals 3, 5, 6 and 7

module _ (s e : List ℕ) (g : GoodImage s) (y : Bytes e) where
  abbrev b : Block
  b = block_of s

  abbrev w : Words
  w = of_block (words s) b

  abbrev Third : ℕ → Type 0
  Third k = (wakeful_as k && Status.asleep b) ≡ asleep k w

  thirds : (k : ℕ) → k < 11 → Third k
  thirds = each Third 11 ((((((((((((tt, refl), refl), refl), refl), refl), refl), refl), refl), refl), refl), refl))

  abbrev v : ℕ
  v = value e

  turned_bit : (n : ℕ) → bit (product.turned_round b v) n ≡ turned w v n
  unfolding direction xor
  turned_bit n = bit-xor (direction b v) b.md n ∙ at (Status.ecan b) refl (eqb n 31) refl
    where
      md31 : Status.ecan b ≡ false → bit b.md 31 ≡ true
      md31 p =
          let l = g.block.core.ranges.profile in
          let d = eqb-false b.profile 1 p in
          top_up_lem b.md g.block.core.wide.md (g.block.core.md31 (omega arith))

      at : (c : Bool) → Status.ecan b ≡ c → (t : Bool) → eqb n 31 ≡ t
          → xor (bit (cond c v (set_bit v 31)) n) (bit b.md n) ≡ (not (not c && t) && xor (bit v n) (bit b.md n))
      at true p t q = refl
      at false p true q =
          rw (bit-or v (mask 31) n ∙ ap (λ (x : Bool). bit v n || x) (bit_mask 31 n ∙ q) ∙ or-true (bit v n), eqb-true n 31 q, md31 p)
      at false p false q = rw (bit-or v (mask 31) n ∙ ap (λ (x : Bool). bit v n || x) (bit_mask 31 n ∙ q) ∙ or-false (bit v n))

  trs-fits : b.trs < 2 ^ 32
  unfolding block_of words_of
  trs-fits = word_lt s g.bytes 520

  off-any : not (eqb (bit_and b.trs (without b.mc v)) 0) ≡ any (λ n. b.trs has n && (b.mc has n && not (v has n)))
  off-any =
      any_word _ _ (and_lt_l {a = b.trs} (without b.mc v) trs-fits)
      (λ n. bit-and b.trs (without b.mc v) n ∙ ap (λ (x : Bool). bit b.trs n && x) (bit-without b.mc v n))

  turn-any : (x : ℕ) → x < 2 ^ 32 → not (eqb (bit_and x (product.turned_round b v)) 0) ≡ any (λ n. x has n && turned w v n)
  turn-any x h =
      any_word _ _ (and_lt_l (product.turned_round b v) h)
      (λ n. bit-and x (product.turned_round b v) n ∙ ap (λ (z : Bool). bit x n && z) (turned_bit n))

  abbrev Fifth : ℕ → Type 0
  Fifth k = product.busy b (event_as k e) ≡ busy k w e

  two_ways : (t : ℕ) (p q p' q' : Bool) → p ≡ p' → q ≡ q' → cond (eqb t 0) p (cond (eqb t 1) q false) ≡ (eqb t 0 && p' || eqb t 1 && q')
  two_ways t p q p' q' x z = at (ℕ_discrete t 0) (ℕ_discrete t 1)
    where
      at : Dec (t ≡ 0) → Dec (t ≡ 1) → cond (eqb t 0) p (cond (eqb t 1) q false) ≡ (eqb t 0 && p' || eqb t 1 && q')
      at (yes e) d = rw (e, x) (pad1 p')
      at (no d) (yes e) = rw (e, z)
      at (no d) (no e) = rw (ne_eqb t 0 d, ne_eqb t 1 e)

  fifths : (k : ℕ) → k < 11 → Fifth k
  unfolding product.busy
  fifths =
      each Fifth 11
      ((((((((((((tt, two_ways (target e) _ _ _ _ off-any (turn-any b.trs trs-fits)), pad2 _), pad3 _), pad3 _), refl), pad3 _), refl), refl), refl), refl), refl))

  abbrev Sixth : ℕ → Type 0
  Sixth k = product.locked s (event_as k e) ≡ locked k w (box s (target e) 0) e

  lock_ways : (t : ℕ) (p q m f : Bool) → p ≡ q → (t ≡ 1 → f ≡ false)
      → cond (eqb t 1) p (((eqb t 17 || eqb t 18) && m) || f) ≡ (eqb t 1 && q || (eqb t 17 || (eqb t 18 || false)) && m || f || false || false || false)
  lock_ways t p q m f x z = at (ℕ_discrete t 1)
    where
      at : Dec (t ≡ 1) → cond (eqb t 1) p (((eqb t 17 || eqb t 18) && m) || f) ≡ (eqb t 1 && q || (eqb t 17 || (eqb t 18 || false)) && m || f || false || false || false)
      at (yes e) = rw (e, x, z e) (pad5 q)
      at (no d) = rw (ne_eqb t 1 d, or-false (eqb t 18)) (pad3 _)

  -- MD is no foreign register
  own-md : (t : ℕ) → t ≡ 1 → foreign w t ≡ false
  own-md t e = rw e (at (e_can w))
    where
      at : (c : Bool) → cond c false false ≡ false
      at true = refl
      at false = refl

  foreign-same : (t : ℕ) → product.foreign b t ≡ foreign w t
  foreign-same t = rw (or-false (eqb t 9))

  sixth_0 : Sixth 0
  unfolding product.locked
  sixth_0 =
      ap (λ (f : Bool). cond (target e is 1) (product.meet b.mc (product.turned_round b v)) (((target e is 17 || target e is 18) && not (b.mode is 1)) || f)) (foreign-same (target e))
      ∙ lock_ways (target e) _ _ _ _ (turn-any b.mc g.block.core.wide.mc) (own-md (target e))

  mode_ways : (a z m c t : Bool) → (c ≡ true → z ≡ false) → not (a || (z || (m && (not c || t)))) ≡ (not a && not z && not m || not a && c && not t)
  mode_ways true z m c t h = refl
  mode_ways false true m true t h = absurd (false≢true (sym (h refl)))
  mode_ways false true m false t h = refl
  mode_ways false false true true t h = refl
  mode_ways false false true false t h = refl
  mode_ways false false false c t h = refl

  untimed_is : (x y : ℕ) (c : Bool) (d : Bool) → not c ≡ d → not (not (eqb x 0) && not (eqb y 0) && c) ≡ (eqb x 0 || eqb y 0 || d)
  untimed_is x y c d h = at (eqb x 0) (eqb y 0)
    where
      at : (p q : Bool) → not (not p && not q && c) ≡ (p || q || d)
      at true q = refl
      at false true = refl
      at false false = h

  sixth_8 : Sixth 8
  unfolding product.locked
  sixth_8 =
      mode_ways (value e is b.mode) (b.mode is 0) (value e is 0) (b.mode is 1) (product.timed b)
      (λ q. ne_eqb b.mode 0 (λ r. let o = eqb-true b.mode 1 q in omega arith))
      ∙ ap (λ (x : Bool). not (value e is b.mode) && not (b.mode is 0) && not (value e is 0) || not (value e is b.mode) && b.mode is 1 && x)
      (untimed_is (b.bcr2 % 16) (b.bcr2 / 16 % 8) _ _ (not-leb (b.bcr2 / 256 % 4) (b.bcr2 / 16 % 8)))

  sixths : (k : ℕ) → k < 11 → Sixth k
  unfolding product.locked
  sixths = each Sixth 11 ((((((((((((tt, sixth_0), pad2 _), refl), refl), refl), refl), refl), refl), sixth_8), refl), refl))

  abbrev Seventh : ℕ → Type 0
  Seventh k = product.pointless b (event_as k e) ≡ pointless k w

  sevenths : (k : ℕ) → k < 11 → Seventh k
  unfolding product.pointless
  sevenths = each Seventh 11 ((((((((((((tt, refl), refl), refl), refl), refl), refl), refl), refl), refl), refl), refl))

-- ---- all together

-- the tests of refusals 2 to 7, in their order
abbrev pub tests_as : ℕ → Words → ℕ → List ℕ → List Bool
tests_as op w box0 e = unknown op e ∷ asleep op w ∷ (unused op e || bad op w e) ∷ busy op w e ∷ locked op w box0 e ∷ pointless op w ∷ []

abbrev pub tests : List ℕ → List ℕ → List Bool
tests s e = tests_as (operation e) (words s) (box s (target e) 0) e

module _ (s e : List ℕ) (bytes : Bytes s) (y : Bytes e) (h : good_image s ≡ true) where
  abbrev gi : GoodImage s
  gi = image_facts s bytes h

  -- the product's list, at an operation
  abbrev chain : ℕ → ℕ
  chain k =
      first_from 2
      ((not (length e is 16) || not (known_as k e))
      ∷ (wakeful_as k && Status.asleep (block_of s))
      ∷ not (quiet_as k e && allowed_as k (Status.ecan (block_of s)) e)
      ∷ product.busy (block_of s) (event_as k e)
      ∷ product.locked s (event_as k e)
      ∷ product.pointless (block_of s) (event_as k e)
      ∷ [])

  chains : (k : ℕ) → Dec (k < 11) → chain k ≡ first_from 2 (tests_as k (of_block (words s) (block_of s)) (box s (target e) 0) e)
  chains k (yes l) =
      rw (seconds e k l, thirds s e gi y k l, fourths e y (of_block (words s) (block_of s)) k l, fifths s e gi y k l, sixths s e gi y k l, sevenths s e gi y k l)
  chains k (no l) = let p = second_past e k (omega arith) in rw (p.0, p.1)

  pub same-refusal : first_from 2 (tests s e) ≡ product.refusal s e
  unfolding product.refusal
  same-refusal =
      ap (λ (w : Words). first_from 2 (tests_as (operation e) w (box s (target e) 0) e)) (of_block_lem s)
      ∙ sym (chains (operation e) (dec_lt (operation e) 11))
      ∙ rw h
