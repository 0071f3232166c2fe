-- The step meets the rules of receiving.
use Prim.Native.Nat.{ℕ, zero, suc, ◌+◌, ◌-◌, ◌*◌, ◌/◌, ◌%◌, ◌^◌, ◌<◌, ◌≤◌}
use mathlib.Core.Path.{◌≡◌, refl, sym, ◌∙◌, ap, ap₂, subst}
use mathlib.Core.Bool.{Bool, true, false, cond, not, ◌&&◌, ◌||◌, and-true, and-false, or-false, false≢true}
use mathlib.Core.List.{List, [], ◌∷◌}
use mathlib.Core.Logic.{◌≢◌}
use native.Mathlib.Decide.{dec_lt, ℕ_discrete}
use native.Mathlib.Omega.{arith}
use native.Mathlib.Numerals.{add-one}
use lib.Dec.{eqb, ltb, leb, lit≤}
use lib.ListN.{get_or, length, drop}
use lib.Seq.{get_or-take, get_or-drop}
use lib.Bits.{or_zero_r}
use lib.Pow.{field, mod-mod-pow}
use borrow.Author.Tests.{eqb-true, ne_eqb, ltb-true, lt-ltb, le-ltb, not-false}
use Rattle.bits.specs.Bit.{digit, bit}
use Rattle.bits.specs.Below.{count_below}
use Rattle.bits.proofs.Laws.{bit-zero, bit_high}
use Rattle.bits.proofs.Sets.{and_l}
use Rattle.words.specs.Word.{word_at, words_of}
use Rattle.words.proofs.Bytes.{Bytes, word_lt}
use Rattle.registers.specs.declared.Block.{Block}
use Rattle.registers.specs.Block.{block_of, put_block, with_rec}
use Rattle.registers.specs.Modes.{on_bus, risen, settled}
use Rattle.registers.specs.Frames.{listened, wakened, fallen, stored, replied}
use Rattle.registers.proofs.Laws.{byte-stays, word-stays}
use Rattle.registers.proofs.Flags.{stored-rmp, stored-rml, stored-mbrif, stored-rfp, stored-gif, replied-trs, listened-gif}
use Rattle.mailboxes.specs.Mailbox.{mailbox, with_mailbox, maskable}
use Rattle.mailboxes.specs.Filing.{filed}
use Rattle.mailboxes.proofs.Laws.{length-mailbox, bytes-mailbox, word_of, byte_in, byte_out, word_in}
use Rattle.mailboxes.proofs.Spliced.{data_byte}
use Rattle.mailboxes.proofs.Filed.{length-filed, bytes-filed, filed-word_1, filed-ide, filed-identifier-field, filed-maskable, filed-rfh, filed-new, filed-old, data_bytes_le}
use Rattle.events.specs.declared.Frame.{Frame as EventFrame}
use Rattle.events.specs.Parts.{frame_of}
use Rattle.events.proofs.Allowed.{FrameAllowed}
use Rattle.filter.specs.declared.Delivery.{Delivery}
use Rattle.filter.specs.declared.Delivery.TheVariants.{Into, Reply, Nowhere}
use Rattle.filter.specs.declared.Found.TheVariants.{At}
use Rattle.filter.specs.Filter.{seat as seat_of, matches, mask_for, freed_by, takes, compared_before, hits, hits_at, placed, delivery}
use Rattle.filter.proofs.Matching.{match_agrees, agrees_match, compared-bit, frame-bit}
use Rattle.filter.proofs.Search.{candidate-bit, seat_lt, is_compared, is_guarded, hit, not-compared, not_taking, guarded-bit, stops, Stopped, Passed}
use Rattle.filter.proofs.Ways.{Way, off_bus, no_match, stored as way_stored, replied as way_replied, ignored as way_ignored, way, unheard, taken, stored_at, replied-at, ignored-at}
use Rattle.good.proofs.Image.{GoodImage}
use Rattle.answers.specs.Answer.{Outcome as Result}
use Rattle.model.specs.Step.{delivered, stowed, named_by, count_of}
use Rattle.model.proofs.Meets.{calm}
use Rattle.rules.specs.Words.{Words, ◌has◌, ◌is◌, words, box, byte, Only, BoxesStayBut, TRS, RMP, RML, LAM, GAM, RFP, MBRIF, GIF, REC, MODE, MASKS, e_can}
use Rattle.rules.specs.Events.{value, target, rtr, carried, Answers}
use Rattle.rules.specs.Receiving.{compared, matters, freed, Matches, seat, guarded, First, count_to, Stored, Heard, Frame}
use Rattle.rules.proofs.Blocks.{of_block, only}

-- ---- bits of a field

pub bit-mod : (w k i : ℕ) → i < k → bit (w % 2 ^ k) i ≡ bit w i
unfolding digit
bit-mod w k i h =
    let m = k - i - 1 in
    let e : k ≡ m + 1 + i = omega arith in
    ap (λ (x : ℕ). eqb x 1)
    (ap (λ (x : ℕ). w % 2 ^ x / 2 ^ i % 2) e ∙ ap (λ (x : ℕ). x % 2) (field w (m + 1) i) ∙ mod-mod-pow (w / 2 ^ i) m 1)

module _ (s e : List ℕ) where
  abbrev pub f : EventFrame
  f = frame_of e

  pub compared_same : (n : ℕ) → is_compared s f n ≡ compared s e n
  unfolding frame_of block_of words_of
  compared_same n = candidate-bit (block_of s) f n

  pub freed-same : (n i : ℕ) → bit (freed_by (mask_for s (block_of s) n) (box s n 0)) i ≡ freed s n i
  unfolding block_of words_of
  freed-same n i = at (maskable (box s n 0)) (e_can (words s)) (eqb n 31)
    where
      at : (t c u : Bool) → bit (cond t (cond c (word_at s (640 + 4 * n)) (cond u (word_at s 544) (word_at s 548))) 0) i
          ≡ (t && cond c (words s (MASKS + n)) (words s (cond u LAM GAM)) has i)
      at true true u = ap (λ (k : ℕ). bit (word_at s k) i) (omega arith)
      at true false true = refl
      at true false false = refl
      at false c u = bit-zero i

  pub guarded-same : (n : ℕ) → is_guarded s n ≡ guarded (words s) n
  unfolding block_of words_of
  guarded-same n = guarded-bit (block_of s) n

  pub frame_same : (i : ℕ) → matters e i ≡ true → bit (cond (value e has 31) (2 ^ 31) 0 + value e % 2 ^ 29) i ≡ (value e has i)
  unfolding frame_of
  frame_same i h = frame-bit f (omega arith) i ∙ at (eqb i 31) refl
    where
      at : (t : Bool) → eqb i 31 ≡ t → ((value e has 31 && eqb i 31) || bit (value e % 2 ^ 29) i) ≡ (value e has i)
      at true q =
          let z = eqb-true i 31 q in
          let l : value e % 2 ^ 29 < 2 ^ 29 = omega arith in
          rw (q, bit_high i 29 (value e % 2 ^ 29) l (omega arith), and-true (value e has 31), or-false (value e has 31)) (ap (bit (value e)) (sym z))
      at false q =
          let l = ltb-true i 29 (and_l (ltb i 29) (value e has 31 || leb 18 i) (rw q at h)) in
          rw (q, and-false (value e has 31)) (bit-mod (value e) 29 i l)

  pub match_same : (n : ℕ) → matches s f n ≡ true → Matches s e n
  unfolding frame_of matches
  match_same n h i m z =
      match_agrees (mask_for s (block_of s) n) f (box s n 0) h i (compared-bit f i ∙ m) (freed-same n i ∙ z) ∙ frame_same i m

  pub same_match : (n : ℕ) → Matches s e n → matches s f n ≡ true
  unfolding frame_of matches
  same_match n h =
      agrees_match (mask_for s (block_of s) n) f (box s n 0)
      (λ i m z. let p = sym (compared-bit f i) ∙ m in h i p (sym (freed-same n i) ∙ z) ∙ sym (frame_same i p))

  -- a mailbox that matches takes the frame, unless it passes it over
  takes_same : (n : ℕ) → Matches s e n → takes s f n ≡ not (guarded (words s) n)
  unfolding takes
  takes_same n h = rw (same_match n h) (ap not (guarded-same n))

  pub first : (n c : ℕ) (p : Stopped s f n c) → First s e p.place n
  unfolding seat_of block_of
  first n c p =
      record {
        there = p.before_end;
        seated = sym p.seated;
        compares = sym (compared_same n) ∙ p.compared;
        matches = match_same n p.matching;
        takes = sym (guarded-same n) ∙ p.unguarded;
        before = λ j l q r. not-false _ (sym (takes_same _ r) ∙ p.none_before j l (compared_same _ ∙ q));
      }

  pub first-there : (k n : ℕ) → First s e k n → n < 32
  unfolding seat_of block_of
  first-there k n p = subst (λ (m : ℕ). m < 32) p.seated (seat_lt (block_of s) k p.there)

  pub missed : (c : ℕ) → Passed s f c → (k n : ℕ) → First s e k n → ⊥
  missed c p k n q =
      false≢true
      (sym (p.none n (first-there k n q) (compared_same n ∙ q.compares)) ∙ takes_same n q.matches ∙ ap not q.takes)

  count_same : (k : ℕ) → compared_before s f k ≡ count_to s e k
  unfolding count_below seat_of block_of
  count_same zero = refl
  count_same (suc k) = rw (count_same k, compared_same (seat (words s) k))

-- a mailbox that does not match takes nothing
not_matching : (s : List ℕ) (x : EventFrame) (n : ℕ) → matches s x n ≡ false → takes s x n ≡ false
unfolding takes
not_matching s x n h = rw h

-- ---- a frame in its mailbox

module _ (s e : List ℕ) (g : GoodImage s) (by : Bytes e) (ok : FrameAllowed (frame_of e)) (n : ℕ) (there : n < 32) where
  abbrev fr : EventFrame
  fr = frame_of e

  abbrev tsc : ℕ
  tsc = (block_of s).tsc

  small : tsc < 65536
  small = g.block.core.ranges.tsc

  room : 16 * n + 16 ≤ length s
  room = omega (arith, g.size)

  abbrev m : List ℕ
  m = mailbox s n

  size : length m ≡ 16
  size = length-mailbox s n room

  abbrev m' : List ℕ
  m' = filed m fr.ide fr.rtr fr.id fr.dlc fr.bytes tsc

  size' : length m' ≡ 16
  size' = length-filed m fr.ide fr.rtr fr.id fr.dlc fr.bytes tsc ∙ size

  module _ (b : Block) where
    abbrev x : List ℕ
    x = put_block (with_mailbox s n m') b

    word-at : (j : ℕ) → j < 4 → box x n j ≡ word_at m' (4 * j)
    word-at j h = word-stays (with_mailbox s n m') b (16 * n + 4 * j) (omega arith) ∙ word_in s n m' room size' (4 * j) (omega arith)

    byte_at : (i : ℕ) → i < 16 → byte x (16 * n + i) ≡ get_or m' i 0
    byte_at i h = byte-stays (with_mailbox s n m') b (16 * n + i) (omega arith) ∙ byte_in s n m' room size' i h

    word_0 : (i : ℕ) → (box x n 0 has i) ≡ cond (i is 30 || i is 29) (box s n 0 has i) (value e has i)
    unfolding frame_of
    word_0 i = ap (λ (w : ℕ). bit w i) (word-at 0 (lit≤ tt)) ∙ at (dec_lt i 29) (ℕ_discrete i 29) (ℕ_discrete i 30) (ℕ_discrete i 31)
      where
        own : (j : ℕ) → bit (word_at m 0) j ≡ (box s n 0 has j)
        own j = ap (λ (w : ℕ). bit w j) (word_of s n 0 (lit≤ tt))

        id_lt : value e % 2 ^ 29 < 2 ^ 29
        id_lt = omega arith

        plain : i ≢ 30 → i ≢ 29 → (value e has i) ≡ cond (i is 30 || i is 29) (box s n 0 has i) (value e has i)
        plain p q = rw (ne_eqb i 30 p, ne_eqb i 29 q)

        at : Dec (i < 29) → Dec (i ≡ 29) → Dec (i ≡ 30) → Dec (i ≡ 31) → bit (word_at m' 0) i ≡ cond (i is 30 || i is 29) (box s n 0 has i) (value e has i)
        at (yes l) d2 d3 d4 =
            sym (bit-mod (word_at m' 0) 29 i l)
            ∙ ap (λ (w : ℕ). bit w i) (filed-identifier-field m fr.ide fr.rtr fr.id fr.dlc fr.bytes tsc size id_lt)
            ∙ bit-mod (value e) 29 i l
            ∙ plain (λ z. omega arith) (λ z. omega arith)
        at (no l) (yes q) d3 d4 =
            rw q (filed-rfh m fr.ide fr.rtr fr.id fr.dlc fr.bytes tsc size id_lt ∙ own 29)
        at (no l) (no d2) (yes q) d4 =
            rw q (filed-maskable m fr.ide fr.rtr fr.id fr.dlc fr.bytes tsc size id_lt ∙ own 30)
        at (no l) (no d2) (no d3) (yes q) =
            rw q (filed-ide m fr.ide fr.rtr fr.id fr.dlc fr.bytes tsc size id_lt)
        at (no l) (no d2) (no d3) (no d4) =
            let w = word_lt m' (bytes-filed m fr.ide fr.rtr fr.id fr.dlc fr.bytes tsc (bytes-mailbox s n g.bytes)) 0 in
            bit_high i 32 (word_at m' 0) w (omega arith) ∙ sym (bit_high i 32 (value e) (word_lt e by 4) (omega arith)) ∙ plain d3 d2

    word_1 : box x n 1 ≡ tsc * 65536 + cond (rtr e) 16 0 + target e
    unfolding frame_of
    word_1 = word-at 1 (lit≤ tt) ∙ filed-word_1 m fr.ide fr.rtr fr.id fr.dlc fr.bytes tsc size ok.dlc small

    new : (i : ℕ) → i < carried e → byte x (16 * n + (8 + i)) ≡ byte e (8 + i)
    unfolding frame_of
    new i l =
        let h : i < 8 = omega (arith, data_bytes_le (rtr e) (target e)) in
        byte_at (8 + i) (omega arith)
        ∙ filed-new m fr.ide fr.rtr fr.id fr.dlc fr.bytes tsc size i l
        ∙ data_byte e by i h

    old : (i : ℕ) → i < 8 → carried e ≤ i → byte x (16 * n + (8 + i)) ≡ byte s (16 * n + (8 + i))
    unfolding frame_of mailbox
    old i h l =
        byte_at (8 + i) (omega arith)
        ∙ filed-old m fr.ide fr.rtr fr.id fr.dlc fr.bytes tsc size (bytes-mailbox s n g.bytes) i h l
        ∙ (get_or-take 16 (drop (16 * n) s) (8 + i) 0 (omega arith) ∙ get_or-drop (16 * n) s (8 + i) 0)

    elsewhere : BoxesStayBut n s x
    elsewhere i l o = byte-stays (with_mailbox s n m') b i l ∙ byte_out s n m' room size' i o

-- ---- the block

module _ (b : Block) where
  rec_falls : (listened b).rec ≤ b.rec
  unfolding listened
  rec_falls = at (on_bus b) (ltb 127 b.rec) refl
    where
      at : (u t : Bool) → ltb 127 b.rec ≡ t → cond u (cond t 127 (b.rec - 1)) b.rec ≤ b.rec
      at true true h = omega (arith, ltb-true 127 b.rec h)
      at true false h = omega arith
      at false t h = omega arith

  on_bus-awake : on_bus b ≡ true → wakened b ≡ false
  on_bus-awake h = let z = eqb-true b.mode 0 (and_l _ _ h) in rw (ne_eqb b.mode 2 (λ q. omega arith))

  heard_block : on_bus b ≡ true → listened b ≡ with_rec b (fallen b.rec)
  unfolding listened
  heard_block h = rw (h, on_bus-awake h, or_zero_r b.gif)

  asleep-off : (b.mode is 2 && b.options has 1) ≡ true → on_bus b ≡ false
  asleep-off h = let z = eqb-true b.mode 2 (and_l _ _ h) in rw (ne_eqb b.mode 0 (λ q. omega arith))

-- ---- what a frame leaves, by where it goes

module _ (s e : List ℕ) (g : GoodImage s) (by : Bytes e) (ok : FrameAllowed (frame_of e)) where
  abbrev pub b0 : Block
  b0 = block_of s

  abbrev pub others : Words
  others = words s

  abbrev pub fx : EventFrame
  fx = frame_of e

  abbrev pub left : Delivery → Block
  left d = risen b0 (delivered (listened b0) (rtr e) d)

  abbrev pub out : Delivery → Result
  out d = record { image = put_block (stowed s fx d) (settled (left d)); refusal = 0; mailbox = named_by d; count = count_of d }

  kept : (d : Delivery) → stowed s fx d ≡ s → BoxesStayBut 32 s (out d).image
  kept d q i l o = byte-stays (stowed s fx d) (settled (left d)) i l ∙ ap (λ (y : List ℕ). get_or y i 0) q

  calm_left : (d : Delivery) → left d ≡ delivered (listened b0) (rtr e) d
  unfolding delivered listened stored
  calm_left (Into n c) = calm b0 _ refl (rec_falls b0)
  calm_left (Reply n c) = calm b0 _ refl (rec_falls b0)
  calm_left (Nowhere c) = calm b0 _ refl (rec_falls b0)

  rec-left : (d : Delivery) → on_bus b0 ≡ true → (left d).rec ≡ fallen b0.rec
  unfolding delivered stored
  rec-left (Into n c) h = ap (λ (y : Block). y.rec) (calm_left (Into n c)) ∙ ap (λ (y : Block). y.rec) (heard_block b0 h)
  rec-left (Reply n c) h = ap (λ (y : Block). y.rec) (calm_left (Reply n c)) ∙ ap (λ (y : Block). y.rec) (heard_block b0 h)
  rec-left (Nowhere c) h = ap (λ (y : Block). y.rec) (calm_left (Nowhere c)) ∙ ap (λ (y : Block). y.rec) (heard_block b0 h)

  -- where it goes, by where the search stops
  goes_at : on_bus b0 ≡ true → (k n : ℕ) → First s e k n → delivery s fx ≡ placed s (At n (count_to s e (k + 1)))
  unfolding seat_of block_of
  goes_at h k n p =
      taken s fx h (At n (count_to s e (k + 1)))
      (stops s fx k p.there (subst (λ (m : ℕ). hits s fx m ≡ true) (sym p.seated) hits-here) none
      ∙ ap₂ At p.seated (count_same s e (suc k) ∙ ap (count_to s e) (sym (add-one k))))
    where
      hits-here : hits s fx n ≡ true
      hits-here = hit s fx n (compared_same s e n ∙ p.compares) (takes_same s e n p.matches ∙ ap not p.takes)

      none : (j : ℕ) → j < k → hits_at s fx j ≡ false
      none j l = at (seat (words s) j) refl
        where
          at : (m : ℕ) → seat (words s) j ≡ m → hits s fx m ≡ false
          at m z = by_tests (is_compared s fx m) refl (matches s fx m) refl
            where
              by_tests : (t : Bool) → is_compared s fx m ≡ t → (u : Bool) → matches s fx m ≡ u → hits s fx m ≡ false
              by_tests false q u r = not-compared s fx m q
              by_tests true q false r = not_taking s fx m (not_matching s fx m r)
              by_tests true q true r =
                  let v = match_same s e m r in
                  let g = rw z at (p.before j l) in
                  not_taking s fx m (takes_same s e m v ∙ ap not (g (sym (compared_same s e m) ∙ q) v))

  stored_by : (n : ℕ) → n < 32 → on_bus b0 ≡ true → (c : ℕ) → Stored s e n (of_block others b0) (of_block others (left (Into n c))) (out (Into n c)).image
  unfolding stowed delivered stored
  stored_by n l h c =
      let x = settled (left (Into n c)) in
      let y = with_rec b0 (fallen b0.rec) in
      let q : left (Into n c) ≡ stored y n (rtr e) = calm_left (Into n c) ∙ ap (λ (z : Block). stored z n (rtr e)) (heard_block b0 h) in
      subst (λ (z : Block). Stored s e n (of_block others b0) (of_block others z) (out (Into n c)).image) (sym q)
      (record {
        word_0 = word_0 s e g by ok n l x;
        word_1 = word_1 s e g by ok n l x;
        new = new s e g by ok n l x;
        old = old s e g by ok n l x;
        elsewhere = elsewhere s e g by ok n l x;
        rml = λ m. stored-rml y n (rtr e) m;
        rmp = λ m. stored-rmp y n (rtr e) m;
        mbrif = λ m. stored-mbrif y n (rtr e) m;
        rfp = λ m. stored-rfp y n (rtr e) m;
        gif = λ i. stored-gif y n (rtr e) i;
        rest = only (RML ∷ RMP ∷ MBRIF ∷ RFP ∷ GIF ∷ REC ∷ []) others b0 _ refl;
      })

  -- what is left of the words where nothing is stored
  plain : (c : ℕ) → on_bus b0 ≡ true → Only (REC ∷ []) (of_block others b0) (of_block others (left (Nowhere c)))
  unfolding delivered
  plain c h =
      let q : left (Nowhere c) ≡ with_rec b0 (fallen b0.rec) = calm_left (Nowhere c) ∙ heard_block b0 h in
      subst (λ (z : Block). Only (REC ∷ []) (of_block others b0) (of_block others z)) (sym q) (only (REC ∷ []) others b0 (with_rec b0 (fallen b0.rec)) refl)

  nowhere : (c : ℕ) → Answers 32 c (out (Nowhere c)) × BoxesStayBut 32 s (out (Nowhere c)).image
  unfolding stowed
  nowhere c = ((refl, refl), kept (Nowhere c) refl)

  nobody-goes : on_bus b0 ≡ true → ((k n : ℕ) → First s e k n → ⊥) → delivery s fx ≡ Nowhere (count_to s e 32)
  nobody-goes h z = at (way s fx)
    where
      at : Way s fx (delivery s fx) → delivery s fx ≡ Nowhere (count_to s e 32)
      at (off_bus q d) = absurd (false≢true (sym q ∙ h))
      at (no_match c q p d) = d ∙ ap Nowhere (p.counted ∙ count_same s e 32)
      at (way_stored n c q p r d) = absurd (z p.place n (first s e n c p))
      at (way_replied n c q p r u d) = absurd (z p.place n (first s e n c p))
      at (way_ignored n c q p r u d) = absurd (z p.place n (first s e n c p))

  quiet : on_bus b0 ≡ false → wakened b0 ≡ false → Only [] (of_block others b0) (of_block others (left (Nowhere 0)))
  unfolding delivered listened
  quiet h z =
      let q : listened b0 ≡ b0 = rw (h, z, or_zero_r b0.gif) in
      λ k o. ap (λ (y : Block). of_block others y k) (calm_left (Nowhere 0) ∙ q)

  woken : wakened b0 ≡ true
      → ((left (Nowhere 0)).mode ≡ 0) × ((n : ℕ) → ((left (Nowhere 0)).gif has n) ≡ (b0.gif has n || n is 6)) × Only (MODE ∷ GIF ∷ []) (of_block others b0) (of_block others (left (Nowhere 0)))
  unfolding delivered listened
  woken z =
      let q = calm_left (Nowhere 0) in
      let h = asleep-off b0 z in (
        ap (λ (y : Block). y.mode) q ∙ rw z,
        λ n. ap (λ (y : Block). bit y.gif n) q ∙ listened-gif b0 n ∙ ap (λ (u : Bool). bit b0.gif n || u && eqb n 6) z,
        λ k o. ap (λ (y : Block). of_block others y k) q ∙ only (MODE ∷ GIF ∷ []) others b0 (listened b0) (rw h) k o,
      )

  replies : (n c : ℕ) → on_bus b0 ≡ true
      → Answers n c (out (Reply n c)) × BoxesStayBut 32 s (out (Reply n c)).image × ((m : ℕ) → ((left (Reply n c)).trs has m) ≡ (b0.trs has m || m is n)) × Only (TRS ∷ REC ∷ []) (of_block others b0) (of_block others (left (Reply n c)))
  unfolding stowed delivered
  replies n c h =
      let y = with_rec b0 (fallen b0.rec) in
      let q : left (Reply n c) ≡ replied y n = calm_left (Reply n c) ∙ ap (λ (z : Block). replied z n) (heard_block b0 h) in (
        (refl, refl),
        kept (Reply n c) refl,
        λ m. ap (λ (z : Block). bit z.trs m) q ∙ replied-trs y n (rtr e) m,
        λ k o. ap (λ (z : Block). of_block others z k) q ∙ only (TRS ∷ REC ∷ []) others b0 (replied y n) refl k o,
      )

  abbrev goes : Delivery
  goes = delivery s fx

  heard : on_bus b0 ≡ true → Heard s e (of_block others b0) (of_block others (left goes)) (out goes)
  unfolding block_of words_of
  heard h =
      record {
        rec_falls = λ l. rec-left goes h ∙ rw (le-ltb 127 b0.rec l);
        rec_127 = λ l. rec-left goes h ∙ rw (lt-ltb 127 b0.rec l);
        nobody =
            λ z.
            let c = count_to s e 32 in
            subst (λ (d : Delivery). Answers 32 c (out d) × BoxesStayBut 32 s (out d).image × Only (REC ∷ []) (of_block others b0) (of_block others (left d)))
            (sym (nobody-goes h z)) ((nowhere c).0, (nowhere c).1, plain c h);
        stored =
            λ k n p m.
            let c = count_to s e (k + 1) in
            subst (λ (d : Delivery). Answers n c (out d) × Stored s e n (of_block others b0) (of_block others (left d)) (out d).image)
            (sym (goes_at h k n p ∙ stored_at s n c m)) ((refl, refl), stored_by n (first-there s e k n p) h c);
        replied =
            λ k n p m r.
            let c = count_to s e (k + 1) in
            subst
            (λ (d : Delivery). Answers n c (out d) × BoxesStayBut 32 s (out d).image × ((m : ℕ) → ((left d).trs has m) ≡ (b0.trs has m || m is n)) × Only (TRS ∷ REC ∷ []) (of_block others b0) (of_block others (left d)))
            (sym (goes_at h k n p ∙ replied-at s n c m r)) (replies n c h);
        ignored =
            λ k n p m r.
            let c = count_to s e (k + 1) in
            subst (λ (d : Delivery). Answers 32 c (out d) × BoxesStayBut 32 s (out d).image × Only (REC ∷ []) (of_block others b0) (of_block others (left d)))
            (sym (goes_at h k n p ∙ ignored-at s n c m r)) ((nowhere c).0, (nowhere c).1, plain c h);
      }

  pub frame : Frame s e (of_block others b0) (of_block others (left goes)) (out goes)
  unfolding block_of words_of
  frame =
      record {
        heard = heard;
        unheard = λ h. subst (λ (d : Delivery). Answers 32 0 (out d) × BoxesStayBut 32 s (out d).image) (sym (unheard s fx h)) (nowhere 0);
        stays = λ h z. subst (λ (d : Delivery). Only [] (of_block others b0) (of_block others (left d))) (sym (unheard s fx h)) (quiet h z);
        wakes =
            λ z.
            subst
            (λ (d : Delivery). ((left d).mode ≡ 0) × ((n : ℕ) → ((left d).gif has n) ≡ (b0.gif has n || n is 6)) × Only (MODE ∷ GIF ∷ []) (of_block others b0) (of_block others (left d)))
            (sym (unheard s fx (asleep-off b0 z))) (woken z);
      }
