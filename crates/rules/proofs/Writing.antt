-- The step meets the rules of writing.
use Prim.Native.Nat.{ℕ, ◌+◌, ◌-◌, ◌*◌, ◌^◌, ◌<◌, ◌≤◌}
use mathlib.Core.Path.{◌≡◌, refl, sym, ◌∙◌, ap, subst}
use mathlib.Core.Bool.{Bool, true, false, cond, not, ◌&&◌, ◌||◌, and-false, or-false, false≢true}
use mathlib.Core.List.{List, [], ◌∷◌}
use mathlib.Core.Logic.{inl, inr, ◌≢◌}
use native.Mathlib.Decide.{dec_lt}
use native.Mathlib.Omega.{arith}
use lib.Dec.{eqb, leb, lit<}
use lib.ListN.{length}
use lib.Bits.{bit_and}
use borrow.Author.Tests.{eqb-true, eqb-false, ne_eqb, leb-true, leb-false, le-leb}
use Rattle.bits.specs.Bit.{bit}
use Rattle.bits.proofs.Laws.{bit_high, bit-without}
use Rattle.bits.proofs.Sets.{within_le, and-within_r, without_lt, and_l, and_r}
use Rattle.words.specs.Word.{word_at, put_word}
use Rattle.words.proofs.Laws.{word_same, word-other}
use Rattle.registers.specs.declared.Block.{Block}
use Rattle.registers.specs.Writes.{slot_mask, ending, cancelled, released, noted, requested, written}
use Rattle.registers.specs.Modes.{risen}
use Rattle.registers.proofs.Flags.{requested-trs, released-rmp, released-rml, released-rfp, directed-md, ending-bit, late-bit, cancelled-trs, cancelled-trr, cancelled-aa, cancelled-gif, noted-gif, slot-bit}
use Rattle.events.specs.Decode.{is_mask}
use Rattle.keeps.proofs.Writes.{written_leaves}
use Rattle.model.specs.Step.{masked}
use Rattle.model.proofs.Meets.{calm}
use Rattle.rules.specs.Words.{Words, words, ◌has◌, ◌is◌, among, any, Only, MC, MD, TRS, TRR, TA, AA, RMP, RML, LAM, GAM, RFP, CDR, MBTIF, MBRIF, MBIM, GIF, GIM, BCR1, BCR2, TSC, SLOT, TSO, PROTECTION, only_receives, empty_slot, added, place}
use Rattle.rules.specs.Writing.{ends, Write}
use Rattle.rules.proofs.Any.{any_word}
use Rattle.rules.proofs.Blocks.{of_block, word_cases, of_low, of_other, only, All, among-all}

module _ (m : Words) (b : Block) (v : ℕ) (fits : b.trs < 2 ^ 32) where
  abbrev after : ℕ → Words
  after t = of_block m (written b t v)

  abbrev Takes : ℕ → Type 0
  Takes t = (after t (place t) ≡ v) × Only (place t ∷ []) (of_block m b) (after t)

  abbrev Clears : ℕ → Type 0
  Clears t =
      ((n : ℕ) → (after t t has n) ≡ (of_block m b t has n && not (v has n))) × (after t TSO ≡ cond (t is GIF && v has 3) 0 b.tso) × Only (t ∷ TSO ∷ []) (of_block m b) (after t)

  -- the slot's mailbox: an empty slot is 32, where no request is
  at_slot : (f : Bool → Bool) (n : ℕ) → (bit v n && bit b.trs n && f (bit (slot_mask b) n)) ≡ (bit v n && bit b.trs n && f (eqb n b.slot))
  at_slot f n = at (bit b.trs n) refl (eqb b.slot empty_slot) refl
    where
      at : (t : Bool) → bit b.trs n ≡ t → (u : Bool) → eqb b.slot empty_slot ≡ u
          → (bit v n && bit b.trs n && f (bit (slot_mask b) n)) ≡ (bit v n && bit b.trs n && f (eqb n b.slot))
      at false e u q = rw (e, and-false (bit v n))
      at true e false q = ap (λ (x : Bool). bit v n && bit b.trs n && f x) (slot-bit b n ∙ rw q)
      at true e true q =
          let z : eqb n b.slot ≡ false =
          ne_eqb n b.slot (λ r. false≢true (sym (bit_high n 32 b.trs fits (omega (arith, eqb-true b.slot empty_slot q))) ∙ e)) in
          ap (λ (x : Bool). bit v n && bit b.trs n && f x) (slot-bit b n ∙ rw (q, z))

  ends-bit : (n : ℕ) → bit (ending b v) n ≡ ends (of_block m b) v n
  ends-bit n = ending-bit b v n ∙ at_slot not n

  some : not (eqb (ending b v) 0) ≡ any (ends (of_block m b) v)
  some =
      let l : bit_and v b.trs < 2 ^ 32 = omega (arith, within_le (and-within_r v b.trs), fits) in
      any_word (ending b v) (ends (of_block m b) v) (without_lt (slot_mask b) l) ends-bit

  -- a statement of what is left, at a register by its number
  by : (c : ℕ) (P : Words → Type 0) → P (after c) → (t : ℕ) → t ≡ c → P (after t)
  by c P h t e = subst (λ (u : ℕ). P (after u)) (sym e) h

  abbrev was : Words
  was = of_block m b

  -- the added register that is no mask: the protection word
  protects : (t : ℕ) → is_mask t ≡ false → added t ≡ true → Takes t
  unfolding written
  protects t n a =
      let h = leb-true 64 t (and_l (leb 64 t) (leb t 96) a) in
      let l = leb-true t 96 (and_r (leb 64 t) (leb t 96) a) in
      let k = leb-false t 95 (rw (le-leb 64 t h) at n) in
      let e : t ≡ 96 = omega arith in
      subst Takes (sym e) (refl, only (PROTECTION ∷ []) m b _ refl)

  either_of : (p q : Bool) (A : Type 0) → (p ≡ true → A) → (q ≡ true → A) → (p || q) ≡ true → A
  either_of true q A f g h = f refl
  either_of false q A f g h = g h

  pub write : (t : ℕ) → is_mask t ≡ false → Write t v (of_block m b) (after t)
  unfolding written requested cancelled released noted
  write t unmasked =
      record {
        takes =
            either_of _ (added t) (Takes t)
            (among-all Takes (MC ∷ LAM ∷ GAM ∷ CDR ∷ MBIM ∷ GIM ∷ BCR1 ∷ BCR2 ∷ TSC ∷ [])
            ((refl, only (MC ∷ []) m b _ refl), ((refl, only (LAM ∷ []) m b _ refl), ((refl, only (GAM ∷ []) m b _ refl), ((refl, only (CDR ∷ []) m b _ refl), ((refl, only (MBIM ∷ []) m b _ refl), ((refl, only (GIM ∷ []) m b _ refl), ((refl, only (BCR1 ∷ []) m b _ refl), ((refl, only (BCR2 ∷ []) m b _ refl), ((refl, only (TSC ∷ []) m b _ refl), tt))))))))) t) (protects t unmasked);
        md = by MD (λ now. ((n : ℕ) → (now MD has n) ≡ (v has n || only_receives was n)) × Only (MD ∷ []) was now) (directed-md b v, only (MD ∷ []) m b _ refl) t;
        trs =
            by TRS (λ now. ((n : ℕ) → (now TRS has n) ≡ (was TRS has n || v has n && not (was MD has n))) × Only (TRS ∷ []) was now)
            (requested-trs b v, only (TRS ∷ []) m b _ refl) t;
        clears =
            among-all Clears (TA ∷ AA ∷ MBTIF ∷ MBRIF ∷ GIF ∷ [])
            ((bit-without b.ta v, refl, only (TA ∷ TSO ∷ []) m b _ refl), ((bit-without b.aa v, refl, only (AA ∷ TSO ∷ []) m b _ refl), ((bit-without b.mbtif v, refl, only (MBTIF ∷ TSO ∷ []) m b _ refl), ((bit-without b.mbrif v, refl, only (MBRIF ∷ TSO ∷ []) m b _ refl), ((noted-gif b v, refl, only (GIF ∷ TSO ∷ []) m b _ refl), tt))))) t;
        rmp =
            by RMP
            (λ now. ((k n : ℕ) → among k (RMP ∷ RML ∷ RFP ∷ []) ≡ true → (now k has n) ≡ (was k has n && not (v has n))) × Only (RMP ∷ RML ∷ RFP ∷ []) was now) (
              λ k n.
                  among-all (λ k. (of_block m (released b v) k has n) ≡ (was k has n && not (v has n))) (RMP ∷ RML ∷ RFP ∷ [])
                  (released-rmp b v n, (released-rml b v n, (released-rfp b v n, tt))) k,
              only (RMP ∷ RML ∷ RFP ∷ []) m b _ refl,
            ) t;
        trr =
            by TRR (λ now. (n : ℕ) → (now TRR has n) ≡ (was TRR has n || v has n && was TRS has n && n is was SLOT))
            (λ n. cancelled-trr b v n ∙ ap (λ (x : Bool). bit b.trr n || x) (late-bit b v n ∙ at_slot (λ x. x) n)) t;
        trr_trs =
            by TRR (λ now. (n : ℕ) → (now TRS has n) ≡ (was TRS has n && not (ends was v n)))
            (λ n. cancelled-trs b v n ∙ ap (λ (x : Bool). bit b.trs n && not x) (ends-bit n)) t;
        trr_aa =
            by TRR (λ now. (n : ℕ) → (now AA has n) ≡ (was AA has n || ends was v n))
            (λ n. cancelled-aa b v n ∙ ap (λ (x : Bool). bit b.aa n || x) (ends-bit n)) t;
        trr_gif =
            by TRR (λ now. (i : ℕ) → (now GIF has i) ≡ (was GIF has i || any (ends was v) && i is 4))
            (λ i. cancelled-gif b v i ∙ ap (λ (x : Bool). bit b.gif i || x && eqb i 4) some) t;
        trr_rest = by TRR (λ now. Only (TRS ∷ TRR ∷ AA ∷ GIF ∷ []) was now) (only (TRS ∷ TRR ∷ AA ∷ GIF ∷ []) m b _ refl) t;
      }

  -- no flag of the counters rises
  written-tec : (t : ℕ) → (written b t v).tec ≡ b.tec
  unfolding requested cancelled released noted
  written-tec = written_leaves (λ x. x.tec) b v refl refl

  written-rec : (t : ℕ) → (written b t v).rec ≡ b.rec
  unfolding requested cancelled released noted
  written-rec = written_leaves (λ x. x.rec) b v refl refl

  pub write_step : (t : ℕ) → is_mask t ≡ false → Write t v (of_block m b) (of_block m (risen b (written b t v)))
  write_step t n =
      subst (λ (x : Block). Write t v (of_block m b) (of_block m x))
      (sym (calm b (written b t v) (written-tec t) (omega (arith, written-rec t)))) (write t n)

-- ---- a mask: a word beside the block, which stays

module _ (s : List ℕ) (size : length s ≡ 776) (b : Block) (t v : ℕ) (mask : is_mask t ≡ true) (small : v < 2 ^ 32) where
  least : 64 ≤ t
  least = leb-true 64 t (and_l (leb 64 t) (leb t 95) mask)

  most : t ≤ 95
  most = leb-true t 95 (and_r (leb 64 t) (leb t 95) mask)

  here : place t ≡ t - 32
  here = rw (le-leb 64 t least)

  same_place : 512 + 4 * place t ≡ 640 + 4 * (t - 64)
  same_place = rw here (omega (arith, least))

  taken : words (masked s t v) (place t) ≡ v
  unfolding masked
  taken = rw (mask, same_place) (word_same s (640 + 4 * (t - 64)) v (omega (arith, size, most)) small)

  stays : (k : ℕ) → k ≢ place t → words (masked s t v) k ≡ words s k
  unfolding masked
  stays k d = rw mask (at (dec_lt k (t - 32)))
    where
      at : Dec (k < t - 32) → word_at (put_word s (640 + 4 * (t - 64)) v) (512 + 4 * k) ≡ words s k
      at (yes l) = word-other s (640 + 4 * (t - 64)) v (512 + 4 * k) (inl (omega (arith, least)))
      at (no l) = word-other s (640 + 4 * (t - 64)) v (512 + 4 * k) (inr (omega (arith, least, here)))

  -- no register of the block has this number
  none : {A : Type 0} (l : List ℕ) → All (λ k. k < 64) l → among t l ≡ true → A
  none l h e = absurd (omega (arith, least, among-all (λ k. k < 64) l h t e))

  not-here : {A : Type 0} (k : ℕ) → k < 64 → t ≡ k → A
  not-here k h e = absurd (omega (arith, least))

  pub mask-write : Write t v (of_block (words s) b) (of_block (words (masked s t v)) b)
  mask-write =
      record {
        takes = λ h. (
          of_other (words (masked s t v)) b (place t) (omega (arith, here, least)) (λ q. omega (arith, here, most)) (λ q. omega (arith, here, most)) ∙ taken,
          λ k h. word_cases (λ k. among k (place t ∷ []) ≡ false → of_block (words (masked s t v)) b k ≡ of_block (words s) b k)
              (λ k l d. of_low (words (masked s t v)) b k l ∙ sym (of_low (words s) b k l))
              (λ d. refl)
              (λ d. refl)
              (λ k l p q d.
              of_other (words (masked s t v)) b k l p q
              ∙ stays k (eqb-false k (place t) (sym (or-false (eqb k (place t))) ∙ d))
              ∙ sym (of_other (words s) b k l p q)) k h,
        );
        md = not-here MD (lit< tt);
        trs = not-here TRS (lit< tt);
        clears = none (TA ∷ AA ∷ MBTIF ∷ MBRIF ∷ GIF ∷ []) (lit< tt, (lit< tt, (lit< tt, (lit< tt, (lit< tt, tt)))));
        rmp = not-here RMP (lit< tt);
        trr = not-here TRR (lit< tt);
        trr_trs = not-here TRR (lit< tt);
        trr_aa = not-here TRR (lit< tt);
        trr_gif = not-here TRR (lit< tt);
        trr_rest = not-here TRR (lit< tt);
      }
