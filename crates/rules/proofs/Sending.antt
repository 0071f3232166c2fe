-- The step meets the rules of sending, errors and modes.
use Rattle.std.proofs.lemmas.Bool.{or_parts}
use Prim.Native.Nat.{ℕ, zero, suc, ◌+◌, ◌%◌, ◌<◌, ◌≤◌}
use mathlib.Core.Path.{◌≡◌, refl, sym, ◌∙◌, ap}
use mathlib.Core.Bool.{Bool, true, false, cond, not, ◌&&◌, ◌||◌, or-false, false≢true}
use mathlib.Core.List.{[], ◌∷◌}
use mathlib.Core.Logic.{◌≢◌}
use native.Mathlib.Omega.{arith}
use native.Mathlib.Nat.{add-zero}
use lib.Dec.{eqb}
use lib.ListN.{get_or, replicate}
use lib.Bits.{or_zero_r}
use borrow.Author.Tests.{eqb-true, eq-eqb, ne_eqb, le-ltb, ltb-false}
use Rattle.bits.specs.Bit.{bit}
use Rattle.bits.proofs.Laws.{bit-zero, same_bits}
use Rattle.registers.specs.declared.Block.{Block}
use Rattle.registers.specs.Block.{with_gif, with_tsc, with_tec, with_rec, with_recovery, of_words}
use Rattle.fresh.specs.Fresh.{fresh_block}
use Rattle.registers.specs.Status.{bus_off, passive, asleep}
use Rattle.registers.specs.Modes.{ticked, overflows, recessive, worsened, asked, optioned, risen, ready, entered, settled}
use Rattle.registers.specs.Writes.{slot_mask}
use Rattle.registers.specs.Sending.{sent, failed, aborting, added, concluded}
use Rattle.registers.proofs.Flags.{slot-bit, sent-trs, sent-ta, sent-trr, sent-mbtif, aborting-bit, failed-trs, failed-aa, failed-trr, failed-gif, entered-gif, risen-gif, ticked-gif}
use Rattle.model.proofs.Meets.{calm}
use Rattle.rules.specs.Words.{Words, ◌is◌, at_most, Only, MD, TRS, TRR, TA, AA, MBTIF, GIF, TSC, TEC, REC, MODE, WAITING, SLOT, RECOVERY, OPTIONS, TSO, PROTECTION, PROFILE, empty_slot}
use Rattle.rules.specs.Sending.{Gif, nothing, Tick, Recessive, Sent, Unsent, unacknowledged_tec, ReceiveError, Mode, Ending}
use Rattle.rules.specs.Fresh.{FreshWords}
use Rattle.rules.proofs.Blocks.{of_block, word_cases, of_low, of_other, only, still}

-- GIF of a block that an event leaves
pub gif-rises : (m : Words) (a b : Block) (up : ℕ → Bool) → ((n : ℕ) → bit b.gif n ≡ (bit a.gif n || up n)) → Gif up (of_block m a) (of_block m (risen a b))
unfolding risen
gif-rises m a b up h n = rw (h n) at (risen-gif b n a)

-- a tick
module _ (m : Words) (b : Block) (small : b.tsc < 65536) where
  no_overflow : overflows b ≡ false → (t : ℕ) → cond (asleep b) b.tsc ((b.tsc + 1) % 65536) ≡ t → risen b (ticked b) ≡ with_tsc b t
  unfolding ticked
  no_overflow h t e = calm b (ticked b) refl (omega arith) ∙ rw (h, e, or_zero_r b.gif)

  pub tick : Tick (of_block m b) (of_block m (risen b (ticked b)))
  unfolding ticked risen
  tick =
      record {
        asleep =
            λ z.
            let a = eq-eqb b.mode 2 z in
            still [] m b _ (no_overflow (rw a) b.tsc (rw a));
        adds =
            λ z l.
            let a = ne_eqb b.mode 2 z in
            let n = ne_eqb b.tsc 65535 (λ q. omega arith) in
            let e = no_overflow (rw (a, n)) (b.tsc + 1) (rw a (omega arith)) in
            (ap (λ (x : Block). x.tsc) e, λ k h. ap (λ (x : Block). of_block m x k) e ∙ only (TSC ∷ []) m b (with_tsc b (b.tsc + 1)) refl k h);
        overflows =
            λ z e.
            let a = ne_eqb b.mode 2 z in
            let o : overflows b ≡ true = rw (a, eq-eqb b.tsc 65535 e) in
            (rw (a, e), rw o, gif-rises m b (ticked b) (λ n. n is 3) (λ n. ticked-gif b n ∙ ap (λ (u : Bool). bit b.gif n || u && eqb n 3) o), only (TSC ∷ TSO ∷ GIF ∷ []) m b _ refl);
      }

-- counters that are 0 raise no flag
fell : (a x : Block) → x.tec ≡ 0 → x.rec ≡ 0 → risen a x ≡ x
unfolding risen
fell a x p q =
    let none : (risen a x).gif ≡ x.gif = rw (p, q) (or_zero_r _ ∙ or_zero_r _ ∙ or_zero_r _) in
    ap (λ (v : ℕ). with_gif x v) none

pub zeros : (n k : ℕ) → ◌≡◌ {A = ℕ} (get_or (replicate n 0) k 0) 0
zeros zero k = refl
zeros (suc n) zero = refl
zeros (suc n) (suc k) = zeros n k

-- eleven recessive bits, a receive error, a mode request, options, reset
module _ (m : Words) (b : Block) where
  not-off : bus_off b ≡ false → risen b (recessive b) ≡ b
  unfolding recessive
  not-off h = calm b (recessive b) (rw h) (rw h (omega arith)) ∙ rw h

  counting : bus_off b ≡ true → b.recovery < 127 → risen b (recessive b) ≡ with_recovery b (b.recovery + 1)
  unfolding recessive
  counting h l =
      let n = ne_eqb b.recovery 127 (λ q. omega arith) in
      let m : (b.recovery + 1) % 128 ≡ b.recovery + 1 = omega arith in
      calm b (recessive b) (rw (h, n)) (rw (h, n) (omega arith)) ∙ rw (h, n, m)

  ended : bus_off b ≡ true → b.recovery ≡ 127 → risen b (recessive b) ≡ with_recovery (with_rec (with_tec b 0) 0) 0
  unfolding recessive
  ended h e = fell b (recessive b) (rw (h, e)) (rw (h, e)) ∙ rw (h, e)

  pub recessive_bits : Recessive (of_block m b) (of_block m (risen b (recessive b)))
  recessive_bits =
      record {
        elsewhere = λ h. still [] m b _ (not-off h);
        counts =
            λ h l.
            let e = counting h l in
            (ap (λ (x : Block). x.recovery) e, λ k z. ap (λ (x : Block). of_block m x k) e ∙ only (RECOVERY ∷ []) m b (with_recovery b (b.recovery + 1)) refl k z);
        last =
            λ h l.
            let e = ended h l in
            (ap (λ (x : Block). x.tec) e, ap (λ (x : Block). x.rec) e, ap (λ (x : Block). x.recovery) e, λ k z. ap (λ (x : Block). of_block m x k) e ∙ only (TEC ∷ REC ∷ RECOVERY ∷ []) m b (with_recovery (with_rec (with_tec b 0) 0) 0) refl k z);
      }

  pub receive_error : (v : ℕ) → ReceiveError v (of_block m b) (of_block m (risen b (worsened b v)))
  unfolding worsened risen
  receive_error v =
      record {
        rec = refl;
        gif = gif-rises m b (worsened b v) nothing (λ n. sym (or-false (bit b.gif n)));
        rest = only (REC ∷ GIF ∷ []) m b _ refl;
      }

  pub mode-asked : (v : ℕ) → Mode v (of_block m b) (of_block m (risen b (asked b v)))
  unfolding asked
  mode-asked v =
      let e = calm b (asked b v) refl (omega arith) in
      record {
        waiting = ap (λ (x : Block). x.waiting) e;
        rest = λ k z. ap (λ (x : Block). of_block m x k) e ∙ only (WAITING ∷ []) m b (asked b v) refl k z;
      }

  pub options-taken : (v : ℕ) → ((risen b (optioned b v)).options ≡ v) × Only (OPTIONS ∷ []) (of_block m b) (of_block m (risen b (optioned b v)))
  options-taken v =
      let e = calm b (optioned b v) refl (omega arith) in (
        ap (λ (x : Block). x.options) e,
        λ k z. ap (λ (x : Block). of_block m x k) e ∙ only (OPTIONS ∷ []) m b (optioned b v) refl k z,
      )

-- the words of a fresh block where every other word is 0
pub fresh-rule : (m : Words) → ((k : ℕ) → 28 ≤ k → k ≢ PROTECTION → k ≢ PROFILE → m k ≡ 0) → (p : ℕ) (b : Block)
    → FreshWords p (of_block m (risen b (fresh_block p)))
unfolding risen fresh_block
fresh-rule m none p b =
    record {
      md = refl;
      mode = refl;
      waiting = refl;
      slot = refl;
      profile = refl;
      rest =
          λ k z.
          only (MD ∷ MODE ∷ WAITING ∷ SLOT ∷ PROFILE ∷ []) m (of_words []) (risen b (fresh_block p)) refl k z
          ∙ word_cases (λ k. of_block m (of_words []) k ≡ 0) (λ k h. of_low m (of_words []) k h ∙ zeros 30 k) refl refl
          (λ k h p q. of_other m (of_words []) k h p q ∙ none k h p q) k;
    }

-- an outcome
without_both : (t e : Bool) → (t && not (e && t)) ≡ (t && not e)
without_both true true = refl
without_both true false = refl
without_both false e = refl

module _ (m : Words) (b : Block) (full : b.slot ≢ empty_slot) (low : b.tec ≤ 256) where
  at_slot : (n : ℕ) → bit (slot_mask b) n ≡ eqb n b.slot
  at_slot n = slot-bit b n ∙ rw (ne_eqb b.slot empty_slot full)

  aborts : (n : ℕ) → bit (aborting b) n ≡ (eqb n b.slot && bit b.trr n)
  aborts n = aborting-bit b n ∙ ap (λ (x : Bool). x && bit b.trr n) (at_slot n)

  aborts_any : not (eqb (aborting b) 0) ≡ bit b.trr b.slot
  aborts_any = at (bit b.trr b.slot) refl
    where
      here : bit (aborting b) b.slot ≡ bit b.trr b.slot
      here = aborts b.slot ∙ rw (eq-eqb b.slot b.slot refl)

      at : (t : Bool) → bit b.trr b.slot ≡ t → not (eqb (aborting b) 0) ≡ t
      at true h = rw (ne_eqb (aborting b) 0 (λ z. false≢true (sym (bit-zero b.slot) ∙ ap (λ (x : ℕ). bit x b.slot) (sym z) ∙ here ∙ h)))
      at false h =
          let none : (n : ℕ) → bit (aborting b) n ≡ bit 0 n = λ n. aborts n ∙ there n (eqb n b.slot) refl ∙ sym (bit-zero n) in
          rw (eq-eqb (aborting b) 0 (same_bits (aborting b) 0 none))
        where
          there : (n : ℕ) (u : Bool) → eqb n b.slot ≡ u → (u && bit b.trr n) ≡ false
          there n true e = ap (bit b.trr) (eqb-true n b.slot e) ∙ h
          there n false e = refl

  pub sending : Sent (of_block m b) (of_block m (risen b (sent b)))
  unfolding sent risen
  sending =
      record {
        slot = refl;
        trs = λ n. sent-trs b n ∙ ap (λ (x : Bool). bit b.trs n && not x) (at_slot n);
        trr = λ n. sent-trr b n ∙ ap (λ (x : Bool). bit b.trr n && not x) (at_slot n);
        ta = λ n. sent-ta b n ∙ ap (λ (x : Bool). bit b.ta n || x) (at_slot n);
        mbtif = λ n. sent-mbtif b n ∙ ap (λ (x : Bool). bit b.mbtif n || bit b.mbim n && x) (at_slot n);
        tec = refl;
        gif = gif-rises m b (sent b) nothing (λ n. sym (or-false (bit b.gif n)));
        rest = only (SLOT ∷ TRS ∷ TRR ∷ TA ∷ MBTIF ∷ TEC ∷ GIF ∷ []) m b _ refl;
      }

  failing : (more t : ℕ) → at_most 256 (b.tec + more) ≡ t → Unsent t (of_block m b) (of_block m (risen b (failed b more)))
  unfolding failed risen
  failing more t e =
      record {
        slot = refl;
        trs = λ n. failed-trs b n more ∙ ap (λ (x : Bool). bit b.trs n && not x) (aborts n);
        trr =
            λ n.
            failed-trr b n more
            ∙ ap (λ (x : Bool). bit b.trr n && not x) (aborts n)
            ∙ without_both (bit b.trr n) (eqb n b.slot);
        aa = λ n. failed-aa b n more ∙ ap (λ (x : Bool). bit b.aa n || x) (aborts n);
        tec = e;
        gif =
            gif-rises m b (failed b more) (λ n. bit b.trr b.slot && eqb n 4)
            (λ n. failed-gif b n more ∙ ap (λ (x : Bool). bit b.gif n || x && eqb n 4) aborts_any);
        rest = only (SLOT ∷ TRS ∷ TRR ∷ AA ∷ TEC ∷ GIF ∷ []) m b _ refl;
      }

  -- TEC where nothing is added, and where 8 are
  stays : at_most 256 (b.tec + 0) ≡ b.tec
  stays = rw (add-zero b.tec, le-ltb 256 b.tec low)

  pub losing : Unsent b.tec (of_block m b) (of_block m (risen b (concluded b 1)))
  losing = failing 0 b.tec stays

  pub erring : Unsent (at_most 256 (b.tec + 8)) (of_block m b) (of_block m (risen b (concluded b 2)))
  erring = failing 8 (at_most 256 (b.tec + 8)) refl

  pub unacknowledged : Unsent (unacknowledged_tec (of_block m b)) (of_block m b) (of_block m (risen b (concluded b 3)))
  unacknowledged = failing (added b 3) _ (at (passive b) refl)
    where
      at : (t : Bool) → passive b ≡ t → at_most 256 (b.tec + added b 3) ≡ unacknowledged_tec (of_block m b)
      at true e = rw e stays
      at false e = rw (e, le-ltb 256 (b.tec + 8) (omega (arith, ltb-false 127 b.tec (or_parts _ _ e).0)))

-- the end of a step
pub ending : (m : Words) (b : Block) → Ending (of_block m b) (of_block m (settled b))
unfolding settled entered
ending m b = at (ready b) refl
  where
    at : (t : Bool) → ready b ≡ t → Ending (of_block m b) (of_block m (cond t (entered b) b))
    at false e =
        record {
          none = λ z k h. refl;
          mode = λ z. absurd (false≢true (sym e ∙ z));
          asleep = λ z. absurd (false≢true (sym e ∙ z));
          awake = λ z. absurd (false≢true (sym e ∙ z));
          wakes = λ z. absurd (false≢true (sym e ∙ z));
        }
    at true e =
        record {
          none = λ z. absurd (false≢true (sym z ∙ e));
          mode = λ z. (refl, refl);
          asleep = λ z q. let f = eq-eqb b.waiting 2 q in (rw f, rw f, rw f, rw f, only (MODE ∷ WAITING ∷ GIF ∷ TEC ∷ REC ∷ TRS ∷ TRR ∷ []) m b (entered b) refl);
          awake = λ z q. only (MODE ∷ WAITING ∷ GIF ∷ []) m b (entered b) (rw (ne_eqb b.waiting 2 q));
          wakes = λ z n. entered-gif b n;
        }
