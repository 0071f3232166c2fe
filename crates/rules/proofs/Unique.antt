-- The rulebook leaves nothing open: two outcomes that meet it coincide.
use Prim.Native.Nat.{ℕ, ◌<◌, ◌≤◌}
use mathlib.Core.Path.{◌≡◌, refl, sym, ◌∙◌}
use mathlib.Core.Bool.{Bool, true, false, not, ◌&&◌, ◌||◌, or-true, or-false}
use mathlib.Core.List.{List, [], ◌∷◌}
use mathlib.Core.Logic.{◌≢◌}
use native.Mathlib.Decide.{ℕ_discrete, dec_lt}
use native.Mathlib.Omega.{arith}
use lib.Dec.{leb}
use borrow.Author.Tests.{leb-true, eqb-false, ne_eqb, not-true}
use Rattle.bits.specs.Below.{all_below}
use Rattle.bits.proofs.Laws.{same_bits}
use Rattle.bits.proofs.Below.{each_below}
use Rattle.bits.proofs.Sets.{and_l, and_r}
use Rattle.events.specs.Decode.{writable}
use Rattle.rules.specs.Words.{Words, ◌has◌, ◌is◌, among, Only, MC, LAM, GAM, CDR, MBIM, GIM, BCR1, BCR2, MBRIF, RMP, RML, RFP, MD, TRS, TRR, TA, AA, MBTIF, GIF, TSC, TEC, REC, MODE, WAITING, SLOT, RECOVERY, TSO, PROFILE, added, place}
use Rattle.rules.specs.Image.{bus_off}
use Rattle.rules.specs.Writing.{Write}
use Rattle.rules.specs.Sending.{Gif, nothing, Tick, Recessive, Sent, Unsent, ReceiveError, Mode, Ending, taken}
use Rattle.rules.specs.Fresh.{FreshWords}
use Rattle.rules.proofs.Blocks.{All, among-all, every-word}

abbrev pub Agree : Words → Words → Type 0
Agree a b = (k : ℕ) → a k ≡ b k

module _ (was a b : Words) where
  pub flags : (k : ℕ) (f : ℕ → Bool) → ((n : ℕ) → (a k has n) ≡ f n) → ((n : ℕ) → (b k has n) ≡ f n) → a k ≡ b k
  flags k f p q = same_bits (a k) (b k) (λ n. p n ∙ sym (q n))

  pub by_only : (l : List ℕ) → Only l was a → Only l was b → All (λ k. a k ≡ b k) l → Agree a b
  by_only l p q h = every-word (λ k. a k ≡ b k) l h (λ k o. p k o ∙ sym (q k o))

  gif-same : (up : ℕ → Bool) → a TEC ≡ b TEC → a REC ≡ b REC → Gif up was a → Gif up was b → a GIF ≡ b GIF
  gif-same up t r p q = same_bits (a GIF) (b GIF) (λ n. p n ∙ rw (t, r) (sym (q n)))

  pub tick-one : was TSC < 65536 → Tick was a → Tick was b → Agree a b
  tick-one small p q = at (ℕ_discrete (was MODE) 2) (dec_lt (was TSC) 65535)
    where
      at : Dec (was MODE ≡ 2) → Dec (was TSC < 65535) → Agree a b
      at (yes z) d = by_only [] (p.asleep z) (q.asleep z) tt
      at (no z) (yes l) =
          by_only (TSC ∷ []) (p.adds z l).1 (q.adds z l).1 ((p.adds z l).0 ∙ sym (q.adds z l).0, tt)
      at (no z) (no l) =
          let e : was TSC ≡ 65535 = omega arith in
          let x = p.overflows z e in
          let y = q.overflows z e in
          by_only (TSC ∷ TSO ∷ GIF ∷ []) x.3 y.3
          (x.0 ∙ sym y.0, (x.1 ∙ sym y.1, (gif-same (λ n. n is 3) (x.3 TEC refl ∙ sym (y.3 TEC refl)) (x.3 REC refl ∙ sym (y.3 REC refl)) x.2 y.2, tt)))

  pub sent-one : Sent was a → Sent was b → Agree a b
  sent-one p q =
      let t = p.tec ∙ sym q.tec in
      by_only (SLOT ∷ TRS ∷ TRR ∷ TA ∷ MBTIF ∷ TEC ∷ GIF ∷ []) p.rest q.rest
      (p.slot ∙ sym q.slot, (flags TRS _ p.trs q.trs, (flags TRR _ p.trr q.trr, (flags TA _ p.ta q.ta, (flags MBTIF _ p.mbtif q.mbtif, (t, (gif-same nothing t (p.rest REC refl ∙ sym (q.rest REC refl)) p.gif q.gif, tt)))))))

  pub unsent_one : (t : ℕ) → Unsent t was a → Unsent t was b → Agree a b
  unsent_one k p q =
      let t = p.tec ∙ sym q.tec in
      by_only (SLOT ∷ TRS ∷ TRR ∷ AA ∷ TEC ∷ GIF ∷ []) p.rest q.rest
      (p.slot ∙ sym q.slot, (flags TRS _ p.trs q.trs, (flags TRR _ p.trr q.trr, (flags AA _ p.aa q.aa, (t, (gif-same _ t (p.rest REC refl ∙ sym (q.rest REC refl)) p.gif q.gif, tt))))))

  pub ending-one : Ending was a → Ending was b → Agree a b
  ending-one p q = at (taken was) refl (ℕ_discrete (was WAITING) 2)
    where
      at : (t : Bool) → taken was ≡ t → Dec (was WAITING ≡ 2) → Agree a b
      at false e d = by_only [] (p.none e) (q.none e) tt
      at true e (yes z) =
          let x = p.asleep e z in
          let y = q.asleep e z in
          by_only (MODE ∷ WAITING ∷ GIF ∷ TEC ∷ REC ∷ TRS ∷ TRR ∷ []) x.4 y.4
          ((p.mode e).0 ∙ sym (q.mode e).0, ((p.mode e).1 ∙ sym (q.mode e).1, (flags GIF _ (p.wakes e) (q.wakes e), (x.0 ∙ sym y.0, (x.1 ∙ sym y.1, (x.2 ∙ sym y.2, (x.3 ∙ sym y.3, tt)))))))
      at true e (no z) =
          by_only (MODE ∷ WAITING ∷ GIF ∷ []) (p.awake e z) (q.awake e z)
          ((p.mode e).0 ∙ sym (q.mode e).0, ((p.mode e).1 ∙ sym (q.mode e).1, (flags GIF _ (p.wakes e) (q.wakes e), tt)))

  pub recessive-one : was RECOVERY ≤ 127 → Recessive was a → Recessive was b → Agree a b
  recessive-one most p q = at (bus_off was) refl (dec_lt (was RECOVERY) 127)
    where
      at : (t : Bool) → bus_off was ≡ t → Dec (was RECOVERY < 127) → Agree a b
      at false e d = by_only [] (p.elsewhere e) (q.elsewhere e) tt
      at true e (yes l) =
          by_only (RECOVERY ∷ []) (p.counts e l).1 (q.counts e l).1 ((p.counts e l).0 ∙ sym (q.counts e l).0, tt)
      at true e (no l) =
          let z : was RECOVERY ≡ 127 = omega arith in
          let x = p.last e z in
          let y = q.last e z in
          by_only (TEC ∷ REC ∷ RECOVERY ∷ []) x.3 y.3 (x.0 ∙ sym y.0, (x.1 ∙ sym y.1, (x.2 ∙ sym y.2, tt)))

  pub receive_error-one : (v : ℕ) → ReceiveError v was a → ReceiveError v was b → Agree a b
  receive_error-one v p q =
      let r = p.rec ∙ sym q.rec in
      by_only (REC ∷ GIF ∷ []) p.rest q.rest
      (r, (gif-same nothing (p.rest TEC refl ∙ sym (q.rest TEC refl)) r p.gif q.gif, tt))

  pub mode-one : (v : ℕ) → Mode v was a → Mode v was b → Agree a b
  mode-one v p q = by_only (WAITING ∷ []) p.rest q.rest (p.waiting ∙ sym q.waiting, tt)

  -- ---- writing

  abbrev Same : ℕ → ℕ → Type 0
  Same v t = Write t v was a → Write t v was b → Agree a b

  takes_one : (v t : ℕ) → (among t (MC ∷ LAM ∷ GAM ∷ CDR ∷ MBIM ∷ GIM ∷ BCR1 ∷ BCR2 ∷ TSC ∷ []) || added t) ≡ true → Same v t
  takes_one v t e p q =
      by_only (place t ∷ []) (p.takes e).1 (q.takes e).1 ((p.takes e).0 ∙ sym (q.takes e).0, tt)

  clears-one : (v t : ℕ) → among t (TA ∷ AA ∷ MBTIF ∷ MBRIF ∷ GIF ∷ []) ≡ true → Same v t
  clears-one v t e p q =
      let x = p.clears e in
      let y = q.clears e in
      by_only (t ∷ TSO ∷ []) x.2 y.2 (flags t _ x.0 y.0, (x.1 ∙ sym y.1, tt))

  md-one : (v : ℕ) → Same v MD
  md-one v p q = by_only (MD ∷ []) (p.md refl).1 (q.md refl).1 (flags MD _ (p.md refl).0 (q.md refl).0, tt)

  trs-one : (v : ℕ) → Same v TRS
  trs-one v p q = by_only (TRS ∷ []) (p.trs refl).1 (q.trs refl).1 (flags TRS _ (p.trs refl).0 (q.trs refl).0, tt)

  rmp-one : (v : ℕ) → Same v RMP
  rmp-one v p q =
      let x = p.rmp refl in
      let y = q.rmp refl in
      let one : (k : ℕ) → among k (RMP ∷ RML ∷ RFP ∷ []) ≡ true → a k ≡ b k = λ k e. flags k (λ n. was k has n && not (v has n)) (λ n. x.0 k n e) (λ n. y.0 k n e) in
      by_only (RMP ∷ RML ∷ RFP ∷ []) x.1 y.1 (one RMP refl, (one RML refl, (one RFP refl, tt)))

  trr-one : (v : ℕ) → Same v TRR
  trr-one v p q =
      by_only (TRS ∷ TRR ∷ AA ∷ GIF ∷ []) (p.trr_rest refl) (q.trr_rest refl)
      (flags TRS _ (p.trr_trs refl) (q.trr_trs refl), (flags TRR _ (p.trr refl) (q.trr refl), (flags AA _ (p.trr_aa refl) (q.trr_aa refl), (flags GIF _ (p.trr_gif refl) (q.trr_gif refl), tt))))

  abbrev lows : List ℕ
  lows =
      MC ∷ LAM ∷ GAM ∷ CDR ∷ MBIM ∷ GIM ∷ BCR1 ∷ BCR2 ∷ TSC ∷ TA ∷ AA ∷ MBTIF ∷ MBRIF ∷ MD ∷ TRS ∷ GIF ∷ RMP ∷ TRR ∷ []

  listed : all_below (λ t. t is 7 || t is 10 || among t lows) 20 ≡ true
  unfolding all_below
  listed = refl

  low-one : (v t : ℕ) → t ≤ 19 → t ≢ 7 → t ≢ 10 → Same v t
  low-one v t h n7 n10 =
      among-all (Same v) lows
      (takes_one v MC refl, (takes_one v LAM refl, (takes_one v GAM refl, (takes_one v CDR refl, (takes_one v MBIM refl, (takes_one v GIM refl, (takes_one v BCR1 refl, (takes_one v BCR2 refl, (takes_one v TSC refl, (clears-one v TA refl, (clears-one v AA refl, (clears-one v MBTIF refl, (clears-one v MBRIF refl, (md-one v, (trs-one v, (clears-one v GIF refl, (rmp-one v, (trr-one v, tt)))))))))))))))))) t
      (rw (ne_eqb t 7 n7, ne_eqb t 10 n10) at (each_below (λ t. t is 7 || t is 10 || among t lows) 20 listed t (omega arith)))

  pub write-one : (v t : ℕ) → writable t ≡ true → Same v t
  write-one v t h = at (added t) refl
    where
      r : Bool
      r = among t (MC ∷ LAM ∷ GAM ∷ CDR ∷ MBIM ∷ GIM ∷ BCR1 ∷ BCR2 ∷ TSC ∷ [])

      at : (u : Bool) → added t ≡ u → Same v t
      at true e = takes_one v t (rw e (or-true r))
      at false e =
          let l = rw (e, or-false (leb t 19 && not (t is 7) && not (t is 10))) at h in
          let x = and_l (leb t 19 && not (t is 7)) (not (t is 10)) l in
          low-one v t (leb-true t 19 (and_l (leb t 19) (not (t is 7)) x))
          (eqb-false t 7 (not-true _ (and_r (leb t 19) (not (t is 7)) x)))
          (eqb-false t 10 (not-true _ (and_r (leb t 19 && not (t is 7)) (not (t is 10)) l)))

pub reset-one : (n : ℕ) (a b : Words) → FreshWords n a → FreshWords n b → Agree a b
reset-one n a b p q =
    by_only (λ k. 0) a b (MD ∷ MODE ∷ WAITING ∷ SLOT ∷ PROFILE ∷ []) p.rest q.rest
    (p.md ∙ sym q.md, (p.mode ∙ sym q.mode, (p.waiting ∙ sym q.waiting, (p.slot ∙ sym q.slot, (p.profile ∙ sym q.profile, tt)))))
