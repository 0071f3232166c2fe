-- The rulebook leaves nothing open: of a good image and an event that is not refused, two outcomes that meet it are the same.
use Prim.Native.Nat.{ℕ, zero, suc, ◌+◌, ◌-◌, ◌*◌, ◌/◌, ◌<◌, ◌≤◌}
use mathlib.Core.Path.{◌≡◌, refl, sym, ◌∙◌, ap, subst}
use mathlib.Core.Bool.{cond, Bool, true, false, ◌&&◌}
use mathlib.Core.List.{List, [], ◌∷◌}
use mathlib.Core.Logic.{inl, inr}
use native.Mathlib.Decide.{dec_lt}
use native.Mathlib.Omega.{arith}
use lib.Dec.{ltb, eqb}
use borrow.Author.Tests.{eqb-true}
use Rattle.bits.proofs.Laws.{same_bits}
use Rattle.words.specs.Word.{words_of}
use Rattle.words.proofs.Bytes.{Bytes}
use Rattle.registers.specs.Block.{block_of}
use Rattle.registers.specs.Status.{ecan}
use Rattle.mailboxes.proofs.Spliced.{byte_of, word_byte}
use Rattle.events.specs.Parts.{frame_of}
use Rattle.events.specs.Decode.{last_outcome, event, event_as}
use Rattle.events.proofs.Allowed.{Allowed}
use Rattle.filter.specs.Filter.{delivery}
use Rattle.filter.proofs.Ways.{Way, off_bus, no_match, stored as way_stored, replied as way_replied, ignored as way_ignored, way}
use Rattle.good.specs.Good.{good_image}
use Rattle.refusals.specs.Refusal.{refusal}
use Rattle.sending.specs.Choice.{next}
use Rattle.sending.proofs.Choice.{next_is, next-most}
use Rattle.answers.specs.Answer.{Outcome as Result}
use Rattle.model.proofs.Kept.{Taken as TakenEvent, taken}
use Rattle.rules.specs.Words.{Words, ◌has◌, ◌is◌, words, byte, box, BoxesStayBut, TRS, RMP, RML, RFP, MBRIF, GIF, REC, MODE, SLOT, OPTIONS, PROFILE}
use Rattle.rules.specs.Image.{on_bus}
use Rattle.rules.specs.Events.{operation, target, word, value, carried}
use Rattle.rules.specs.Writing.{BoxWrite}
use Rattle.rules.specs.Receiving.{Stored, Frame}
use Rattle.rules.specs.Sending.{candidate, key, Start, Ending}
use Rattle.rules.specs.Step.{stamped, Quiet, Fails, Does, Accepted}
use Rattle.rules.proofs.Outcomes.{outcome_by}
use Rattle.rules.proofs.Blocks.{of_block, of_block_lem, image_by}
use Rattle.rules.proofs.Starting.{candidate-same}
use Rattle.rules.proofs.Receiving.{first, missed}
use Rattle.rules.proofs.Unique.{Agree, flags, by_only, tick-one, sent-one, unsent_one, ending-one, recessive-one, receive_error-one, mode-one, write-one, reset-one}

-- ---- a start

module _ (s : List ℕ) (was a b : Words) (n m : ℕ) (p : Start s was a n) (q : Start s was b m) where
  -- with a mailbox that may start
  both : on_bus was ≡ true → (c : ℕ) → c < 32 → candidate was c ≡ true → n ≡ m
  both h c l k = at (was OPTIONS has 0) refl
    where
      x : (n < 32) × (candidate was n ≡ true)
      x = p.some h c l k

      y : (m < 32) × (candidate was m ≡ true)
      y = q.some h c l k

      at : (t : Bool) → was OPTIONS has 0 ≡ t → n ≡ m
      at false e = omega (arith, p.lowest h e m y.0 y.1, q.lowest h e n x.0 x.1)
      at true e =
          let u = p.smallest h e m y.0 y.1 in
          let v = q.smallest h e n x.0 x.1 in
          let z : key s n ≡ key s m = omega (arith, u.0, v.0) in
          omega (arith, u.1 z, v.1 (sym z))

  start-one : n ≡ m → Agree a b
  start-one e =
      by_only was a b (SLOT ∷ []) p.rest q.rest (p.slot ∙ ap (λ (k : ℕ). cond (ltb k 32) k (was SLOT)) e ∙ sym q.slot, tt)

-- ---- mailbox bytes

module _ (s x y : List ℕ) (bx : Bytes x) (by : Bytes y) where
  abbrev Boxes : Type 0
  Boxes = (i : ℕ) → i < 512 → byte x i ≡ byte y i

  kept : BoxesStayBut 32 s x → BoxesStayBut 32 s y → Boxes
  kept p q i l = p i l (inl l) ∙ sym (q i l (inl l))

  -- in mailbox n by its bytes, elsewhere they stay
  within : (n : ℕ) → ((i : ℕ) → i < 16 → byte x (16 * n + i) ≡ byte y (16 * n + i)) → BoxesStayBut n s x → BoxesStayBut n s y → Boxes
  within n h p q i l = at (dec_lt i (16 * n)) (dec_lt i (16 * n + 16))
    where
      at : Dec (i < 16 * n) → Dec (i < 16 * n + 16) → byte x i ≡ byte y i
      at (yes k) d = p i l (inl k) ∙ sym (q i l (inl k))
      at (no k) (no d) = p i l (inr (omega arith)) ∙ sym (q i l (inr (omega arith)))
      at (no k) (yes d) =
          let e : 16 * n + (i - 16 * n) ≡ i = omega arith in
          subst (λ (j : ℕ). byte x j ≡ byte y j) e (h (i - 16 * n) (omega arith))

  -- the bytes of a word
  word_bytes : (n j : ℕ) → box x n j ≡ box y n j → (i : ℕ) → 4 * j ≤ i → i < 4 * j + 4 → byte x (16 * n + i) ≡ byte y (16 * n + i)
  word_bytes n j h i l k =
      let e : 16 * n + 4 * j + (i - 4 * j) ≡ 16 * n + i = omega arith in
      let r : i - 4 * j < 4 = omega arith in
      subst (λ (m : ℕ). byte x m ≡ byte y m) e
      (sym (word_byte x (16 * n + 4 * j) (i - 4 * j) bx r) ∙ ap (λ (w : ℕ). byte_of w (i - 4 * j)) h ∙ word_byte y (16 * n + 4 * j) (i - 4 * j) by r)

  by_words : (n : ℕ) → ((j : ℕ) → j < 4 → box x n j ≡ box y n j) → BoxesStayBut n s x → BoxesStayBut n s y → Boxes
  by_words n h = within n (λ i l. word_bytes n (i / 4) (h (i / 4) (omega arith)) i (omega arith) (omega arith))

  box-write-one : (n j v : ℕ) → BoxWrite n j v s x → BoxWrite n j v s y → Boxes
  box-write-one n j v p q = by_words n (λ i l. at i l (eqb i j) refl) p.elsewhere q.elsewhere
    where
      at : (i : ℕ) → i < 4 → (t : Bool) → eqb i j ≡ t → box x n i ≡ box y n i
      at i l true e = ap (box x n) (eqb-true i j e) ∙ p.takes ∙ sym q.takes ∙ ap (box y n) (sym (eqb-true i j e))
      at i l false e = p.others i l e ∙ sym (q.others i l e)

  stored-boxes : (e : List ℕ) (n : ℕ) (was a b : Words) → Stored s e n was a x → Stored s e n was b y → Boxes
  stored-boxes e n was a b p q = within n bytes p.elsewhere q.elsewhere
    where
      data_byte : (i : ℕ) → i < 8 → Dec (i < carried e) → byte x (16 * n + (8 + i)) ≡ byte y (16 * n + (8 + i))
      data_byte i l (yes k) = p.new i k ∙ sym (q.new i k)
      data_byte i l (no k) = let z : carried e ≤ i = omega arith in p.old i l z ∙ sym (q.old i l z)

      bytes : (i : ℕ) → i < 16 → byte x (16 * n + i) ≡ byte y (16 * n + i)
      bytes i l = at (dec_lt i 4) (dec_lt i 8)
        where
          at : Dec (i < 4) → Dec (i < 8) → byte x (16 * n + i) ≡ byte y (16 * n + i)
          at (yes k) d = word_bytes n 0 (same_bits _ _ (λ j. p.word_0 j ∙ sym (q.word_0 j))) i (omega arith) (omega arith)
          at (no k) (yes d) = word_bytes n 1 (p.word_1 ∙ sym q.word_1) i (omega arith) (omega arith)
          at (no k) (no d) =
              let z : 16 * n + (8 + (i - 8)) ≡ 16 * n + i = omega arith in
              subst (λ (j : ℕ). byte x j ≡ byte y j) z (data_byte (i - 8) (omega arith) (dec_lt (i - 8) (carried e)))

-- ---- what two outcomes share

pub record Both (a b : Words) (o u : Result) : Type 0 where
  pub same-words : Agree a b
  pub same-boxes : (i : ℕ) → i < 512 → byte o.image i ≡ byte u.image i
  pub same-mailbox : o.mailbox ≡ u.mailbox
  pub same_count : o.count ≡ u.count

-- ---- a frame

module _ (s e : List ℕ) (a b : Words) (o u : Result) (bo : Bytes o.image) (bu : Bytes u.image) where
  abbrev was : Words
  was = of_block (words s) (block_of s)

  frame-one : Frame s e was a o → Frame s e was b u → Both a b o u
  unfolding block_of words_of
  frame-one p q = at (way s (frame_of e))
    where
      recs : on_bus was ≡ true → a REC ≡ b REC
      recs h = go (dec_lt 127 (was REC))
        where
          go : Dec (127 < was REC) → a REC ≡ b REC
          go (yes l) = (p.heard h).rec_127 l ∙ sym ((q.heard h).rec_127 l)
          go (no l) = (p.heard h).rec_falls (omega arith) ∙ sym ((q.heard h).rec_falls (omega arith))

      asleep : on_bus was ≡ false → (t : Bool) → (was MODE is 2 && was OPTIONS has 1) ≡ t → Agree a b
      asleep h false z = by_only was a b [] (p.stays h z) (q.stays h z) tt
      asleep h true z =
          let x = p.wakes z in
          let y = q.wakes z in
          by_only was a b (MODE ∷ GIF ∷ []) x.2 y.2 (x.0 ∙ sym y.0, (flags was a b GIF _ x.1 y.1, tt))

      at : Way s (frame_of e) (delivery s (frame_of e)) → Both a b o u
      at (off_bus h d) =
          let x = p.unheard h in
          let y = q.unheard h in
          record {
            same-words = asleep h (was MODE is 2 && was OPTIONS has 1) refl;
            same-boxes = kept s o.image u.image bo bu x.1 y.1;
            same-mailbox = x.0.0 ∙ sym y.0.0;
            same_count = x.0.1 ∙ sym y.0.1;
          }
      at (no_match c h k d) =
          let x = (p.heard h).nobody (missed s e c k) in
          let y = (q.heard h).nobody (missed s e c k) in
          record {
            same-words = by_only was a b (REC ∷ []) x.2 y.2 (recs h, tt);
            same-boxes = kept s o.image u.image bo bu x.1 y.1;
            same-mailbox = x.0.0 ∙ sym y.0.0;
            same_count = x.0.1 ∙ sym y.0.1;
          }
      at (way_stored n c h k r d) =
          let x = (p.heard h).stored k.place n (first s e n c k) r in
          let y = (q.heard h).stored k.place n (first s e n c k) r in
          record {
            same-words =
                by_only was a b (RML ∷ RMP ∷ MBRIF ∷ RFP ∷ GIF ∷ REC ∷ []) x.1.rest y.1.rest
                (flags was a b RML _ x.1.rml y.1.rml, (flags was a b RMP _ x.1.rmp y.1.rmp, (flags was a b MBRIF _ x.1.mbrif y.1.mbrif, (flags was a b RFP _ x.1.rfp y.1.rfp, (flags was a b GIF _ x.1.gif y.1.gif, (recs h, tt))))));
            same-boxes = stored-boxes s o.image u.image bo bu e n was a b x.1 y.1;
            same-mailbox = x.0.0 ∙ sym y.0.0;
            same_count = x.0.1 ∙ sym y.0.1;
          }
      at (way_replied n c h k r v d) =
          let x = (p.heard h).replied k.place n (first s e n c k) r v in
          let y = (q.heard h).replied k.place n (first s e n c k) r v in
          record {
            same-words = by_only was a b (TRS ∷ REC ∷ []) x.3 y.3 (flags was a b TRS _ x.2 y.2, (recs h, tt));
            same-boxes = kept s o.image u.image bo bu x.1 y.1;
            same-mailbox = x.0.0 ∙ sym y.0.0;
            same_count = x.0.1 ∙ sym y.0.1;
          }
      at (way_ignored n c h k r v d) =
          let x = (p.heard h).ignored k.place n (first s e n c k) r v in
          let y = (q.heard h).ignored k.place n (first s e n c k) r v in
          record {
            same-words = by_only was a b (REC ∷ []) x.2 y.2 (recs h, tt);
            same-boxes = kept s o.image u.image bo bu x.1 y.1;
            same-mailbox = x.0.0 ∙ sym y.0.0;
            same_count = x.0.1 ∙ sym y.0.1;
          }

  -- ---- the other operations

  quiet_one : Agree a b → Quiet s o → Quiet s u → Both a b o u
  quiet_one h x y =
      record {
        same-words = h;
        same-boxes = kept s o.image u.image bo bu x.1 y.1;
        same-mailbox = x.0.0 ∙ sym y.0.0;
        same_count = x.0.1 ∙ sym y.0.1;
      }

  module _ (t : TakenEvent s (event e)) (p : Does s e was a o) (q : Does s e was b u) where
    start_both : operation e ≡ 3 → Both a b o u
    start_both h =
        let x = p.start h in
        let y = q.start h in
        let n = named x.0 y.0 (on_bus was) refl (dec_lt (next s) 32) in
        record {
          same-words = start-one s was a b o.mailbox u.mailbox x.0 y.0 n;
          same-boxes = kept s o.image u.image bo bu x.2 y.2;
          same-mailbox = n;
          same_count = x.1 ∙ sym y.1;
        }
      where
        named : Start s was a o.mailbox → Start s was b u.mailbox → (z : Bool) → on_bus was ≡ z → Dec (next s < 32) → o.mailbox ≡ u.mailbox
        named x y false z d = x.off z ∙ sym (y.off z)
        named x y true z (yes l) =
            both s was a b o.mailbox u.mailbox x y z (next s) l (sym (candidate-same s (words s) (next s)) ∙ (next_is s z).named l)
        named x y true z (no l) =
            let none : (n : ℕ) → n < 32 → candidate was n ≡ false =
            λ n k. sym (candidate-same s (words s) n) ∙ (next_is s z).nobody (omega (arith, next-most s)) n k in
            x.none none ∙ sym (y.none none)

    outcome_both : operation e ≡ 4 → Both a b o u
    outcome_both h = at (target e) refl
      where
        most : target e ≤ last_outcome
        most = subst (Allowed (ecan (block_of s))) (ap (λ (n : ℕ). event_as n e) h) t.fair

        unsent_both : (tec : ℕ) → Fails tec s was a o → Fails tec s was b u → Both a b o u
        unsent_both tec x y =
            record {
              same-words = unsent_one was a b tec x.0 y.0;
              same-boxes = kept s o.image u.image bo bu x.1 y.1;
              same-mailbox = x.2.0 ∙ sym y.2.0;
              same_count = x.2.1 ∙ sym y.2.1;
            }

        at : (k : ℕ) → target e ≡ k → Both a b o u
        at zero z =
            let x = p.sent h z in
            let y = q.sent h z in
            record {
              same-words = sent-one was a b x.0 y.0;
              same-boxes = box-write-one s o.image u.image bo bu (was SLOT) 1 (stamped s (was SLOT)) x.1 y.1;
              same-mailbox = x.2.0 ∙ sym y.2.0;
              same_count = x.2.1 ∙ sym y.2.1;
            }
        at (suc zero) z = unsent_both _ (p.lost h z) (q.lost h z)
        at (suc (suc zero)) z = unsent_both _ (p.error h z) (q.error h z)
        at (suc (suc (suc zero))) z = unsent_both _ (p.unacknowledged h z) (q.unacknowledged h z)
        at (suc (suc (suc (suc k)))) z = absurd (omega (arith, most))

    mailbox_both : operation e ≡ 1 → Both a b o u
    mailbox_both h =
        let x = p.mailbox h in
        let y = q.mailbox h in
        record {
          same-words = by_only was a b [] x.1 y.1 tt;
          same-boxes = box-write-one s o.image u.image bo bu (target e) (word e) (value e) x.0 y.0;
          same-mailbox = x.2.0 ∙ sym y.2.0;
          same_count = x.2.1 ∙ sym y.2.1;
        }

    all_operations : Both a b o u
    all_operations = at (operation e) refl
      where
        fair : (k : ℕ) → operation e ≡ k → Allowed (ecan (block_of s)) (event_as k e)
        fair k h = subst (Allowed (ecan (block_of s))) (ap (λ (n : ℕ). event_as n e) h) t.fair

        at : (k : ℕ) → operation e ≡ k → Both a b o u
        at zero h =
            let f = fair 0 h in
            quiet_one (write-one was a b (value e) (target e) f.known (p.register h).0 (q.register h).0) (p.register h).1 (q.register h).1
        at (suc zero) h = mailbox_both h
        at (suc (suc zero)) h = frame-one (p.frame h) (q.frame h)
        at (suc (suc (suc zero))) h = start_both h
        at (suc (suc (suc (suc zero)))) h = outcome_both h
        at (suc (suc (suc (suc (suc zero))))) h =
            quiet_one (receive_error-one was a b (value e) (p.receive_error h).0 (q.receive_error h).0) (p.receive_error h).1 (q.receive_error h).1
        at (suc (suc (suc (suc (suc (suc zero)))))) h =
            quiet_one (recessive-one was a b t.good.block.core.ranges.recovery (p.recessive h).0 (q.recessive h).0) (p.recessive h).1 (q.recessive h).1
        at (suc (suc (suc (suc (suc (suc (suc zero))))))) h =
            quiet_one (tick-one was a b t.good.block.core.ranges.tsc (p.tick h).0 (q.tick h).0) (p.tick h).1 (q.tick h).1
        at (suc (suc (suc (suc (suc (suc (suc (suc zero)))))))) h =
            quiet_one (mode-one was a b (value e) (p.mode h).0 (q.mode h).0) (p.mode h).1 (q.mode h).1
        at (suc (suc (suc (suc (suc (suc (suc (suc (suc zero))))))))) h =
            let x = p.options h in
            let y = q.options h in
            quiet_one (by_only was a b (OPTIONS ∷ []) x.1 y.1 (x.0 ∙ sym y.0, tt)) x.2 y.2
        at (suc (suc (suc (suc (suc (suc (suc (suc (suc (suc zero)))))))))) h =
            quiet_one (reset-one (was PROFILE) a b (p.reset h).0 (q.reset h).0) (p.reset h).1 (q.reset h).1
        at (suc (suc (suc (suc (suc (suc (suc (suc (suc (suc (suc k))))))))))) h = absurd (fair (suc (suc (suc (suc (suc (suc (suc (suc (suc (suc (suc k))))))))))) h)

-- ---- the whole

module _ (s e : List ℕ) (bytes : Bytes s) (small_bytes : Bytes e) (g : good_image s ≡ true) (z : refusal s e ≡ 0) (o u : Result) where
  pub one : Accepted s e o → Accepted s e u → o ≡ u
  one p q =
      let t = taken s e bytes small_bytes g z in
      let w = of_block_lem s in
      let bo : Bytes o.image = record { small = p.size.1 } in
      let bu : Bytes u.image = record { small = q.size.1 } in
      let x = subst (λ (v : Words). Does s e v p.middle o) w p.does in
      let y = subst (λ (v : Words). Does s e v q.middle u) w q.does in
      let r = all_operations s e p.middle q.middle o u bo bu t x y in
      let mids : p.middle ≡ q.middle = λ i k. r.same-words k i in
      let ends = ending-one q.middle (words o.image) (words u.image) (subst (λ (v : Words). Ending v (words o.image)) mids p.ending) q.ending in
      let image = image_by o.image u.image p.size.0 q.size.0 bo bu r.same-boxes ends in
      outcome_by o u image (p.refusal ∙ sym q.refusal) r.same-mailbox r.same_count
