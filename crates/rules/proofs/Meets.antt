-- An accepted step meets the rulebook.
use Prim.Native.Nat.{ℕ, ◌+◌, ◌-◌, ◌*◌, ◌%◌, ◌^◌, ◌<◌, ◌≤◌}
use mathlib.Core.Path.{◌≡◌, refl, sym, ◌∙◌, ap, subst}
use mathlib.Core.Bool.{Bool, true, false, cond}
use mathlib.Core.List.{List, [], ◌∷◌}
use mathlib.Core.Logic.{◌≢◌, inl, inr}
use native.Mathlib.Decide.{dec_lt}
use native.Mathlib.Omega.{arith}
use lib.Dec.{leb, lit<, lit≤}
use lib.ListN.{get_or, length, replicate, get_or-eq_default}
use borrow.Author.Tests.{eqb-true, leb-true}
use Rattle.bits.proofs.Tests.{all}
use Rattle.bits.proofs.Sets.{and_l, and_r}
use Rattle.words.specs.Word.{word_at, words_of, put_word}
use Rattle.words.proofs.Laws.{length-put, byte-other}
use Rattle.words.proofs.Rows.{word_of_put, byte-before-put}
use Rattle.words.proofs.Bytes.{Bytes, word_lt}
use Rattle.registers.specs.declared.Block.{Block}
use Rattle.registers.specs.Block.{block_of, empty_slot}
use Rattle.registers.specs.Modes.{risen}
use Rattle.registers.specs.Writes.{written}
use Rattle.registers.specs.Sending.{concluded}
use Rattle.registers.proofs.Laws.{byte-stays}
use Rattle.registers.proofs.Table.{written_none}
use Rattle.mailboxes.specs.Mailbox.{mailbox, with_mailbox}
use Rattle.mailboxes.specs.Filing as Filing
use Rattle.mailboxes.proofs.Laws.{length-mailbox, word_of, word_out}
use Rattle.mailboxes.proofs.Filed.{length-filed, length-stamped}
use Rattle.events.specs.declared.Event.{Event}
use Rattle.events.specs.declared.Event.TheVariants.{Register, Mailbox, Heard, Start as Started, Outcome as Concluded, ReceiveError as Worse, Recessive as Eleven, Tick as Ticks, Mode as Asks, Options as Opts, Reset as Resets}
use Rattle.events.specs.Parts.{frame_of}
use Rattle.events.specs.Decode.{is_mask, event, event_as}
use Rattle.events.proofs.Laws.{each}
use Rattle.filter.specs.declared.Delivery.{Delivery}
use Rattle.filter.specs.declared.Delivery.TheVariants.{Into, Reply, Nowhere}
use Rattle.filter.specs.Filter.{delivery}
use Rattle.filter.proofs.Ways.{into}
use Rattle.good.specs.Good.{good_spare, spare_words, good_image}
use Rattle.good.proofs.Image.{GoodImage, small}
use Rattle.refusals.specs.Refusal.{refusal}
use Rattle.answers.specs.Answer.{Outcome as Result}
use Rattle.model.specs.Step.{own, goes, delivered, acted, block_after, stowed, postmarked, rewritten, masked, unmasked, beside_after, named, accepted}
use Rattle.model.proofs.Kept.{Taken as TakenEvent, taken, outcome-slot, boxes-after, block_after_lem, accepted-good}
use Rattle.rules.specs.Words.{Words, words, Only, BoxesStayBut, at_most, TEC, OPTIONS, PROTECTION, PROFILE}
use Rattle.rules.specs.Events.{operation, target, word, value, Answers}
use Rattle.rules.specs.Writing.{Write, BoxWrite}
use Rattle.rules.specs.Receiving.{Frame}
use Rattle.rules.specs.Sending.{Start, Sent, unacknowledged_tec, ReceiveError, Recessive, Tick, Mode, Ending}
use Rattle.rules.specs.Fresh.{FreshWords}
use Rattle.rules.specs.Step.{stamped, Quiet, Fails, Does, Accepted}
use Rattle.rules.proofs.Blocks.{of_block, of_block_lem, put-words}
use Rattle.rules.proofs.Sending.{tick, recessive_bits, receive_error, mode-asked, options-taken, zeros, fresh-rule, sending, losing, erring, unacknowledged, ending}
use Rattle.rules.proofs.Starting.{start}
use Rattle.rules.proofs.Writing.{write_step, mask-write}
use Rattle.rules.proofs.Boxes.{box-write}
use Rattle.rules.proofs.Receiving.{left, frame}
use Rattle.model.proofs.Meets.{calm}

-- ---- what is zero behind the mailboxes

spare-zero : (s : List ℕ) → good_spare s ≡ true → (k : ℕ) → 28 ≤ k → k < 32 → words s k ≡ 0
unfolding good_spare
spare-zero s h k l u =
    let p = all (spare_words s) h in
    let e : 28 + (k - 28) ≡ k = omega arith in
    subst (λ (j : ℕ). words s j ≡ 0) e
    (each (λ j. words s (28 + j) ≡ 0) 4 ((((tt, eqb-true _ _ p.0), eqb-true _ _ p.1.0), eqb-true _ _ p.1.1.0), eqb-true _ _ p.1.1.1.0) (k - 28) (omega arith))

past_zero : (s : List ℕ) → length s ≡ 776 → (k : ℕ) → 66 ≤ k → words s k ≡ 0
unfolding word_at
past_zero s n k h =
    let z : (i : ℕ) → 776 ≤ i → ◌≡◌ {A = ℕ} (get_or s i 0) 0 = λ i h. get_or-eq_default s 0 (omega arith) in
    rw (z (512 + 4 * k) (omega arith), z (512 + 4 * k + 1) (omega arith), z (512 + 4 * k + 2) (omega arith), z (512 + 4 * k + 3) (omega arith))

mask-zero : (s : List ℕ) → length s ≡ 776 → (k : ℕ) → 32 ≤ k → k < 64 → words (unmasked s) k ≡ 0
unfolding unmasked
mask-zero s n k h l =
    let e : 640 + 4 * (k - 32) ≡ 512 + 4 * k = omega arith in
    ap (word_at (unmasked s)) (sym e)
    ∙ word_of_put s 640 (replicate 32 0) (k - 32) (λ j u. rw (zeros 32 j) (lit< tt)) (omega arith) (omega arith)
    ∙ zeros 32 (k - 32)

zeros_byte : (s : List ℕ) (i : ℕ) → i < 512 → get_or (unmasked s) i 0 ≡ get_or s i 0
unfolding unmasked
zeros_byte s i l = byte-before-put s 640 (replicate 32 0) i (omega arith)

module _ (s : List ℕ) where
  abbrev b : Block
  b = block_of s

  -- the words that an event leaves before a waiting mode is taken
  abbrev mid : Event → Words
  mid v = of_block (words (beside_after s v)) (risen b (acted s v))

  abbrev m : Words
  m = words s

  stay : (v : Event) → beside_after s v ≡ s → BoxesStayBut 32 s (accepted s v).image
  unfolding accepted
  stay v q i l o = byte-stays (beside_after s v) (block_after s v) i l ∙ ap (λ (y : List ℕ). get_or y i 0) q

  -- a mailbox that is changed leaves the words behind the mailboxes
  boxed : (n : ℕ) (x : List ℕ) → n < 32 → GoodImage s → length x ≡ 16 → words (with_mailbox s n x) ≡ words s
  boxed n x l g k =
      let same : (i : ℕ) → words (with_mailbox s n x) i ≡ words s i =
      λ i. word_out s n x (omega (arith, g.size)) k (512 + 4 * i) (inr (omega arith)) in
      λ i j. same j i

  fits : GoodImage s → b.trs < 2 ^ 32
  unfolding block_of words_of
  fits g = word_lt s g.bytes 520

  -- a mask write leaves the block, any other one the masks
  does-register : (t v : ℕ) → TakenEvent s (Register t v) → Write t v (of_block m b) (mid (Register t v)) × Quiet s (accepted s (Register t v))
  unfolding own goes delivered beside_after accepted named masked
  does-register t v k = (
    at (is_mask t) refl,
    (
      (refl, refl),
      λ i l o. byte-stays (masked s t v) (block_after s (Register t v)) i l ∙ mask-bytes (is_mask t) i l,
    ),
  )
    where
      mask-bytes : (u : Bool) (i : ℕ) → i < 512 → get_or (cond u (put_word s (640 + 4 * (t - 64)) v) s) i 0 ≡ get_or s i 0
      mask-bytes true i l = byte-other s (640 + 4 * (t - 64)) v i (inl (omega arith))
      mask-bytes false i l = refl

      at : (u : Bool) → is_mask t ≡ u → Write t v (of_block m b) (mid (Register t v))
      at false e =
          subst (λ (x : List ℕ). Write t v (of_block m b) (of_block (words x) (risen b (written b t v)))) (rw e)
          (write_step m b v (fits k.good) t e)
      at true e =
          let l = leb-true 64 t (and_l (leb 64 t) (leb t 95) e) in
          let u = leb-true t 95 (and_r (leb 64 t) (leb t 95) e) in
          let z : risen b (written b t v) ≡ b = ap (risen b) (written_none b t v (omega arith) (λ q. omega arith)) ∙ calm b b refl (omega arith) in
          subst (λ (x : Block). Write t v (of_block m b) (of_block (words (masked s t v)) x)) (sym z)
          (mask-write s k.good.size b t v e k.fair.small)

  does-mailbox : (n j v : ℕ) → TakenEvent s (Mailbox n j v)
      → BoxWrite n j v s (accepted s (Mailbox n j v)).image × Only [] (of_block m b) (mid (Mailbox n j v)) × Answers 32 0 (accepted s (Mailbox n j v))
  unfolding own goes delivered beside_after rewritten accepted named
  does-mailbox n j v k = (
    box-write s k.good n k.fair.known (block_after s (Mailbox n j v)) j v k.fair.word_known k.fair.small,
    λ i o.
        ap (λ (w : Words). of_block w (risen b b) i) (boxed n _ k.fair.known k.good (length-put (mailbox s n) (4 * j) v ∙ length-mailbox s n (omega (arith, k.good.size, k.fair.known))))
        ∙ ap (λ (x : Block). of_block m x i) (calm b b refl (omega arith)),
    (refl, refl),
  )

  does-start : TakenEvent s Started → Start s (of_block m b) (mid Started) (accepted s Started).mailbox × ((accepted s Started).count ≡ 0) × BoxesStayBut 32 s (accepted s Started).image
  unfolding own goes delivered beside_after accepted named
  does-start k = (start s m, refl, stay Started refl)

  full : (j : ℕ) → TakenEvent s (Concluded j) → b.slot ≢ empty_slot
  full = outcome-slot s

  does-tick : TakenEvent s Ticks → Tick (of_block m b) (mid Ticks) × Quiet s (accepted s Ticks)
  unfolding own goes delivered beside_after accepted named
  does-tick k = (tick m b k.good.block.core.ranges.tsc, ((refl, refl), stay Ticks refl))

  in_slot_lem : (j : ℕ) → TakenEvent s (Concluded j) → b.slot < 32
  in_slot_lem j k = let d = full j k in omega (arith, k.good.block.core.ranges.slot)

  stamps : TakenEvent s (Concluded 0) → BoxWrite b.slot 1 (stamped s b.slot) s (accepted s (Concluded 0)).image
  unfolding accepted beside_after postmarked Filing.stamped block_of words_of
  stamps k =
      let g = k.good in
      let n = b.slot in
      let r = g.block.core.ranges in
      let v = b.tsc * 2 ^ 16 + word_at (mailbox s n) 4 % 2 ^ 16 in
      let e : v ≡ stamped s n = ap (λ (w : ℕ). b.tsc * 2 ^ 16 + w % 2 ^ 16) (word_of s n 4 (lit≤ tt)) in
      subst (λ (w : ℕ). BoxWrite n 1 w s (accepted s (Concluded 0)).image) e
      (box-write s g n (in_slot_lem 0 k) (block_after s (Concluded 0)) 1 v (lit≤ tt) (omega (arith, r.tsc)))

  -- an outcome, by its number
  of_kind : (j k : ℕ) (P : Event → Type 0) → (TakenEvent s (Concluded k) → P (Concluded k)) → TakenEvent s (Concluded j) → j ≡ k → P (Concluded j)
  of_kind j k P h t e =
      let same : Concluded j ≡ Concluded k = ap Concluded e in
      subst P (sym same) (h (subst (TakenEvent s) same t))

  does-sent : TakenEvent s (Concluded 0) → Sent (of_block m b) (mid (Concluded 0)) × BoxWrite b.slot 1 (stamped s b.slot) s (accepted s (Concluded 0)).image × Answers b.slot 0 (accepted s (Concluded 0))
  unfolding own goes delivered accepted named beside_after postmarked
  does-sent k = (
    subst (λ (w : Words). Sent (of_block m b) (of_block w (risen b (concluded b 0))))
        (sym (boxed b.slot _ (in_slot_lem 0 k) k.good (length-stamped (mailbox s b.slot) b.tsc ∙ length-mailbox s b.slot (omega (arith, k.good.size, in_slot_lem 0 k)))))
        (sending m b (full 0 k) k.good.block.core.ranges.tec),
    stamps k,
    (refl, refl),
  )

  does-lost : TakenEvent s (Concluded 1) → Fails b.tec s (of_block m b) (mid (Concluded 1)) (accepted s (Concluded 1))
  unfolding own goes delivered accepted named beside_after
  does-lost k = (losing m b (full 1 k) k.good.block.core.ranges.tec, stay (Concluded 1) refl, (refl, refl))

  does-fail : TakenEvent s (Concluded 2) → Fails (at_most 256 (b.tec + 8)) s (of_block m b) (mid (Concluded 2)) (accepted s (Concluded 2))
  unfolding own goes delivered accepted named beside_after
  does-fail k = (erring m b (full 2 k) k.good.block.core.ranges.tec, stay (Concluded 2) refl, (refl, refl))

  does-unacknowledged : TakenEvent s (Concluded 3) → Fails (unacknowledged_tec (of_block m b)) s (of_block m b) (mid (Concluded 3)) (accepted s (Concluded 3))
  unfolding own goes delivered accepted named beside_after
  does-unacknowledged k = (unacknowledged m b (full 3 k) k.good.block.core.ranges.tec, stay (Concluded 3) refl, (refl, refl))

  does-error : (v : ℕ) → TakenEvent s (Worse v) → ReceiveError v (of_block m b) (mid (Worse v)) × Quiet s (accepted s (Worse v))
  unfolding own goes delivered beside_after accepted named
  does-error v k = (receive_error m b v, ((refl, refl), stay (Worse v) refl))

  does-recessive : TakenEvent s Eleven → Recessive (of_block m b) (mid Eleven) × Quiet s (accepted s Eleven)
  unfolding own goes delivered beside_after accepted named
  does-recessive k = (recessive_bits m b, ((refl, refl), stay Eleven refl))

  does-mode : (v : ℕ) → TakenEvent s (Asks v) → Mode v (of_block m b) (mid (Asks v)) × Quiet s (accepted s (Asks v))
  unfolding own goes delivered beside_after accepted named
  does-mode v k = (mode-asked m b v, ((refl, refl), stay (Asks v) refl))

  does-options : (v : ℕ) → TakenEvent s (Opts v) → (mid (Opts v) OPTIONS ≡ v) × Only (OPTIONS ∷ []) (of_block m b) (mid (Opts v)) × Quiet s (accepted s (Opts v))
  unfolding own goes delivered beside_after accepted named
  does-options v k = let o = options-taken m b v in (o.0, o.1, ((refl, refl), stay (Opts v) refl))

  -- what a reset leaves beside the block: zeros
  cleared : TakenEvent s Resets → (k : ℕ) → 28 ≤ k → k ≢ PROTECTION → k ≢ PROFILE → words (unmasked s) k ≡ 0
  unfolding beside_after
  cleared t k l p q = at (dec_lt k 32) (dec_lt k 64)
    where
      x : GoodImage (unmasked s)
      x = boxes-after s Resets t

      at : Dec (k < 32) → Dec (k < 64) → words (unmasked s) k ≡ 0
      at (yes h) e = spare-zero (unmasked s) x.spare k l h
      at (no h) (yes e) = mask-zero s t.good.size k (omega arith) e
      at (no h) (no e) = past_zero (unmasked s) x.size k (omega arith)

  does-reset : TakenEvent s Resets → FreshWords b.profile (mid Resets) × Quiet s (accepted s Resets)
  unfolding own goes delivered beside_after accepted named
  does-reset k = (
    fresh-rule (words (unmasked s)) (cleared k) b.profile b,
    ((refl, refl), λ i l o. byte-stays (unmasked s) (block_after s Resets) i l ∙ zeros_byte s i l),
  )

  does-frame : (e : List ℕ) → Bytes e → TakenEvent s (Heard (frame_of e)) → Frame s e (of_block m b) (mid (Heard (frame_of e))) (accepted s (Heard (frame_of e)))
  unfolding own goes beside_after stowed accepted named block_after frame_of
  does-frame e y k =
      subst (λ (w : Words). Frame s e (of_block m b) (of_block w (left s e k.good y k.fair (delivery s (frame_of e)))) (accepted s (Heard (frame_of e))))
      (sym (stowed-words (delivery s (frame_of e)) refl)) (frame s e k.good y k.fair)
    where
      stowed-words : (d : Delivery) → delivery s (frame_of e) ≡ d → words (stowed s (frame_of e) d) ≡ words s
      stowed-words (Into n c) q =
          let l = (into s (frame_of e) n c q).first.there in
          boxed n _ l k.good (length-filed (mailbox s n) _ _ _ _ _ _ ∙ length-mailbox s n (omega (arith, k.good.size)))
      stowed-words (Reply n c) q = refl
      stowed-words (Nowhere c) q = refl

-- ---- all operations

module _ (s e : List ℕ) (bytes : Bytes s) (small_bytes : Bytes e) (g : good_image s ≡ true) (z : refusal s e ≡ 0) where
  t : TakenEvent s (event e)
  t = taken s e bytes small_bytes g z

  -- what holds of an operation's own case holds of the event
  of : (k : ℕ) (P : Event → Type 0) → (TakenEvent s (event_as k e) → P (event_as k e)) → operation e ≡ k → P (event e)
  of k P h q =
      let same : event e ≡ event_as k e = ap (λ (n : ℕ). event_as n e) q in
      subst P (sym same) (h (subst (TakenEvent s) same t))

  -- and of an outcome, by its number
  outcome : (k : ℕ) (P : Event → Type 0) → (TakenEvent s (Concluded k) → P (Concluded k)) → operation e ≡ 4 → target e ≡ k → P (event e)
  outcome k P h = of 4 (λ v. target e ≡ k → P v) (of_kind s (target e) k P h)

  abbrev was : Words
  was = of_block (words s) (block_of s)

  abbrev o : Result
  o = accepted s (event e)

  does : Does s e (was) (mid s (event e)) o
  does =
      record {
        register = of 0 (λ v. Write (target e) (value e) (was) (mid s v) × Quiet s (accepted s v)) (does-register s (target e) (value e));
        mailbox =
            of 1 (λ v. BoxWrite (target e) (word e) (value e) s (accepted s v).image × Only [] (was) (mid s v) × Answers 32 0 (accepted s v))
            (does-mailbox s (target e) (word e) (value e));
        frame = of 2 (λ v. Frame s e (was) (mid s v) (accepted s v)) (does-frame s e small_bytes);
        start = of 3 (λ v. Start s (was) (mid s v) (accepted s v).mailbox × ((accepted s v).count ≡ 0) × BoxesStayBut 32 s (accepted s v).image) (does-start s);
        sent =
            outcome 0
            (λ v. Sent was (mid s v) × BoxWrite (block_of s).slot 1 (stamped s (block_of s).slot) s (accepted s v).image × Answers (block_of s).slot 0 (accepted s v))
            (does-sent s);
        lost = outcome 1 (λ v. Fails (was TEC) s was (mid s v) (accepted s v)) (does-lost s);
        error = outcome 2 (λ v. Fails (at_most 256 (was TEC + 8)) s was (mid s v) (accepted s v)) (does-fail s);
        unacknowledged = outcome 3 (λ v. Fails (unacknowledged_tec was) s was (mid s v) (accepted s v)) (does-unacknowledged s);
        receive_error = of 5 (λ v. ReceiveError (value e) (was) (mid s v) × Quiet s (accepted s v)) (does-error s (value e));
        recessive = of 6 (λ v. Recessive (was) (mid s v) × Quiet s (accepted s v)) (does-recessive s);
        tick = of 7 (λ v. Tick (was) (mid s v) × Quiet s (accepted s v)) (does-tick s);
        mode = of 8 (λ v. Mode (value e) (was) (mid s v) × Quiet s (accepted s v)) (does-mode s (value e));
        options = of 9 (λ v. (mid s v OPTIONS ≡ value e) × Only (OPTIONS ∷ []) (was) (mid s v) × Quiet s (accepted s v)) (does-options s (value e));
        reset = of 10 (λ v. FreshWords (was PROFILE) (mid s v) × Quiet s (accepted s v)) (does-reset s);
      }

  -- the words of the image that is left
  left-words : words o.image ≡ of_block (words (beside_after s (event e))) (block_after s (event e))
  unfolding accepted
  left-words =
      let c = block_after s (event e) in
      let k = block_after_lem s (event e) t in
      put-words (beside_after s (event e)) c (boxes-after s (event e) t).size (small c k.core k.waits.most)

  pub meets : Accepted s e (accepted s (event e))
  unfolding block_after accepted
  meets =
      record {
        middle = mid s (event e);
        does = subst (λ (w : Words). Does s e w (mid s (event e)) o) (sym (of_block_lem s)) does;
        ending = subst (λ (w : Words). Ending (mid s (event e)) w) (sym left-words) (ending (words (beside_after s (event e))) (risen (block_of s) (acted s (event e))));
        refusal = refl;
        size = let g = accepted-good s (event e) t in (g.size, g.bytes.small);
      }
