-- The reason of one mailbox: what each says, and that the code's tests are the rule's.
use Rattle.std.proofs.lemmas.Bool.{or_parts}
use Prim.Native.Nat.{ℕ, zero, suc, ◌^◌, ◌<◌, ◌≤◌}
use mathlib.Core.Path.{◌≡◌, refl, sym, ◌∙◌, ap}
use mathlib.Core.Bool.{Bool, true, false, cond, not, xor, ◌&&◌, ◌||◌, and-false, false≢true}
use mathlib.Core.List.{List}
use native.Mathlib.Decide.{ℕ_discrete}
use native.Mathlib.Omega.{arith}
use lib.Dec.{eqb, ltb}
use borrow.Author.Tests.{eqb-true, eq-eqb, ne_eqb, ltb-true, ltb-false, le-ltb}
use Rattle.bits.specs.Bit.{bit, Highest}
use Rattle.bits.proofs.Laws.{bit-zero, bit_high, same_bits}
use Rattle.words.specs.Word.{words_of}
use Rattle.registers.specs.Block.{block_of}
use Rattle.mailboxes.specs.Mailbox.{mailbox_word}
use Rattle.events.specs.declared.Frame.{Frame}
use Rattle.events.specs.Parts.{frame_of}
use Rattle.filter.specs.Filter.{seat as filter_seat, mask_for, differing, frame_word, matches, takes, hits, passes, compared as filter_compared, guarded as filter_guarded}
use Rattle.filter.proofs.Matching.{seen, is_compared_bit, compared-bit}
use Rattle.filter.proofs.Search.{candidate-bit}
use Rattle.rules.specs.Words.{◌has◌, ◌is◌, words, box, MC, MD}
use Rattle.rules.specs.Events.{value, rtr}
use Rattle.rules.specs.Receiving.{matters, freed, compared, seat, guarded}
use Rattle.rules.proofs.Receiving.{freed-same, frame_same, guarded-same}
use Rattle.explain.specs.declared.Reason.{Reason}
use Rattle.explain.specs.declared.Reason.TheVariants.{Disabled, Transmits, IdeDiffers, BitDiffers, Matched, NotHeard, Protected}
use Rattle.explain.specs.Explain.{number, differs, match_reason, bit_reason, compared_reason, first_reason, reason, is_matched}
use Rattle.explain.specs.Terms.{reason_by}
use Rattle.explain.specs.Agreement.{was_compared}

-- ---- the highest bit that differs

-- reasons 5 and 7 say that none does
abbrev pub is_passed : Reason → Bool
is_passed why = number why is 7

abbrev agrees : Reason → Bool
agrees why = is_matched why || is_passed why

module _ (q : Bool) (p : ℕ → Bool) where
  -- none differs
  all_same : (k : ℕ) → ((i : ℕ) → i < k → p i ≡ false) → bit_reason q p k ≡ match_reason q
  unfolding bit_reason
  all_same zero h = refl
  all_same (suc k) h = rw (h k (omega arith)) (all_same k (λ i l. h i (omega arith)))

  same-all : (k : ℕ) → agrees (bit_reason q p k) ≡ true → (i : ℕ) → i < k → p i ≡ false
  unfolding bit_reason
  same-all zero h i l = absurd (omega arith)
  same-all (suc k) h i l = at (p k) refl h (ℕ_discrete i k) (λ m. same-all k m i)
    where
      at : (t : Bool) → p k ≡ t → agrees (cond t (BitDiffers k) (bit_reason q p k)) ≡ true → Dec (i ≡ k)
          → (agrees (bit_reason q p k) ≡ true → i < k → p i ≡ false) → p i ≡ false
      at true u m d go = absurd (false≢true m)
      at false u m (yes e) go = ap p e ∙ u
      at false u m (no d) go = go m (omega arith)

  -- one does, and none above it
  highest_is : (k i : ℕ) → i < k → p i ≡ true → ((j : ℕ) → i < j → p j ≡ false) → bit_reason q p k ≡ BitDiffers i
  unfolding bit_reason
  highest_is zero i l u a = absurd (omega arith)
  highest_is (suc k) i l u a = at (ℕ_discrete i k) (λ m. highest_is k i m u a)
    where
      at : Dec (i ≡ k) → (i < k → bit_reason q p k ≡ BitDiffers i) → cond (p k) (BitDiffers k) (bit_reason q p k) ≡ BitDiffers i
      at (yes e) go = rw (← e, u)
      at (no d) go = rw (a k (omega arith)) (go (omega arith))

  abbrev Named : ℕ → ℕ → Type 0
  Named k i = (i < k) × (p i ≡ true) × ((j : ℕ) → i < j → j < k → p j ≡ false)

  is_highest : (k i : ℕ) → bit_reason q p k ≡ BitDiffers i → Named k i
  unfolding bit_reason
  is_highest zero i h = absurd (at q h)
    where
      at : (t : Bool) → match_reason t ≡ BitDiffers i → ⊥
      at true m = let z : ◌≡◌ {A = ℕ} 0 1 = cc in omega arith
      at false m = let z : ◌≡◌ {A = ℕ} 0 1 = cc in omega arith
  is_highest (suc k) i h = at (p k) refl h (is_highest k i)
    where
      at : (t : Bool) → p k ≡ t → cond t (BitDiffers k) (bit_reason q p k) ≡ BitDiffers i → (bit_reason q p k ≡ BitDiffers i → Named k i) → Named (suc k) i
      at true u m go =
          let e : i ≡ k = cc in
          (omega arith, ap p e ∙ u, λ j l n. absurd (omega arith))
      at false u m go =
          let g = go m in
          let l = g.0 in
          (omega arith, g.1, λ j n o. above j n o (ℕ_discrete j k) (g.2 j n))
        where
          above : (j : ℕ) → i < j → j < suc k → Dec (j ≡ k) → (j < k → p j ≡ false) → p j ≡ false
          above j n o (yes e) f = ap p e ∙ u
          above j n o (no d) f = f (omega arith)

  -- either way the mailbox was compared
  was-compared : (k : ℕ) → was_compared (bit_reason q p k) ≡ true
  unfolding bit_reason
  was-compared zero = at q
    where
      at : (t : Bool) → was_compared (match_reason t) ≡ true
      at true = refl
      at false = refl
  was-compared (suc k) = at (p k) (was-compared k)
    where
      at : (t : Bool) → was_compared (bit_reason q p k) ≡ true → was_compared (cond t (BitDiffers k) (bit_reason q p k)) ≡ true
      at true h = refl
      at false h = h

-- ---- IDE first

module _ (q : Bool) (p : ℕ → Bool) where
  pub by_ide : p 31 ≡ true → compared_reason q p ≡ IdeDiffers
  by_ide h = rw h

  pub by_bits : p 31 ≡ false → compared_reason q p ≡ bit_reason q p 29
  by_bits h = rw h

pub by_none : (q : Bool) (d : ℕ) → d ≡ 0 → compared_reason q (bit d) ≡ match_reason q
by_none q d z =
    let h : (i : ℕ) → bit d i ≡ false = λ i. ap (λ (x : ℕ). bit x i) z ∙ bit-zero i in
    by_bits q (bit d) (h 31) ∙ all_same q (bit d) 29 (λ i l. h i)

-- ---- the bits that differ

-- a bit that is not compared does not
module _ (s : List ℕ) (f : Frame) (n : ℕ) where
  abbrev pub differing_at : ℕ
  differing_at = differing (mask_for s (block_of s) n) f (mailbox_word s n 0)

  unseen : (i : ℕ) → is_compared_bit f.ide i ≡ false → bit differing_at i ≡ false
  unseen i h = seen (mask_for s (block_of s) n) f (mailbox_word s n 0) i ∙ rw (compared-bit f i ∙ h, and-false (xor (bit (mailbox_word s n 0) i) (bit (frame_word f) i)))

  pub gap_30 : bit differing_at 30 ≡ false
  gap_30 = unseen 30 refl

  pub gap_29 : bit differing_at 29 ≡ false
  gap_29 = unseen 29 refl

  -- those from 32 on
  high : (i : ℕ) → 32 ≤ i → is_compared_bit f.ide i ≡ false
  high i l = rw (ne_eqb i 31 (λ q. omega arith), le-ltb i 29 (omega arith))

-- the code's bits are the rule's
module _ (s e : List ℕ) (n : ℕ) where
  turned : (x z : Bool) → ((x && true) && not z) ≡ ((true && not z) && x)
  turned true true = refl
  turned true false = refl
  turned false z = sym (and-false (not z))

  none : (x z : Bool) → ((x && false) && not z) ≡ false
  none true z = refl
  none false z = refl

  same_differs : (i : ℕ) → bit (differing_at s (frame_of e) n) i ≡ differs s e n i
  unfolding frame_of
  same_differs i =
      seen (mask_for s (block_of s) n) (frame_of e) (box s n 0) i
      ∙ ap (λ (x : Bool). (xor (box s n 0 has i) (bit (frame_word (frame_of e)) i) && bit (filter_compared (frame_of e)) i) && not x) (freed-same s e n i)
      ∙ ap (λ (x : Bool). (xor (box s n 0 has i) (bit (frame_word (frame_of e)) i) && x) && not (freed s n i)) (compared-bit (frame_of e) i)
      ∙ at (matters e i) refl
    where
      at : (t : Bool) → matters e i ≡ t
          → ((xor (box s n 0 has i) (bit (frame_word (frame_of e)) i) && t) && not (freed s n i)) ≡ ((t && not (freed s n i)) && xor (box s n 0 has i) (value e has i))
      at true h =
          ap (λ (x : Bool). (xor (box s n 0 has i) x && true) && not (freed s n i)) (frame_same s e i h)
          ∙ turned (xor (box s n 0 has i) (value e has i)) (freed s n i)
      at false h = none (xor (box s n 0 has i) (bit (frame_word (frame_of e)) i)) (freed s n i)

-- so are its order and its reasons
pub same-order : (s : List ℕ) → filter_seat (block_of s) ≡ seat (words s)
unfolding filter_seat block_of words_of
same-order s = refl

pub same-reasons : (s e : List ℕ) → reason_by s (frame_of e) ≡ reason s e
unfolding frame_of block_of words_of
same-reasons s e = λ i n. first_reason (not (words s MC has n)) (not (rtr e || words s MD has n)) (guarded-same s e n i) (λ k. same_differs s e n k i)

-- ---- what a reason says of the search

-- of a compared mailbox: it matched exactly where no bit differs
module _ (s : List ℕ) (f : Frame) (n : ℕ) where
  abbrev d : ℕ
  d = differing_at s f n

  -- where IDE and the identifier do not differ, nothing does
  nothing : bit d 31 ≡ false → ((i : ℕ) → i < 29 → bit d i ≡ false) → d ≡ 0
  nothing h k = same_bits d 0 (λ i. at i (ltb i 29) refl (ℕ_discrete i 29) (ℕ_discrete i 30) (ℕ_discrete i 31) ∙ sym (bit-zero i))
    where
      at : (i : ℕ) (t : Bool) → ltb i 29 ≡ t → Dec (i ≡ 29) → Dec (i ≡ 30) → Dec (i ≡ 31) → bit d i ≡ false
      at i true q a b c = k i (ltb-true i 29 q)
      at i false q (yes e) b c = ap (bit d) e ∙ gap_29 s f n
      at i false q (no a) (yes e) c = ap (bit d) e ∙ gap_30 s f n
      at i false q (no a) (no b) (yes e) = ap (bit d) e ∙ h
      at i false q (no a) (no b) (no c) = let l = ltb-false i 29 q in unseen s f n i (high s f n i (omega arith))

  -- it matches exactly where none differs
  module _ (q : Bool) where
    abbrev why : Reason
    why = compared_reason q (bit d)

    where_some : eqb d 0 ≡ false → agrees why ≡ false
    where_some h = at (bit d 31) refl (agrees (bit_reason q (bit d) 29)) refl
      where
        at : (t : Bool) → bit d 31 ≡ t → (u : Bool) → agrees (bit_reason q (bit d) 29) ≡ u → agrees why ≡ false
        at true a u m = rw a
        at false a false m = rw a m
        at false a true m = absurd (false≢true (sym h ∙ eq-eqb d 0 (nothing a (same-all q (bit d) 29 m))))

    -- so it takes the frame, or passes it over
    by_zero : (is_matched why ≡ (eqb d 0 && not q)) × (is_passed why ≡ (eqb d 0 && q))
    by_zero = at (eqb d 0) refl q refl
      where
        at : (t : Bool) → eqb d 0 ≡ t → (u : Bool) → q ≡ u → (is_matched why ≡ (t && not u)) × (is_passed why ≡ (t && u))
        at true e true g = let z = by_none q d (eqb-true d 0 e) ∙ ap match_reason g in (ap is_matched z, ap is_passed z)
        at true e false g = let z = by_none q d (eqb-true d 0 e) ∙ ap match_reason g in (ap is_matched z, ap is_passed z)
        at false e u g = or_parts (is_matched why) (is_passed why) (where_some e)

  -- of any mailbox, by the tests of the search
  by_tests : (g : Bool) → (t u : Bool)
      → (is_matched (first_reason (not t) (not u) g (bit d)) ≡ ((t && u) && (eqb d 0 && not g)))
      × (is_passed (first_reason (not t) (not u) g (bit d)) ≡ ((t && u) && (eqb d 0 && g)))
  by_tests g true true = by_zero g
  by_tests g true false = (refl, refl)
  by_tests g false u = (refl, refl)

  pub matched-hits : is_matched (reason_by s f n) ≡ hits s f n
  unfolding hits takes matches
  matched-hits =
      (by_tests (bit (filter_guarded (block_of s)) n) (bit (block_of s).mc n) (f.rtr || bit (block_of s).md n)).0
      ∙ ap (λ (x : Bool). x && (eqb d 0 && not (bit (filter_guarded (block_of s)) n))) (sym (candidate-bit (block_of s) f n))

  pub passed-passes : is_passed (reason_by s f n) ≡ passes s f n
  unfolding passes matches
  passed-passes =
      (by_tests (bit (filter_guarded (block_of s)) n) (bit (block_of s).mc n) (f.rtr || bit (block_of s).md n)).1
      ∙ ap (λ (x : Bool). x && (eqb d 0 && bit (filter_guarded (block_of s)) n)) (sym (candidate-bit (block_of s) f n))

-- its line is counted exactly where it was compared
pub counts-compared : (s e : List ℕ) (n : ℕ) → was_compared (reason s e n) ≡ compared s e n
counts-compared s e n = at (words s MC has n) (rtr e || words s MD has n)
  where
    below : (t : Bool) → was_compared (cond t IdeDiffers (bit_reason (guarded (words s) n) (differs s e n) 29)) ≡ true
    below true = refl
    below false = was-compared (guarded (words s) n) (differs s e n) 29

    at : (t u : Bool) → was_compared (first_reason (not t) (not u) (guarded (words s) n) (differs s e n)) ≡ (t && u)
    at true true = below (differs s e n 31)
    at true false = refl
    at false u = refl

-- only one reason has the number of a match, and only one that of a protected mailbox
pub is_matched_lem : (why : Reason) → is_matched why ≡ true → why ≡ Matched
is_matched_lem Disabled h = absurd (false≢true h)
is_matched_lem Transmits h = absurd (false≢true h)
is_matched_lem IdeDiffers h = absurd (false≢true h)
is_matched_lem (BitDiffers i) h = absurd (false≢true h)
is_matched_lem Matched h = refl
is_matched_lem (NotHeard m) h = absurd (false≢true h)
is_matched_lem Protected h = absurd (false≢true h)

pub is_passed_lem : (why : Reason) → is_passed why ≡ true → why ≡ Protected
is_passed_lem Disabled h = absurd (false≢true h)
is_passed_lem Transmits h = absurd (false≢true h)
is_passed_lem IdeDiffers h = absurd (false≢true h)
is_passed_lem (BitDiffers i) h = absurd (false≢true h)
is_passed_lem Matched h = absurd (false≢true h)
is_passed_lem (NotHeard m) h = absurd (false≢true h)
is_passed_lem Protected h = refl

-- the bit that is named
pub named-bit : (disabled transmits passes : Bool) (p : ℕ → Bool) (i : ℕ) → first_reason disabled transmits passes p ≡ BitDiffers i → Named passes p 29 i
named-bit false false q p i h = at (p 31) h
  where
    at : (t : Bool) → cond t IdeDiffers (bit_reason q p 29) ≡ BitDiffers i → Named q p 29 i
    at true u = let z : ◌≡◌ {A = ℕ} 0 1 = cc in absurd (omega arith)
    at false u = is_highest q p 29 i u
named-bit false true q p i h = let z : ◌≡◌ {A = ℕ} 0 1 = cc in absurd (omega arith)
named-bit true u q p i h = let z : ◌≡◌ {A = ℕ} 0 1 = cc in absurd (omega arith)

-- the highest bit of a word that differs, where neither IDE nor bits 30 and 29 do
pub by_highest : (q : Bool) (d i : ℕ) → d < 2 ^ 32 → bit d 31 ≡ false → bit d 30 ≡ false → bit d 29 ≡ false → Highest d i → (i < 29) × (bit_reason q (bit d) 29 ≡ BitDiffers i)
by_highest q d i small a b c h = let l = at (ltb i 29) refl (ltb i 32) refl (ℕ_discrete i 29) (ℕ_discrete i 30) in (l, highest_is q (bit d) 29 i l h.up h.above)
  where
    not-up : (k : ℕ) → bit d k ≡ false → i ≡ k → i < 29
    not-up k q e = absurd (false≢true (sym q ∙ ap (bit d) (sym e) ∙ h.up))

    at : (t : Bool) → ltb i 29 ≡ t → (u : Bool) → ltb i 32 ≡ u → Dec (i ≡ 29) → Dec (i ≡ 30) → i < 29
    at true q u r x y = ltb-true i 29 q
    at false q u r (yes e) y = not-up 29 c e
    at false q u r (no x) (yes e) = not-up 30 b e
    at false q true r (no x) (no y) = let l = ltb-false i 29 q in let m = ltb-true i 32 r in not-up 31 a (omega arith)
    at false q false r (no x) (no y) = not-up i (bit_high i 32 d small (ltb-false i 32 r)) refl

-- ---- by the tests

module _ (s : List ℕ) (f : Frame) (n : ℕ) where
  pub is_disabled : bit (block_of s).mc n ≡ false → reason_by s f n ≡ Disabled
  is_disabled h = rw h

  pub transmits : bit (block_of s).mc n ≡ true → (f.rtr || bit (block_of s).md n) ≡ false → reason_by s f n ≡ Transmits
  transmits h r = rw (h, r)

  pub is_compared_lem : bit (block_of s).mc n ≡ true → (f.rtr || bit (block_of s).md n) ≡ true → reason_by s f n ≡ compared_reason (bit (filter_guarded (block_of s)) n) (bit (differing_at s f n))
  is_compared_lem h r = rw (h, r)
