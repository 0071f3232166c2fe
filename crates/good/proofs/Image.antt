-- A good image by its facts, both ways; another mailbox or another register block in it.
use Rattle.std.proofs.lemmas.Bool.{and_from}
use Prim.Native.Nat.{ℕ, zero, suc, ◌+◌, ◌*◌, ◌^◌, ◌<◌, ◌≤◌}
use mathlib.Core.Path.{◌≡◌, refl, ◌∙◌}
use mathlib.Core.Bool.{Bool, true, false, ◌&&◌}
use mathlib.Core.List.{List, [], ◌∷◌}
use mathlib.Core.Logic.{inl, inr}
use native.Mathlib.Omega.{arith}
use lib.Dec.{eqb, ltb, lit≤, lit<}
use lib.Pow.{pow_mono}
use native.Mathlib.Nat.{lt_of_lt_of_le}
use lib.ListN.{get_or, length}
use borrow.Author.Tests.{eqb-true, eq-eqb, ltb-true, ltb-false}
use Rattle.bits.proofs.Sets.{and_l, and_r, within_le}
use Rattle.bits.proofs.Below.{each_below, all_below_lem}
use Rattle.bits.specs.Tests.{every}
use Rattle.bits.proofs.Tests.{all, holds}
use Rattle.words.specs.Word.{word_at, words_of}
use Rattle.words.proofs.Rows.{words_same}
use Rattle.words.proofs.Bytes.{Bytes, word_lt}
use Rattle.registers.specs.declared.Block.{Block}
use Rattle.registers.specs.Block.{image_bytes, registers_at, register_words, masks_at, protection_at, profile_at, block_of, put_block, of_parts, to_words, empty_slot}
use Rattle.registers.proofs.Laws.{Small, length_block, bytes_block, word-stays, spare-stays, mask-stays, block_back}
use Rattle.mailboxes.specs.Mailbox.{mailboxes, with_mailbox, layout}
use Rattle.mailboxes.proofs.Laws.{length-with, bytes-with, word_in, word_out}
use Rattle.good.specs.Good.{contents, good_block, good_layouts, good_spare, good_mask, good_masks, good_image}
use Rattle.good.proofs.Facts.{senders, Core, GoodBlock, slot_below, block_facts, block_good}

-- ---- the facts

pub record GoodImage (s : List ℕ) : Type 0 where
  pub bytes : Bytes s
  pub size : length s ≡ image_bytes
  pub layouts : (n : ℕ) → n < mailboxes → layout s n ≡ true
  pub spare : good_spare s ≡ true
  pub masks : (n : ℕ) → n < mailboxes → good_mask s n ≡ true
  pub block : GoodBlock (block_of s)

-- every word of an image fits its four bytes
abbrev pub Fit : List ℕ → Type 0
Fit [] = Unit
Fit (a ∷ l) = (a < 2 ^ 32) × (Fit l)

pub fit_at : (l : List ℕ) → Fit l → (j : ℕ) → j < length l → get_or l j 0 < 2 ^ 32
fit_at [] f j h = absurd (omega arith)
fit_at (a ∷ l) f zero h = f.0
fit_at (a ∷ l) f (suc j) h = fit_at l f.1 j (omega arith)

-- a block whose words can be computed, by two tests of it
abbrev pub all_fit : List ℕ → Bool
all_fit [] = true
all_fit (a ∷ l) = ltb a (2 ^ 32) && all_fit l

computed_fit : (l : List ℕ) → all_fit l ≡ true → Fit l
computed_fit [] h = tt
computed_fit (a ∷ l) h = (ltb-true a (2 ^ 32) (and_l (ltb a (2 ^ 32)) (all_fit l) h), computed_fit l (and_r (ltb a (2 ^ 32)) (all_fit l) h))

pub computed_block : (b : Block) → all_fit (to_words b) ≡ true → good_block b ≡ true → GoodBlock b
computed_block b h = block_facts b (fit_at (to_words b) (computed_fit (to_words b) h))

pub words_fit : (s : List ℕ) → Bytes s → Small (block_of s)
unfolding block_of words_of
words_fit s h =
    fit_at (to_words (block_of s))
    (word_lt s h 512, (word_lt s h 516, (word_lt s h 520, (word_lt s h 524, (word_lt s h 528, (word_lt s h 532, (word_lt s h 536, (word_lt s h 540, (word_lt s h 544, (word_lt s h 548, (word_lt s h 552, (word_lt s h 556, (word_lt s h 560, (word_lt s h 564, (word_lt s h 568, (word_lt s h 572, (word_lt s h 576, (word_lt s h 580, (word_lt s h 584, (word_lt s h 588, (word_lt s h 592, (word_lt s h 596, (word_lt s h 600, (word_lt s h 604, (word_lt s h 608, (word_lt s h 612, (word_lt s h 616, (word_lt s h 620, (word_lt s h 768, (word_lt s h 772, tt))))))))))))))))))))))))))))))

pub good_length : (s : List ℕ) → good_image s ≡ true → length s ≡ image_bytes
unfolding good_image
good_length s g = eqb-true _ _ (and_l (eqb (length s) image_bytes) (every (contents s)) g)

pub good-slot : (s : List ℕ) → good_image s ≡ true → (block_of s).slot ≤ empty_slot
unfolding good_image
good-slot s g =
    slot_below (block_of s) (all (contents s) (and_r (eqb (length s) image_bytes) (every (contents s)) g)).1.1.1.0

pub image_facts : (s : List ℕ) → Bytes s → good_image s ≡ true → GoodImage s
unfolding good_image good_layouts good_masks
image_facts s h g =
    let parts = all (contents s) (and_r (eqb (length s) image_bytes) (every (contents s)) g) in
    record {
      bytes = h;
      size = eqb-true _ _ (and_l (eqb (length s) image_bytes) (every (contents s)) g);
      layouts = each_below (layout s) mailboxes parts.0;
      spare = parts.1.0;
      masks = each_below (good_mask s) mailboxes parts.1.1.0;
      block = block_facts (block_of s) (words_fit s h) parts.1.1.1.0;
    }

pub image-good : (s : List ℕ) → GoodImage s → good_image s ≡ true
unfolding good_image good_layouts good_masks
image-good s f =
    and_from (eqb (length s) image_bytes) (every (contents s)) (eq-eqb _ _ f.size)
    (holds (contents s) (all_below_lem (layout s) mailboxes f.layouts, (f.spare, (all_below_lem (good_mask s) mailboxes f.masks, (block_good (block_of s) f.block, tt)))))

-- ---- every word of a good block fits its four bytes

pub wide_sender : (b : Block) → Core b → (w : ℕ) → w < 2 ^ senders b → w < 2 ^ 32
wide_sender b g w h = let p = g.ranges.profile in lt_of_lt_of_le h (pow_mono {i = senders b} {j = 32} (omega arith))

pub small : (b : Block) → Core b → b.waiting ≤ 4 → Small b
small b g most =
    let w = g.wide in
    let l = g.low in
    let r = g.ranges in
    let p = within_le g.rml in
    let q = within_le g.rfp in
    let n = wide_sender b g in
    fit_at (to_words b)
    (w.mc, (w.md, (n b.trs l.trs, (n b.trr l.trr, (n b.ta l.ta, (n b.aa l.aa, (w.rmp, (omega (arith, w.rmp, p), (w.lam, (w.gam, (omega (arith, w.rmp, q), (n b.cdr l.cdr, (n b.mbtif l.mbtif, (w.mbrif, (w.mbim, (omega (arith, r.gif), (omega (arith, r.gim), (omega (arith, r.bcr1), (omega (arith, r.bcr2), (omega (arith, r.tsc), (omega (arith, r.tec), (omega (arith, r.rec), (omega (arith, r.mode), (omega arith, (omega (arith, r.slot), (omega (arith, r.recovery), (omega (arith, r.options), (omega (arith, r.tso), (w.protection, (omega (arith, r.profile), tt))))))))))))))))))))))))))))))

-- ---- 16 other bytes in the place of a mailbox

-- the register block stays
pub block_stays : (s : List ℕ) (n : ℕ) (m : List ℕ) → length s ≡ image_bytes → n < mailboxes → length m ≡ 16 → block_of (with_mailbox s n m) ≡ block_of s
unfolding block_of
block_stays s n m h l k =
    let room : 16 * n + 16 ≤ length s = omega arith in
    let row = words_same (with_mailbox s n m) s registers_at register_words (λ j i. word_out s n m room k (registers_at + 4 * j) (inr (omega arith))) in
    let guard = word_out s n m room k protection_at (inr (omega arith)) in
    let kind = word_out s n m room k profile_at (inr (omega arith)) in
    λ i. of_parts (row i) (guard i) (kind i)

module _ (s : List ℕ) (n : ℕ) (m : List ℕ) (g : GoodImage s) (hn : n < mailboxes) (size : length m ≡ 16) (byte : Bytes m) (ok : layout m 0 ≡ true) where
  room : 16 * n + 16 ≤ length s
  room = omega (arith, g.size)

  layout-there : (j : ℕ) → j < mailboxes → (t u : Bool) → ltb j n ≡ t → ltb n j ≡ u → layout (with_mailbox s n m) j ≡ true
  unfolding layout
  layout-there j h true u p q =
      let l = ltb-true j n p in
      rw (word_out s n m room size (16 * j + 4 * 0) (inl (omega arith)), word_out s n m room size (16 * j + 4 * 1) (inl (omega arith)))
      (g.layouts j h)
  layout-there j h false true p q =
      let l = ltb-true n j q in
      rw (word_out s n m room size (16 * j + 4 * 0) (inr (omega arith)), word_out s n m room size (16 * j + 4 * 1) (inr (omega arith)))
      (g.layouts j h)
  layout-there j h false false p q =
      let e : j ≡ n = omega (arith, ltb-false j n p, ltb-false n j q) in
      rw (e, word_in s n m room size (4 * 0) (lit≤ tt), word_in s n m room size (4 * 1) (lit≤ tt)) ok

  after : (i : ℕ) → 512 ≤ i → word_at (with_mailbox s n m) i ≡ word_at s i
  after i h = word_out s n m room size i (inr (omega arith))

  pub mailbox_kept : GoodImage (with_mailbox s n m)
  unfolding good_spare
  mailbox_kept =
      record {
        bytes = bytes-with s n m room size g.bytes byte;
        size = length-with s n m room size ∙ g.size;
        layouts = λ j h. layout-there j h (ltb j n) (ltb n j) refl refl;
        spare = rw (after 624 (lit≤ tt), after 628 (lit≤ tt), after 632 (lit≤ tt), after 636 (lit≤ tt)) g.spare;
        masks = λ j h. rw (after (masks_at + 4 * j) (omega arith)) (g.masks j h);
        block = rw (block_stays s n m g.size hn size) g.block;
      }

-- ---- another register block; of the image before, its mailboxes, its spare words and its masks alone matter

module _ (s : List ℕ) (b : Block) (byte : Bytes s) (size : length s ≡ image_bytes) (layouts : (n : ℕ) → n < mailboxes → layout s n ≡ true) (spare : good_spare s ≡ true) (masks : (n : ℕ) → n < mailboxes → good_mask s n ≡ true) (ok : GoodBlock b) where
  pub block_kept : GoodImage (put_block s b)
  unfolding good_spare layout
  block_kept =
      record {
        bytes = bytes_block s b byte;
        size = length_block s b ∙ size;
        layouts =
            λ j h.
            rw (word-stays s b (16 * j + 4 * 0) (omega arith), word-stays s b (16 * j + 4 * 1) (omega arith)) (layouts j h);
        spare =
            rw (spare-stays s b 28 (lit≤ tt) (lit< tt), spare-stays s b 29 (lit≤ tt) (lit< tt), spare-stays s b 30 (lit≤ tt) (lit< tt), spare-stays s b 31 (lit≤ tt) (lit< tt))
            spare;
        masks = λ j h. rw (mask-stays s b j h) (masks j h);
        block = rw (block_back s b size (small b ok.core ok.waits.most)) ok;
      }
