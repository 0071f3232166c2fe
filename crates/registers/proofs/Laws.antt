-- The block that was put into an image is read back, and nothing else of the image moves.
use Prim.Native.Nat.{ℕ, ◌+◌, ◌*◌, ◌^◌, ◌<◌, ◌≤◌}
use mathlib.Core.Path.{◌≡◌, refl, sym, ◌∙◌, ap, subst}
use mathlib.Core.List.{List}
use native.Mathlib.Omega.{arith}
use lib.Dec.{lit<, lit≤}
use lib.ListN.{get_or, length, get_or-append}
use lib.Seq.{get_or-append-add}
use Rattle.words.specs.Word.{word_at, words_of, put_words}
use Rattle.words.proofs.Rows.{word_of, word_of_put, before-put, byte-before-put, after-put, length-put-words}
use Rattle.words.proofs.Again.{put_again, rows_beside}
use Rattle.words.proofs.Bytes.{Bytes, bytes-words}
use Rattle.registers.specs.declared.Block.{Block}
use Rattle.registers.specs.Block.{image_bytes, registers_at, register_words, masks_at, protection_at, block_of, put_block, first_words, last_words, to_words}

-- of two blocks that are put the last one stands
pub put_block_again : (s : List ℕ) (a b : Block) → put_block (put_block s a) b ≡ put_block s b
unfolding put_block
put_block_again s a b =
    let x = put_words s registers_at (first_words a) in
    ap (λ (l : List ℕ). put_words l protection_at (last_words b))
    (sym (rows_beside x registers_at (first_words b) protection_at (last_words a) (lit≤ tt))
    ∙ ap (λ (l : List ℕ). put_words l protection_at (last_words a)) (put_again s registers_at (first_words a) (first_words b) refl))
    ∙ put_again (put_words s registers_at (first_words b)) protection_at (last_words a) (last_words b) refl

-- every word of the block fits its four bytes
abbrev pub Small : Block → Type 0
Small b = (j : ℕ) → j < 30 → get_or (to_words b) j 0 < 2 ^ 32

module _ (s : List ℕ) (b : Block) where
  pub length_block : length (put_block s b) ≡ length s
  unfolding put_block
  length_block = length-put-words _ protection_at (last_words b) ∙ length-put-words s registers_at (first_words b)

  pub bytes_block : Bytes s → Bytes (put_block s b)
  unfolding put_block
  bytes_block h = bytes-words _ protection_at (last_words b) (bytes-words s registers_at (first_words b) h)

  -- a byte of a mailbox stays
  pub byte-stays : (i : ℕ) → i < registers_at → get_or (put_block s b) i 0 ≡ get_or s i 0
  unfolding put_block
  byte-stays i h =
      byte-before-put (put_words s registers_at (first_words b)) protection_at (last_words b) i (omega arith)
      ∙ byte-before-put s registers_at (first_words b) i h

  pub word-stays : (i : ℕ) → i + 4 ≤ registers_at → word_at (put_block s b) i ≡ word_at s i
  unfolding put_block
  word-stays i h =
      before-put (put_words s registers_at (first_words b)) protection_at (last_words b) i (omega arith)
      ∙ before-put s registers_at (first_words b) i h

  -- a spare word stays, and so does a mask
  pub mask-stays : (n : ℕ) → n < 32 → word_at (put_block s b) (masks_at + 4 * n) ≡ word_at s (masks_at + 4 * n)
  unfolding put_block
  mask-stays n h =
      before-put (put_words s registers_at (first_words b)) protection_at (last_words b) (masks_at + 4 * n) (omega arith)
      ∙ after-put s registers_at (first_words b) (masks_at + 4 * n) (omega arith)

  pub spare-stays : (k : ℕ) → 28 ≤ k → k < 64 → word_at (put_block s b) (registers_at + 4 * k) ≡ word_at s (registers_at + 4 * k)
  unfolding put_block
  spare-stays k h l =
      before-put (put_words s registers_at (first_words b)) protection_at (last_words b) (registers_at + 4 * k) (omega arith)
      ∙ after-put s registers_at (first_words b) (registers_at + 4 * k) (omega arith)

  -- behind the image there is nothing to move
  pub past_stays : (i : ℕ) → image_bytes ≤ i → word_at (put_block s b) i ≡ word_at s i
  unfolding put_block
  past_stays i h =
      after-put (put_words s registers_at (first_words b)) protection_at (last_words b) i (omega arith)
      ∙ after-put s registers_at (first_words b) i (omega arith)

  module _ (h : length s ≡ image_bytes) (fit : Small b) where
    first_back : (k : ℕ) → k < 28 → word_at (put_block s b) (registers_at + 4 * k) ≡ get_or (first_words b) k 0
    unfolding put_block
    first_back k hk =
        before-put (put_words s registers_at (first_words b)) protection_at (last_words b) (registers_at + 4 * k) (omega arith)
        ∙ word_of_put s registers_at (first_words b) k
        (λ j l. subst (λ (x : ℕ). x < 2 ^ 32) (get_or-append (first_words b) (last_words b) 0 j l) (fit j (omega arith)))
        (omega arith) hk

    last_back : (k : ℕ) → k < 2 → word_at (put_block s b) (protection_at + 4 * k) ≡ get_or (last_words b) k 0
    unfolding put_block
    last_back k hk =
        let l = length-put-words s registers_at (first_words b) in
        word_of_put (put_words s registers_at (first_words b)) protection_at (last_words b) k
        (λ j l. subst (λ (x : ℕ). x < 2 ^ 32) (get_or-append-add (first_words b) (last_words b) j 0) (fit (28 + j) (omega arith)))
        (omega arith) hk

    pub block_back : block_of (put_block s b) ≡ b
    unfolding block_of
    block_back =
        let w : (k : ℕ) → k < 28 → get_or (words_of (put_block s b) registers_at register_words) k 0 ≡ get_or (first_words b) k 0 =
        λ k hk. word_of (put_block s b) registers_at register_words k (omega arith) ∙ first_back k hk in
        λ i. record { mc = w 0 (lit< tt) i; md = w 1 (lit< tt) i; trs = w 2 (lit< tt) i; trr = w 3 (lit< tt) i; ta = w 4 (lit< tt) i; aa = w 5 (lit< tt) i; rmp = w 6 (lit< tt) i; rml = w 7 (lit< tt) i; lam = w 8 (lit< tt) i; gam = w 9 (lit< tt) i; rfp = w 10 (lit< tt) i; cdr = w 11 (lit< tt) i; mbtif = w 12 (lit< tt) i; mbrif = w 13 (lit< tt) i; mbim = w 14 (lit< tt) i; gif = w 15 (lit< tt) i; gim = w 16 (lit< tt) i; bcr1 = w 17 (lit< tt) i; bcr2 = w 18 (lit< tt) i; tsc = w 19 (lit< tt) i; tec = w 20 (lit< tt) i; rec = w 21 (lit< tt) i; mode = w 22 (lit< tt) i; waiting = w 23 (lit< tt) i; slot = w 24 (lit< tt) i; recovery = w 25 (lit< tt) i; options = w 26 (lit< tt) i; tso = w 27 (lit< tt) i; protection = last_back 0 (lit< tt) i; profile = last_back 1 (lit< tt) i }
