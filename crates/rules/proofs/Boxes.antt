-- The step meets the rule of mailbox words.
use Prim.Native.Nat.{ℕ, ◌+◌, ◌*◌, ◌^◌, ◌<◌, ◌≤◌}
use mathlib.Core.Path.{◌≡◌, ◌∙◌}
use mathlib.Core.List.{List}
use mathlib.Core.Logic.{◌⊎◌, inl, inr, ◌≢◌}
use native.Mathlib.Decide.{dec_lt}
use native.Mathlib.Omega.{arith}
use lib.ListN.{length}
use borrow.Author.Tests.{eqb-false}
use Rattle.words.specs.Word.{word_at, put_word}
use Rattle.words.proofs.Laws.{length-put, word_same, word-other}
use Rattle.registers.specs.declared.Block.{Block}
use Rattle.registers.specs.Block.{put_block}
use Rattle.registers.proofs.Laws.{byte-stays, word-stays}
use Rattle.mailboxes.specs.Mailbox.{mailbox, with_mailbox}
use Rattle.mailboxes.proofs.Laws.{length-mailbox, word_of, byte_out, word_in}
use Rattle.good.proofs.Image.{GoodImage}
use Rattle.rules.specs.Words.{box, BoxesStayBut}
use Rattle.rules.specs.Writing.{BoxWrite}

module _ (s : List ℕ) (g : GoodImage s) (n : ℕ) (there : n < 32) (b : Block) where
  room : 16 * n + 16 ≤ length s
  room = omega (arith, g.size)

  abbrev m : List ℕ
  m = mailbox s n

  size : length m ≡ 16
  size = length-mailbox s n room

  module _ (j v : ℕ) (known : j < 4) where
    abbrev m' : List ℕ
    m' = put_word m (4 * j) v

    abbrev x : List ℕ
    x = put_block (with_mailbox s n m') b

    size' : length m' ≡ 16
    size' = length-put m (4 * j) v ∙ size

    word-at : (i : ℕ) → i < 4 → box x n i ≡ word_at m' (4 * i)
    word-at i h = word-stays (with_mailbox s n m') b (16 * n + 4 * i) (omega arith) ∙ word_in s n m' room size' (4 * i) (omega arith)

    apart : (i : ℕ) → i ≢ j → ((4 * i + 4 ≤ 4 * j) ⊎ (4 * j + 4 ≤ 4 * i))
    apart i d = at (dec_lt i j)
      where
        at : Dec (i < j) → ((4 * i + 4 ≤ 4 * j) ⊎ (4 * j + 4 ≤ 4 * i))
        at (yes l) = inl (omega arith)
        at (no l) = inr (omega arith)

    others : (i : ℕ) → i < 4 → i ≢ j → box x n i ≡ box s n i
    others i h d = word-at i h ∙ word-other m (4 * j) v (4 * i) (apart i d) ∙ word_of s n (4 * i) (omega arith)

    elsewhere : BoxesStayBut n s x
    elsewhere i l o = byte-stays (with_mailbox s n m') b i l ∙ byte_out s n m' room size' i o

    taken : v < 2 ^ 32 → box x n j ≡ v
    taken h = word-at j known ∙ word_same m (4 * j) v (omega (arith, size)) h

    pub box-write : v < 2 ^ 32 → BoxWrite n j v s x
    box-write h = record { takes = taken h; others = λ i l d. others i l (eqb-false i j d); elsewhere = elsewhere }
