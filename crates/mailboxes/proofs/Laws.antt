-- A mailbox replaced by any 16 bytes: it is what was put, and every other byte stays.
use Prim.Native.Nat.{ℕ, ◌+◌, ◌-◌, ◌*◌, ◌<◌, ◌≤◌}
use mathlib.Core.Path.{◌≡◌, sym, ◌∙◌, ap}
use mathlib.Core.List.{List, ◌++◌}
use mathlib.Core.Logic.{◌⊎◌, inl, inr}
use native.Mathlib.Omega.{arith}
use lib.ListN.{get_or, length, take, drop, length-append, length-drop, get_or-append}
use lib.Seq.{get_or-append-add, get_or-take, get_or-drop, length-take-le, drop-drop}
use borrow.Rule.Slice.PartMut.{put_mid}
use Rattle.words.specs.Word.{word_at}
use Rattle.words.proofs.Laws.{word_by_bytes}
use Rattle.words.proofs.Bytes.{Bytes, bytes_take, bytes_drop, bytes-append}
use Rattle.mailboxes.specs.Mailbox.{mailbox, with_mailbox}

-- ---- the 16 bytes of mailbox n

module _ (s : List ℕ) (n : ℕ) where
  pub length-mailbox : 16 * n + 16 ≤ length s → length (mailbox s n) ≡ 16
  unfolding mailbox
  length-mailbox h = length-take-le 16 (drop (16 * n) s) (simp length-drop (omega arith))

  pub bytes-mailbox : Bytes s → Bytes (mailbox s n)
  unfolding mailbox
  bytes-mailbox h = bytes_take 16 (drop (16 * n) s) (bytes_drop (16 * n) s h)

  byte_of : (i : ℕ) → i < 16 → get_or (mailbox s n) i 0 ≡ get_or s (16 * n + i) 0
  unfolding mailbox
  byte_of i h = get_or-take 16 (drop (16 * n) s) i 0 h ∙ get_or-drop (16 * n) s i 0

  pub word_of : (i : ℕ) → i + 4 ≤ 16 → word_at (mailbox s n) i ≡ word_at s (16 * n + i)
  word_of i h =
      word_by_bytes (mailbox s n) s i (16 * n + i)
      (λ k l. byte_of (i + k) (omega arith) ∙ ap (λ (j : ℕ). get_or s j 0) (omega arith))

-- ---- an image with 16 other bytes there

module _ (s : List ℕ) (n : ℕ) (m : List ℕ) (room : 16 * n + 16 ≤ length s) (size : length m ≡ 16) where
  front : length (take (16 * n) s) ≡ 16 * n
  front = length-take-le (16 * n) s (omega arith)

  pub length-with : length (with_mailbox s n m) ≡ length s
  unfolding with_mailbox
  length-with = simp (length-append, length-drop) (omega (arith, front))

  pub bytes-with : Bytes s → Bytes m → Bytes (with_mailbox s n m)
  unfolding with_mailbox
  bytes-with h k =
      bytes-append (take (16 * n) s) _ (bytes_take (16 * n) s h) (bytes-append m _ k (bytes_drop (16 * n + 16) s h))

  -- the bytes that were put
  pub byte_in : (i : ℕ) → i < 16 → get_or (with_mailbox s n m) (16 * n + i) 0 ≡ get_or m i 0
  unfolding with_mailbox
  byte_in i h =
      ap (λ (k : ℕ). get_or (with_mailbox s n m) (k + i) 0) (sym front)
      ∙ get_or-append-add (take (16 * n) s) (m ++ drop (16 * n + 16) s) i 0
      ∙ get_or-append m (drop (16 * n + 16) s) 0 i (omega arith)

  -- every other byte, before and after
  pub byte_out : (i : ℕ) → ((i < 16 * n) ⊎ (16 * n + 16 ≤ i)) → get_or (with_mailbox s n m) i 0 ≡ get_or s i 0
  unfolding with_mailbox
  byte_out i (inl h) =
      get_or-append (take (16 * n) s) _ 0 i (omega (arith, front)) ∙ get_or-take (16 * n) s i 0 h
  byte_out i (inr h) =
      let j = i - (16 * n + 16) in
      let e : i ≡ length (take (16 * n) s) + (length m + j) = omega (arith, front) in
      let f : 16 * n + 16 + j ≡ i = omega arith in
      ap (λ (k : ℕ). get_or (with_mailbox s n m) k 0) e
      ∙ get_or-append-add (take (16 * n) s) (m ++ drop (16 * n + 16) s) (length m + j) 0
      ∙ get_or-append-add m (drop (16 * n + 16) s) j 0
      ∙ get_or-drop (16 * n + 16) s j 0
      ∙ ap (λ (k : ℕ). get_or s k 0) f

  -- the same by words
  pub word_in : (i : ℕ) → i + 4 ≤ 16 → word_at (with_mailbox s n m) (16 * n + i) ≡ word_at m i
  word_in i h =
      word_by_bytes (with_mailbox s n m) m (16 * n + i) i
      (λ k l. ap (λ (j : ℕ). get_or (with_mailbox s n m) j 0) (omega arith) ∙ byte_in (i + k) (omega arith))

  pub word_out : (i : ℕ) → ((i + 4 ≤ 16 * n) ⊎ (16 * n + 16 ≤ i)) → word_at (with_mailbox s n m) i ≡ word_at s i
  word_out i (inl h) = word_by_bytes (with_mailbox s n m) s i i (λ k l. byte_out (i + k) (inl (omega arith)))
  word_out i (inr h) = word_by_bytes (with_mailbox s n m) s i i (λ k l. byte_out (i + k) (inr (omega arith)))

-- ---- what a writer leaves of the mailbox that it was lent

pub lent : (s : List ℕ) (n : ℕ) (write : List ℕ → List ℕ) (m : List ℕ) → m ≡ write (take (16 * n + 16 - 16 * n) (drop (16 * n) s))
    → put_mid (16 * n) (16 * n + 16 - 16 * n) s m ≡ with_mailbox s n (write (mailbox s n))
unfolding mailbox with_mailbox
lent s n write m e =
    let size : 16 * n + 16 - 16 * n ≡ 16 = omega arith in
    rw (e, size, drop-drop)
