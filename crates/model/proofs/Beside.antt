-- Bytes written into a mailbox, or into the masks, leave the length of the image and its register block.
use Prim.Native.Nat.{ℕ, ◌+◌, ◌-◌, ◌*◌, ◌<◌, ◌≤◌}
use mathlib.Core.Path.{◌≡◌, refl, ◌∙◌}
use mathlib.Core.Bool.{Bool, true, false, cond}
use mathlib.Core.List.{List}
use native.Mathlib.Omega.{arith}
use lib.Dec.{eqb, leb}
use borrow.Author.Tests.{leb-true}
use Rattle.bits.proofs.Sets.{and_r}
use Rattle.words.specs.Word.{put_word}
use Rattle.events.specs.Decode.{is_mask}
use Rattle.good.proofs.Masked.{mask_beside, zeros_size, zeros_beside}
use lib.ListN.{length}
use Rattle.words.proofs.Laws.{length-put}
use Rattle.registers.specs.Block.{image_bytes, masks_at, block_of}
use Rattle.mailboxes.specs.declared.Identifier.{Identifier}
use Rattle.mailboxes.specs.Mailbox.{mailbox, with_mailbox}
use Rattle.mailboxes.specs.Filing.{filed}
use Rattle.mailboxes.proofs.Laws.{length-mailbox, length-with}
use Rattle.mailboxes.proofs.Filed.{length-filed, length-stamped}
use Rattle.good.proofs.Image.{block_stays}
use Rattle.model.specs.Step.{masked, unmasked, rewritten, postmarked}
use Rattle.model.specs.Parts.{Loaded}

pub record Beside (s t : List ℕ) : Type 0 where
  pub size : length t ≡ length s
  pub block : block_of t ≡ block_of s

module _ (s : List ℕ) (n : ℕ) (h : length s ≡ image_bytes) (l : n < 32) where
  room : 16 * n + 16 ≤ length s
  room = omega arith

  beside : (m : List ℕ) → length m ≡ 16 → Beside s (with_mailbox s n m)
  beside m k = record { size = length-with s n m room k; block = block_stays s n m h l k }

  pub rewritten_beside : (k v : ℕ) → Beside s (rewritten s n k v)
  unfolding rewritten
  rewritten_beside k v = beside _ (length-put (mailbox s n) (4 * k) v ∙ length-mailbox s n room)

  pub filed_beside : (ide rtr : Bool) (i : Identifier) (dlc new tsc : ℕ) → Beside s (with_mailbox s n (filed (mailbox s n) ide rtr i dlc new tsc))
  filed_beside ide rtr i dlc new tsc =
      beside _ (length-filed (mailbox s n) ide rtr i dlc new tsc ∙ length-mailbox s n room)

pub masked_beside : (s : List ℕ) (t v : ℕ) → Beside s (masked s t v)
unfolding masked
masked_beside s t v = at (is_mask t) refl
  where
    at : (u : Bool) → is_mask t ≡ u → Beside s (cond u (put_word s (masks_at + 4 * (t - 64)) v) s)
    at true e =
        let l = leb-true t 95 (and_r (leb 64 t) (leb t 95) e) in
        record { size = length-put s (masks_at + 4 * (t - 64)) v; block = mask_beside s (t - 64) v (omega arith) }
    at false e = record { size = refl; block = refl }

pub unmasked_beside : (s : List ℕ) → Beside s (unmasked s)
unfolding unmasked
unmasked_beside s = record { size = zeros_size 32 0 s; block = zeros_beside 32 0 s (omega arith) }

pub postmarked_beside : (s : List ℕ) (k : ℕ) → Loaded s → (block_of s).slot < 32 → Beside s (cond (eqb k 0) (postmarked s) s)
unfolding postmarked
postmarked_beside s k l filled = at (eqb k 0)
  where
    at : (t : Bool) → Beside s (cond t (postmarked s) s)
    at true =
        beside s (block_of s).slot l.size filled _
        (length-stamped (mailbox s (block_of s).slot) (block_of s).tsc
        ∙ length-mailbox s (block_of s).slot (room s (block_of s).slot l.size filled))
    at false = record { size = refl; block = refl }
