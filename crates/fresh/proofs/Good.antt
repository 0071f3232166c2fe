-- The fresh image is good.
use Prim.Native.Nat.{ℕ, zero, suc, ◌+◌, ◌*◌, ◌≤◌}
use mathlib.Core.Path.{◌≡◌, refl, ap}
use mathlib.Core.Bool.{true}
use native.Mathlib.Omega.{arith}
use lib.Dec.{lit<}
use lib.ListN.{get_or, length, replicate, length-replicate}
use Rattle.bits.specs.Bit.{digit}
use Rattle.words.specs.Word.{word_at}
use Rattle.registers.specs.Block.{image_bytes, registers_at, masks_at, can_b, e_can}
use Rattle.mailboxes.specs.Mailbox.{layout}
use Rattle.good.specs.Good.{good_flags, good_numbers, good_slot, good_block, good_spare, good_mask, good_image}
use Rattle.good.proofs.Facts.{GoodBlock}
use Rattle.good.proofs.Image.{GoodImage, computed_block, block_kept, image-good}
use Rattle.fresh.specs.Fresh.{fresh_block, zero_image, fresh_image}

zero-byte : (n i : ℕ) → ◌≡◌ {A = ℕ} (get_or (replicate n 0) i 0) 0
zero-byte zero i = refl
zero-byte (suc n) zero = refl
zero-byte (suc n) (suc i) = zero-byte n i

zero-image-byte : (i : ℕ) → ◌≡◌ {A = ℕ} (get_or zero_image i 0) 0
unfolding zero_image
zero-image-byte i = zero-byte image_bytes i

pub zero-length : length zero_image ≡ image_bytes
unfolding zero_image
zero-length = length-replicate {A = ℕ} image_bytes 0

-- zeros of an image's length are the zero image
pub zeros : (n : ℕ) → n ≡ image_bytes → replicate {A = ℕ} n 0 ≡ zero_image
unfolding zero_image
zeros n e = ap (λ (k : ℕ). replicate {A = ℕ} k 0) e

pub zero_word : (i : ℕ) → word_at zero_image i ≡ 0
unfolding word_at
zero_word i = rw (zero-image-byte i, zero-image-byte (i + 1), zero-image-byte (i + 2), zero-image-byte (i + 3))

zero-layout : (j : ℕ) → layout zero_image j ≡ true
unfolding layout digit
zero-layout j = rw (zero_word (16 * j + 4 * 0), zero_word (16 * j + 4 * 1))

zero-spare : good_spare zero_image ≡ true
unfolding good_spare
zero-spare =
    rw (zero_word (registers_at + 4 * 28), zero_word (registers_at + 4 * 29), zero_word (registers_at + 4 * 30), zero_word (registers_at + 4 * 31))

zero-mask : (n : ℕ) → good_mask zero_image n ≡ true
zero-mask n = rw (zero_word (masks_at + 4 * n))

-- of either profile
pub fresh_block_lem : (p : ℕ) → p ≤ e_can → GoodBlock (fresh_block p)
unfolding fresh_block good_block good_flags good_numbers good_slot digit
fresh_block_lem zero h = computed_block (fresh_block can_b) refl refl
fresh_block_lem (suc zero) h = computed_block (fresh_block e_can) refl refl
fresh_block_lem (suc (suc p)) h = absurd (omega arith)

pub fresh_facts : (p : ℕ) → p ≤ e_can → GoodImage (fresh_image p)
unfolding fresh_image
fresh_facts p h =
    block_kept zero_image (fresh_block p)
    (record { small = λ i. rw (zero-image-byte i) (lit< tt) })
    zero-length
    (λ n h. zero-layout n)
    zero-spare
    (λ n h. zero-mask n)
    (fresh_block_lem p h)

pub fresh-good : (p : ℕ) → p ≤ e_can → good_image (fresh_image p) ≡ true
fresh-good p h = image-good (fresh_image p) (fresh_facts p h)
