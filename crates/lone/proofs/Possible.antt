-- A tool that has mailbox 0 to send: a fresh model in normal mode, with that mailbox enabled and a request.
use mathlib.Core.Path.{◌≡◌, refl, ap}
use lib.Dec.{lit<, lit≤}
use mathlib.Core.List.{List}
use Prim.Native.Nat.{ℕ}
use Rattle.bits.specs.Bit.{digit}
use Rattle.registers.specs.declared.Block.{Block}
use Rattle.registers.specs.Block.{put_block, with_mc, with_trs, with_mode, can_b}
use Rattle.good.specs.Good.{good_flags, good_numbers, good_slot, good_block}
use Rattle.good.proofs.Facts.{GoodBlock}
use Rattle.good.proofs.Image.{GoodImage, computed_block, block_kept, image-good, small}
use Rattle.fresh.specs.Fresh.{fresh_block, fresh_image}
use Rattle.fresh.proofs.Good.{fresh_facts}
use Rattle.rules.specs.Words.{Words, words, TEC, REC, MODE, SLOT}
use Rattle.rules.specs.Sending.{candidate}
use Rattle.rules.proofs.Blocks.{of_block, put-words}
use Rattle.rules.proofs.Good.{good-rule}
use Rattle.lone.specs.Lone.{Possible}

abbrev sender : Block
sender = with_trs (with_mc (with_mode (fresh_block can_b) 0) 1) 1

abbrev base : List ℕ
base = fresh_image can_b

base-good : GoodImage base
base-good = fresh_facts can_b (lit≤ tt)

abbrev image : List ℕ
image = put_block base sender

sender_good : GoodBlock sender
unfolding fresh_block good_block good_flags good_numbers good_slot digit
sender_good = computed_block sender refl refl

good : GoodImage image
good = block_kept base sender base-good.bytes base-good.size base-good.layouts base-good.spare base-good.masks sender_good

same : words image ≡ of_block (words base) sender
same = put-words base sender base-good.size (small sender sender_good.core sender_good.waits.most)

pub possible : Possible
unfolding Possible fresh_block digit
possible = (
  image,
  record {
    bytes = good.bytes;
    good = good-rule image good.bytes (image-good image good);
    normal = ap (λ (w : Words). w MODE) same;
    vacant = ap (λ (w : Words). w SLOT) same;
    asks = (lit< tt, ap (λ (w : Words). candidate w 0) same);
  },
  ap (λ (w : Words). w TEC) same,
  ap (λ (w : Words). w REC) same,
)
