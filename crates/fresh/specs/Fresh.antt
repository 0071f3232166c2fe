-- A fresh model.
use Rattle.std.specs.Prelude.{ℕ, cond, List, [], eqb, leb, length, replicate}
use Rattle.bits.specs.Bit.{mask}
use Rattle.registers.specs.declared.Block.{Block}
use Rattle.registers.specs.Block.{image_bytes, of_words, put_block, with_md, with_mode, with_waiting, with_slot, with_profile, configuration, no_mode, empty_slot, e_can}
use Rattle.answers.specs.Answer.{Outcome, refused, accepted}

-- The image, fresh: every register word zero, but bit 31 of a CAN-B's MD up, the mode configuration, no mode waiting, the slot empty;
-- and, by document 02, g), the profile.
abbrev pub zero_block : Block
zero_block = of_words []

abbrev pub fresh_md : ℕ → ℕ
fresh_md profile = cond (eqb profile e_can) 0 (mask 31)

unfoldable pub fresh_block : ℕ → Block
fresh_block profile =
    with_profile (with_slot (with_waiting (with_mode (with_md zero_block (fresh_md profile)) configuration) no_mode) empty_slot) profile

-- As many zero bytes as an image has.
unfoldable pub zero_image : List ℕ
zero_image = replicate image_bytes 0

-- The image, fresh: zero bytes, with the register words of a fresh model.
unfoldable pub fresh_image : ℕ → List ℕ
fresh_image profile = put_block zero_image (fresh_block profile)

-- The image, fresh: any 776 bytes are filled; another length gets refusal 1, then, by document 02, g),
-- another profile refusal 4.
unfoldable pub fresh : List ℕ → ℕ → Outcome
fresh s profile =
    cond (eqb (length s) image_bytes) (cond (leb profile e_can) (accepted (fresh_image profile)) (refused s 4)) (refused s 1)
