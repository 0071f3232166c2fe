-- The register block, and where it stands in the image.
use Rattle.std.specs.Prelude.{ℕ, ◌+◌, ◌*◌, List, [], ◌∷◌, ◌++◌, get_or, set}
use Rattle.words.specs.Word.{word_at, words_of, put_words}
use Rattle.registers.specs.declared.Block.{Block}

-- The image: its length, the place of the first register word and how many the block has there.
abbrev pub image_bytes : ℕ
image_bytes = 776

abbrev pub registers_at : ℕ
registers_at = 512

abbrev pub register_words : ℕ
register_words = 28

-- Document 02, g), the image from byte 640 on: a mask for each mailbox, then the protection word, then the profile.
abbrev pub masks_at : ℕ
masks_at = 640

abbrev pub mask_word : List ℕ → ℕ → ℕ
mask_word s n = word_at s (masks_at + 4 * n)

abbrev pub protection_at : ℕ
protection_at = 768

abbrev pub profile_at : ℕ
profile_at = 772

-- The image, words from 512: which word is which register. The words 28 to 31 are no part of the block; the protection word and
-- the profile are its last two.
abbrev pub of_parts : List ℕ → ℕ → ℕ → Block
of_parts row guard kind =
    record { mc = get_or row 0 0; md = get_or row 1 0; trs = get_or row 2 0; trr = get_or row 3 0; ta = get_or row 4 0; aa = get_or row 5 0; rmp = get_or row 6 0; rml = get_or row 7 0; lam = get_or row 8 0; gam = get_or row 9 0; rfp = get_or row 10 0; cdr = get_or row 11 0; mbtif = get_or row 12 0; mbrif = get_or row 13 0; mbim = get_or row 14 0; gif = get_or row 15 0; gim = get_or row 16 0; bcr1 = get_or row 17 0; bcr2 = get_or row 18 0; tsc = get_or row 19 0; tec = get_or row 20 0; rec = get_or row 21 0; mode = get_or row 22 0; waiting = get_or row 23 0; slot = get_or row 24 0; recovery = get_or row 25 0; options = get_or row 26 0; tso = get_or row 27 0; protection = guard; profile = kind }

abbrev pub of_words : List ℕ → Block
of_words row = of_parts row (get_or row 28 0) (get_or row 29 0)

-- The words that stand from 512 on, and the two at the image's end.
abbrev pub first_words : Block → List ℕ
first_words b =
    b.mc ∷ b.md ∷ b.trs ∷ b.trr ∷ b.ta ∷ b.aa ∷ b.rmp ∷ b.rml ∷ b.lam ∷ b.gam ∷ b.rfp ∷ b.cdr ∷ b.mbtif ∷ b.mbrif ∷ b.mbim ∷ b.gif ∷ b.gim ∷ b.bcr1 ∷ b.bcr2 ∷ b.tsc ∷ b.tec ∷ b.rec ∷ b.mode ∷ b.waiting ∷ b.slot ∷ b.recovery ∷ b.options ∷ b.tso ∷ []

abbrev pub last_words : Block → List ℕ
last_words b = b.protection ∷ b.profile ∷ []

abbrev pub to_words : Block → List ℕ
to_words b = first_words b ++ last_words b

-- The block of an image, and an image with another block: its words replaced, every other byte as it was.
unfoldable pub block_of : List ℕ → Block
block_of s = of_parts (words_of s registers_at register_words) (word_at s protection_at) (word_at s profile_at)

unfoldable pub put_block : List ℕ → Block → List ℕ
put_block s b = put_words (put_words s registers_at (first_words b)) protection_at (last_words b)

-- A block with the word k replaced; at a numeral k this computes.
abbrev pub with_word : Block → ℕ → ℕ → Block
with_word b k v = of_words (set (to_words b) k v)

abbrev pub with_mc : Block → ℕ → Block
with_mc b v = with_word b 0 v

abbrev pub with_md : Block → ℕ → Block
with_md b v = with_word b 1 v

abbrev pub with_trs : Block → ℕ → Block
with_trs b v = with_word b 2 v

abbrev pub with_trr : Block → ℕ → Block
with_trr b v = with_word b 3 v

abbrev pub with_ta : Block → ℕ → Block
with_ta b v = with_word b 4 v

abbrev pub with_aa : Block → ℕ → Block
with_aa b v = with_word b 5 v

abbrev pub with_rmp : Block → ℕ → Block
with_rmp b v = with_word b 6 v

abbrev pub with_rml : Block → ℕ → Block
with_rml b v = with_word b 7 v

abbrev pub with_lam : Block → ℕ → Block
with_lam b v = with_word b 8 v

abbrev pub with_gam : Block → ℕ → Block
with_gam b v = with_word b 9 v

abbrev pub with_rfp : Block → ℕ → Block
with_rfp b v = with_word b 10 v

abbrev pub with_cdr : Block → ℕ → Block
with_cdr b v = with_word b 11 v

abbrev pub with_mbtif : Block → ℕ → Block
with_mbtif b v = with_word b 12 v

abbrev pub with_mbrif : Block → ℕ → Block
with_mbrif b v = with_word b 13 v

abbrev pub with_mbim : Block → ℕ → Block
with_mbim b v = with_word b 14 v

abbrev pub with_gif : Block → ℕ → Block
with_gif b v = with_word b 15 v

abbrev pub with_gim : Block → ℕ → Block
with_gim b v = with_word b 16 v

abbrev pub with_bcr1 : Block → ℕ → Block
with_bcr1 b v = with_word b 17 v

abbrev pub with_bcr2 : Block → ℕ → Block
with_bcr2 b v = with_word b 18 v

abbrev pub with_tsc : Block → ℕ → Block
with_tsc b v = with_word b 19 v

abbrev pub with_tec : Block → ℕ → Block
with_tec b v = with_word b 20 v

abbrev pub with_rec : Block → ℕ → Block
with_rec b v = with_word b 21 v

abbrev pub with_mode : Block → ℕ → Block
with_mode b v = with_word b 22 v

abbrev pub with_waiting : Block → ℕ → Block
with_waiting b v = with_word b 23 v

abbrev pub with_slot : Block → ℕ → Block
with_slot b v = with_word b 24 v

abbrev pub with_recovery : Block → ℕ → Block
with_recovery b v = with_word b 25 v

abbrev pub with_options : Block → ℕ → Block
with_options b v = with_word b 26 v

abbrev pub with_tso : Block → ℕ → Block
with_tso b v = with_word b 27 v

abbrev pub with_protection : Block → ℕ → Block
with_protection b v = with_word b 28 v

abbrev pub with_profile : Block → ℕ → Block
with_profile b v = with_word b 29 v

-- The image, word 22: the four modes; word 23: no mode waits; word 24: the slot is empty.
abbrev pub normal : ℕ
normal = 0

abbrev pub configuration : ℕ
configuration = 1

abbrev pub sleep : ℕ
sleep = 2

abbrev pub suspend : ℕ
suspend = 3

abbrev pub no_mode : ℕ
no_mode = 4

abbrev pub empty_slot : ℕ
empty_slot = 32

-- Document 02, g), the last word of the image: the two profiles, CAN-B and eCAN.
abbrev pub can_b : ℕ
can_b = 0

abbrev pub e_can : ℕ
e_can = 1

-- The image, word 20: the transmit error counter that means bus off.
abbrev pub bus_off_at : ℕ
bus_off_at = 256
