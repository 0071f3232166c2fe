-- A mailbox in the image: its 16 bytes, its four words and their layout.
use Rattle.std.specs.Prelude.{ℕ, zero, suc, ◌+◌, ◌*◌, ◌/◌, ◌%◌, ◌^◌, Bool, true, ◌&&◌, ◌||◌, List, ◌++◌, eqb, take, drop}
use Rattle.bits.specs.Bit.{bit}
use Rattle.words.specs.Word.{word_at}

-- The image: how many mailboxes there are.
abbrev pub mailboxes : ℕ
mailboxes = 32

-- The image: mailbox n is 16 bytes of its own, n times 16 bytes in.
unfoldable pub mailbox : List ℕ → ℕ → List ℕ
mailbox s n = take 16 (drop (16 * n) s)

-- An image with the bytes m in the place of mailbox n; every other byte as it was.
unfoldable pub with_mailbox : List ℕ → ℕ → List ℕ → List ℕ
with_mailbox s n m = take (16 * n) s ++ (m ++ drop (16 * n + 16) s)

-- Word k of mailbox n.
abbrev pub mailbox_word : List ℕ → ℕ → ℕ → ℕ
mailbox_word s n k = word_at s (16 * n + 4 * k)

-- The image, word 0 of a mailbox: IDE in bit 31, GAME or LAME in bit 30, RFH in bit 29, the identifier below.
abbrev pub ide : ℕ → Bool
ide w = bit w 31

abbrev pub maskable : ℕ → Bool
maskable w = bit w 30

abbrev pub rfh : ℕ → Bool
rfh w = bit w 29

abbrev pub identifier : ℕ → ℕ
identifier w = w % 2 ^ 29

-- The image, word 1 of a mailbox: the time stamp from bit 16 on, RTR in bit 4, DLC below.
abbrev pub stamp : ℕ → ℕ
stamp w = w / 2 ^ 16

abbrev pub rtr : ℕ → Bool
rtr w = bit w 4

abbrev pub dlc : ℕ → ℕ
dlc w = w % 2 ^ 4

-- The image: what word k of a mailbox may be. A standard identifier leaves bits 17 to 0 of word 0 zero; bits 15 to 5 of
-- word 1 are zero, its DLC may be any; data words are free.
abbrev pub word_layout : ℕ → ℕ → Bool
word_layout zero w = ide w || eqb (w % 2 ^ 18) 0
word_layout (suc zero) w = eqb (w / 2 ^ 5 % 2 ^ 11) 0
word_layout (suc (suc k)) w = true

-- Mailbox n keeps to the layout.
unfoldable pub layout : List ℕ → ℕ → Bool
layout s n = word_layout 0 (mailbox_word s n 0) && word_layout 1 (mailbox_word s n 1)
