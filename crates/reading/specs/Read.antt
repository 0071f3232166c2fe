-- Reading a register.
use Rattle.std.specs.Prelude.{ℕ, ◌+◌, ◌-◌, ◌*◌, Bool, cond, not, ◌&&◌, ◌||◌, List, eqb, leb}
use Rattle.words.specs.Word.{word_at}
use Rattle.registers.specs.Block.{registers_at, block_of}
use Rattle.registers.specs.Status.{ecan, asleep}
use Rattle.reading.specs.Gsr.{gsr}
use Rattle.good.specs.Good.{good_image}
use Rattle.answers.specs.Answer.{Reading, unread}

-- Writing: the number under which the status word GSR is read.
abbrev pub gsr_number : ℕ
gsr_number = 32

-- Document 02, g): the numbers of the masks and of the protection word.
abbrev pub beyond : ℕ → Bool
beyond k = leb 64 k && leb k 96

-- Writing: the registers 0 to 21, GSR of a CAN-B, and, by document 02, g), those words, in both profiles, can be read.
abbrev pub readable : Bool → ℕ → Bool
readable ecan k = leb k 21 || (not ecan && eqb k gsr_number) || beyond k

-- Where the word of a register stands in the image.
unfoldable pub place_of : ℕ → ℕ
place_of k = registers_at + 4 * cond (leb 64 k) (k - 32) k

-- Writing: asleep GSR says empty slot and sleep, whatever TSO is, and every other register reads 0.
abbrev pub sleeping_value : ℕ → ℕ
sleeping_value k = cond (eqb k gsr_number) 0x0001F040 0

-- Writing: awake a register is its word of the image, and GSR is made of several.
abbrev pub waking_value : List ℕ → ℕ → ℕ
waking_value s k = cond (eqb k gsr_number) (gsr (block_of s)) (word_at s (place_of k))

unfoldable pub value : List ℕ → ℕ → ℕ
value s k = cond (asleep (block_of s)) (sleeping_value k) (waking_value s k)

-- Writing: refusal 1 for an image that is not good, then 2 for any other number.
unfoldable pub read : List ℕ → ℕ → Reading
read s k = cond (good_image s) (cond (readable (ecan (block_of s)) k) (record { refusal = 0; value = value s k }) (unread 2)) (unread 1)
