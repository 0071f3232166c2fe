-- The vocabulary of the rulebook: bytes, words, bits; the register words by name; what stays. Of the product's other definitions the
-- rulebook takes the bit of a word, the word at a place in bytes, "all" and "how many" below a bound, and what an outcome and a reading
-- are made of.
use Rattle.std.specs.Prelude.{ℕ, ◌+◌, ◌-◌, ◌*◌, ◌<◌, ◌≤◌, ◌≡◌, Bool, false, cond, not, ◌&&◌, ◌||◌, List, [], ◌∷◌, ◌⊎◌, eqb, ltb, leb, get_or}
use Rattle.bits.specs.Bit.{bit}
use Rattle.bits.specs.Below.{all_below}
use Rattle.words.specs.Word.{word_at}

infix 50 ◌has◌ ◌is◌
infix 4 ◌has_bits◌
-- Is bit n of the word w up?
abbrev pub ◌has◌ : ℕ → ℕ → Bool
w has n = bit w n

-- Are two numbers the same?
abbrev pub ◌is◌ : ℕ → ℕ → Bool
a is b = eqb a b

-- Bit n of the word w is up exactly where f says so, whatever n is. Words with the same bits are the same.
abbrev pub ◌has_bits◌ : ℕ → (ℕ → Bool) → Type 0
w has_bits f = (n : ℕ) → (w has n) ≡ f n

-- x, but not more than k.
abbrev pub at_most : ℕ → ℕ → ℕ
at_most k x = cond (ltb k x) k x

-- Is number k on the list?
abbrev pub among : ℕ → List ℕ → Bool
among k [] = false
among k (a ∷ l) = k is a || among k l

-- Is there a mailbox of which p holds?
abbrev pub any : (ℕ → Bool) → Bool
any p = not (all_below (λ n. not (p n)) 32)

-- The image: byte i; register word k, the first of them at byte 512; word j of mailbox n, each mailbox having 16 bytes.
abbrev pub byte : List ℕ → ℕ → ℕ
byte s i = get_or s i 0

abbrev pub Words : Type 0
Words = ℕ → ℕ

abbrev pub words : List ℕ → Words
words s k = word_at s (512 + 4 * k)

abbrev pub box : List ℕ → ℕ → ℕ → ℕ
box s n j = word_at s (16 * n + 4 * j)

-- The image: the numbers of the register words.
abbrev pub MC : ℕ
MC = 0

abbrev pub MD : ℕ
MD = 1

abbrev pub TRS : ℕ
TRS = 2

abbrev pub TRR : ℕ
TRR = 3

abbrev pub TA : ℕ
TA = 4

abbrev pub AA : ℕ
AA = 5

abbrev pub RMP : ℕ
RMP = 6

abbrev pub RML : ℕ
RML = 7

abbrev pub LAM : ℕ
LAM = 8

abbrev pub GAM : ℕ
GAM = 9

abbrev pub RFP : ℕ
RFP = 10

abbrev pub CDR : ℕ
CDR = 11

abbrev pub MBTIF : ℕ
MBTIF = 12

abbrev pub MBRIF : ℕ
MBRIF = 13

abbrev pub MBIM : ℕ
MBIM = 14

abbrev pub GIF : ℕ
GIF = 15

abbrev pub GIM : ℕ
GIM = 16

abbrev pub BCR1 : ℕ
BCR1 = 17

abbrev pub BCR2 : ℕ
BCR2 = 18

abbrev pub TSC : ℕ
TSC = 19

abbrev pub TEC : ℕ
TEC = 20

abbrev pub REC : ℕ
REC = 21

abbrev pub MODE : ℕ
MODE = 22

abbrev pub WAITING : ℕ
WAITING = 23

abbrev pub SLOT : ℕ
SLOT = 24

abbrev pub RECOVERY : ℕ
RECOVERY = 25

abbrev pub OPTIONS : ℕ
OPTIONS = 26

abbrev pub TSO : ℕ
TSO = 27

-- Document 02, g): behind them, in the same count, the mask of each mailbox, that of mailbox n at MASKS + n; the protection word; the profile.
abbrev pub MASKS : ℕ
MASKS = 32

abbrev pub PROTECTION : ℕ
PROTECTION = 64

abbrev pub PROFILE : ℕ
PROFILE = 65

-- Document 02, g): the profile says which controller it is: 0 the CAN-B, 1 the eCAN.
abbrev pub e_can : Words → Bool
e_can w = w PROFILE is 1

-- Document 02, g): the slot where no mailbox is being sent.
abbrev pub empty_slot : ℕ
empty_slot = 32

-- Document 02, g): mailbox 31 of a CAN-B only receives; every other mailbox can do both.
abbrev pub only_receives : Words → ℕ → Bool
only_receives w n = not (e_can w) && n is 31

-- Document 02, g): the registers 64 to 96, which are the masks and the protection word; and which word is that of register t.
abbrev pub added : ℕ → Bool
added t = leb 64 t && leb t 96

abbrev pub place : ℕ → ℕ
place t = cond (leb 64 t) (t - 32) t

-- Document 02, g): is register t a mask? LAM and GAM are, and those of the mailboxes.
abbrev pub is_mask : ℕ → Bool
is_mask t = among t (LAM ∷ GAM ∷ []) || leb 64 t && leb t 95

-- Between the words that were and those that are now, only the listed ones may differ: all others stay.
abbrev pub Only : List ℕ → Words → Words → Type 0
Only l was now = (k : ℕ) → among k l ≡ false → now k ≡ was k

-- Between the images s and x, of the mailboxes' bytes only those of mailbox n may differ; with 32 none may.
abbrev pub BoxesStayBut : ℕ → List ℕ → List ℕ → Type 0
BoxesStayBut n s x = (i : ℕ) → i < 512 → ((i < 16 * n) ⊎ (16 * n + 16 ≤ i)) → byte x i ≡ byte s i
