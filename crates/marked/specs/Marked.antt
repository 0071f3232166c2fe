-- The marked numbers, each as what a step leaves or a read answers on a whole image: one table, one statement.
use Rattle.std.specs.Prelude.{ℕ, ◌+◌, ◌*◌, ◌^◌, ◌≡◌, refl, Bool, true, false, ◌&&◌, List, [], ◌∷◌, eqb}
use Rattle.bits.specs.Bit.{digit}
use Rattle.bits.specs.Below.{all_below, count_below, first_below}
use Rattle.answers.specs.Answer.{packed_reading}
use Rattle.mailboxes.specs.declared.Identifier.{Identifier}
use Rattle.mailboxes.specs.Arbitration.{key_of}
use Rattle.words.specs.Word.{word_at, put_word, words_of, put_words}
use Rattle.registers.specs.Block.{block_of, put_block, can_b}
use Rattle.registers.specs.Modes.{ticked, risen, entered, settled}
use Rattle.registers.specs.Frames.{listened}
use Rattle.registers.specs.Sending.{failed}
use Rattle.mailboxes.specs.Mailbox.{mailbox, with_mailbox, layout}
use Rattle.events.specs.Parts.{plain_event, quiet, frame_of, frame_allowed}
use Rattle.filter.specs.Filter.{seat, candidates, matches, guarded, takes, hits, found, placed, delivery}
use Rattle.good.specs.Good.{good_flags, good_numbers, good_slot, good_block, good_layouts, good_spare, good_masks, good_image}
use Rattle.refusals.specs.Refusal.{busy, locked, pointless, refusal}
use Rattle.fresh.specs.Fresh.{fresh_block, zero_image, fresh_image}
use Rattle.reading.specs.Gsr.{gsr}
use Rattle.reading.specs.Read.{place_of, value, read}
use Rattle.model.specs.Step.{own, goes, delivered, block_after, stowed, beside_after, named, accepted, step}

-- What the model gives, beside the number that document 01 marks.
pub record Row : Type 0 where
  pub gives : ℕ
  pub says : ℕ

abbrev pub row : ℕ → ℕ → Row
row g m = record { gives = g; says = m }

-- The standard identifier 0x123 stands in bits 28 to 18.
abbrev pub identifier123 : Identifier
identifier123 = record { 0 = 0x123 * 2 ^ 18 }

-- Images: a word of the fresh one replaced; normal mode; mailbox 0 in the slot, enabled and with its request.
abbrev pub with : ℕ → ℕ → List ℕ → List ℕ
with word value s = put_word s (512 + 4 * word) value

abbrev pub normal : List ℕ
normal = with 22 0 (fresh_image can_b)

abbrev pub sending : List ℕ
sending = with 0 1 (with 2 1 (with 24 0 normal))

-- What a read of register k of an image answers, in the one number that C gets: a refused read is none of the numbers below. The same
-- of the image that an event leaves.
abbrev pub reads : List ℕ → ℕ → ℕ
reads s k = packed_reading (read s k).refusal (read s k).value

abbrev pub after : List ℕ → ℕ → ℕ → ℕ → ℕ
after s op target k = reads (step s (plain_event op target 0)).image k

unfoldable pub table : List Row
table =
    row (key_of identifier123 false false).0 0x24600000
    ∷ row (key_of identifier123 false true).0 0x24700000
    ∷ row (key_of identifier123 true false).0 0x24780000
    ∷ row (reads (fresh_image can_b) 32) 0x1F080
    ∷ row (reads normal 32) 0x1F000
    ∷ row (reads (with 22 3 (fresh_image can_b)) 32) 0x1F100
    ∷ row (after (with 20 248 sending) 4 2 20) 256
    ∷ row (after (with 20 247 sending) 4 2 20) 255
    ∷ row (reads (with 20 96 normal) 32) 0x1F000
    ∷ row (reads (with 20 97 normal) 32) 0x1F001
    ∷ row (after (with 19 65535 normal) 7 0 19) 0
    ∷ row (after (with 21 200 normal) 2 0 21) 127
    ∷ []

unfoldable pub agrees : List Row → Bool
agrees [] = true
agrees (r ∷ l) = eqb r.gives r.says && agrees l

-- Marked numbers: every row agrees.
pub marked : agrees table ≡ true
unfolding digit all_below count_below first_below word_at put_word words_of put_words block_of put_block fresh_block zero_image fresh_image listened ticked failed risen entered settled mailbox with_mailbox layout quiet frame_of frame_allowed seat candidates matches guarded takes hits found placed delivery good_flags good_numbers good_slot good_block good_layouts good_spare good_masks good_image busy locked pointless refusal own goes delivered block_after stowed beside_after named accepted step gsr place_of value read key_of table agrees
marked = refl
