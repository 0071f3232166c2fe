-- The books of mailbox 3 after the run, computed by the checker.
use mathlib.Core.Path.{◌≡◌, refl, ◌∙◌, ap}
use mathlib.Core.Bool.{false}
use mathlib.Core.List.{[], ◌∷◌}
use lib.Dec.{lit≤}
use Rattle.bits.specs.Bit.{digit}
use Rattle.bits.specs.Below.{all_below, count_below, first_below}
use Rattle.words.specs.Word.{word_at, put_word, words_of, put_words}
use Rattle.registers.specs.Block.{block_of, put_block, can_b}
use Rattle.registers.specs.Writes.{direction, requested, cancelled, released, written}
use Rattle.registers.specs.Modes.{asked, risen, entered, settled}
use Rattle.registers.specs.Frames.{listened, stored}
use Rattle.registers.specs.Sending.{sent, failed}
use Rattle.mailboxes.specs.Mailbox.{mailbox, with_mailbox}
use Rattle.mailboxes.specs.Filing.{spliced, filed, stamped}
use Rattle.events.specs.Parts.{quiet, frame_of, frame_allowed}
use Rattle.events.specs.Decode.{register_allowed, decoded}
use Rattle.filter.specs.Filter.{seat, candidates, matches, guarded, takes, hits, found, placed, delivery}
use Rattle.sending.specs.Choice.{chosen, next}
use Rattle.refusals.specs.Refusal.{remaining}
use Rattle.fresh.specs.Fresh.{fresh_block, zero_image, fresh_image}
use Rattle.fresh.proofs.Good.{fresh_facts}
use Rattle.model.specs.Step.{own, goes, delivered, block_after, stowed, masked, unmasked, postmarked, beside_after, named, accepted}
use Rattle.books.specs.Ledger.{store, acknowledge, request, cancel, start, send, fail, sleep, reset, now, row, after, entry, plus, book, books, empty}
use Rattle.books.specs.Happen.{when, direct, happens, history, booked}
use Rattle.sample.specs.Run.{log}
use Rattle.sample.proofs.Pass.{in_row, walked, are_bytes_lem, pass, in_one_pass}

-- computed without the test whether the image is good, which costs the checker more than all else
passed : pass 3 (fresh_image can_b) log
    ≡ store ∷ store ∷ acknowledge ∷ store ∷ request ∷ cancel ∷ request ∷ start ∷ send ∷ request ∷ start ∷ cancel ∷ fail ∷ request ∷ start ∷ fail ∷ sleep ∷ request ∷ reset ∷ []
unfolding digit all_below count_below first_below word_at put_word words_of put_words block_of put_block fresh_block direction requested cancelled released written asked risen entered settled listened stored sent failed mailbox with_mailbox spliced filed stamped quiet frame_of frame_allowed register_allowed decoded seat candidates matches guarded takes hits found placed delivery chosen next remaining zero_image fresh_image own goes delivered block_after stowed masked unmasked postmarked beside_after named accepted when direct happens in_row walked pass log
passed = refl

-- what happens there: two frames, the second over the first, a release, a third frame; then five requests, each with its end
pub happened : history 3 (fresh_image can_b) log
    ≡ store ∷ store ∷ acknowledge ∷ store ∷ request ∷ cancel ∷ request ∷ start ∷ send ∷ request ∷ start ∷ cancel ∷ fail ∷ request ∷ start ∷ fail ∷ sleep ∷ request ∷ reset ∷ []
happened = in_one_pass 3 (fresh_image can_b) log (fresh_facts can_b (lit≤ tt)) (are_bytes_lem log (unfold log in refl)) ∙ passed

-- so: three frames stored, one of them released, one overwritten, one dropped by reset; five requests raised, one of them sent, two
-- aborted (at once, and in the slot), one dropped by sleep, one by reset
pub example : booked can_b 3 log ≡ record { now = now false false false false false; counts = row 3 1 1 1 5 1 2 1 1 }
unfolding after entry plus book books
example = ap (books empty) happened
