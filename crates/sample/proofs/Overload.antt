-- What is seen of the worked case of overwrite protection, and how many frames were passed over, computed by the checker.
use mathlib.Core.Path.{◌≡◌, refl, ◌∙◌}
use lib.Dec.{lit≤}
use Rattle.bits.specs.Bit.{digit}
use Rattle.bits.specs.Below.{all_below, count_below, first_below}
use Rattle.words.specs.Word.{word_at, put_word, words_of, put_words}
use Rattle.registers.specs.Block.{block_of, put_block, e_can}
use Rattle.registers.specs.Writes.{direction, written}
use Rattle.registers.specs.Modes.{asked, risen, entered, settled}
use Rattle.registers.specs.Frames.{listened, stored}
use Rattle.mailboxes.specs.Mailbox.{mailbox, with_mailbox}
use Rattle.mailboxes.specs.Filing.{spliced, filed}
use Rattle.events.specs.Parts.{quiet, frame_of, frame_allowed}
use Rattle.events.specs.Decode.{register_allowed, decoded}
use Rattle.filter.specs.Filter.{seat, candidates, matches, guarded, takes, hits, passes, found, placed, passed_over, delivery}
use Rattle.refusals.specs.Refusal.{remaining}
use Rattle.fresh.specs.Fresh.{fresh_block, zero_image, fresh_image}
use Rattle.fresh.proofs.Good.{fresh_facts}
use Rattle.model.specs.Step.{own, goes, delivered, block_after, stowed, rewritten, masked, beside_after, named}
use Rattle.books.specs.Frames.{passed_in}
use Rattle.sample.specs.Overload.{overload, story, watch}
use Rattle.sample.proofs.Pass.{in_row, walked, are_bytes_lem, glances, tally, AllBytes, in_one_tally, in_one-watch}

bytes : AllBytes overload
bytes = are_bytes_lem overload (unfold overload in refl)

glanced : glances (fresh_image e_can) overload ≡ story
unfolding digit all_below count_below first_below word_at put_word words_of put_words block_of put_block fresh_block direction written asked risen entered settled listened stored mailbox with_mailbox spliced filed quiet frame_of frame_allowed register_allowed decoded seat candidates matches guarded takes hits found placed delivery remaining zero_image fresh_image own goes delivered block_after stowed rewritten masked beside_after named in_row walked glances overload
glanced = refl

pub seen_so : watch (fresh_image e_can) overload ≡ story
seen_so = in_one-watch (fresh_image e_can) overload (fresh_facts e_can (lit≤ tt)) bytes ∙ glanced

tallied : tally passed_over (fresh_image e_can) overload ≡ 1
unfolding digit all_below count_below first_below word_at put_word words_of put_words block_of put_block fresh_block direction written asked risen entered settled listened stored mailbox with_mailbox spliced filed quiet frame_of frame_allowed register_allowed decoded seat candidates matches guarded takes hits passes found placed passed_over delivery remaining zero_image fresh_image own goes delivered block_after stowed rewritten masked beside_after in_row walked tally overload
tallied = refl

-- one frame of the five was passed over
pub passed_once : passed_in e_can overload ≡ 1
passed_once = in_one_tally passed_over (fresh_image e_can) overload (fresh_facts e_can (lit≤ tt)) bytes ∙ tallied
