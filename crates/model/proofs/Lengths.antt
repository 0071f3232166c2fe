-- A step keeps the length of an image, whatever image it is.
use Prim.Native.Nat.{ℕ, ◌+◌, ◌*◌}
use mathlib.Core.Path.{◌≡◌, refl, sym, ◌∙◌, ap}
use mathlib.Core.Bool.{Bool, true, false, cond}
use mathlib.Core.List.{List}
use native.Mathlib.Omega.{arith}
use lib.Dec.{eqb}
use lib.ListN.{length, take, drop, length-append, take-append-drop}
use lib.Seq.{drop-drop}
use Rattle.words.specs.Word.{put_word}
use Rattle.words.proofs.Laws.{length-put}
use Rattle.registers.specs.Block.{block_of}
use Rattle.registers.proofs.Laws.{length_block}
use Rattle.mailboxes.specs.Mailbox.{mailbox, with_mailbox}
use Rattle.mailboxes.specs.Filing.{filed, stamped}
use Rattle.mailboxes.proofs.Filed.{length-filed, length-stamped}
use Rattle.events.specs.declared.Event.{Event}
use Rattle.events.specs.declared.Event.TheVariants.{Refused, Register, Mailbox, Heard, Start, Outcome, ReceiveError, Recessive, Tick, Mode, Options, Reset}
use Rattle.events.specs.declared.Frame.{Frame}
use Rattle.events.specs.Decode.{event}
use Rattle.filter.specs.declared.Delivery.{Delivery}
use Rattle.filter.specs.declared.Delivery.TheVariants.{Into, Reply, Nowhere}
use Rattle.filter.specs.Filter.{delivery}
use Rattle.refusals.specs.Refusal.{refusal}
use Rattle.answers.specs.Answer.{refused}
use Rattle.model.specs.Step.{stowed, postmarked, rewritten, beside_after, block_after, accepted, step}
use Rattle.model.proofs.Beside.{masked_beside, unmasked_beside}

-- what stands in the place of a mailbox is as long as it was, wherever that is
length_replaced : (s : List ℕ) (n : ℕ) (m : List ℕ) → length m ≡ length (mailbox s n) → length (with_mailbox s n m) ≡ length s
unfolding with_mailbox mailbox
length_replaced s n m h =
    let a = 16 * n in
    let front : length (take a s) + length (drop a s) ≡ length s = sym (length-append (take a s) (drop a s)) ∙ ap length (take-append-drop a s) in
    let rest : length (take 16 (drop a s)) + length (drop (a + 16) s) ≡ length (drop a s) =
    ap (λ (x : List ℕ). length (take 16 (drop a s)) + length x) (sym (drop-drop 16 a s))
    ∙ sym (length-append (take 16 (drop a s)) (drop 16 (drop a s)))
    ∙ ap length (take-append-drop 16 (drop a s)) in
    simp length-append (omega (arith, front, rest, h))

length-stowed : (s : List ℕ) (f : Frame) (d : Delivery) → length (stowed s f d) ≡ length s
unfolding stowed
length-stowed s f (Into n c) =
    length_replaced s n (filed (mailbox s n) f.ide f.rtr f.id f.dlc f.bytes (block_of s).tsc)
    (length-filed (mailbox s n) f.ide f.rtr f.id f.dlc f.bytes (block_of s).tsc)
length-stowed s f (Reply n c) = refl
length-stowed s f (Nowhere c) = refl

pub length-after : (s : List ℕ) (e : Event) → length (beside_after s e) ≡ length s
unfolding beside_after postmarked rewritten
length-after s (Refused r) = refl
length-after s (Register t v) = (masked_beside s t v).size
length-after s (Mailbox n k v) = length_replaced s n (put_word (mailbox s n) (4 * k) v) (length-put (mailbox s n) (4 * k) v)
length-after s (Heard f) = length-stowed s f (delivery s f)
length-after s Start = refl
length-after s (Outcome k) = at (eqb k 0)
  where
    at : (t : Bool) → length (cond t (postmarked s) s) ≡ length s
    at true = length_replaced s (block_of s).slot (stamped (mailbox s (block_of s).slot) (block_of s).tsc) (length-stamped (mailbox s (block_of s).slot) (block_of s).tsc)
    at false = refl
length-after s (ReceiveError v) = refl
length-after s Recessive = refl
length-after s Tick = refl
length-after s (Mode v) = refl
length-after s (Options v) = refl
length-after s Reset = (unmasked_beside s).size

pub step-length : (s e : List ℕ) → length (step s e).image ≡ length s
unfolding step accepted
step-length s e = to (eqb (refusal s e) 0)
  where
    to : (t : Bool) → length (cond t (accepted s (event e)) (refused s (refusal s e))).image ≡ length s
    to true = length_block (beside_after s (event e)) (block_after s (event e)) ∙ length-after s (event e)
    to false = refl
