-- What the parts of an accepted step may rely on, and what they leave.
use Rattle.std.specs.Prelude.{ℕ, ◌^◌, ◌<◌, ◌≤◌, ◌≡◌, List, length}
use Rattle.registers.specs.Block.{image_bytes, block_of, put_block, empty_slot}
use Rattle.registers.specs.Modes.{risen}
use Rattle.registers.specs.Frames.{listened}
use Rattle.mailboxes.specs.Filing.{highest_dlc}
use Rattle.events.specs.declared.Frame.{Frame}
use Rattle.events.specs.declared.Event.{Event}
use Rattle.events.specs.declared.Event.TheVariants.{Refused, Register, Mailbox, Heard, Start, Outcome, ReceiveError, Recessive, Tick, Mode, Options, Reset}
use Rattle.filter.specs.declared.Delivery.{Delivery}
use Rattle.answers.specs.Answer.{packed}
use Rattle.model.specs.Step.{acted, goes, delivered, stowed, beside_after, named, named_by, count_of}

-- An image whose counters are in their ranges.
pub record Loaded (s : List ℕ) : Type 0 where
  pub size : length s ≡ image_bytes
  pub slot : (block_of s).slot ≤ empty_slot
  pub tsc : (block_of s).tsc < 65536
  pub tec : (block_of s).tec ≤ 256
  pub rec : (block_of s).rec ≤ 255
  pub recovery : (block_of s).recovery ≤ 127

-- A frame whose numbers are in their ranges.
pub record Fit (f : Frame) : Type 0 where
  pub id : f.id.0 < 2 ^ 29
  pub dlc : f.dlc ≤ highest_dlc

-- An event whose numbers are, and that finds what it needs in the image: an outcome a filled slot. A refusal is none.
abbrev pub Sized : List ℕ → Event → Type 0
Sized s (Refused r) = ⊥
Sized s (Register t v) = Unit
Sized s (Mailbox n k v) = (n < 32) × (k < 4)
Sized s (Heard f) = Fit f
Sized s Start = Unit
Sized s (Outcome k) = (block_of s).slot < 32
Sized s (ReceiveError v) = v ≤ 8
Sized s Recessive = Unit
Sized s Tick = Unit
Sized s (Mode m) = Unit
Sized s (Options v) = Unit
Sized s Reset = Unit

-- The image x and the answer r of an event that was accepted, before a waiting mode is entered.
pub record Acted (s : List ℕ) (e : Event) (x : List ℕ) (r : ℕ) : Type 0 where
  pub image : x ≡ put_block (beside_after s e) (risen (block_of s) (acted s e))
  pub answered : r ≡ packed 0 (named s e) (count_of (goes s e))

-- The same for a frame, once it is known where it goes.
pub record Delivered (s : List ℕ) (f : Frame) (d : Delivery) (x : List ℕ) (r : ℕ) : Type 0 where
  pub image : x ≡ put_block (stowed s f d) (risen (block_of s) (delivered (listened (block_of s)) f.rtr d))
  pub answered : r ≡ packed 0 (named_by d) (count_of d)
