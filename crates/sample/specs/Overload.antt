-- The worked case of source document 002, section 3.2.5, in an eCAN: three mailboxes for one identifier, of which two are protected.
use Rattle.std.specs.Prelude.{ℕ, List, [], ◌∷◌, ◌++◌, replicate}
use Rattle.registers.specs.Block.{block_of}
use Rattle.answers.specs.Answer.{Outcome}
use Rattle.model.specs.Step.{step}
use Rattle.sample.specs.Run.{write, mode}

-- An event whose value is the standard identifier 0x123, which stands in bits 28 to 18: mailbox n gets it as its word 0; a data frame
-- without data brings it.
abbrev pub with123 : ℕ → ℕ → List ℕ
with123 op target = op ∷ target ∷ 0 ∷ 0 ∷ 0 ∷ 0 ∷ 0x8C ∷ 0x04 ∷ 0 ∷ 0 ∷ 0 ∷ 0 ∷ 0 ∷ 0 ∷ 0 ∷ 0 ∷ []

abbrev pub identified : ℕ → List ℕ
identified n = with123 1 n

abbrev pub frame123 : List ℕ
frame123 = with123 2 0

-- Bit timing (BCR2); mailboxes 5, 4 and 3 receive (MD) and have the identifier; 5 and 4 are protected (register 96); they are enabled (MC);
-- normal mode.
abbrev pub prepared : List (List ℕ)
prepared =
    write 18 0x25
    ∷ write 1 0x38
    ∷ identified 5
    ∷ identified 4
    ∷ identified 3
    ∷ write 96 0x30
    ∷ write 0 0x38
    ∷ mode 0
    ∷ []

-- Four frames; then mailbox 3 is protected too, and one more frame comes.
unfoldable pub overload : List (List ℕ)
overload = prepared ++ (frame123 ∷ frame123 ∷ frame123 ∷ frame123 ∷ write 96 0x38 ∷ frame123 ∷ [])

-- What is seen of a step: the mailbox that it names and how many were compared; RMP and RML as it leaves them.
pub record Seen : Type 0 where
  pub mailbox : ℕ
  pub count : ℕ
  pub rmp : ℕ
  pub rml : ℕ

abbrev pub seen : ℕ → ℕ → ℕ → ℕ → Seen
seen n c p l = record { mailbox = n; count = c; rmp = p; rml = l }

abbrev pub seen_of : Outcome → Seen
seen_of o = seen o.mailbox o.count (block_of o.image).rmp (block_of o.image).rml

unfoldable pub watch : List ℕ → List (List ℕ) → List Seen
watch s [] = []
watch s (e ∷ l) = seen_of (step s e) ∷ watch (step s e).image l

-- After the eight writes: the frames go to 5, 4 and 3, and then to 3 again, which loses one, as RML's bit 3 alone says. With 3
-- protected the next one is passed over by all three: no mailbox is named, three were compared, and no flag changes.
abbrev pub story : List Seen
story =
    replicate 8 (seen 32 0 0 0)
    ++ (seen 5 1 0x20 0 ∷ seen 4 2 0x30 0 ∷ seen 3 3 0x38 0 ∷ seen 3 3 0x38 8 ∷ seen 32 0 0x38 8 ∷ seen 32 3 0x38 8 ∷ [])
