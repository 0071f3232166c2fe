-- "Receiving": what a frame leaves. s is the image and e the event; `was` are the register words before, `now` those after.
use Rattle.std.specs.Prelude.{ℕ, ◌+◌, ◌-◌, ◌*◌, ◌<◌, ◌≤◌, ◌≡◌, Bool, true, false, cond, ◌&&◌, ◌||◌, List, [], ◌∷◌, ltb, leb}
use Rattle.bits.specs.Below.{count_below}
use Rattle.answers.specs.Answer.{Outcome}
use Rattle.rules.specs.Words.{◌has◌, ◌is◌, ◌has_bits◌, Words, words, box, byte, Only, BoxesStayBut, MC, MD, TRS, RMP, RML, LAM, GAM, RFP, MBRIF, MBIM, GIF, TSC, REC, MODE, OPTIONS, MASKS, PROTECTION, e_can}
use Rattle.rules.specs.Image.{on_bus}
use Rattle.rules.specs.Events.{target, value, rtr, carried, Answers}

-- Is the frame compared with mailbox n? With enabled ones that receive; a remote frame with those that transmit too.
abbrev pub compared : List ℕ → List ℕ → ℕ → Bool
compared s e n = words s MC has n && (rtr e || words s MD has n)

-- Which bits are compared: IDE (31) and the identifier, 28 to 0 of an extended frame, 28 to 18 of a standard one. The frame's value has
-- them where word 0 of a mailbox has them.
abbrev pub matters : List ℕ → ℕ → Bool
matters e i = i is 31 || (ltb i 29 && (value e has 31 || leb 18 i))

-- The mask of mailbox n: GAM, LAM for mailbox 31; an eCAN has one for each mailbox (document 02, g).
abbrev pub mask : Words → ℕ → ℕ
mask w n = cond (e_can w) (w (MASKS + n)) (w (cond (n is 31) LAM GAM))

-- Which of them are freed: those of the mask, where bit 30 of word 0 (GAME, LAME or AME) asks for it.
abbrev pub freed : List ℕ → ℕ → ℕ → Bool
freed s n i = box s n 0 has 30 && mask (words s) n has i

-- A match: every compared bit that is not freed is the same.
abbrev pub Matches : List ℕ → List ℕ → ℕ → Type 0
Matches s e n = (i : ℕ) → matters e i ≡ true → freed s n i ≡ false → (box s n 0 has i) ≡ (value e has i)

-- The search goes from mailbox 0 up to 31, in an eCAN from 31 down to 0 (document 02, g): the mailbox at place k of its order.
abbrev pub seat : Words → ℕ → ℕ
seat w k = cond (e_can w) (31 - k) k

-- Document 02, g), overwrite protection: does mailbox n pass a matching frame over? Of an eCAN, where it receives, holds a frame and is
-- protected.
abbrev pub guarded : Words → ℕ → Bool
guarded w n = e_can w && (w PROTECTION has n && w RMP has n && w MD has n)

-- It stops at mailbox n, at place k: the first match among the compared ones that does not pass the frame over.
pub record First (s e : List ℕ) (k n : ℕ) : Type 0 where
  pub there : k < 32
  pub seated : seat (words s) k ≡ n
  pub compares : compared s e n ≡ true
  pub matches : Matches s e n
  pub takes : guarded (words s) n ≡ false
  pub before : (j : ℕ) → j < k → compared s e (seat (words s) j) ≡ true → Matches s e (seat (words s) j) → guarded (words s) (seat (words s) j) ≡ true

-- The count: how many of the mailboxes before place k were compared, those that passed the frame over included.
abbrev pub count_to : List ℕ → List ℕ → ℕ → ℕ
count_to s e k = count_below (λ j. compared s e (seat (words s) j)) k

-- The frame is stored in mailbox n, whose bytes become those of x. Word 0 keeps bits 30 and 29 and takes IDE and the identifier; word 1 is
-- made of TSC, RTR and the DLC, the number as it came; of the data bytes the first become those that the frame carries, all others stay. RMP
-- tells of it, RML and bit 5 of GIF that a frame was there already, MBRIF where MBIM asks for it, RFP and bit 7 of GIF that it is remote.
pub record Stored (s e : List ℕ) (n : ℕ) (was now : Words) (x : List ℕ) : Type 0 where
  pub word_0 : box x n 0 has_bits (λ i. cond (i is 30 || i is 29) (box s n 0 has i) (value e has i))
  pub word_1 : box x n 1 ≡ was TSC * 65536 + cond (rtr e) 16 0 + target e
  pub new : (i : ℕ) → i < carried e → byte x (16 * n + (8 + i)) ≡ byte e (8 + i)
  pub old : (i : ℕ) → i < 8 → carried e ≤ i → byte x (16 * n + (8 + i)) ≡ byte s (16 * n + (8 + i))
  pub elsewhere : BoxesStayBut n s x
  pub rml : now RML has_bits (λ m. was RML has m || was RMP has m && m is n)
  pub rmp : now RMP has_bits (λ m. was RMP has m || m is n)
  pub mbrif : now MBRIF has_bits (λ m. was MBRIF has m || was MBIM has m && m is n)
  pub rfp : now RFP has_bits (λ m. cond (m is n) (rtr e) (was RFP has m))
  pub gif : now GIF has_bits (λ i. was GIF has i || was RMP has n && i is 5 || rtr e && i is 7)
  pub rest : Only (RML ∷ RMP ∷ MBRIF ∷ RFP ∷ GIF ∷ REC ∷ []) was now

-- A frame that is heard: REC falls, from above 127 to 127 and else by one, if it can. The mailbox where the search stops takes the frame if
-- it receives. If it transmits it is asked to reply where its RFH (bit 29 of word 0) is up, and else nothing comes of it; the search is over
-- either way.
pub record Heard (s e : List ℕ) (was now : Words) (o : Outcome) : Type 0 where
  pub rec_falls : was REC ≤ 127 → now REC ≡ was REC - 1
  pub rec_127 : 127 < was REC → now REC ≡ 127
  pub nobody : ((k n : ℕ) → First s e k n → ⊥) → Answers 32 (count_to s e 32) o × BoxesStayBut 32 s o.image × Only (REC ∷ []) was now
  pub stored : (k n : ℕ) → First s e k n → was MD has n ≡ true → Answers n (count_to s e (k + 1)) o × Stored s e n was now o.image
  pub replied : (k n : ℕ) → First s e k n → was MD has n ≡ false → box s n 0 has 29 ≡ true
      → Answers n (count_to s e (k + 1)) o × BoxesStayBut 32 s o.image × (now TRS has_bits (λ m. was TRS has m || m is n)) × Only (TRS ∷ REC ∷ []) was now
  pub ignored : (k n : ℕ) → First s e k n → was MD has n ≡ false → box s n 0 has 29 ≡ false
      → Answers 32 (count_to s e (k + 1)) o × BoxesStayBut 32 s o.image × Only (REC ∷ []) was now

-- Does a frame wake the model? It sleeps, and the option WUBA (bit 1) is set.
abbrev pub rouses : Words → Bool
rouses was = was MODE is 2 && was OPTIONS has 1

-- A frame is heard in normal mode, not in bus off. Elsewhere it changes nothing, but it may wake the model, which bit 6 of GIF tells.
pub record Frame (s e : List ℕ) (was now : Words) (o : Outcome) : Type 0 where
  pub heard : on_bus was ≡ true → Heard s e was now o
  pub unheard : on_bus was ≡ false → Answers 32 0 o × BoxesStayBut 32 s o.image
  pub stays : on_bus was ≡ false → rouses was ≡ false → Only [] was now
  pub wakes : rouses was ≡ true → (now MODE ≡ 0) × (now GIF has_bits (λ n. was GIF has n || n is 6)) × Only (MODE ∷ GIF ∷ []) was now
