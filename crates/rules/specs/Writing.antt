-- "Writing": what a write of v to register t, or to word j of mailbox n, leaves.
use Rattle.std.specs.Prelude.{ℕ, ◌<◌, ◌≡◌, Bool, true, false, cond, not, ◌&&◌, ◌||◌, List, [], ◌∷◌}
use Rattle.rules.specs.Words.{◌has◌, ◌is◌, ◌has_bits◌, Words, box, among, any, Only, BoxesStayBut, MC, MD, TRS, TRR, TA, AA, RMP, RML, LAM, GAM, RFP, CDR, MBTIF, MBRIF, MBIM, GIF, GIM, BCR1, BCR2, TSC, SLOT, TSO, only_receives, added, place}

-- Writing, TRR: does the request of mailbox n end at once? It is asked to, it is there, and it is not being sent.
abbrev pub ends : Words → ℕ → ℕ → Bool
ends was v n = v has n && was TRS has n && not (n is was SLOT)

pub record Write (t v : ℕ) (was now : Words) : Type 0 where
  -- nine registers and the added ones take the value; so does MD, but what only receives goes on receiving
  pub takes : (among t (MC ∷ LAM ∷ GAM ∷ CDR ∷ MBIM ∷ GIM ∷ BCR1 ∷ BCR2 ∷ TSC ∷ []) || added t) ≡ true
      → (now (place t) ≡ v) × Only (place t ∷ []) was now
  pub md : t ≡ MD → (now MD has_bits (λ n. v has n || only_receives was n)) × Only (MD ∷ []) was now
  -- TRS: a 1 asks transmit mailboxes to send, and does nothing elsewhere
  pub trs : t ≡ TRS → (now TRS has_bits (λ n. was TRS has n || v has n && not (was MD has n))) × Only (TRS ∷ []) was now
  -- five registers lose the bits of the value; with bit 3 of GIF goes TSO
  pub clears : among t (TA ∷ AA ∷ MBTIF ∷ MBRIF ∷ GIF ∷ []) ≡ true
      → (now t has_bits (λ n. was t has n && not (v has n))) × (now TSO ≡ cond (t is GIF && v has 3) 0 (was TSO)) × Only (t ∷ TSO ∷ []) was now
  -- RMP: a 1 releases the frame there, so its lost and remote flags fall too
  pub rmp : t ≡ RMP
      → ((k n : ℕ) → among k (RMP ∷ RML ∷ RFP ∷ []) ≡ true → (now k has n) ≡ (was k has n && not (v has n))) × Only (RMP ∷ RML ∷ RFP ∷ []) was now
  -- TRR: a 1 cancels a request: marked where it is being sent, ended at once elsewhere, which AA and bit 4 of GIF tell
  pub trr : t ≡ TRR → now TRR has_bits (λ n. was TRR has n || v has n && was TRS has n && n is was SLOT)
  pub trr_trs : t ≡ TRR → now TRS has_bits (λ n. was TRS has n && not (ends was v n))
  pub trr_aa : t ≡ TRR → now AA has_bits (λ n. was AA has n || ends was v n)
  pub trr_gif : t ≡ TRR → now GIF has_bits (λ i. was GIF has i || any (ends was v) && i is 4)
  pub trr_rest : t ≡ TRR → Only (TRS ∷ TRR ∷ AA ∷ GIF ∷ []) was now

-- The events, a mailbox write: word j of mailbox n takes the value.
pub record BoxWrite (n j v : ℕ) (s x : List ℕ) : Type 0 where
  pub takes : box x n j ≡ v
  pub others : (i : ℕ) → i < 4 → (i is j) ≡ false → box x n i ≡ box s n i
  pub elsewhere : BoxesStayBut n s x
