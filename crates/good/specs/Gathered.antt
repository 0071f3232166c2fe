-- The image, the layout of the mailboxes and the masks: what the code gathers to judge many at once. The rules themselves are in Good.
use Rattle.std.specs.Prelude.{ℕ, ◌+◌, ◌*◌, ◌/◌, ◌%◌, ◌^◌, ◌<◌, ◌≤◌, ◌≡◌, Bool, true, ◌&&◌, List, eqb, ltb}
use Rattle.mailboxes.specs.Mailbox.{word_layout}
use Rattle.good.specs.declared.Gathered.{Gathered}
use Rattle.good.specs.Good.{good_mask}

-- The image, the layout: what stands for words 0 does not reach its power of two, and words 1 together have no bit that must be zero.
abbrev pub clean : Gathered → Bool
clean x = ltb x.identifiers 4294967296 && word_layout 1 x.controls

-- The image, the masks: two of them as one number, neither with bits 30 and 29.
abbrev pub bare : ℕ → Bool
bare x = eqb (x / 2 ^ 29 % 4) 0 && eqb (x / 2 ^ 61 % 4) 0

-- The image, the masks: are the two of pair k without these bits? The pairs are counted as the code takes them: every other one, then those
-- between.
abbrev pub good_pair : List ℕ → ℕ → Bool
good_pair s k = good_mask s (2 * (k % 8 * 2 + k / 8)) && good_mask s (2 * (k % 8 * 2 + k / 8) + 1)

-- t says whether p holds of every number from a on and below e.
abbrev pub Stretch : (ℕ → Bool) → ℕ → ℕ → Bool → Type 0
Stretch p a e t =
    (t ≡ true → (i : ℕ) → a ≤ i → i < e → p i ≡ true) × (((i : ℕ) → a ≤ i → i < e → p i ≡ true) → t ≡ true)
