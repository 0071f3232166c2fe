-- The search on its way: what it has found once the places before n, the last one left out, are passed, at the count c.
use Prim.Native.Nat.{ℕ, ◌+◌, ◌<◌, ◌≤◌}
use mathlib.Core.Path.{◌≡◌, refl, sym, ◌∙◌, ap, ap₂, subst}
use mathlib.Core.Bool.{Bool, true, false}
use mathlib.Core.List.{List}
use native.Mathlib.Numerals.{add-one}
use native.Mathlib.Omega.{arith}
use borrow.Author.Count.{below_none, below_more}
use Rattle.bits.specs.Bit.{bit}
use Rattle.bits.specs.Below.{count_below}
use Rattle.bits.proofs.Below.{count_in, count_out, count_most}
use Rattle.registers.specs.declared.Block.{Block}
use Rattle.registers.specs.Block.{block_of}
use Rattle.events.specs.declared.Frame.{Frame}
use Rattle.filter.specs.declared.Found.TheVariants.{At}
use Rattle.filter.specs.Filter.{last_mailbox, seat, hits_at, compared_at, compared_before, found}
use Rattle.filter.specs.Parts.{takes_by}
use Rattle.filter.proofs.Rest.{rest_from, low_bit, low-own, low-none, low_less, rest-none, count_same, count-rest, each_rest}
use Rattle.filter.proofs.Search.{takes_by_gam, hit, not-compared, not_taking, stops}

-- the candidates before the last place
abbrev low : ℕ → ℕ → Bool
low pool n = low_bit last_mailbox pool n

pub record Walked (s : List ℕ) (f : Frame) (pool n c : ℕ) : Type 0 where
  pub counted : c ≡ count_below (low pool) n
  pub none : (j : ℕ) → j < n → j < last_mailbox → hits_at s f j ≡ false

module _ (s : List ℕ) (f : Frame) (pool : ℕ) where
  pub walk_starts : Walked s f pool 0 0
  unfolding count_below
  walk_starts = record { counted = refl; none = below_none _ }

  pub walked_most : (n c : ℕ) → Walked s f pool n c → c ≤ n
  walked_most n c w = subst (λ (x : ℕ). x ≤ n) (sym w.counted) (count_most (low pool) n)

module _ (s : List ℕ) (f : Frame) (b : Block) (loaded : b ≡ block_of s) (pool : ℕ) (turned : (k : ℕ) → k < 32 → bit pool k ≡ compared_at s f k) where
  low-compared : (n : ℕ) → n < last_mailbox → low pool n ≡ compared_at s f n
  low-compared n h = low-own last_mailbox pool n h ∙ turned n (omega arith)

  low-counted : (n : ℕ) → n ≤ last_mailbox → count_below (low pool) n ≡ compared_before s f n
  low-counted n h = count_same (low pool) (compared_at s f) n (λ j l. low-compared j (omega arith))

  module _ (n c : ℕ) (w : Walked s f pool n c) where
    -- a mailbox that is not compared
    pub passes_over : low pool n ≡ false → Walked s f pool (n + 1) c
    passes_over t =
        record {
          counted = w.counted ∙ sym (count_out (low pool) n t) ∙ ap (count_below (low pool)) (sym (add-one n));
          none = below_more _ n w.none (λ h. not-compared s f (seat (block_of s) n) (sym (low-compared n h) ∙ t));
        }

    -- one that is compared
    module _ (t : low pool n ≡ true) where
      pub passes_by : takes_by s b f b.gam n ≡ false → Walked s f pool (n + 1) (c + 1)
      passes_by m =
          record {
            counted = ap (λ (x : ℕ). x + 1) w.counted ∙ sym (count_in (low pool) n t) ∙ ap (count_below (low pool)) (sym (add-one n));
            none = below_more _ n w.none (λ h. not_taking s f (seat (block_of s) n) (sym (takes_by_gam s f n b loaded h) ∙ m));
          }

      pub stops_at : takes_by s b f b.gam n ≡ true → At (seat b n) (c + 1) ≡ found s f
      stops_at m =
          let h = low_less last_mailbox pool n t in
          let i = sym (low-compared n h) ∙ t in
          ap₂ (λ (x : Block) (k : ℕ). At (seat x n) k) loaded
          (ap (λ (x : ℕ). x + 1) (w.counted ∙ low-counted n (omega arith)) ∙ sym (count_in (compared_at s f) n i))
          ∙ sym
          (stops s f n (omega arith) (hit s f (seat (block_of s) n) i (sym (takes_by_gam s f n b loaded h) ∙ m))
          (λ j l. w.none j l (omega arith)))

    -- nothing is left: all places before the last are passed
    module _ (z : rest_from last_mailbox pool n ≡ 0) where
      pub walk_counted : c ≡ compared_before s f last_mailbox
      walk_counted =
          w.counted
          ∙ sym (count-rest (low pool) n (n + last_mailbox) (omega arith) (λ j g h. rest-none last_mailbox pool n z j g))
          ∙ count-rest (low pool) last_mailbox (n + last_mailbox) (omega arith) (λ j g h. low-none last_mailbox pool j g)
          ∙ low-counted last_mailbox (omega arith)

      pub walk_none : (j : ℕ) → j < last_mailbox → hits_at s f j ≡ false
      walk_none j h =
          each_rest (λ (i : ℕ). i < last_mailbox → hits_at s f i ≡ false) n last_mailbox w.none
          (λ i g l k. not-compared s f (seat (block_of s) i) (sym (low-compared i l) ∙ rest-none last_mailbox pool n z i g))
          j h h
