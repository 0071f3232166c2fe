-- The search finds the first mailbox that is compared and matches, and counts those that it compared.
use Rattle.std.proofs.lemmas.Bool.{and_from}
use Prim.Native.Nat.{ℕ, suc, ◌-◌, ◌<◌, ◌≤◌}
use mathlib.Core.Path.{◌≡◌, refl, sym, ◌∙◌, ap}
use mathlib.Core.Bool.{Bool, true, false, cond, not, ◌&&◌, ◌||◌, and-true, and-false}
use mathlib.Core.List.{List}
use native.Mathlib.Omega.{arith}
use lib.Dec.{ltb}
use lib.Bits.{bit_and}
use borrow.Author.Tests.{ltb-true, ltb-false, lt-ltb, eq-eqb, ne_eqb, not-true, not-false}
use Rattle.bits.specs.Bit.{bit}
use Rattle.bits.specs.Below.{first_below}
use Rattle.bits.proofs.Laws.{bit-and, bit-zero}
use Rattle.bits.proofs.Sets.{and_l, and_r}
use Rattle.bits.proofs.Below.{First, first_is, first_by, count_in, count_most}
use Rattle.registers.specs.declared.Block.{Block}
use Rattle.registers.specs.Block.{mask_word, block_of}
use Rattle.registers.specs.Status.{ecan}
use Rattle.mailboxes.specs.Mailbox.{mailboxes, mailbox_word}
use Rattle.events.specs.declared.Frame.{Frame}
use Rattle.filter.specs.declared.Found.TheVariants.{At, Missing}
use Rattle.filter.specs.Filter.{candidates, last_mailbox, seat, shared_mask, mask_for, agreeing, matches, guarded, takes, hits, compared_at, compared_before, found_at, hits_at, found}
use Rattle.filter.specs.Parts.{takes_by}

-- ---- Receiving: who is compared: an enabled mailbox, with a data frame only one that receives

pub candidate-bit : (b : Block) (f : Frame) (n : ℕ) → bit (candidates b f) n ≡ (bit b.mc n && (f.rtr || bit b.md n))
unfolding candidates
candidate-bit b f n = at f.rtr
  where
    at : (t : Bool) → bit (cond t b.mc (bit_and b.mc b.md)) n ≡ (bit b.mc n && (t || bit b.md n))
    at true = sym (and-true (bit b.mc n))
    at false = bit-and b.mc b.md n

-- ---- the order: each place has its mailbox

module _ (b : Block) where
  pub seat-up : ecan b ≡ false → (k : ℕ) → seat b k ≡ k
  unfolding seat
  seat-up p k = rw p

  pub seat_down : ecan b ≡ true → (k : ℕ) → seat b k ≡ last_mailbox - k
  unfolding seat
  seat_down p k = rw p

  pub seat_lt : (k : ℕ) → k < mailboxes → seat b k < mailboxes
  seat_lt k h = at (ecan b) refl
    where
      at : (t : Bool) → ecan b ≡ t → seat b k < mailboxes
      at true p = rw (seat_down p k) (omega arith)
      at false p = rw (seat-up p k) h

  -- and each mailbox its place: the same way back
  pub seat_back : (n : ℕ) → n < mailboxes → seat b (seat b n) ≡ n
  seat_back n h = at (ecan b) refl
    where
      at : (t : Bool) → ecan b ≡ t → seat b (seat b n) ≡ n
      at true p = rw (seat_down p n, seat_down p (last_mailbox - n)) (omega arith)
      at false p = rw (seat-up p n, seat-up p n)

-- ---- one mailbox

abbrev pub is_compared : List ℕ → Frame → ℕ → Bool
is_compared s f n = bit (candidates (block_of s) f) n

abbrev pub is_guarded : List ℕ → ℕ → Bool
is_guarded s n = bit (guarded (block_of s)) n

module _ (s : List ℕ) (f : Frame) (n : ℕ) where
  pub hit : is_compared s f n ≡ true → takes s f n ≡ true → hits s f n ≡ true
  unfolding hits
  hit p q = and_from (is_compared s f n) (takes s f n) p q

  pub not-compared : is_compared s f n ≡ false → hits s f n ≡ false
  unfolding hits
  not-compared p = rw p

  pub not_taking : takes s f n ≡ false → hits s f n ≡ false
  unfolding hits
  not_taking q = rw q (and-false (is_compared s f n))

  hit_compared : hits s f n ≡ true → is_compared s f n ≡ true
  unfolding hits
  hit_compared h = and_l (is_compared s f n) (takes s f n) h

  hit_taking : hits s f n ≡ true → takes s f n ≡ true
  unfolding hits
  hit_taking h = and_r (is_compared s f n) (takes s f n) h

  passed_by : hits s f n ≡ false → is_compared s f n ≡ true → takes s f n ≡ false
  unfolding hits
  passed_by h p = rw p at h

  -- a mailbox takes what it matches, unless it is guarded
  pub takes_matching : takes s f n ≡ true → matches s f n ≡ true
  unfolding takes
  takes_matching h = and_l (matches s f n) (not (is_guarded s n)) h

  pub takes_open : takes s f n ≡ true → is_guarded s n ≡ false
  unfolding takes
  takes_open h = not-true _ (and_r (matches s f n) (not (is_guarded s n)) h)

  pub matching_guarded : matches s f n ≡ true → takes s f n ≡ false → is_guarded s n ≡ true
  unfolding takes
  matching_guarded m h = not-false _ (rw m at h)

-- guarded: of an eCAN the mailboxes that receive, hold a frame and are protected
pub guarded-bit : (b : Block) (n : ℕ) → bit (guarded b) n ≡ (ecan b && ((bit b.protection n && bit b.rmp n) && bit b.md n))
unfolding guarded
guarded-bit b n = at (ecan b)
  where
    at : (t : Bool) → bit (cond t (bit_and (bit_and b.protection b.rmp) b.md) 0) n ≡ (t && ((bit b.protection n && bit b.rmp n) && bit b.md n))
    at true =
        bit-and (bit_and b.protection b.rmp) b.md n
        ∙ ap (λ (x : Bool). x && bit b.md n) (bit-and b.protection b.rmp n)
    at false = bit-zero n

-- of a CAN-B no mailbox is guarded, so that it takes what it matches
pub never_guarded : (s : List ℕ) (n : ℕ) → ecan (block_of s) ≡ false → is_guarded s n ≡ false
unfolding guarded
never_guarded s n p = rw p (bit-zero n)

-- the test of one place, by a block that was loaded and the mask of that place in a CAN-B
module _ (s : List ℕ) (f : Frame) (k : ℕ) (b : Block) (loaded : b ≡ block_of s) where
  mask_by : (own : ℕ) → own ≡ shared_mask b k → cond (ecan b) (mask_word s (seat b k)) own ≡ mask_for s b (seat b k)
  mask_by own e = at (ecan b) refl
    where
      at : (t : Bool) → ecan b ≡ t → cond t (mask_word s (seat b k)) own ≡ cond t (mask_word s (seat b k)) (shared_mask b (seat b k))
      at true p = refl
      at false p = e ∙ ap (shared_mask b) (sym (seat-up b p k))

  takes_by_lem : (own : ℕ) → own ≡ shared_mask b k → takes_by s b f own k ≡ takes s f (seat (block_of s) k)
  unfolding takes_by takes matches
  takes_by_lem own e =
      ap (λ (m : ℕ). agreeing m f (mailbox_word s (seat b k) 0) && not (bit (guarded b) (seat b k))) (mask_by own e)
      ∙ ap (λ (x : Block). agreeing (mask_for s x (seat x k)) f (mailbox_word s (seat x k) 0) && not (bit (guarded x) (seat x k))) loaded

  -- by GAM before the last place, by LAM at the last
  pub takes_by_gam : k < last_mailbox → takes_by s b f b.gam k ≡ takes s f (seat (block_of s) k)
  takes_by_gam h =
      takes_by_lem b.gam (ap (λ (t : Bool). cond t b.lam b.gam) (sym (ne_eqb k last_mailbox (λ q. omega arith))))

  pub takes_by_lam : k ≡ last_mailbox → takes_by s b f b.lam k ≡ takes s f (seat (block_of s) k)
  takes_by_lam h = takes_by_lem b.lam (ap (λ (t : Bool). cond t b.lam b.gam) (sym (eq-eqb k last_mailbox h)))

-- ---- what the search finds is at the first place whose mailbox hits

module _ (s : List ℕ) (f : Frame) where
  -- it stops at a place whose mailbox hits where none before it does
  pub stops : (k : ℕ) → k < mailboxes → hits_at s f k ≡ true → ((j : ℕ) → j < k → hits_at s f j ≡ false)
      → found s f ≡ At (seat (block_of s) k) (compared_before s f (suc k))
  unfolding found
  stops k h e p =
      let q = first_by (hits_at s f) mailboxes k (record { most = omega arith; holds = λ l. e; none = p }) in
      ap (found_at s f) q ∙ rw (lt-ltb k mailboxes h)

  -- it passes all where none hits
  pub passes : ((j : ℕ) → j < mailboxes → hits_at s f j ≡ false) → found s f ≡ Missing (compared_before s f mailboxes)
  unfolding found
  passes p =
      ap (found_at s f)
      (first_by (hits_at s f) mailboxes mailboxes
      (record { most = omega arith; holds = λ l. absurd (omega arith); none = p }))

-- ---- Receiving: what an answer of the search says

-- at mailbox n, with the count c
pub record Stopped (s : List ℕ) (f : Frame) (n c : ℕ) : Type 0 where
  pub place : ℕ
  pub before_end : place < mailboxes
  pub seated : n ≡ seat (block_of s) place
  pub there : n < mailboxes
  pub compared : is_compared s f n ≡ true
  pub matching : matches s f n ≡ true
  pub unguarded : is_guarded s n ≡ false
  pub none_before : (j : ℕ) → j < place → compared_at s f j ≡ true → takes s f (seat (block_of s) j) ≡ false
  pub counted : c ≡ compared_before s f (suc place)
  pub at_least : 1 ≤ c
  pub at-most : c ≤ suc place

-- at none, with the count c
pub record Passed (s : List ℕ) (f : Frame) (c : ℕ) : Type 0 where
  pub none : (n : ℕ) → n < mailboxes → is_compared s f n ≡ true → takes s f n ≡ false
  pub counted : c ≡ compared_before s f mailboxes
  pub at-most : c ≤ mailboxes

module _ (s : List ℕ) (f : Frame) where
  abbrev first : ℕ
  first = first_below (hits_at s f) mailboxes

  is_first : First (hits_at s f) mailboxes first
  is_first = first_is (hits_at s f) mailboxes

  -- the two ways in which the search ends
  stopped : first < mailboxes → Stopped s f (seat (block_of s) first) (compared_before s f (suc first))
  stopped l =
      let n = seat (block_of s) first in
      let h = is_first.holds l in
      let k = count_in (compared_at s f) first (hit_compared s f n h) in
      record {
        place = first;
        before_end = l;
        seated = refl;
        there = seat_lt (block_of s) first l;
        compared = hit_compared s f n h;
        matching = takes_matching s f n (hit_taking s f n h);
        unguarded = takes_open s f n (hit_taking s f n h);
        none_before = λ j g. passed_by s f (seat (block_of s) j) (is_first.none j g);
        counted = refl;
        at_least = omega arith;
        at-most = count_most (compared_at s f) (suc first);
      }

  none-hits : mailboxes ≤ first → (j : ℕ) → j < mailboxes → hits_at s f j ≡ false
  none-hits l j g = is_first.none j (omega arith)

  -- no place's mailbox hits, so none does
  each_mailbox : ((j : ℕ) → j < mailboxes → hits_at s f j ≡ false) → (n : ℕ) → n < mailboxes → hits s f n ≡ false
  each_mailbox h n l =
      ap (hits s f) (sym (seat_back (block_of s) n l)) ∙ h (seat (block_of s) n) (seat_lt (block_of s) n l)

  pub found-at : (n c : ℕ) → found s f ≡ At n c → Stopped s f n c
  found-at n c e = at (ltb first mailboxes) refl
    where
      at : (t : Bool) → ltb first mailboxes ≡ t → Stopped s f n c
      at true q =
          let l = ltb-true first mailboxes q in
          let g = stops s f first l (is_first.holds l) is_first.none in
          let a : n ≡ seat (block_of s) first = cc in
          let b : c ≡ compared_before s f (suc first) = cc in
          rw (a, b) (stopped l)
      at false q =
          let g = passes s f (none-hits (ltb-false first mailboxes q)) in
          let z : ◌≡◌ {A = ℕ} 0 1 = cc in
          absurd (omega arith)

  pub found_missing : (c : ℕ) → found s f ≡ Missing c → Passed s f c
  found_missing c e = at (ltb first mailboxes) refl
    where
      at : (t : Bool) → ltb first mailboxes ≡ t → Passed s f c
      at true q =
          let l = ltb-true first mailboxes q in
          let g = stops s f first l (is_first.holds l) is_first.none in
          let z : ◌≡◌ {A = ℕ} 0 1 = cc in
          absurd (omega arith)
      at false q =
          let l = none-hits (ltb-false first mailboxes q) in
          let g = passes s f l in
          let b : c ≡ compared_before s f mailboxes = cc in
          record {
            none = λ n h. passed_by s f n (each_mailbox l n h);
            counted = b;
            at-most = rw b (count_most (compared_at s f) mailboxes);
          }
