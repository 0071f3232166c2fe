-- What a start takes: an eligible mailbox, before which no other goes.
use Rattle.std.proofs.lemmas.Bool.{or_left}
use Prim.Native.Nat.{ℕ, zero, suc, ◌+◌, ◌-◌, ◌^◌, ◌<◌, ◌≤◌}
use mathlib.Core.Path.{◌≡◌, refl, sym, ◌∙◌, ap, subst}
use mathlib.Core.Bool.{Bool, true, false, cond, not, ◌&&◌, and-true, and-false, false≢true}
use mathlib.Core.List.{List}
use mathlib.Core.Logic.{◌≢◌}
use native.Mathlib.Decide.{dec_lt, ℕ_discrete}
use native.Mathlib.Nat.{add-zero, add-suc}
use native.Mathlib.Omega.{arith}
use lib.Dec.{eqb, ltb}
use Rattle.std.specs.Prelude.{Option, Some, None}
use Rattle.std.specs.Option.{option_map}
use Rattle.std.proofs.lemmas.Option.{same_Some, none-some}
use lib.Bits.{bit_and}
use lib.Pow.{pow_pos}
use borrow.Author.Count.{below_none, below_more}
use borrow.Author.Tests.{eq-eqb, ne_eqb, ltb-true, ltb-false, lt-ltb}
use Rattle.bits.specs.Bit.{bit, mask, without}
use Rattle.bits.specs.Below.{first_below}
use Rattle.bits.proofs.Laws.{bit-and, bit_mask, bit-without, bit-zero, same_below}
use Rattle.bits.proofs.Below.{First, first_is, first_by}
use Rattle.registers.specs.declared.Block.{Block}
use Rattle.registers.specs.Block.{block_of}
use Rattle.registers.specs.Modes.{on_bus}
use Rattle.registers.specs.Sending.{eligible}
use Rattle.mailboxes.specs.Mailbox.{mailboxes}
use Rattle.sending.specs.declared.Best.{Best}
use Rattle.sending.specs.Choice.{key_at, none_yet, better, smallest_below, named, chosen, next, better_of}

-- ---- Sending: who is eligible, by bits

pub eligible-bit : (b : Block) (m : ℕ)
    → bit (eligible b) m ≡ (((bit b.trs m && bit b.mc m) && not (bit b.cdr m)) && not (bit b.trr m))
eligible-bit b m =
    bit-without (without (bit_and b.trs b.mc) b.cdr) b.trr m
    ∙ ap (λ (x : Bool). x && not (bit b.trr m))
    (bit-without (bit_and b.trs b.mc) b.cdr m
    ∙ ap (λ (x : Bool). x && not (bit b.cdr m)) (bit-and b.trs b.mc m))

-- ---- the choice as an `Option`

pub named-some : (n m : ℕ) → named n ≡ Some m → (n < mailboxes) × (m ≡ n)
named-some n m e = at (ltb n mailboxes) refl
  where
    at : (t : Bool) → ltb n mailboxes ≡ t → (n < mailboxes) × (m ≡ n)
    at true p = (ltb-true n mailboxes p, same_Some m n (sym e ∙ rw p))
    at false p = absurd (none-some m (sym (rw p) ∙ e))

pub named-none : (n : ℕ) → named n ≡ None → mailboxes ≤ n
named-none n e = at (ltb n mailboxes) refl
  where
    at : (t : Bool) → ltb n mailboxes ≡ t → mailboxes ≤ n
    at true p = absurd (none-some n (sym e ∙ rw p))
    at false p = ltb-false n mailboxes p

-- ---- one mailbox more

module _ (s : List ℕ) (w n : ℕ) where
  abbrev wins : Bool
  wins = bit w n && better s n (smallest_below s w n)

  takes-over : wins ≡ true → smallest_below s w (suc n) ≡ n
  unfolding smallest_below
  takes-over h = rw h

  stays : wins ≡ false → smallest_below s w (suc n) ≡ smallest_below s w n
  unfolding smallest_below
  stays h = rw h

-- ---- the search carries the best mailbox with its key

-- the best mailbox as the definition says it, and its key
abbrev pub mailbox_in : Option Best → ℕ
mailbox_in None = none_yet
mailbox_in (Some best) = best.mailbox

abbrev pub KeyIn : List ℕ → Option Best → Type 0
KeyIn s None = Unit
KeyIn s (Some best) = (best.mailbox < mailboxes) × (best.key ≡ key_at s best.mailbox)

pub record Carries (s : List ℕ) (w n : ℕ) (best : Option Best) : Type 0 where
  pub mailbox : mailbox_in best ≡ smallest_below s w n
  pub key : KeyIn s best

module _ (s : List ℕ) (w n : ℕ) (small : n < mailboxes) (p : bit w n ≡ true) where
  -- one that is named, where none was before, and where one was
  first-carried : Carries s w n None → Carries s w (suc n) (Some (better_of None n (key_at s n)))
  unfolding better_of
  first-carried h =
      let e = takes-over s w n (rw (p, ap (better s n) (sym h.mailbox))) in
      record { mailbox = sym e; key = (small, refl) }

  -- the key that is kept is that of the best mailbox
  by_key : (best : Best) → KeyIn s (Some best)
      → better_of (Some best) n (key_at s n) ≡ cond (better s n best.mailbox) (record { mailbox = n; key = key_at s n }) best
  unfolding better_of
  by_key best k = rw (ne_eqb best.mailbox none_yet (λ e. omega (arith, k.0)), k.1)

  next-carried : (best : Best) → Carries s w n (Some best) → Carries s w (suc n) (Some (better_of (Some best) n (key_at s n)))
  next-carried best h = at (better s n best.mailbox) refl
    where
      at : (t : Bool) → better s n best.mailbox ≡ t → Carries s w (suc n) (Some (better_of (Some best) n (key_at s n)))
      at true q =
          let e = takes-over s w n (rw (p, ap (better s n) (sym h.mailbox) ∙ q)) in
          rw (by_key best h.key, q) (record { mailbox = sym e; key = (small, refl) })
      at false q =
          let e = stays s w n (rw (p, ap (better s n) (sym h.mailbox) ∙ q)) in
          rw (by_key best h.key, q) (record { mailbox = h.mailbox ∙ sym e; key = h.key })

  pub carried : (best : Option Best) → Carries s w n best → Carries s w (suc n) (Some (better_of best n (key_at s n)))
  carried None h = first-carried h
  carried (Some best) h = next-carried best h

-- at the end: the mailbox that it carries is the choice
pub found-named : (s : List ℕ) (w : ℕ) (best : Option Best) → Carries s w mailboxes best
    → option_map (λ (b : Best). b.mailbox) best ≡ named (smallest_below s w mailboxes)
found-named s w None h = rw (sym h.mailbox)
found-named s w (Some best) h = rw (sym h.mailbox, lt-ltb best.mailbox mailboxes h.key.0)

-- those that are not named change nothing
module _ (s : List ℕ) (w : ℕ) (best : Option Best) where
  passed : (a d : ℕ) → ((j : ℕ) → a ≤ j → j < a + d → bit w j ≡ false) → Carries s w a best → Carries s w (a + d) best
  passed a zero f h = rw (add-zero a) h
  passed a (suc d) f h =
      let k = passed a d (λ j l u. f j l (omega arith)) h in
      let e = stays s w (a + d) (rw (f (a + d) (omega arith) (omega arith))) in
      rw (add-suc a d) (record { mailbox = k.mailbox ∙ sym e; key = k.key })

  pub passing : (a b : ℕ) → a ≤ b → ((j : ℕ) → a ≤ j → j < b → bit w j ≡ false) → Carries s w a best → Carries s w b best
  passing a b l f h =
      let e : a + (b - a) ≡ b = omega arith in
      subst (λ (x : ℕ). Carries s w x best) e (passed a (b - a) (λ j k u. f j k (omega arith)) h)

-- ---- the search goes from one named mailbox to the next

-- what is left to look at: below its first mailbox all is done, from there on it is the word
pub record Left (s : List ℕ) (w rest : ℕ) (best : Option Best) : Type 0 where
  pub done : Carries s w (first_below (bit rest) 32) best
  pub same : (j : ℕ) → first_below (bit rest) 32 ≤ j → bit rest j ≡ bit w j

module _ (s : List ℕ) (w : ℕ) where
  pub begins : Left s w w None
  unfolding smallest_below
  begins =
      let f = first_is (bit w) 32 in
      let h : Carries s w 0 None = record { mailbox = refl; key = tt } in
      record { done = passing s w None 0 (first_below (bit w) 32) (omega arith) (λ j l. f.none j) h; same = λ j l. refl }

  module _ (rest : ℕ) (best : Option Best) (h : Left s w rest best) where
    abbrev n : ℕ
    n = first_below (bit rest) 32

    abbrev after : ℕ
    after = without rest (mask n)

    after-bit : (j : ℕ) → j ≢ n → bit after j ≡ bit rest j
    after-bit j d = bit-without rest (mask n) j ∙ rw (bit_mask n j, ne_eqb j n d) (and-true (bit rest j))

    pub is_named : n < 32 → bit rest n ≡ true
    is_named l = (first_is (bit rest) 32).holds l

    -- the next one is further up
    pub onwards : n < 32 → n < first_below (bit after) 32
    onwards l = at (dec_lt n (first_below (bit after) 32))
      where
        f : First (bit after) 32 (first_below (bit after) 32)
        f = first_is (bit after) 32

        gone : (j : ℕ) → j ≤ n → bit after j ≡ false
        gone j k = to (ℕ_discrete j n)
          where
            to : Dec (j ≡ n) → bit after j ≡ false
            to (yes e) = bit-without rest (mask n) j ∙ rw (bit_mask n j, eq-eqb j n e) (and-false (bit rest j))
            to (no d) = after-bit j d ∙ (first_is (bit rest) 32).none j (omega arith)

        at : Dec (n < first_below (bit after) 32) → n < first_below (bit after) 32
        at (yes k) = k
        at (no k) = absurd (false≢true (sym (gone (first_below (bit after) 32) (omega arith)) ∙ f.holds (omega arith)))

    pub goes_on : n < 32 → Left s w after (Some (better_of best n (key_at s n)))
    goes_on l =
        let m = first_below (bit after) 32 in
        let k = onwards l in
        let up = sym (h.same n (omega arith)) ∙ is_named l in
        record {
          done =
              passing s w (Some (better_of best n (key_at s n))) (suc n) m (omega arith)
              (λ j u v. sym (h.same j (omega arith)) ∙ sym (after-bit j (λ e. omega arith)) ∙ (first_is (bit after) 32).none j v)
              (carried s w n l up best h.done);
          same = λ j u. after-bit j (λ e. omega arith) ∙ h.same j (omega arith);
        }

-- a word that is not empty names a mailbox
pub some-named : (w : ℕ) → w < 2 ^ 32 → w ≢ 0 → first_below (bit w) 32 < 32
some-named w l d = at (dec_lt (first_below (bit w) 32) 32)
  where
    f : First (bit w) 32 (first_below (bit w) 32)
    f = first_is (bit w) 32

    at : Dec (first_below (bit w) 32 < 32) → first_below (bit w) 32 < 32
    at (yes k) = k
    at (no k) = absurd (d (same_below 32 w 0 l (pow_pos 32) (λ i u. f.none i (omega arith) ∙ sym (bit-zero i))))

-- the empty word names none
pub none_named : first_below (bit 0) 32 ≡ 32
none_named = first_by (bit 0) 32 32 (record { most = omega arith; holds = λ l. absurd (omega arith); none = λ j l. bit-zero j })

-- ---- the smallest key, of equal keys the lowest number

-- mailbox n goes before mailbox m, if the word names m: its key is not greater, and of equal keys its number is not
abbrev pub Before : List ℕ → ℕ → ℕ → ℕ → Type 0
Before s w n m = bit w m ≡ true → ((key_at s n).0 ≤ (key_at s m).0) × ((key_at s n).0 ≡ (key_at s m).0 → n ≤ m)

data Least (s : List ℕ) (w n m : ℕ) : Type 0 where
  nobody : m ≡ none_yet → ((j : ℕ) → j < n → bit w j ≡ false) → Least s w n m
  somebody : m < n → bit w m ≡ true → ((j : ℕ) → j < n → Before s w m j) → Least s w n m

module _ (s : List ℕ) (w n m : ℕ) where
  -- what holds below n, and at n, holds below n + 1
  more : (P : ℕ → Type 0) → ((j : ℕ) → j < n → P j) → P n → (j : ℕ) → j < suc n → P j
  more P f here j l = below_more P n f here j (omega arith)

  beats : m < mailboxes → better s n m ≡ true → (key_at s n).0 < (key_at s m).0
  beats l q = ltb-true (key_at s n).0 (key_at s m).0 (rw (ne_eqb m none_yet (λ e. omega arith)) at q)

  loses : m < mailboxes → better s n m ≡ false → (key_at s m).0 ≤ (key_at s n).0
  loses l q = ltb-false (key_at s n).0 (key_at s m).0 (rw (ne_eqb m none_yet (λ e. omega arith)) at q)

  -- mailbox n is not named; it is, and is better; it is, and is not
  least_out : bit w n ≡ false → Least s w n m → Least s w (suc n) m
  least_out p (nobody e f) = nobody e (more (λ j. bit w j ≡ false) f p)
  least_out p (somebody l q a) = somebody (omega arith) q (more (Before s w m) a (λ b. absurd (false≢true (sym p ∙ b))))

  module _ (small : n < mailboxes) (p : bit w n ≡ true) where
    least_new : better s n m ≡ true → Least s w n m → Least s w (suc n) n
    least_new q (nobody e f) =
        somebody (omega arith) p
        (more (Before s w n) (λ j l b. absurd (false≢true (sym (f j l) ∙ b))) (λ b. (omega arith, λ e. omega arith)))
    least_new q (somebody l g a) =
        let k = beats (omega arith) q in
        somebody (omega arith) p
        (more (Before s w n) (λ j h b. let z = (a j h b).0 in (omega arith, λ e. absurd (omega arith))) (λ b. (omega arith, λ e. omega arith)))

    least_old : better s n m ≡ false → Least s w n m → Least s w (suc n) m
    least_old q (nobody e f) = absurd (false≢true (sym q ∙ or_left (eqb m none_yet) _ (eq-eqb m none_yet e)))
    least_old q (somebody l g a) =
        somebody (omega arith) g (more (Before s w m) a (λ b. (loses (omega arith) q, λ e. omega arith)))

least_is : (s : List ℕ) (w n : ℕ) → n ≤ mailboxes → Least s w n (smallest_below s w n)
unfolding smallest_below
least_is s w zero l = nobody refl (below_none _)
least_is s w (suc n) l = at (bit w n) refl (better s n (smallest_below s w n)) refl (least_is s w n (omega arith))
  where
    at : (t : Bool) → bit w n ≡ t → (u : Bool) → better s n (smallest_below s w n) ≡ u → Least s w n (smallest_below s w n)
        → Least s w (suc n) (smallest_below s w (suc n))
    at false p u q h = rw p (least_out s w n (smallest_below s w n) p h)
    at true p true q h = rw (p, q) (least_new s w n (smallest_below s w n) (omega arith) p q h)
    at true p false q h = rw (p, q) (least_old s w n (smallest_below s w n) (omega arith) p q h)

-- ---- Sending: what is chosen

pub record Chosen (s : List ℕ) (w : ℕ) (mtos : Bool) (n : ℕ) : Type 0 where
  pub at-most : n ≤ mailboxes
  -- the word names no mailbox, or it names this one
  pub nobody : n ≡ mailboxes → (m : ℕ) → m < mailboxes → bit w m ≡ false
  pub named : n < mailboxes → bit w n ≡ true
  -- with MTOS it goes before all others by its key, without by its number
  pub by_key : n < mailboxes → mtos ≡ true → (m : ℕ) → m < mailboxes → Before s w n m
  pub by_number : n < mailboxes → mtos ≡ false → (m : ℕ) → m < mailboxes → bit w m ≡ true → n ≤ m

from_least : (s : List ℕ) (w n : ℕ) → Least s w mailboxes n → Chosen s w true n
from_least s w n (nobody e h) =
    record {
      at-most = omega arith;
      nobody = λ q. h;
      named = λ l. absurd (omega arith);
      by_key = λ l. absurd (omega arith);
      by_number = λ l. absurd (omega arith);
    }
from_least s w n (somebody g p a) =
    record {
      at-most = omega arith;
      nobody = λ q. absurd (omega arith);
      named = λ l. p;
      by_key = λ l q. a;
      by_number = λ l q. absurd (false≢true (sym q));
    }

from_first : (s : List ℕ) (w n : ℕ) → First (bit w) mailboxes n → Chosen s w false n
from_first s w n f =
    record {
      at-most = f.most;
      nobody = λ q m l. f.none m (omega arith);
      named = f.holds;
      by_key = λ l q. absurd (false≢true q);
      by_number = λ l q m g p. at m p (ltb m n) refl;
    }
  where
    at : (m : ℕ) → bit w m ≡ true → (t : Bool) → ltb m n ≡ t → n ≤ m
    at m p true e = absurd (false≢true (sym (f.none m (ltb-true m n e)) ∙ p))
    at m p false e = ltb-false m n e

pub chosen_is : (s : List ℕ) (w : ℕ) (mtos : Bool) → Chosen s w mtos (chosen s w mtos)
unfolding chosen
chosen_is s w true = from_least s w _ (least_is s w mailboxes (omega arith))
chosen_is s w false = from_first s w _ (first_is (bit w) mailboxes)

-- no other number is so
pub chosen_unique : (s : List ℕ) (w : ℕ) (mtos : Bool) (x y : ℕ) → Chosen s w mtos x → Chosen s w mtos y → x ≡ y
chosen_unique s w mtos x y a b = at (ltb x mailboxes) refl (ltb y mailboxes) refl
  where
    below : (x y : ℕ) → Chosen s w mtos x → Chosen s w mtos y → x < mailboxes → y < mailboxes → (t : Bool) → mtos ≡ t → x ≤ y
    below x y a b l g true q =
        let v = a.by_key l q y g (b.named g) in
        let z = b.by_key g q x l (a.named l) in
        v.1 (omega arith)
    below x y a b l g false q = a.by_number l q y g (b.named g)

    clash : (x y : ℕ) → Chosen s w mtos x → Chosen s w mtos y → x < mailboxes → mailboxes ≤ y → ⊥
    clash x y a b l g = false≢true (sym (b.nobody (omega (arith, b.at-most)) x l) ∙ a.named l)

    at : (t : Bool) → ltb x mailboxes ≡ t → (u : Bool) → ltb y mailboxes ≡ u → x ≡ y
    at true p true q =
        let l = ltb-true x mailboxes p in
        let g = ltb-true y mailboxes q in
        omega (arith, below x y a b l g mtos refl, below y x b a g l mtos refl)
    at true p false q = absurd (clash x y a b (ltb-true x mailboxes p) (ltb-false y mailboxes q))
    at false p true q = absurd (clash y x b a (ltb-true y mailboxes q) (ltb-false x mailboxes p))
    at false p false q = omega (arith, a.at-most, b.at-most, ltb-false x mailboxes p, ltb-false y mailboxes q)

-- ---- Sending: what a start takes

module _ (s : List ℕ) where
  pub next-off : on_bus (block_of s) ≡ false → next s ≡ none_yet
  unfolding next
  next-off h = rw h

  pub next_on : on_bus (block_of s) ≡ true → next s ≡ chosen s (eligible (block_of s)) (bit (block_of s).options 0)
  unfolding next
  next_on h = rw h

  pub next_is : on_bus (block_of s) ≡ true → Chosen s (eligible (block_of s)) (bit (block_of s).options 0) (next s)
  next_is h = rw (next_on h) (chosen_is s (eligible (block_of s)) (bit (block_of s).options 0))

  pub next-most : next s ≤ mailboxes
  next-most = at (on_bus (block_of s)) refl
    where
      at : (t : Bool) → on_bus (block_of s) ≡ t → next s ≤ mailboxes
      at true h = (next_is h).at-most
      at false h = omega (arith, next-off h)
