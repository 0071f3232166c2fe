-- A block follows another by some happenings at mailbox m: its flags are what the happenings make of them. How such steps combine.
use Prim.Native.Nat.{ℕ, zero, suc}
use mathlib.Core.Path.{◌≡◌, refl, sym, ◌∙◌, ap, subst}
use mathlib.Core.Bool.{Bool, true, false, cond}
use mathlib.Core.List.{List, [], ◌∷◌, ◌++◌}
use lib.ListN.{get_or}
use Rattle.bits.specs.Bit.{bit}
use Rattle.registers.specs.declared.Block.{Block}
use Rattle.books.specs.Ledger.{Happening, Now, now, after, afters}
use Rattle.books.specs.Happen.{when, in_slot}
use Rattle.books.proofs.Balance.{Fair, Fairs, afters_join, fairs_join}

-- what the flag words and the slot say of mailbox m
abbrev pub look : ℕ → Block → Now
look m b = now (bit b.rmp m) (bit b.rml m) (bit b.trs m) (in_slot b m) (bit b.trr m)

-- b follows a, and keeps a fact of blocks
pub record Follows (P : Block → Type 0) (m : ℕ) (a b : Block) (l : List Happening) : Type 0 where
  pub seen : look m b ≡ afters (look m a) l
  pub fair : Fairs (look m a) l
  pub keeps : P a → P b

pub same : {A : Type 0} (t : Bool) (x : A) → x ≡ cond t x x
same true x = refl
same false x = refl

-- a table of blocks beside a table of happenings; a number that is in neither changes nothing
abbrev pub Rows : (Block → Type 0) → ℕ → Block → List Block → List (List Happening) → Type 0
Rows P m a [] [] = Unit
Rows P m a [] (h ∷ r) = ⊥
Rows P m a (b ∷ l) [] = Follows P m a b [] × Rows P m a l []
Rows P m a (b ∷ l) (h ∷ r) = Follows P m a b h × Rows P m a l r

module _ {P : Block → Type 0} where
  pub none : (m : ℕ) (a b : Block) → look m b ≡ look m a → (P a → P b) → Follows P m a b []
  unfolding afters
  none m a b e k = record { seen = e; fair = tt; keeps = k }

  -- one after the other
  pub both : (m : ℕ) (a b c : Block) (l r : List Happening) → Follows P m a b l → Follows P m b c r → Follows P m a c (l ++ r)
  both m a b c l r p q =
      record {
        seen = q.seen ∙ ap (λ (n : Now). afters n r) p.seen ∙ sym (afters_join (look m a) l r);
        fair = fairs_join (look m a) l r p.fair (subst (λ (n : Now). Fairs n r) p.seen q.fair);
        keeps = λ k. q.keeps (p.keeps k);
      }

  pub table : (m : ℕ) (a : Block) (l : List Block) (r : List (List Happening)) → Rows P m a l r → (t : ℕ) → Follows P m a (get_or l t a) (get_or r t [])
  table m a [] [] f t = none m a a refl (λ k. k)
  table m a [] (h ∷ r) f t = absurd f
  table m a (b ∷ l) [] f zero = f.0
  table m a (b ∷ l) [] f (suc t) = table m a l [] f.1 t
  table m a (b ∷ l) (h ∷ r) f zero = f.0
  table m a (b ∷ l) (h ∷ r) f (suc t) = table m a l r f.1 t

  -- one happening where the test holds: each of the five is that choice
  pub once : (m : ℕ) (a b : Block) (t : Bool) (h : Happening)
      → bit b.rmp m ≡ cond t (after (look m a) h).held (bit a.rmp m)
      → bit b.rml m ≡ cond t (after (look m a) h).lost (bit a.rml m)
      → bit b.trs m ≡ cond t (after (look m a) h).waiting (bit a.trs m)
      → in_slot b m ≡ cond t (after (look m a) h).sending (in_slot a m)
      → bit b.trr m ≡ cond t (after (look m a) h).cancelled (bit a.trr m)
      → (t ≡ true → Fair (look m a) h)
      → (P a → P b)
      → Follows P m a b (when t h)
  unfolding when afters
  once m a b true h r l w s c f k = record { seen = λ i. now (r i) (l i) (w i) (s i) (c i); fair = (f refl, tt); keeps = k }
  once m a b false h r l w s c f k = record { seen = λ i. now (r i) (l i) (w i) (s i) (c i); fair = tt; keeps = k }

-- another block with the same flags, and another fact
pub then : {P Q : Block → Type 0} (m : ℕ) (a b c : Block) (l : List Happening) → Follows P m a b l → look m c ≡ look m b → (Q a → Q c) → Follows Q m a c l
then m a b c l p e k = record { seen = e ∙ p.seen; fair = p.fair; keeps = k }

-- where none is asked for
abbrev pub Any : Block → Type 0
Any b = Unit
