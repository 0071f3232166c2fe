-- The lines: those of the mailboxes before a place of the search, their bytes, and where they end.
use Prim.Native.Nat.{ℕ, zero, suc, ◌+◌, ◌*◌, ◌/◌, ◌%◌, ◌<◌, ◌≤◌}
use mathlib.Core.Path.{◌≡◌, refl, sym, ◌∙◌, ap, subst}
use mathlib.Core.Bool.{Bool, true, false, cond}
use mathlib.Core.List.{List, [], ◌∷◌, ◌++◌}
use mathlib.Core.Logic.{◌⊎◌, inl, inr, ⊎_elim}
use native.Mathlib.Decide.{ℕ_discrete}
use native.Mathlib.Nat.{add-zero, mod-eq_of_lt}
use native.Mathlib.Numerals.{add-one}
use native.Mathlib.Omega.{arith}
use lib.Dec.{ltb}
use lib.ListN.{length, length-append}
use borrow.Author.Tests.{lt-ltb, le-ltb, ltb-true, ltb-false}
use Rattle.bits.specs.Below.{count_below, first_below}
use Rattle.bits.proofs.Below.{first_by}
use Rattle.answers.specs.Answer.{Fitted}
use Rattle.texts.specs.Text.{word_bytes}
use Rattle.texts.proofs.Parts.{parts_none, parts_one, parts_both, parts_length}
use Rattle.registers.specs.Block.{block_of}
use Rattle.registers.specs.Status.{bus_off}
use Rattle.registers.specs.Modes.{on_bus}
use Rattle.events.specs.declared.Frame.{Frame}
use Rattle.filter.specs.Filter.{seat}
use Rattle.rules.specs.Words.{Words}
use Rattle.rules.specs.Receiving.{seat as ordered}
use Rattle.explain.specs.declared.Reason.{Reason}
use Rattle.explain.specs.declared.Reason.TheVariants.{NotHeard}
use Rattle.explain.specs.declared.Line.{Line}
use Rattle.explain.specs.Explain.{lines_below, is_matched, line_count, lines, unheard, line_bytes, list_bytes}
use Rattle.explain.specs.Terms.{reason_by, explained_by}
use Rattle.explain.specs.Agreement.{IsTold, InOrder, was_compared, comparisons}

-- ---- bytes

text-none : list_bytes [] ≡ []
unfolding list_bytes
text-none = parts_none line_bytes

text-one : (l : Line) → list_bytes (l ∷ []) ≡ line_bytes l
unfolding list_bytes
text-one = parts_one line_bytes

text_both : (ls ms : List Line) → list_bytes (ls ++ ms) ≡ list_bytes ls ++ list_bytes ms
unfolding list_bytes
text_both = parts_both line_bytes

-- 8 a line
pub text-length : (ls : List Line) → length (list_bytes ls) ≡ 8 * length ls
unfolding list_bytes
text-length = parts_length line_bytes 8 (λ l. refl)

-- a line in two words
pub line-words : (m n d : ℕ) → m < 256 → n < 256 → d < 256 → word_bytes (m + 256 * n + 65536 * d) ++ word_bytes 0 ≡ m ∷ n ∷ d ∷ 0 ∷ 0 ∷ 0 ∷ 0 ∷ 0 ∷ []
line-words m n d hm hn hd =
    let w = m + 256 * n + 65536 * d in
    let e0 : w % 256 ≡ m = omega arith in
    let q1 : w / 256 ≡ n + 256 * d = omega arith in
    let e1 : w / 256 % 256 ≡ n = ap (λ (x : ℕ). x % 256) q1 ∙ omega arith in
    let q2 : w / 65536 ≡ d = omega arith in
    let e2 : w / 65536 % 256 ≡ d = ap (λ (x : ℕ). x % 256) q2 ∙ mod-eq_of_lt hd in
    let q3 : w / 16777216 ≡ 0 = omega arith in
    let e3 : w / 16777216 % 256 ≡ 0 = ap (λ (x : ℕ). x % 256) q3 in
    λ i. e0 i ∷ e1 i ∷ e2 i ∷ e3 i ∷ 0 ∷ 0 ∷ 0 ∷ 0 ∷ []

-- the line of a frame that is not heard
pub unheard-bytes : (mode : ℕ) (off : Bool) → list_bytes (unheard mode off) ≡ line_bytes (record { mailbox = 32; reason = NotHeard (cond off 4 mode) })
unheard-bytes mode off = text-one (record { mailbox = 32; reason = NotHeard (cond off 4 mode) })

pub state-small : (off : Bool) (mode : ℕ) → mode ≤ 3 → cond off 4 mode < 256
state-small true mode h = omega arith
state-small false mode h = omega arith

-- what is told of lines is told of the same lines
pub same-fitted : {ls ms : List Line} {o x : List ℕ} {r : ℕ} → ls ≡ ms → Fitted (length ls) (list_bytes ls) o x r → Fitted (length ms) (list_bytes ms) o x r
same-fitted {o = o} {x = x} {r = r} e = subst (λ (l : List Line). Fitted (length l) (list_bytes l) o x r) e

-- ---- the lines before a place

module _ (order : ℕ → ℕ) (r : ℕ → Reason) where
  abbrev line : ℕ → Line
  line k = record { mailbox = order k; reason = r (order k) }

  -- one more
  pub text-next : (k : ℕ) → list_bytes (lines_below order r (k + 1)) ≡ list_bytes (lines_below order r k) ++ line_bytes (line k)
  unfolding lines_below
  text-next k =
      ap (λ (n : ℕ). list_bytes (lines_below order r n)) (add-one k)
      ∙ text_both (lines_below order r k) (line k ∷ [])
      ∙ ap (λ (t : List ℕ). list_bytes (lines_below order r k) ++ t) (text-one (line k))

  pub none_below : list_bytes (lines_below order r 0) ≡ []
  unfolding lines_below
  none_below = text-none

  -- how many there are
  pub below_length : (k : ℕ) → length (lines_below order r k) ≡ k
  unfolding lines_below
  below_length zero = refl
  below_length (suc k) = length-append (lines_below order r k) (line k ∷ []) ∙ omega (arith, below_length k)

  pub below_bytes : (k : ℕ) → length (list_bytes (lines_below order r k)) ≡ 8 * k
  below_bytes k = text-length (lines_below order r k) ∙ ap (λ (n : ℕ). 8 * n) (below_length k)

-- ---- where they end

pub ends_at : (n : ℕ) → n < 32 → line_count n ≡ n + 1
ends_at n l = rw (le-ltb 32 (suc n) (omega arith)) (sym (add-one n))

pub ends_last : (n : ℕ) → 32 ≤ n → line_count n ≡ 32
ends_last n l = rw (lt-ltb 32 (suc n) (omega arith))

-- at the first mailbox that matched, or at the last
module _ (order : ℕ → ℕ) (r : ℕ → Reason) where
  abbrev pub matched_at : ℕ → Bool
  matched_at k = is_matched (r (order k))

  pub matched-ends : (k : ℕ) → k < 32 → matched_at k ≡ true → ((j : ℕ) → j < k → matched_at j ≡ false) → lines order r ≡ lines_below order r (k + 1)
  unfolding lines
  matched-ends k l h before =
      let e = first_by matched_at 32 k (record { most = omega arith; holds = λ m. h; none = before }) in
      ap (lines_below order r) (ap line_count e ∙ ends_at k l)

  pub none-ends : ((j : ℕ) → j < 32 → matched_at j ≡ false) → lines order r ≡ lines_below order r 32
  unfolding lines
  none-ends before =
      let e = first_by matched_at 32 32 (record { most = omega arith; holds = λ m. absurd (omega arith); none = before }) in
      ap (lines_below order r) (ap line_count e ∙ ends_last 32 (omega arith))

  -- 32 lines at most
  pub lines-most : length (lines order r) ≤ 32
  unfolding lines
  lines-most = omega (arith, below_length order r (line_count stop), at (ltb stop 32) refl)
    where
      stop : ℕ
      stop = first_below matched_at 32

      at : (t : Bool) → ltb stop 32 ≡ t → line_count stop ≤ 32
      at true q = let l = ltb-true stop 32 q in omega (arith, ends_at stop l)
      at false q = omega (arith, ends_last stop (ltb-false stop 32 q))

-- the lines of a frame, by whether it is heard
module _ (s : List ℕ) (f : Frame) where
  pub heard-lines : on_bus (block_of s) ≡ true → explained_by s f ≡ lines (seat (block_of s)) (reason_by s f)
  heard-lines h = rw h

  pub unheard-lines : on_bus (block_of s) ≡ false → explained_by s f ≡ unheard (block_of s).mode (bus_off (block_of s))
  unheard-lines h = rw h

  pub explained-most : length (explained_by s f) ≤ 32
  explained-most = at (on_bus (block_of s)) refl
    where
      at : (t : Bool) → on_bus (block_of s) ≡ t → length (explained_by s f) ≤ 32
      at true h = omega (arith, ap length (heard-lines h), lines-most (seat (block_of s)) (reason_by s f))
      at false h = omega (arith, ap length (unheard-lines h))

-- ---- what is told

told-left : (n : ℕ) (why : Reason) (ls ms : List Line) → IsTold n why ls → IsTold n why (ls ++ ms)
told-left n why [] ms h = absurd h
told-left n why (l ∷ ls) ms (inl p) = inl p
told-left n why (l ∷ ls) ms (inr h) = inr (told-left n why ls ms h)

told_right : (n : ℕ) (why : Reason) (ls ms : List Line) → IsTold n why ms → IsTold n why (ls ++ ms)
told_right n why [] ms h = h
told_right n why (l ∷ ls) ms h = inr (told_right n why ls ms h)

told_either : (n : ℕ) (why : Reason) (ls ms : List Line) → IsTold n why (ls ++ ms) → IsTold n why ls ⊎ IsTold n why ms
told_either n why [] ms h = inr h
told_either n why (l ∷ ls) ms (inl p) = inl (inl p)
told_either n why (l ∷ ls) ms (inr h) = ⊎_elim (λ g. inl (inr g)) (λ g. inr g) (told_either n why ls ms h)

module _ (order : ℕ → ℕ) (r : ℕ → Reason) (n : ℕ) (why : Reason) where
  -- a line before place k is that of the mailbox at such a place, with its reason
  pub is_below : (k : ℕ) → IsTold n why (lines_below order r k) → (j : ℕ) × (j < k) × (order j ≡ n) × (r n ≡ why)
  unfolding lines_below
  is_below zero h = absurd h
  is_below (suc k) h =
      ⊎_elim (λ g. let p = is_below k g in let l = p.1 in (p.0, omega arith, p.2, p.3))
      (λ g. ⊎_elim (λ p. (k, omega arith, p.0, ap r (sym p.0) ∙ p.1)) (λ z. absurd z) g)
      (told_either n why (lines_below order r k) (record { mailbox = order k; reason = r (order k) } ∷ []) h)

  pub below_is : (k j : ℕ) → j < k → order j ≡ n → r n ≡ why → IsTold n why (lines_below order r k)
  unfolding lines_below
  below_is zero j l o e = absurd (omega arith)
  below_is (suc k) j l o e = at (ℕ_discrete j k) (λ m. below_is k j m o e)
    where
      at : Dec (j ≡ k) → (j < k → IsTold n why (lines_below order r k)) → IsTold n why (lines_below order r k ++ (record { mailbox = order k; reason = r (order k) } ∷ []))
      at (yes q) go =
          let m = ap order (sym q) ∙ o in
          told_right n why (lines_below order r k) (record { mailbox = order k; reason = r (order k) } ∷ []) (inl (m, ap r m ∙ e))
      at (no d) go = told-left n why (lines_below order r k) (record { mailbox = order k; reason = r (order k) } ∷ []) (go (omega arith))

-- ---- their order

order_more : (w : Words) (k : ℕ) (ls : List Line) (l : Line) → InOrder w k ls → l.mailbox ≡ ordered w (k + length ls) → InOrder w k (ls ++ (l ∷ []))
order_more w k [] l p e = (e ∙ ap (ordered w) (add-zero k), tt)
order_more w k (m ∷ ls) l p e =
    let q : k + length (m ∷ ls) ≡ k + 1 + length ls = omega arith in
    (p.0, order_more w (k + 1) ls l p.1 (e ∙ ap (ordered w) q))

pub order_below : (w : Words) (r : ℕ → Reason) (k : ℕ) → InOrder w 0 (lines_below (ordered w) r k)
unfolding lines_below
order_below w r zero = tt
order_below w r (suc k) =
    let q : k ≡ 0 + length (lines_below (ordered w) r k) = omega (arith, below_length (ordered w) r k) in
    order_more w 0 (lines_below (ordered w) r k) (record { mailbox = ordered w k; reason = r (ordered w k) }) (order_below w r k) (ap (ordered w) q)

-- ---- the lines of compared mailboxes

comparisons_both : (ls ms : List Line) → comparisons (ls ++ ms) ≡ comparisons ls + comparisons ms
unfolding comparisons
comparisons_both [] ms = omega arith
comparisons_both (l ∷ ls) ms = omega (arith, comparisons_both ls ms)

pub comparisons_below : (order : ℕ → ℕ) (r : ℕ → Reason) (k : ℕ) → comparisons (lines_below order r k) ≡ count_below (λ j. was_compared (r (order j))) k
unfolding lines_below comparisons count_below
comparisons_below order r zero = refl
comparisons_below order r (suc k) =
    comparisons_both (lines_below order r k) (record { mailbox = order k; reason = r (order k) } ∷ []) ∙ omega (arith, comparisons_below order r k)
