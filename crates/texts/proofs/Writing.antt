-- Texts in lent bytes: what stands where, and what writers in a row promise together.
use Prim.Native.Nat.{ℕ, ◌+◌, ◌-◌, ◌/◌, ◌%◌, ◌≤◌}
use borrow.Rule.Slice.PartMut.{put_mid}
use mathlib.Core.Path.{◌≡◌, refl, sym, ◌∙◌, ap, ap₂}
use mathlib.Core.List.{List, [], ◌∷◌, ◌++◌, append_assoc}
use native.Mathlib.Omega.{arith}
use native.Mathlib.Numerals.{add-one}
use lib.ListN.{length, take, drop, set, length-append, length-set, take-append-drop}
use lib.Seq.{drop-drop, take-suc-set, drop-set-lt, take-append_seam}
use Rattle.words.specs.Word.{put_word}
use Rattle.answers.specs.Answer.{no_mailbox, packed, Fitted}
use Rattle.answers.proofs.Lists.{long_enough}
use Rattle.texts.specs.Text.{written, Put, word_bytes}

pub length-written : (o : List ℕ) (at : ℕ) (t : List ℕ) → length (written o at t) ≡ length o
unfolding written
length-written o at [] = refl
length-written o at (x ∷ t) = length-written (set o at x) (at + 1) t ∙ length-set o at x

-- one text behind another
pub written-append : (o : List ℕ) (at : ℕ) (t u : List ℕ) → written (written o at t) (at + length t) u ≡ written o at (t ++ u)
unfolding written
written-append o at [] u =
    let e : at + 0 ≡ at = omega arith in
    ap (λ (k : ℕ). written o k u) e
written-append o at (x ∷ t) u =
    let e : at + length (x ∷ t) ≡ at + 1 + length t = omega arith in
    ap (λ (k : ℕ). written (written (set o at x) (at + 1) t) k u) e ∙ written-append (set o at x) (at + 1) t u

-- where there is room, the text stands there and nothing else changes
pub written_is : (t o : List ℕ) (at : ℕ) → at + length t ≤ length o → written o at t ≡ take at o ++ (t ++ drop (at + length t) o)
unfolding written
written_is [] o at h =
    let e : at + 0 ≡ at = omega arith in
    sym (ap (λ (k : ℕ). take at o ++ drop k o) e ∙ take-append-drop at o)
written_is (x ∷ t) o at h =
    let l : length (set o at x) ≡ length o = length-set o at x in
    let e1 : take (at + 1) (set o at x) ≡ take at o ++ (x ∷ []) =
    ap (λ (k : ℕ). take k (set o at x)) (add-one at) ∙ take-suc-set o at x (omega arith) in
    let n : at + 1 + length t ≡ at + length (x ∷ t) = omega arith in
    let e2 : drop (at + 1 + length t) (set o at x) ≡ drop (at + length (x ∷ t)) o =
    drop-set-lt (at + 1 + length t) o at x (omega arith) ∙ ap (λ (k : ℕ). drop k o) n in
    written_is t (set o at x) (at + 1) (omega arith)
    ∙ ap (λ (p : List ℕ). p ++ (t ++ drop (at + 1 + length t) (set o at x))) e1
    ∙ append_assoc (take at o) (x ∷ []) (t ++ drop (at + 1 + length t) (set o at x))
    ∙ ap (λ (p : List ℕ). take at o ++ (x ∷ (t ++ p))) e2

-- a text that is copied over a part of the bytes as long
pub copied : (o t x : List ℕ) (at : ℕ) → at + length t ≤ length o → x ≡ t → put_mid at (at + length t - at) o x ≡ written o at t
copied o t x at h e =
    let size : at + length t - at ≡ length t = omega arith in
    rw (size, drop-drop, e) (sym (written_is t o at h))

-- a word is a text of four bytes
pub written-word : (o : List ℕ) (at v : ℕ) → put_word o at v ≡ written o at (word_bytes v)
unfolding written put_word
written-word o at v =
    let e2 : at + 2 ≡ at + 1 + 1 = omega arith in
    let e3 : at + 3 ≡ at + 1 + 1 + 1 = omega arith in
    ap₂ (λ (i j : ℕ). set (set (set (set o at (v % 256)) (at + 1) (v / 256 % 256)) i (v / 65536 % 256)) j (v / 16777216 % 256)) e2 e3

-- ---- what two writers in a row promise together

module _ {o : List ℕ} {at : ℕ} {t x : List ℕ} {p : ℕ} where
  pub as_text : {u : List ℕ} → t ≡ u → Put o at t x p → Put o at u x p
  as_text e h = record { bytes = h.bytes ∙ ap (written o at) e; behind = h.behind ∙ ap (λ (l : List ℕ). at + length l) e }

  pub kept : Put o at t x p → length x ≡ length o
  kept h = ap length h.bytes ∙ length-written o at t

  pub onward : Put o at t x p → (u : List ℕ) → written x p u ≡ written o at (t ++ u)
  onward h u =
      ap (λ (l : List ℕ). written l p u) h.bytes
      ∙ ap (λ (k : ℕ). written (written o at t) k u) h.behind
      ∙ written-append o at t u

  pub behind_both : Put o at t x p → (u : List ℕ) → p + length u ≡ at + length (t ++ u)
  behind_both h u = omega (arith, h.behind, length-append t u)

  pub both_put : {u y : List ℕ} {q : ℕ} → Put o at t x p → Put x p u y q → Put o at (t ++ u) y q
  both_put {u} h k = record { bytes = k.bytes ∙ onward h u; behind = k.behind ∙ behind_both h u }

  -- the room that is left for the second
  pub room : Put o at t x p → (u : List ℕ) → at + length (t ++ u) ≤ length o → p + length u ≤ length x
  room h u l = omega (arith, kept h, behind_both h u)

-- a text from the front on: it stands there, and the bytes past it stay
pub at_front : {o t x : List ℕ} {p : ℕ} → length t ≤ length o → Put o 0 t x p → x ≡ t ++ drop (length t) o
at_front {o} {t} h w =
    let z : 0 + length t ≡ length t = omega arith in
    w.bytes ∙ written_is t o 0 (omega arith) ∙ ap (λ (k : ℕ). t ++ drop k o) z

pub front_of : {o t x : List ℕ} {p : ℕ} → length t ≤ length o → Put o 0 t x p → take p x ≡ t
front_of {o} {t} h w =
    let z : 0 + length t ≡ length t = omega arith in
    ap₂ take (w.behind ∙ z) (at_front h w) ∙ take-append_seam t (drop (length t) o)

-- so a list that was put there, where there is room for it, is told
pub put_down : {count : ℕ} {o t x : List ℕ} {p r : ℕ} → length t ≤ length o → Put o 0 t x p → r ≡ packed 0 no_mailbox count → Fitted count t o x r
put_down l w e = long_enough l (at_front l w, e)

-- the room for the first of two texts
pub front : (t u : List ℕ) (at n : ℕ) → at + length (t ++ u) ≤ n → at + length t ≤ n
front t u at n h = omega (arith, length-append t u)
