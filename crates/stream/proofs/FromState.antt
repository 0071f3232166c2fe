-- The bytes of a state that is taken are those of what stands in it.
use Prim.Native.Nat.{ℕ, ◌+◌, ◌-◌, ◌*◌, ◌/◌, ◌%◌, ◌<◌, ◌≤◌}
use mathlib.Core.Path.{◌≡◌, refl, sym, ◌∙◌, ap, ap₂}
use mathlib.Core.Bool.{true}
use mathlib.Core.List.{List, [], ◌∷◌, ◌++◌}
use native.Mathlib.Omega.{arith}
use native.Mathlib.Nat.{zero-add}
use lib.Dec.{eqb}
use lib.ListN.{length, drop, get_or, replicate, length-drop, take-append-drop}
use lib.Seq.{get_or-drop, drop-drop}
use borrow.Author.Tests.{eqb-true}
use Rattle.bits.proofs.Sets.{and_l, and_r}
use Rattle.words.specs.Word.{word_at}
use Rattle.words.proofs.Bytes.{Bytes, bytes_drop}
use Rattle.words.proofs.Laws.{word_by_bytes}
use Rattle.texts.specs.Text.{word_bytes}
use Rattle.stream.specs.Calls.{state_of, standing, seen, all_zero, ready}
use Rattle.stream.proofs.State.{ranged, came, length_came}

-- a digit to the base 256
digit : (q x r : ℕ) → x < 256 → q ≡ x + 256 * r → x ≡ q % 256
digit q x r h e = omega arith

-- a word's four bytes, and those behind
four : (t : List ℕ) → Bytes t → 4 ≤ length t → t ≡ word_bytes (word_at t 0) ++ drop 4 t
unfolding word_at
four [] b h = absurd (omega arith)
four (x ∷ []) b h = absurd (omega arith)
four (x ∷ y ∷ []) b h = absurd (omega arith)
four (x ∷ y ∷ z ∷ []) b h = absurd (omega arith)
four (x ∷ y ∷ z ∷ w ∷ rest) b h =
    let v : ℕ = x + 256 * y + 65536 * z + 16777216 * w in
    let a : x < 256 = b.small 0 in
    let c : y < 256 = b.small 1 in
    let d : z < 256 = b.small 2 in
    let e : w < 256 = b.small 3 in
    let p = digit v x (y + 256 * z + 65536 * w) a (omega arith) in
    let q = digit (v / 256) y (z + 256 * w) c (omega arith) in
    let r = digit (v / 65536) z w d (omega arith) in
    let s = digit (v / 16777216) w 0 e (omega arith) in
    λ i. p i ∷ q i ∷ r i ∷ s i ∷ rest

four_at : (t : List ℕ) → Bytes t → (i : ℕ) → i + 4 ≤ length t → drop i t ≡ word_bytes (word_at t i) ++ drop (i + 4) t
four_at t b i h =
    let e = word_by_bytes (drop i t) t 0 i (λ k l. ap (λ (j : ℕ). get_or (drop i t) j 0) (zero-add k) ∙ get_or-drop i t k 0) in
    four (drop i t) (bytes_drop i t b) (omega (arith, length-drop i t))
    ∙ ap₂ (λ (v : ℕ) (r : List ℕ). word_bytes v ++ r) e (drop-drop 4 i t)

-- zeros are nothing but zeros
zeros_are : (l : List ℕ) → all_zero l ≡ true → l ≡ replicate (length l) 0
unfolding all_zero
zeros_are [] h = refl
zeros_are (x ∷ l) h =
    ap₂ (λ (y : ℕ) (r : List ℕ). y ∷ r) (eqb-true x 0 (and_l (eqb x 0) (all_zero l) h)) (zeros_are l (and_r (eqb x 0) (all_zero l) h))

-- so they are, behind what is gathered
pub zeros_behind : (t : List ℕ) → length t ≡ 32 → ready t ≡ true → drop (seen t) (drop 16 t) ≡ replicate (16 - seen t) 0
zeros_behind t size r =
    let z = drop (16 + seen t) t in
    let e : length z ≡ 16 - seen t = omega (arith, length-drop (16 + seen t) t) in
    drop-drop (seen t) 16 t ∙ zeros_are z (ranged t r).1.1.1.1.1.1.0 ∙ ap (λ (j : ℕ). replicate j 0) e

pub standing-state : (s t : List ℕ) → length t ≡ 32 → Bytes t → ready t ≡ true → t ≡ state_of (standing s t)
unfolding state_of standing
standing-state s t size b r =
    let n = seen t in
    let c = came s t size b r in
    let k = length_came s t size b r in
    four_at t b 0 (omega arith)
    ∙ ap (λ (x : List ℕ). word_bytes (word_at t 0) ++ x) (four_at t b 4 (omega arith)
    ∙ ap (λ (x : List ℕ). word_bytes (word_at t 4) ++ x) (four_at t b 8 (omega arith)
    ∙ ap (λ (x : List ℕ). word_bytes (word_at t 8) ++ x) (four_at t b 12 (omega arith)
    ∙ ap₂ (λ (m : ℕ) (x : List ℕ). word_bytes m ++ x) (sym k)
    (sym (take-append-drop n (drop 16 t))
    ∙ ap (λ (x : List ℕ). c ++ x)
    (zeros_behind t size r ∙ ap (λ (j : ℕ). replicate (16 - j) 0) (sym k))))))
