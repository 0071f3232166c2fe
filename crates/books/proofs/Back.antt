-- The flags of a block that was put into an image are read back, whatever its words are: words are cut to their four bytes, which no
-- bit below 32 sees. The bytes of the mailboxes keep their length, whatever the event is.
use Prim.Native.Nat.{ℕ, zero, suc, ◌+◌, ◌-◌, ◌/◌, ◌%◌, ◌^◌, ◌<◌, ◌≤◌}
use mathlib.Core.Path.{◌≡◌, refl, ◌∙◌, ap}
use mathlib.Core.Bool.{not, ◌&&◌}
use mathlib.Core.List.{List, [], ◌∷◌, map}
use native.Mathlib.Omega.{arith}
use lib.Dec.{eqb, lit<}
use lib.ListN.{get_or, length}
use lib.Pow.{field, mod-mod-pow}
use Rattle.bits.specs.Bit.{bit, digit}
use Rattle.words.specs.Word.{put_word, put_words}
use Rattle.registers.specs.declared.Block.{Block}
use Rattle.registers.specs.Block.{image_bytes, registers_at, protection_at, empty_slot, block_of, put_block, of_words, first_words, last_words, to_words}
use Rattle.registers.proofs.Laws.{block_back}
use Rattle.books.specs.Ledger.{now}
use Rattle.books.proofs.Follows.{look}

-- ---- words cut to four bytes

abbrev cut : ℕ → ℕ
cut v = v % 2 ^ 32

-- i bits from bit k on, of a word that is cut above them
piece : (v j i k : ℕ) → v % 2 ^ (j + i + k) / 2 ^ k % 2 ^ i ≡ v / 2 ^ k % 2 ^ i
piece v j i k = ap (λ (x : ℕ). x % 2 ^ i) (field v (j + i) k) ∙ mod-mod-pow (v / 2 ^ k) j i

put_cut : (s : List ℕ) (at v : ℕ) → put_word s at v ≡ put_word s at (cut v)
unfolding put_word
put_cut s at v =
    let a : cut v % 256 ≡ v % 256 = mod-mod-pow v 24 8 in
    let b : cut v / 256 % 256 ≡ v / 256 % 256 = piece v 16 8 8 in
    let c : cut v / 65536 % 256 ≡ v / 65536 % 256 = piece v 8 8 16 in
    let d : cut v / 16777216 % 256 ≡ v / 16777216 % 256 = piece v 0 8 24 in
    rw (a, b, c, d)

puts_cut : (s : List ℕ) (at : ℕ) (ws : List ℕ) → put_words s at ws ≡ put_words s at (map cut ws)
unfolding put_words
puts_cut s at [] = refl
puts_cut s at (w ∷ ws) =
    ap (λ (x : List ℕ). put_words x (at + 4) ws) (put_cut s at w) ∙ puts_cut (put_word s at (cut w)) (at + 4) ws

bit_cut : (w m : ℕ) → m < 32 → bit (cut w) m ≡ bit w m
unfolding digit
bit_cut w m h =
    let e : 32 ≡ 31 - m + 1 + m = omega arith in
    ap (λ (x : ℕ). eqb x 1) (ap (λ (k : ℕ). w % 2 ^ k / 2 ^ m % 2) e ∙ piece w (31 - m) 1 m)

-- ---- a block in an image

abbrev cut_block : Block → Block
cut_block b = of_words (map cut (to_words b))

cut_small : (ws : List ℕ) (j : ℕ) → get_or (map cut ws) j 0 < 2 ^ 32
cut_small [] j = lit< tt
cut_small (w ∷ ws) zero = omega arith
cut_small (w ∷ ws) (suc j) = cut_small ws j

put_block_cut : (s : List ℕ) (b : Block) → put_block s b ≡ put_block s (cut_block b)
unfolding put_block
put_block_cut s b =
    puts_cut (put_words s registers_at (first_words b)) protection_at (last_words b)
    ∙ ap (λ (x : List ℕ). put_words x protection_at (map cut (last_words b))) (puts_cut s registers_at (first_words b))

block_cut : (s : List ℕ) (b : Block) → length s ≡ image_bytes → block_of (put_block s b) ≡ cut_block b
block_cut s b h = ap block_of (put_block_cut s b) ∙ block_back s (cut_block b) h (λ j l. cut_small (to_words b) j)

pub look_back : (m : ℕ) (s : List ℕ) (b : Block) → m < 32 → length s ≡ image_bytes → b.slot ≤ empty_slot → look m (block_of (put_block s b)) ≡ look m b
look_back m s b hm h l =
    let slot : cut b.slot ≡ b.slot = omega arith in
    ap (look m) (block_cut s b h)
    ∙ (λ i. now (bit_cut b.rmp m hm i) (bit_cut b.rml m hm i) (bit_cut b.trs m hm i) (not (eqb (slot i) empty_slot) && eqb m (slot i)) (bit_cut b.trr m hm i))
