-- What a match is: bit by bit, and without a mask in plain terms.
use Prim.Native.Nat.{ℕ, ◌+◌, ◌-◌, ◌/◌, ◌%◌, ◌^◌, ◌<◌, ◌≤◌}
use mathlib.Core.Path.{◌≡◌, refl, sym, ◌∙◌, ap}
use mathlib.Core.Bool.{Bool, true, false, not, xor, ◌&&◌, ◌||◌, and-true, and-false, or-true, or-false, false≢true}
use mathlib.Core.Logic.{◌≢◌}
use native.Mathlib.Nat.{mod-lt}
use native.Mathlib.Omega.{arith}
use lib.Dec.{eqb, ltb, leb}
use lib.Bits.{bit_and, bit_xor}
use lib.Pow.{pow_pos, shr-shr, field, mod-mod-pow}
use borrow.Author.Tests.{eqb-true, eq-eqb, ne_eqb, lt-ltb, le-ltb, ltb-true, ltb-false, leb-true, le-leb, not-true}
use Rattle.bits.specs.Bit.{digit, bit, flag}
use Rattle.bits.specs.Below.{all_below}
use Rattle.bits.proofs.Laws.{bit-and, bit-or, bit-xor, bit-without, bit-zero, bit_high, bit-flag, same_bits, same_below, or_below, flag-above}
use Rattle.bits.proofs.Sets.{and_l, and_r}
use Rattle.bits.proofs.Below.{each_below}
use mathlib.Core.List.{List}
use Rattle.registers.specs.declared.Block.{Block}
use Rattle.registers.specs.Block.{mask_word}
use Rattle.registers.specs.Status.{ecan}
use Rattle.mailboxes.specs.Mailbox.{ide, maskable, identifier}
use Rattle.mailboxes.specs.Arbitration.{identifier_of, base}
use Rattle.events.specs.declared.Frame.{Frame}
use Rattle.filter.specs.Filter.{last_mailbox, mask_for, freed_by, compared, frame_word, differing, agreeing}

-- ---- two tests that do not differ

xor_same : (a b : Bool) → xor a b ≡ false → a ≡ b
unfolding xor
xor_same true true h = refl
xor_same true false h = absurd (false≢true (sym h))
xor_same false true h = absurd (false≢true (sym h))
xor_same false false h = refl

same-xor : (a b : Bool) → a ≡ b → xor a b ≡ false
unfolding xor
same-xor true true h = refl
same-xor true false h = absurd (false≢true (sym h))
same-xor false true h = absurd (false≢true h)
same-xor false false h = refl

-- a difference that counts: where c holds and d does not
unseen : (a b c d : Bool) → ((xor a b && c) && not d) ≡ false → c ≡ true → d ≡ false → a ≡ b
unseen a b c d h p q = xor_same a b (sym (and-true (xor a b)) ∙ sym (and-true (xor a b && true)) ∙ rw (p, q) at h)

none_seen : (a b c d : Bool) → (c ≡ true → d ≡ false → a ≡ b) → ((xor a b && c) && not d) ≡ false
none_seen a b true false h = rw (same-xor a b (h refl refl))
none_seen a b true true h = and-false (xor a b && true)
none_seen a b false d h = rw (and-false (xor a b))

-- ---- Receiving: a match, by bits

-- every compared bit that is not freed agrees
abbrev pub Agrees : ℕ → Frame → ℕ → Type 0
Agrees m f w =
    (i : ℕ) → bit (compared f) i ≡ true → bit (freed_by m w) i ≡ false → bit w i ≡ bit (frame_word f) i

module _ (m : ℕ) (f : Frame) (w : ℕ) where
  pub seen : (i : ℕ) → bit (differing m f w) i
      ≡ ((xor (bit w i) (bit (frame_word f) i) && bit (compared f) i) && not (bit (freed_by m w) i))
  seen i =
      bit-without (bit_and (bit_xor w (frame_word f)) (compared f)) (freed_by m w) i
      ∙ ap (λ (x : Bool). x && not (bit (freed_by m w) i))
      (bit-and (bit_xor w (frame_word f)) (compared f) i
      ∙ ap (λ (x : Bool). x && bit (compared f) i) (bit-xor w (frame_word f) i))

  pub match_agrees : agreeing m f w ≡ true → Agrees m f w
  match_agrees h i p q =
      let e = eqb-true (differing m f w) 0 h in
      unseen (bit w i) (bit (frame_word f) i) (bit (compared f) i) (bit (freed_by m w) i)
      (sym (seen i) ∙ ap (λ (x : ℕ). bit x i) e ∙ bit-zero i) p q

  pub agrees_match : Agrees m f w → agreeing m f w ≡ true
  agrees_match h =
      eq-eqb (differing m f w) 0
      (same_bits (differing m f w) 0
      (λ i.
      seen i
      ∙ none_seen (bit w i) (bit (frame_word f) i) (bit (compared f) i) (bit (freed_by m w) i) (h i)
      ∙ sym (bit-zero i)))

-- ---- Receiving: which bits are freed: without GAME or LAME none, with it those of the mask: of a CAN-B those of LAM at the last
-- mailbox and of GAM elsewhere, of an eCAN those of the mailbox's own

module _ (m w : ℕ) where
  pub freed-none : maskable w ≡ false → freed_by m w ≡ 0
  freed-none h = rw h

  pub freed-mask : maskable w ≡ true → freed_by m w ≡ m
  freed-mask h = rw h

module _ (s : List ℕ) (b : Block) (n : ℕ) where
  pub mask-last : ecan b ≡ false → n ≡ last_mailbox → mask_for s b n ≡ b.lam
  mask-last p e = rw (p, eq-eqb n last_mailbox e)

  pub mask-other : ecan b ≡ false → n ≢ last_mailbox → mask_for s b n ≡ b.gam
  mask-other p d = rw (p, ne_eqb n last_mailbox d)

  pub mask-own : ecan b ≡ true → mask_for s b n ≡ mask_word s n
  mask-own p = rw p

-- ---- Receiving: which bits are compared, and the frame's own bits

-- IDE always; of the identifier the bits 28 to 18 always, 17 to 0 for an extended frame; RFH and GAME or LAME never
abbrev pub is_compared_bit : Bool → ℕ → Bool
is_compared_bit extended i = eqb i 31 || (ltb i 29 && (extended || leb 18 i))

-- computed once for the 32 bits of a word, in both formats
abbrev frame_of : Bool → Frame
frame_of extended =
    record { ide = extended; rtr = false; id = record { 0 = 0 }; dlc = 0; bytes = 0 }

alike : Bool → ℕ → Bool
alike extended i = not (xor (bit (compared (frame_of extended)) i) (is_compared_bit extended i))

table : (extended : Bool) → all_below (alike extended) 32 ≡ true
unfolding alike all_below xor digit
table true = refl
table false = refl

compared_lt : (extended : Bool) → compared (frame_of extended) < 2 ^ 32
compared_lt true = omega arith
compared_lt false = omega arith

pub compared-bit : (f : Frame) (i : ℕ) → bit (compared f) i ≡ is_compared_bit f.ide i
unfolding alike
compared-bit f i = at f.ide (ltb i 32) refl
  where
    at : (t u : Bool) → ltb i 32 ≡ u → bit (compared (frame_of t)) i ≡ is_compared_bit t i
    at t true e = xor_same _ _ (not-true _ (each_below (alike t) 32 (table t) i (ltb-true i 32 e)))
    at t false e =
        let l = ltb-false i 32 e in
        let a = ne_eqb i 31 (λ q. omega arith) in
        let b = le-ltb i 29 (omega arith) in
        bit_high i 32 (compared (frame_of t)) (compared_lt t) l ∙ sym (rw (a, b))

pub frame-bit : (f : Frame) → f.id.0 < 2 ^ 29 → (i : ℕ) → bit (frame_word f) i ≡ ((f.ide && eqb i 31) || bit f.id.0 i)
frame-bit f h i =
    ap (λ (x : ℕ). bit x i) (sym (or_below (flag f.ide 31) f.id.0 31 (flag-above f.ide 31) (omega arith)))
    ∙ bit-or (flag f.ide 31) f.id.0 i
    ∙ ap (λ (x : Bool). x || bit f.id.0 i) (bit-flag f.ide 31 i)

-- ---- len bits of a word from bit lo on

module _ (lo len : ℕ) where
  bit-field : (a i : ℕ) → i < len → bit (a / 2 ^ lo % 2 ^ len) i ≡ bit a (lo + i)
  unfolding digit
  bit-field a i h =
      let y = a / 2 ^ lo in
      let k = len - i - 1 in
      let e : len ≡ k + 1 + i = omega arith in
      ap (λ (x : ℕ). eqb x 1)
      (ap (λ (x : ℕ). y % 2 ^ x / 2 ^ i % 2) e
      ∙ ap (λ (x : ℕ). x % 2) (field y (k + 1) i)
      ∙ mod-mod-pow (y / 2 ^ i) k 1
      ∙ ap (λ (x : ℕ). x % 2) (shr-shr a lo i))

  -- fields of the same bits are the same
  same-field : (a b : ℕ) → ((i : ℕ) → i < len → bit a (lo + i) ≡ bit b (lo + i)) → a / 2 ^ lo % 2 ^ len ≡ b / 2 ^ lo % 2 ^ len
  same-field a b h =
      same_below len (a / 2 ^ lo % 2 ^ len) (b / 2 ^ lo % 2 ^ len) (mod-lt _ (pow_pos len)) (mod-lt _ (pow_pos len))
      (λ i l. bit-field a i l ∙ h i l ∙ sym (bit-field b i l))

  field-same : (a b : ℕ) → a / 2 ^ lo % 2 ^ len ≡ b / 2 ^ lo % 2 ^ len → (i : ℕ) → lo ≤ i → i < lo + len → bit a i ≡ bit b i
  field-same a b e i l h =
      let j = i - lo in
      let k : lo + j ≡ i = omega arith in
      ap (bit a) (sym k)
      ∙ sym (bit-field a j (omega arith))
      ∙ ap (λ (x : ℕ). bit x j) e
      ∙ bit-field b j (omega arith)
      ∙ ap (bit b) k

-- ---- Receiving: a match without a mask

module _ (m : ℕ) (f : Frame) (w : ℕ) (fits : f.id.0 < 2 ^ 29) (bare : maskable w ≡ false) where
  none-freed : (i : ℕ) → bit (freed_by m w) i ≡ false
  none-freed i = ap (λ (x : ℕ). bit x i) (freed-none m w bare) ∙ bit-zero i

  -- the identifier bits that both have, by the frame's format
  abbrev SameBits : Type 0
  SameBits = (i : ℕ) → i < 29 → (f.ide || leb 18 i) ≡ true → bit w i ≡ bit f.id.0 i

  frame-ide : bit (frame_word f) 31 ≡ f.ide
  frame-ide =
      frame-bit f fits 31
      ∙ rw (bit_high 31 29 f.id.0 fits (omega arith)) (or-false (f.ide && true))
      ∙ and-true f.ide

  frame-identifier : (i : ℕ) → i < 29 → bit (frame_word f) i ≡ bit f.id.0 i
  frame-identifier i h =
      frame-bit f fits i
      ∙ ap (λ (x : Bool). (f.ide && x) || bit f.id.0 i) (ne_eqb i 31 (λ q. omega arith))
      ∙ ap (λ (x : Bool). x || bit f.id.0 i) (and-false f.ide)

  match_ide : agreeing m f w ≡ true → ide w ≡ f.ide
  match_ide h = match_agrees m f w h 31 (compared-bit f 31) (none-freed 31) ∙ frame-ide

  match_bits : agreeing m f w ≡ true → SameBits
  match_bits h i l t =
      match_agrees m f w h i (compared-bit f i ∙ rw (lt-ltb i 29 l, t) (or-true (eqb i 31))) (none-freed i)
      ∙ frame-identifier i l

  bare_match : ide w ≡ f.ide → SameBits → agreeing m f w ≡ true
  bare_match e h = agrees_match m f w (λ i p q. at i (sym (compared-bit f i) ∙ p) (eqb i 31) refl)
    where
      at : (i : ℕ) → is_compared_bit f.ide i ≡ true → (t : Bool) → eqb i 31 ≡ t → bit w i ≡ bit (frame_word f) i
      at i p true q =
          let k = eqb-true i 31 q in
          ap (bit w) k ∙ e ∙ sym frame-ide ∙ ap (bit (frame_word f)) (sym k)
      at i p false q =
          let r : (ltb i 29 && (f.ide || leb 18 i)) ≡ true = rw q at p in
          let l = ltb-true i 29 (and_l (ltb i 29) (f.ide || leb 18 i) r) in
          h i l (and_r (ltb i 29) (f.ide || leb 18 i) r) ∙ sym (frame-identifier i l)

  -- a standard frame: IDE is down, and the 11 bits that both formats have are the same
  module _ (standard : f.ide ≡ false) where
    of_word : base (identifier_of w) ≡ w / 2 ^ 18 % 2 ^ 11
    of_word = omega arith

    pub standard_match : agreeing m f w ≡ true → (ide w ≡ false) × (base (identifier_of w) ≡ base f.id)
    standard_match h = (
      match_ide h ∙ standard,
      of_word
          ∙ same-field 18 11 w f.id.0
          (λ i l. match_bits h (18 + i) (omega arith) (rw (standard, le-leb 18 (18 + i) (omega arith)))),
    )

    pub match_standard : ide w ≡ false → base (identifier_of w) ≡ base f.id → agreeing m f w ≡ true
    match_standard e q =
        bare_match (e ∙ sym standard)
        (λ i l t. field-same 18 11 w f.id.0 (sym of_word ∙ q) i (leb-true 18 i (rw standard at t)) (omega arith))

  -- an extended frame: IDE is up, and the identifiers are the same
  module _ (extended : f.ide ≡ true) where
    pub extended_match : agreeing m f w ≡ true → (ide w ≡ true) × (identifier w ≡ f.id.0)
    extended_match h =
        let e : w / 2 ^ 0 % 2 ^ 29 ≡ f.id.0 / 2 ^ 0 % 2 ^ 29 =
        same-field 0 29 w f.id.0 (λ i l. match_bits h (0 + i) (omega arith) (rw extended)) in
        (match_ide h ∙ extended, omega arith)

    pub match_extended : ide w ≡ true → identifier w ≡ f.id.0 → agreeing m f w ≡ true
    match_extended e q =
        let k : w / 2 ^ 0 % 2 ^ 29 ≡ f.id.0 / 2 ^ 0 % 2 ^ 29 = omega arith in
        bare_match (e ∙ sym extended) (λ i l t. field-same 0 29 w f.id.0 k i (omega arith) (omega arith))
