-- Receiving and sending: what stands in the 16 bytes of a mailbox once a frame is stored there, or stamped as sent.
use Rattle.std.proofs.lemmas.Bool.{and_from, or_left, or_right}
use Prim.Native.Nat.{ℕ, zero, suc, ◌+◌, ◌*◌, ◌/◌, ◌%◌, ◌^◌, ◌<◌, ◌≤◌}
use mathlib.Core.Path.{◌≡◌, refl, sym, ◌∙◌, ap}
use mathlib.Core.Bool.{Bool, true, false, cond}
use mathlib.Core.List.{List}
use mathlib.Core.Logic.{◌⊎◌, inl, inr}
use native.Mathlib.Omega.{arith}
use lib.Dec.{eqb, ltb, lit≤}
use lib.ListN.{get_or, length}
use borrow.Author.Tests.{eq-eqb, ne_eqb, ltb-false, eqb-true}
use Rattle.bits.specs.Bit.{digit, bit}
use Rattle.bits.proofs.Sets.{and_l, and_r}
use Rattle.words.specs.Word.{word_at, put_word}
use Rattle.words.proofs.Bytes.{Bytes, bytes-put}
use Rattle.words.proofs.Laws.{length-put, byte-other, word_same, word-other}
use Rattle.mailboxes.specs.declared.Identifier.{Identifier}
use Rattle.mailboxes.specs.Mailbox.{mailbox, ide as ide_of, maskable, rfh, identifier, stamp, rtr as rtr_of, dlc as dlc_of, word_layout, layout}
use Rattle.mailboxes.specs.Filing.{highest_dlc, most_data_bytes, data_bytes, filed_identifier, filed_control, data_of, spliced, filed, stamped_control, stamped}
use Rattle.mailboxes.proofs.Laws.{word_of}
use Rattle.mailboxes.proofs.Spliced.{byte_of, from, byte_low, spliced-new, spliced-old, data_byte, put_data_byte, byte_put, word_byte}

-- ---- how many data bytes

pub data_bytes_le : (rtr : Bool) (dlc : ℕ) → data_bytes rtr dlc ≤ most_data_bytes
data_bytes_le true dlc = omega arith
data_bytes_le false dlc = at (ltb most_data_bytes dlc) refl
  where
    at : (t : Bool) → ltb most_data_bytes dlc ≡ t → cond t most_data_bytes dlc ≤ most_data_bytes
    at true h = omega arith
    at false h = ltb-false most_data_bytes dlc h

-- ---- word 0 of a stored frame, as a number

same_bit : (v w n : ℕ) → digit v n ≡ digit w n → bit v n ≡ bit w n
same_bit v w n e = ap (λ (x : ℕ). eqb x 1) e

module _ (old : ℕ) (i : Identifier) (fits : i.0 < 2 ^ 29) where
  identifier_lt : (ide : Bool) → filed_identifier old ide i < 2 ^ 32
  identifier_lt true = omega arith
  identifier_lt false = omega arith

  identifier-ide : (ide : Bool) → ide_of (filed_identifier old ide i) ≡ ide
  unfolding digit
  identifier-ide true = eq-eqb (digit (filed_identifier old true i) 31) 1 (omega arith)
  identifier-ide false = ne_eqb (digit (filed_identifier old false i) 31) 1 (omega arith)

  identifier-number : (ide : Bool) → identifier (filed_identifier old ide i) ≡ i.0
  identifier-number true = omega arith
  identifier-number false = omega arith

  identifier-maskable : (ide : Bool) → maskable (filed_identifier old ide i) ≡ maskable old
  unfolding digit
  identifier-maskable true = same_bit (filed_identifier old true i) old 30 (omega arith)
  identifier-maskable false = same_bit (filed_identifier old false i) old 30 (omega arith)

  identifier-rfh : (ide : Bool) → rfh (filed_identifier old ide i) ≡ rfh old
  unfolding digit
  identifier-rfh true = same_bit (filed_identifier old true i) old 29 (omega arith)
  identifier-rfh false = same_bit (filed_identifier old false i) old 29 (omega arith)

  identifier-low : (ide : Bool) → filed_identifier old ide i % 2 ^ 18 ≡ i.0 % 2 ^ 18
  identifier-low true = omega arith
  identifier-low false = omega arith

-- ---- word 1 of a stored frame, as a number

module _ (tsc dlc : ℕ) (stampFits : tsc < 65536) (dlcFits : dlc ≤ highest_dlc) where
  control_lt : (rtr : Bool) → filed_control tsc rtr dlc < 2 ^ 32
  control_lt true = omega arith
  control_lt false = omega arith

  control_stamp : (rtr : Bool) → stamp (filed_control tsc rtr dlc) ≡ tsc
  control_stamp true = omega arith
  control_stamp false = omega arith

  control_rtr : (rtr : Bool) → rtr_of (filed_control tsc rtr dlc) ≡ rtr
  unfolding digit
  control_rtr true = eq-eqb (digit (filed_control tsc true dlc) 4) 1 (omega arith)
  control_rtr false = ne_eqb (digit (filed_control tsc false dlc) 4) 1 (omega arith)

  control_dlc : (rtr : Bool) → dlc_of (filed_control tsc rtr dlc) ≡ dlc
  control_dlc true = omega arith
  control_dlc false = omega arith

  control_rest : (rtr : Bool) → filed_control tsc rtr dlc / 2 ^ 5 % 2 ^ 11 ≡ 0
  control_rest true = omega arith
  control_rest false = omega arith

-- ---- a stored frame: the length, and bytes stay bytes

module _ (m : List ℕ) (ide rtr : Bool) (i : Identifier) (dlc new tsc : ℕ) where
  pub length-filed : length (filed m ide rtr i dlc new tsc) ≡ length m
  unfolding filed
  length-filed = simp length-put

  pub bytes-filed : Bytes m → Bytes (filed m ide rtr i dlc new tsc)
  unfolding filed
  bytes-filed h = bytes-put _ 12 _ (bytes-put _ 8 _ (bytes-put _ 4 _ (bytes-put m 0 _ h)))

-- ---- a stored frame, field by field

module _ (m : List ℕ) (ide rtr : Bool) (i : Identifier) (dlc new tsc : ℕ) (size : length m ≡ 16) where
  -- word 0
  pub filed-word_0 : i.0 < 2 ^ 29 → word_at (filed m ide rtr i dlc new tsc) 0 ≡ filed_identifier (word_at m 0) ide i
  unfolding filed
  filed-word_0 h =
      word-other _ 12 _ 0 (inl (lit≤ tt))
      ∙ word-other _ 8 _ 0 (inl (lit≤ tt))
      ∙ word-other _ 4 (filed_control tsc rtr dlc) 0 (inl (lit≤ tt))
      ∙ word_same m 0 (filed_identifier (word_at m 0) ide i) (omega arith) (identifier_lt (word_at m 0) i h ide)

  pub filed-ide : i.0 < 2 ^ 29 → ide_of (word_at (filed m ide rtr i dlc new tsc) 0) ≡ ide
  filed-ide h = ap ide_of (filed-word_0 h) ∙ identifier-ide (word_at m 0) i h ide

  pub filed-identifier-field : i.0 < 2 ^ 29 → identifier (word_at (filed m ide rtr i dlc new tsc) 0) ≡ i.0
  filed-identifier-field h = ap identifier (filed-word_0 h) ∙ identifier-number (word_at m 0) i h ide

  -- GAME or LAME and RFH stay
  pub filed-maskable : i.0 < 2 ^ 29 → maskable (word_at (filed m ide rtr i dlc new tsc) 0) ≡ maskable (word_at m 0)
  filed-maskable h = ap maskable (filed-word_0 h) ∙ identifier-maskable (word_at m 0) i h ide

  pub filed-rfh : i.0 < 2 ^ 29 → rfh (word_at (filed m ide rtr i dlc new tsc) 0) ≡ rfh (word_at m 0)
  filed-rfh h = ap rfh (filed-word_0 h) ∙ identifier-rfh (word_at m 0) i h ide

  -- a stored standard frame leaves bits 17 to 0 zero, whatever they were
  pub standard-low : i.0 < 2 ^ 29 → (ide ≡ false → i.0 % 2 ^ 18 ≡ 0) → ide ≡ false → word_at (filed m ide rtr i dlc new tsc) 0 % 2 ^ 18 ≡ 0
  standard-low h low standard = ap (λ (w : ℕ). w % 2 ^ 18) (filed-word_0 h) ∙ identifier-low (word_at m 0) i h ide ∙ low standard

  -- word 1
  pub filed-word_1 : dlc ≤ highest_dlc → tsc < 65536 → word_at (filed m ide rtr i dlc new tsc) 4 ≡ filed_control tsc rtr dlc
  unfolding filed
  filed-word_1 h l =
      let v = filed_identifier (word_at m 0) ide i in
      let e = length-put m 0 v in
      word-other _ 12 _ 4 (inl (lit≤ tt))
      ∙ word-other _ 8 _ 4 (inl (lit≤ tt))
      ∙ word_same (put_word m 0 v) 4 (filed_control tsc rtr dlc) (omega arith) (control_lt tsc dlc l h rtr)

  pub filed-stamp : dlc ≤ highest_dlc → tsc < 65536 → stamp (word_at (filed m ide rtr i dlc new tsc) 4) ≡ tsc
  filed-stamp h l = ap stamp (filed-word_1 h l) ∙ control_stamp tsc dlc l h rtr

  pub filed-rtr : dlc ≤ highest_dlc → tsc < 65536 → rtr_of (word_at (filed m ide rtr i dlc new tsc) 4) ≡ rtr
  filed-rtr h l = ap rtr_of (filed-word_1 h l) ∙ control_rtr tsc dlc l h rtr

  pub filed-dlc : dlc ≤ highest_dlc → tsc < 65536 → dlc_of (word_at (filed m ide rtr i dlc new tsc) 4) ≡ dlc
  filed-dlc h l = ap dlc_of (filed-word_1 h l) ∙ control_dlc tsc dlc l h rtr

  -- the data bytes: those that the frame brings
  data_filed : (j : ℕ) → j < 8 → get_or (filed m ide rtr i dlc new tsc) (8 + j) 0 ≡ byte_of (spliced (data_of m) new (data_bytes rtr dlc)) j
  unfolding filed
  data_filed = put_data_byte _ _ (simp length-put size)

  pub filed-new : (j : ℕ) → j < data_bytes rtr dlc → get_or (filed m ide rtr i dlc new tsc) (8 + j) 0 ≡ new / 2 ^ (8 * j) % 256
  filed-new j h =
      let l = data_bytes_le rtr dlc in
      data_filed j (omega arith) ∙ spliced-new (data_of m) new (data_bytes rtr dlc) j h

  -- and the others, which stay
  pub filed-old : Bytes m → (j : ℕ) → j < 8 → data_bytes rtr dlc ≤ j → get_or (filed m ide rtr i dlc new tsc) (8 + j) 0 ≡ get_or m (8 + j) 0
  filed-old b j l h =
      data_filed j l ∙ spliced-old (data_of m) new (data_bytes rtr dlc) j h ∙ data_byte m b j l

-- ---- the layout of 16 bytes

-- by their first two words
layout-words : (m : List ℕ) (a c : ℕ) → word_at m 0 ≡ a → word_at m 4 ≡ c → word_layout 0 a ≡ true → word_layout 1 c ≡ true → layout m 0 ≡ true
unfolding layout
layout-words m a c p q ha hc = and_from _ _ (ap (word_layout 0) p ∙ ha) (ap (word_layout 1) q ∙ hc)

layout_0 : (m : List ℕ) → layout m 0 ≡ true → word_layout 0 (word_at m 0) ≡ true
unfolding layout
layout_0 m h = and_l (word_layout 0 (word_at m 0)) (word_layout 1 (word_at m 4)) h

layout_1 : (m : List ℕ) → layout m 0 ≡ true → word_layout 1 (word_at m 4) ≡ true
unfolding layout
layout_1 m h = and_r (word_layout 0 (word_at m 0)) (word_layout 1 (word_at m 4)) h

-- a mailbox of an image, by itself
pub layout_alone : (s : List ℕ) (n : ℕ) → layout s n ≡ true → layout (mailbox s n) 0 ≡ true
unfolding layout
layout_alone s n h = rw (word_of s n 0 (lit≤ tt), word_of s n 4 (lit≤ tt)) h

-- a plain write of word k
pub written-layout : (m : List ℕ) (k v : ℕ) → length m ≡ 16 → k < 4 → v < 2 ^ 32 → word_layout k v ≡ true → layout m 0 ≡ true → layout (put_word m (4 * k) v) 0 ≡ true
written-layout m zero v size hk hv ok h =
    layout-words (put_word m 0 v) v (word_at m 4) (word_same m 0 v (omega arith) hv) (word-other m 0 v 4 (inr (lit≤ tt))) ok (layout_1 m h)
written-layout m (suc zero) v size hk hv ok h =
    layout-words (put_word m 4 v) (word_at m 0) v (word-other m 4 v 0 (inl (lit≤ tt))) (word_same m 4 v (omega arith) hv) (layout_0 m h) ok
written-layout m (suc (suc k)) v size hk hv ok h =
    layout-words (put_word m (4 * suc (suc k)) v) (word_at m 0) (word_at m 4) (word-other m (4 * suc (suc k)) v 0 (inl (omega arith))) (word-other m (4 * suc (suc k)) v 4 (inl (omega arith))) (layout_0 m h) (layout_1 m h)

-- a stored frame
identifier-layout : (old : ℕ) (ide : Bool) (i : Identifier) → (ide ≡ false → i.0 % 2 ^ 18 ≡ 0) → i.0 < 2 ^ 29
    → word_layout 0 (filed_identifier old ide i) ≡ true
identifier-layout old true i low h =
    let w = filed_identifier old true i in
    or_left (ide_of w) (eqb (w % 2 ^ 18) 0) (identifier-ide old i h true)
identifier-layout old false i low h =
    let w = filed_identifier old false i in
    or_right (ide_of w) (eqb (w % 2 ^ 18) 0) (eq-eqb _ _ (identifier-low old i h false ∙ low refl))

pub filed-layout : (m : List ℕ) (ide rtr : Bool) (i : Identifier) (dlc new tsc : ℕ) → length m ≡ 16 → (ide ≡ false → i.0 % 2 ^ 18 ≡ 0)
    → i.0 < 2 ^ 29 → dlc ≤ highest_dlc → tsc < 65536 → layout (filed m ide rtr i dlc new tsc) 0 ≡ true
filed-layout m ide rtr i dlc new tsc size low h d l =
    layout-words (filed m ide rtr i dlc new tsc) (filed_identifier (word_at m 0) ide i) (filed_control tsc rtr dlc)
    (filed-word_0 m ide rtr i dlc new tsc size h) (filed-word_1 m ide rtr i dlc new tsc size d l)
    (identifier-layout (word_at m 0) ide i low h)
    (eq-eqb _ _ (control_rest tsc dlc l d rtr))

-- ---- a stamped mailbox

module _ (m : List ℕ) (tsc : ℕ) where
  pub length-stamped : length (stamped m tsc) ≡ length m
  unfolding stamped
  length-stamped = length-put m 4 _

  pub bytes-stamped : Bytes m → Bytes (stamped m tsc)
  unfolding stamped
  bytes-stamped h = bytes-put m 4 _ h

module _ (m : List ℕ) (tsc : ℕ) (size : length m ≡ 16) (fits : tsc < 65536) where
  pub stamped-word_1 : word_at (stamped m tsc) 4 ≡ stamped_control (word_at m 4) tsc
  unfolding stamped
  stamped-word_1 = word_same m 4 (stamped_control (word_at m 4) tsc) (omega arith) (omega arith)

  pub stamped-stamp : stamp (word_at (stamped m tsc) 4) ≡ tsc
  stamped-stamp = ap stamp stamped-word_1 ∙ omega arith

  pub stamped-layout : layout m 0 ≡ true → layout (stamped m tsc) 0 ≡ true
  unfolding stamped
  stamped-layout h =
      let w = word_at m 4 in
      let v = stamped_control w tsc in
      let rest : w / 2 ^ 5 % 2 ^ 11 ≡ 0 = eqb-true _ _ (layout_1 m h) in
      let same : v / 2 ^ 5 % 2 ^ 11 ≡ 0 = omega arith in
      written-layout m 1 v size (lit≤ tt) (omega arith) (eq-eqb _ _ same) h

-- only bytes 6 and 7 change
module _ (m : List ℕ) (tsc : ℕ) (size : length m ≡ 16) (b : Bytes m) where
  under : (k : ℕ) → k < 6 → get_or (stamped m tsc) k 0 ≡ get_or m k 0
  unfolding stamped
  under =
      let w = word_at m 4 in
      let v = stamped_control w tsc in
      let e : v % 2 ^ 16 ≡ w % 2 ^ 16 = omega arith in
      from (λ k. k < 6 → get_or (stamped m tsc) k 0 ≡ get_or m k 0) 4
      (λ k l _. byte-other m 4 v k (inl l))
      (λ j l.
      let h : j < 2 = omega arith in
      byte_put m 4 v j (omega arith) (omega arith)
      ∙ sym (byte_low v 2 j h)
      ∙ ap (λ (x : ℕ). byte_of x j) e
      ∙ byte_low w 2 j h
      ∙ word_byte m 4 j b (omega arith))

  pub stamped-other : (k : ℕ) → ((k < 6) ⊎ (8 ≤ k)) → get_or (stamped m tsc) k 0 ≡ get_or m k 0
  unfolding stamped
  stamped-other k (inl h) = under k h
  stamped-other k (inr h) = byte-other m 4 (stamped_control (word_at m 4) tsc) k (inr h)
