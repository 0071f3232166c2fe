-- Register writes that are neither refused for their value nor busy.
use Prim.Native.Nat.{ℕ, zero, suc, ◌+◌, ◌^◌, ◌<◌, ◌≤◌}
use mathlib.Core.Path.{◌≡◌, refl, sym, ◌∙◌}
use mathlib.Core.Bool.{Bool, true, false, not, ◌&&◌, ◌||◌, cond}
use mathlib.Core.Logic.{◌≢◌}
use native.Mathlib.Omega.{arith}
use native.Mathlib.Nat.{lt_of_le_of_lt}
use lib.Dec.{eqb, lit<, lit≤}
use lib.Bits.{bit_and, bit_or, or_lt}
use borrow.Author.Tests.{eqb-true, ltb-true, not-false, ne_eqb}
use Rattle.bits.specs.Bit.{bit, mask, without}
use Rattle.bits.specs.Tests.{top_down}
use Rattle.bits.proofs.Laws.{bit-without}
use Rattle.bits.proofs.Sets.{Within, Apart, word-apart, within_le, within_trans, within-or, and-within_l, and-within_r, or-within_l, or-within_r, without-within, within-without, apart_less, apart-or, apart-without, apart_sym, apart-changed, without_lt}
use Rattle.registers.specs.declared.Block.{Block}
use Rattle.registers.specs.Block.{with_mc, with_protection, sleep, can_b, e_can}
use Rattle.registers.specs.Status.{ecan}
use Rattle.registers.specs.Writes.{slot_mask, ending, late, protection_number, direction, directed, requested, cancelled, released, noted, writes, written}
use Rattle.events.specs.Decode.{register_allowed}
use Rattle.refusals.specs.Refusal.{meet, turned_off, turned_round, register_busy}
use Rattle.good.proofs.Facts.{senders, slot-up, Core, GoodBlock}
use Rattle.keeps.proofs.Words.{either, gif_lt, within_spared}
use Rattle.keeps.proofs.Slot.{slot-trs, sends_low}
use Rattle.keeps.proofs.Rows.{◌▸◌, Each, row, column, row_same}
use Rattle.keeps.proofs.Keep.{keep_mc, keep_md, keep_trs, keep_trr, keep_ta, keep_aa, keep_rmp, keep_rml, keep_lam, keep_gam, keep_rfp, keep_cdr, keep_mbtif, keep_mbrif, keep_mbim, keep_gif, keep_gim, keep_bcr1, keep_bcr2, keep_tsc, keep_tso, keep_protection}
use Rattle.keeps.proofs.Open.{Open, still_open}

-- words that do not meet
meet-apart : (a c : ℕ) → meet a c ≡ false → Apart a c
meet-apart a c e = word-apart a c (eqb-true _ _ (not-false _ e))

-- c is what comes of a write to register t that is neither refused for its value nor busy
abbrev Accepted : Block → ℕ → ℕ → Block → Type 0
Accepted b v t c = register_allowed (ecan b) t v ≡ true → register_busy b t v ≡ false → Core c

module _ (b : Block) (k : Core b) (v : ℕ) where
  released_core : Core (released b v)
  unfolding released
  released_core =
      keep_rmp
      (keep_rml (keep_rfp k _ (within_trans (without-within b.rfp v) k.rfp)) _ (within_trans (without-within b.rml v) k.rml))
      (without b.rmp v) (without_lt v k.wide.rmp) (within-without v k.rml) (within-without v k.rfp)

  noted_core : Core (noted b v)
  unfolding noted
  noted_core =
      keep_tso (keep_gif k (without b.gif v) (without_lt v k.ranges.gif)) (cond (bit v 3) 0 b.tso)
      (either (λ x. x ≤ 1) (bit v 3) (λ e. lit≤ tt) (λ e. k.ranges.tso))

  requested_core : b.mode ≢ sleep → v < 2 ^ 32 → Core (requested b v)
  unfolding requested
  requested_core awake hv =
      let f = apart-without v b.md in
      let l = sends_low k (without v b.md) f (without_lt b.md hv) in
      let w = or-within_l b.trs (without v b.md) in
      keep_trs k (bit_or b.trs (without v b.md)) (or_lt (senders b) _ _ k.low.trs l) (apart-or k.apart f) (within_trans k.of_request w)
      (λ n. w.has b.slot (k.slotted n).trs) (λ e. absurd (awake e))

  cancelled_core : b.mode ≢ sleep → Core (cancelled b v)
  unfolding cancelled
  cancelled_core awake =
      let at = slot_mask b in
      let named = bit_and v b.trs in
      let of = and-within_r v b.trs in
      let spared : Apart at (ending b v) = apart_sym (apart-without named at) in
      let low : named < 2 ^ senders b = lt_of_le_of_lt (within_le of) k.low.trs in
      let cancel : Within (bit_or b.trr (late b v)) at = within-or k.at_slot (and-within_r named at) in
      let asked : Within (bit_or b.trr (late b v)) b.trs = within-or k.of_request (within_trans (and-within_l named at) of) in
      keep_gif
      (keep_aa
      (keep_trs
      (keep_trr k (bit_or b.trr (late b v)) cancel asked)
      (without b.trs (ending b v)) (without_lt _ k.low.trs) (apart_less (without-within b.trs (ending b v)) k.apart)
      (within_spared asked (apart_less cancel spared))
      (λ n. (within_spared (slot-trs k) spared).has b.slot (slot-up b n))
      (λ e. absurd (awake e)))
      (bit_or b.aa (ending b v)) (or_lt (senders b) _ _ k.low.aa (without_lt at low)))
      _ (gif_lt (not (eqb (ending b v) 0)) 4 k.ranges.gif (lit< tt))

  enabled_core : v < 2 ^ 32 → register_busy b 0 v ≡ false → Core (with_mc b v)
  enabled_core hv free =
      keep_mc k v hv
      (λ n.
      let o = k.slotted n in
      still_on (bit v b.slot) o.mc
      (sym (bit-without b.mc v b.slot) ∙ (meet-apart b.trs (turned_off b v) free).never b.slot o.trs))
    where
      still_on : {m : Bool} (t : Bool) → m ≡ true → (m && not t) ≡ false → t ≡ true
      still_on t e h = not-false t (sym (rw e) ∙ h)

  -- mailbox 31 of a CAN-B goes on receiving
  direction_lt : v < 2 ^ 32 → direction b v < 2 ^ 32
  unfolding direction
  direction_lt hv = either (λ x. x < 2 ^ 32) (ecan b) (λ e. hv) (λ e. or_lt 32 _ _ hv (lit< tt))

  direction_top : b.profile ≡ can_b → 2 ^ 31 ≤ direction b v
  unfolding direction
  direction_top z = rw (ne_eqb b.profile e_can (λ q. omega arith)) (within_le (or-within_r v (mask 31)))

  directed_core : v < 2 ^ 32 → register_busy b 1 v ≡ false → Core (directed b v)
  directed_core hv free =
      keep_md k (direction b v) (direction_lt hv) direction_top
      (apart-changed (direction b v) (meet-apart b.trs (turned_round b v) free) k.apart)

  -- CDR has no bit 31 in a CAN-B
  held_lt : v < 2 ^ 32 → (ecan b || top_down v) ≡ true → v < 2 ^ senders b
  held_lt hv a = at b.profile refl
    where
      at : (p : ℕ) → b.profile ≡ p → v < 2 ^ (31 + p)
      at zero e = ltb-true v (2 ^ 31) (rw e at a)
      at (suc zero) e = hv
      at (suc (suc p)) e = let l = k.ranges.profile in absurd (omega arith)

  rows : b.mode ≢ sleep → v < 2 ^ 32 → Each (Accepted b v) (writes b v)
  unfolding register_allowed
  rows awake hv =
      (λ a free. enabled_core hv free)
      ▸ (λ a free. directed_core hv free)
      ▸ (λ a free. requested_core awake hv)
      ▸ (λ a free. cancelled_core awake)
      ▸ (λ a free. keep_ta k _ (without_lt v k.low.ta))
      ▸ (λ a free. keep_aa k _ (without_lt v k.low.aa))
      ▸ (λ a free. released_core)
      ▸ (λ a free. k)
      ▸ (λ a free. keep_lam k v hv (eqb-true _ _ a))
      ▸ (λ a free. keep_gam k v hv (eqb-true _ _ a))
      ▸ (λ a free. k)
      ▸ (λ a free. keep_cdr k v (held_lt hv a))
      ▸ (λ a free. keep_mbtif k _ (without_lt v k.low.mbtif))
      ▸ (λ a free. keep_mbrif k _ (without_lt v k.wide.mbrif))
      ▸ (λ a free. keep_mbim k v hv)
      ▸ (λ a free. noted_core)
      ▸ (λ a free. keep_gim k v (ltb-true _ _ a))
      ▸ (λ a free. keep_bcr1 k v (ltb-true _ _ a))
      ▸ (λ a free. keep_bcr2 k v (ltb-true _ _ a))
      ▸ (λ a free. keep_tsc k v (let z = eqb-true v 0 a in omega arith))
      ▸ tt

written_core : (b : Block) (t v : ℕ) → Core b → b.mode ≢ sleep → v < 2 ^ 32 → register_allowed (ecan b) t v ≡ true → register_busy b t v ≡ false
    → Core (written b t v)
unfolding written
written_core b t v k awake hv a free =
    either Core (eqb t protection_number)
    (λ e. keep_protection k v hv)
    (λ e. row (Accepted b v) (writes b v) b (rows b k v awake hv) (λ n a free. k) t a free)

-- what every row of the table and the protection word leave alone, every write does
pub written_leaves : (f : Block → ℕ) (b : Block) (v : ℕ) → column (λ n x. f x) (writes b v) ≡ column (λ n x. f b) (writes b v)
    → f (with_protection b v) ≡ f b → (t : ℕ) → f (written b t v) ≡ f b
unfolding written
written_leaves f b v e p t =
    either (λ x. f x ≡ f b) (eqb t protection_number)
    (λ u. p)
    (λ u. row_same (λ n x. f x) (λ n x. f b) (writes b v) b e (λ n. refl) t)

waiting_stays : (b : Block) (t v : ℕ) → (written b t v).waiting ≡ b.waiting
unfolding requested cancelled released noted
waiting_stays b t v = written_leaves (λ x. x.waiting) b v refl refl t

pub written_open : (b : Block) (t v : ℕ) → GoodBlock b → b.mode ≢ sleep → v < 2 ^ 32 → register_allowed (ecan b) t v ≡ true → register_busy b t v ≡ false
    → Open (written b t v)
written_open b t v g awake hv a free = still_open g (waiting_stays b t v) (written_core b t v g.core awake hv a free)
