-- One word replaced: what a good block asks of the new word. Every other clause stays as it is.
use Prim.Native.Nat.{ℕ, ◌/◌, ◌%◌, ◌^◌, ◌<◌, ◌≤◌}
use mathlib.Core.Path.{◌≡◌}
use mathlib.Core.Bool.{true, not}
use mathlib.Core.Logic.{◌≢◌}
use native.Mathlib.Omega.{arith}
use native.Mathlib.Nat.{lt_of_le_of_lt}
use lib.Dec.{eqb}
use Rattle.bits.specs.Bit.{bit, flag}
use Rattle.bits.proofs.Sets.{Within, Apart, within_le}
use Rattle.registers.specs.declared.Block.{Block}
use Rattle.registers.specs.Block.{with_mc, with_md, with_trs, with_trr, with_ta, with_aa, with_rmp, with_rml, with_lam, with_gam, with_rfp, with_cdr, with_mbtif, with_mbrif, with_mbim, with_gif, with_gim, with_bcr1, with_bcr2, with_tsc, with_tec, with_rec, with_mode, with_waiting, with_slot, with_recovery, with_options, with_tso, with_protection, normal, sleep, empty_slot, bus_off_at, can_b}
use Rattle.registers.specs.Writes.{slot_mask}
use Rattle.good.proofs.Facts.{senders, Core, Sending, Sleeping}

module _ {b : Block} (g : Core b) (v : ℕ) where
  -- ---- words that one clause bounds and no other names

  pub keep_lam : v < 2 ^ 32 → v / 2 ^ 29 % 4 ≡ 0 → Core (with_lam b v)
  keep_lam h gap = search

  pub keep_gam : v < 2 ^ 32 → v / 2 ^ 29 % 4 ≡ 0 → Core (with_gam b v)
  keep_gam h gap = search

  pub keep_ta : v < 2 ^ senders b → Core (with_ta b v)
  keep_ta h = search

  pub keep_aa : v < 2 ^ senders b → Core (with_aa b v)
  keep_aa h = search

  pub keep_cdr : v < 2 ^ senders b → Core (with_cdr b v)
  keep_cdr h = search

  pub keep_mbtif : v < 2 ^ senders b → Core (with_mbtif b v)
  keep_mbtif h = search

  pub keep_mbrif : v < 2 ^ 32 → Core (with_mbrif b v)
  keep_mbrif h = search

  pub keep_mbim : v < 2 ^ 32 → Core (with_mbim b v)
  keep_mbim h = search

  pub keep_protection : v < 2 ^ 32 → Core (with_protection b v)
  keep_protection h = search

  pub keep_gif : v < 256 → Core (with_gif b v)
  keep_gif h = search

  pub keep_gim : v < 256 → Core (with_gim b v)
  keep_gim h = search

  pub keep_bcr1 : v < 1024 → Core (with_bcr1 b v)
  keep_bcr1 h = search

  pub keep_bcr2 : v < 1024 → Core (with_bcr2 b v)
  keep_bcr2 h = search

  pub keep_tsc : v < 65536 → Core (with_tsc b v)
  keep_tsc h = search

  pub keep_options : v ≤ 3 → Core (with_options b v)
  keep_options h = search

  pub keep_tso : v ≤ 1 → Core (with_tso b v)
  keep_tso h = search

  -- its clause is not one of the core
  pub keep_waiting : Core (with_waiting b v)
  keep_waiting = search

  -- ---- held frames

  pub keep_rmp : v < 2 ^ 32 → Within b.rml v → Within b.rfp v → Core (with_rmp b v)
  keep_rmp h lost remote = search

  pub keep_rml : Within v b.rmp → Core (with_rml b v)
  keep_rml w = search

  pub keep_rfp : Within v b.rmp → Core (with_rfp b v)
  keep_rfp w = search

  -- ---- words of sending: what the slot and sleep ask of them

  pub keep_md : v < 2 ^ 32 → (b.profile ≡ can_b → 2 ^ 31 ≤ v) → Apart b.trs v → Core (with_md b v)
  keep_md h top f = search

  pub keep_mc : v < 2 ^ 32 → (b.slot ≢ empty_slot → bit v b.slot ≡ true) → Core (with_mc b v)
  keep_mc h on =
      let f : b.slot ≢ empty_slot → Sending b.mode b.tec b.trs v b.slot =
      λ n. let o = g.slotted n in record { mode = o.mode; tec = o.tec; trs = o.trs; mc = on n } in
      search

  pub keep_trs : v < 2 ^ senders b → Apart v b.md → Within b.trr v → (b.slot ≢ empty_slot → bit v b.slot ≡ true)
      → (b.mode ≡ sleep → v ≡ 0) → Core (with_trs b v)
  keep_trs h a w up down =
      let f : b.slot ≢ empty_slot → Sending b.mode b.tec v b.mc b.slot =
      λ n. let o = g.slotted n in record { mode = o.mode; tec = o.tec; trs = up n; mc = o.mc } in
      let s : b.mode ≡ sleep → Sleeping b.tec b.rec v b.trr =
      λ e. let o = g.sleeps e in record { tec = o.tec; rec = o.rec; trs = down e; trr = o.trr } in
      search

  -- within TRS: so as small, and zero asleep
  pub keep_trr : Within v (slot_mask b) → Within v b.trs → Core (with_trr b v)
  keep_trr at w =
      let l = within_le w in
      let h : v < 2 ^ senders b = lt_of_le_of_lt l g.low.trs in
      let s : b.mode ≡ sleep → Sleeping b.tec b.rec b.trs v =
      λ e. let o = g.sleeps e in record { tec = o.tec; rec = o.rec; trs = o.trs; trr = omega arith } in
      search

  pub keep_slot : v ≤ empty_slot → Within b.trr (flag (not (eqb v empty_slot)) v) → (v ≢ empty_slot → Sending b.mode b.tec b.trs b.mc v)
      → Core (with_slot b v)
  keep_slot h w f = search

  -- ---- counters and the mode

  pub keep_tec : v ≤ 256 → (b.slot ≢ empty_slot → v < 256) → (v ≡ bus_off_at → b.mode ≡ normal) → (0 < b.recovery → v ≡ bus_off_at)
      → (b.mode ≡ sleep → v ≡ 0) → Core (with_tec b v)
  keep_tec h on off counts down =
      let f : b.slot ≢ empty_slot → Sending b.mode v b.trs b.mc b.slot =
      λ n. let o = g.slotted n in record { mode = o.mode; tec = on n; trs = o.trs; mc = o.mc } in
      let s : b.mode ≡ sleep → Sleeping v b.rec b.trs b.trr =
      λ e. let o = g.sleeps e in record { tec = down e; rec = o.rec; trs = o.trs; trr = o.trr } in
      search

  pub keep_rec : v ≤ 255 → (b.mode ≡ sleep → v ≡ 0) → Core (with_rec b v)
  keep_rec h down =
      let s : b.mode ≡ sleep → Sleeping b.tec v b.trs b.trr =
      λ e. let o = g.sleeps e in record { tec = o.tec; rec = down e; trs = o.trs; trr = o.trr } in
      search

  pub keep_recovery : v ≤ 127 → (0 < v → b.tec ≡ bus_off_at) → Core (with_recovery b v)
  keep_recovery h off = search

  pub keep_mode : v ≤ 3 → (b.slot ≢ empty_slot → v ≡ normal) → (b.tec ≡ bus_off_at → v ≡ normal)
      → (v ≡ sleep → Sleeping b.tec b.rec b.trs b.trr) → Core (with_mode b v)
  keep_mode h on off down =
      let f : b.slot ≢ empty_slot → Sending v b.tec b.trs b.mc b.slot =
      λ n. let o = g.slotted n in record { mode = on n; tec = o.tec; trs = o.trs; mc = o.mc } in
      search
