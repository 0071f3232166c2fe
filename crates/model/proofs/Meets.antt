-- An accepted event, by the pieces that the code makes of it.
use Prim.Native.Nat.{ℕ, ◌-◌, ◌≤◌}
use mathlib.Core.Path.{◌≡◌, refl, sym, ◌∙◌, ap, ap₂, subst}
use mathlib.Core.Bool.{Bool, true, false, cond, ◌||◌, or-true, false≢true}
use mathlib.Core.List.{List}
use native.Mathlib.Omega.{arith}
use lib.Dec.{eqb, ltb}
use lib.Bits.{bit_or, or_zero_r}
use borrow.Author.Tests.{eq-eqb, ltb-true, lt-ltb}
use Rattle.bits.specs.Bit.{flag}
use Rattle.registers.specs.declared.Block.{Block}
use Rattle.registers.specs.Block.{block_of, put_block, with_gif, no_mode, bus_off_at}
use Rattle.registers.specs.Status.{bus_off, passive, warning}
use Rattle.registers.specs.Modes.{on_bus, rises, risen, settled}
use Rattle.registers.specs.Frames.{listened, stored, replied}
use Rattle.events.specs.declared.Event.{Event}
use Rattle.events.specs.declared.Event.TheVariants.{Heard}
use Rattle.events.specs.declared.Frame.{Frame}
use Rattle.filter.specs.declared.Delivery.{Delivery}
use Rattle.filter.specs.declared.Delivery.TheVariants.{Into, Reply, Nowhere}
use Rattle.filter.specs.Filter.{delivery}
use Rattle.answers.specs.Answer.{no_mailbox, packed}
use Rattle.model.specs.Step.{own, goes, remote, delivered, stowed, beside_after, named, named_by, count_of}
use Rattle.model.specs.Parts.{Acted, Delivered}

-- ---- where no counter rises, no flag does

still : (before now : Bool) → (now ≡ true → before ≡ true) → rises before now ≡ false
still true true h = refl
still true false h = refl
still false true h = absurd (false≢true (h refl))
still false false h = refl

-- a limit that a counter has passed was passed before
passed : (k x y : ℕ) → y ≤ x → ltb k y ≡ true → ltb k x ≡ true
passed k x y l h = lt-ltb k x (omega (arith, ltb-true k y h))

either_passed : (k x y r t : ℕ) → y ≤ x → t ≤ r → (ltb k y || ltb k t) ≡ true → (ltb k x || ltb k r) ≡ true
either_passed k x y r t l m h = at (ltb k y) refl
  where
    at : (u : Bool) → ltb k y ≡ u → (ltb k x || ltb k r) ≡ true
    at true e = rw (passed k x y l e)
    at false e = rw (passed k r t m (rw e at h)) (or-true (ltb k x))

pub calm : (a b : Block) → b.tec ≡ a.tec → b.rec ≤ a.rec → risen a b ≡ b
unfolding risen
calm a b e l =
    let m : b.tec ≤ a.tec = omega arith in
    let off = still (bus_off a) (bus_off b) (λ h. ap (λ (n : ℕ). eqb n bus_off_at) (sym e) ∙ h) in
    let low = still (passive a) (passive b) (either_passed 127 a.tec b.tec a.rec b.rec m l) in
    let warned = still (warning a) (warning b) (either_passed 96 a.tec b.tec a.rec b.rec m l) in
    let g2 = ap (λ (u : Bool). bit_or b.gif (flag u 2)) off ∙ or_zero_r b.gif in
    let g1 = ap₂ (λ (x : ℕ) (u : Bool). bit_or x (flag u 1)) g2 low ∙ or_zero_r b.gif in
    let g0 = ap₂ (λ (x : ℕ) (u : Bool). bit_or x (flag u 0)) g1 warned ∙ or_zero_r b.gif in
    ap (with_gif b) g0

-- REC after a frame
falls : (b : Block) → (listened b).rec ≤ b.rec
unfolding listened
falls b = at (on_bus b) (ltb 127 b.rec) refl
  where
    at : (u t : Bool) → ltb 127 b.rec ≡ t → cond u (cond t 127 (b.rec - 1)) b.rec ≤ b.rec
    at true true h = omega (arith, ltb-true 127 b.rec h)
    at true false h = omega arith
    at false t h = omega arith

delivered_calm : (b : Block) (rtr : Bool) (d : Delivery) → risen b (delivered (listened b) rtr d) ≡ delivered (listened b) rtr d
unfolding delivered listened stored
delivered_calm b rtr (Into n c) = calm b (stored (listened b) n rtr) refl (falls b)
delivered_calm b rtr (Reply n c) = calm b (replied (listened b) n) refl (falls b)
delivered_calm b rtr (Nowhere c) = calm b (listened b) refl (falls b)

-- where no mode waits, none is taken
pub unsettled : (x : Block) → x.waiting ≡ no_mode → settled x ≡ x
unfolding settled
unsettled x h = rw (eq-eqb x.waiting no_mode h)

-- ---- the parts

-- an event that carries no frame: the bytes of the mailboxes and the masks as they become, in y; the block that it makes; the mailbox that it names
pub acts : (s : List ℕ) (e : Event) (y : List ℕ) (b : Block) (n : ℕ) {x : List ℕ} {r : ℕ}
    → y ≡ beside_after s e → block_of y ≡ block_of s → b ≡ own s e → goes s e ≡ Nowhere 0 → n ≡ named s e
    → x ≡ put_block y (risen (block_of y) b) → r ≡ packed 0 n 0 → Acted s e x r
unfolding delivered
acts s e y b n m l o g a p q =
    record {
      image = p ∙ ap₂ put_block m (ap₂ risen l (o ∙ sym (ap (λ (d : Delivery). delivered (own s e) (remote e) d) g)));
      answered = q ∙ ap₂ (λ (k : ℕ) (d : Delivery). packed 0 k (count_of d)) a (sym g);
    }

-- an event e, known to be k, that changes the register block alone and names no mailbox
pub turns : (s : List ℕ) (e k : Event) (b : Block) {x : List ℕ} {r : ℕ}
    → e ≡ k → b ≡ own s k → goes s k ≡ Nowhere 0 → s ≡ beside_after s k → no_mailbox ≡ named s k
    → x ≡ put_block s (risen (block_of s) b) → r ≡ packed 0 no_mailbox 0 → Acted s e x r
turns s e k b h o g m a p q = rw h (acts s k s b no_mailbox m refl o g a p q)

module _ (s : List ℕ) (b : Block) (l : b ≡ block_of s) where
  -- a frame, once it is known where it goes
  pub delivers : (f : Frame) (d : Delivery) {x : List ℕ} {r : ℕ}
      → x ≡ put_block (stowed s f d) (delivered (listened b) f.rtr d) → r ≡ packed 0 (named_by d) (count_of d) → Delivered s f d x r
  delivers f d p q =
      record {
        image =
            p
            ∙ ap (put_block (stowed s f d))
            (sym (delivered_calm b f.rtr d) ∙ ap (λ (y : Block). risen y (delivered (listened y) f.rtr d)) l);
        answered = q;
      }

pub heard_as : (s : List ℕ) (f : Frame) (d : Delivery) {x : List ℕ} {r : ℕ} → delivery s f ≡ d → Delivered s f d x r → Acted s (Heard f) x r
unfolding own goes beside_after named
heard_as s f d {x} {r} e p =
    let q : Delivered s f (delivery s f) x r = subst (λ (y : Delivery). Delivered s f y x r) (sym e) p in
    record { image = q.image; answered = q.answered }

-- an event that is known to be the case k
pub as_case : (s : List ℕ) (e k : Event) {x : List ℕ} {r : ℕ} → e ≡ k → Acted s k x r → Acted s e x r
as_case s e k q p = rw q p
