use Rattle.fresh.proofs.Good.{zeros}
use mathlib.Core.Path.{refl, ◌∙◌, ap}
use mathlib.Core.List.{List}
use Prim.Native.Nat.{ℕ}
use borrow.Author.Tests.{eq-eqb, ne_eqb, le-leb, lt-leb}
use lib.ListN.{length}
use Rattle.registers.specs.Block.{image_bytes, put_block, e_can}
use Rattle.fresh.specs.Fresh.{fresh_block, fresh, fresh_image}
use Rattle.fresh.proofs.fresh.Goals as goal

pub returns-in_default : goal.returns-in_default
unfolding fresh
returns-in_default c =
    let e = ne_eqb (length c.args.image.now) image_bytes c.in_default.ensures.cases in
    rw e (record { image = refl; answered = c.refuse.ensures })

pub returns-then-profile-gt-E_CAN : goal.returns-then-profile-gt-E_CAN
unfolding fresh
returns-then-profile-gt-E_CAN c =
    let a = c.args in
    let whole = c.in-Some.ensures.cases in
    let e = eq-eqb (length a.image.now) image_bytes whole.long in
    let p = lt-leb a.profile e_can c.if-profile-gt-E_CAN.true in
    rw (e, p) (record { image = whole.same; answered = c.refuse-then-profile-gt-E_CAN.ensures })

pub returns : goal.returns
unfolding fresh fresh_image
returns c =
    let a = c.args in
    let s = a.image.now in
    let whole = c.in-Some.ensures.cases in
    let e = eq-eqb (length s) image_bytes whole.long in
    let p = le-leb a.profile e_can c.if-profile-gt-E_CAN.false in
    rw (e, p) (record {
      image =
          c.fill_registers.ensures
          ∙ ap (λ (x : List ℕ). put_block x (fresh_block a.profile)) (c.fill.ensures.after (λ y e. e) ∙ zeros _ (ap (length {A = ℕ}) whole.same ∙ whole.long));
      answered = c.pack.ensures;
    })
