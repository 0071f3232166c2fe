use Prim.Native.Nat.{ℕ}
use mathlib.Core.Path.{◌≡◌, sym, ◌∙◌, ap}
use mathlib.Core.List.{List}
use Rattle.filter.specs.declared.Delivery.TheVariants.{Into, Reply, Nowhere}
use Rattle.filter.specs.Filter.{delivery}
use Rattle.filter.proofs.Ways.{into, reply}
use Rattle.model.proofs.Meets.{heard_as}
use Rattle.model.proofs.hear.Goals.{After-deliver-d}
use Rattle.model.proofs.hear.Goals as goal

way : (c : After-deliver-d) → delivery c.args.image.now c.args.f ≡ c.deliver-d.result
way c = sym (c.deliver-d.ensures ∙ ap (λ (x : List ℕ). delivery x c.args.f) c.load.ensures)

pub store-requires : goal.store-requires
store-requires c =
    let h = way (goal.at.store-requires c).After-deliver-d ∙ c.in-Into.is in
    (c.requires.0, c.requires.1, (into c.args.image.now c.args.f _ _ h).first.there)

pub reply-requires : goal.reply-requires
reply-requires c =
    let h = way (goal.at.reply-requires c).After-deliver-d ∙ c.in-Reply.is in
    (reply c.args.image.now c.args.f _ _ h).first.there

pub returns-in-Into : goal.returns-in-Into
returns-in-Into c =
    let a = c.args in
    let d = c.in-Into in
    heard_as a.image.now a.f (Into d.mailbox d.count) (way (goal.at.returns-in-Into c).After-deliver-d ∙ d.is) c.store.ensures

pub returns-in-Reply : goal.returns-in-Reply
returns-in-Reply c =
    let a = c.args in
    let d = c.in-Reply in
    heard_as a.image.now a.f (Reply d.mailbox d.count) (way (goal.at.returns-in-Reply c).After-deliver-d ∙ d.is) c.reply.ensures

pub returns-in-Nowhere : goal.returns-in-Nowhere
returns-in-Nowhere c =
    let a = c.args in
    let d = c.in-Nowhere in
    heard_as a.image.now a.f (Nowhere d.count) (way (goal.at.returns-in-Nowhere c).After-deliver-d ∙ d.is) c.miss.ensures
