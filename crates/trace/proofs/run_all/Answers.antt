use Rattle.std.proofs.Common.{◌≡◌, ◌≤◌, ◌+◌, ◌++◌, ℕ, List, length, arith, refl, ap, ◌∙◌}
use Rattle.registers.specs.Block.{put_block, can_b, image_bytes}
use Rattle.fresh.specs.Fresh.{fresh_block, fresh_image}
use Rattle.fresh.proofs.Good.{zeros}
use Rattle.trace.specs.Trace.{lines}
use Rattle.trace.proofs.Runs.{room_one, room_two, room_three, put_three}
use Rattle.trace.proofs.run_all.Goals as goal
use Rattle.trace.proofs.run_all.Goals.{After-fill_registers}

fresh : (c : After-fill_registers) → c.fill_registers.new.image ≡ fresh_image can_b
unfolding fresh_image
fresh c = c.fill_registers.ensures ∙ ap (λ (x : List ℕ). put_block x (fresh_block can_b)) (zeros image_bytes refl)

-- the room, from the image that there is
room : (c : After-fill_registers) → c.args.at + length (lines 1 c.fill_registers.new.image (c.args.trace.first.now ++ (c.args.trace.second.now ++ c.args.trace.third.now))) ≤ length c.args.out.now
room c = rw (fresh c) c.requires

pub run_section-a-requires : goal.run_section-a-requires
run_section-a-requires c =
    let t = c.args.trace in
    (omega arith, omega arith, room_one t.first.now t.second.now t.third.now c.fill_registers.new.image c.args.out.now c.args.at (room ((goal.at.run_section-a-requires c).After-fill_registers)))

pub run_section-b-requires : goal.run_section-b-requires
run_section-b-requires c =
    let t = c.args.trace in
    let one = c.run_section-a.ensures in
    (omega arith, omega arith, room_two t.first.now t.second.now t.third.now c.fill_registers.new.image c.args.out.now c.args.at (room ((goal.at.run_section-b-requires c).After-fill_registers)) one.0 one.1)

pub run_section-requires : goal.run_section-requires
run_section-requires c =
    let t = c.args.trace in
    let one = c.run_section-a.ensures in
    let two = c.run_section-b.ensures in
    (omega arith, omega arith, room_three t.first.now t.second.now t.third.now c.fill_registers.new.image c.args.out.now c.args.at (room ((goal.at.run_section-requires c).After-fill_registers)) one.0 one.1 two.0 two.1)

pub returns : goal.returns
returns c =
    let t = c.args.trace in
    let one = c.run_section-a.ensures in
    let two = c.run_section-b.ensures in
    let a = (goal.at.returns c).After-fill_registers in
    rw (fresh a) at (put_three t.first.now t.second.now t.third.now c.fill_registers.new.image c.args.out.now c.args.at (room a) one.0 one.1 two.0 two.1 c.run_section.ensures.0)
