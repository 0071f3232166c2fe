use native.Mathlib.Omega.{arith}
use Rattle.texts.proofs.Writing.{put_down}
use Rattle.compare.proofs.Below.{list_most}
use Rattle.compare.proofs.Call.{list_long, counted_by}
use Rattle.compare.proofs.tell_differences.Goals as goal

pub put_list-requires : goal.put_list-requires
put_list-requires c = omega (arith, list_most c.args.first.now c.args.second.now)

pub counted-requires : goal.counted-requires
counted-requires c =
    let a = c.args in
    omega (arith, c.put_list.ensures.behind, list_long a.first.now a.second.now, list_most a.first.now a.second.now)

pub returns : goal.returns
returns c =
    let a = c.args.first.now in
    let b = c.args.second.now in
    put_down (omega (arith, list_long a b, list_most a b)) c.put_list.ensures (counted_by a b c.put_list.ensures c.counted.ensures)
