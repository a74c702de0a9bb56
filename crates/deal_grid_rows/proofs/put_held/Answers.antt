use Rattle.std.proofs.Common.{arith}
use Rattle.deal_grid_rows.proofs.RowBytes.{held_none, held_room, held_turn}
use Rattle.deal_grid_rows.proofs.put_held.Goals as goal

pub loop-column-init : goal.loop-column-init
loop-column-init c =
    let a = c.args in
    held_none a.at a.player.bit a.array.now a.seeds.now a.out.now c.requires.1

pub put_column-next-requires : goal.put_column-next-requires
put_column-next-requires c =
    let a = c.args in
    let l = c.loop-column in
    (omega arith, omega arith, held_room a.at a.player.bit a.array.now a.seeds.now a.out.now c.requires.1 l.column (omega arith) l.invariant)

pub loop-column-preserved : goal.loop-column-preserved
loop-column-preserved c =
    let a = c.args in
    let l = c.loop-column in
    held_turn a.at a.player.bit a.array.now a.seeds.now a.out.now c.requires.1 l.column (omega arith) l.invariant c.put_column-next.ensures
