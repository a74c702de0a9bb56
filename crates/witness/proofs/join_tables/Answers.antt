use mathlib.Core.Path.{refl}
use Rattle.xor.proofs.Laws.{good_by_entries}
use Rattle.witness.specs.Witness.{last_table}
use Rattle.witness.proofs.Showing.{none_joined, turn_opens, turn}
use Rattle.witness.proofs.join_tables.Goals as goal

pub loop-player-init : goal.loop-player-init
unfolding last_table
loop-player-init c = (none_joined _ _ _ _ _ c.clear.ensures c.requires.joined_len, refl)

pub unwrap-requires : goal.unwrap-requires
unwrap-requires c =
    let a = c.args in
    let good = good_by_entries a.keys.now (λ i _. (c.type_inv.keys i).fits) in
    turn_opens a.key_bytes a.players _ c.loop-player.player a.keys.now good c.requires.opens_each c.loop-player-test.true
    c.loop-player.table c.open_all.new.output c.loop-player.auto.table c.open_all.result c.open_all.ensures

pub loop-player-preserved : goal.loop-player-preserved
loop-player-preserved c =
    let a = c.args in
    let good = good_by_entries a.keys.now (λ i _. (c.type_inv.keys i).fits) in
    turn a.key_bytes a.players _ c.loop-player.player a.keys.now good c.requires.opens_each c.loop-player-test.true
    c.loop-player.table c.open_all.new.output c.loop-player.auto.table _ _ _ _ c.open_all.ensures c.loop-player.invariant.0 c.xor_into.ensures
