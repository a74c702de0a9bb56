use mathlib.Core.Path.{◌≡◌, ap, ◌∙◌}
use mathlib.Core.Bool.{true}
use mathlib.Core.List.{List}
use Prim.Native.Nat.{ℕ, ◌+◌, ◌*◌, ◌-◌, ◌≤◌}
use native.Mathlib.Omega.{arith}
use lib.ListN.{length, take, drop}
use Rattle.xor.specs.Xor.{xors, bytes_good}
use Rattle.xor.proofs.Laws.{good_by_entries}
use Rattle.grid.specs.Grid.{board}
use Rattle.grid.specs.Code.{board_of}
use Rattle.keys.specs.Keys.{AcceptedAs}
use Rattle.key_lengths.proofs.Lengths.{body_most}
use Rattle.join_keys_call.proofs.InTurn.{key_inside, key_at}
use Rattle.join_keys_call.proofs.JoinedTables.{key_body, key_good, key_table, tables_none, table_more, tables_all}
use Rattle.join_keys_call.proofs.joined_tables.Goals as goal
use Rattle.join_keys_call.proofs.joined_tables.Goals.{After-body_length, In-loop-player}

below : (c : After-body_length) → c.body_length.result ≤ c.key_length-long.result
below c = omega (arith, c.body_length.ensures, c.key_length-long.ensures, body_most (board_of c.args.board))

-- the key of a turn stands among the keys, and is accepted at its place
within : (c : In-loop-player) → let at = (c.loop-player.player - 1) * c.key_length-long.result in at + c.key_length-long.result ≤ length c.args.keys.now
within c = key_inside (board_of c.args.board) c.args.keys.now (omega arith) c.key_length-long.ensures c.requires.0

accepted : (c : In-loop-player) → let i = c.loop-player.player - 1 in let long = c.key_length-long.result in
    AcceptedAs (board_of c.args.board) i (take long (drop (i * long) c.args.keys.now))
accepted c = key_at (board_of c.args.board) c.args.keys.now c.args.board.players _ _ c.requires.0 c.requires.1 c.key_length-long.ensures (omega arith)

good : (c : In-loop-player) → bytes_good c.args.keys.now ≡ true
good c = good_by_entries _ (λ i _. (c.type_inv.keys i).fits)

pub overflow_sub-behind : goal.overflow_sub-behind
overflow_sub-behind c = below c

pub loop-player-init : goal.loop-player-init
unfolding board
loop-player-init c = tables_none _ _ _ _ c.args.out.now (c.fill.ensures.after (λ y same. same)) c.requires.2

pub invariant_of-add_table : goal.invariant_of-add_table
invariant_of-add_table c =
    let turn = goal.at.invariant_of-add_table c in
    let b = board_of c.args.board in
    let loop = turn.In-loop-player in
    record {
      accepted = key_body b _ c.args.keys.now (good loop) _ _ _ c.body_length.ensures (below turn.After-body_length) (within loop) (accepted loop);
      good = key_good b _ c.args.keys.now (good loop) _ _ _ c.body_length.ensures (below turn.After-body_length) (within loop) (accepted loop);
    }

pub loop-player-preserved : goal.loop-player-preserved
loop-player-preserved c =
    let turn = goal.at.loop-player-preserved c in
    let loop = turn.In-loop-player in
    let l = c.loop-player in
    let b = board_of c.args.board in
    let table_is = key_table b _ c.args.keys.now (good loop) _ _ _ c.body_length.ensures (below turn.After-body_length) (within loop) (accepted loop) in
    table_more c.args.board.players l.player _ b c.args.keys.now l.out _ c.key_length-long.ensures (omega (arith, c.loop-player-test.true)) l.auto.player
    l.invariant (c.add_table.ensures ∙ ap (λ (t : List ℕ). xors l.out t) table_is)

pub returns : goal.returns
returns c =
    let l = c.loop-player in
    tables_all c.args.board.players l.player _ (board_of c.args.board) c.args.keys.now l.out (omega (arith, c.loop-player-test.false)) l.invariant
