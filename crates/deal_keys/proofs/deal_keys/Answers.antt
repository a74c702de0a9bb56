use Prim.Native.Nat.{◌<◌}
use native.Mathlib.Omega.{arith}
use lib.ListN.{length}
use Rattle.grid.specs.Grid.{board}
use Rattle.grid.specs.Code.{board_of}
use Rattle.grid.proofs.Facts.{board_in}
use Rattle.keys.specs.Keys.{keys_from}
use Rattle.writer.proofs.Laws.{wrote_nothing}
use Rattle.dealing.specs.Code.{lent_of}
use Rattle.dealing.proofs.Facts.{facts}
use Rattle.deal_keys.proofs.KeyBytes.{Begun, front_room, word_room, next_front_room, again_room, turn, all_written}
use Rattle.deal_keys.proofs.deal_keys.Goals as goal
use Rattle.deal_keys.proofs.deal_keys.Goals.{After-put_last_word-next}

-- player 0's key is written before the loop
begun : (c : After-put_last_word-next) →
    let d = c.args.dealing.now in
    let front = c.put_front-last in
    let word = c.put_last_word-next in
    Begun (board_of d.board) (lent_of d) front.result word.result c.args.keys.now front.new.out word.new.out
unfolding board
begun c = record { room = c.requires; front = c.put_front-last.ensures; word = c.put_last_word-next.ensures }

pub put_front-last-requires : goal.put_front-last-requires
unfolding board
put_front-last-requires c =
    let d = c.args.dealing.now in
    (omega arith, front_room (board_of d.board) (lent_of d) (facts d) (length c.args.keys.now) c.requires)

pub put_last_word-next-requires : goal.put_last_word-next-requires
unfolding board
put_last_word-next-requires c =
    let d = c.args.dealing.now in
    let p = c.put_front-last in
    let f = (facts d).sizes in
    let room = word_room (board_of d.board) (lent_of d) (facts d) (length c.args.keys.now) p.result c.requires p.ensures.next_is in
    (f.point, f.value, f.seeds, f.words, omega (arith, p.auto.out, room))

pub loop-player-init : goal.loop-player-init
unfolding keys_from
loop-player-init c = wrote_nothing _ _

pub loop-player-preserved : goal.loop-player-preserved
unfolding board
loop-player-preserved c =
    let d = c.args.dealing.now in
    let l = c.loop-player in
    turn (board_of d.board) (lent_of d) (facts d) _ _ _ _ _ (begun (goal.at.loop-player-preserved c).After-put_last_word-next)
    l.player l.next l.keys l.auto.player l.invariant (omega arith) _ c.row_length-row_length.ensures
    c.put_front-end.ensures c.put_again-next.ensures (omega arith)

pub returns : goal.returns
unfolding board
returns c =
    let d = c.args.dealing.now in
    let l = c.loop-player in
    let least = (board_in (board_of d.board) d.board.accepted).players_least in
    all_written (board_of d.board) (lent_of d) (facts d) _ _ _ _ _ (begun (goal.at.returns c).After-put_last_word-next)
    l.player l.next l.keys (omega arith) l.invariant

pub put_front-end-requires : goal.put_front-end-requires
unfolding board
put_front-end-requires c =
    let d = c.args.dealing.now in
    let l = c.loop-player in
    let most = (board_in (board_of d.board) d.board.accepted).players_most in
    let below : l.player < d.board.players = omega arith in (
      omega (arith, most),
      next_front_room (board_of d.board) (lent_of d) (facts d) _ _ _ _ _ (begun (goal.at.put_front-end-requires c).After-put_last_word-next)
          l.player l.next l.keys l.auto.player l.invariant _ below (omega (arith, most)),
    )

pub put_again-next-requires : goal.put_again-next-requires
unfolding board
put_again-next-requires c =
    let d = c.args.dealing.now in
    let l = c.loop-player in
    let most = (board_in (board_of d.board) d.board.accepted).players_most in
    let room = again_room (board_of d.board) (lent_of d) (facts d) _ _ _ _ _ (begun (goal.at.put_again-next-requires c).After-put_last_word-next)
    l.player l.next l.keys l.auto.player l.invariant _ (omega arith) (omega (arith, most)) _ c.row_length-row_length.result _
    c.row_length-row_length.ensures c.put_front-end.ensures in
    (omega (arith, room.0), omega (arith, room.1))
