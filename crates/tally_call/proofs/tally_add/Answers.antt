-- `tally_call::tally_add` meets its contract. Assumes nothing.
use mathlib.Core.Path.{◌≡◌, sym, ◌∙◌}
use native.Mathlib.Omega.{arith}
use Rattle.std.proofs.Common.{rules, Err}
use Rattle.grid.specs.Grid.{board}
use Rattle.grid.specs.Code.{board_of}
use Rattle.tally.specs.Tallies.{takes, AddSays, add_refusal}
use Rattle.tally.proofs.Numbers.{tally_lent, taken_long}
use Rattle.call_answers.proofs.Answering.{put_first}
use Rattle.tally_call.proofs.Saying.{add_key_refused, add_other, added}
use Rattle.tally_call.proofs.tally_add.Goals as goal
use Rattle.tally_call.proofs.tally_add.Goals.{After-takes}

pub returns-in_err-refusal : goal.returns-in_err-refusal
unfolding AddSays add_refusal
returns-in_err-refusal c =
    let is : c.from_residual.result ≡ Err c.in_err-refusal.field-0.0 = search rules in
    rw is (put_first _ _ c.in_err-refusal.ensures _ _ _)

pub returns-in_err-player : goal.returns-in_err-player
returns-in_err-player c =
    let is : c.from_residual-in_err-player.result ≡ Err c.in_err-player.field-0.0 = search rules in
    rw is (add_key_refused _ _ _ c.in_ok-refusal.ensures _ c.in_err-player.ensures.refusal)

-- the key is asked for by the numbers of its header
asked : (c : After-takes) → c.takes.result ≡ takes c.args.tally (board_of c.in_ok-player.body.board) c.in_ok-player.player
asked c = rw (sym c.of.ensures.board, sym c.of.ensures.player) c.takes.ensures

pub returns-then-not-takes : goal.returns-then-not-takes
returns-then-not-takes c =
    let key = c.in_ok-player.ensures in
    let own = asked (goal.at.returns-then-not-takes c).After-takes in
    add_other _ _ _ c.in_ok-refusal.ensures c.in_ok-player.player c.in_ok-player.body key.refusal key.read _ own _ c.if-not-takes.true (omega arith)

pub slice_bounds-add_table-end : goal.slice_bounds-add_table-end
slice_bounds-add_table-end c = (tally_lent _ _ _ c.table_length.ensures c.in_ok-refusal.ensures).0

pub slice_bounds-add_table-end-2 : goal.slice_bounds-add_table-end-2
slice_bounds-add_table-end-2 c = sym (tally_lent _ _ _ c.table_length.ensures c.in_ok-refusal.ensures).1

pub add_table-requires : goal.add_table-requires
unfolding board
add_table-requires c =
    let own = asked (goal.at.add_table-requires c).After-takes in
    (tally_lent _ _ _ c.table_length.ensures c.in_ok-refusal.ensures).1 ∙ c.table_length.ensures ∙ taken_long _ _ _ _ own c.if-not-takes.false

pub returns : goal.returns
returns c =
    let key = c.in_ok-player.ensures in
    let own = asked (goal.at.returns c).After-takes in
    added _ _ _ c.in_ok-refusal.ensures c.in_ok-player.player c.in_ok-player.body key.refusal key.read _ own _ _ c.if-not-takes.false
    (c.add_table.auto.out ∙ (tally_lent _ _ _ c.table_length.ensures c.in_ok-refusal.ensures).1) c.add_table.ensures c.table_length.ensures
