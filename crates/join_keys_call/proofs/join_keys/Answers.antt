-- `join_keys_call::join_keys` meets its contract. Assumes nothing.
use mathlib.Core.Path.{◌≡◌, sym, ◌∙◌}
use Prim.Native.Nat.{◌*◌, ◌≤◌}
use native.Mathlib.Omega.{arith}
use lib.ListN.{length}
use lib.Seq.{length-take-le}
use Rattle.std.proofs.Common.{rules, Err}
use Rattle.refusal.proofs.Numbers.{number_some}
use Rattle.grid.specs.Code.{board_of}
use Rattle.keys.specs.Keys.{head_in, head_refusal, key_long}
use Rattle.key_header.proofs.Reading.{Says, accepted_says}
use Rattle.join_keys_call.specs.JoinKeys.{places_refusal}
use Rattle.join_keys_call.proofs.InTurn.{keys_fit, join_header_refused, join_refused, join_done}
use Rattle.join_keys_call.proofs.join_keys.Goals as goal
use Rattle.join_keys_call.proofs.join_keys.Goals.{In_ok-board, In_ok-keys_refusal, After-table_length-table}

-- the first header was accepted
read : (c : In_ok-board) → let keys = c.args.keys.now in Says (head_refusal (head_in keys)) keys c.in_ok-board.field-0
read c = accepted_says _ _ _ c.in_ok-board.ensures

-- behind the refusals the keys are accepted, and there is room
fit : (c : In_ok-keys_refusal) → let b = c.in_ok-board.field-0.board in
    (length c.args.keys.now ≡ b.players * key_long (board_of b)) × (places_refusal b.players 0 (board_of b) c.args.keys.now ≡ 0)
    × (b.positions * b.value_bytes ≤ length c.args.output.now)
fit c =
    let says = read (goal.at.In_ok-keys_refusal c).In_ok-board in
    keys_fit _ c.in_ok-board.field-0.board says.none says.board_is _ (sym c.in_ok-keys_refusal.ensures)

pub returns-in_err-board : goal.returns-in_err-board
returns-in_err-board c =
    let is : c.from_residual.result ≡ Err c.in_err-board.field-0.0 = search rules in
    rw is (join_header_refused _ _ _ c.in_err-board.ensures)

pub keys_refusal-requires : goal.keys_refusal-requires
keys_refusal-requires c = let says = read (goal.at.keys_refusal-requires c).In_ok-board in (says.none, says.board_is)

pub returns-in_err-keys_refusal : goal.returns-in_err-keys_refusal
returns-in_err-keys_refusal c =
    let is : c.from_residual-in_err-keys_refusal.result ≡ Err c.in_err-keys_refusal.field-0.0 = search rules in
    rw is (join_refused _ _ _ c.in_err-keys_refusal.ensures (number_some _))

-- the table has room in the output
inside : (c : After-table_length-table) → c.table_length-table.result ≤ length c.args.output.now
inside c = omega (arith, c.table_length-table.ensures, (fit (goal.at.After-table_length-table c).In_ok-keys_refusal).2)

pub slice_bounds-joined_tables-end : goal.slice_bounds-joined_tables-end
slice_bounds-joined_tables-end c = inside c

pub slice_bounds-joined_tables-end-2 : goal.slice_bounds-joined_tables-end-2
slice_bounds-joined_tables-end-2 c = sym (length-take-le _ _ (inside (goal.at.slice_bounds-joined_tables-end-2 c).After-table_length-table))

pub joined_tables-requires : goal.joined_tables-requires
joined_tables-requires c =
    let at = goal.at.joined_tables-requires c in
    let fits = fit at.In_ok-keys_refusal in
    (fits.0, fits.1, length-take-le _ _ (inside at.After-table_length-table) ∙ c.table_length-table.ensures)

pub returns : goal.returns
returns c =
    let at = goal.at.returns c in
    let says = read at.In_ok-board in
    join_done _ _ c.in_ok-board.field-0.board c.joined_tables.new.out _ says.board_is (sym c.in_ok-keys_refusal.ensures)
    (c.joined_tables.auto.out ∙ length-take-le _ _ (inside at.After-table_length-table)) c.joined_tables.ensures
