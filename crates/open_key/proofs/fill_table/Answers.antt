-- `open_key::fill_table` meets its contract. Assumes nothing.
use Rattle.xor.specs.Xor.{zeros}
use Rattle.grid.specs.Grid.{board}
use Rattle.grid.specs.Code.{board_of}
use Rattle.open_key.specs.Opened.{table_of}
use Rattle.open_key.proofs.Bodies.{board_known, body_known}
use Rattle.open_key.proofs.GridRows.{expansion, table_fresh}
use Rattle.open_key.proofs.fill_table.Goals as goal

pub returns : goal.returns
unfolding board zeros table_of
returns c =
    let body = c.args.body.now in
    let b = board_of body.board in
    table_fresh b _ body.bytes.now c.args.out.now c.fill.new.self _ (board_known body) (expansion b) (body_known body)
    c.requires (c.fill.ensures.after (λ y same. same)) c.add_table.ensures
