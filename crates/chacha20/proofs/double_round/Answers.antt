-- `chacha20::double_round` meets its contract. Eight lines at the table's places. Assumes nothing.
use Rattle.std.proofs.Common.{arith}
use Rattle.chacha20.proofs.Together.{eight_lines}
use Rattle.chacha20.proofs.double_round.Goals as goal

pub returns : goal.returns
returns c = eight_lines c.args.state _ _ _ _ _ _ _ _ (omega (arith, c.well_formed)) c.odd_lines-first.ensures c.even_lines-second.ensures c.odd_lines-third.ensures c.even_lines-fourth.ensures c.odd_lines-fifth.ensures c.even_lines-sixth.ensures c.odd_lines-seventh.ensures c.even_lines.ensures
