use Rattle.std.proofs.Common.{◌∙◌, arith}
use Rattle.chacha20.proofs.Rounds.{one_round_less, no_round_left}
use Rattle.chacha20.proofs.twenty_rounds.Goals as goal

pub loop-done-preserved : goal.loop-done-preserved
loop-done-preserved c = let l = c.loop-done in one_round_less l._done l.state _ _ (omega arith) l.invariant (c.word_by_word-state.ensures ∙ c.double_round.ensures)

pub returns : goal.returns
returns c = let l = c.loop-done in no_round_left l._done l.state _ (omega arith) l.invariant
