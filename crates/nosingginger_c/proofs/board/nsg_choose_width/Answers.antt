-- `nosingginger_c::board::nsg_choose_width` meets its contract. Assumes nothing.
use Rattle.nosingginger_c.proofs.Pointers.{answer_through}
use Rattle.nosingginger_c.proofs.board.nsg_choose_width.Goals as goal

pub returns : goal.returns
returns c = answer_through _ _ _ _ _ c.choose_width.ensures c.put_answer.ensures
