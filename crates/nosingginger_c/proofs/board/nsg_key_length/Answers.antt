-- `nosingginger_c::board::nsg_key_length` meets its contract. Assumes nothing.
use Rattle.nosingginger_c.proofs.Pointers.{answer_through}
use Rattle.nosingginger_c.proofs.board.nsg_key_length.Goals as goal

pub returns : goal.returns
returns c = answer_through _ _ _ _ _ c.key_length.ensures c.put_answer.ensures
