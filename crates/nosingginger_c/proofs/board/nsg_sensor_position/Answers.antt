-- `nosingginger_c::board::nsg_sensor_position` meets its contract. Assumes nothing.
use Rattle.nosingginger_c.proofs.Pointers.{answer_through}
use Rattle.nosingginger_c.proofs.board.nsg_sensor_position.Goals as goal

pub returns : goal.returns
returns c = answer_through _ _ _ _ _ c.sensor_position.ensures c.put_answer.ensures
