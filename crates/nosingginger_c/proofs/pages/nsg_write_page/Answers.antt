-- `nosingginger_c::pages::nsg_write_page` meets its contract. Assumes nothing.
use Rattle.nosingginger_c.proofs.Pointers.{answer_through}
use Rattle.nosingginger_c.proofs.pages.nsg_write_page.Goals as goal

pub returns : goal.returns
returns c = answer_through _ _ _ _ _ c.write_page.ensures c.put_answer.ensures
