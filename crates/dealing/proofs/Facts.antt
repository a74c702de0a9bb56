-- What is known of a dealing by its type, item by item. Assumes nothing.
use Rattle.grid.specs.Code.{board_of}
use Rattle.keys.proofs.Lending.{AcceptedLent, accepted_lent}
use Rattle.dealing.specs.Code.{lent_of}
use Rattle.dealing.specs.declared.Dealing as code

pub facts : (d : code.Dealing) → AcceptedLent (board_of d.board) (lent_of d)
facts d = accepted_lent (board_of d.board) (lent_of d) d.accepted
