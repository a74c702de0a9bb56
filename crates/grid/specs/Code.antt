-- What types of the code stand for: the contracts speak of the code's board through document 03's, and of the fault that it finds, or that
-- it finds none, through that of Faults. Assumes nothing: these are definitions.
use Rattle.std.specs.Prelude.{Option}
use Rattle.refusal.specs.Refusing.{refusal_number}
use Rattle.grid.specs.Grid.{Board, board}
use Rattle.grid.specs.Faults.{Fault, no_fault}
use Rattle.grid.specs.declared.board.Board as code
use Rattle.grid.specs.declared.fault.Fault as found

-- the code's players, positions, width and value bytes are document 03's p, n, wide and w
abbrev pub board_of : code.Board → Board
board_of b = board b.players b.positions b.width b.value_bytes

-- the number of a fault and its place; none is 0
abbrev pub fault_of : Option found.Fault → Fault
fault_of Option.None = no_fault
fault_of (Option.Some f) = record { number = refusal_number f.refusal; grid_row = f.grid_row; column = f.column }
