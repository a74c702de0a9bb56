-- WHAT THE DEMANDS REST ON of specs/RestsOn.antt, kept: the terms are those of the crate grid. Assumes nothing.
use Rattle.grid.proofs.Arrays.{each_column_once, half_is_marked, half_of_each_grid_row}
use Rattle.grid.proofs.Cells.{piece_cells}
use Rattle.grid.proofs.LastWord.{last_word_completes}
use Rattle.grid.proofs.Joining.{shares_join, words_join}
use Rattle.promises.specs.RestsOn.{RestsOn}

pub rests_on : RestsOn
rests_on =
    record {
      each_column_once = each_column_once;
      half_is_marked = half_is_marked;
      half_of_each_grid_row = half_of_each_grid_row;
      shares_join = shares_join;
      words_join = words_join;
      last_word_completes = last_word_completes;
      piece_cells = piece_cells;
    }
