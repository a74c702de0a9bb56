-- WHAT THE DEMANDS REST ON: arrays and words. proofs/RestsOn.antt has the term. Quotations are document 01's. Assumes nothing.
unfoldable pub use Rattle.grid.specs.Arrays.{EachColumnOnce, HalfIsMarked, HalfOfEachGridRow}
unfoldable pub use Rattle.grid.specs.Joining.{SharesJoin, WordsJoin, LastWordCompletes, PieceCells}

pub record RestsOn : Type 0 where
  -- "An even array holds every column of p bits with an even count of ones exactly once; an odd array every column with an odd count."
  pub each_column_once : EachColumnOnce
  -- "A player marks exactly J/2 columns."
  pub half_is_marked : HalfIsMarked
  pub half_of_each_grid_row : HalfOfEachGridRow
  -- good dealings' shares join; what all words and rows of a grid row make; the last word completes it; the piece's cells
  pub shares_join : SharesJoin
  pub words_join : WordsJoin
  pub last_word_completes : LastWordCompletes
  pub piece_cells : PieceCells
