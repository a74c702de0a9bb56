-- THE PROMISES, whole and in one place. The record `Promises` has one field for each demand, one for the calls and one for whatever else is
-- promised; each is a record in a file of its own, with one field for each promise, whose type is the statement, written down beside the
-- definitions that it speaks of. proofs/Promise.antt has the one term of the whole. All hold for every number of players, every number of
-- positions, every grid width and every value width at once. Assumes nothing.
pub use Rattle.promises.specs.Demand1.{Demand1}
pub use Rattle.promises.specs.Demand2.{Demand2}
pub use Rattle.promises.specs.Demand3.{Demand3}
pub use Rattle.promises.specs.OfTheCalls.{OfTheCalls}
pub use Rattle.promises.specs.RestsOn.{RestsOn}
pub use Rattle.promises.specs.BadArrays.{BadArrays}
pub use Rattle.promises.specs.Expansion.{Expansion}
pub use Rattle.promises.specs.CardDraw.{CardDraw}
pub use Rattle.promises.specs.BoardPage.{BoardPage}
pub use Rattle.promises.specs.ChooseWidth.{ChooseWidth}
pub use Rattle.promises.specs.PrintedNumbers.{PrintedNumbers}
pub use Rattle.promises.specs.Document03.{Document03}

pub record Promises : Type 0 where
  -- bytes of every kind: what a refused and an answered call leave
  pub demand_1 : Demand1
  -- keys as bytes: the one writing of a key
  pub demand_2 : Demand2
  -- joining, opening alone, and hiding
  pub demand_3 : Demand3
  -- the same of the calls themselves
  pub of_the_calls : OfTheCalls
  -- arrays and words
  pub rests_on : RestsOn
  -- what Deal says is wrong with arrays, and where
  pub bad_arrays : BadArrays
  -- what Expand gives from a starting byte on
  pub expansion : Expansion
  -- what Draw card's answers join to
  pub card_draw : CardDraw
  -- what a reader finds on a page
  pub board_page : BoardPage
  -- that the width of Choose width makes the shortest key
  pub choose_width : ChooseWidth
  pub printed_numbers : PrintedNumbers
  -- document 03's own statements
  pub document_03 : Document03
