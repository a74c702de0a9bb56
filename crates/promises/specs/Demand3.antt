-- THE THIRD DEMAND: joining, opening alone, and hiding. proofs/Demand3.antt has the term. Quotations are document 01's. Assumes nothing.
use Rattle.grid.specs.Grid.{Board}
unfoldable pub use Rattle.grid.specs.Arrays.{OneRowUnheld}
unfoldable pub use Rattle.grid.specs.Hiding.{TellsNothing, JustOneDealing, NoOtherDealing}
unfoldable pub use Rattle.grid.specs.Moving.{MovedIsNamed, MovingFinds}
unfoldable pub use Rattle.keys.specs.Promise.{RuleGood, TableLong, OpensAlone, KeysOpen, TablesJoin, FullTablesJoin}
unfoldable pub use Rattle.keys.specs.Promise.{AcceptedIsDrawn, HeldIsRead, SameKeys, SameKeysForOthers, KeysTellNothing}
use Rattle.seed_rows.specs.Rows.{rule}

-- "A row rule gives each 32-byte seed some μ × w bytes; expansion is one"
unfoldable pub ExpansionIsARule : Type 0
ExpansionIsARule = (b : Board) → RuleGood b (λ seed. rule b seed)

pub record Demand3 : Type 0 where
  -- FIRST PART: every player's table, joined, shows the piece and nothing else
  -- under every row rule, all players' shares XOR to the value on the point's square and to zero on every other
  pub tables_join : TablesJoin
  -- the same of full tables
  pub full_tables_join : FullTablesJoin
  -- a full table has N × w bytes
  pub table_long : TableLong
  -- expansion is a row rule
  pub expansion_is_a_rule : ExpansionIsARule
  -- SECOND PART: a square opened alone
  -- every accepted key, dealt or not, opens a square alone as that entry of its own full table
  pub opens_alone : OpensAlone
  -- a dealt key opens as the dealing's share
  pub keys_open : KeysOpen
  -- THIRD PART: with rows freely drawn, all players but one together learn nothing of the piece
  -- whichever player is left out, whatever point, value and unheld rows are named, just one dealing has these and gives everybody else the
  -- same keys; in the second statement "the chosen rows are any μ × w bytes, one at that place in each grid row but the named point's"
  pub tells_nothing : TellsNothing
  pub just_one_dealing : JustOneDealing
  -- that dealing is `moved`, and from the other side the same step leads back: dealings of two pieces are matched one to one
  pub moved_is_named : MovedIsNamed
  pub moving_finds : MovingFinds
  pub no_other_dealing : NoOtherDealing
  -- "each grid row has exactly one row not so held"
  pub one_row_unheld : OneRowUnheld
  -- and that is said of the keys that Deal writes: every accepted dealing is a freely drawn one under every rule, what it gives a player is what
  -- the player's dealt key is read as, with the rule's rows for the seeds, "the same keys" are keys that agree in marks, words and rows, and so
  -- just one freely drawn dealing has what is named and fits the keys that Deal wrote to everybody else
  pub accepted_is_drawn : AcceptedIsDrawn
  pub held_is_read : HeldIsRead
  pub same_keys : SameKeys
  pub same_keys_for_others : SameKeysForOthers
  pub keys_tell_nothing : KeysTellNothing
