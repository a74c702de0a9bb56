-- `tally::kept` meets its contract: what is said of runs of the calls holds. Assumes nothing.
use Rattle.tally.proofs.Runs.{tally_holds, any_order, twice_is_none, refused_in_between}
use Rattle.tally.proofs.kept.Goals as goal

pub returns-clause-holds : goal.returns-clause-holds
returns-clause-holds c = tally_holds

pub returns-clause-order : goal.returns-clause-order
returns-clause-order c = any_order

pub returns-clause-twice : goal.returns-clause-twice
returns-clause-twice c = twice_is_none

pub returns-clause-refused : goal.returns-clause-refused
returns-clause-refused c = refused_in_between
