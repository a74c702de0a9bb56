-- `reader::byte` meets its contract: past the end a list reads as 0. Assumes nothing.
use mathlib.Core.Path.{sym}
use lib.ListN.{get_or-eq_default}
use borrow.Author.Rules.{rules}
use Rattle.reader.proofs.byte.Goals as goal

pub bounds-bytes-at : goal.bounds-bytes-at
bounds-bytes-at c = search rules

pub returns-then-at-bytes : goal.returns-then-at-bytes
returns-then-at-bytes c = search rules

pub returns-else-at-bytes : goal.returns-else-at-bytes
returns-else-at-bytes c = sym (get_or-eq_default c.args.bytes.now 0 c.if-at-bytes.false)
