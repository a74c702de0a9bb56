-- `reader::part_from` meets its contract: a part to the end is what is left, and nothing is left past the end. Assumes nothing.
use mathlib.Core.Path.{sym}
use Prim.Native.Nat.{◌-◌, ◌≤◌}
use native.Mathlib.Omega.{arith}
use lib.ListN.{length, drop, length-drop, drop_of_length-le}
use lib.Seq.{take_all}
use borrow.Author.Rules.{rules}
use Rattle.reader.proofs.part_from.Goals as goal

pub slice_bounds-result-count : goal.slice_bounds-result-count
slice_bounds-result-count c = search rules

pub slice_bounds-result-start : goal.slice_bounds-result-start
slice_bounds-result-start c = search rules

pub slice_bounds-result-end : goal.slice_bounds-result-end
slice_bounds-result-end c = search rules

pub slice_bounds-result-end-else-from-bytes : goal.slice_bounds-result-end-else-from-bytes
slice_bounds-result-end-else-from-bytes c = search rules

pub returns-then-from-bytes : goal.returns-then-from-bytes
returns-then-from-bytes c =
    let a = c.args in
    take_all (length a.bytes.now - a.from) (drop a.from a.bytes.now) (omega (arith, length-drop a.from a.bytes.now))

pub returns-else-from-bytes : goal.returns-else-from-bytes
returns-else-from-bytes c =
    let a = c.args in
    let past : length a.bytes.now ≤ a.from = omega arith in sym (drop_of_length-le a.bytes.now past)
