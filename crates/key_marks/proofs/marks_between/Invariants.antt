-- `key_marks::marks_between` meets its contract. The invariant: what is counted and what is left make the whole count. Assumes nothing.
use mathlib.Core.Path.{◌≡◌}
use Prim.Native.Nat.{◌+◌, ◌-◌, ◌≤◌}
use Rattle.keys.specs.Keys.{count_marks}
use Rattle.key_marks.proofs.marks_between.Given as goal

abbrev pub invariant-loop-column : goal.invariant-loop-column
invariant-loop-column l =
    (l.count ≤ l.column) × (l.count + count_marks (l.until - l.column) l.column l.part ≡ count_marks (l.until - l.from) l.from l.part)
