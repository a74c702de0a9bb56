-- `key_marks::marks_between` meets its contract: the columns that pass are counted one by one, as in the definition. Assumes nothing.
use mathlib.Core.Path.{◌≡◌, sym, ◌∙◌}
use mathlib.Core.Bool.{Bool, true, false, cond}
use mathlib.Core.List.{List}
use Prim.Native.Nat.{ℕ, suc, ◌+◌, ◌-◌, ◌≤◌, ◌<◌}
use native.Mathlib.Nat.{add-zero}
use native.Mathlib.Numerals.{add-one}
use native.Mathlib.Omega.{arith}
use Rattle.keys.specs.Keys.{count_marks}
use Rattle.keys.specs.Held.{marked}
use Rattle.key_marks.proofs.marks_between.Goals as goal
use Rattle.key_marks.proofs.marks_between.Goals.{then-marked, else-marked}

-- the next column, and those behind it
count_next : (ps : List ℕ) (until column : ℕ) → column < until
    → count_marks (until - column) column ps ≡ cond (marked ps column) 1 0 + count_marks (until - (column + 1)) (column + 1) ps
unfolding count_marks marked
count_next ps until column h =
    let left : until - column ≡ suc (until - suc column) = omega arith in
    rw (left, add-one)

turn : (ps : List ℕ) (until column count total next : ℕ) (t : Bool) → column < until → marked ps column ≡ t → next ≡ count + cond t 1 0
    → (count ≤ column) × (count + count_marks (until - column) column ps ≡ total)
    → (next ≤ column + 1) × (next + count_marks (until - (column + 1)) (column + 1) ps ≡ total)
turn ps until column count total next true h m n e = let step = rw m at (count_next ps until column h) in (omega arith, omega (arith, e))
turn ps until column count total next false h m n e = let step = rw m at (count_next ps until column h) in (omega arith, omega (arith, e))

pub loop-column-preserved : goal.loop-column-preserved
loop-column-preserved c =
    let l = c.loop-column in
    let a = c.args in
    let one = turn a.part.now a.until l.column l.count (count_marks (a.until - a.from) a.from a.part.now) c.if-marked.count in
    elim c.if-marked.branch [
      | then-marked w ↦ one true c.loop-column-test.true (sym c.mark-marked.ensures ∙ w.if-marked.true) w.count-is l.invariant
      | else-marked w ↦ one false c.loop-column-test.true (sym c.mark-marked.ensures ∙ w.if-marked.false) (w.count-is ∙ sym (add-zero l.count)) l.invariant
    ]

-- where no column is left the count is whole
none_left : (ps : List ℕ) (until column : ℕ) → until ≤ column → count_marks (until - column) column ps ≡ 0
unfolding count_marks
none_left ps until column h = let left : until - column ≡ 0 = omega arith in rw left

pub returns : goal.returns
returns c =
    let l = c.loop-column in
    let none = none_left c.args.part.now c.args.until l.column c.loop-column-test.false in
    omega (arith, l.invariant.1)
