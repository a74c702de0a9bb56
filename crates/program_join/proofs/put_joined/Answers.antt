-- `program_join::put_joined` meets its contract. Assumes nothing.
use mathlib.Core.Path.{sym, ◌∙◌}
use native.Mathlib.Omega.{arith}
use Rattle.program_join.proofs.Joinings.{header_fine, table_cut, text_room, named_board}
use Rattle.program_join.proofs.put_joined.Goals as goal

pub unreachable-requires : goal.unreachable-requires
unreachable-requires c = header_fine _ _ c.in_default.ensures c.requires.input_value

pub slice_bounds-put_table-end : goal.slice_bounds-put_table-end
slice_bounds-put_table-end c =
    sym (table_cut _ c.in-Ok.heading c.in-Ok.ensures c.requires.input_value c.args.table.now _ c.table_length-end.ensures c.requires.table_len.0)

pub put_table-requires : goal.put_table-requires
put_table-requires c = (
  table_cut _ c.in-Ok.heading c.in-Ok.ensures c.requires.input_value c.args.table.now _ c.table_length-end.ensures c.requires.table_len.0
      ∙ c.table_length-end.ensures,
  text_room _ c.in-Ok.heading c.in-Ok.ensures c.requires.input_value _ _ _ (omega arith),
)

pub returns : goal.returns
returns c =
    named_board _ c.in-Ok.heading c.in-Ok.ensures _ c.args.table.now _ _ _ _ _ _ c.put_table.ensures (omega arith) (omega arith) (omega arith)
    c.table_length-end.ensures
