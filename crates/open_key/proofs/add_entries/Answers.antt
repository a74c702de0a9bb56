-- `open_key::add_entries` meets its contract: a grid row's entries are the first bytes of its shares. Assumes nothing.
use mathlib.Core.Path.{◌≡◌, sym, ap, ◌∙◌}
use mathlib.Core.List.{List}
use Prim.Native.Nat.{ℕ, ◌+◌, ◌≤◌}
use native.Mathlib.Omega.{arith}
use Rattle.xor.specs.Xor.{xors}
use Rattle.seed_rows.specs.Rows.{rule}
use Rattle.grid.specs.Grid.{Board, row_long}
use Rattle.grid.specs.Code.{board_of}
use Rattle.open_key.specs.Opened.{entries_long}
use Rattle.open_key.proofs.Bodies.{board_known, body_known}
use Rattle.open_key.proofs.Parts.{part_length, part_marks}
use Rattle.open_key.proofs.GridRows.{expansion, entries_shares}
use Rattle.open_key.proofs.add_entries.Goals as goal

pub returns : goal.returns
returns c =
    let body = c.args.body.now in
    let b = board_of body.board in
    let same = entries_shares b (rule b) body.bytes.now (board_known body) (expansion b) (body_known body) c.args.grid_row c.requires.0 _ _
    c.grid_row_part.ensures c.requires.1 in
    c.add_shares.ensures ∙ ap (λ (row : List ℕ). xors c.args.out.now row) (sym same)

-- no more than a row
row_room : (b : Board) (g n : ℕ) → n ≡ entries_long b g → 0 + n ≤ row_long b
unfolding entries_long
row_room b g n e = omega arith

pub add_shares-requires : goal.add_shares-requires
add_shares-requires c =
    let body = c.args.body.now in
    let b = board_of body.board in
    let g = c.args.grid_row in
    let part = c.grid_row_part.ensures in (
      c.requires.0,
      part_length b body.bytes.now body.accepted g c.requires.0 _ part,
      part_marks b body.bytes.now body.accepted g c.requires.0 _ part,
      row_room b g _ c.requires.1,
    )
