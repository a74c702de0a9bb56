-- `draw_call::add_grid_row` meets its contract. Assumes nothing.
use mathlib.Core.Path.{◌≡◌, sym, ap, ◌∙◌}
use mathlib.Core.List.{List}
use Prim.Native.Nat.{ℕ}
use lib.ListN.{length}
use Rattle.xor.specs.Xor.{xors, zeros}
use Rattle.seed_rows.specs.Rows.{rule}
use Rattle.grid.specs.Code.{board_of}
use Rattle.open_key.proofs.Bodies.{board_known, body_known}
use Rattle.open_key.proofs.GridRows.{expansion}
use Rattle.cards.specs.Cards.{masks}
use Rattle.cards.proofs.Masks.{masks_are}
use Rattle.draw_call.proofs.Rows.{row_picked}
use Rattle.draw_call.proofs.add_grid_row.Goals as goal

pub returns : goal.returns
unfolding zeros
returns c =
    let body = c.args.body.now in
    let b = board_of body.board in
    let sum = c.args.sum.now in
    let same = row_picked b (rule b) body.bytes.now (board_known body) (expansion b) (body_known body) c.args.grid_row c.requires.0
    (length sum) c.args.shares.now c.fill.new.self _ _ c.args.cards.now c.requires.1 (c.fill.ensures.after (λ y same. same))
    c.add_entries.ensures c.make_masks.ensures in
    c.add_cards.ensures ∙ ap (λ (row : List ℕ). xors sum row) same

pub add_cards-requires : goal.add_cards-requires
add_cards-requires c =
    let wanted = c.make_masks.new.shares in
    let are = c.make_masks.ensures in
    let long : length wanted ≡ length c.args.shares.now = c.make_masks.auto.shares ∙ c.add_entries.auto.out ∙ c.fill.ensures.len in
    (ap masks are ∙ masks_are _ ∙ sym are, rw long c.requires.2)
