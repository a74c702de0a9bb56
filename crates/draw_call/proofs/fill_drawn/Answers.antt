-- `draw_call::fill_drawn` meets its contract. Assumes nothing.
use mathlib.Core.Path.{◌≡◌, ap, ◌∙◌}
use Prim.Native.Nat.{ℕ, ◌≤◌}
use lib.ListN.{length, take, replicate, length-replicate}
use lib.Seq.{length-take-le, take_at}
use Rattle.xor.specs.Xor.{zeros}
use Rattle.writer.proofs.Laws.{written_front, in_front_whole}
use Rattle.seed_rows.specs.Rows.{rule}
use Rattle.grid.specs.Grid.{board}
use Rattle.grid.specs.Code.{board_of}
use Rattle.open_key.proofs.Bodies.{board_known, body_known}
use Rattle.open_key.proofs.GridRows.{expansion}
use Rattle.draw_call.proofs.Rows.{deck_fresh}
use Rattle.draw_call.proofs.fill_drawn.Goals as goal

-- the sum has room for a card
room : (n : ℕ) → n ≤ 256 → length (take n (replicate {A = ℕ} 256 0)) ≡ n
room n h = length-take-le n (replicate 256 0) (rw length-replicate h)

pub returns : goal.returns
unfolding zeros board
returns c =
    let body = c.args.body.now in
    let b = board_of body.board in
    let fresh = deck_fresh b c.requires.0 (rule b) body.bytes.now (board_known body) (expansion b) (body_known body) _ 256 c.args.deck.now c.add_deck.new.sum
    c.requires.2 c.requires.1 c.add_deck.ensures in
    let long = c.add_deck.auto.sum ∙ room (length c.args.out.now) c.requires.2 in
    let part = take_at c.add_deck.new.sum _ _ long in
    c.put.ensures.now_is ∙ written_front _ c.args.out.now ∙ in_front_whole _ c.args.out.now (ap length part ∙ long) ∙ part ∙ fresh
