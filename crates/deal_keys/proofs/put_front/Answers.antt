-- `deal_keys::put_front` meets its contract: header, grid rows, and the lent words, one behind the other. Assumes nothing.
use mathlib.Core.Path.{◌≡◌, ap, ◌∙◌, subst}
use mathlib.Core.List.{List}
use Prim.Native.Nat.{ℕ, ◌+◌, ◌≤◌}
use native.Mathlib.Omega.{arith}
use lib.ListN.{length}
use Rattle.grid.specs.Grid.{board_refusal, grid_rows}
use Rattle.grid.specs.Code.{board_of}
use Rattle.keys.specs.Keys.{header, body_from}
use Rattle.key_header.specs.Answers.{header_written}
use Rattle.key_header.proofs.Lengths.{header_for}
use Rattle.writer.specs.Written.{Wrote}
use Rattle.deal_keys.proofs.KeyBytes.{front_parts, front_wrote}
use Rattle.deal_keys.proofs.put_front.Goals as goal
use Rattle.deal_keys.proofs.put_front.Goals.{Start, After-of}

-- the front has room for its parts
long : (s : Start) → let a = s.args in let d = a.dealing.now in let b = board_of d.board in
    a.at + (length (header b a.player) + length (body_from (grid_rows b) b a.player d.arrays.now d.seeds.now) + length d.words.now) ≤ length a.out.now
long s =
    let a = s.args in
    let d = a.dealing.now in
    omega (arith, s.requires.1, front_parts (board_of d.board) a.player d.arrays.now d.seeds.now d.words.now)

-- the header that is written is the board's and the player's
own : (c : After-of) → header_written c.of.result ≡ header (board_of c.args.dealing.now.board) c.args.player
own c = header_for _ _ _ c.of.ensures.board c.of.ensures.player

pub returns : goal.returns
returns c =
    let a = c.args in
    let d = a.dealing.now in
    let p = c.put_header-next in
    let head = subst (λ (bs : List ℕ). Wrote a.at bs p.result a.out.now p.new.out) (own (goal.at.returns c).After-of) p.ensures in
    front_wrote (board_of d.board) a.player d.arrays.now d.seeds.now d.words.now c.requires.1 head c.put_grid_rows-next.ensures c.put.ensures

pub put_header-next-requires : goal.put_header-next-requires
put_header-next-requires c =
    let at = goal.at.put_header-next-requires c in (
      ap board_refusal c.of.ensures.board ∙ c.args.dealing.now.board.accepted,
      omega (arith, c.of.ensures.player, c.requires.0),
      omega (arith, long at.Start, ap length (own at.After-of)),
    )

pub put_grid_rows-next-requires : goal.put_grid_rows-next-requires
put_grid_rows-next-requires c =
    let at = goal.at.put_grid_rows-next-requires c in
    let p = c.put_header-next in
    omega (arith, long at.Start, ap length (own at.After-of), p.ensures.next_is, p.auto.out)

pub put-requires : goal.put-requires
put-requires c =
    let at = goal.at.put-requires c in
    let p = c.put_header-next in
    let q = c.put_grid_rows-next in
    omega (arith, long at.Start, ap length (own at.After-of), p.ensures.next_is, p.auto.out, q.ensures.next_is, q.auto.out)
