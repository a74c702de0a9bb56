-- `program_deal::deal_parts` meets its contract: the parts are cut one behind another. Assumes nothing.
use mathlib.Core.Path.{◌≡◌, refl}
use native.Mathlib.Omega.{arith}
use Rattle.std.proofs.Common.{Ok, Err, rules}
use Rattle.refusal.specs.Refusing.{answer_number}
use Rattle.grid.specs.Grid.{board}
use Rattle.grid.specs.Code.{board_of}
use Rattle.dealing.specs.Refused.{refused_number}
use Rattle.keys.specs.Keys.{lent}
use Rattle.program_deal.specs.Dealing.{lent_in}
use Rattle.program_deal.proofs.Dealings.{parts_within, cut, deal_cut}
use Rattle.program_deal.proofs.deal_parts.Goals as goal
use Rattle.program_deal.proofs.deal_parts.Goals.{After-deal}

pub split_at-requires : goal.split_at-requires
unfolding board
split_at-requires c = omega (arith, parts_within (board_of c.args.board) c.args.rest.now c.requires)

pub split_at-requires-2 : goal.split_at-requires-2
unfolding board
split_at-requires-2 c =
    omega (arith, parts_within (board_of c.args.board) c.args.rest.now c.requires, c.arrays_length.ensures, c.split_at.ensures.back_len)

pub split_at-requires-3 : goal.split_at-requires-3
unfolding board
split_at-requires-3 c =
    omega (
      arith,
      parts_within (board_of c.args.board) c.args.rest.now c.requires,
      c.arrays_length.ensures,
      c.seeds_length.ensures,
      c.split_at.ensures.back_len,
      c.split_at-2.ensures.back_len,
    )

-- the parts that Deal is given are those that stand in the input
abbrev parts : (c : After-deal) →
    let a = c.args in
    lent a.point c.split_at.result.0.now c.split_at-2.result.0.now c.split_at-3.result.0.now c.split_at-3.result.1.now
    ≡ lent_in (board_of a.board) a.point a.rest.now
unfolding board
parts c =
    let one = c.split_at.ensures in
    let two = c.split_at-2.ensures in
    let three = c.split_at-3.ensures in
    cut (board_of c.args.board) c.args.point c.arrays_length.result c.seeds_length.result c.args.rest.now c.arrays_length.ensures c.seeds_length.ensures
    one.front one.back two.front two.back three.front three.back

pub returns : goal.returns
unfolding board
returns c =
    let a = c.args in
    deal_cut (board_of a.board) a.point a.rest.now _ _ _ _ (Ok c.in_ok-deal.field-0) _ a.keys.now c.deal.new.keys (parts (goal.at.returns c).After-deal)
    c.in_ok-deal.ensures refl

pub returns-in_err-deal : goal.returns-in_err-deal
unfolding board
returns-in_err-deal c =
    let a = c.args in
    let number : answer_number c.from_residual.result ≡ refused_number c.in_err-deal.field-0.0 = search rules in
    deal_cut (board_of a.board) a.point a.rest.now _ _ _ _ (Err c.in_err-deal.field-0.0) _ a.keys.now c.deal.new.keys
    (parts (goal.at.returns-in_err-deal c).After-deal) c.in_err-deal.ensures number
