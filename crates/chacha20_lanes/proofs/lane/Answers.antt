-- `chacha20_lanes::lane` meets its contract. Word by word as the definition has it. Assumes nothing.
use Rattle.std.proofs.Common.{rules}
use Rattle.chacha20_lanes.proofs.Places.{all_taken}
use Rattle.chacha20_lanes.proofs.lane.Goals as goal

pub returns : goal.returns
returns c =
    let items = c.from_fn.ensures.items in
    all_taken c.args.l c.from_fn.result c.args.states.now items.long (λ v h. let call = items.at v 0 h in search rules)
