-- `nosingginger_c::key::nsg_held_seed` meets its contract: the place is the operation's, and the seed stands there. Assumes nothing.
use mathlib.Core.Path.{◌∙◌}
use Rattle.xor.proofs.Laws.{good_by_entries}
use Rattle.nosingginger_c.proofs.Pointers.{held_told, told_place}
use Rattle.nosingginger_c.proofs.key.nsg_held_seed.Goals as goal

pub returns : goal.returns
returns c =
    held_told c.args.key.now _ _ _ (good_by_entries c.args.key.now (λ i _. (c.type_inv.key i).fits))
    (c.unwrap_or.ensures ∙ told_place c.held_seed_place.result ∙ c.held_seed_place.ensures.place)
