-- THE THIRD DEMAND of specs/Demand3.antt, kept: the terms are those of the crates grid and keys. Assumes nothing.
use Rattle.grid.proofs.Arrays.{one_row_unheld}
use Rattle.grid.proofs.Hiding.{tells_nothing, just_one_dealing, no_other_dealing, moved_is_named, moving_finds}
use Rattle.keys.proofs.Promise.{table_long, opens_alone, keys_open, tables_join, full_tables_join}
use Rattle.keys.proofs.Promise.{accepted_is_drawn, held_is_read, same_keys, same_keys_for_others, keys_tell_nothing}
use Rattle.promises.specs.Demand3.{ExpansionIsARule, Demand3}
use Rattle.call_answers.proofs.OwnTable.{expansion}

pub expansion_is_a_rule : ExpansionIsARule
unfolding ExpansionIsARule
expansion_is_a_rule = expansion

pub demand_3 : Demand3
demand_3 =
    record {
      tables_join = tables_join;
      full_tables_join = full_tables_join;
      table_long = table_long;
      expansion_is_a_rule = expansion_is_a_rule;
      opens_alone = opens_alone;
      keys_open = keys_open;
      tells_nothing = tells_nothing;
      just_one_dealing = just_one_dealing;
      moved_is_named = moved_is_named;
      moving_finds = moving_finds;
      no_other_dealing = no_other_dealing;
      one_row_unheld = one_row_unheld;
      accepted_is_drawn = accepted_is_drawn;
      held_is_read = held_is_read;
      same_keys = same_keys;
      same_keys_for_others = same_keys_for_others;
      keys_tell_nothing = keys_tell_nothing;
    }
