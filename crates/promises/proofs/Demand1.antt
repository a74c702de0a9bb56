-- THE FIRST DEMAND of specs/Demand1.antt, kept: the terms are those of Calls.antt. Assumes nothing.
use Rattle.promises.specs.Demand1.{Demand1}
use Rattle.promises.proofs.Calls.{refused_leaves, answered_keeps}

pub demand_1 : Demand1
demand_1 =
    record {
      refused_leaves = refused_leaves;
      answered_keeps = answered_keeps;
    }
