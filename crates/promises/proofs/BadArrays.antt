-- WHAT IS WRONG WITH ARRAYS of specs/BadArrays.antt, kept: the terms are those of the crates grid and call_answers. Assumes nothing.
use native.Mathlib.Omega.{arith}
use Rattle.grid.proofs.Faults.{fault_where_bad, place_is_first}
use Rattle.call_answers.proofs.Telling.{told_apart, answers_told_apart, never_given, no_place, two_numbers, first_told, none_missed}
use Rattle.promises.specs.BadArrays.{DealsFirstFault, BadArrays}

deals_first_fault : DealsFirstFault
unfolding DealsFirstFault
deals_first_fault p n m w a v cs ss ws r o z tells =
    record {
      never_8 = never_given p n m w a v cs ss ws r o z tells _ (omega arith) (omega arith) (λ e. omega arith);
      two_numbers = two_numbers p n m w a v cs ss ws r o z tells;
      first = first_told p n m w a v cs ss ws r o z tells;
      no_place = no_place p n m w a v cs ss ws r o z tells;
      none_missed = none_missed p n m w a v cs ss ws r o z tells _ (omega arith) (omega arith);
    }

pub bad_arrays : BadArrays
bad_arrays =
    record {
      fault_where_bad = fault_where_bad;
      place_is_first = place_is_first;
      deals_first_fault = deals_first_fault;
      told_apart = told_apart;
      answers_told_apart = answers_told_apart;
    }
