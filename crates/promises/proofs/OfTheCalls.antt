-- WHAT IS PROMISED OF THE CALLS of specs/OfTheCalls.antt, kept: the terms are those of Calls.antt. Assumes nothing.
use Rattle.promises.specs.OfTheCalls.{OfTheCalls}
use Rattle.promises.proofs.Calls.{deals_open, deals_drawn, accepted_opens, opens_agree, joins_agree}

pub of_the_calls : OfTheCalls
of_the_calls =
    record {
      deals_open = deals_open;
      deals_drawn = deals_drawn;
      accepted_opens = accepted_opens;
      opens_agree = opens_agree;
      joins_agree = joins_agree;
    }
