-- The refusals of Join shares, to a width of 16, and of Choose width, for value bytes of 1 to 16, are document 03's text.
-- Assumes nothing.
use mathlib.Core.Path.{◌≡◌}
use mathlib.Core.Bool.{true}
use native.Mathlib.Omega.{arith}
use borrow.Author.Tests.{le-leb}
use lib.Dec.{leb}
use Rattle.call_answers.specs.Answers.{shares_refusal, width_refusal}
use Rattle.call_answers.specs.AsWritten.{shares_written, width_written, SameCallRefusals}

pub same_call_refusals : SameCallRefusals
unfolding shares_written width_written shares_refusal width_refusal
same_call_refusals =
    record {
      shares = λ p w long room narrow.
          let here : leb w 16 ≡ true = le-leb w 16 narrow in
          let wide : leb w 256 ≡ true = le-leb w 256 (omega arith) in
          rw (here, wide);
      width = λ p n w some narrow. rw (le-leb 1 w some, le-leb w 16 narrow);
    }
