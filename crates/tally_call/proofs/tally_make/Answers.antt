-- `tally_call::tally_make` meets its contract. Assumes nothing.
use mathlib.Core.Path.{◌≡◌, sym, ◌∙◌}
use Rattle.std.proofs.Common.{rules, Err}
use Rattle.tally.specs.Tallies.{MakeSays}
use Rattle.tally.proofs.Numbers.{tally_lent}
use Rattle.call_answers.proofs.Answering.{put_err}
use Rattle.tally_call.proofs.Saying.{made}
use Rattle.tally_call.proofs.tally_make.Goals as goal

pub returns-in_err-refusal : goal.returns-in_err-refusal
unfolding MakeSays
returns-in_err-refusal c =
    let is : c.from_residual.result ≡ Err c.in_err-refusal.field-0.0 = search rules in
    rw is (put_err _ _ c.in_err-refusal.ensures _ _)

pub slice_bounds-fill-end : goal.slice_bounds-fill-end
slice_bounds-fill-end c = (tally_lent _ _ _ c.table_length.ensures c.in_ok-refusal.ensures).0

pub slice_bounds-fill-end-2 : goal.slice_bounds-fill-end-2
slice_bounds-fill-end-2 c = sym (tally_lent _ _ _ c.table_length.ensures c.in_ok-refusal.ensures).1

pub returns : goal.returns
returns c =
    let none = c.in_ok-refusal.ensures in
    made c.args.tally _ none _ _ (c.fill.ensures.after (λ y same. same))
    (c.fill.ensures.len ∙ (tally_lent _ _ _ c.table_length.ensures none).1) c.table_length.ensures
