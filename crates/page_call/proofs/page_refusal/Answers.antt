-- `page_call::page_refusal` meets its contract: 4 is the number of a width out of range, 9 where the output is shorter than the page. Assumes nothing.
-- The check finds this alone; it stands here so that the edits page_7_and_4_swapped, page_of_a_longer_table and page_room_of_one_more are refused
-- with numbers and not where a search gives up.
use native.Mathlib.Omega.{arith}
use Rattle.grid.proofs.Refusing.{passed, failed}
use Rattle.call_answers.proofs.Paging.{page_4, page_9}
use Rattle.page_call.proofs.page_refusal.Goals as goal

pub returns-then-not-value_bytes_fit : goal.returns-then-not-value_bytes_fit
returns-then-not-value_bytes_fit c =
    page_4 _ _ _ _ (passed c.positions_fit.ensures c.if-not-positions_fit.false) (failed c.value_bytes_fit.ensures c.if-not-value_bytes_fit.true)

pub returns-then-room-page_length : goal.returns-then-room-page_length
returns-then-room-page_length c =
    page_9 _ _ _ _ (passed c.positions_fit.ensures c.if-not-positions_fit.false) (passed c.value_bytes_fit.ensures c.if-not-value_bytes_fit.false)
    (omega (arith, c.if-table-entries)) (omega (arith, c.page_length.ensures, c.if-room-page_length.true))
