-- `page_call::write_page` meets its contract. Assumes nothing.
use mathlib.Core.Path.{sym, ◌∙◌}
use Prim.Native.Nat.{◌≤◌}
use native.Mathlib.Omega.{arith}
use lib.ListN.{length}
use borrow.Author.Rules.{rules}
use Rattle.writer.proofs.Laws.{written_front}
use Rattle.page.specs.Page.{page, page_long, Pageable}
use Rattle.page.proofs.Laws.{page_is_so_long, page_most}
use Rattle.call_answers.proofs.Paging.{page_fits, page_refused, page_given}
use Rattle.page_call.proofs.write_page.Goals as goal
use Rattle.page_call.proofs.write_page.Goals.{In_ok-page_refusal}

-- what is known where nothing refuses
fit : (c : In_ok-page_refusal) → let a = c.args in
    Pageable a.positions a.value_bytes a.table.now × (page_long a.positions a.value_bytes ≤ length a.output.now)
fit c =
    let a = c.args in
    page_fits a.positions a.value_bytes (length a.output.now) a.table.now (sym c.in_ok-page_refusal.ensures)

pub returns-in_err-page_refusal : goal.returns-in_err-page_refusal
returns-in_err-page_refusal c = search (rules, page_refused)

pub put_page-written-requires : goal.put_page-written-requires
put_page-written-requires c = fit (goal.at.put_page-written-requires c).In_ok-page_refusal

pub overflow_cast-result : goal.overflow_cast-result
overflow_cast-result c =
    let put = c.put_page-written.ensures in
    let a = c.args in
    let fits = (fit (goal.at.overflow_cast-result c).In_ok-page_refusal).0 in
    let most = page_most a.positions a.value_bytes fits.positions_few fits.bytes_few in
    omega (arith, put.next_is, page_is_so_long a.positions a.value_bytes a.table.now fits)

pub returns : goal.returns
returns c =
    let put = c.put_page-written.ensures in
    let a = c.args in
    let fits = (fit (goal.at.returns c).In_ok-page_refusal).0 in
    let text = page a.positions a.value_bytes a.table.now in
    page_given _ _ _ _ _ _ (sym c.in_ok-page_refusal.ensures)
    (omega (arith, put.next_is, page_is_so_long a.positions a.value_bytes a.table.now fits)) (put.now_is ∙ written_front text a.output.now)
