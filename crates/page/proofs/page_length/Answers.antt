-- `page::page_length` meets its contract. Assumes nothing.
use native.Mathlib.Nat.{mul-le-mul}
use native.Mathlib.Omega.{arith}
use Prim.Native.Nat.{◌+◌, ◌*◌, ◌≤◌}
use Rattle.page.proofs.Laws.{lines_few, page_length_is}
use Rattle.page.proofs.page_length.Goals as goal

pub returns : goal.returns
returns c =
    let s = c.args in
    page_length_is s.positions s.value_bytes c.page_lines.ensures c.cell_length.ensures

pub overflow_mul-result-2 : goal.overflow_mul-result-2
overflow_mul-result-2 c =
    let few = lines_few c.args.positions (omega arith) in
    let lines : c.page_lines.result ≤ 8192 = omega arith in
    let long : 6 + 8 * c.cell_length.result ≤ 270 = omega arith in
    omega (arith, mul-le-mul lines long)
