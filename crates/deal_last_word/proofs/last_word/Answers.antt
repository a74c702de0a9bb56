-- `deal_last_word::last_word` meets its contract: piece, words, rows. Assumes nothing.
use mathlib.Core.Path.{◌≡◌, refl, ◌∙◌}
use Prim.Native.Nat.{ℕ, ◌+◌, ◌*◌, ◌/◌, ◌%◌, ◌≤◌}
use native.Mathlib.Omega.{arith}
use lib.ListN.{length}
use Rattle.xor.proofs.Laws.{good_by_entries}
use Rattle.grid.specs.Grid.{board, columns}
use Rattle.grid.specs.Code.{board_of}
use Rattle.grid.proofs.Facts.{board_in}
use Rattle.grid.proofs.Sizes.{row_most}
use Rattle.deal_last_word.proofs.LastWord.{cell_room, row_pos, seeds_room, word_steps}
use borrow.Author.Rules.{rules}
use Rattle.deal_last_word.proofs.last_word.Goals as goal
use Rattle.deal_last_word.proofs.last_word.Goals.{Start}

-- the value's cell lies in the word
cell_there : (s : Start) → let a = s.args in a.point % a.board.width * a.board.value_bytes + length a.value.now ≤ length a.out.now
unfolding board
cell_there s =
    let a = s.args in
    let b = board_of a.board in
    omega (arith, s.requires.4, cell_room b (board_in b a.board.accepted) a.point a.value.now a.seeds.now a.words.now s.requires.0 s.requires.1)

-- a word has at most 4,096 bytes
word_small : (s : Start) → length s.args.out.now ≤ 4096
word_small s =
    let b = board_of s.args.board in
    omega (arith, s.requires.4, row_most b (board_in b s.args.board.accepted))

-- all seeds of the point's grid row are there
seeds_there : (s : Start) (J : ℕ) → let a = s.args in J ≡ columns (board_of a.board) → 32 * (a.point / a.board.width * J) + 32 * J ≤ length a.seeds.now
unfolding board
seeds_there s J e =
    let a = s.args in
    let b = board_of a.board in
    rw e (omega (arith, s.requires.2, seeds_room b (board_in b a.board.accepted) a.point a.value.now a.seeds.now a.words.now s.requires.0 s.requires.1))

pub nonzero_rem-cell : goal.nonzero_rem-cell
unfolding board
nonzero_rem-cell c = omega (arith, (board_in (board_of c.args.board) c.args.board.accepted).wide_least)

pub overflow_mul-cell : goal.overflow_mul-cell
overflow_mul-cell c = omega (arith, cell_there (goal.at.overflow_mul-cell c).Start, word_small (goal.at.overflow_mul-cell c).Start)

pub put_piece-requires : goal.put_piece-requires
put_piece-requires c = cell_there (goal.at.put_piece-requires c).Start

pub xor_words-requires : goal.xor_words-requires
unfolding board
xor_words-requires c =
    let a = c.args in
    let b = board_of a.board in
    omega (arith, c.requires.4, c.put_piece.auto.out, row_pos b (board_in b a.board.accepted) a.point a.value.now a.seeds.now a.words.now c.requires.0 c.requires.1)

pub nonzero_div-from : goal.nonzero_div-from
unfolding board
nonzero_div-from c = omega (arith, (board_in (board_of c.args.board) c.args.board.accepted).wide_least)

pub overflow_mul-from : goal.overflow_mul-from
overflow_mul-from c = omega (arith, seeds_there (goal.at.overflow_mul-from c).Start c.columns-columns.result c.columns-columns.ensures)

pub overflow_mul-from-2 : goal.overflow_mul-from-2
overflow_mul-from-2 c = omega (arith, seeds_there (goal.at.overflow_mul-from-2 c).Start c.columns-columns.result c.columns-columns.ensures)

pub overflow_mul-end : goal.overflow_mul-end
overflow_mul-end c = omega (arith, seeds_there (goal.at.overflow_mul-end c).Start c.columns-columns.result c.columns-columns.ensures)

pub overflow_add-end : goal.overflow_add-end
overflow_add-end c = omega (arith, seeds_there (goal.at.overflow_add-end c).Start c.columns-columns.result c.columns-columns.ensures)

pub slice_bounds-xor_rows-end : goal.slice_bounds-xor_rows-end
slice_bounds-xor_rows-end c = omega (arith, seeds_there (goal.at.slice_bounds-xor_rows-end c).Start c.columns-columns.result c.columns-columns.ensures)

pub xor_rows-requires : goal.xor_rows-requires
xor_rows-requires c = omega (arith, word_small (goal.at.xor_rows-requires c).Start, c.xor_words.auto.out, c.put_piece.auto.out)

pub returns : goal.returns
unfolding board
returns c =
    let a = c.args in
    let b = board_of a.board in
    let J = c.columns-columns in
    let piece_made = c.put_piece in
    let words_in = c.xor_words in
    let long = words_in.auto.out ∙ piece_made.auto.out in
    word_steps b (board_in b a.board.accepted) a.point a.value.now a.seeds.now a.words.now c.requires.0 c.requires.1 _ _ _ J.result c.requires.4
    (piece_made.auto.out ∙ c.requires.4) (long ∙ c.requires.4) J.ensures c.requires.3 piece_made.ensures words_in.ensures
    (seeds_there (goal.at.returns c).Start J.result J.ensures) refl (good_by_entries _ (λ i within. search rules)) c.xor_rows.ensures
