-- The marked deals of document 01, computed by the checker: one test over the whole table. Assumes nothing.
use mathlib.Core.Path.{refl}
use Rattle.xor.specs.Xor.{xor_from, xors, zeros, bytes_good}
use Rattle.grid.specs.Grid.{board, columns, grid_rows, row_long, board_refusal, bit, column, row_of, piece, xor_rows, xor_all, last_word, all_words, cell, share_from, share, ones, is_odd, same_parity, member, array_good, arrays_good, each_long, dealing_good}
use Rattle.keys.specs.Keys.{groups, number_bytes, header, key_long, mark_bytes, packed_from, packed}
use Rattle.key_width.specs.Width.{better, shortest, width}
use Rattle.call_answers.specs.Answers.{width_refusal}
use Rattle.promises.specs.Daggers.{same, all_same, kind, three, marks_packed, two, drawn, shares, width_answer, length_answer, table, DaggerLines}

pub dagger_lines : DaggerLines
unfolding DaggerLines all_same same table kind three marks_packed two drawn shares width_answer length_answer width_refusal
    xor_from xors zeros bytes_good
    board columns grid_rows row_long board_refusal bit column row_of piece xor_rows xor_all last_word all_words cell share_from share
    ones is_odd same_parity member array_good arrays_good each_long dealing_good
    groups number_bytes header key_long mark_bytes packed_from packed better shortest width
dagger_lines = refl
