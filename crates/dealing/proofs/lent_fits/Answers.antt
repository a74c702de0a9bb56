-- `dealing::lent_fits` meets its contract. Assumes nothing.
use Rattle.std.proofs.Common.{◌≡◌, ℕ, refl, ◌∙◌, Bool, true, false, ◌&&◌}
use lib.Dec.{eqb}
use Rattle.grid.specs.Grid.{Board, board, arrays_long, seeds_long, words_long}
use Rattle.grid.specs.Code.{board_of}
use Rattle.keys.specs.Keys.{lent_fits}
use Rattle.dealing.proofs.lent_fits.Goals as goal

two_and_two : (v a s w : Bool) → (v && (a && (s && (w && true)))) ≡ ((v && a) && (s && w))
two_and_two false a s w = refl
two_and_two true false s w = refl
two_and_two true true false w = refl
two_and_two true true true false = refl
two_and_two true true true true = refl

each_asked : (b : Board) (v cs ss ws : ℕ) {arrays seeds words : ℕ} → arrays ≡ arrays_long b → seeds ≡ seeds_long b → words ≡ words_long b →
    (eqb v b.w && (eqb cs arrays && (eqb ss seeds && (eqb ws words && true)))) ≡ lent_fits b v cs ss ws
each_asked b v cs ss ws e f g = rw (e, f, g) (two_and_two (eqb v b.w) (eqb cs (arrays_long b)) (eqb ss (seeds_long b)) (eqb ws (words_long b)))

pub returns : goal.returns
unfolding board
returns c =
    let a = c.args in
    c.eq.ensures
    ∙ each_asked (board_of a.board) a.value a.arrays a.seeds a.words c.arrays_length.ensures c.seeds_length.ensures c.words_length.ensures
