-- Hiding: with rows freely drawn, whichever player is left out, whatever point, value and chosen rows are named, just one dealing has these
-- and gives everybody else the same. The two halves are `moved_is_named`, that there is one, namely `moved`, and `no_other_dealing`. They rest
-- on laws over arrays, rows and words alone, for any special grid row and any row that the words make there: `another_drawn`,
-- `another_looks_same`, `another_chosen` and `needed_completes` for the first half, `drawn_alike` for the second. Assumes nothing.
use mathlib.Core.Path.{◌≡◌, refl, sym, ap, ◌∙◌, subst}
use mathlib.Core.Bool.{true}
use mathlib.Core.List.{List}
use Prim.Native.Nat.{ℕ, ◌/◌, ◌<◌}
use lib.Dec.{eqb}
use lib.ListN.{length}
use Rattle.xor.specs.Xor.{bytes_good}
use Rattle.xor.proofs.Laws.{Word}
use Rattle.grid.specs.Grid.{Board, grid_rows, row_long, Dealing, column, row_of, piece, last_word, dealing_good, other_marks, unheld}
use Rattle.grid.specs.Arrays.{unheld_column}
use Rattle.grid.specs.Joining.{completing}
use Rattle.grid.specs.Moving.{mended_arrays, chosen_but, row_needed, moved_rows, moved, MovedIsNamed, MovingFinds}
use Rattle.grid.specs.Hiding.{SameForOthers, Named, chosen_good, TellsNothing, chosen_good_elsewhere, JustOneDealing, NoOtherDealing}
use Rattle.grid.proofs.Arrays.{one_unheld}
use Rattle.grid.proofs.Cells.{piece_word}
use Rattle.grid.proofs.Columns.{mended_alone}
use Rattle.grid.proofs.Facts.{Facts, facts, dealing_accepted, grid_row_in}
use Rattle.grid.proofs.Holding.{LooksSame, same_words, looks_same, same_for_others}
use Rattle.grid.proofs.LastWord.{last_word_is, last_word_word}
use Rattle.grid.proofs.Mending.{arrays_fixed, mended_at, mended_in, mended_marks}
use Rattle.grid.proofs.Refilling.{Drawn, rows_fixed, refilled_alone, refilled_held, chosen_elsewhere, Change, moved_rows_in, needed_completes}

-- ARRAYS, ROWS AND WORDS, for any special grid row and any row that the words make there

-- THERE IS NO OTHER: what the others have, the words and the chosen rows fix arrays and rows
pub drawn_alike : {b : Board} {special : ℕ} {made cs ds : List ℕ} {rs ss ws : List (List ℕ)} (i : ℕ) → i < b.p
    → Drawn b special made cs rs ws → Drawn b special made ds ss ws → LooksSame b i cs rs ds ss
    → completing b rs ws special made ≡ completing b ss ws special made
    → ((g : ℕ) → g < grid_rows b → (g ≡ special → ⊥) → row_of b rs g (unheld_column b i cs g) ≡ row_of b ss g (unheld_column b i ds g))
    → (cs ≡ ds) × (rs ≡ ss)
drawn_alike {b} {special} {made} {cs} {ds} {rs} {ss} {ws} i player x y same last chosen = (arrays, rows)
  where
    arrays : cs ≡ ds
    arrays = arrays_fixed b x.board i special cs ds x.arrays y.arrays same.marks

    rows : rs ≡ ss
    rows =
        rows_fixed i player x ss y.rows same.rows last
        (λ g l ne. subst (λ (es : List ℕ). row_of b rs g (unheld_column b i cs g) ≡ row_of b ss g (unheld_column b i es g)) (sym arrays) (chosen g l ne))

-- THERE IS ONE: arrays mended for any special grid row, rows chosen elsewhere, and the row that is needed for the last word to stay
module _ {b : Board} {i old : ℕ} {before cs : List ℕ} {rs ws : List (List ℕ)} {special : ℕ} {made last : List ℕ} {c : ℕ → List ℕ}
    (x : Change b i old before cs rs ws special made last c) where
  pub another_drawn : Drawn b special made (mended_arrays b i special cs) (moved_rows b i special made last c cs rs ws) ws
  another_drawn =
      record {
        board = x.drawn.board;
        inside = x.inside;
        made_word = x.made_word;
        arrays = mended_in b x.drawn.board i x.player old special cs x.drawn.arrays;
        rows = moved_rows_in x;
        words = x.drawn.words;
      }

  pub another_looks_same : LooksSame b i cs rs (mended_arrays b i special cs) (moved_rows b i special made last c cs rs ws)
  unfolding moved_rows
  another_looks_same =
      record {
        marks = λ k l ne. mended_marks b i special cs k ne;
        rows = λ k l ne. refilled_held b i cs rs (chosen_but special (row_needed b i special made last c cs rs ws) c) k ne;
      }

  pub another_chosen : (g : ℕ) → g < grid_rows b → (g ≡ special → ⊥)
      → row_of b (moved_rows b i special made last c cs rs ws) g (unheld_column b i (mended_arrays b i special cs) g) ≡ c g
  unfolding moved_rows
  another_chosen g l ne =
      let u = unheld_column b i (mended_arrays b i special cs) g in
      let one = one_unheld b x.drawn.board i x.player special (mended_arrays b i special cs) another_drawn.arrays g l in
      let row = row_needed b i special made last c cs rs ws in
      let alone : other_marks (column b cs g u) i ≡ 0 =
      sym (mended_alone (eqb g special) (column b cs g u) i)
      ∙ ap (λ (v : ℕ). other_marks v i) (sym (mended_at b i special cs g u l one.within)) ∙ one.alone in
      refilled_alone b i cs rs (chosen_but special row c) g u l one.within alone ∙ chosen_elsewhere special row c g ne

-- DEALINGS

pub drawn : (b : Board) (d : Dealing) → Facts b d → Drawn b (d.point / b.wide) (piece b d.point d.value) d.arrays d.rows d.words
drawn b d f =
    record {
      board = f.board;
      inside = grid_row_in b f.board d.point f.point_in;
      made_word = piece_word b f.board d.point d.value f.value;
      arrays = f.arrays;
      rows = f.rows;
      words = f.words;
    }

-- THE FIRST HALF: the dealing that hiding finds has the named point, value and chosen rows, and everybody else holds the same

module _ (b : Board) (i : ℕ) (d : Dealing) (point : ℕ) (value : List ℕ) (c : ℕ → List ℕ) (good : dealing_good b d ≡ true) (player : i < b.p)
    (at : point < b.n) (v : Word b.w value) (chosen : chosen_good_elsewhere b point c) where
  change : Change b i (d.point / b.wide) (piece b d.point d.value) d.arrays d.rows d.words (point / b.wide) (piece b point value) (last_word b d) c
  unfolding chosen_good_elsewhere
  change =
      let f = facts b d good in
      record {
        player = player;
        drawn = drawn b d f;
        inside = grid_row_in b f.board point at;
        made_word = piece_word b f.board point value v;
        last_word = last_word_word b d f;
        chosen = λ g l ne. record { long = (chosen g l ne).0; good = (chosen g l ne).1 };
      }

  moved_facts : Facts b (moved b i d point value c)
  unfolding moved
  moved_facts =
      let new = another_drawn change in
      record { board = new.board; point_in = at; value = v; arrays = new.arrays; rows = new.rows; words = new.words }

  last_stays : last_word b (moved b i d point value c) ≡ last_word b d
  unfolding moved
  last_stays = last_word_is b (moved b i d point value c) ∙ needed_completes change

  moved_named : Named b i d point value c (moved b i d point value c)
  unfolding moved unheld
  moved_named =
      record {
        good = dealing_accepted b (moved b i d point value c) moved_facts;
        point_is = refl;
        value_is = refl;
        rows_are = another_chosen change;
        others = same_for_others b i d (moved b i d point value c) (facts b d good) moved_facts (another_looks_same change) refl (sym last_stays);
      }

pub moved_is_named : MovedIsNamed
unfolding MovedIsNamed
moved_is_named b i point d value c good player at long bytes chosen =
    moved_named b i d point value c good player at (record { long = long; good = bytes }) chosen

-- THE SECOND HALF: two good dealings of one point, one value and the same chosen rows, that give everybody else the same, are equal

dealing_is : {a o : ℕ} {v u : List ℕ} {cs ds : List ℕ} {rs ss ws vs : List (List ℕ)} → a ≡ o → v ≡ u → cs ≡ ds → rs ≡ ss → ws ≡ vs
    → ◌≡◌ {A = Dealing} (record { point = a; value = v; arrays = cs; rows = rs; words = ws }) (record { point = o; value = u; arrays = ds; rows = ss; words = vs })
dealing_is p q r s t = cc

pub no_other_dealing : NoOtherDealing
unfolding NoOtherDealing unheld
no_other_dealing b i d e good other player points values same chosen =
    let f = facts b d good in
    let h = facts b e other in
    let special = d.point / b.wide in
    let made = piece b d.point d.value in
    let words = (same_words b i d e f h same).0 in
    let last = (same_words b i d e f h same).1 in
    let at_point = subst (λ (a : ℕ). Drawn b (a / b.wide) (piece b a e.value) e.arrays e.rows e.words) (sym points) (drawn b e h) in
    let at_value = subst (λ (v : List ℕ). Drawn b special (piece b d.point v) e.arrays e.rows e.words) (sym values) at_point in
    let new : Drawn b special made e.arrays e.rows d.words = subst (λ (ws : List (List ℕ)). Drawn b special made e.arrays e.rows ws) (sym words) at_value in
    let completes : completing b d.rows d.words special made ≡ completing b e.rows d.words special made =
    cc (last_word_is b d, last_word_is b e) in
    let parts = drawn_alike i player (drawn b d f) new (looks_same b i d e f h same) completes chosen in
    dealing_is points values parts.0 parts.1 words

-- so what is named, named twice, is one dealing
pub named_alike : (b : Board) (i : ℕ) (d : Dealing) (point : ℕ) (value : List ℕ) (c : ℕ → List ℕ) (e other : Dealing) → i < b.p
    → Named b i d point value c e → Named b i d point value c other → other ≡ e
unfolding SameForOthers NoOtherDealing
named_alike b i d point value c e other player x y =
    no_other_dealing b i other e y.good x.good player (y.point_is ∙ sym x.point_is) (y.value_is ∙ sym x.value_is)
    (λ k l ne. sym (y.others k l ne) ∙ x.others k l ne) (λ g l ne. y.rows_are g l (elsewhere g ne) ∙ sym (x.rows_are g l (elsewhere g ne)))
  where
    elsewhere : (g : ℕ) → (g ≡ other.point / b.wide → ⊥) → g ≡ point / b.wide → ⊥
    elsewhere g ne z = ne (z ∙ ap (λ (a : ℕ). a / b.wide) (sym y.point_is))

-- THE THEOREM

pub just_one_dealing : JustOneDealing
unfolding JustOneDealing MovedIsNamed
just_one_dealing b i point d value c good player at long bytes chosen =
    let named = moved_is_named b i point d value c good player at long bytes chosen in
    (moved b i d point value c, named, λ other h. named_alike b i d point value c (moved b i d point value c) other player named h)

-- document 03's statement, which asks good chosen rows everywhere
pub tells_nothing : TellsNothing
unfolding TellsNothing JustOneDealing chosen_good chosen_good_elsewhere
tells_nothing b i point d value c good player at long bytes chosen =
    just_one_dealing b i point d value c good player at long bytes (λ g l ne. chosen g)

-- TURNED ROUND: a good dealing is named by its own point, value and unheld rows

pub moving_finds : MovingFinds
unfolding MovingFinds unheld chosen_good_elsewhere
moving_finds b i d e c good other player same chosen =
    let f = facts b e other in
    let own : Named b i d e.point e.value c e =
    record { good = other; point_is = refl; value_is = refl; rows_are = chosen; others = same } in
    named_alike b i d e.point e.value c e (moved b i d e.point e.value c) player own
    (moved_named b i d e.point e.value c good player f.point_in f.value (λ g l ne. row_good g l (chosen g l ne)))
  where
    row_good : (g : ℕ) → g < grid_rows b → unheld b e i g ≡ c g → (length (c g) ≡ row_long b) × (bytes_good (c g) ≡ true)
    row_good g l q =
        let f = facts b e other in
        let one = one_unheld b f.board i player (e.point / b.wide) e.arrays f.arrays g l in
        let row = f.rows.each g (unheld_column b i e.arrays g) l one.within in
        let word : Word (row_long b) (c g) = subst (λ (x : List ℕ). Word (row_long b) x) q row in
        (word.long, word.good)
