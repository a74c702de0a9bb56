-- What the players hold, place by place: two dealings give a player the same marks and rows exactly where the player's marks are the same at
-- every place, and the rows are the same at every marked one. So two good dealings give everybody but player i the same exactly where they
-- look the same so, and have the same words. Assumes nothing.
use mathlib.Core.Path.{◌≡◌, refl, sym, ap, ◌∙◌, subst}
use mathlib.Core.Bool.{Bool, true, false, cond, true≢false}
use mathlib.Core.List.{List, [], ◌∷◌, ◌++◌}
use Prim.Native.Nat.{ℕ, zero, suc, ◌*◌, ◌≤◌, ◌<◌}
use native.Mathlib.Omega.{arith}
use lib.ListN.{length, get_or}
use Rattle.grid.specs.Grid.{Board, columns, grid_rows, bit, Dealing, last_word, all_words, Held, marks_of, held_rows, held}
use Rattle.grid.specs.Hiding.{SameForOthers}
use Rattle.grid.proofs.Facts.{Facts}

-- a player's marks are the same at every place
unfoldable pub SameMarks : (player long : ℕ) → (cs ds : List ℕ) → Type 0
SameMarks i n cs ds = (m : ℕ) → m < n → bit (get_or cs m 0) i ≡ bit (get_or ds m 0) i

-- the rows are the same at every place that a player marks
unfoldable pub SameHeld : (player long : ℕ) → (cs : List ℕ) → (rs ss : List (List ℕ)) → Type 0
SameHeld i n cs rs ss = (m : ℕ) → m < n → bit (get_or cs m 0) i ≡ true → get_or rs m [] ≡ get_or ss m []

-- MARKS

pub marks_alike : (i : ℕ) (cs ds : List ℕ) → length cs ≡ length ds → SameMarks i (length cs) cs ds → marks_of i cs ≡ marks_of i ds
unfolding marks_of SameMarks
marks_alike i [] [] e h = refl
marks_alike i [] (d ∷ ds) e h = let none : ⊥ = omega arith in absurd none
marks_alike i (c ∷ cs) [] e h = let none : ⊥ = omega arith in absurd none
marks_alike i (c ∷ cs) (d ∷ ds) e h =
    let first : bit c i ≡ bit d i = h 0 (omega arith) in
    let rest : marks_of i cs ≡ marks_of i ds = marks_alike i cs ds (omega arith) (λ m l. h (suc m) (omega arith)) in
    rw (first, rest)

mark_at : (i : ℕ) (cs : List ℕ) (m : ℕ) → m < length cs → get_or (marks_of i cs) m false ≡ bit (get_or cs m 0) i
unfolding marks_of
mark_at i [] m l = let none : ⊥ = omega arith in absurd none
mark_at i (c ∷ cs) zero l = refl
mark_at i (c ∷ cs) (suc m) l = mark_at i cs m (omega arith)

pub alike_marks : (i : ℕ) (cs ds : List ℕ) → length cs ≡ length ds → marks_of i cs ≡ marks_of i ds → SameMarks i (length cs) cs ds
unfolding SameMarks
alike_marks i cs ds e h m l =
    sym (mark_at i cs m l) ∙ ap (λ (ms : List Bool). get_or ms m false) h ∙ mark_at i ds m (rw (← e) l)

-- ROWS

pub held_alike : (i : ℕ) (cs ds : List ℕ) (rs ss : List (List ℕ)) → length cs ≡ length ds → length rs ≡ length cs → length ss ≡ length ds
    → SameMarks i (length cs) cs ds → SameHeld i (length cs) cs rs ss → held_rows i cs rs ≡ held_rows i ds ss
unfolding held_rows SameMarks SameHeld
held_alike i [] [] rs ss e f g h k = refl
held_alike i [] (d ∷ ds) rs ss e f g h k = let none : ⊥ = omega arith in absurd none
held_alike i (c ∷ cs) [] rs ss e f g h k = let none : ⊥ = omega arith in absurd none
held_alike i (c ∷ cs) (d ∷ ds) [] ss e f g h k = let none : ⊥ = omega arith in absurd none
held_alike i (c ∷ cs) (d ∷ ds) (r ∷ rs) [] e f g h k = let none : ⊥ = omega arith in absurd none
held_alike i (c ∷ cs) (d ∷ ds) (r ∷ rs) (s ∷ ss) e f g h k =
    let first : bit c i ≡ bit d i = h 0 (omega arith) in
    rw (← first)
    (go (bit c i) (k 0 (omega arith))
    (held_alike i cs ds rs ss (omega arith) (omega arith) (omega arith) (λ m l. h (suc m) (omega arith)) (λ m l. k (suc m) (omega arith))))
  where
    go : (t : Bool) → (t ≡ true → r ≡ s) → held_rows i cs rs ≡ held_rows i ds ss
        → cond t (r ∷ held_rows i cs rs) (held_rows i cs rs) ≡ cond t (s ∷ held_rows i ds ss) (held_rows i ds ss)
    go true q rest = rw (q refl, rest)
    go false q rest = rest

-- equal lists of held rows, with the same first mark, have the same first row where it is held, and the same rest
first_two : (t : Bool) (r s : List ℕ) (rs ss : List (List ℕ)) → cond t (r ∷ rs) rs ≡ cond t (s ∷ ss) ss → (t ≡ true → r ≡ s) × (rs ≡ ss)
first_two true r s rs ss h = (λ e. cc, cc)
first_two false r s rs ss h = (λ e. absurd (true≢false (sym e)), h)

pub alike_held : (i : ℕ) (cs ds : List ℕ) (rs ss : List (List ℕ)) → length cs ≡ length ds → length rs ≡ length cs → length ss ≡ length ds
    → SameMarks i (length cs) cs ds → held_rows i cs rs ≡ held_rows i ds ss → SameHeld i (length cs) cs rs ss
unfolding held_rows SameMarks SameHeld
alike_held i [] ds rs ss e f g h k m l t = let none : ⊥ = omega arith in absurd none
alike_held i (c ∷ cs) [] rs ss e f g h k m l t = let none : ⊥ = omega arith in absurd none
alike_held i (c ∷ cs) (d ∷ ds) [] ss e f g h k m l t = let none : ⊥ = omega arith in absurd none
alike_held i (c ∷ cs) (d ∷ ds) (r ∷ rs) [] e f g h k m l t = let none : ⊥ = omega arith in absurd none
alike_held i (c ∷ cs) (d ∷ ds) (r ∷ rs) (s ∷ ss) e f g h k zero l t =
    (first_two (bit c i) r s (held_rows i cs rs) (held_rows i ds ss) (rw (← (h 0 (omega arith))) at k)).0 t
alike_held i (c ∷ cs) (d ∷ ds) (r ∷ rs) (s ∷ ss) e f g h k (suc m) l t =
    alike_held i cs ds rs ss (omega arith) (omega arith) (omega arith) (λ n q. h (suc n) (omega arith))
    (first_two (bit c i) r s (held_rows i cs rs) (held_rows i ds ss) (rw (← (h 0 (omega arith))) at k)).1 m (omega arith) t

-- EVERYBODY BUT ONE PLAYER

-- everybody but player i has the same marks and the same rows
pub record LooksSame (b : Board) (i : ℕ) (cs : List ℕ) (rs : List (List ℕ)) (ds : List ℕ) (ss : List (List ℕ)) : Type 0 where
  pub marks : (k : ℕ) → k < b.p → (k ≡ i → ⊥) → SameMarks k (grid_rows b * columns b) cs ds
  pub rows : (k : ℕ) → k < b.p → (k ≡ i → ⊥) → SameHeld k (grid_rows b * columns b) cs rs ss

-- there is another player, who tells that the words are the same
another_player : (p i : ℕ) → 2 ≤ p → (k : ℕ) × (k < p) × (k ≡ i → ⊥)
another_player p zero h = (1, omega arith, λ e. omega arith)
another_player p (suc i) h = (0, omega arith, λ e. omega arith)

-- equal lists have equal last entries, and the same before them
last_two : (ws vs : List (List ℕ)) (x y : List ℕ) → length ws ≡ length vs → ws ++ (x ∷ []) ≡ vs ++ (y ∷ []) → (ws ≡ vs) × (x ≡ y)
last_two [] [] x y e h = (refl, cc)
last_two [] (v ∷ vs) x y e h = let none : ⊥ = omega arith in absurd none
last_two (w ∷ ws) [] x y e h = let none : ⊥ = omega arith in absurd none
last_two (w ∷ ws) (v ∷ vs) x y e h =
    let first : w ≡ v = cc in
    let rest : ws ++ (x ∷ []) ≡ vs ++ (y ∷ []) = cc in
    let r = last_two ws vs x y (omega arith) rest in
    (rw (first, r.0), r.1)

module _ (b : Board) (i : ℕ) (d e : Dealing) (f : Facts b d) (h : Facts b e) where
  same_long : length d.arrays ≡ length e.arrays
  same_long = f.arrays.long ∙ sym h.arrays.long

  row_each : {x : Dealing} → Facts b x → length x.rows ≡ length x.arrays
  row_each t = t.rows.long ∙ sym t.arrays.long

  pub same_words : SameForOthers b i d e → (d.words ≡ e.words) × (last_word b d ≡ last_word b e)
  unfolding SameForOthers held all_words
  same_words same =
      let other = another_player b.p i f.board.players_least in
      last_two d.words e.words (last_word b d) (last_word b e) (f.words.long ∙ sym h.words.long)
      (ap (λ (x : Held). x.words) (same other.0 other.1 other.2))

  pub looks_same : SameForOthers b i d e → LooksSame b i d.arrays d.rows e.arrays e.rows
  unfolding SameForOthers held
  looks_same same =
      record {
        marks = λ k l ne. subst (λ (n : ℕ). SameMarks k n d.arrays e.arrays) f.arrays.long (marks k l ne);
        rows = λ k l ne. subst (λ (n : ℕ). SameHeld k n d.arrays d.rows e.rows) f.arrays.long
            (alike_held k d.arrays e.arrays d.rows e.rows same_long (row_each f) (row_each h) (marks k l ne)
            (ap (λ (x : Held). x.rows) (same k l ne)));
      }
    where
      marks : (k : ℕ) → k < b.p → (k ≡ i → ⊥) → SameMarks k (length d.arrays) d.arrays e.arrays
      marks k l ne = alike_marks k d.arrays e.arrays same_long (ap (λ (x : Held). x.marks) (same k l ne))

  pub same_for_others :
      LooksSame b i d.arrays d.rows e.arrays e.rows → d.words ≡ e.words → last_word b d ≡ last_word b e → SameForOthers b i d e
  unfolding SameForOthers held all_words
  same_for_others looks words last k l ne =
      let marks = subst (λ (n : ℕ). SameMarks k n d.arrays e.arrays) (sym f.arrays.long) (looks.marks k l ne) in
      let rows = subst (λ (n : ℕ). SameHeld k n d.arrays d.rows e.rows) (sym f.arrays.long) (looks.rows k l ne) in
      held_is (marks_alike k d.arrays e.arrays same_long marks)
      (held_alike k d.arrays e.arrays d.rows e.rows same_long (row_each f) (row_each h) marks rows)
      (ap (λ (ws : List (List ℕ)). ws ++ (last_word b d ∷ [])) words ∙ ap (λ (x : List ℕ). e.words ++ (x ∷ [])) last)
    where
      held_is : {ms ns : List Bool} {rs ss ws vs : List (List ℕ)} → ms ≡ ns → rs ≡ ss → ws ≡ vs
          → ◌≡◌ {A = Held} (record { marks = ms; rows = rs; words = ws }) (record { marks = ns; rows = ss; words = vs })
      held_is p q r = cc
