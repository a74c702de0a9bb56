-- The held seed of a dealt key is the seed that was lent: the marks before its column count the held seeds before it.
-- Assumes nothing.
use mathlib.Core.Path.{◌≡◌, refl, sym, ap, ◌∙◌}
use mathlib.Core.Bool.{Bool, true, false, cond}
use mathlib.Core.List.{List, [], ◌∷◌, ◌++◌}
use Prim.Native.Nat.{ℕ, zero, suc, ◌+◌, ◌*◌, ◌-◌, ◌/◌, ◌%◌, ◌≤◌, ◌<◌}
use native.Mathlib.Nat.{add-zero, mul-le-mul_right}
use native.Mathlib.Omega.{arith}
use borrow.Author.Tests.{eq-eqb, lt-ltb}
use lib.ListN.{length, get_or, take, drop, get_or-append}
use lib.Seq.{drop-cons, drop-drop, get_or-drop, take-add, take-append-le}
use Rattle.grid.specs.Grid.{Board, columns, grid_rows, bit, column, marks_of, held_rows}
use Rattle.keys.specs.Keys.{Lent, key, mark_bytes, count_marks, stride, head_in, key_refusal, grid_row_part, words_from, marks_in, marks_of_grid_rows, seeds_of_grid_rows, parts_of, parts_in}
use Rattle.keys.specs.Promise.{RuleGood, lent_good, dealt_parts, ReadsParts, DealtAccepted}
use Rattle.keys.specs.Held.{marked, seed_from, holds, held_seed, HeldAsDealt}
use Rattle.keys.proofs.Lists.{length_words, words_at}
use Rattle.keys.proofs.Marks.{marks_set, count_marks_is, get_or_marks, length_marks}
use Rattle.keys.proofs.Opening.{marks_from_row, seeds_from_row, tests_at}
use Rattle.keys.proofs.Dealing.{lent_in, half_marked, marks_append, marks_total, held_drop}
use Rattle.keys.proofs.Accepted.{key_in}
use Rattle.keys.proofs.Holding.{count_before}
use Rattle.keys.proofs.Promise.{reads_parts, dealt_accepted}

-- the marks of the first columns
take-marks_in : (m k j : ℕ) (ps : List ℕ) → m ≤ k → take m (marks_in k j ps) ≡ marks_in m j ps
unfolding marks_in
take-marks_in zero k j ps h = refl
take-marks_in (suc m) zero j ps h = let none : ⊥ = omega arith in absurd none
take-marks_in (suc m) (suc k) j ps h = ap (λ (ms : List Bool). bit (get_or ps (j / 8) 0) (j % 8) ∷ ms) (take-marks_in m k (suc j) ps (omega arith))

-- a player's mark of a column
get_or-marks_of : (i m : ℕ) (cs : List ℕ) → m < length cs → get_or (marks_of i cs) m false ≡ bit (get_or cs m 0) i
unfolding marks_of
get_or-marks_of i m [] h = let none : ⊥ = omega arith in absurd none
get_or-marks_of i zero (c ∷ cs) h = refl
get_or-marks_of i (suc m) (c ∷ cs) h = get_or-marks_of i m cs (omega arith)

-- a marked column's row stands behind as many held rows as there are marks before it
held_at : (i m : ℕ) (cs : List ℕ) (rs : List (List ℕ)) → length cs ≡ length rs → m < length cs → bit (get_or cs m 0) i ≡ true →
    get_or (held_rows i cs rs) (marks_set (take m (marks_of i cs))) [] ≡ get_or rs m []
unfolding held_rows
held_at i m cs rs e h t =
    let n = marks_set (take m (marks_of i cs)) in
    let front : get_or (held_rows i cs rs) n [] ≡ get_or (drop n (held_rows i cs rs)) 0 [] = sym (get_or-drop n (held_rows i cs rs) 0 [] ∙ rw add-zero) in
    front ∙ rw (held_drop i m cs rs e, drop-cons cs m 0 h, drop-cons rs m [] (omega arith), t)

-- A GRID ROW OF A KEY, in the lists of all marks and all seeds
module _ (b : Board) (bs : List ℕ) (g : ℕ) (row : g < grid_rows b) where
  rest : ℕ
  rest = grid_rows b - suc g

  rows : grid_rows b ≡ g + suc rest
  unfolding rest
  rows = omega arith

  -- the marks from the grid row on begin with its own
  marks_here : drop (g * columns b) (marks_of_grid_rows (grid_rows b) b bs)
      ≡ marks_in (columns b) 0 (grid_row_part b bs g) ++ marks_of_grid_rows rest b (drop (stride b) (grid_row_part b bs g))
  unfolding marks_of_grid_rows
  marks_here = rw rows (marks_from_row g (suc rest) b bs)

  mark_at : (j : ℕ) → j < columns b → get_or (marks_of_grid_rows (grid_rows b) b bs) (g * columns b + j) false ≡ marked (grid_row_part b bs g) j
  unfolding marked
  mark_at j h =
      let own = marks_in (columns b) 0 (grid_row_part b bs g) in
      let others = marks_of_grid_rows rest b (drop (stride b) (grid_row_part b bs g)) in
      let same : 0 + j ≡ j = omega arith in
      sym (get_or-drop (g * columns b) (marks_of_grid_rows (grid_rows b) b bs) j false)
      ∙ (ap (λ (ms : List Bool). get_or ms j false) marks_here
      ∙ (get_or-append own others false j (omega (arith, length_marks (columns b) 0 (grid_row_part b bs g)))
      ∙ rw same at (get_or_marks (columns b) 0 j (grid_row_part b bs g) h)))

  marks_before : (j : ℕ) → j < columns b → marks_set (take j (drop (g * columns b) (marks_of_grid_rows (grid_rows b) b bs))) ≡ count_marks j 0 (grid_row_part b bs g)
  marks_before j h =
      let own = marks_in (columns b) 0 (grid_row_part b bs g) in
      let others = marks_of_grid_rows rest b (drop (stride b) (grid_row_part b bs g)) in
      rw (
        marks_here,
        take-append-le j own others (omega (arith, length_marks (columns b) 0 (grid_row_part b bs g))),
        take-marks_in j (columns b) 0 (grid_row_part b bs g) (omega arith),
      ) (sym (count_marks_is j 0 (grid_row_part b bs g)))

  -- and so do the seeds
  seeds_here : drop (g * (columns b / 2)) (seeds_of_grid_rows (grid_rows b) b bs)
      ≡ words_from (columns b / 2) 32 (drop (mark_bytes b) (grid_row_part b bs g)) ++ seeds_of_grid_rows rest b (drop (stride b) (grid_row_part b bs g))
  unfolding seeds_of_grid_rows
  seeds_here = rw rows (seeds_from_row g (suc rest) b bs)

  seed_at : (n : ℕ) → n < columns b / 2
      → get_or (seeds_of_grid_rows (grid_rows b) b bs) (g * (columns b / 2) + n) [] ≡ take 32 (drop (mark_bytes b + 32 * n) (grid_row_part b bs g))
  seed_at n h =
      let part = grid_row_part b bs g in
      let own = words_from (columns b / 2) 32 (drop (mark_bytes b) part) in
      let others = seeds_of_grid_rows rest b (drop (stride b) part) in
      let from : mark_bytes b + n * 32 ≡ mark_bytes b + 32 * n = omega arith in
      sym (get_or-drop (g * (columns b / 2)) (seeds_of_grid_rows (grid_rows b) b bs) n [])
      ∙ (ap (λ (ss : List (List ℕ)). get_or ss n []) seeds_here
      ∙ (get_or-append own others [] n (omega (arith, length_words (columns b / 2) 32 (drop (mark_bytes b) part)))
      ∙ (words_at (columns b / 2) 32 n (drop (mark_bytes b) part) h ∙ rw (drop-drop (n * 32) (mark_bytes b) part, from))))

-- THE KEY OF A DEALING
module _ (b : Board) (f : List ℕ → List ℕ) (l : Lent) (i g j : ℕ) (lent : lent_good b l ≡ true) (rule : RuleGood b f) (h : i < b.p)
    (row : g < grid_rows b) (column_in : j < columns b)
  where
    bs : List ℕ
    bs = (head_in (key b f l i)).rest

    part : List ℕ
    part = grid_row_part b bs g

    place : ℕ
    place = g * columns b + j

    seeds : List (List ℕ)
    seeds = words_from (grid_rows b * columns b) 32 l.seeds

    parts_are : parts_of b bs ≡ dealt_parts b f l i
    unfolding parts_in bs ReadsParts
    parts_are = let read = reads_parts b f l i lent rule h in (rw read.1 at read.0)

    place_in : place < grid_rows b * columns b
    unfolding place
    place_in = let more : suc g * columns b ≤ grid_rows b * columns b = mul-le-mul_right (columns b) row in omega arith

    mark_is : marked part j ≡ bit (column b l.arrays g j) i
    unfolding part place column parts_of dealt_parts
    mark_is =
        sym (mark_at b bs g row j column_in)
        ∙ (ap (λ q. get_or q.marks place false) parts_are
        ∙ get_or-marks_of i place l.arrays (rw (lent_in b l lent).arrays_long place_in))

    -- fewer marks stand before a marked column than half of all
    few : marked part j ≡ true → count_marks j 0 part < columns b / 2
    unfolding part bs DealtAccepted ReadsParts
    few m =
        let board_is = (reads_parts b f l i lent rule h).1 in
        let good = rw board_is at (key_in (key b f l i) (dealt_accepted b f l i lent rule h).0).marks in
        let half = tests_at (grid_rows b) g b bs row good in
        let room = count_before part j (columns b) column_in m in omega arith

    seed_is : marked part j ≡ true → take 32 (drop (seed_from b part j) part) ≡ take 32 (drop (32 * place) l.seeds)
    unfolding seed_from part place seeds parts_of dealt_parts column
    seed_is m =
        let n = count_marks j 0 part in
        let J = columns b in
        let marks = marks_of i l.arrays in
        let t = lent_in b l lent in
        let marks_same : marks_of_grid_rows (grid_rows b) b bs ≡ marks = ap (λ q. q.marks) parts_are in
        let seeds_same : seeds_of_grid_rows (grid_rows b) b bs ≡ held_rows i l.arrays seeds = ap (λ q. q.seeds) parts_are in
        let before : marks_set (take j (drop (g * J) marks)) ≡ n = (rw marks_same at (marks_before b bs g row j column_in)) in
        let rows_before : marks_set (take (g * J) marks) ≡ g * (J / 2) = marks_total g J (J / 2) marks (λ k p. half_marked b l i t h k (omega arith)) in
        let index : marks_set (take place marks) ≡ g * (J / 2) + n =
        rw (take-add (g * J) j marks, marks_append (take (g * J) marks) (take j (drop (g * J) marks)), rows_before, before) in
        let inside : n < J / 2 = few m in
        let inside_arrays : place < length l.arrays = (rw t.arrays_long place_in) in
        let long : length l.arrays ≡ length seeds = t.arrays_long ∙ sym (length_words (grid_rows b * J) 32 l.seeds) in
        let bytes : place * 32 ≡ 32 * place = omega arith in
        sym (seed_at b bs g row n inside)
        ∙ (rw (seeds_same, ← index)
        (held_at i place l.arrays seeds long inside_arrays (sym mark_is ∙ m) ∙ rw (words_at (grid_rows b * J) 32 place l.seeds place_in, bytes)))

    -- held where the column has the player's mark
    holds_mark : holds (key b f l i) g j ≡ bit (column b l.arrays g j) i
    unfolding holds part bs DealtAccepted ReadsParts
    holds_mark =
        rw (
          (reads_parts b f l i lent rule h).1,
          eq-eqb (key_refusal (key b f l i)) 0 (dealt_accepted b f l i lent rule h).0,
          lt-ltb g (grid_rows b) row,
          lt-ltb j (columns b) column_in,
        ) mark_is

    dealt_seed : held_seed (key b f l i) g j ≡ cond (bit (column b l.arrays g j) i) (take 32 (drop (32 * place) l.seeds)) []
    unfolding held_seed part bs ReadsParts
    dealt_seed = rw (holds_mark, (reads_parts b f l i lent rule h).1) (go (bit (column b l.arrays g j) i) refl)
      where
        go : (t : Bool) → bit (column b l.arrays g j) i ≡ t
            → cond t (take 32 (drop (seed_from b part j) part)) [] ≡ cond t (take 32 (drop (32 * place) l.seeds)) []
        go true e = seed_is (mark_is ∙ e)
        go false e = refl

pub held_as_dealt : HeldAsDealt
unfolding HeldAsDealt place
held_as_dealt b f l i g j lent rule h row column_in = dealt_seed b f l i g j lent rule h row column_in
