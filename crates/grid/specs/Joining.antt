-- What is promised of joining: all players' shares at a position XOR to the value at the point and to zeros at every other position.
-- The promise comes first, then the three laws that it is made of, for any row that the words are to make, so that they serve other
-- rows than the piece. The letters are document 003's: γ is the special grid row, cw_j are the correction words, G(s) is a seed's row.
-- Each statement is a type whose proof is owed. Assumes nothing.
use Rattle.std.specs.Prelude.{◌≡◌, true, cond, List, [], ◌∷◌, ◌++◌, ℕ, zero, suc, ◌*◌, ◌-◌, ◌/◌, ◌%◌, ◌^◌, ◌<◌, eqb, length, get_or}
use Rattle.xor.specs.Xor.{xors, zeros, bytes_good}
use Rattle.grid.specs.Grid.{Board, board_refusal, columns, grid_rows, row_long, Dealing, column, row_of, piece, xor_rows, xor_all, cell, share_from, joined_from, is_odd, each_long, dealing_good}

-- SHARES JOIN: for every good dealing, under freely drawn rows (document 003: "the scheme is correct", section 3.1)
unfoldable pub SharesJoin : Type 0
SharesJoin =
    (b : Board) (d : Dealing) (a : ℕ) → dealing_good b d ≡ true → a < b.n →
    joined_from b.p 0 b d a ≡ cond (eqb a d.point) d.value (zeros b.w)

-- the XOR of `left` strings of `long` bytes: f i, f (i + 1), ..
unfoldable pub over : (left i long : ℕ) → (f : ℕ → List ℕ) → List ℕ
over zero i n f = zeros n
over (suc k) i n f = xors (f i) (over k (suc i) n f)

-- document 01's "XOR of all words and of all J rows" of a grid row; document 003's sum over j of cw_j ⊕ G(s_γ,j)
unfoldable pub words_and_rows : Board → (rows words : List (List ℕ)) → (g : ℕ) → List ℕ
words_and_rows b rs ws g = over (columns b) 0 (row_long b) (λ j. xors (get_or ws j []) (row_of b rs g j))

-- all players' shares at position a, joined: document 003's sum over i of Eval(i, k_i, a)
unfoldable pub joined : Board → (arrays : List ℕ) → (rows words : List (List ℕ)) → (a : ℕ) → List ℕ
joined b cs rs ws a =
    over b.p 0 b.w
    (λ i. share_from (columns b) 0 b i cs rs ws (a / b.wide) (a % b.wide) (zeros b.w))

-- the parities of document 003's properties 1 and 2: in the special grid row each column has an odd number of marks, in the others
-- an even one. That no column stands twice is not asked: joining does not need it, only hiding does.
pub record OddOnlyAt (b : Board) (special : ℕ) (cs : List ℕ) : Type 0 where
  pub below : (g j : ℕ) → g < grid_rows b → j < columns b → column b cs g j < 2 ^ b.p
  pub parity : (g j : ℕ) → g < grid_rows b → j < columns b → is_odd (column b cs g j) ≡ eqb g special

-- WORDS JOIN: where all words and all rows of the special grid row XOR to a row, the joined shares are that row's cells in the special
-- grid row, and zeros in every other one (document 003's properties 1 and 2: what appears an even number of times cancels out)
unfoldable pub WordsJoin : Type 0
WordsJoin =
    (b : Board) (special : ℕ) (cs : List ℕ) (rs ws : List (List ℕ)) (made : List ℕ) (a : ℕ) → board_refusal b ≡ 0 →
    OddOnlyAt b special cs → length rs ≡ grid_rows b * columns b → each_long (row_long b) rs ≡ true →
    length ws ≡ columns b → each_long (row_long b) ws ≡ true → words_and_rows b rs ws special ≡ made → a < b.n →
    joined b cs rs ws a ≡ cond (eqb (a / b.wide) special) (cell b (a % b.wide) made) (zeros b.w)

-- the word that is left to make the special grid row a given row; document 03's last word is the one that makes it the piece
unfoldable pub completing : Board → (rows words : List (List ℕ)) → (special : ℕ) → (made : List ℕ) → List ℕ
completing b rs ws g made = xor_rows (columns b) 0 b rs g (xor_all ws made)

-- THE LAST WORD COMPLETES: with it all words and all rows of the special grid row XOR to the given row (document 003's property 4)
unfoldable pub LastWordCompletes : Type 0
LastWordCompletes =
    (b : Board) (special : ℕ) (rs ws : List (List ℕ)) (made : List ℕ) → special < grid_rows b →
    length rs ≡ grid_rows b * columns b → each_long (row_long b) rs ≡ true → length ws ≡ columns b - 1 →
    each_long (row_long b) ws ≡ true → length made ≡ row_long b → bytes_good made ≡ true →
    words_and_rows b rs (ws ++ (completing b rs ws special made ∷ [])) special ≡ made

-- THE PIECE'S CELLS: the value in the point's cell, zeros in the others (document 003's e_δ · b)
unfoldable pub PieceCells : Type 0
PieceCells =
    (b : Board) (point c : ℕ) (value : List ℕ) → board_refusal b ≡ 0 → c < b.wide → length value ≡ b.w →
    cell b c (piece b point value) ≡ cond (eqb c (point % b.wide)) value (zeros b.w)
