-- The scheme: boards as grids, dealings with their arrays, rows and correction words, shares, and what a player holds. It is the p-party
-- distributed point function of document 003, section 3.1, in the bytes of document 01. These are document 03's definitions, word for
-- word; the line at each says which sentence of document 01 or 003 it writes down. Assumes nothing: these are definitions.
use Rattle.std.specs.Prelude.{Bool, true, false, ◌&&◌, ◌||◌, not, cond, List, [], ◌∷◌, ◌++◌, ℕ, zero, suc, ◌+◌, ◌*◌, ◌-◌, ◌/◌, ◌%◌, ◌^◌, ltb, leb, eqb, length, get_or, take, drop}
use Rattle.xor.specs.Xor.{xors, zeros, bytes_good}

-- BOARDS

-- 01: "p players, 2 to 6", "N positions, 1 to 65,536. Grid width μ, 1 to 256. Value width w bytes, 1 to 16"; 003's parties and evaluation table
pub record Board : Type 0 where
  pub p : ℕ
  pub n : ℕ
  pub wide : ℕ
  pub w : ℕ

-- the board of four numbers, as a call or a header gives them
unfoldable pub board : (p n wide w : ℕ) → Board
board p n m w = record { p = p; n = n; wide = m; w = w }

-- 01: "J = 2^(p−1) columns of an array"; 003, Notation 5 with q = 2: arrays of p × q^(p−1)
unfoldable pub columns : Board → ℕ
columns b = 2 ^ (b.p - 1)

-- 01: "ν = N/μ rounded up"; 003, Algorithm 3, line 2
unfoldable pub grid_rows : Board → ℕ
grid_rows b = (b.n + b.wide - 1) / b.wide

-- 01: "A seed's row is μ × w bytes"; 003: the length of the generator's output G(s)
unfoldable pub row_long : Board → ℕ
row_long b = b.wide * b.w

-- THE RANGES, each once: "2 to 6", "1 to 65,536", "1 to 256" and "1 to 16" of the line above
abbrev pub players_fit : (p : ℕ) → Bool
players_fit p = leb 2 p && leb p 6

abbrev pub positions_fit : (n : ℕ) → Bool
positions_fit n = leb 1 n && leb n 65536

abbrev pub width_fits : (m : ℕ) → Bool
width_fits m = leb 1 m && leb m 256

abbrev pub value_fits : (w : ℕ) → Bool
value_fits w = leb 1 w && leb w 16

-- 01, Key length: "1 p outside its range; 2 N; 3 μ; 4 w; 5 ν above 256", "The first number that fits is given"
unfoldable pub board_refusal : Board → ℕ
board_refusal b =
    cond (not (players_fit b.p)) 1
    (cond (not (positions_fit b.n)) 2
    (cond (not (width_fits b.wide)) 3 (cond (not (value_fits b.w)) 4 (cond (ltb 256 (grid_rows b)) 5 0))))

-- 01, Deal: "value, arrays, seeds, words, in bytes w, ν × J, ν × J × 32, (J−1) × μ × w"
abbrev pub arrays_long : Board → ℕ
arrays_long b = grid_rows b * columns b

abbrev pub seeds_long : Board → ℕ
seeds_long b = 32 * arrays_long b

abbrev pub words_long : Board → ℕ
words_long b = (columns b - 1) * row_long b

-- 01: "bit i of a column is player i's mark", "bit 0 the lowest"; 003: A[i, j], whether party i is given the seed
unfoldable pub bit : (byte i : ℕ) → Bool
bit v i = eqb (v / 2 ^ i % 2) 1

-- DEALINGS

-- 01: "A freely drawn dealing .. is a point below N, a value of w bytes, ν arrays .., ν × J rows of μ × w bytes in place of the seeds, and J−1 lent words"
-- 003: the point function's a and b, and what Gen draws for it
pub record Dealing : Type 0 where
  pub point : ℕ
  pub value : List ℕ
  pub arrays : List ℕ
  pub rows : List (List ℕ)
  pub words : List (List ℕ)

-- 01: "Lent arrays and seeds stand grid row by grid row, in column order": the column byte j of grid row g
unfoldable pub column : Board → List ℕ → (g j : ℕ) → ℕ
column b cs g j = get_or cs (g * columns b + j) 0

-- the same for rows; 003: G(s_g,j)
unfoldable pub row_of : Board → List (List ℕ) → (g j : ℕ) → List ℕ
row_of b rs g j = get_or rs (g * columns b + j) []

-- WORDS

-- 01: "the value in the piece's cell and zero in the others"; 003: e_δ · b
unfoldable pub piece : Board → (point : ℕ) → (value : List ℕ) → List ℕ
piece b a v = zeros (a % b.wide * b.w) ++ v ++ zeros (row_long b - suc (a % b.wide) * b.w)

-- 01: the XOR "of all J rows of the piece's grid row", onto xs
unfoldable pub xor_rows : (left j : ℕ) → Board → List (List ℕ) → (g : ℕ) → List ℕ → List ℕ
xor_rows zero j b rs g xs = xs
xor_rows (suc k) j b rs g xs = xor_rows k (suc j) b rs g (xors xs (row_of b rs g j))

-- 01: "the XOR of all words", onto xs
unfoldable pub xor_all : List (List ℕ) → List ℕ → List ℕ
xor_all [] xs = xs
xor_all (w ∷ ws) xs = xor_all ws (xors xs w)

-- 01: "The last is such that the XOR of all words and of all J rows of the piece's grid row is the value in the piece's cell and zero in the others"
-- 003: property 4, and Algorithm 3, line 6
unfoldable pub last_word : Board → Dealing → List ℕ
last_word b d =
    xor_rows (columns b) 0 b d.rows (d.point / b.wide) (xor_all d.words (piece b d.point d.value))

-- 01: "There are J correction words", "J−1 are lent", those "of columns 0 to J−2"; 003: the correction words cw_1 to cw_J
unfoldable pub all_words : Board → Dealing → List (List ℕ)
all_words b d = d.words ++ (last_word b d ∷ [])

-- SHARES

-- 01: "Cell c of a row or word is the w bytes from c × w on"; 003: y[δ]
unfoldable pub cell : Board → (c : ℕ) → List ℕ → List ℕ
cell b c xs = take b.w (drop (c * b.w) xs)

-- 01: "the XOR, over the columns that the player's mark has in that grid row, of word and row, at the position's cell", onto xs; 003: Algorithm 4, line 6
unfoldable pub share_from : (left j : ℕ) → Board → (player : ℕ) → (arrays : List ℕ) → (rows words : List (List ℕ)) → (g c : ℕ) → List ℕ → List ℕ
share_from zero j b i cs rs ws g c xs = xs
share_from (suc k) j b i cs rs ws g c xs =
    share_from k (suc j) b i cs rs ws g c
    (cond (bit (column b cs g j) i) (xors xs (xors (cell b c (get_or ws j [])) (cell b c (row_of b rs g j)))) xs)

-- 01: "A share at a position", "Position a lies in grid row a div μ, cell a mod μ"; 003: party i's Eval of the distributed point function at a
unfoldable pub share : Board → Dealing → (player a : ℕ) → List ℕ
share b d i a =
    share_from (columns b) 0 b i d.arrays d.rows (all_words b d) (a / b.wide) (a % b.wide) (zeros b.w)

-- 01: the XOR of the players' shares; 003: the sum over i of Eval(i, k_i, a)
unfoldable pub joined_from : (left i : ℕ) → Board → Dealing → (a : ℕ) → List ℕ
joined_from zero i b d a = zeros b.w
joined_from (suc k) i b d a = xors (share b d i a) (joined_from k (suc i) b d a)

-- ARRAYS AND THEIR PARITIES

-- 01: "count of ones"; 003, Notation 5: "the sum of elements in every column"
unfoldable pub ones : (left v : ℕ) → ℕ
ones zero v = 0
ones (suc k) v = v % 2 + ones k (v / 2)

-- 003, Notation 5 with q = 2: that sum is 1 modulo q
unfoldable pub is_odd : (v : ℕ) → Bool
is_odd v = eqb (ones 8 v % 2) 1

-- 01: the opposite of "wrong parity for its grid row"
unfoldable pub same_parity : Bool → Bool → Bool
same_parity a b = cond a b (not b)

-- 01: "a column twice": whether a column stands among others
unfoldable pub member : ℕ → List ℕ → Bool
member v [] = false
member v (x ∷ xs) = eqb x v || member v xs

-- 01: no "bit at p or above, wrong parity for its grid row, or a column twice"; 003, Notation 5: E_p,q and O_p,q, "every column appears exactly once"
unfoldable pub array_good : Board → (odd : Bool) → List ℕ → Bool
array_good b o [] = true
array_good b o (c ∷ cs) =
    (ltb c (2 ^ b.p) && same_parity (is_odd c) o) && (not (member c cs) && array_good b o cs)

-- 01: "The piece's grid row has an odd array, all others even ones"; 003: properties 1 and 2, and Algorithm 3, line 4
unfoldable pub arrays_good : (left g : ℕ) → Board → (point : ℕ) → List ℕ → Bool
arrays_good zero g b a xs = true
arrays_good (suc k) g b a xs =
    array_good b (eqb g (a / b.wide)) (take (columns b) xs) && arrays_good k (suc g) b a (drop (columns b) xs)

-- 01: "rows of μ × w bytes", "rows and words are any bytes"
unfoldable pub each_long : (n : ℕ) → List (List ℕ) → Bool
each_long n [] = true
each_long n (x ∷ xs) = (eqb (length x) n && bytes_good x) && each_long n xs

-- 01, "What demand 3 speaks of": what is a freely drawn dealing of the board
unfoldable pub dealing_good : Board → Dealing → Bool
dealing_good b d =
    ((eqb (board_refusal b) 0 && ltb d.point b.n) && (eqb (length d.value) b.w && bytes_good d.value))
    && ((eqb (length d.arrays) (grid_rows b * columns b) && arrays_good (grid_rows b) 0 b d.point d.arrays)
    && ((eqb (length d.rows) (grid_rows b * columns b) && each_long (row_long b) d.rows)
    && (eqb (length d.words) (columns b - 1) && each_long (row_long b) d.words)))

-- WHAT A PLAYER HOLDS

-- 01: "The key it gives a player has the parts of a dealt key, with the rows of the marked columns for the held seeds"; 003: party i's key k_i
pub record Held : Type 0 where
  pub marks : List Bool
  pub rows : List (List ℕ)
  pub words : List (List ℕ)

-- 01: "marks", column by column: where player i's part of the arrays is set
unfoldable pub marks_of : (player : ℕ) → (arrays : List ℕ) → List Bool
marks_of i [] = []
marks_of i (c ∷ cs) = bit c i ∷ marks_of i cs

-- 01: "the rows of the marked columns"; 003: σ_i
unfoldable pub held_rows : (player : ℕ) → (arrays : List ℕ) → (rows : List (List ℕ)) → List (List ℕ)
held_rows i [] rs = []
held_rows i (c ∷ cs) [] = []
held_rows i (c ∷ cs) (r ∷ rs) = cond (bit c i) (r ∷ held_rows i cs rs) (held_rows i cs rs)

-- the key that a dealing gives a player; its header is the board's and the player's numbers
unfoldable pub held : Board → Dealing → (player : ℕ) → Held
held b d i = record { marks = marks_of i d.arrays; rows = held_rows i d.arrays d.rows; words = all_words b d }

-- THE ROW THAT NOBODY ELSE HOLDS

-- 01: "somebody else holds a row when another player marks its column": the column without player i's mark, 0 where nobody else marks it
unfoldable pub other_marks : (column player : ℕ) → ℕ
other_marks c i = cond (bit c i) (c - 2 ^ i) c

-- 01: "each grid row has exactly one row not so held": its column; 003, property 2: the seed given to party i only (in an even array, to nobody)
unfoldable pub unheld_from : (left j : ℕ) → Board → (player : ℕ) → (arrays : List ℕ) → (g : ℕ) → ℕ
unheld_from zero j b i cs g = 0
unheld_from (suc k) j b i cs g = cond (eqb (other_marks (column b cs g j) i) 0) j (unheld_from k (suc j) b i cs g)

-- the row at that place, which masks the words from everybody else
unfoldable pub unheld : Board → Dealing → (player g : ℕ) → List ℕ
unheld b d i g = row_of b d.rows g (unheld_from (columns b) 0 b i d.arrays g)
