-- Text as bytes: lines, as document 01's "Two programs" has them, whose sentences are quoted. Assumes nothing: these are definitions.
use Rattle.std.specs.Prelude.{List, [], ◌∷◌, ◌++◌, ℕ, zero, suc, take, drop}
use Rattle.digits.specs.Digits.{decimal, hex}

-- the bytes of the words that document 01 shows
abbrev pub text_refused : List ℕ
text_refused = 114 ∷ 101 ∷ 102 ∷ 117 ∷ 115 ∷ 101 ∷ 100 ∷ 32 ∷ []

abbrev pub text_players : List ℕ
text_players = 112 ∷ 108 ∷ 97 ∷ 121 ∷ 101 ∷ 114 ∷ 115 ∷ 32 ∷ []

abbrev pub text_squares : List ℕ
text_squares = 32 ∷ 115 ∷ 113 ∷ 117 ∷ 97 ∷ 114 ∷ 101 ∷ 115 ∷ 32 ∷ []

abbrev pub text_width : List ℕ
text_width = 32 ∷ 119 ∷ 105 ∷ 100 ∷ 116 ∷ 104 ∷ 32 ∷ []

-- "Every line ends in one line feed."
abbrev pub line_feed : List ℕ
line_feed = 10 ∷ []

-- a word with its number behind it
unfoldable pub named : (word : List ℕ) → (number : ℕ) → List ℕ
named bs v = bs ++ decimal v

-- "A refusal is the line `refused n`, the number alone."
unfoldable pub refused_line : (refusal : ℕ) → List ℕ
refused_line n = named text_refused n ++ line_feed

-- "a line with p, N and w in the words shown below"
unfoldable pub board_line : (p n w : ℕ) → List ℕ
board_line p n w = named text_players p ++ named text_squares n ++ named text_width w ++ line_feed

-- "then a line for each position from 0 up: the position, unpadded, one space, and its value"
unfoldable pub position_line : (a : ℕ) → (value : List ℕ) → List ℕ
position_line a v = decimal a ++ (32 ∷ []) ++ hex v ++ line_feed

unfoldable pub position_lines : (left a w : ℕ) → (table : List ℕ) → List ℕ
position_lines zero a w ts = []
position_lines (suc k) a w ts = position_line a (take w ts) ++ position_lines k (suc a) w (drop w ts)

-- what the joining program writes of a table
unfoldable pub table_text : (p n w : ℕ) → (table : List ℕ) → List ℕ
table_text p n w ts = board_line p n w ++ position_lines n 0 w ts
