-- What is worked out of the part of a key that begins at a grid row: the shares of that grid row, or any stretch of their bytes. Open one
-- wants the stretch of one cell, Open all the cells of a grid row that are below N. Quotations are document 01's.
-- Assumes nothing: these are definitions.
use Rattle.std.specs.Prelude.{cond, List, ℕ, zero, suc, ◌+◌, ◌*◌, take, drop}
use Rattle.xor.specs.Xor.{xors, zeros}
use Rattle.grid.specs.Grid.{Board, columns}
use Rattle.keys.specs.Keys.{mark_bytes, word_behind}
use Rattle.keys.specs.Held.{marked}

-- n bytes of a row or of a word, from byte s on; "cell c of a row or word is the w bytes from c × w on"
unfoldable pub stretch : (s n : ℕ) → List ℕ → List ℕ
stretch s n xs = take n (drop s xs)

-- "the XOR, over the columns that the player's mark has in that grid row, of word and row": of it n bytes from byte s on. `part` begins at
-- grid row g, and `seen` counts marked columns. This is the keys' `opened_from`, which takes the stretch of one cell
unfoldable pub shares_from : (left j seen : ℕ) → Board → (rule : List ℕ → List ℕ) → (part : List ℕ) → (g s n : ℕ) → List ℕ → List ℕ
shares_from zero j q b f ps g s n xs = xs
shares_from (suc k) j q b f ps g s n xs =
    let seed = take 32 (drop (mark_bytes b + 32 * q) ps) in
    let one = xors (stretch s n (word_behind b ps g j)) (stretch s n (f seed)) in
    cond (marked ps j) (shares_from k (suc j) (suc q) b f ps g s n (xors xs one)) (shares_from k (suc j) q b f ps g s n xs)

unfoldable pub shares : Board → (rule : List ℕ → List ℕ) → (part : List ℕ) → (g s n : ℕ) → List ℕ
shares b f ps g s n = shares_from (columns b) 0 0 b f ps g s n (zeros n)
