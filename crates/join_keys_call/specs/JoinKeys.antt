-- Join keys: p keys in one slice, the first header fixing p and K. Quotations are document 01's. Assumes nothing: these are definitions.
use Rattle.std.specs.Prelude.{Bool, ◌&&◌, not, cond, List, ℕ, zero, suc, ◌*◌, ltb, eqb, length, take, drop}
use Rattle.xor.specs.Xor.{xors, zeros}
use Rattle.grid.specs.Grid.{Board, grid_rows}
use Rattle.keys.specs.Keys.{head_in, or_else, head_refusal, key_long, marks_good, table}
use Rattle.call_answers.specs.Answers.{PutSays}
use Rattle.seed_rows.specs.Rows.{rule}

-- the four numbers of two boards are the same
unfoldable pub same_board : (b c : Board) → Bool
same_board b c = (eqb b.p c.p && eqb b.n c.n) && (eqb b.wide c.wide && eqb b.w c.w)

-- one key at its place: "its 10, 1 to 5, 11, then 15 when p, N, μ or w differ from the first or the player is not its place, then 13"
unfoldable pub place_refusal : Board → (place : ℕ) → (key : List ℕ) → ℕ
place_refusal b i ks =
    let h = head_in ks in
    or_else (head_refusal h)
    (cond (not (same_board h.board b && eqb h.player i)) 15 (cond (marks_good (grid_rows b) b h.rest) 0 13))

-- "then for each key in turn", each inside its own K bytes
unfoldable pub places_refusal : (left place : ℕ) → Board → (keys : List ℕ) → ℕ
places_refusal zero i b bs = 0
places_refusal (suc k) i b bs =
    or_else (place_refusal b i (take (key_long b) bs)) (places_refusal k (suc i) b (drop (key_long b) bs))

-- "for the first key 10, 1 to 5, 11; 12 whole length not p × K; then for each key in turn ..; last 9"
unfoldable pub keys_refusal : (keys : List ℕ) → (room : ℕ) → ℕ
keys_refusal bs room =
    let b = (head_in bs).board in
    or_else (head_refusal (head_in bs))
    (cond (not (eqb (length bs) (b.p * key_long b))) 12
    (or_else (places_refusal b.p 0 b bs) (cond (ltb room (b.n * b.w)) 9 0)))

-- "the joined N × w table": the XOR of the tables of so many keys
unfoldable pub joined_table : (left : ℕ) → Board → (keys : List ℕ) → List ℕ
joined_table zero b bs = zeros (b.n * b.w)
joined_table (suc k) b bs = xors (table (λ seed. rule b seed) (take (key_long b) bs)) (joined_table k b (drop (key_long b) bs))

-- JOIN KEYS
unfoldable pub JoinKeysSays : (keys : List ℕ) → (r : ℕ) → (out out_now : List ℕ) → Type 0
JoinKeysSays bs r o z =
    let b = (head_in bs).board in PutSays (keys_refusal bs (length o)) (joined_table b.p b bs) r o z
