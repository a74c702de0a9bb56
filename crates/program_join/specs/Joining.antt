-- The joining program as a function from the input's bytes to the output's: document 01's "Two programs", whose sentences are quoted.
-- Assumes nothing: these are definitions.
use Rattle.std.specs.Prelude.{◌≡◌, ◌||◌, not, cond, List, ℕ, ◌*◌, ltb, eqb, length}
use Rattle.keys.specs.Keys.{head_in, key_long, or_else, head_refusal}
use Rattle.writer.specs.Written.{in_front}
use Rattle.join_keys_call.specs.JoinKeys.{places_refusal, joined_table}
use Rattle.text.specs.Text.{refused_line, table_text}
use Rattle.program_output.specs.Output.{most_bytes, read_bytes, text_bytes, Writes, OfRead, Enough, Fits}

-- THE JOINING PROGRAM "reads p keys": for the first 10, 1 to 5, 11; 12 on the whole input; each key's own in turn; 9 for a table above 65,536 bytes
unfoldable pub joining_refusal : (input : List ℕ) → ℕ
joining_refusal bs =
    let b = (head_in bs).board in
    or_else (head_refusal (head_in bs))
    (cond (ltb most_bytes (length bs) || not (eqb (length bs) (b.p * key_long b))) 12
    (or_else (places_refusal b.p 0 b bs) (cond (ltb most_bytes (b.n * b.w)) 9 0)))

-- the joined table of the keys
unfoldable pub joined : (input : List ℕ) → List ℕ
joined bs = let b = (head_in bs).board in joined_table b.p b bs

-- what it writes: the whole text of the joined table, or the line that refuses
unfoldable pub joining_output : (input : List ℕ) → List ℕ
joining_output bs =
    let b = (head_in bs).board in
    cond (eqb (joining_refusal bs) 0) (table_text b.p b.n b.w (joined bs)) (refused_line (joining_refusal bs))

-- WHAT MAKES ITS BUFFERS RIGHT: 65,537 bytes of an input are enough, and what it writes fits into 600,000
unfoldable pub JoiningWhole : Type 0
JoiningWhole = Enough read_bytes joining_output × Fits text_bytes joining_output

-- what its function says: a table is lent beside the output, where the joined one is made; the joined table stands at its front where it
-- is accepted, and it is as it was where it is refused
unfoldable pub Joins : (input : List ℕ) → (r : ℕ) → (table table_now out out_now : List ℕ) → Type 0
Joins bs r t u o z = Writes (joining_output bs) r o z × (u ≡ cond (eqb (joining_refusal bs) 0) (in_front (joined bs) t) t)

-- of a buffer that an input was read into: the same of that input; with a count above the buffer's length, nothing is changed
unfoldable pub JoinsRead : (buffer : List ℕ) → (count r : ℕ) → (table table_now out out_now : List ℕ) → Type 0
JoinsRead xs n r t u o z = OfRead xs n (λ bs. Joins bs r t u o z) ((r ≡ 0) × (u ≡ t) × (z ≡ o))
