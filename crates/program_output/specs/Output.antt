-- What both programs' functions say of their output and of what they read, and how many bytes they take and give: document 01's "Two
-- programs", whose sentence is quoted. Assumes nothing: these are definitions.
use Rattle.std.specs.Prelude.{◌≡◌, List, ℕ, ◌≤◌, ◌<◌, length, take}
use Rattle.writer.specs.Written.{in_front}

-- "Above 65,536 bytes, its input is 7, its output 9, the joining program's input 12 and its table 9, each at its place in the order."
abbrev pub most_bytes : ℕ
most_bytes = 65536

-- what a program reads of its input: one byte more, so that an input above the most is known
abbrev pub read_bytes : ℕ
read_bytes = 65537

-- room for the longest text, of 65,536 positions of one byte, and some more
abbrev pub text_bytes : ℕ
text_bytes = 600000

-- room for the longest line of a refusal: a word, ten digits at most, a line feed
abbrev pub line_bytes : ℕ
line_bytes = 19

-- WHAT A PROGRAM'S FUNCTION SAYS: the number of bytes written, which stand at the front of the lent output
unfoldable pub Writes : (bytes : List ℕ) → (r : ℕ) → (out out_now : List ℕ) → Type 0
Writes bs r o z = (r ≡ length bs) × (z ≡ in_front bs o)

-- so many bytes at the front of a buffer are what a read that fills it gives of an input: all of it, or as much as the buffer holds
pub record ReadOf (buffer : List ℕ) (count : ℕ) (input : List ℕ) : Type 0 where
  pub within : count ≤ length buffer
  pub front : take count buffer ≡ take (length buffer) input

-- WHAT IS SAID OF A BUFFER: of every input that it can have been read from; and of a count above its length, which no read gives
pub record OfRead (buffer : List ℕ) (count : ℕ) (Says : List ℕ → Type 0) (Nothing : Type 0) : Type 0 where
  pub input : (bs : List ℕ) → ReadOf buffer count bs → Says bs
  pub none : length buffer < count → Nothing

-- so many bytes of an input are enough to know the output: what stands behind them makes no difference
unfoldable pub Enough : (count : ℕ) → (output : List ℕ → List ℕ) → Type 0
Enough n f = (bs : List ℕ) → f (take n bs) ≡ f bs

-- every output has so many bytes at most
unfoldable pub Fits : (room : ℕ) → (output : List ℕ → List ℕ) → Type 0
Fits n f = (bs : List ℕ) → length (f bs) ≤ n
