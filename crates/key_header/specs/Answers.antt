-- The answers of the readers of a key: what each case of an answer says, in document 03's words, and what stands for each of the code's.
-- Assumes nothing: these are definitions.
use Rattle.std.specs.Prelude.{Bool, true, false, cond, List, [], ◌∷◌, ℕ, ◌-◌, eqb, length, drop, Option, Result}
use Rattle.refusal.specs.Refusing.{refusal_number}
use Rattle.refusal.specs.declared.Refusal.{Refusal}
use Rattle.grid.specs.Grid.{Board, board}
use Rattle.keys.specs.Keys.{Got, got, none_got, number_in, numbers_in, header, Head, head_in}
use Rattle.key_header.specs.declared.numbers.Reader.{Reader}
use Rattle.key_header.specs.declared.numbers.Five as five
use Rattle.key_header.specs.declared.header.Header as code
use Rattle.key_header.specs.declared.header.Heading as read

-- a number that was read, with the place where the rest begins, or none: it is cut short, over three groups or not shortest
pub data Number : Type 0 where
  Whole : ℕ → Reader → Number
  Broken : Number

-- five numbers one behind another, and the place behind them; where one is none, `whole` is false, and it and all behind it are 0
pub record Five : Type 0 where
  pub whole : Bool
  pub values : List ℕ
  pub end : ℕ

-- a board's four numbers
pub record Sizes : Type 0 where
  pub players : ℕ
  pub positions : ℕ
  pub width : ℕ
  pub value_bytes : ℕ

-- the five numbers of a header: those of the board, and the player
pub record Header : Type 0 where
  pub board : Sizes
  pub player : ℕ

-- a header that was read, and the place where it ends
pub record Heading : Type 0 where
  pub header : Header
  pub end : ℕ

-- what the check of a key, or of its header alone, answers: the header, or the number that refuses
pub data KeyCheck : Type 0 where
  Accepted : Heading → KeyCheck
  Refused : ℕ → KeyCheck

-- "The header reader gives back a number and itself moved on": what was read, of so many bytes, with the place where the rest begins
unfoldable pub number_of : (long : ℕ) → Got → Number
number_of l g =
    cond g.good (Number.Whole g.value (record { at = l - length g.rest })) Number.Broken

-- the number that stands at a place of a key
unfoldable pub number_at : (key : List ℕ) → (at : ℕ) → Number
number_at ks at = number_of (length ks) (number_in (drop at ks))

-- each case of the reader's answer as document 03 has it: the number and what is left of the key, or none (refusal 10)
unfoldable pub read_as : (key : List ℕ) → Number → Got
read_as ks (Number.Whole v next) = got v (drop next.at ks)
read_as ks Number.Broken = none_got

-- the five numbers in front, with the place where the rest begins
unfoldable pub five_at : (bytes : List ℕ) → Five
five_at bs =
    let five = numbers_in 5 bs in
    record { whole = five.good; values = five.values; end = length bs - length five.rest }

-- "The header is p, player, N, μ, w"
unfoldable pub header_of : Head → Header
header_of h =
    record {
      board = record { players = h.board.p; positions = h.board.n; width = h.board.wide; value_bytes = h.board.w };
      player = h.player;
    }

-- these numbers in their order
unfoldable pub header_numbers : Header → List ℕ
header_numbers h =
    h.board.players ∷ h.player ∷ h.board.positions ∷ h.board.width ∷ h.board.value_bytes ∷ []

-- the board of a header's numbers, in document 03's words
abbrev pub header_board : code.Header → Board
header_board h = board h.players h.positions h.width h.value_bytes

-- the bytes that write a header
unfoldable pub header_written : code.Header → List ℕ
header_written h = header (header_board h) h.player

-- the header that a key begins with, and the place where it ends
unfoldable pub heading_in : (key : List ℕ) → Heading
heading_in ks =
    record { header = header_of (head_in ks); end = length ks - length (head_in ks).rest }

-- what a check answers: "an accepted key gives its header numbers", a refused one the number that refuses it
unfoldable pub checked_by : (refusal : ℕ) → (key : List ℕ) → KeyCheck
checked_by n ks = cond (eqb n 0) (KeyCheck.Accepted (heading_in ks)) (KeyCheck.Refused n)

-- WHAT STANDS FOR EACH of the code's answers

-- a number that the code's reader gives, or that it gives none
abbrev pub read_of : Option (ℕ × Reader) → Number
read_of Option.None = Number.Broken
read_of (Option.Some r) = Number.Whole r.0 r.1

-- five numbers that the code read, or those in front of one that is none
abbrev pub five_of : Result five.Five five.Five → Five
five_of (Result.Ok f) = record { whole = true; values = f.values; end = f.end }
five_of (Result.Err f) = record { whole = false; values = f.values; end = f.end }

-- the code's header
abbrev pub header_told : code.Header → Header
header_told h =
    record {
      board = record { players = h.players; positions = h.positions; width = h.width; value_bytes = h.value_bytes };
      player = h.player;
    }

abbrev pub heading_told : read.Heading → Heading
heading_told h =
    record {
      header =
          record {
            board = record { players = h.board.players; positions = h.board.positions; width = h.board.width; value_bytes = h.board.value_bytes };
            player = h.player;
          };
      end = h.end;
    }

-- a heading, or why there is none
abbrev pub check_of : Result read.Heading Refusal → KeyCheck
check_of (Result.Ok h) = KeyCheck.Accepted (heading_told h)
check_of (Result.Err refusal) = KeyCheck.Refused (refusal_number refusal)
