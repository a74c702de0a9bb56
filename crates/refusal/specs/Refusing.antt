-- The numbers of the refusals, by documents 01 and 02: "When an answer is an enum, a definition gives this paper's number and values for
-- each of its cases." Assumes nothing: these are definitions.
use Rattle.std.specs.Prelude.{ℕ, Result}
use Rattle.refusal.specs.declared.Refusal.{Refusal}

-- the number of each
abbrev pub refusal_number : Refusal → ℕ
refusal_number Refusal.Players = 1
refusal_number Refusal.Positions = 2
refusal_number Refusal.Width = 3
refusal_number Refusal.ValueBytes = 4
refusal_number Refusal.GridRows = 5
refusal_number Refusal.Point = 6
refusal_number Refusal.Lent = 7
refusal_number Refusal.Room = 9
refusal_number Refusal.Number = 10
refusal_number Refusal.Player = 11
refusal_number Refusal.Length = 12
refusal_number Refusal.Marks = 13
refusal_number Refusal.Position = 14
refusal_number Refusal.Place = 15
refusal_number Refusal.Expansion = 16
refusal_number Refusal.Sensor = 17
refusal_number Refusal.ColumnBit = 18
refusal_number Refusal.ColumnParity = 19
refusal_number Refusal.ColumnTwice = 20
refusal_number Refusal.CardKey = 21
refusal_number Refusal.Deck = 22
refusal_number Refusal.Tally = 23

-- "0 or the number of the first refusal that fits": of an answer that is a value or a refusal
abbrev pub answer_number : {A : Type 0} → Result A Refusal → ℕ
answer_number (Result.Ok _) = 0
answer_number (Result.Err refusal) = refusal_number refusal
