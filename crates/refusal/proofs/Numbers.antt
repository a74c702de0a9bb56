-- Refusals by their numbers: none has the number 0, and no two have the same. Assumes nothing.
use Rattle.std.proofs.Common.{◌≡◌, ℕ, refl, sym, ap, ◌∙◌, arith}
use Rattle.std.specs.Prelude.{if◌then◌else◌}
use lib.Dec.{eqb}
use Rattle.refusal.specs.Refusing.{refusal_number}
use Rattle.refusal.specs.declared.Refusal.{Refusal}

-- the refusal of a number
named : ℕ → Refusal
named n =
    if eqb n 1 then Refusal.Players else
    if eqb n 2 then Refusal.Positions else
    if eqb n 3 then Refusal.Width else
    if eqb n 4 then Refusal.ValueBytes else
    if eqb n 5 then Refusal.GridRows else
    if eqb n 6 then Refusal.Point else
    if eqb n 7 then Refusal.Lent else
    if eqb n 9 then Refusal.Room else
    if eqb n 10 then Refusal.Number else
    if eqb n 11 then Refusal.Player else
    if eqb n 12 then Refusal.Length else
    if eqb n 13 then Refusal.Marks else
    if eqb n 14 then Refusal.Position else
    if eqb n 15 then Refusal.Place else
    if eqb n 16 then Refusal.Expansion else
    if eqb n 17 then Refusal.Sensor else
    if eqb n 18 then Refusal.ColumnBit else
    if eqb n 19 then Refusal.ColumnParity else
    if eqb n 20 then Refusal.ColumnTwice else
    if eqb n 21 then Refusal.CardKey else
    if eqb n 22 then Refusal.Deck else
    Refusal.Tally

-- is the one that has it
named_again : (r : Refusal) → named (refusal_number r) ≡ r
unfolding named
named_again Refusal.Players = refl
named_again Refusal.Positions = refl
named_again Refusal.Width = refl
named_again Refusal.ValueBytes = refl
named_again Refusal.GridRows = refl
named_again Refusal.Point = refl
named_again Refusal.Lent = refl
named_again Refusal.Room = refl
named_again Refusal.Number = refl
named_again Refusal.Player = refl
named_again Refusal.Length = refl
named_again Refusal.Marks = refl
named_again Refusal.Position = refl
named_again Refusal.Place = refl
named_again Refusal.Expansion = refl
named_again Refusal.Sensor = refl
named_again Refusal.ColumnBit = refl
named_again Refusal.ColumnParity = refl
named_again Refusal.ColumnTwice = refl
named_again Refusal.CardKey = refl
named_again Refusal.Deck = refl
named_again Refusal.Tally = refl

pub number_apart : (r s : Refusal) → refusal_number r ≡ refusal_number s → r ≡ s
number_apart r s e = sym (named_again r) ∙ ap named e ∙ named_again s

pub number_some : (r : Refusal) → refusal_number r ≡ 0 → ⊥
unfolding named
number_some r e =
    let last : refusal_number r ≡ 23 = ap refusal_number (sym (named_again r) ∙ ap named e) in absurd (omega arith)
