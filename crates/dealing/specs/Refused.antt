-- What a refused dealing is told: document 02, (i), whose sentence is quoted. Assumes nothing: these are definitions.
use Rattle.std.specs.Prelude.{List, [], ◌∷◌, ℕ, Result}
use Rattle.refusal.specs.Refusing.{refusal_number}
use Rattle.dealing.specs.declared.DealRefusal.{DealRefusal}

-- the number of each
abbrev pub refused_number : DealRefusal → ℕ
refused_number (DealRefusal.Plain refusal) = refusal_number refusal
refused_number (DealRefusal.Fault fault) = refusal_number fault.refusal

-- "each comes with the grid row and column of the first fault", and no other number does
abbrev pub refused_place : DealRefusal → List ℕ
refused_place (DealRefusal.Plain refusal) = []
refused_place (DealRefusal.Fault fault) = fault.grid_row ∷ fault.column ∷ []

-- the same of an answer that is a value or a refusal; no refusal is 0
abbrev pub number_told : {A : Type 0} → Result A DealRefusal → ℕ
number_told (Result.Ok _) = 0
number_told (Result.Err refused) = refused_number refused

abbrev pub place_told : {A : Type 0} → Result A DealRefusal → List ℕ
place_told (Result.Ok _) = []
place_told (Result.Err refused) = refused_place refused
