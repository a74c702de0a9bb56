-- A TALLY OVER MANY HUNTS: what its four calls answer and leave behind, document 02, (vii), whose sentences are quoted.
-- Each contract fixes the number and every lent byte, of refused calls too. Assumes nothing: these are definitions.
use Rattle.std.specs.Prelude.{Bool, ◌&&◌, cond, List, ℕ, ◌*◌, ltb, leb, eqb, length, take}
use Rattle.xor.specs.Xor.{xors, zeros}
use Rattle.grid.specs.Grid.{Board}
use Rattle.keys.specs.Keys.{or_else, key_refusal, head_in, table}
use Rattle.page.specs.Page.{entry_at}
use Rattle.call_answers.specs.Answers.{PutSays, width_refusal, key_rule, joined_shares}
use Rattle.tally.specs.declared.Tally.{Tally}

-- "A tally is made for p, player, N and w"
abbrev pub tally_of : (p player n w : ℕ) → Tally
tally_of p i n w = record { players = p; player = i; positions = n; value_bytes = w }

-- the bytes of its table, N entries of w bytes each, and these in front of what is lent for it
unfoldable pub tally_long : Tally → ℕ
tally_long t = t.positions * t.value_bytes

unfoldable pub entries : Tally → (bytes : List ℕ) → List ℕ
entries t bs = take (tally_long t) bs

-- "Making one checks 1, 2, 4, 11, 9", and "every later call first repeats making's checks"
unfoldable pub tally_refusal : Tally → (room : ℕ) → ℕ
tally_refusal t room =
    or_else (width_refusal t.players t.positions t.value_bytes)
    (cond (leb t.players t.player) 11 (cond (ltb room (tally_long t)) 9 0))

-- MAKE: the tally is "all zero"
unfoldable pub MakeSays : Tally → (r : ℕ) → (bytes bytes_now : List ℕ) → Type 0
MakeSays t r o z = PutSays (tally_refusal t (length o)) (zeros (tally_long t)) r o z

-- whether a key is the tally's: no "p, player, N or w of the key differ from the tally's; μ may differ"
unfoldable pub takes : Tally → Board → (player : ℕ) → Bool
takes t b i =
    (eqb b.p t.players && eqb i t.player) && (eqb b.n t.positions && eqb b.w t.value_bytes)

-- the tally's own numbers, "Check key's numbers", 23
unfoldable pub add_refusal : Tally → (key : List ℕ) → (room : ℕ) → ℕ
add_refusal t ks room =
    or_else (tally_refusal t room)
    (or_else (key_refusal ks) (cond (takes t (head_in ks).board (head_in ks).player) 0 23))

-- ADD: "adding an accepted key XORs its full table in"
unfoldable pub AddSays : Tally → (key : List ℕ) → (r : ℕ) → (bytes bytes_now : List ℕ) → Type 0
AddSays t ks r o z =
    PutSays (add_refusal t ks (length o)) (xors (entries t o) (table (λ seed. key_rule ks seed) ks)) r o z

-- LOOK UP: "looking up at or above N is then 14", and 9 of the output; "one may look up an entry"
unfoldable pub LookUpSays : Tally → (bytes : List ℕ) → (a : ℕ) → (r : ℕ) → (out out_now : List ℕ) → Type 0
LookUpSays t bs a r o z =
    PutSays
    (or_else (tally_refusal t (length bs))
    (cond (leb t.positions a) 14 (cond (ltb (length o) t.value_bytes) 9 0)))
    (entry_at t.value_bytes bs a) r o z

-- "the total is the XOR of all entries"
unfoldable pub total : Tally → (bytes : List ℕ) → List ℕ
total t bs = joined_shares t.positions t.value_bytes (entries t bs)

-- TOTAL: 9 of the output
unfoldable pub TotalSays : Tally → (bytes : List ℕ) → (r : ℕ) → (out out_now : List ℕ) → Type 0
TotalSays t bs r o z =
    PutSays (or_else (tally_refusal t (length bs)) (cond (ltb (length o) t.value_bytes) 9 0))
    (total t bs) r o z
