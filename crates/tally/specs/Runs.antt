-- RUNS OF A TALLY'S CALLS: what the tally holds behind any calls that were lent its bytes one after another. A call is
-- read from the outside, as everywhere: it was lent some bytes, answered a number, and left others. What a tally holds is
-- said by functions of its bytes alone. Quotations are document 02's, (vii). Assumes nothing: these are definitions and
-- four statements.
use Rattle.std.specs.Prelude.{◌≡◌, true, cond, List, [], ◌∷◌, ◌++◌, ℕ, zero, suc, eqb}
use Rattle.xor.specs.Xor.{xors, zeros, bytes_good}
use Rattle.keys.specs.Keys.{table}
use Rattle.call_answers.specs.Answers.{key_rule}
use Rattle.tally.specs.Tallies.{tally_long, entries, MakeSays, AddSays, LookUpSays, TotalSays}
use Rattle.tally.specs.declared.Tally.{Tally}

-- a call of a tally: which it is, what it was lent beside the tally's own bytes, and its answer
pub data Call : Type 0 where
  make : (answer : ℕ) → Call
  add : (key : List ℕ) → (answer : ℕ) → Call
  look_up : (position answer : ℕ) → (out out_now : List ℕ) → Call
  take_total : (answer : ℕ) → (out out_now : List ℕ) → Call

-- what it says of the tally's bytes before it and behind it; Look up and Total are lent them to read
unfoldable pub Called : Tally → Call → (bytes bytes_now : List ℕ) → Type 0
Called t (make r) bs now = MakeSays t r bs now
Called t (add key r) bs now = (bytes_good key ≡ true) × AddSays t key r bs now
Called t (look_up a r out out_now) bs now = (now ≡ bs) × LookUpSays t bs a r out out_now
Called t (take_total r out out_now) bs now = (now ≡ bs) × TotalSays t bs r out out_now

-- A RUN: calls one after another, each given the tally's numbers and lent the bytes that the one before left, so that
-- "nothing else changes its tally's table or numbers". Refused calls are calls too.
unfoldable pub Run : Tally → List Call → (bytes bytes_now : List ℕ) → Type 0
Run t [] bs now = now ≡ bs
Run t (c ∷ cs) bs now = (between : List ℕ) × Called t c bs between × Run t cs between now

-- the keys that were added since making, the last one first: an addition that is answered by 0 adds its key, a making
-- that is answered by 0 begins anew, and no other call counts
unfoldable pub with_call : Call → (keys : List (List ℕ)) → List (List ℕ)
with_call (make r) keys = cond (eqb r 0) [] keys
with_call (add key r) keys = cond (eqb r 0) (key ∷ keys) keys
with_call (look_up a r out out_now) keys = keys
with_call (take_total r out out_now) keys = keys

unfoldable pub added : List Call → (so_far : List (List ℕ)) → List (List ℕ)
added [] keys = keys
added (c ∷ cs) keys = added cs (with_call c keys)

-- SINCE MAKING: Make was answered by 0, some run followed, and these are the keys that it added
pub record Tallied (t : Tally) (keys : List (List ℕ)) (bytes : List ℕ) : Type 0 where
  pub before : List ℕ
  pub made : List ℕ
  pub calls : List Call
  pub made_says : MakeSays t 0 before made
  pub run : Run t calls made bytes
  pub keys_are : added calls [] ≡ keys

-- the XOR of the full tables of keys, under expansion
unfoldable pub tables_of : Tally → (keys : List (List ℕ)) → List ℕ
tables_of t [] = zeros (tally_long t)
tables_of t (key ∷ keys) = xors (table (λ seed. key_rule key seed) key) (tables_of t keys)

-- A TALLY HOLDS ITS KEYS' TABLES: its table is the XOR of the full tables of the keys added since making
unfoldable pub TallyHolds : Type 0
TallyHolds =
    (t : Tally) (keys : List (List ℕ)) (bytes : List ℕ) → Tallied t keys bytes → entries t bytes ≡ tables_of t keys

-- one list is the other in some order: each entry of the first is found in the second, where the others stand around it
unfoldable pub InSomeOrder : (keys others : List (List ℕ)) → Type 0
InSomeOrder [] others = others ≡ []
InSomeOrder (key ∷ keys) others =
    (front : List (List ℕ)) × (back : List (List ℕ)) × (others ≡ front ++ (key ∷ back)) × InSomeOrder keys (front ++ back)

-- "in any order": the same keys, added in any two orders, leave the same table
unfoldable pub AnyOrder : Type 0
AnyOrder =
    (t : Tally) (keys others : List (List ℕ)) (bytes other_bytes : List ℕ) →
    Tallied t keys bytes → Tallied t others other_bytes → InSomeOrder keys others →
    entries t bytes ≡ entries t other_bytes

-- "A key added twice cancels itself", wherever the two additions stand: the table is that of a run without them
unfoldable pub TwiceIsNone : Type 0
TwiceIsNone =
    (t : Tally) (key : List ℕ) (front middle back : List (List ℕ)) (bytes other_bytes : List ℕ) →
    Tallied t (front ++ (key ∷ (middle ++ (key ∷ back)))) bytes → Tallied t (front ++ (middle ++ back)) other_bytes →
    entries t bytes ≡ entries t other_bytes

-- the answer of a call
unfoldable pub answer_of : Call → ℕ
answer_of (make r) = r
answer_of (add key r) = r
answer_of (look_up a r out out_now) = r
answer_of (take_total r out out_now) = r

-- the calls without the refused ones
unfoldable pub answered : List Call → List Call
answered [] = []
answered (c ∷ cs) = cond (eqb (answer_of c) 0) (c ∷ answered cs) (answered cs)

-- REFUSED CALLS CHANGE NOTHING: without them the run is a run too, from the same bytes to the same bytes, that adds the
-- same keys
unfoldable pub RefusedInBetween : Type 0
RefusedInBetween =
    (t : Tally) (calls : List Call) (keys : List (List ℕ)) (bytes bytes_now : List ℕ) → Run t calls bytes bytes_now →
    Run t (answered calls) bytes bytes_now × (added (answered calls) keys ≡ added calls keys)
