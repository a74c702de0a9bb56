-- What the operations answer and leave behind: document 03's Entry, word for word but for two names, `width_refusal`
-- and `expand_refusal`, and for what document 02 asks: Deal's place, (i), Expand's start, (ii), Draw card with the
-- width of shares, (iii), Write page, (iv), and Choose width, (vi). Each is an equation that fixes the number, the
-- value and every lent byte, refused calls too. Join keys has its own file; Check key and Held seed answer as the
-- crates key_header and keys say. Assumes nothing: these are definitions.
use Rattle.std.specs.Prelude.{◌≡◌, Bool, ◌&&◌, not, cond, List, [], ◌∷◌, ℕ, zero, suc, ◌+◌, ◌*◌, ltb, leb, eqb, length, take, drop, Result, ⊤}
use Rattle.xor.specs.Xor.{xors, zeros}
use Rattle.writer.specs.Written.{in_front}
use Rattle.chacha20.specs.From.{expand_from}
use Rattle.seed_rows.specs.Rows.{rule}
use Rattle.refusal.specs.Refusing.{refusal_number}
use Rattle.refusal.specs.declared.Refusal.{Refusal}
use Rattle.grid.specs.Grid.{Board, board, board_refusal, players_fit, positions_fit, value_fits}
use Rattle.grid.specs.Faults.{Fault as Found}
use Rattle.grid.specs.Sensors.{sensor_position}
use Rattle.keys.specs.Keys.{or_else, lent, deal_refusal, deal_place, keys_from, key_long, key_refusal}
use Rattle.keys.specs.Keys.{head_in, opened, table}
use Rattle.key_width.specs.Width.{width}
use Rattle.cards.specs.Cards.{picked}
use Rattle.page.specs.Page.{page, page_long}
use Rattle.dealing.specs.declared.DealRefusal.{DealRefusal}

-- "either the full result or the first refusal number that fits, the lent output then unchanged"
unfoldable pub PutSays : (refusal : ℕ) → (bytes : List ℕ) → (r : ℕ) → (out out_now : List ℕ) → Type 0
PutSays zero bs r o z = (r ≡ 0) × (z ≡ in_front bs o)
PutSays (suc n) bs r o z = (r ≡ suc n) × (z ≡ o)

-- a number and a value: the number of a refusal with 0, or 0 with the value asked
pub record Answer : Type 0 where
  pub refusal : ℕ
  pub value : ℕ

-- each case of the code's answer
abbrev pub answer_told : Result ℕ Refusal → Answer
answer_told (Result.Ok v) = record { refusal = 0; value = v }
answer_told (Result.Err r) = record { refusal = refusal_number r; value = 0 }

-- a number and a value; the value of a refused call is 0
unfoldable pub says : (refusal value : ℕ) → Answer → Type 0
says n v r = (r.refusal ≡ n) × (r.value ≡ cond (eqb n 0) v 0)

-- DEAL: 1 to 7, 18 to 20, 9; p keys one after another, player 0 first
unfoldable pub DealSays : (p n m w point : ℕ) → (value arrays seeds words : List ℕ) → (r : ℕ) → (out out_now : List ℕ) → Type 0
DealSays p n m w a v cs ss ws r o z =
    PutSays
    (or_else (deal_refusal (board p n m w) (lent a v cs ss ws)) (cond (ltb (length o) (p * key_long (board p n m w))) 9 0))
    (keys_from p 0 (board p n m w) (λ seed. rule (board p n m w) seed) (lent a v cs ss ws)) r o z

-- what Deal tells: a number, and the grid row and the column of its place, where it has one
pub record Told : Type 0 where
  pub number : ℕ
  pub place : List ℕ

-- what Deal answers: 0, or the number of a refusal that has no place; or the first fault of the arrays, 18, 19 or 20 with its grid row and column
pub data DealAnswer : Type 0 where
  Number : ℕ → DealAnswer
  Fault : Found → DealAnswer

-- each case of its answer
unfoldable pub told : DealAnswer → Told
told (DealAnswer.Number n) = record { number = n; place = [] }
told (DealAnswer.Fault f) = record { number = f.number; place = f.grid_row ∷ f.column ∷ [] }

-- no two answers tell the same, so that what is told fixes the answer
unfoldable pub ToldApart : Type 0
ToldApart = (x y : DealAnswer) → told x ≡ told y → x ≡ y

-- each case of the code's answer
abbrev pub deal_answer : Result ⊤ DealRefusal → DealAnswer
deal_answer (Result.Ok u) = DealAnswer.Number 0
deal_answer (Result.Err (DealRefusal.Plain r)) = DealAnswer.Number (refusal_number r)
deal_answer (Result.Err (DealRefusal.Fault f)) = DealAnswer.Fault (record { number = refusal_number f.refusal; grid_row = f.grid_row; column = f.column })

-- nor do two of the code's
unfoldable pub AnswersToldApart : Type 0
AnswersToldApart = (x y : Result ⊤ DealRefusal) → told (deal_answer x) ≡ told (deal_answer y) → x ≡ y

-- DEAL, with its place: "each comes with the grid row and column of the first fault", and no other number does
unfoldable pub DealTells : (p n m w point : ℕ) → (value arrays seeds words : List ℕ) → Told → (out out_now : List ℕ)
    → Type 0
DealTells p n m w a v cs ss ws r o z =
    (r.place ≡ deal_place (board p n m w) (lent a v cs ss ws)) × DealSays p n m w a v cs ss ws r.number o z

-- KEY LENGTH: 1 to 5
unfoldable pub LongSays : (p n m w : ℕ) → Answer → Type 0
LongSays p n m w r = says (board_refusal (board p n m w)) (key_long (board p n m w)) r

-- rows of the board that a key names
unfoldable pub key_rule : (key : List ℕ) → List ℕ → List ℕ
key_rule ks seed = rule (head_in ks).board seed

-- OPEN ONE: the key's numbers, 14, 9
unfoldable pub OpenOneSays : (key : List ℕ) → (a : ℕ) → (r : ℕ) → (out out_now : List ℕ) → Type 0
OpenOneSays ks a r o z =
    PutSays
    (or_else (key_refusal ks) (cond (leb (head_in ks).board.n a) 14 (cond (ltb (length o) (head_in ks).board.w) 9 0)))
    (opened (λ seed. key_rule ks seed) ks a) r o z

-- OPEN ALL: the key's numbers, 9
unfoldable pub OpenAllSays : (key : List ℕ) → (r : ℕ) → (out out_now : List ℕ) → Type 0
OpenAllSays ks r o z =
    PutSays (or_else (key_refusal ks) (cond (ltb (length o) ((head_in ks).board.n * (head_in ks).board.w)) 9 0)) (table (λ seed. key_rule ks seed) ks) r o z

-- how wide shares that are joined may be, and cards: "Join shares takes widths to 256 from now on", "each L bytes, L
-- from 1 to 256"; a board's values keep their own bound
abbrev pub share_fits : (w : ℕ) → Bool
share_fits w = leb 1 w && leb w 256

-- DRAW CARD: the key's numbers, "21 when w of the key isn't 1, 22 when L is out of range or the deck isn't N × L bytes;
-- then 9"
unfoldable pub draw_refusal : Board → (l deck room : ℕ) → ℕ
draw_refusal b l d o =
    cond (not (eqb b.w 1)) 21 (cond (not (share_fits l && eqb d (b.n * l))) 22 (cond (ltb o l) 9 0))

-- it writes "the XOR of the cards at which its share has its lowest bit set", by the key's full table
unfoldable pub DrawSays : (key deck : List ℕ) → (l : ℕ) → (r : ℕ) → (out out_now : List ℕ) → Type 0
DrawSays ks deck l r o z =
    PutSays (or_else (key_refusal ks) (draw_refusal (head_in ks).board l (length deck) (length o)))
    (picked l (table (λ seed. key_rule ks seed) ks) deck) r o z

-- JOIN SHARES: 1, 4, 7, 9; "it writes the w-byte XOR"
unfoldable pub joined_shares : (left w : ℕ) → List ℕ → List ℕ
joined_shares zero w bs = zeros w
joined_shares (suc k) w bs = xors (take w bs) (joined_shares k w (drop w bs))

unfoldable pub shares_refusal : (p w long room : ℕ) → ℕ
shares_refusal p w l o =
    cond (not (players_fit p)) 1
    (cond (not (share_fits w)) 4 (cond (not (eqb l (p * w))) 7 (cond (ltb o w) 9 0)))

unfoldable pub JoinSays : (p w : ℕ) → (shares : List ℕ) → (r : ℕ) → (out out_now : List ℕ) → Type 0
JoinSays p w bs r o z = PutSays (shares_refusal p w (length bs) (length o)) (joined_shares p w bs) r o z

-- EXPAND: 7, 16; "it fills the output; length 0 is accepted", from a starting byte, "the start plus the output length
-- being at most 4,096 (else 16)"
unfoldable pub expand_refusal : (long s room : ℕ) → ℕ
expand_refusal l s o = cond (not (eqb l 32)) 7 (cond (ltb 4096 (s + o)) 16 0)

unfoldable pub ExpandSays : (seed : List ℕ) → (start : ℕ) → (r : ℕ) → (out out_now : List ℕ) → Type 0
ExpandSays bs s r o z = PutSays (expand_refusal (length bs) s (length o)) (expand_from s (length o) bs) r o z

-- CHOOSE WIDTH: "its order becomes 1, 2, 4"
unfoldable pub width_refusal : (p n w : ℕ) → ℕ
width_refusal p n w =
    cond (not (players_fit p)) 1 (cond (not (positions_fit n)) 2 (cond (not (value_fits w)) 4 0))

unfoldable pub WidthSays : (p n w : ℕ) → Answer → Type 0
WidthSays p n w r = says (width_refusal p n w) (width p n w) r

-- SENSOR POSITION: 17
unfoldable pub SensorSays : (s : ℕ) → Answer → Type 0
SensorSays s r = says (cond (leb 72 s) 17 0) (sensor_position s) r

-- WRITE PAGE: "the order is 2, 4, 7, 9"
unfoldable pub page_refusal : (n w long room : ℕ) → ℕ
page_refusal n w l o =
    cond (not (positions_fit n)) 2
    (cond (not (value_fits w)) 4 (cond (not (eqb l (n * w))) 7 (cond (ltb o (page_long n w)) 9 0)))

-- it writes the page, and "the answer gives the bytes written"
unfoldable pub PageSays : (n w : ℕ) → (table : List ℕ) → Answer → (out out_now : List ℕ) → Type 0
PageSays n w ts r o z =
    says (page_refusal n w (length ts) (length o)) (page_long n w) r
    × PutSays (page_refusal n w (length ts) (length o)) (page n w ts) r.refusal o z
