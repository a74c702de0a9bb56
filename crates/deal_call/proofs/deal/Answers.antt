-- `deal_call::deal` meets its contract: each answer's place, and its number with what is written. Assumes nothing.
use mathlib.Core.Path.{◌≡◌, sym, ap, ◌∙◌, subst}
use Prim.Native.Nat.{ℕ, ◌*◌, ◌≤◌}
use native.Mathlib.Omega.{arith}
use mathlib.Core.List.{List}
use lib.ListN.{length}
use Rattle.std.specs.Prelude.{Result, ⊤}
use Rattle.std.proofs.lemmas.Result.{err_from_is_err_and}
use Rattle.grid.specs.Grid.{Board, board}
use Rattle.keys.specs.Keys.{Lent, key_long, deal_refusal, deal_place, lent}
use Rattle.dealing.specs.Code.{lent_of}
use Rattle.dealing.specs.declared.DealRefusal.{DealRefusal}
use Rattle.call_answers.specs.Answers.{told, deal_answer, DealTells}
use Rattle.call_answers.proofs.Sizes.{keys_short, room_for}
use Rattle.writer.specs.Written.{in_front}
use Rattle.deal_keys.specs.Dealt.{dealt_keys}
use Rattle.deal_call.proofs.Saying.{board_refused, dealing_refused, room_refused, dealt}
use Rattle.deal_call.proofs.deal.Goals as goal
use Rattle.deal_call.proofs.deal.Goals.{Start, In_ok-dealing, After-key_length}

-- the contract, of an answer and what is left in the output
abbrev Tells : Start → Result ⊤ DealRefusal → List ℕ → Type 0
Tells s r z =
    let a = s.args in
    DealTells a.players a.positions a.width a.value_bytes a.point a.value.now a.arrays.now a.seeds.now a.words.now (told (deal_answer r)) a.keys.now z

pub returns-in_err-board : goal.returns-in_err-board
returns-in_err-board c =
    let a = c.args in
    let err = err_from_is_err_and _ c.from_residual.ensures.1 in
    subst (λ (r : Result ⊤ DealRefusal). Tells (goal.at.returns-in_err-board c).Start r a.keys.now) (sym (err.1 ∙ ap Result.Err err.2))
    (board_refused a.players a.positions a.width a.value_bytes a.point a.value.now a.arrays.now a.seeds.now a.words.now a.keys.now
    c.in_err-board.field-0.0 c.in_err-board.ensures.refusal)

pub returns-in_err-dealing : goal.returns-in_err-dealing
returns-in_err-dealing c =
    let a = c.args in
    let err = err_from_is_err_and _ c.from_residual-in_err-dealing.ensures.1 in
    let on = c.in_ok-board.ensures.numbers in
    let l = lent a.point a.value.now a.arrays.now a.seeds.now a.words.now in
    subst (λ (r : Result ⊤ DealRefusal). Tells (goal.at.returns-in_err-dealing c).Start r a.keys.now) (sym (err.1 ∙ ap Result.Err err.2))
    (dealing_refused a.players a.positions a.width a.value_bytes a.point a.value.now a.arrays.now a.seeds.now a.words.now a.keys.now
    c.in_err-dealing.field-0.0 (c.in_err-dealing.ensures.number ∙ ap (λ (b : Board). deal_refusal b l) on)
    (c.in_err-dealing.ensures.place ∙ ap (λ (b : Board). deal_place b l) on))

-- nothing but room can refuse it now
nothing : (c : In_ok-dealing) → let a = c.args in
    0 ≡ deal_refusal (board a.players a.positions a.width a.value_bytes) (lent a.point a.value.now a.arrays.now a.seeds.now a.words.now)
nothing c =
    let a = c.args in
    let l = lent a.point a.value.now a.arrays.now a.seeds.now a.words.now in
    c.in_ok-dealing.ensures.number ∙ ap (λ (b : Board). deal_refusal b l) c.in_ok-board.ensures.numbers

long : (c : After-key_length) → let a = c.args in c.key_length.result ≡ key_long (board a.players a.positions a.width a.value_bytes)
long c = c.key_length.ensures ∙ ap key_long c.in_ok-board.ensures.numbers

pub returns-then-keys-players : goal.returns-then-keys-players
returns-then-keys-players c =
    let a = c.args in
    let at = goal.at.returns-then-keys-players c in
    subst (λ (r : DealRefusal). Tells at.Start (Result.Err r) a.keys.now) (sym c.into.ensures)
    (room_refused a.players a.positions a.width a.value_bytes a.point a.value.now a.arrays.now a.seeds.now a.words.now a.keys.now
    (nothing at.In_ok-dealing) _ (long at.After-key_length) (omega (arith, c.if-keys-players.true)))

pub returns : goal.returns
returns c =
    let a = c.args in
    let at = goal.at.returns c in
    let parts = c.in_ok-dealing.ensures.parts in
    dealt a.players a.positions a.width a.value_bytes a.point a.value.now a.arrays.now a.seeds.now a.words.now a.keys.now
    (nothing at.In_ok-dealing) _ (long at.After-key_length) _ (omega (arith, c.if-keys-players.false))
    (c.deal_keys.ensures
    ∙ ap (λ (b : Board). in_front (dealt_keys b (lent_of c.in_ok-dealing.dealing)) a.keys.now) (parts.0 ∙ c.in_ok-board.ensures.numbers)
    ∙ ap (λ (l : Lent). in_front (dealt_keys (board a.players a.positions a.width a.value_bytes) l) a.keys.now) parts.1)

pub overflow_mul-players : goal.overflow_mul-players
unfolding board
overflow_mul-players c = omega (arith, keys_short _ (sym c.in_ok-board.ensures.refusal) (long c))

pub deal_keys-requires : goal.deal_keys-requires
unfolding board
deal_keys-requires c =
    subst (λ (b : Board). b.p * key_long b ≤ length c.args.keys.now) (sym (c.in_ok-dealing.ensures.parts.0 ∙ c.in_ok-board.ensures.numbers))
    (room_for c.args.players (long (goal.at.deal_keys-requires c).After-key_length) (omega (arith, c.if-keys-players.false)))
