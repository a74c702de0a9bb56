-- What Deal says of each way out: the number with every lent byte, and the place. Assumes nothing.
use mathlib.Core.Path.{◌≡◌, refl, sym, ◌∙◌}
use mathlib.Core.Bool.{cond}
use mathlib.Core.List.{List}
use Prim.Native.Nat.{ℕ, ◌*◌, ◌≤◌, ◌<◌}
use native.Mathlib.Omega.{arith}
use borrow.Author.Tests.{ne_eqb, le-ltb, lt-ltb}
use lib.Dec.{ltb}
use lib.ListN.{length}
use Rattle.std.specs.Prelude.{Result}
use Rattle.refusal.specs.Refusing.{refusal_number}
use Rattle.refusal.specs.declared.Refusal.{Refusal}
use Rattle.refusal.proofs.Numbers.{number_some}
use Rattle.grid.specs.Grid.{Board, board, board_refusal}
use Rattle.keys.specs.Keys.{Lent, key_long, sizes_refusal, deal_refusal, deal_place, or_else, lent}
use Rattle.keys.proofs.Accepted.{first_fits, next_fits}
use Rattle.keys.proofs.Lending.{board_most}
use Rattle.dealing.specs.Refused.{refused_number, refused_place}
use Rattle.dealing.specs.declared.DealRefusal.{DealRefusal}
use Rattle.dealing.proofs.Lending.{unplaced}
use Rattle.deal_keys.specs.Dealt.{dealt_keys}
use Rattle.call_answers.specs.Answers.{told, deal_answer, DealSays, DealTells}
use Rattle.writer.specs.Written.{in_front}
use Rattle.call_answers.proofs.Answering.{put_number, put_done}

module _ (p n m w a : ℕ) (v cs ss ws o : List ℕ) where
  abbrev on : Board
  on = board p n m w

  abbrev l : Lent
  l = lent a v cs ss ws

  refused_by : (r : ℕ) → r ≡ deal_refusal on l → (r ≡ 0 → ⊥) → DealSays p n m w a v cs ss ws r o o
  unfolding DealSays
  refused_by r e h = put_number _ r _ o (first_fits (deal_refusal on l) _ (λ z. h (e ∙ z)) ∙ sym e) h

  -- 6, 7, and 18 to 20 with their place
  pub dealing_refused : (r : DealRefusal) → refused_number r ≡ deal_refusal on l → refused_place r ≡ deal_place on l
      → DealTells p n m w a v cs ss ws (told (deal_answer (Result.Err r))) o o
  unfolding told DealTells
  dealing_refused (DealRefusal.Plain r) e place = (place, refused_by (refusal_number r) e (number_some r))
  dealing_refused (DealRefusal.Fault f) e place = (place, refused_by (refusal_number f.refusal) e (number_some f.refusal))

  -- 1 to 5
  board_is : (r : Refusal) → refusal_number r ≡ board_refusal on → sizes_refusal on l ≡ refusal_number r
  unfolding sizes_refusal
  board_is r e = rw (← e, ne_eqb (refusal_number r) 0 (number_some r))

  pub board_refused : (r : Refusal) → refusal_number r ≡ board_refusal on → DealTells p n m w a v cs ss ws (told (deal_answer (Result.Err (DealRefusal.Plain r)))) o o
  unfolding deal_refusal
  board_refused r e =
      let sizes = board_is r e in
      let number : refusal_number r ≡ deal_refusal on l = sym (first_fits (sizes_refusal on l) _ (λ z. number_some r (sym sizes ∙ z)) ∙ sizes) in
      dealing_refused (DealRefusal.Plain r) number (unplaced on l (refusal_number r) number (omega (arith, board_most on)))

  module _ (none : 0 ≡ deal_refusal on l) (long : ℕ) (k : long ≡ key_long on) where
    room_number : or_else (deal_refusal on l) (cond (ltb (length o) (p * key_long on)) 9 0) ≡ cond (ltb (length o) (p * long)) 9 0
    room_number = next_fits (deal_refusal on l) _ (sym none) ∙ rw k

    -- 9
    pub room_refused : length o < p * long → DealTells p n m w a v cs ss ws (told (deal_answer (Result.Err (DealRefusal.Plain Refusal.Room)))) o o
    unfolding told DealTells DealSays
    room_refused h =
        (unplaced on l 0 none (omega arith), put_number _ 9 _ o (room_number ∙ rw (lt-ltb (length o) (p * long) h)) (λ z. omega arith))

    pub dealt : (z : List ℕ) → p * long ≤ length o → z ≡ in_front (dealt_keys on l) o → DealTells p n m w a v cs ss ws (told (deal_answer (Result.Ok tt))) o z
    unfolding told DealTells DealSays dealt_keys board
    dealt z h e = (unplaced on l 0 none (omega arith), put_done _ _ 0 o z (room_number ∙ rw (le-ltb (length o) (p * long) h)) refl e)
