-- What the calls of a tally say behind its own numbers, and what is written. Assumes nothing.
use mathlib.Core.Path.{◌≡◌, refl, sym, ap, ◌∙◌}
use mathlib.Core.Bool.{Bool, true, false, cond}
use mathlib.Core.List.{List, ◌++◌}
use Prim.Native.Nat.{ℕ, ◌+◌, ◌*◌, ◌-◌}
use native.Mathlib.Omega.{arith}
use lib.Dec.{leb, ltb}
use lib.ListN.{length, take, drop, replicate}
use Rattle.xor.specs.Xor.{xors, zeros}
use Rattle.xor.proofs.Laws.{word_zeros}
use Rattle.writer.specs.Written.{in_front}
use Rattle.writer.proofs.Laws.{in_front_part}
use Rattle.seed_rows.specs.Rows.{rule}
use Rattle.refusal.specs.Refusing.{refusal_number}
use Rattle.refusal.specs.declared.Refusal.{Refusal}
use Rattle.refusal.proofs.Numbers.{number_some}
use Rattle.grid.specs.Code.{board_of}
use Rattle.keys.specs.Keys.{or_else, key_refusal, head_in, table}
use Rattle.keys.proofs.Accepted.{first_fits, next_fits}
use Rattle.key_check.specs.declared.body.Body.{Body}
use Rattle.open_key.specs.Opened.{table_of}
use Rattle.open_key.proofs.Headed.{Read, table_by_rule}
use Rattle.page.specs.Page.{entry_at}
use Rattle.call_answers.specs.Answers.{key_rule, joined_shares}
use Rattle.call_answers.proofs.Answering.{put_done, put_number}
use Rattle.call_answers.proofs.Weighing.{short, beyond, room_number, place_number}
use Rattle.tally.specs.Tallies.{tally_long, entries, tally_refusal, takes, MakeSays, add_refusal, AddSays, LookUpSays, total, TotalSays}
use Rattle.tally.specs.declared.Tally.{Tally}

-- MAKE: so many bytes of the table were cleared
pub made : (t : Tally) (o : List ℕ) → 0 ≡ tally_refusal t (length o) → (last : List ℕ) (k : ℕ) → last ≡ replicate (length (take k o)) 0 → length last ≡ k →
    k ≡ tally_long t → MakeSays t 0 o (last ++ drop k o)
unfolding MakeSays zeros
made t o none last k cleared kept long =
    let many = length (take k o) in
    let so_long : many ≡ tally_long t = sym (ap length cleared ∙ (word_zeros many).long) ∙ kept ∙ long in
    put_done _ _ 0 o _ (sym none) refl (in_front_part (zeros (tally_long t)) last o k kept (cleared ∙ ap zeros so_long))

-- ADD

module _ (t : Tally) (ks o : List ℕ) (none : 0 ≡ tally_refusal t (length o)) where
  behind : (rest : ℕ) → or_else (tally_refusal t (length o)) rest ≡ rest
  behind rest = next_fits (tally_refusal t (length o)) rest (sym none)

  pub add_key_refused : (r : Refusal) → refusal_number r ≡ key_refusal ks → AddSays t ks (refusal_number r) o o
  unfolding AddSays add_refusal
  add_key_refused r e =
      put_number _ (refusal_number r) _ o (behind _ ∙ first_fits (key_refusal ks) _ (λ z. number_some r (e ∙ z)) ∙ sym e) (number_some r)

  module _ (player : ℕ) (body : Body) (accepted : 0 ≡ key_refusal ks) (read : Read ks player body) (fits : Bool)
      (asked : fits ≡ takes t (board_of body.board) player)
    where
      later : add_refusal t ks (length o) ≡ cond fits 0 23
      unfolding add_refusal
      later = behind _ ∙ next_fits (key_refusal ks) _ (sym accepted) ∙ rw (← read.1, ← read.0, ← asked)

      pub add_other : (r : ℕ) → fits ≡ false → r ≡ 23 → AddSays t ks r o o
      unfolding AddSays
      add_other r other number =
          put_number _ r _ o (later ∙ ap (λ (f : Bool). cond f 0 23) other ∙ sym number) (λ z. omega arith)

      -- the key's table was XORed into so many bytes of the lent one
      pub added : (last : List ℕ) (k : ℕ) → fits ≡ true → length last ≡ k →
          last ≡ xors (take k o) (table_of (board_of body.board) (rule (board_of body.board)) body.bytes.now) → k ≡ tally_long t →
          AddSays t ks 0 o (last ++ drop k o)
      unfolding AddSays entries key_rule
      added last k own_key kept now long =
          put_done _ _ 0 o _ (later ∙ ap (λ (f : Bool). cond f 0 23) own_key) refl
          (in_front_part (xors (take (tally_long t) o) (table (rule (head_in ks).board) ks)) last o k kept
          (now ∙ rw (table_by_rule ks player body read, long)))

-- LOOK UP AND TOTAL

-- the part that was written is the entry
pub entry_part : (w : ℕ) (bs : List ℕ) (a at : ℕ) → at ≡ a * w → take (at + w - at) (drop at bs) ≡ entry_at w bs a
unfolding entry_at
entry_part w bs a at e = let wide : at + w - at ≡ w = omega arith in rw (wide, e)

module _ (t : Tally) (bs o : List ℕ) (none : 0 ≡ tally_refusal t (length bs)) where
  -- the numbers due behind the tally's own, as sums: 14 for a position that is none, 9 for a short room
  abbrev position_due : ℕ → ℕ
  position_due a = 14 * beyond t.positions a + (9 * short (length o) t.value_bytes - 9 * beyond t.positions a)

  position_number : (a : ℕ) → or_else (tally_refusal t (length bs)) (cond (leb t.positions a) 14 (cond (ltb (length o) t.value_bytes) 9 0))
      ≡ position_due a
  position_number a =
      next_fits (tally_refusal t (length bs)) _ (sym none) ∙ place_number 14 t.positions a (length o) t.value_bytes

  total_number : or_else (tally_refusal t (length bs)) (cond (ltb (length o) t.value_bytes) 9 0) ≡ 9 * short (length o) t.value_bytes
  total_number = next_fits (tally_refusal t (length bs)) _ (sym none) ∙ room_number (length o) t.value_bytes

  pub no_entry : (a r : ℕ) → r ≡ position_due a → (r ≡ 0 → ⊥) → LookUpSays t bs a r o o
  unfolding LookUpSays
  no_entry a r due some = put_number _ r _ o (position_number a ∙ sym due) some

  pub looked_up : (a : ℕ) (z part : List ℕ) → 0 ≡ position_due a → z ≡ in_front part o → part ≡ entry_at t.value_bytes bs a → LookUpSays t bs a 0 o z
  unfolding LookUpSays
  looked_up a z part due now there =
      put_done _ _ 0 o z (position_number a ∙ sym due) refl (now ∙ ap (λ (new : List ℕ). in_front new o) there)

  pub no_room : (r : ℕ) → r ≡ 9 * short (length o) t.value_bytes → (r ≡ 0 → ⊥) → TotalSays t bs r o o
  unfolding TotalSays
  no_room r due some = put_number _ r _ o (total_number ∙ sym due) some

  -- so many entries of so many bytes were joined
  pub totalled : (last part : List ℕ) (many wide k : ℕ) → 0 ≡ 9 * short (length o) t.value_bytes → last ≡ joined_shares many wide part →
      length last ≡ wide → wide ≡ k → k ≡ t.value_bytes → many ≡ t.positions → part ≡ entries t bs → TotalSays t bs 0 o (last ++ drop k o)
  unfolding TotalSays total
  totalled last part many wide k due now kept room bytes all whole =
      put_done _ _ 0 o _ (total_number ∙ sym due) refl
      (in_front_part (joined_shares t.positions t.value_bytes (entries t bs)) last o k (kept ∙ room) (now ∙ rw (room, all, bytes, whole)))
