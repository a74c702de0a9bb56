-- The laws of the joining program: its numbers are Join keys' with a table of 65,536 bytes, but for inputs that are longer than any, of
-- which 65,537 bytes are enough. Assumes nothing.
use mathlib.Core.Path.{◌≡◌, refl, sym, ap, ◌∙◌, subst}
use mathlib.Core.Bool.{Bool, true, false}
use mathlib.Core.List.{List}
use Prim.Native.Nat.{ℕ, ◌+◌, ◌*◌, ◌≤◌, ◌<◌}
use native.Mathlib.Omega.{arith}
use lib.Dec.{ltb, eqb}
use lib.ListN.{length, take, replicate, length-replicate}
use lib.Seq.{length-take-le, take_all}
use borrow.Author.Tests.{lt-ltb, le-ltb, ltb-true, ltb-false, eqb-true, ne_eqb}
use Rattle.writer.specs.Written.{Wrote, in_front}
use Rattle.xor.specs.Xor.{bytes_good}
use Rattle.grid.specs.Grid.{Board, board}
use Rattle.grid.specs.Code.{board_of}
use Rattle.grid.proofs.Facts.{BoardIn, board_in}
use Rattle.keys.specs.Keys.{head_in, or_else, head_refusal}
use Rattle.keys.proofs.Accepted.{first_fits, next_fits, neither, head_fine}
use Rattle.keys.proofs.Cut.{head_cut}
use Rattle.key_header.specs.Answers.{KeyCheck, checked_by, heading_told}
use Rattle.key_header.specs.declared.header.Heading.{Heading}
use Rattle.key_header.proofs.Reading.{refused_says, accepted_says}
use Rattle.call_answers.specs.Answers.{PutSays}
use Rattle.join_keys_call.specs.JoinKeys.{keys_refusal, joined_table, JoinKeysSays}
use Rattle.call_answers.proofs.Answering.{put_refused, put_done}
use Rattle.call_answers.proofs.Putting.{answer_is, put, untouched, take_front}
use Rattle.promises.proofs.JoinedKeys.{Joined, joined_says, joined_word}
use Rattle.text.specs.Text.{refused_line, table_text}
use Rattle.text.proofs.Laws.{refused_most, table_most}
use Rattle.program_output.specs.Output.{Writes, Enough, Fits}
use Rattle.program_output.proofs.Writing.{writes_wrote, writes_as, writes_line, writes_within, either_fits, read_none, read_some, read_either}
use Rattle.program_join.specs.Joining.{joining_refusal, joined, joining_output, JoiningWhole, Joins, JoinsRead}

-- THE FIRST KEY'S OWN NUMBERS, OR ELSE 12

module _ (bs : List ℕ) where
  pub long_own : (n : ℕ) → KeyCheck.Refused n ≡ checked_by (head_refusal (head_in bs)) bs → n ≡ or_else (head_refusal (head_in bs)) 12
  long_own n e = let says = refused_says bs n _ e in sym (first_fits (head_refusal (head_in bs)) 12 says.1 ∙ says.0)

  pub long_length : (h : Heading) → KeyCheck.Accepted (heading_told h) ≡ checked_by (head_refusal (head_in bs)) bs → 12 ≡ or_else (head_refusal (head_in bs)) 12
  long_length h e = sym (next_fits (head_refusal (head_in bs)) 12 (accepted_says bs h _ e).none)

-- AS JOIN KEYS

pub joining_long : (bs : List ℕ) → 65536 < length bs → joining_refusal bs ≡ or_else (head_refusal (head_in bs)) 12
unfolding joining_refusal
joining_long bs h = rw (lt-ltb 65536 (length bs) h) refl

pub joining_short : (bs : List ℕ) → length bs ≤ 65536 → joining_refusal bs ≡ keys_refusal bs 65536
unfolding joining_refusal keys_refusal
joining_short bs h = rw (le-ltb 65536 (length bs) h)

-- an input that is longer than any is refused
long_refused : (bs : List ℕ) → 65536 < length bs → joining_refusal bs ≡ 0 → ⊥
long_refused bs h z = let last = (neither (head_refusal (head_in bs)) 12 (sym (joining_long bs h) ∙ z)).1 in omega arith

pub refused_long : (bs : List ℕ) (r : ℕ) (t : List ℕ) → 65536 < length bs → r ≡ or_else (head_refusal (head_in bs)) 12 →
    PutSays (joining_refusal bs) (joined bs) r t t
refused_long bs r t h e = put_refused (joining_refusal bs) (joined bs) r t t (long_refused bs h) (e ∙ sym (joining_long bs h)) refl

-- an accepted input is Join keys' accepted one
accepted_keys : (bs : List ℕ) → joining_refusal bs ≡ 0 → keys_refusal bs 65536 ≡ 0
accepted_keys bs z = go (ltb 65536 (length bs)) refl
  where
    go : (t : Bool) → ltb 65536 (length bs) ≡ t → keys_refusal bs 65536 ≡ 0
    go true e = absurd (long_refused bs (ltb-true 65536 (length bs) e) z)
    go false e = sym (joining_short bs (ltb-false 65536 (length bs) e)) ∙ z

head_accepted : (bs : List ℕ) → joining_refusal bs ≡ 0 → head_refusal (head_in bs) ≡ 0
unfolding joining_refusal
head_accepted bs z = (neither (head_refusal (head_in bs)) _ z).0

pub header_fine : (bs : List ℕ) (n : ℕ) → KeyCheck.Refused n ≡ checked_by (head_refusal (head_in bs)) bs → joining_refusal bs ≡ 0 → ⊥
header_fine bs n e z = (refused_says bs n _ e).1 (head_accepted bs z)

-- what Join keys would say of it, lent as much as it may ask for
module _ (bs : List ℕ) (accepted : joining_refusal bs ≡ 0) where
  room : List ℕ
  room = replicate 65536 0

  table : List ℕ
  table = joined_table (head_in bs).board.p (head_in bs).board bs

  accepted_joined : Joined bs room (in_front table room) (head_in bs).board
  unfolding JoinKeysSays room table
  accepted_joined =
      joined_says bs room (in_front table room)
      (put_done _ _ 0 room (in_front table room) (ap (λ (n : ℕ). keys_refusal bs n) (length-replicate {A = ℕ} 65536 0) ∙ accepted_keys bs accepted) refl refl)

  -- its table is small
  pub table_fits : (head_in bs).board.n * (head_in bs).board.w ≤ 65536
  unfolding room
  table_fits = omega (arith, accepted_joined.room, length-replicate {A = ℕ} 65536 0)

  -- and as long as its positions ask
  pub joined_long : bytes_good bs ≡ true → length (joined bs) ≡ (head_in bs).board.n * (head_in bs).board.w
  unfolding joined
  joined_long good = (joined_word bs room (in_front table room) (head_in bs).board good accepted_joined).long

-- Join keys on a table of the most bytes says what the program does
pub joined_here : (bs : List ℕ) (r : ℕ) (t u : List ℕ) → length bs ≤ 65536 → length t ≡ 65536 → JoinKeysSays bs r t u →
    PutSays (joining_refusal bs) (joined bs) r t u
unfolding JoinKeysSays joined
joined_here bs r t u short room says =
    subst (λ (n : ℕ). PutSays n (joined bs) r t u) (ap (λ (n : ℕ). keys_refusal bs n) room ∙ sym (joining_short bs short)) says

-- WHAT THE PROGRAM WRITES

module _ (bs : List ℕ) (r : ℕ) (t u : List ℕ) (says : PutSays (joining_refusal bs) (joined bs) r t u) (answer : ℕ) (o z : List ℕ) where
  number : r ≡ joining_refusal bs
  number = answer_is (joining_refusal bs) (joined bs) r t u says

  pub joins_refused : (r ≡ 0 → ⊥) → (n : ℕ) → Writes (refused_line n) answer o z → n ≡ r → Joins bs answer t u o z
  unfolding Joins joining_output
  joins_refused some n w same =
      rw (← number, ne_eqb r 0 some) (
        writes_line n r answer o z (refused_line r) w same refl,
        untouched (joining_refusal bs) (joined bs) r t u says some,
      )

  pub joins_accepted : bytes_good bs ≡ true → r ≡ 0 →
      Writes (table_text (head_in bs).board.p (head_in bs).board.n (head_in bs).board.w (take ((head_in bs).board.n * (head_in bs).board.w) u)) answer o z →
      Joins bs answer t u o z
  unfolding Joins joining_output
  joins_accepted good none w =
      let accepted : joining_refusal bs ≡ 0 = sym number ∙ none in
      let front : u ≡ in_front (joined bs) t = put (joining_refusal bs) (joined bs) r t u says accepted in
      let table : take ((head_in bs).board.n * (head_in bs).board.w) u ≡ joined bs =
      ap (λ (l : List ℕ). take ((head_in bs).board.n * (head_in bs).board.w) l) front ∙ take_front ((head_in bs).board.n * (head_in bs).board.w) (joined bs) t (joined_long bs accepted good) in
      rw accepted (
        subst (λ (l : List ℕ). Writes (table_text (head_in bs).board.p (head_in bs).board.n (head_in bs).board.w l) answer o z) table w,
        front,
      )

-- no more than there is room for
pub joins_within : (bs : List ℕ) (r : ℕ) (t u o z : List ℕ) → Joins bs r t u o z → r ≤ length z
unfolding Joins
joins_within bs r t u o z says = writes_within (joining_output bs) r o z says.0

-- the board of an accepted input is in its range
accepted_board : (bs : List ℕ) → joining_refusal bs ≡ 0 → BoardIn (head_in bs).board
accepted_board bs z = board_in (head_in bs).board (head_fine (head_in bs) (head_accepted bs z)).1

-- and the text of a table of that board is short
text_most : (bs : List ℕ) → joining_refusal bs ≡ 0 → (p : ℕ) (ts : List ℕ) →
    length (table_text p (head_in bs).board.n (head_in bs).board.w ts) ≤ 589879
text_most bs z p ts =
    let b = (head_in bs).board in
    let few = (accepted_board bs z).positions_most in
    omega (arith, table_most p b.n b.w ts few, table_fits bs z)

-- the header of an accepted input, as the code has it
module _ (bs : List ℕ) (h : Heading) (read : KeyCheck.Accepted (heading_told h) ≡ checked_by (head_refusal (head_in bs)) bs) where
  same_board : (head_in bs).board ≡ board_of h.board
  same_board = (accepted_says bs h _ read).board_is

  pub table_size : joining_refusal bs ≡ 0 → h.board.positions * h.board.value_bytes ≤ 65536
  unfolding board
  table_size z = subst (λ (b : Board). b.n * b.w ≤ 65536) same_board (table_fits bs z)

  pub table_cut : joining_refusal bs ≡ 0 → (t : List ℕ) (long : ℕ) → long ≡ h.board.positions * h.board.value_bytes → length t ≡ 65536 →
      length (take long t) ≡ long
  table_cut z t long is room = length-take-le long t (omega (arith, table_size z))

  pub text_room : joining_refusal bs ≡ 0 → (p : ℕ) (ts : List ℕ) (most : ℕ) → 589879 ≤ most →
      0 + length (table_text p h.board.positions h.board.value_bytes ts) ≤ most
  unfolding board
  text_room z p ts most enough =
      let short = subst (λ (b : Board). length (table_text p b.n b.w ts) ≤ 589879) same_board (text_most bs z p ts) in omega arith

  pub named_board : (answer : ℕ) (t o z : List ℕ) (p n w long : ℕ) → Wrote 0 (table_text p n w (take long t)) answer o z →
      p ≡ h.board.players → n ≡ h.board.positions → w ≡ h.board.value_bytes → long ≡ n * w →
      Writes (table_text (head_in bs).board.p (head_in bs).board.n (head_in bs).board.w (take ((head_in bs).board.n * (head_in bs).board.w) t)) answer o z
  unfolding board
  named_board answer t o z p n w long says players positions value is =
      rw (same_board, ← players, ← positions, ← value, ← is) (writes_wrote (table_text p n w (take long t)) says)

-- WHAT MAKES THE BUFFERS RIGHT

long_output : (bs : List ℕ) → 65536 < length bs → joining_output bs ≡ refused_line (joining_refusal bs)
unfolding joining_output
long_output bs h = rw (ne_eqb (joining_refusal bs) 0 (long_refused bs h))

-- an input above the most is refused by its first header, which stands in its first bytes
cut_refusal : (n : ℕ) (bs : List ℕ) → 65536 < n → n < length bs → joining_refusal (take n bs) ≡ joining_refusal bs
unfolding head_refusal
cut_refusal n bs h longer =
    let same = head_cut n bs (omega arith) in
    joining_long (take n bs) (rw (length-take-le n bs (omega arith)) h) ∙ rw (same.good, same.board, same.player) (sym (joining_long bs (omega arith)))

module _ {n : ℕ} (h : 65536 < n) where
  cut_above : (bs : List ℕ) → n < length bs → 65536 < length (take n bs)
  cut_above bs longer = rw (length-take-le n bs (omega arith)) h

  pub joining_enough : Enough n joining_output
  unfolding Enough
  joining_enough bs = go (ltb n (length bs)) refl
    where
      go : (t : Bool) → ltb n (length bs) ≡ t → joining_output (take n bs) ≡ joining_output bs
      go true e =
          let longer : n < length bs = ltb-true n (length bs) e in
          long_output (take n bs) (cut_above bs longer) ∙ ap (λ (k : ℕ). refused_line k) (cut_refusal n bs h longer) ∙ sym (long_output bs (omega arith))
      go false e = ap joining_output (take_all n bs (ltb-false n (length bs) e))

  -- and so is what is said of the table, which a refusal leaves as it was
  joins_cut : (bs : List ℕ) (r : ℕ) (t u o z : List ℕ) → Joins (take n bs) r t u o z → Joins bs r t u o z
  unfolding Joins Enough
  joins_cut bs r t u o z says = go (ltb n (length bs)) refl
    where
      go : (more : Bool) → ltb n (length bs) ≡ more → Joins bs r t u o z
      go true e =
          let longer : n < length bs = ltb-true n (length bs) e in
          let as_it_was = rw (ne_eqb (joining_refusal (take n bs)) 0 (long_refused (take n bs) (cut_above bs longer))) at says.1 in (
            writes_as (joining_output bs) (joining_output (take n bs)) r o z (sym (joining_enough bs)) says.0,
            rw (ne_eqb (joining_refusal bs) 0 (long_refused bs (omega arith))) as_it_was,
          )
      go false e = subst (λ (l : List ℕ). Joins l r t u o z) (take_all n bs (ltb-false n (length bs) e)) says

pub joining_fits : {n : ℕ} → 589879 ≤ n → Fits n joining_output
unfolding Fits joining_output
joining_fits {n} h bs =
    let b = (head_in bs).board in
    either_fits (eqb (joining_refusal bs) 0) (table_text b.p b.n b.w (joined bs)) (refused_line (joining_refusal bs)) n
    (λ e. omega (arith, text_most bs (eqb-true (joining_refusal bs) 0 e) b.p (joined bs)))
    (λ e. omega (arith, refused_most (joining_refusal bs)))

pub joining_whole : JoiningWhole
unfolding JoiningWhole
joining_whole = (joining_enough (omega arith), joining_fits (omega arith))

-- A BUFFER that an input was read into

module _ (xs : List ℕ) (n r : ℕ) (t u o z : List ℕ) where
  pub joins_read : 65536 < length xs → n ≤ length xs → Joins (take n xs) r t u o z → JoinsRead xs n r t u o z
  unfolding JoinsRead
  joins_read above within says =
      read_some xs n within (λ bs read. joins_cut above bs r t u o z (subst (λ (l : List ℕ). Joins l r t u o z) read says))

  pub joins_none : length xs < n → r ≡ 0 → u ≡ t → z ≡ o → JoinsRead xs n r t u o z
  unfolding JoinsRead
  joins_none above none table out = read_none xs n above (none, table, out)

  -- no more is written than there is room for
  pub joins_read_within : JoinsRead xs n r t u o z → r ≤ length z
  unfolding JoinsRead
  joins_read_within says = read_either xs n says (λ w. joins_within (take n xs) r t u o z w) (λ w. omega (arith, w.0))
