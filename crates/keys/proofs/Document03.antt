-- Document 03's own statements, each under its statement's name in small letters: its opening, which reads the words from the whole body, is
-- the opening from the header and the part alone, at every square; and a rule that is good on every list is good on seeds. Assumes nothing.
use mathlib.Core.Path.{◌≡◌, refl, sym, ap₂, ◌∙◌}
use mathlib.Core.Bool.{Bool, true, false, not, cond}
use mathlib.Core.List.{List}
use Prim.Native.Nat.{ℕ, zero, suc, ◌+◌, ◌*◌, ◌-◌, ◌/◌, ◌%◌, ◌≤◌, ◌<◌}
use native.Mathlib.Nat.{div-zero, div-mul-le_self, le-div_iff_mul-le, zero-lt-suc}
use native.Mathlib.Omega.{arith}
use lib.Dec.{leb, eqb}
use lib.ListN.{length, get_or, take, drop}
use borrow.Author.Tests.{eqb-true, eqb-false, ne_eqb}
use Rattle.xor.specs.Xor.{xors, zeros}
use Rattle.grid.specs.Grid.{Board, columns, grid_rows, board_refusal, bit, cell, arrays_good}
use Rattle.grid.specs.Faults.{has_place, FaultWhereBad}
use Rattle.grid.proofs.Faults.{fault_where_bad}
use Rattle.keys.specs.Keys.{mark_bytes, grid_row_part, opened_from, opened_part, opened, head_in, key}
use Rattle.keys.specs.Keys.{or_else, numbers_refusal, head_refusal, lent_fits, sizes_refusal, lent_fault, deal_refusal, key_refusal}
use Rattle.keys.specs.Promise as Promise
use Rattle.keys.specs.Document03 as Document03
use Rattle.keys.proofs.Opening.{word_behind_is}
use Rattle.keys.proofs.Accepted.{refusing}
use Rattle.keys.proofs.Lending.{board_most, fault_placed, small_unplaced, sizes_fit}
use Rattle.keys.proofs.Promise as Proved

-- OPENING

same_from : (k j n : ℕ) (b : Board) (f : List ℕ → List ℕ) (bs : List ℕ) (g c : ℕ) (xs : List ℕ) → g ≤ grid_rows b →
    Document03.opened_from k j n b f bs (grid_row_part b bs g) c xs ≡ opened_from k j n b f (grid_row_part b bs g) g c xs
unfolding Document03.opened_from opened_from Document03.word_in
same_from zero j n b f bs g c xs h = refl
same_from (suc k) j n b f bs g c xs h =
    let part = grid_row_part b bs g in
    let seed = take 32 (drop (mark_bytes b + 32 * n) part) in
    rw (word_behind_is b bs g j h)
    (ap₂ (cond (bit (get_or part (j / 8) 0) (j % 8)))
    (same_from k (suc j) (suc n) b f bs g c (xors xs (xors (cell b c (Document03.word_in b bs j)) (cell b c (f seed)))) h)
    (same_from k (suc j) n b f bs g c xs h))

-- every square has its grid row
quotient_mono : (a c m : ℕ) → a ≤ c → a / m ≤ c / m
quotient_mono a c zero h = rw (div-zero a) (omega arith)
quotient_mono a c (suc m) h = (le-div_iff_mul-le (zero-lt-suc m)).1 (omega (arith, div-mul-le_self a (suc m)))

square_row : (b : Board) (a : ℕ) → a < b.n → a / b.wide ≤ grid_rows b
unfolding grid_rows
square_row b a h = quotient_mono a (b.n + b.wide - 1) b.wide (omega arith)

pub same_opening : Document03.SameOpening
unfolding Document03.SameOpening Document03.opened opened opened_part
same_opening f ks a h =
    let b = (head_in ks).board in
    same_from (columns b) 0 0 b f (head_in ks).rest (a / b.wide) (a % b.wide) (zeros b.w) (square_row b a h)

-- THE REFUSALS: those of a board are the same text, those of a dealing the same but for 8, those of a key the same chain, cut behind the
-- header's own
deal_chain : (refused beyond other good : Bool) (n f : ℕ) → refused ≡ not (eqb n 0) → n ≤ 5 → ((f ≡ 0 → ⊥) → has_place f ≡ true)
    → (cond refused n (cond beyond 6 (cond other 7 0)) ≡ 0 → eqb f 0 ≡ good)
    → cond refused n (cond beyond 6 (cond other 7 (cond good 0 8)))
    ≡ Document03.eight_again (or_else (cond refused n (cond beyond 6 (cond other 7 0))) f)
unfolding Document03.eight_again or_else
deal_chain true beyond other good n f e small placed same =
    rw (ne_eqb n 0 (refusing n (sym e)), small_unplaced n (omega arith))
deal_chain false true other good n f e small placed same = refl
deal_chain false false true good n f e small placed same = refl
deal_chain false false false good n f e small placed same = rw (← same refl) (go (eqb f 0) refl)
  where
    go : (t : Bool) → eqb f 0 ≡ t → ◌≡◌ {A = ℕ} (cond t 0 8) (cond (has_place f) 8 f)
    go true h = rw (eqb-true f 0 h)
    go false h = rw (placed (eqb-false f 0 h))

chain : (good board player : Bool) (n r : ℕ) → board ≡ eqb n 0 →
    cond (not good) 10 (cond (not board) n (cond player 11 r)) ≡ or_else (cond (not good) 10 (cond (not board) n (cond player 11 0))) r
unfolding or_else
chain false board player n r e = refl
chain true true true n r e = refl
chain true true false n r e = refl
chain true false player n r e = rw (← e)

pub same_refusals : Document03.SameRefusals
unfolding Document03.board_refusal Document03.deal_refusal Document03.key_refusal board_refusal deal_refusal sizes_refusal key_refusal head_refusal
    numbers_refusal FaultWhereBad
same_refusals =
    record {
      board = λ b. refl;
      deal = λ b l.
          deal_chain _ (leb b.n l.point) (not (lent_fits b (length l.value) (length l.arrays) (length l.seeds) (length l.words)))
          (arrays_good (grid_rows b) 0 b l.point l.arrays) (board_refusal b) (lent_fault b l).number refl (board_most b) (fault_placed b l)
          (λ none. fault_where_bad b l.point l.arrays (sizes_fit b l none).arrays);
      key = λ bs. let h = head_in bs in chain h.good (eqb (board_refusal h.board) 0) (leb h.board.p h.player) (board_refusal h.board) _ refl;
    }

-- RULES

-- a rule that is good on every list is good on seeds
pub rule_good : (b : Board) (f : List ℕ → List ℕ) → Document03.RuleGood b f → Promise.RuleGood b f
unfolding Document03.RuleGood Promise.RuleGood
rule_good b f rule seed long good = rule seed

-- THE STATEMENTS

pub tables_join : Document03.TablesJoin
unfolding Document03.TablesJoin Promise.TablesJoin
tables_join b f l a lent rule h = Proved.tables_join b f l a lent (rule_good b f rule) h

pub keys_open : Document03.KeysOpen
unfolding Document03.KeysOpen Document03.SameOpening Promise.KeysOpen Promise.ReadsParts
keys_open b f l i a lent rule h p =
    let good = rule_good b f rule in
    let opens = Proved.keys_open b f l i a lent good h p in
    let board = (Proved.reads_parts b f l i lent good h).1 in
    (same_refusals.key (key b f l i) ∙ opens.0, opens.1, same_opening f (key b f l i) a (rw board p) ∙ opens.2)

pub opens_alone : Document03.OpensAlone
unfolding Document03.OpensAlone Document03.SameOpening Promise.OpensAlone
opens_alone f ks a r g rule h =
    Proved.opens_alone f ks a (sym (same_refusals.key ks) ∙ r) g (rule_good (head_in ks).board f rule) h ∙ sym (same_opening f ks a h)

pub reads_parts : Document03.ReadsParts
unfolding Document03.ReadsParts Promise.ReadsParts
reads_parts b f l i lent rule h = Proved.reads_parts b f l i lent (rule_good b f rule) h
