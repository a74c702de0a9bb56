-- `witness::deal_open_join` meets its contract, by the contracts of Deal, Key length and Open all. Assumes nothing.
use mathlib.Core.Path.{◌≡◌, refl, sym, ◌∙◌}
use Prim.Native.Nat.{◌*◌, ◌≤◌}
use native.Mathlib.Omega.{arith}
use borrow.Author.Rules.{rules}
use lib.ListN.{length}
use lib.Seq.{length-take-le}
use Rattle.xor.proofs.Laws.{good_by_entries}
use Rattle.refusal.specs.Refusing.{answer_number}
use Rattle.refusal.proofs.Numbers.{number_some}
use Rattle.dealing.specs.Refused.{refused_number}
use Rattle.call_answers.proofs.Telling.{says_refused, says_dealt}
use Rattle.witness.proofs.Showing.{lent_fits, Asked, deal_refused, rooms, length_there, each_opens, piece_shown}
use Rattle.witness.proofs.deal_open_join.Goals as goal
use Rattle.witness.proofs.deal_open_join.Goals.{After-from_residual, In_ok-deal}

-- Deal as it was asked, where it did not refuse
abbrev dealt : (c : In_ok-deal) →
    let args = c.args in
    Asked args.players args.positions args.width args.value_bytes args.point args.value.now args.arrays.now args.seeds.now
    args.words.now args.keys.now args.table.now args.joined.now 0
dealt c =
    record {
      value_bytes = good_by_entries _ (λ i _. (c.type_inv.value i).fits);
      seeds_bytes = good_by_entries _ (λ i _. (c.type_inv.seeds i).fits);
      words_bytes = good_by_entries _ (λ i _. (c.type_inv.words i).fits);
      room = _;
      given = c.keys_lent-room.ensures;
      part = _;
      says = says_dealt _ _ _ _ _ _ _ _ _ _ _ _ c.in_ok-deal.ensures;
    }

-- the refusal that is handed on has the number of Deal's
number : (c : After-from_residual) → answer_number c.from_residual.result ≡ refused_number c.in_err-deal.field-0.0
number c = search rules

-- Deal as it was asked, where it refused
abbrev refused : (c : After-from_residual) →
    let args = c.args in
    Asked args.players args.positions args.width args.value_bytes args.point args.value.now args.arrays.now args.seeds.now
    args.words.now args.keys.now args.table.now args.joined.now (answer_number c.from_residual.result)
refused c =
    record {
      value_bytes = good_by_entries _ (λ i _. (c.type_inv.value i).fits);
      seeds_bytes = good_by_entries _ (λ i _. (c.type_inv.seeds i).fits);
      words_bytes = good_by_entries _ (λ i _. (c.type_inv.words i).fits);
      room = _;
      given = c.keys_lent-room.ensures;
      part = _;
      says = says_refused _ _ _ _ _ _ _ _ _ _ _ _ _ c.in_err-deal.ensures (number c);
    }

pub slice_bounds-deal-end : goal.slice_bounds-deal-end
slice_bounds-deal-end c = lent_fits _ _ _ _ _ c.keys_lent-room.ensures

pub slice_bounds-deal-end-2 : goal.slice_bounds-deal-end-2
slice_bounds-deal-end-2 c = sym (length-take-le _ _ (lent_fits _ _ _ _ _ c.keys_lent-room.ensures))

pub returns-in_err-deal : goal.returns-in_err-deal
returns-in_err-deal c = deal_refused (refused (goal.at.returns-in_err-deal c).After-from_residual) (search (rules, number_some))

-- a board that Deal accepts has a length
pub returns-in_err-key_bytes : goal.returns-in_err-key_bytes
returns-in_err-key_bytes c =
    absurd (length_there (dealt (goal.at.returns-in_err-key_bytes c).In_ok-deal) refl _ c.in_err-key_bytes.ensures)

-- where Deal did not refuse, both tables have room
room : (c : In_ok-deal) → let args = c.args in
    (args.positions * args.value_bytes ≤ length args.table.now) × (args.positions * args.value_bytes ≤ length args.joined.now)
room c = let fits = rooms (dealt c) refl in (fits.1, fits.2)

pub slice_bounds-join_tables-end : goal.slice_bounds-join_tables-end
slice_bounds-join_tables-end c = omega (arith, room (goal.at.slice_bounds-join_tables-end c).In_ok-deal)

pub slice_bounds-join_tables-end-2 : goal.slice_bounds-join_tables-end-2
slice_bounds-join_tables-end-2 c = sym (length-take-le _ _ (omega (arith, room (goal.at.slice_bounds-join_tables-end-2 c).In_ok-deal)))

pub slice_bounds-join_tables-end-3 : goal.slice_bounds-join_tables-end-3
slice_bounds-join_tables-end-3 c = omega (arith, room (goal.at.slice_bounds-join_tables-end-3 c).In_ok-deal)

pub slice_bounds-join_tables-end-4 : goal.slice_bounds-join_tables-end-4
slice_bounds-join_tables-end-4 c = sym (length-take-le _ _ (omega (arith, room (goal.at.slice_bounds-join_tables-end-4 c).In_ok-deal)))

pub join_tables-requires : goal.join_tables-requires
join_tables-requires c =
    let at = (goal.at.join_tables-requires c).In_ok-deal in
    let fits = room at in
    let opened = each_opens (dealt at) refl _ c.in_ok-key_bytes.ensures _ _ (length-take-le _ _ (omega (arith, fits)))
    (length-take-le _ _ (omega (arith, fits))) in
    record { opens_each = opened.0; joined_len = opened.1 }

pub returns : goal.returns
returns c =
    let made = c.join_tables in
    let at = (goal.at.returns c).In_ok-deal in
    let fits = room at in
    piece_shown (dealt at) refl _ c.in_ok-key_bytes.ensures _ _ _ (length-take-le _ _ (omega (arith, fits)))
    (made.auto.table ∙ length-take-le _ _ (omega (arith, fits))) (made.auto.joined ∙ length-take-le _ _ (omega (arith, fits)))
    made.ensures.joined_after made.ensures.table_after
