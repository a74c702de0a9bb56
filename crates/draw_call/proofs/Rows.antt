-- One grid row of a deck: its entries, worked out in bytes that are cleared first and made masks then, pick what they pick; and where its
-- cards begin. Assumes nothing.
use mathlib.Core.Path.{◌≡◌, sym, ap, ◌∙◌}
use mathlib.Core.List.{List}
use Prim.Native.Nat.{ℕ, ◌+◌, ◌*◌, ◌-◌, ◌≤◌, ◌<◌, min}
use native.Mathlib.Nat.{mul-le-mul_right}
use native.Mathlib.Omega.{arith}
use lib.ListN.{length, take, drop}
use Rattle.xor.specs.Xor.{xors, zeros}
use Rattle.xor.proofs.Laws.{Word, word_take, word_drop, word_zeros, xors_zeros_left}
use Rattle.grid.specs.Grid.{Board, grid_rows, row_long}
use Rattle.grid.proofs.Facts.{BoardIn}
use Rattle.grid.proofs.Cells.{take-zeros}
use Rattle.keys.specs.Promise.{RuleGood}
use Rattle.keys.proofs.Accepted.{BodyIn}
use Rattle.open_key.specs.Opened.{table_of, entries_long, entries_of}
use Rattle.open_key.proofs.GridRows.{row_begins, rows_past, count_is, entries_cut, table_word}
use Rattle.cards.specs.Cards.{picked, masks}
use Rattle.cards.proofs.Masks.{picked_masks}
use Rattle.cards.proofs.Decks.{picked_word, Remaining, next_picked, all_picked}

module _ (b : Board) (f : List ℕ → List ℕ) (bs : List ℕ) (board : BoardIn b) (rule : RuleGood b f) (body : BodyIn b bs)
    (g : ℕ) (inside : g < grid_rows b)
  where
    entries_word : Word (entries_long b g) (entries_of b f bs g)
    unfolding entries_of entries_long
    entries_word =
        let table = table_of b f bs in
        word_take _ (drop (g * row_long b) table) (omega arith) (word_drop (g * row_long b) table (table_word b f bs board rule body))

    pub row_picked : (l : ℕ) (old cleared added wanted cards : List ℕ) → length old ≡ entries_long b g → cleared ≡ zeros (length old) →
        added ≡ xors cleared (entries_of b f bs g) → wanted ≡ masks added → picked l wanted cards ≡ picked l (entries_of b f bs g) cards
    row_picked l old cleared added wanted cards long clear is made =
        let fresh : added ≡ entries_of b f bs g = is ∙ rw (clear, long) (xors_zeros_left (entries_long b g) (entries_of b f bs g) entries_word) in
        rw (made, fresh) (picked_masks l (entries_of b f bs g) cards)

-- VALUES OF ONE BYTE: a position is a place in the table, and a grid row is as long as it is wide
module _ (b : Board) (one : b.w ≡ 1) where
  row_wide : b.wide ≡ row_long b
  unfolding row_long
  row_wide = rw one (omega arith)

  table_all : b.n ≡ b.n * b.w
  table_all = rw one (omega arith)

  -- a grid row, by the code's numbers: where its cards begin, and how many there are
  module _ (board : BoardIn b) (g at count : ℕ) (inside : g < grid_rows b) (place : at ≡ g * b.wide) (size : count ≡ min b.wide (b.n - at)) where
    row_within : at + count ≤ b.n
    row_within = omega (arith, row_begins b board g inside)

    pub row_count : count ≡ entries_long b g
    row_count = count_is b g b.wide b.n count row_wide table_all (size ∙ rw place)

    pub row_cards : (l : ℕ) (deck : List ℕ) → length deck ≡ b.n * l → at * l + count * l ≤ length deck
    row_cards l deck long =
        let both : at * l + count * l ≡ (at + count) * l = omega arith in
        omega (arith, both, mul-le-mul_right l row_within)

  module _ (f : List ℕ → List ℕ) (bs : List ℕ) (board : BoardIn b) (rule : RuleGood b f) (body : BodyIn b bs) where
    abbrev table : List ℕ
    table = table_of b f bs

    table_long : length table ≡ b.n
    table_long = (table_word b f bs board rule body).long ∙ sym table_all

    cards_enough : (l : ℕ) (deck : List ℕ) → length deck ≡ b.n * l → length table * l ≤ length deck
    cards_enough l deck size = rw table_long (omega arith)

    -- behind the last grid row all is picked
    pub deck_picked : (l : ℕ) (old deck out : List ℕ) (g : ℕ) → length deck ≡ b.n * l → g ≡ grid_rows b →
        Remaining l old table deck out (min (g * b.wide) b.n) → out ≡ xors old (picked l table deck)
    deck_picked l old deck out g size last so_far =
        let past = rows_past b board g b.wide b.n last row_wide table_all in
        let end : min (g * b.wide) b.n ≡ length table = omega (arith, table_long) in
        all_picked l old table deck out _ (cards_enough l deck size) so_far end

    -- picked into zeros it is the sum itself
    pub deck_fresh : (l room : ℕ) (deck new : List ℕ) → l ≤ room → length deck ≡ b.n * l →
        new ≡ xors (take l (zeros room)) (picked (length (take l (zeros room))) table deck) → new ≡ picked l table deck
    deck_fresh l room deck new fits size made =
        let none : take l (zeros room) ≡ zeros l = take-zeros l room fits in
        let long : length (zeros l) ≡ l = (word_zeros l).long in
        made ∙ rw (none, long) (xors_zeros_left l (picked l table deck) (picked_word l table deck (cards_enough l deck size)))

    -- a turn
    pub row_turn : (g at count : ℕ) → g < grid_rows b → at ≡ g * b.wide → count ≡ min b.wide (b.n - at) →
        (l : ℕ) (old deck out new cards : List ℕ) → length deck ≡ b.n * l → Remaining l old table deck out (min (g * b.wide) b.n) →
        length new ≡ length out → cards ≡ drop (at * l) deck → new ≡ xors out (picked l (entries_of b f bs g) cards) →
        Remaining l old table deck new (min ((g + 1) * b.wide) b.n)
    row_turn g at count inside place size l old deck out new cards long so_far same of_these made =
        let begins = row_begins b board g inside in
        let end = at + count in
        let here : min (g * b.wide) b.n ≡ at = omega arith in
        let there : min ((g + 1) * b.wide) b.n ≡ end = omega arith in
        let bytes : entries_long b g ≡ end - at = sym (row_count board g at count inside place size) ∙ omega arith in
        let start : at ≡ g * row_long b = place ∙ ap (λ (n : ℕ). g * n) row_wide in
        let cut = entries_cut b f bs g at (end - at) start (sym bytes) in
        rw there
        (next_picked l old table deck out at (cards_enough l deck long) (rw here at so_far) end new (entries_of b f bs g) cards (omega arith)
        (omega (arith, row_within board g at count inside place size, table_long)) same cut of_these made)
