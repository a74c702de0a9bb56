-- What a reader finds on a page: terms of the statements of specs/Found.antt. A line is found among lines of one length,
-- a cell among a line's cells, and what was written is read back. Assumes nothing.
use mathlib.Core.Path.{◌≡◌, refl, sym, ap, ◌∙◌}
use mathlib.Core.Bool.{Bool, true, false, cond}
use mathlib.Core.List.{List, [], ◌∷◌, ◌++◌, append_assoc}
use Prim.Native.Nat.{ℕ, zero, suc, ◌+◌, ◌*◌, ◌-◌, ◌/◌, ◌%◌, ◌≤◌, ◌<◌}
use native.Mathlib.Omega.{arith}
use native.Mathlib.Nat.{zero-add, suc-mul, zero-mul}
use lib.Dec.{ltb}
use lib.ListN.{length, take, drop, replicate, length-append, length-drop, take-append-drop}
use lib.Seq.{take_at, drop_at, drop-drop, take-append-le, drop-append-le, take_all}
use Rattle.xor.specs.Xor.{bytes_good}
use Rattle.xor.proofs.Laws.{good_take, good_drop}
use Rattle.writer.specs.InARow.{in_a_row}
use Rattle.writer.proofs.InARow.{row_at}
use Rattle.writer.proofs.Cuts.{part_within, part_of_part}
use Rattle.digits.specs.Digits.{hex, spaces, right_aligned}
use Rattle.digits.specs.Reading.{number_read, hex_read}
use Rattle.digits.proofs.Laws.{hex_long, aligned_long}
use Rattle.digits.proofs.Reading.{aligned_read, hex_back}
use Rattle.page.specs.Page.{entry_at, value_cell, page_cell, page_line, page_lines, page, line_long, page_long, digits_place, Pageable}
use Rattle.page.specs.Found.{LinesLong, PageIsLong, digits_at, CellsFound, CellsRead}
use Rattle.page.specs.Found.{PastBlank, CellsApart, LinesEnd, NumbersFound, LinesNumbered, PageTells}
use Rattle.page.proofs.Laws.{page_cell_here, page_cell_past, spaces_long, page_cell_long, cells_long, value_long, line_first, first_fits}
use Rattle.page.proofs.Laws.{line_is_long, page_is_so_long}

-- what stands at a place in front
front_part : (from count : ℕ) (xs ys : List ℕ) → from + count ≤ length xs → take count (drop from (xs ++ ys)) ≡ take count (drop from xs)
front_part from count xs ys h =
    rw (drop-append-le from xs ys (omega arith)) (take-append-le count (drop from xs) ys (rw length-drop (omega arith)))

module _ (n w : ℕ) (ts : List ℕ) (fits : Pageable n w ts) where
  line_found : (l : ℕ) → l < page_lines n → take (line_long w) (drop (l * line_long w) (page n w ts)) ≡ page_line n w ts l
  unfolding page
  line_found l h =
      row_at (line_long w) (page_lines n) 0 l (λ j. page_line n w ts j) (λ j p q. line_is_long n w ts fits j (omega arith)) h
      ∙ ap (λ (j : ℕ). page_line n w ts j) (zero-add l)

  -- a part of the page inside a line
  in_line : (l from count : ℕ) → l < page_lines n → from + count ≤ line_long w →
      take count (drop (l * line_long w + from) (page n w ts)) ≡ take count (drop from (page_line n w ts l))
  unfolding page_long
  in_line l from count h inside =
      sym (part_of_part from count (l * line_long w) (line_long w) (page n w ts) inside
      (omega (arith, page_is_so_long n w ts fits, part_within l (page_lines n) (line_long w) h)))
      ∙ ap (λ (xs : List ℕ). take count (drop from xs)) (line_found l h)

  -- a cell inside its line
  cell_in_line : (l c : ℕ) → l < page_lines n → c < 8 →
      take (2 * w + 1) (drop (5 + c * (2 * w + 1)) (page_line n w ts l)) ≡ page_cell n w ts (8 * l + c)
  unfolding page_line
  cell_in_line l c h k =
      let number = right_aligned 5 (8 * l) in
      let cells = in_a_row 8 (8 * l) (λ a. page_cell n w ts a) in
      let five = aligned_long 5 (8 * l) (first_fits n l fits.positions_few h) in
      let eight = cells_long n w ts fits.whole 8 (8 * l) in
      let inside = part_within c 8 (2 * w + 1) k in
      front_part (5 + c * (2 * w + 1)) (2 * w + 1) (number ++ cells) (10 ∷ []) (rw length-append (omega arith))
      ∙ ap (take (2 * w + 1)) (sym (drop-drop (c * (2 * w + 1)) 5 (number ++ cells)) ∙ ap (drop (c * (2 * w + 1))) (drop_at number cells 5 five))
      ∙ row_at (2 * w + 1) 8 (8 * l) c (λ a. page_cell n w ts a) (λ j p q. page_cell_long n w ts fits.whole j) k

  -- a part of the page inside a cell
  in_cell : (a from count place : ℕ) → a < 8 * page_lines n → from + count ≤ 2 * w + 1 →
      place ≡ a / 8 * line_long w + (5 + a % 8 * (2 * w + 1) + from) →
      take count (drop place (page n w ts)) ≡ take count (drop from (page_cell n w ts a))
  unfolding line_long
  in_cell a from count place h inside at =
      let l = a / 8 in
      let c = a % 8 in
      let before : l < page_lines n = omega arith in
      let column : c < 8 = omega arith in
      let within = part_within c 8 (2 * w + 1) column in
      let long = line_is_long n w ts fits l before in
      let same : 8 * l + c ≡ a = omega arith in
      ap (λ (p : ℕ). take count (drop p (page n w ts))) at
      ∙ in_line l (5 + c * (2 * w + 1) + from) count before (omega arith)
      ∙ sym (part_of_part from count (5 + c * (2 * w + 1)) (2 * w + 1) (page_line n w ts l) inside (omega arith))
      ∙ ap (λ (xs : List ℕ). take count (drop from xs)) (cell_in_line l c before column ∙ ap (λ (b : ℕ). page_cell n w ts b) same)

  digits_in_cell : (a : ℕ) → a < 8 * page_lines n → digits_at w (page n w ts) a ≡ take (2 * w) (drop 1 (page_cell n w ts a))
  unfolding digits_at digits_place
  digits_in_cell a h = in_cell a 1 (2 * w) (a / 8 * line_long w + 6 + a % 8 * (2 * w + 1)) h (omega arith) (omega arith)

  on_page : (a : ℕ) → a < n → a < 8 * page_lines n
  unfolding page_lines
  on_page a h = omega arith

pub lines_long : LinesLong
unfolding LinesLong
lines_long n w ts l fits h = line_is_long n w ts fits l h

pub page_is_long : PageIsLong
unfolding PageIsLong
page_is_long n w ts fits = page_is_so_long n w ts fits

pub cells_found : CellsFound
unfolding CellsFound value_cell
cells_found n w ts a fits h =
    digits_in_cell n w ts fits a (on_page n w ts fits a h) ∙ ap (λ (xs : List ℕ). take (2 * w) (drop 1 xs)) (page_cell_here n w ts a h)
    ∙ take_all (2 * w) (hex (entry_at w ts a)) (omega (arith, hex_long (entry_at w ts a), value_long w ts a (omega (arith, fits.whole, part_within a n w h))))

good_value : (w : ℕ) (ts : List ℕ) (a : ℕ) → bytes_good ts ≡ true → bytes_good (entry_at w ts a) ≡ true
unfolding entry_at
good_value w ts a g = good_take w (drop (a * w) ts) (good_drop (a * w) ts g)

pub cells_read : CellsRead
unfolding CellsRead CellsFound
cells_read n w ts a fits g h = ap hex_read (cells_found n w ts a fits h) ∙ hex_back (entry_at w ts a) (good_value w ts a g)

pub past_blank : PastBlank
unfolding PastBlank spaces
past_blank n w ts a fits past h =
    let more : 2 * w + 1 ≡ suc (2 * w) = omega arith in
    digits_in_cell n w ts fits a h ∙ ap (λ (xs : List ℕ). take (2 * w) (drop 1 xs)) (page_cell_past n w ts a past ∙ ap spaces more)
    ∙ take_all (2 * w) (spaces (2 * w)) (omega (arith, spaces_long (2 * w)))

-- each cell begins with a space
space_first : (n w : ℕ) (ts : List ℕ) (a : ℕ) → take 1 (drop 0 (page_cell n w ts a)) ≡ 32 ∷ []
unfolding page_cell value_cell spaces
space_first n w ts a =
    let more : 2 * w + 1 ≡ suc (2 * w) = omega arith in
    rw more (go (ltb a n))
  where
    go : (t : Bool) → take 1 (drop 0 (cond t (32 ∷ hex (entry_at w ts a)) (replicate (suc (2 * w)) 32))) ≡ 32 ∷ []
    go true = refl
    go false = refl

pub cells_apart : CellsApart
unfolding CellsApart digits_place
cells_apart n w ts a fits h =
    in_cell n w ts fits a 0 1 (a / 8 * line_long w + 6 + a % 8 * (2 * w + 1) - 1) h (omega arith) (omega arith) ∙ space_first n w ts a

pub lines_end : LinesEnd
unfolding LinesEnd page_line line_long
lines_end n w ts l fits h =
    let front = right_aligned 5 (8 * l) ++ in_a_row 8 (8 * l) (λ a. page_cell n w ts a) in
    let long : length front ≡ 6 + 8 * (2 * w + 1) - 1 =
    length-append (right_aligned 5 (8 * l)) (in_a_row 8 (8 * l) (λ a. page_cell n w ts a))
    ∙ omega (arith, aligned_long 5 (8 * l) (first_fits n l fits.positions_few h), cells_long n w ts fits.whole 8 (8 * l)) in
    in_line n w ts fits l (6 + 8 * (2 * w + 1) - 1) 1 h (omega arith) ∙ ap (take 1) (drop_at front (10 ∷ []) (6 + 8 * (2 * w + 1) - 1) long)

pub numbers_found : NumbersFound
unfolding NumbersFound page_line line_long
numbers_found n w ts l fits h =
    let number = right_aligned 5 (8 * l) in
    let rest = in_a_row 8 (8 * l) (λ a. page_cell n w ts a) in
    let first : l * (6 + 8 * (2 * w + 1)) + 0 ≡ l * (6 + 8 * (2 * w + 1)) = omega arith in
    ap (λ (p : ℕ). take 5 (drop p (page n w ts))) (sym first) ∙ in_line n w ts fits l 0 5 h (omega arith)
    ∙ ap (take 5) (append_assoc number rest (10 ∷ []))
    ∙ take_at number (rest ++ (10 ∷ [])) 5 (aligned_long 5 (8 * l) (first_fits n l fits.positions_few h))

pub lines_numbered : LinesNumbered
unfolding LinesNumbered NumbersFound
lines_numbered n w ts l fits h =
    ap number_read (numbers_found n w ts l fits h) ∙ aligned_read 5 (8 * l) (omega (arith, fits.positions_few, line_first n l h))

-- tables whose entries are equal are equal
same_entries : (n w : ℕ) (ts us : List ℕ) → length ts ≡ n * w → length us ≡ n * w →
    ((a : ℕ) → a < n → take w (drop (a * w) ts) ≡ take w (drop (a * w) us)) → ts ≡ us
same_entries zero w ts us e f h =
    let none : zero * w ≡ 0 = zero-mul w in
    sym (take_all 0 ts (omega arith)) ∙ take_all 0 us (omega arith)
same_entries (suc n) w ts us e f h =
    let more : suc n * w ≡ w + n * w = omega (arith, suc-mul n w) in
    let none : zero * w ≡ 0 = zero-mul w in
    let first : take w ts ≡ take w us = rw none at (h 0 (omega arith)) in
    let others = same_entries n w (drop w ts) (drop w us) (rw length-drop (omega arith)) (rw length-drop (omega arith))
    (λ a k.
    let next : w + a * w ≡ suc a * w = omega (arith, suc-mul a w) in
    rw (drop-drop (a * w) w ts, drop-drop (a * w) w us, next) (h (suc a) (omega arith))) in
    sym (take-append-drop w ts) ∙ rw (first, others) (take-append-drop w us)

pub page_tells : PageTells
unfolding PageTells CellsRead entry_at
page_tells n w ts us fits also good fine same =
    same_entries n w ts us fits.whole also.whole
    (λ a h. sym (cells_read n w ts a fits good h) ∙ ap (λ (text : List ℕ). hex_read (digits_at w text a)) same ∙ cells_read n w us a also fine h)
