-- Joining tables from the last key down. Assumes nothing.
use mathlib.Core.Path.{◌≡◌, refl, sym, ap, ◌∙◌}
use mathlib.Core.Bool.{true}
use mathlib.Core.List.{List}
use Prim.Native.Nat.{ℕ, zero, suc, ◌+◌, ◌*◌, ◌-◌, ◌≤◌, ◌<◌}
use native.Mathlib.Omega.{arith}
use lib.ListN.{length, take, drop, replicate, length-drop}
use lib.Seq.{take-add, drop_at, drop-drop, length-take-le}
use Rattle.xor.specs.Xor.{xors, zeros, bytes_good}
use Rattle.xor.proofs.Laws.{good_take, good_drop, xors_comm}
use Rattle.grid.specs.Grid.{Board}
use Rattle.keys.specs.Keys.{head_in, key_long, body_long, parts_in, table, AcceptedAs, AcceptedBody}
use Rattle.keys.proofs.Accepted.{accepted_body}
use Rattle.key_header.specs.Answers.{heading_in}
use Rattle.key_header.proofs.Reading.{heading_rest}
use Rattle.open_key.specs.Opened.{table_of}
use Rattle.seed_rows.specs.Rows.{rule}
use Rattle.join_keys_call.specs.JoinKeys.{joined_table}

tables_step : (b : Board) (k : ℕ) (bs : List ℕ)
    → joined_table (suc k) b bs ≡ xors (table (λ seed. rule b seed) (take (key_long b) bs)) (joined_table k b (drop (key_long b) bs))
unfolding joined_table
tables_step b k bs = refl

-- WHAT STANDS BEHIND A KEY'S HEADER ends where the key does

drop_taken : (m k : ℕ) (xs : List ℕ) → m ≤ length xs → drop m (take (m + k) xs) ≡ take k (drop m xs)
drop_taken m k xs h = rw (take-add m k xs) (drop_at (take m xs) (take k (drop m xs)) m (length-take-le m xs h))

module _ (b : Board) (i : ℕ) (bs : List ℕ) (good : bytes_good bs ≡ true) (long body at : ℕ) (body_is : body ≡ body_long b)
    (below : body ≤ long) (inside : at + long ≤ length bs) (key : AcceptedAs b i (take long (drop at bs)))
  where
    abbrev ks : List ℕ
    ks = take long (drop at bs)

    abbrev part : List ℕ
    part = take (at + long - (at + (long - body))) (drop (at + (long - body)) bs)

    ks_good : bytes_good ks ≡ true
    ks_good = good_take long (drop at bs) (good_drop at bs good)

    behind_header : part ≡ (head_in ks).rest
    unfolding heading_in
    behind_header =
        let rest = (head_in ks).rest in
        let front = long - body in
        let narrow : at + long - (at + front) ≡ body = omega arith in
        let wide : front + body ≡ long = omega arith in
        let room : long ≤ length (drop at bs) = rw length-drop (omega arith) in
        let long_rest : length rest ≡ body = (accepted_body ks ks_good b key.none key.board_is).long ∙ sym body_is in
        let ends : length ks - length rest ≡ front = rw (length-take-le long (drop at bs) room, long_rest) in
        let cut : drop front ks ≡ take body (drop front (drop at bs)) = rw wide at (drop_taken front body (drop at bs) (omega arith)) in
        rw (narrow, ← (drop-drop front at bs)) (sym cut ∙ ap (λ (n : ℕ). drop n ks) (sym ends) ∙ heading_rest ks)

    pub key_body : AcceptedBody b part
    key_body = rw behind_header (accepted_body ks ks_good b key.none key.board_is)

    pub key_good : bytes_good part ≡ true
    key_good = good_take _ _ (good_drop _ bs good)

    pub key_table : table_of b (rule b) part ≡ table (rule b) ks
    unfolding table parts_in table_of
    key_table = rw (behind_header, ← key.board_is)

-- no table is joined yet
pub tables_none : (p : ℕ) (b : Board) (bs out old : List ℕ) → out ≡ replicate (length old) 0 → length old ≡ b.n * b.w → out ≡ joined_table (p - p) b bs
unfolding joined_table zeros
tables_none p b bs out old e l =
    let none : p - p ≡ 0 = omega arith in
    rw (none, ← l) e

-- one key's more, the one before
pub table_more : (p left long : ℕ) (b : Board) (bs out now : List ℕ) → long ≡ key_long b → 0 < left → left ≤ p
    → out ≡ joined_table (p - left) b (drop (left * long) bs) → now ≡ xors out (table (rule b) (take long (drop ((left - 1) * long) bs)))
    → now ≡ joined_table (p - (left - 1)) b (drop ((left - 1) * long) bs)
table_more p zero long b bs out now wide pos le so_far is = let none : ⊥ = omega arith in absurd none
table_more p (suc k) long b bs out now wide pos le so_far is =
    let start = k * long in
    let before : suc k - 1 ≡ k = omega arith in
    let left : p - k ≡ suc (p - suc k) = omega arith in
    let next : start + long ≡ suc k * long = omega arith in
    let one : now ≡ xors out (table (rule b) (take long (drop start bs))) = rw before at is in
    rw (before, left, tables_step b (p - suc k) (drop start bs), ← wide, drop-drop long start bs, next, ← so_far)
    (one ∙ xors_comm out (table (rule b) (take long (drop start bs))))

-- all are
pub tables_all : (p left long : ℕ) (b : Board) (bs out : List ℕ) → left ≤ 0 → out ≡ joined_table (p - left) b (drop (left * long) bs)
    → out ≡ joined_table p b bs
tables_all p left long b bs out h all =
    let none : left ≡ 0 = omega arith in
    let first : 0 * long ≡ 0 = omega arith in
    let whole : p - 0 ≡ p = omega arith in
    rw (none, first, whole) at all
