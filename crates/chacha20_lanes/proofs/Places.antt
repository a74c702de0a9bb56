-- Taking a lane out and putting it back: a lane that is put is the state that was put, the other lanes stay, and a loop that puts lane after
-- lane has the lanes before its own done. Assumes nothing.
use mathlib.Core.Path.{◌≡◌, refl, sym, ap, ◌∙◌}
use mathlib.Core.Logic.{⊎_elim}
use mathlib.Core.List.{List}
use Prim.Native.Nat.{ℕ, zero, suc, ◌+◌, ◌*◌, ◌<◌, ◌≤◌}
use native.Mathlib.Omega.{arith}
use native.Mathlib.Nat.{eq-or-lt_of_le}
use lib.ListN.{length, get_or, set, drop, length-set, drop_of_length-le}
use lib.Seq.{get_or-set_same, get_or-set_other, drop-cons}
use Rattle.chacha20.specs.Expand.{sums}
use Rattle.chacha20.proofs.Parts.{get_or-sums}
use Rattle.chacha20_lanes.specs.Lanes.{every_fourth, lane_of, SideBySide, Put}

-- WORDS of a lane

-- two lists that agree at a lane's places have the same lane
every_fourth_same : (k i : ℕ) (xs ys : List ℕ) → ((v p : ℕ) → v < k → p ≡ 4 * v + i → get_or xs p 0 ≡ get_or ys p 0) → every_fourth k i xs ≡ every_fourth k i ys
unfolding every_fourth
every_fourth_same zero i xs ys h = refl
every_fourth_same (suc k) i xs ys h =
    let head : get_or xs i 0 ≡ get_or ys i 0 = h 0 i (omega arith) (omega arith) in
    rw (head, every_fourth_same k (4 + i) xs ys (λ v p v< p_is. h (suc v) p (omega arith) (omega arith)))

-- a lane whose places hold the words of a list, one after another, is that list
every_fourth_listed : (k i j : ℕ) (xs words : List ℕ) → length words ≡ j + k →
    ((v p q : ℕ) → v < k → p ≡ 4 * v + i → q ≡ j + v → get_or xs p 0 ≡ get_or words q 0) → every_fourth k i xs ≡ drop j words
unfolding every_fourth
every_fourth_listed zero i j xs words long h = sym (drop_of_length-le words {i = j} (omega arith))
every_fourth_listed (suc k) i j xs words long h =
    let head : get_or xs i 0 ≡ get_or words j 0 = h 0 i j (omega arith) (omega arith) (omega arith) in
    let tail = every_fourth_listed k (4 + i) (suc j) xs words (omega arith) (λ v p q v< p_is q_is. h (suc v) p q (omega arith) (omega arith) (omega arith)) in
    rw (drop-cons words j 0 (omega arith), head, tail)

-- a lane of sums is the sums of the lanes
every_fourth_sums : (k i : ℕ) (xs ys : List ℕ) → length xs ≡ length ys → i + 4 * k ≤ length xs + 3 →
    every_fourth k i (sums xs ys) ≡ sums (every_fourth k i xs) (every_fourth k i ys)
unfolding every_fourth sums
every_fourth_sums zero i xs ys same h = refl
every_fourth_sums (suc k) i xs ys same h =
    rw (get_or-sums xs ys i same (omega arith), every_fourth_sums k (4 + i) xs ys same (omega arith))

pub lane_of_sums : (l : ℕ) (xs ys : List ℕ) → length xs ≡ 64 → length ys ≡ 64 → l < 4 → lane_of l (sums xs ys) ≡ sums (lane_of l xs) (lane_of l ys)
unfolding lane_of
lane_of_sums l xs ys p q h = every_fourth_sums 16 l xs ys (p ∙ sym q) (omega arith)

-- TAKING a lane out: sixteen words that are its places' are the lane
pub all_taken : (l : ℕ) (words states : List ℕ) → length words ≡ 16 → ((v : ℕ) → v < 16 → get_or words v 0 ≡ get_or states (4 * v + l) 0) →
    words ≡ lane_of l states
unfolding lane_of
all_taken l words states long taken =
    sym (every_fourth_listed 16 l 0 states words long
    (λ v p q v< p_is q_is. let place : q ≡ v = omega arith in rw (place, p_is) (sym (taken v v<))))

-- PUTTING a lane, word by word

-- the words before w are put, and the other lanes are as they were
pub record Putting (l w : ℕ) (words old new : List ℕ) : Type 0 where
  pub long : length new ≡ 64
  pub done : (v p : ℕ) → v < w → p ≡ 4 * v + l → get_or new p 0 ≡ get_or words v 0
  pub below : (v m p : ℕ) → m < l → p ≡ 4 * v + m → get_or new p 0 ≡ get_or old p 0
  pub above : (v m p : ℕ) → l < m → m < 4 → p ≡ 4 * v + m → get_or new p 0 ≡ get_or old p 0

pub none_put : (l : ℕ) (words old : List ℕ) → length old ≡ 64 → Putting l 0 words old old
none_put l words old h =
    record { long = h; done = λ v p v< p_is. let none : ⊥ = omega arith in absurd none; below = λ v m p m< p_is. refl; above = λ v m p l< m< p_is. refl }

module _ (l w : ℕ) (words old new : List ℕ) (in_lanes : l < 4) (so_far : Putting l w words old new) where
  -- one turn: the next word is put
  module _ (at : ℕ) (at_is : at ≡ 4 * w + l) (h : w < 16) where
    next_done : (v p : ℕ) → v < w + 1 → p ≡ 4 * v + l → get_or (set new at (get_or words w 0)) p 0 ≡ get_or words v 0
    next_done v p v< p_is =
        let word = get_or words w 0 in
        let long = so_far.long in
        let room : at < length new = omega arith in
        ⊎_elim
        (λ e. let place : p ≡ at = omega arith in rw place (get_or-set_same new at word 0 room ∙ ap (λ (n : ℕ). get_or words n 0) (sym e)))
        (λ lt. get_or-set_other new at p word 0 (λ e. omega arith) ∙ so_far.done v p lt p_is)
        (eq-or-lt_of_le {n = v} {m = w} (omega arith))

    pub one_put : Putting l (w + 1) words old (set new at (get_or words w 0))
    one_put =
        let word = get_or words w 0 in
        record {
          long = length-set new at word ∙ so_far.long;
          done = next_done;
          below = λ v m p m< p_is. get_or-set_other new at p word 0 (λ e. omega arith) ∙ so_far.below v m p m< p_is;
          above = λ v m p l< m< p_is. get_or-set_other new at p word 0 (λ e. omega arith) ∙ so_far.above v m p l< m< p_is;
        }

  -- after the last turn the lane is the state that was put
  pub all_put : 16 ≤ w → length words ≡ 16 → Put l words old new
  unfolding lane_of
  all_put h long =
      record {
        long = so_far.long;
        same = every_fourth_listed 16 l 0 new words long (λ v p q v< p_is q_is. let place : q ≡ v = omega arith in rw place (so_far.done v p (omega arith) p_is));
        below = λ m m<. every_fourth_same 16 m new old (λ v p v< p_is. so_far.below v m p m< p_is);
        above = λ m l< m<. every_fourth_same 16 m new old (λ v p v< p_is. so_far.above v m p l< m< p_is);
      }

-- LANE AFTER LANE

-- the lanes before l are the states of f, and the others are as they were
pub record Done (f : ℕ → List ℕ) (l : ℕ) (old new : List ℕ) : Type 0 where
  pub long : length new ≡ 64
  pub done : (m : ℕ) → m < l → lane_of m new ≡ f m
  pub left : (m : ℕ) → l ≤ m → m < 4 → lane_of m new ≡ lane_of m old

pub none_done : (f : ℕ → List ℕ) (old : List ℕ) → length old ≡ 64 → Done f 0 old old
none_done f old h = record { long = h; done = λ m m<. let none : ⊥ = omega arith in absurd none; left = λ m l≤ m<. refl }

module _ (f : ℕ → List ℕ) (l : ℕ) (old new : List ℕ) (so_far : Done f l old new) where
  -- one turn: lane l is put
  pub one_done : (words next : List ℕ) → l < 4 → words ≡ f l → Put l words new next → Done f (l + 1) old next
  one_done words next h is put =
      record {
        long = put.long;
        done = λ m m<. ⊎_elim (λ e. rw e (put.same ∙ is)) (λ lt. put.below m lt ∙ so_far.done m lt) (eq-or-lt_of_le {n = m} {m = l} (omega arith));
        left = λ m l≤ m<. put.above m (omega arith) m< ∙ so_far.left m (omega arith) m<;
      }

  -- after the last turn all four are done
  pub all_done : 4 ≤ l → SideBySide new f
  all_done h = (so_far.long, λ m m<. so_far.done m (omega arith))
