-- XORs of many strings: `over k i n f` is the XOR of f i, f (i + 1), .., k of them, each of n bytes. How such sums part and move, and
-- that of a string taken n times only the parity of n counts. Assumes nothing.
use mathlib.Core.Path.{◌≡◌, refl, sym, ap, ◌∙◌}
use mathlib.Core.Bool.{Bool, true, false, cond}
use mathlib.Core.List.{List}
use Prim.Native.Nat.{ℕ, zero, suc, ◌+◌, ◌%◌, ◌≤◌, ◌<◌}
use native.Mathlib.Omega.{arith}
use lib.Dec.{eqb}
use Rattle.xor.specs.Xor.{xors, zeros}
use Rattle.xor.proofs.Laws.{Word, xors_comm, xors_assoc, xors_left_comm, xors_cancel, xors_zeros_right, word_xors, word_zeros}
use Rattle.grid.specs.Joining.{over}

-- SUMS

pub over_word : (k i n : ℕ) (f : ℕ → List ℕ) → ((m : ℕ) → i ≤ m → m < i + k → Word n (f m)) → Word n (over k i n f)
unfolding over
over_word zero i n f h = word_zeros n
over_word (suc k) i n f h =
    word_xors (f i) (over k (suc i) n f) (h i (omega arith) (omega arith)) (over_word k (suc i) n f (λ m p q. h m (omega arith) (omega arith)))

pub over_same : (k i n : ℕ) (f g : ℕ → List ℕ) → ((m : ℕ) → i ≤ m → m < i + k → f m ≡ g m) → over k i n f ≡ over k i n g
unfolding over
over_same zero i n f g h = refl
over_same (suc k) i n f g h =
    rw (h i (omega arith) (omega arith), over_same k (suc i) n f g (λ m p q. h m (omega arith) (omega arith)))

pub over_zeros : (k i n : ℕ) → over k i n (λ _. zeros n) ≡ zeros n
unfolding over
over_zeros zero i n = refl
over_zeros (suc k) i n = rw (over_zeros k (suc i) n) (xors_zeros_right n (zeros n) (word_zeros n))

-- four strings, two and two
pub xors_exchange : (x y u v : List ℕ) → xors (xors x y) (xors u v) ≡ xors (xors x u) (xors y v)
xors_exchange x y u v = simp (xors_assoc, xors_left_comm)

pub over_xors : (k i n : ℕ) (f g : ℕ → List ℕ) → over k i n (λ m. xors (f m) (g m)) ≡ xors (over k i n f) (over k i n g)
unfolding over
over_xors zero i n f g = sym (xors_zeros_right n (zeros n) (word_zeros n))
over_xors (suc k) i n f g =
    rw (over_xors k (suc i) n f g) (xors_exchange (f i) (g i) (over k (suc i) n f) (over k (suc i) n g))

pub over_shift : (k i n : ℕ) (f : ℕ → List ℕ) → over k (suc i) n f ≡ over k i n (λ m. f (suc m))
unfolding over
over_shift zero i n f = refl
over_shift (suc k) i n f = rw (over_shift k (suc i) n f)

-- the last of the strings split off
pub over_last : (k i n m : ℕ) (f : ℕ → List ℕ) → m ≡ i + k → over (suc k) i n f ≡ xors (over k i n f) (f m)
unfolding over
over_last zero i n m f e = let at : m ≡ i = omega arith in rw at (xors_comm (f i) (zeros n))
over_last (suc k) i n m f e =
    ap (xors (f i)) (over_last k (suc i) n m f (omega arith)) ∙ sym (xors_assoc (f i) (over k (suc i) n f) (f m))

-- a string taken or left
pub over_chosen : (k i n : ℕ) (f : ℕ → List ℕ) (o : Bool) → over k i n (λ m. cond o (f m) (zeros n)) ≡ cond o (over k i n f) (zeros n)
over_chosen k i n f true = refl
over_chosen k i n f false = over_zeros k i n

-- A STRING TAKEN MANY TIMES

unfoldable pub times : (long count : ℕ) → List ℕ → List ℕ
times n zero t = zeros n
times n (suc k) t = xors t (times n k t)

times_word : (n k : ℕ) (t : List ℕ) → Word n t → Word n (times n k t)
unfolding times
times_word n zero t h = word_zeros n
times_word n (suc k) t h = word_xors t (times n k t) h (times_word n k t h)

-- an even number of times cancels out, an odd number leaves one
pub times_parity : (n k : ℕ) (t : List ℕ) → Word n t → times n k t ≡ cond (eqb (k % 2) 1) t (zeros n)
unfolding times
times_parity n zero t h = refl
times_parity n (suc zero) t h = xors_zeros_right n t h
times_parity n (suc (suc k)) t h =
    let e : suc (suc k) % 2 ≡ k % 2 = omega arith in
    rw (e, ← (times_parity n k t h)) (xors_cancel n t (times n k t) h (times_word n k t h))
