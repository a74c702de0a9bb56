-- RUNS OF A TALLY'S CALLS of specs/Runs.antt: each statement under its name in small letters. Assumes nothing.
use mathlib.Core.Path.{◌≡◌, refl, sym, ap, ◌∙◌, subst}
use mathlib.Core.Bool.{Bool, true, false, cond}
use mathlib.Core.List.{List, [], ◌∷◌, ◌++◌, append_assoc}
use Prim.Native.Nat.{ℕ}
use borrow.Author.Tests.{ne_eqb, eqb-true, eqb-false}
use lib.Dec.{eqb}
use Rattle.xor.specs.Xor.{xors}
use Rattle.xor.proofs.Laws.{Word, word_zeros, word_xors, xors_comm, xors_left_comm, xors_cancel}
use Rattle.keys.specs.Keys.{table}
use Rattle.call_answers.specs.Answers.{key_rule}
use Rattle.call_answers.proofs.Putting.{untouched}
use Rattle.tally.specs.Tallies.{tally_long, entries, MakeSays, AddSays}
use Rattle.tally.specs.Runs.{Call, Called, Run, with_call, added, Tallied, tables_of, TallyHolds, InSomeOrder, AnyOrder, TwiceIsNone, answer_of, answered, RefusedInBetween}
use Rattle.tally.specs.declared.Tally.{Tally}
use Rattle.tally.proofs.Leaving.{made, was_added}

abbrev table_of_key : (key : List ℕ) → List ℕ
table_of_key key = table (λ seed. key_rule key seed) key

-- keys whose tables are as long as the tally's
unfoldable Fit : Tally → (keys : List (List ℕ)) → Type 0
Fit t [] = ◌≡◌ {A = ℕ} 0 0
Fit t (key ∷ keys) = Word (tally_long t) (table_of_key key) × Fit t keys

tables_word : (t : Tally) (keys : List (List ℕ)) → Fit t keys → Word (tally_long t) (tables_of t keys)
unfolding tables_of Fit
tables_word t [] h = word_zeros (tally_long t)
tables_word t (key ∷ keys) h = word_xors (table_of_key key) (tables_of t keys) h.0 (tables_word t keys h.1)

-- a key that stands among others
tables_at : (t : Tally) (key : List ℕ) (front back : List (List ℕ)) →
    tables_of t (front ++ (key ∷ back)) ≡ xors (table_of_key key) (tables_of t (front ++ back))
unfolding tables_of
tables_at t key [] back = refl
tables_at t key (first ∷ front) back =
    ap (xors (table_of_key first)) (tables_at t key front back) ∙ xors_left_comm (table_of_key first) (table_of_key key) (tables_of t (front ++ back))

fit_at : (t : Tally) (key : List ℕ) (front back : List (List ℕ)) → Fit t (front ++ (key ∷ back)) →
    Word (tally_long t) (table_of_key key) × Fit t (front ++ back)
unfolding Fit
fit_at t key [] back h = h
fit_at t key (first ∷ front) back h = let later = fit_at t key front back h.1 in (later.0, (h.0, later.1))

-- ONE CALL

-- the bytes of a tally that holds these keys
record Holds (t : Tally) (keys : List (List ℕ)) (bytes : List ℕ) : Type 0 where
  table_is : entries t bytes ≡ tables_of t keys
  fit : Fit t keys

-- by cases on an answer
by_answer : (P : List (List ℕ) → Type 0) (r : ℕ) (then else : List (List ℕ)) → (r ≡ 0 → P then) → ((r ≡ 0 → ⊥) → P else) → P (cond (eqb r 0) then else)
by_answer P r then else yes_zero no_zero = go (eqb r 0) refl
  where
    go : (b : Bool) → eqb r 0 ≡ b → P (cond b then else)
    go true e = yes_zero (eqb-true r 0 e)
    go false e = no_zero (eqb-false r 0 e)

-- a refused call leaves the bytes
call_refused : (t : Tally) (c : Call) (bs now : List ℕ) → Called t c bs now → (answer_of c ≡ 0 → ⊥) → now ≡ bs
unfolding Called answer_of MakeSays AddSays
call_refused t (Call.make r) bs now h some = untouched _ _ r bs now h some
call_refused t (Call.add key r) bs now h some = untouched _ _ r bs now h.1 some
call_refused t (Call.look_up a r out out_now) bs now h some = h.0
call_refused t (Call.take_total r out out_now) bs now h some = h.0

-- and counts for nothing
none_counted : (c : Call) (keys : List (List ℕ)) → (answer_of c ≡ 0 → ⊥) → with_call c keys ≡ keys
unfolding with_call answer_of
none_counted (Call.make r) keys some = rw (ne_eqb r 0 some)
none_counted (Call.add key r) keys some = rw (ne_eqb r 0 some)
none_counted (Call.look_up a r out out_now) keys some = refl
none_counted (Call.take_total r out out_now) keys some = refl

-- the same bytes hold the same keys
kept : (t : Tally) (keys : List (List ℕ)) (bs now : List ℕ) → now ≡ bs → Holds t keys bs → Holds t keys now
kept t keys bs now same h = subst (λ (xs : List ℕ). Holds t keys xs) (sym same) h

call_holds : (t : Tally) (c : Call) (keys : List (List ℕ)) (bs now : List ℕ) → Holds t keys bs → Called t c bs now → Holds t (with_call c keys) now
unfolding with_call Called answer_of tables_of Fit
call_holds t (Call.make r) keys bs now h says =
    by_answer (λ (ks : List (List ℕ)). Holds t ks now) r [] keys
    (λ zero_is. record { table_is = (made t bs now (subst (λ (n : ℕ). MakeSays t n bs now) zero_is says)).clear; fit = refl })
    (λ some. kept t keys bs now (call_refused t (Call.make r) bs now says some) h)
call_holds t (Call.add key r) keys bs now h says =
    by_answer (λ (ks : List (List ℕ)). Holds t ks now) r (key ∷ keys) keys
    (λ zero_is.
    let done = was_added t bs now key says.0 (subst (λ (n : ℕ). AddSays t key n bs now) zero_is says.1) in
    record {
      table_is = done.more ∙ ap (λ (xs : List ℕ). xors xs (table_of_key key)) h.table_is ∙ xors_comm (tables_of t keys) (table_of_key key);
      fit = (done.word, h.fit);
    })
    (λ some. kept t keys bs now (call_refused t (Call.add key r) bs now says some) h)
call_holds t (Call.look_up a r out out_now) keys bs now h says = kept t keys bs now says.0 h
call_holds t (Call.take_total r out out_now) keys bs now h says = kept t keys bs now says.0 h

-- RUNS

run_holds : (t : Tally) (cs : List Call) (keys : List (List ℕ)) (bs now : List ℕ) → Holds t keys bs → Run t cs bs now → Holds t (added cs keys) now
unfolding Run added
run_holds t [] keys bs now h run = kept t keys bs now run h
run_holds t (c ∷ cs) keys bs now h run =
    run_holds t cs (with_call c keys) run.0 now (call_holds t c keys bs run.0 h run.1) run.2

-- since making
holds : (t : Tally) (keys : List (List ℕ)) (bytes : List ℕ) → Tallied t keys bytes → Holds t keys bytes
unfolding tables_of Fit
holds t keys bytes run =
    let none : Holds t [] run.made = record { table_is = (made t run.before run.made run.made_says).clear; fit = refl } in
    subst (λ (ks : List (List ℕ)). Holds t ks bytes) run.keys_are (run_holds t run.calls [] run.made bytes none run.run)

pub tally_holds : TallyHolds
unfolding TallyHolds
tally_holds t keys bytes run = (holds t keys bytes run).table_is

-- ORDER

pub tables_in_order : (t : Tally) (keys others : List (List ℕ)) → InSomeOrder keys others → tables_of t keys ≡ tables_of t others
unfolding InSomeOrder tables_of
tables_in_order t [] others h = ap (tables_of t) (sym h)
tables_in_order t (key ∷ keys) others h =
    let front = h.0 in
    let back = h.1 in
    ap (xors (table_of_key key)) (tables_in_order t keys (front ++ back) h.3) ∙ sym (tables_at t key front back) ∙ ap (tables_of t) (sym h.2)

pub any_order : AnyOrder
unfolding AnyOrder
any_order t keys others bytes other_bytes run other order =
    (holds t keys bytes run).table_is ∙ tables_in_order t keys others order ∙ sym (holds t others other_bytes other).table_is

-- TWICE

tables_twice : (t : Tally) (key : List ℕ) (front middle back : List (List ℕ)) → Word (tally_long t) (table_of_key key) → Fit t (front ++ (middle ++ back)) →
    tables_of t (front ++ (key ∷ (middle ++ (key ∷ back)))) ≡ tables_of t (front ++ (middle ++ back))
tables_twice t key front middle back word fit =
    let rest = tables_of t (front ++ (middle ++ back)) in
    let second : tables_of t (front ++ (middle ++ (key ∷ back))) ≡ xors (table_of_key key) rest =
    ap (tables_of t) (sym (append_assoc front middle (key ∷ back))) ∙ tables_at t key (front ++ middle) back
    ∙ ap (λ (keys : List (List ℕ)). xors (table_of_key key) (tables_of t keys)) (append_assoc front middle back) in
    tables_at t key front (middle ++ (key ∷ back)) ∙ ap (xors (table_of_key key)) second
    ∙ xors_cancel (tally_long t) (table_of_key key) rest word (tables_word t (front ++ (middle ++ back)) fit)

pub twice_is_none : TwiceIsNone
unfolding TwiceIsNone
twice_is_none t key front middle back bytes other_bytes run other =
    let all = holds t (front ++ (key ∷ (middle ++ (key ∷ back)))) bytes run in
    let without = holds t (front ++ (middle ++ back)) other_bytes other in
    let word = (fit_at t key front (middle ++ (key ∷ back)) all.fit).0 in
    all.table_is ∙ tables_twice t key front middle back word without.fit ∙ sym without.table_is

-- REFUSED CALLS

without_refused : (t : Tally) (cs : List Call) (keys : List (List ℕ)) (bs now : List ℕ) → Run t cs bs now →
    Run t (answered cs) bs now × (added (answered cs) keys ≡ added cs keys)
unfolding Run added answered
without_refused t [] keys bs now run = (run, refl)
without_refused t (c ∷ cs) keys bs now run =
    go (eqb (answer_of c) 0) refl (without_refused t cs (with_call c keys) run.0 now run.2)
  where
    go : (b : Bool) → eqb (answer_of c) 0 ≡ b → Run t (answered cs) run.0 now × (added (answered cs) (with_call c keys) ≡ added cs (with_call c keys)) →
        Run t (cond b (c ∷ answered cs) (answered cs)) bs now × (added (cond b (c ∷ answered cs) (answered cs)) keys ≡ added cs (with_call c keys))
    go true e later = ((run.0, run.1, later.0), later.1)
    go false e later =
        let some = eqb-false (answer_of c) 0 e in
        let same = call_refused t c bs run.0 run.1 some in (
          subst (λ (xs : List ℕ). Run t (answered cs) xs now) same later.0,
          ap (added (answered cs)) (sym (none_counted c keys some)) ∙ later.1,
        )

pub refused_in_between : RefusedInBetween
unfolding RefusedInBetween
refused_in_between t calls keys bytes bytes_now run = without_refused t calls keys bytes bytes_now run
