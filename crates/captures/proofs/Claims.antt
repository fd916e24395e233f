-- WHERE TO LOOK FIRST: what is shown of weights from captures, each claim under the clauses of docs/RULES.md that it settles.
-- Every claim is about the definitions in specs/; the contracts of the code say that its results equal those definitions.
use Rattle.std.proofs.Common.{◌≡◌, ℕ, ◌+◌, ◌-◌, ◌%◌, ◌<◌, ◌≤◌, Bool, true, false, ltb, ◌↔◌, List, [], ◌∷◌, ◌++◌, map, length, sym, refl, ap, ◌∙◌, ap₂, subst, zero-le, lt_irrefl, arith, ltb-false, ltb-true, lt-ltb}
use Rattle.std.specs.Prelude.{Result, Ok, Err}
use Rattle.std.specs.Ordering.{MatchOrdering}
use Rattle.std.specs.declared.cmp.Ordering.{Ordering}
use Rattle.std.proofs.lemmas.Cmp.{ranked}
use Rattle.std.proofs.lemmas.Result.{IfOk-at_ok}
use mathlib.Core.List.Permᴰ
use mathlib.Core.List.{flatten, map-append}
use Rattle.rules.specs.declared.Refusal.{Refusal}
use Rattle.rules.proofs.Refused.{numbers_tried}
use Rattle.captures.specs.declared.Fraction.{Fraction}
use Rattle.captures.specs.Logs.{discards, heard_all, silent, counted, fraction_of, in_pieces, limit}
use Rattle.captures.specs.Fractions.{fraction, beyond, fraction_refusals, fraction_answer, log_answer, total_refusals, total_answer, logs_answer, joined}
use Rattle.captures.specs.Fractions.{weight_refusals, weight_answer, compare_refusals, compare_answer, number_told, fraction_told, weight_told, order_told}
use Rattle.captures.specs.Promises.{LogCounted, LogsCounted, Added, Weighed, Over, Compared}
use Rattle.captures.proofs.Circle.{discards-exactly}
use Rattle.captures.proofs.Counting.{heard-joined, heard-within, judged-is, pieces-capped, pieces-within}
use Rattle.captures.proofs.Sums.{beyond-judged, fraction-refused, fraction-counted, total-told}
use Rattle.captures.proofs.Sums.{total-order, map-order, total-joined, some-refused, capped-answer, capped-added, add-one-more, total-one}
use Rattle.captures.proofs.Exact.{weighed, compared}

-- ---- RULES 14.2: the numbers discarded after the last accepted one are that number and the 19 before it, on the circle of 256.

pub circle : (last new : ℕ) → last < 256 → new < 256 → (discards last new ≡ true) ↔ ((k : ℕ) × (k < 20) × (new ≡ (last + 256 - k) % 256))
circle = discards-exactly

-- ---- RULES 14.3, 14.4: every packet of a log but the first is judged, and no more are discarded.

pub all-judged : (bs : List ℕ) → (fraction_of bs).judged ≡ length bs - 1
all-judged = judged-is

-- No more are discarded than judged.
pub never-above : (bs : List ℕ) → (fraction_of bs).discarded ≤ (fraction_of bs).judged
never-above bs = heard-within silent bs zero-le

-- ---- RULES 14.5: a log in pieces is the log whole.

pub pieces-joined : (a b : List ℕ) → heard_all (heard_all silent a) b ≡ heard_all silent (a ++ b)
pieces-joined = heard-joined silent

-- So with a log that is handed on from piece to piece, of whatever lengths, and counts no further once it is too long.
pub in-pieces : (ps : List (List ℕ)) → fraction_answer (counted (in_pieces silent ps)) ≡ log_answer (flatten ps)
in-pieces ps =
    sym (capped-answer (in_pieces silent ps) (pieces-within silent ps zero-le))
    ∙ ap (λ l. fraction_answer (counted l)) (pieces-capped silent ps)
    ∙ capped-answer (heard_all silent (flatten ps)) (never-above (flatten ps))

-- ---- RULES 14.6: a log is refused exactly if it is too long.

-- By the judged packets.
log-beyond : (bs : List ℕ) → beyond (fraction_of bs) ≡ ltb limit (length bs - 1)
log-beyond bs = beyond-judged (fraction_of bs) (never-above bs) ∙ ap (ltb limit) (all-judged bs)

-- THE ANSWER OF A LOG keeps its promise.
pub log-counted : (bs : List ℕ) → LogCounted bs (log_answer bs)
log-counted bs = by (beyond (fraction_of bs)) refl
  where
    long : beyond (fraction_of bs) ≡ true → limit + 1 < length bs
    long e = over (length bs) (ltb-true limit (length bs - 1) (sym (log-beyond bs) ∙ e))
      where
        over : (n : ℕ) → limit < n - 1 → limit + 1 < n
        over n h = omega (arith, h)

    short : beyond (fraction_of bs) ≡ false → limit + 1 < length bs → ⊥
    short e h = under (length bs) h (ltb-false limit (length bs - 1) (sym (log-beyond bs) ∙ e))
      where
        under : (n : ℕ) → limit + 1 < n → n - 1 ≤ limit → ⊥
        under n h k = omega (arith, h, k)

    by : (b : Bool) → beyond (fraction_of bs) ≡ b → LogCounted bs (log_answer bs)
    by true e =
        let is : log_answer bs ≡ Err Refusal.Beyond = fraction-refused (fraction_of bs) e in
        record { answer = refl; too_long = (λ _. long e, λ _. is); judged = rw is tt; discarded = rw is tt }
    by false e =
        let is : log_answer bs ≡ Ok (fraction_of bs) = fraction-counted (fraction_of bs) e in
        record {
          answer = refl;
          too_long = (λ r. absurd (cc (r, is)), λ h. absurd (short e h));
          judged = rw is (all-judged bs);
          discarded = rw is (never-above bs);
        }

-- ---- RULES 14.7: sums. In another order, whatever it is, the same fraction or refusal; so for two lists joined in the other order.

pub fractions-any-order : (xs : List Fraction) → Added xs (total_answer xs)
fractions-any-order xs = record { answer = refl; number = total-told xs; any_order = λ ys p. total-order p }

-- So for logs.
pub logs-any-order : (ls : List (List ℕ)) → LogsCounted ls (logs_answer ls)
logs-any-order ls = record { answer = refl; number = total-told (map fraction_of ls); any_order = λ ms p. total-order (map-order fraction_of p) }

-- And for two lists of logs, joined in either order.
pub joined-either-way : (ls ms : List (List ℕ)) → logs_answer (ls ++ ms) ≡ logs_answer (ms ++ ls)
joined-either-way ls ms = total-order (map-order fraction_of (Permᴰ.append_comm ls ms))

-- Two lists joined have the sum of their answers, refused if either is.
pub fractions-joined : (xs ys : List Fraction) → total_answer (xs ++ ys) ≡ joined (total_answer xs) (total_answer ys)
fractions-joined = total-joined

-- So for logs.
pub logs-joined : (ls ms : List (List ℕ)) → logs_answer (ls ++ ms) ≡ joined (logs_answer ls) (logs_answer ms)
logs-joined ls ms = ap total_answer (map-append fraction_of ls ms) ∙ total-joined (map fraction_of ls) (map fraction_of ms)

-- ONE LOG MORE, read in pieces: added to the sum of the logs before it, it gives the answer of the list with it. So a program may read its files one
-- by one, each piece by piece.
pub log-by-log : (ls ps : List (List ℕ)) (s : Fraction) → logs_answer ls ≡ Ok s
    → total_answer (s ∷ counted (in_pieces silent ps) ∷ []) ≡ logs_answer (ls ++ flatten ps ∷ [])
log-by-log ls ps s e =
    let log : List ℕ = flatten ps in
    sym (capped-added s (in_pieces silent ps) (pieces-within silent ps zero-le))
    ∙ ap (λ l. total_answer (s ∷ counted l ∷ [])) (pieces-capped silent ps)
    ∙ capped-added s (heard_all silent log) (never-above log)
    ∙ sym (add-one-more s (fraction_of log))
    ∙ ap₂ joined (sym e) (sym (total-one (fraction_of log)))
    ∙ sym (logs-joined ls (log ∷ []))

-- A list with a refused fraction is refused whole.
pub refused-whole : (xs ys : List Fraction) (x : Fraction) → beyond x ≡ true → total_answer (xs ++ x ∷ ys) ≡ Err Refusal.Beyond
refused-whole = some-refused

-- So is a list with a refused log.
pub log-refused-whole : (ls ms : List (List ℕ)) (bs : List ℕ) → limit + 1 < length bs → logs_answer (ls ++ bs ∷ ms) ≡ Err Refusal.Beyond
log-refused-whole ls ms bs h =
    ap total_answer (map-append fraction_of ls (bs ∷ ms))
    ∙ some-refused (map fraction_of ls) (map fraction_of ms) (fraction_of bs) (log-beyond bs ∙ lt-ltb limit (length bs - 1) (over (length bs) h))
  where
    over : (n : ℕ) → limit + 1 < n → limit < n - 1
    over n h = omega (arith, h)

-- ---- RULES 14.8: the weight is at most S, and the smallest whole number of billionths that is not below the fraction.

pub weight-smallest : (x : Fraction) → Weighed x (weight_answer x)
weight-smallest = weighed

-- ---- RULES 14.9: the comparison is that of the rationals.

pub order-exact : (x y : Fraction) → Compared x y (compare_answer x y)
order-exact = compared

-- 1, 2 or 3 as a number is less than another, equal to it or greater.
pub record Tells (n a b : ℕ) : Type 0 where
  pub less : (n ≡ 1) ↔ (a < b)
  pub equal : (n ≡ 2) ↔ (a ≡ b)
  pub greater : (n ≡ 3) ↔ (b < a)

-- So it is told of the numerators over any common denominator.
pub order-numbers : (x y : Fraction) (o : Ordering) → compare_answer x y ≡ Ok o → (m a b : ℕ) → Over x y m a b → Tells (order_told (Ok o)) a b
order-numbers x y o e m a b over = tells o (ranked a b o (IfOk-at_ok _ e (compared x y).exact m a b over))
  where
    tells : (o : Ordering) → MatchOrdering o (a < b) (a ≡ b) (b < a) → Tells (order_told (Ok o)) a b
    tells Ordering.Less h =
        record {
          less = (λ _. h, λ _. refl);
          equal = (λ e. omega (arith, e), λ e. omega (arith, h, e));
          greater = (λ e. omega (arith, e), λ k. omega (arith, h, k));
        }
    tells Ordering.Equal h =
        record {
          less = (λ e. omega (arith, e), λ k. omega (arith, h, k));
          equal = (λ _. h, λ _. refl);
          greater = (λ e. omega (arith, e), λ k. omega (arith, h, k));
        }
    tells Ordering.Greater h =
        record {
          less = (λ e. omega (arith, e), λ k. omega (arith, h, k));
          equal = (λ e. omega (arith, e), λ e. omega (arith, h, e));
          greater = (λ _. h, λ _. refl);
        }

-- ---- RULES 8.3 and 14.10: the refusals of each call in their order, and what a refused call tells.

pub log-tries : (x : Fraction) → numbers_tried (fraction_refusals x) ≡ 25 ∷ []
unfolding fraction_refusals
log-tries x = refl

pub sum-tries : (xs : List Fraction) → numbers_tried (total_refusals xs) ≡ 25 ∷ []
unfolding total_refusals
sum-tries xs = refl

pub weight-tries : (x : Fraction) → numbers_tried (weight_refusals x) ≡ 24 ∷ 25 ∷ []
unfolding weight_refusals fraction_refusals
weight-tries x = refl

pub compare-tries : (x y : Fraction) → numbers_tried (compare_refusals x y) ≡ 24 ∷ 25 ∷ []
unfolding compare_refusals
compare-tries x y = refl

-- REFUSED, a fraction is 0 of 0.
pub no_fraction : (a : Result Fraction Refusal) → 0 < number_told a → fraction_told a ≡ fraction 0 0
no_fraction (Ok x) h = absurd (lt_irrefl 0 h)
no_fraction (Err r) h = refl

-- A weight is 0.
pub no-weight : (a : Result ℕ Refusal) → 0 < number_told a → weight_told a ≡ 0
no-weight (Ok w) h = absurd (lt_irrefl 0 h)
no-weight (Err r) h = refl

-- A comparison is 0.
pub no-order : (a : Result Ordering Refusal) → 0 < number_told a → order_told a ≡ 0
no-order (Ok o) h = absurd (lt_irrefl 0 h)
no-order (Err r) h = refl

-- ---- what keeps a promise: whatever is the answer that is defined

-- A log.
pub log_promise : (bs : List ℕ) (r : Result Fraction Refusal) → r ≡ log_answer bs → LogCounted bs r
log_promise bs r e = subst (LogCounted bs) (sym e) (log-counted bs)

-- Several.
pub logs_promise : (ls : List (List ℕ)) (r : Result Fraction Refusal) → r ≡ logs_answer ls → LogsCounted ls r
logs_promise ls r e = subst (LogsCounted ls) (sym e) (logs-any-order ls)

-- A sum.
pub sum_promise : (xs : List Fraction) (r : Result Fraction Refusal) → r ≡ total_answer xs → Added xs r
sum_promise xs r e = subst (Added xs) (sym e) (fractions-any-order xs)

-- A weight.
pub weight_promise : (x : Fraction) (r : Result ℕ Refusal) → r ≡ weight_answer x → Weighed x r
weight_promise x r e = subst (Weighed x) (sym e) (weighed x)

-- A comparison.
pub order_promise : (x y : Fraction) (r : Result Ordering Refusal) → r ≡ compare_answer x y → Compared x y r
order_promise x y r e = subst (Compared x y) (sym e) (compared x y)
