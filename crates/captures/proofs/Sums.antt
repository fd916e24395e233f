-- Sums of fractions: when they are refused, that lists may be joined in any order, and one turn of a loop that adds.
-- Rests on specs/Fractions.antt and Counting.antt.
use Rattle.std.proofs.Common.{◌≡◌, ℕ, ◌+◌, ◌<◌, ◌≤◌, Bool, true, false, ◌||◌, ltb, List, [], ◌∷◌, ◌++◌, map, sym, refl, ap, ◌∙◌, ap₂, zero-le, le_trans, lt_of_lt_of_le, arith, ltb-false, ltb-true, le-ltb, lt-ltb}
use Rattle.std.specs.Prelude.{Result, Ok, Err}
use mathlib.Core.Bool.{or-false, or_assoc, or_comm}
use mathlib.Core.List.Permᴰ
use mathlib.Core.List.{Permᴰ}
use Rattle.rules.specs.Refusals.{Test, test, first, answered}
use Rattle.rules.specs.declared.Refusal.{Refusal}
use Rattle.rules.proofs.Answering.{answered-none, answered-here, answered-later, by-number}
use Rattle.rules.proofs.Booleans.{or-first, or_split, or-neither}
use Rattle.captures.specs.declared.Log.{Log}
use Rattle.captures.specs.declared.Fraction.{Fraction}
use Rattle.captures.specs.Logs.{counted, is_full, full, capped, limit, heard_all, silent, fraction_of}
use Rattle.captures.specs.Fractions.{fraction, beyond, some_beyond, fraction_refusals, fraction_answer, plus, sum_of}
use Rattle.captures.specs.Fractions.{total_refusals, total_number, total_answer, joined, number_told}
use Rattle.captures.proofs.Counting.{capped-full, capped-open, heard-within}

-- An answer tells the number of the first refusal that applies.
pub told : {A : Type 0} (xs : List Test) (a : A) → number_told (answered xs a) ≡ first xs
told xs a = by-number number_told (λ n. n) xs a refl (λ _. refl)

-- ---- 25 for a fraction

-- What is not beyond is within both limits.
pub record Within (x : Fraction) : Type 0 where
  pub judged : x.judged ≤ limit
  pub discarded : x.discarded ≤ x.judged

-- So it is.
pub within-is : (x : Fraction) → beyond x ≡ false → Within x
unfolding beyond
within-is x h =
    let both = or_split (ltb limit x.judged) (ltb x.judged x.discarded) h in
    record { judged = ltb-false limit x.judged both.0; discarded = ltb-false x.judged x.discarded both.1 }

-- Where no more is discarded than judged, only the judged packets count.
pub beyond-judged : (x : Fraction) → x.discarded ≤ x.judged → beyond x ≡ ltb limit x.judged
unfolding beyond
beyond-judged x h = ap (λ b. ltb limit x.judged || b) (le-ltb x.judged x.discarded h) ∙ or-false (ltb limit x.judged)

-- The answer of a fraction that is beyond.
pub fraction-refused : (x : Fraction) → beyond x ≡ true → fraction_answer x ≡ Err Refusal.Beyond
unfolding fraction_answer fraction_refusals
fraction-refused x h = answered-here (test Refusal.Beyond (beyond x)) [] x h

-- And of one that is not.
pub fraction-counted : (x : Fraction) → beyond x ≡ false → fraction_answer x ≡ Ok x
unfolding fraction_answer fraction_refusals
fraction-counted x h = answered-later (test Refusal.Beyond (beyond x)) [] x h ∙ answered-none x

-- What is accepted is handed back as it is.
pub accepted-same : (x y : Fraction) → fraction_answer x ≡ Ok y → y ≡ x
accepted-same x y e = by (beyond x) refl
  where
    by : (b : Bool) → beyond x ≡ b → y ≡ x
    by true h = absurd (cc (fraction-refused x h, e))
    by false h = cc (fraction-counted x h, e)

-- ---- 25 for a list

-- A fraction of the list or the sum is beyond.
unfoldable pub amiss : List Fraction → Bool
amiss xs = some_beyond xs || beyond (sum_of xs)

-- The answer of a sum of which one is.
pub total-refused : (xs : List Fraction) → amiss xs ≡ true → total_answer xs ≡ Err Refusal.Beyond
unfolding total_answer total_refusals amiss
total-refused xs h = answered-here (test Refusal.Beyond (amiss xs)) [] (sum_of xs) h

-- None of them is: the sum.
pub total-counted : (xs : List Fraction) → amiss xs ≡ false → total_answer xs ≡ Ok (sum_of xs)
unfolding total_answer total_refusals amiss
total-counted xs h = answered-later (test Refusal.Beyond (amiss xs)) [] (sum_of xs) h ∙ answered-none (sum_of xs)

-- Two lists that are amiss alike and have the same sum have the same answer.
total-alike : (xs ys : List Fraction) → amiss xs ≡ amiss ys → sum_of xs ≡ sum_of ys → total_answer xs ≡ total_answer ys
unfolding total_answer total_refusals amiss
total-alike xs ys e s = ap₂ (λ b x. answered (test Refusal.Beyond b ∷ []) x) e s

-- The answer tells the number.
pub total-told : (xs : List Fraction) → number_told (total_answer xs) ≡ total_number xs
unfolding total_answer total_number
total-told xs = told (total_refusals xs) (sum_of xs)

-- ---- lists joined

-- The sum of two lists joined.
pub sum-joined : (xs ys : List Fraction) → sum_of (xs ++ ys) ≡ plus (sum_of xs) (sum_of ys)
unfolding sum_of
sum-joined [] ys = ap₂ fraction (omega arith) (omega arith)
sum-joined (x ∷ xs) ys =
    ap (plus x) (sum-joined xs ys) ∙ ap₂ fraction (omega arith) (omega arith)

-- Some fraction of two lists joined.
some-joined : (xs ys : List Fraction) → some_beyond (xs ++ ys) ≡ some_beyond xs || some_beyond ys
unfolding some_beyond
some-joined [] ys = refl
some-joined (x ∷ xs) ys = ap (λ b. beyond x || b) (some-joined xs ys) ∙ sym (or_assoc (beyond x) (some_beyond xs) (some_beyond ys))

-- Where no fraction is beyond, the sum has no more discarded than judged.
sum-within : (xs : List Fraction) → some_beyond xs ≡ false → (sum_of xs).discarded ≤ (sum_of xs).judged
unfolding some_beyond sum_of
sum-within [] h = zero-le
sum-within (x ∷ xs) h =
    let both = or_split (beyond x) (some_beyond xs) h in
    let here = (within-is x both.0).discarded in
    let rest = sum-within xs both.1 in
    omega (arith, here, rest)

-- So the sum is beyond exactly if its judged packets are too many.
amiss-judged : (xs : List Fraction) → some_beyond xs ≡ false → amiss xs ≡ ltb limit (sum_of xs).judged
unfolding amiss
amiss-judged xs h = ap (λ b. b || beyond (sum_of xs)) h ∙ beyond-judged (sum_of xs) (sum-within xs h)

-- A list that is amiss stays so with another behind it,
amiss-before : (xs ys : List Fraction) → amiss xs ≡ true → amiss (xs ++ ys) ≡ true
unfolding amiss
amiss-before xs ys h = by (some_beyond (xs ++ ys)) refl
  where
    judged-grows : (sum_of xs).judged ≤ (sum_of (xs ++ ys)).judged
    judged-grows = rw (sum-joined xs ys) (omega arith)

    by : (b : Bool) → some_beyond (xs ++ ys) ≡ b → some_beyond (xs ++ ys) || beyond (sum_of (xs ++ ys)) ≡ true
    by true e = or-first (some_beyond (xs ++ ys)) (beyond (sum_of (xs ++ ys))) e
    by false e =
        let none : some_beyond xs ≡ false = (or_split (some_beyond xs) (some_beyond ys) (sym (some-joined xs ys) ∙ e)).0 in
        let many = ltb-true limit (sum_of xs).judged (sym (amiss-judged xs none) ∙ h) in
        amiss-judged (xs ++ ys) e ∙ lt-ltb limit (sum_of (xs ++ ys)).judged (lt_of_lt_of_le many judged-grows)

-- ---- any order

-- Two tests exchanged before a third.
or_swap : (x y z : Bool) → x || (y || z) ≡ y || (x || z)
or_swap x y z = sym (or_assoc x y z) ∙ ap (λ b. b || z) (or_comm x y) ∙ or_assoc y x z

-- In another order some fraction is beyond as before,
some-order : {xs ys : List Fraction} → Permᴰ xs ys → some_beyond xs ≡ some_beyond ys
unfolding some_beyond
some-order Permᴰ.nil = refl
some-order (Permᴰ.cons e p) = ap₂ (λ x b. beyond x || b) e (some-order p)
some-order (Permᴰ.swap {a} {b} {l = l} e f) =
    or_swap (beyond a) (beyond b) (some_beyond l) ∙ ap₂ (λ x y. beyond x || (beyond y || some_beyond l)) f e
some-order (Permᴰ.trans p q) = some-order p ∙ some-order q

-- and the sum is the same.
pub sum-order : {xs ys : List Fraction} → Permᴰ xs ys → sum_of xs ≡ sum_of ys
unfolding sum_of
sum-order Permᴰ.nil = refl
sum-order (Permᴰ.cons e p) = ap₂ plus e (sum-order p)
sum-order (Permᴰ.swap {a} {b} {l = l} e f) =
    plus-swap a b (sum_of l) ∙ ap₂ (λ x y. plus x (plus y (sum_of l))) f e
  where
    plus-swap : (x y z : Fraction) → plus x (plus y z) ≡ plus y (plus x z)
    plus-swap x y z = ap₂ fraction (omega arith) (omega arith)
sum-order (Permᴰ.trans p q) = sum-order p ∙ sum-order q

-- So what is amiss stays so.
amiss-order : {xs ys : List Fraction} → Permᴰ xs ys → amiss xs ≡ amiss ys
unfolding amiss
amiss-order p = ap₂ (λ a x. a || beyond x) (some-order p) (sum-order p)

-- ANY ORDER: the fractions of a list in another order have the same sum or refusal.
pub total-order : {xs ys : List Fraction} → Permᴰ xs ys → total_answer xs ≡ total_answer ys
total-order {xs} {ys} p = total-alike xs ys (amiss-order p) (sum-order p)

-- What is made of each of a list in another order is in another order.
pub map-order {ℓ κ} : {A : Type ℓ} {B : Type κ} (f : A → B) {xs ys : List A} → Permᴰ xs ys → Permᴰ (map f xs) (map f ys)
map-order f Permᴰ.nil = Permᴰ.nil
map-order f (Permᴰ.cons e p) = Permᴰ.cons (ap f e) (map-order f p)
map-order f (Permᴰ.swap e g) = Permᴰ.swap (ap f e) (ap f g)
map-order f (Permᴰ.trans p q) = Permᴰ.trans (map-order f p) (map-order f q)

-- A list that is amiss stays so behind another one.
amiss-behind : (xs ys : List Fraction) → amiss ys ≡ true → amiss (xs ++ ys) ≡ true
amiss-behind xs ys h = amiss-order (Permᴰ.append_comm xs ys) ∙ amiss-before ys xs h

-- ---- two answers joined

-- The sum of two.
sum-two : (x y : Fraction) → sum_of (x ∷ y ∷ []) ≡ plus x y
unfolding sum_of
sum-two x y = ap₂ fraction (omega arith) (omega arith)

-- Two fractions that are not beyond are amiss exactly if their sum is beyond.
amiss-two : (x y : Fraction) → beyond x ≡ false → beyond y ≡ false → amiss (x ∷ y ∷ []) ≡ beyond (plus x y)
unfolding amiss some_beyond sum_of
amiss-two x y hx hy =
    ap (λ b. b || beyond (sum_of (x ∷ y ∷ []))) (or-neither (beyond x) (beyond y || false) hx (or-neither (beyond y) false hy refl))
    ∙ ap beyond (sum-two x y)

-- Two lists that are not amiss are amiss joined exactly if their two sums are.
amiss-joined : (xs ys : List Fraction) → amiss xs ≡ false → amiss ys ≡ false → amiss (xs ++ ys) ≡ amiss (sum_of xs ∷ sum_of ys ∷ [])
unfolding amiss
amiss-joined xs ys h k =
    let hs = or_split (some_beyond xs) (beyond (sum_of xs)) h in
    let ks = or_split (some_beyond ys) (beyond (sum_of ys)) k in
    ap₂ (λ b x. b || beyond x) (some-joined xs ys ∙ or-neither (some_beyond xs) (some_beyond ys) hs.0 ks.0) (sum-joined xs ys)
    ∙ sym (amiss-two (sum_of xs) (sum_of ys) hs.1 ks.1)

-- LISTS JOINED have the sum of the two answers, refused if either is.
pub total-joined : (xs ys : List Fraction) → total_answer (xs ++ ys) ≡ joined (total_answer xs) (total_answer ys)
unfolding joined
total-joined xs ys = by (amiss xs) (amiss ys) refl refl
  where
    by : (a b : Bool) → amiss xs ≡ a → amiss ys ≡ b → total_answer (xs ++ ys) ≡ joined (total_answer xs) (total_answer ys)
    by true b h _ = total-refused (xs ++ ys) (amiss-before xs ys h) ∙ sym (ap (λ r. joined r (total_answer ys)) (total-refused xs h))
    by false true h k =
        total-refused (xs ++ ys) (amiss-behind xs ys k) ∙ sym (ap₂ joined (total-counted xs h) (total-refused ys k))
    by false false h k =
        total-alike (xs ++ ys) (sum_of xs ∷ sum_of ys ∷ []) (amiss-joined xs ys h k) (sum-joined xs ys ∙ sym (sum-two (sum_of xs) (sum_of ys)))
        ∙ sym (ap₂ joined (total-counted xs h) (total-counted ys k))

-- ---- adding one by one

-- A fraction by itself is a list of one.
pub total-one : (x : Fraction) → total_answer (x ∷ []) ≡ fraction_answer x
unfolding amiss some_beyond sum_of
total-one x = by (beyond x) refl
  where
    alone : sum_of (x ∷ []) ≡ x
    alone = ap₂ fraction (omega arith) (omega arith)

    by : (b : Bool) → beyond x ≡ b → total_answer (x ∷ []) ≡ fraction_answer x
    by true h = total-refused (x ∷ []) (or-first (beyond x || false) _ (or-first (beyond x) false h)) ∙ sym (fraction-refused x h)
    by false h =
        total-counted (x ∷ []) (or-neither (beyond x || false) (beyond (sum_of (x ∷ []))) (or-neither (beyond x) false h refl) (ap beyond alone ∙ h))
        ∙ ap Ok alone
        ∙ sym (fraction-counted x h)

-- A list with a fraction that is beyond is refused whole.
pub some-refused : (xs ys : List Fraction) (x : Fraction) → beyond x ≡ true → total_answer (xs ++ x ∷ ys) ≡ Err Refusal.Beyond
unfolding amiss some_beyond
some-refused xs ys x h =
    total-refused (xs ++ x ∷ ys)
    (amiss-behind xs (x ∷ ys) (or-first (beyond x || some_beyond ys) _ (or-first (beyond x) (some_beyond ys) h)))

-- A sum and one more fraction: the answers joined, or the two added.
pub add-one-more : (s x : Fraction) → joined (Ok s) (fraction_answer x) ≡ total_answer (s ∷ x ∷ [])
unfolding joined
add-one-more s x = by (beyond x) refl
  where
    by : (b : Bool) → beyond x ≡ b → joined (Ok s) (fraction_answer x) ≡ total_answer (s ∷ x ∷ [])
    by true h = ap (joined (Ok s)) (fraction-refused x h) ∙ sym (some-refused (s ∷ []) [] x h)
    by false h = ap (joined (Ok s)) (fraction-counted x h)

-- One that is refused by itself refuses the sum.
pub one-refused : (s x : Fraction) (r : Refusal) → fraction_answer x ≡ Err r → total_answer (s ∷ x ∷ []) ≡ Err r
unfolding joined
one-refused s x r e = sym (add-one-more s x) ∙ ap (joined (Ok s)) e

-- The discarded packets of two fractions that are not beyond have a sum that fits a word.
pub discarded-fits : (x y : Fraction) → beyond x || beyond y ≡ false → x.discarded + y.discarded < 18446744073709551616
discarded-fits x y h =
    let both = or_split (beyond x) (beyond y) h in
    omega (arith, within-is x both.0, within-is y both.1)

-- So have those judged.
pub judged-fits : (x y : Fraction) → beyond x || beyond y ≡ false → x.judged + y.judged < 18446744073709551616
judged-fits x y h =
    let both = or_split (beyond x) (beyond y) h in
    omega (arith, within-is x both.0, within-is y both.1)

-- Two fractions are tried before their sum.
pub two-tried : (x y : Fraction)
    → answered (test Refusal.Beyond (beyond x || beyond y) ∷ fraction_refusals (plus x y)) (plus x y) ≡ total_answer (x ∷ y ∷ [])
unfolding fraction_refusals total_answer total_refusals some_beyond amiss
two-tried x y = by (beyond x || beyond y) refl
  where
    either : Test
    either = test Refusal.Beyond (beyond x || beyond y)

    by : (b : Bool) → beyond x || beyond y ≡ b → answered (either ∷ fraction_refusals (plus x y)) (plus x y) ≡ total_answer (x ∷ y ∷ [])
    by true h =
        answered-here either (fraction_refusals (plus x y)) (plus x y) h
        ∙ sym (total-refused (x ∷ y ∷ []) (or-first (some_beyond (x ∷ y ∷ [])) _ (ap (λ b. beyond x || b) (or-false (beyond y)) ∙ h)))
    by false h =
        let both = or_split (beyond x) (beyond y) h in
        answered-later either (fraction_refusals (plus x y)) (plus x y) h
        ∙ ap₂ (λ b s. answered (test Refusal.Beyond b ∷ []) s) (sym (amiss-two x y both.0 both.1)) (sym (sum-two x y))

-- What a sum counts is not beyond.
total-within : (xs : List Fraction) (s : Fraction) → total_answer xs ≡ Ok s → beyond s ≡ false
unfolding amiss
total-within xs s e = by (amiss xs) refl
  where
    by : (b : Bool) → amiss xs ≡ b → beyond s ≡ false
    by true h = absurd (cc (total-refused xs h, e))
    by false h = ap beyond (cc (total-counted xs h, e)) ∙ (or_split (some_beyond xs) (beyond (sum_of xs)) h).1

-- ---- a loop that adds

-- THE SUM SO FAR is not beyond, and in front of the fractions that are left it has the answer of them all.
pub record SoFar (all left : List Fraction) (s : Fraction) : Type 0 where
  pub within : beyond s ≡ false
  pub answer : total_answer (s ∷ left) ≡ total_answer all

-- It begins with 0 of 0.
pub so-far-none : (all : List Fraction) (s : Fraction) → (s.discarded ≡ 0) × (s.judged ≡ 0) → SoFar all all s
unfolding amiss some_beyond sum_of beyond
so-far-none all s (d, j) =
    rw (ap₂ fraction d j)
    (record { within = refl; answer = total-alike (fraction 0 0 ∷ all) all (ap (λ x. some_beyond all || beyond x) alone) alone })
  where
    alone : plus (fraction 0 0) (sum_of all) ≡ sum_of all
    alone = ap₂ fraction (omega arith) (omega arith)

-- The next fraction x is added,
pub so-far-next : (all left behind : List Fraction) (s x t : Fraction) (w : Result Fraction Refusal) → w ≡ Ok t
    → w ≡ total_answer (s ∷ x ∷ []) → left ≡ x ∷ behind → SoFar all left s → SoFar all behind t
so-far-next all left behind s x t w ok told e so = record { within = within; answer = answer }
  where
    within : beyond t ≡ false
    within = total-within (s ∷ x ∷ []) t (sym told ∙ ok)

    answer : total_answer (t ∷ behind) ≡ total_answer all
    answer =
        total-joined (t ∷ []) behind
        ∙ ap (λ r. joined r (total_answer behind)) (total-one t ∙ fraction-counted t within ∙ sym ok ∙ told)
        ∙ sym (total-joined (s ∷ x ∷ []) behind)
        ∙ ap (λ xs. total_answer (s ∷ xs)) (sym e)
        ∙ so.answer

-- or makes the sum refused, and what is handed on is the answer of them all.
pub so-far-refused : (all left behind : List Fraction) (s x : Fraction) (w v : Result Fraction Refusal) (r : Refusal) → w ≡ Err r → v ≡ Err r
    → w ≡ total_answer (s ∷ x ∷ []) → left ≡ x ∷ behind → SoFar all left s → v ≡ total_answer all
unfolding joined
so-far-refused all left behind s x w v r err on told e so =
    on
    ∙ ap (λ b. joined b (total_answer behind)) (sym err ∙ told)
    ∙ sym (total-joined (s ∷ x ∷ []) behind)
    ∙ ap (λ xs. total_answer (s ∷ xs)) (sym e)
    ∙ so.answer

-- At the end it is the answer.
pub so-far-all : (all left : List Fraction) (s : Fraction) → left ≡ [] → SoFar all left s → Ok s ≡ total_answer all
so-far-all all left s e so = sym (fraction-counted s so.within) ∙ sym (total-one s) ∙ ap (λ xs. total_answer (s ∷ xs)) (sym e) ∙ so.answer

-- ---- a log that was handed on

-- Where no more is discarded than judged, a log is full exactly if its fraction is beyond.
full-beyond : (l : Log) → l.discarded ≤ l.judged → is_full l ≡ beyond (counted l)
unfolding is_full
full-beyond l h = by (ltb limit l.judged) refl ∙ sym (beyond-judged (counted l) h)
  where
    by : (b : Bool) → ltb limit l.judged ≡ b → ltb limit l.judged || ltb limit l.discarded ≡ ltb limit l.judged
    by true e = rw e refl
    by false e = rw e (le-ltb limit l.discarded (le_trans h (ltb-false limit l.judged e)))

-- Its fraction, handed on or not, has the same answer,
pub capped-answer : (l : Log) → l.discarded ≤ l.judged → fraction_answer (counted (capped l)) ≡ fraction_answer (counted l)
unfolding beyond
capped-answer l h = by (is_full l) refl
  where
    by : (b : Bool) → is_full l ≡ b → fraction_answer (counted (capped l)) ≡ fraction_answer (counted l)
    by true e =
        ap (λ x. fraction_answer (counted x)) (capped-full l e)
        ∙ fraction-refused (counted full) refl
        ∙ sym (fraction-refused (counted l) (sym (full-beyond l h) ∙ e))
    by false e = ap (λ x. fraction_answer (counted x)) (capped-open l e)

-- also added to a sum.
pub capped-added : (s : Fraction) (l : Log) → l.discarded ≤ l.judged
    → total_answer (s ∷ counted (capped l) ∷ []) ≡ total_answer (s ∷ counted l ∷ [])
capped-added s l h =
    sym (add-one-more s (counted (capped l))) ∙ ap (joined (Ok s)) (capped-answer l h) ∙ add-one-more s (counted l)

-- So a log that is heard, handed on and counted is added as its fraction.
pub log-added : (s : Fraction) (bs : List ℕ) {l : Log} {x : Fraction} {w : Result Fraction Refusal} → l ≡ capped (heard_all silent bs)
    → x ≡ counted l → w ≡ total_answer (s ∷ x ∷ []) → w ≡ total_answer (s ∷ fraction_of bs ∷ [])
log-added s bs e f g =
    g ∙ ap (λ y. total_answer (s ∷ y ∷ [])) (f ∙ ap counted e) ∙ capped-added s (heard_all silent bs) (heard-within silent bs zero-le)

-- ---- for the check's tactics

-- Two fractions added.
pub ruleset adding = (discarded-fits, judged-fits)
