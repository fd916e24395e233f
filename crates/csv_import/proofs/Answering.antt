-- What a call of the import promises once its text is read: the lists that were kept are refused as those of the text are, or are the same.
-- Rests on `csv_text`, Imports, on `rules`, Answering and WriterLists, on `writer`, Accepted, and on `csv_rows`, Fronts.
use Rattle.std.proofs.Common.{◌≡◌, ◌≢◌, refl, sym, ap, ◌∙◌, subst, ℕ, zero, suc, ◌*◌, ◌^◌, ◌<◌, ◌≤◌, min, Bool, true, false, ◌||◌, true≢false, eqb, ltb, lt-ltb, le-ltb, List, [], ◌∷◌, length, take, length-take, zero-lt-suc, Some, None, Result, Ok, Err, arith}
use Rattle.std.proofs.lemmas.List.{length-map, take_all}
use native.Mathlib.Decide.{dec_le}
use native.Mathlib.Nat.{pow-le-pow_right}
use Rattle.rules.specs.Rounding.{S}
use Rattle.rules.specs.declared.Limits.{Limits}
use Rattle.rules.specs.declared.Refusal.{Refusal}
use Rattle.rules.specs.Table.{rows}
use Rattle.rules.specs.Refusals.{Test, test, number, first, answered, faults_outside, cues_outside, some_above, mode_above, not_rising, crowded}
use Rattle.rules.specs.Refusals.{overweight, names_beyond, way_refusals}
use Rattle.rules.specs.Sheet.{AllBelow, Lists, total, lists_of, sheet_of, numbers_of, counts_of, present_of, absent_of, encode}
use Rattle.rules.specs.Sheet.{lists_refusals, write_refusals, write_number, write_answer, written_by, written}
use Rattle.rules.proofs.Booleans.{or_split, or-neither, or-second, is_true}
use Rattle.rules.proofs.First.{none-applies, number-above}
use Rattle.rules.proofs.Answering.{answered-here, answered-later, answered-alike, answered-before, answered-passed, first-accepted, first-refused, Comes, comes, accepts, refuses}
use Rattle.rules.proofs.Laid.{Agree}
use Rattle.rules.proofs.RoundTrip.{written-refused}
use Rattle.rules.proofs.WriterLists.{faults-most, cues-most, none_above, total-most, words-below, disagree-agree}
use Rattle.writer.specs.Given.{front_refusals}
use Rattle.writer.specs.Promises.{Writing}
use Rattle.writer.proofs.Accepted.{of-front, from-ways, of_space, in_groups}
use Rattle.csv_text.specs.declared.ImportError.{ImportError}
use Rattle.csv_text.specs.Shapes.{misread, sheet_in}
use Rattle.csv_text.specs.Calls.{text_lists, import_number, taken_over, import_answer_by, import_answer, import_reply, imported}
use Rattle.csv_text.specs.Promises.{Importing}
use Rattle.csv_text.proofs.Imports.{never-21, number_misread, number_read, import_sheet, import-refused, import-replies}
use Rattle.csv_rows.specs.Told.{cut_all}
use Rattle.csv_rows.proofs.Fronts.{cut-same, cut-none}
use Rattle.csv_import.specs.declared.read.Gathered.{Gathered}
use Rattle.csv_import.specs.declared.ways.Ways.{Ways}
use Rattle.csv_import.specs.Gather.{wide_words, Worded, lists_kept, Misreads, Said}

-- ---- the promise, by what decides

-- The answer settles the reply.
promised : {t before after : List ℕ} {r : Result ℕ ImportError} → r ≡ import_answer t (length before) → after ≡ imported t before → Importing t before after r
promised {t} {before} e s = record { answer = e; reply = ap import_reply e ∙ import-replies t (length before); space = s }

-- A record is misread.
pub promise-misread : (t before : List ℕ) (e : ImportError) → Misreads (misread t) e → Importing t before before (Err e)
unfolding import_answer import_answer_by
promise-misread t before e h = split (misread t) refl h.0 h.1
  where
    split : (k : ℕ) → misread t ≡ k → k ≢ 0 → e ≡ ImportError.Misread k → Importing t before before (Err e)
    split zero m n f = absurd (n refl)
    split (suc k) m n f = promised (ap Err f ∙ rw m) (sym (import-refused t before 22 (number_misread t (length before) k m)))

-- Tests refuse by one of them, or let pass.
abbrev pub Refuses : List Test → Refusal → Type 0
Refuses xs r = ◌≡◌ {A = Result (Unit {0}) Refusal} (answered xs tt) (Err r)

abbrev pub Passes : List Test → Type 0
Passes xs = ◌≡◌ {A = Result (Unit {0}) Refusal} (answered xs tt) (Ok tt)

-- A test of the writer refuses its call.
module _ (x : Lists) (n : ℕ) {r : Refusal} (h : Refuses (write_refusals x n) r) where
  -- So it answers,
  answer_is : write_answer x n ≡ Err r
  unfolding write_answer
  answer_is = answered-alike (write_refusals x n) tt (length (encode (sheet_of x))) r h

  -- with a number above 0.
  number_is : (k : ℕ) × (write_number x n ≡ suc k)
  unfolding write_number
  number_is = split (number r) (number-above r) (first-refused (write_refusals x n) tt r h)
    where
      split : (m : ℕ) → 0 < m → first (write_refusals x n) ≡ m → (k : ℕ) × (first (write_refusals x n) ≡ suc k)
      split zero l e = absurd (omega arith)
      split (suc k) l e = (k, e)

-- What the first tests refuse, the call refuses.
front-stops : (x : Lists) (n : ℕ) {r : Refusal} → Refuses (of-front x) r → Refuses (write_refusals x n) r
unfolding write_refusals
front-stops x n {r} h =
    let lists : Refuses (lists_refusals x) r =
    ap (λ (l : List Test). answered l tt) (in_groups x) ∙ answered-before (of-front x) (from-ways x) tt tt r h in
    answered-before (lists_refusals x) (of_space x n) tt tt r lists

module _ (t before : List ℕ) (read : misread t ≡ 0) where
  -- The lists of the text are refused.
  promise_refused : {r : Refusal} → Refuses (write_refusals (text_lists t) (length before)) r → Importing t before before (Err (ImportError.Refused r))
  unfolding import_answer import_answer_by taken_over
  promise_refused h =
      let numbered = number_is (text_lists t) (length before) h in
      promised (rw (read, answer_is (text_lists t) (length before) h))
      (sym (import-refused t before numbered.0 (number_read t (length before) read ∙ numbered.1)))

  -- What the writer leaves is what the import promises: where it writes, the lists give the sheet that the text says.
  space_written : written (text_lists t) before ≡ imported t before
  unfolding written imported written_by
  space_written = split (import_number t (length before)) refl
    where
      same : write_number (text_lists t) (length before) ≡ import_number t (length before)
      same = sym (number_read t (length before) read)

      split : (k : ℕ) → import_number t (length before) ≡ k
          → written_by (write_number (text_lists t) (length before)) (encode (sheet_of (text_lists t))) before
          ≡ written_by (import_number t (length before)) (encode (sheet_in t)) before
      split zero e = rw (same, e, import_sheet t (length before) e)
      split (suc k) e = rw (same, e)

  -- The writer was called with the lists of the text.
  promise_written : {after : List ℕ} (a : Result ℕ Refusal) → Writing (text_lists t) before after a → Importing t before after (taken_over a)
  unfolding import_answer import_answer_by
  promise_written a w = promised (ap taken_over w.answer ∙ rw read) (w.space ∙ space_written)

-- ---- words that are too wide

-- Numbers below a limit are not above one that is no lower.
below_none : (m n : ℕ) (xs : List ℕ) → m ≤ suc n → AllBelow m xs → some_above n xs ≡ false
unfolding some_above
below_none m n [] h b = refl
below_none m n (x ∷ xs) h b = or-neither (ltb n x) _ (le-ltb n x (omega (arith, b.0))) (below_none m n xs h b.1)

-- A word of more than 64 bits names a fault beyond the last.
wide-beyond : (n : ℕ) (ps qs : List ℕ) → n ≤ 64 → length qs ≡ length ps → wide_words ps qs ≡ true → names_beyond n (rows 0 ps qs) ≡ true
unfolding wide_words
wide-beyond n ps qs few same wide =
    is_true _ (λ none-beyond.
    let below = words-below n 0 ps qs same none-beyond in
    let most : 2 ^ n ≤ 2 ^ 64 = pow-le-pow_right (zero-lt-suc 1) few in
    true≢false
    (sym wide
    ∙ or-neither _ _ (below_none (2 ^ n) 18446744073709551615 ps most below.0) (below_none (2 ^ n) 18446744073709551615 qs most below.1)))

-- ---- 2, 3, 5, 6 and 10

-- One more than the limit is enough to see that there are too many.
outside-kept : (m n : ℕ) → eqb (min (suc m) n) 0 || ltb m (min (suc m) n) ≡ eqb n 0 || ltb m n
outside-kept m n = split (dec_le n (suc m))
  where
    over : (k : ℕ) → m < k → eqb k 0 || ltb m k ≡ true
    over k h = or-second (eqb k 0) (ltb m k) (lt-ltb m k h)

    split : Dec (n ≤ suc m) → eqb (min (suc m) n) 0 || ltb m (min (suc m) n) ≡ eqb n 0 || ltb m n
    split (yes h) = let all : min (suc m) n ≡ n = omega arith in ap (λ (k : ℕ). eqb k 0 || ltb m k) all
    split (no h) = over (min (suc m) n) (omega arith) ∙ sym (over n (omega arith))

-- Cutting changes no length.
cut-length : (m : ℕ) (xs : List ℕ) → length (cut_all m xs) ≡ length xs
unfolding cut_all
cut-length m xs = length-map xs (λ x. min x m)

-- Lists with the same first test, and others that are the same where it does not apply.
answered-same : (x : Test) (xs ys : List Test) → (x.applies ≡ false → xs ≡ ys)
    → ◌≡◌ {A = Result (Unit {0}) Refusal} (answered (x ∷ xs) tt) (answered (x ∷ ys) tt)
answered-same x xs ys h = split x.applies refl
  where
    split : (b : Bool) → x.applies ≡ b → ◌≡◌ {A = Result (Unit {0}) Refusal} (answered (x ∷ xs) tt) (answered (x ∷ ys) tt)
    split true e = answered-here x xs tt e ∙ sym (answered-here x ys tt e)
    split false e = answered-later x xs tt e ∙ ap (λ (l : List Test). answered l tt) (h e) ∙ sym (answered-later x ys tt e)

-- Numbers kept as far as there is room, cut to what the type holds.
abbrev kept : ℕ → ℕ → List ℕ → List ℕ
kept n m xs = take n (cut_all m xs)

module _ (ws ns ks : List ℕ) where
  -- The sizes are outside the limits.
  abbrev outside : List ℕ → List ℕ → List ℕ → Bool
  outside ws ns ks = faults_outside (length ws) || (cues_outside (length ns) || cues_outside (length ks))

  -- They are so as they were kept.
  outside-same : outside (kept 65 4294967295 ws) (take 25 ns) (kept 25 65535 ks) ≡ outside ws ns ks
  unfolding faults_outside cues_outside
  outside-same =
      rw (length-take 65 (cut_all 4294967295 ws), length-take 25 ns, length-take 25 (cut_all 65535 ks), cut-length 4294967295 ws, cut-length 65535 ks)
      (rw (outside-kept 64 (length ws), outside-kept 24 (length ns), outside-kept 24 (length ks)))

  -- Lists that are not too long are kept whole.
  module _ (sizes : outside ws ns ks ≡ false) where
    faults-few : length ws ≤ 64
    faults-few = faults-most (length ws) (or_split (faults_outside (length ws)) _ sizes).0

    cues-few : (length ns ≤ 24) × (length ks ≤ 24)
    cues-few =
        let both = or_split (cues_outside (length ns)) _ (or_split (faults_outside (length ws)) _ sizes).1 in
        (cues-most (length ns) both.0, cues-most (length ks) both.1)

    weights-whole : kept 65 4294967295 ws ≡ cut_all 4294967295 ws
    weights-whole = take_all 65 (cut_all 4294967295 ws) (omega (arith, cut-length 4294967295 ws, faults-few))

    numbers-whole : take 25 ns ≡ ns
    numbers-whole = take_all 25 ns (omega (arith, cues-few.0))

    counts-whole : kept 25 65535 ks ≡ cut_all 65535 ks
    counts-whole = take_all 25 (cut_all 65535 ks) (omega (arith, cut-length 65535 ks, cues-few.1))

  -- So the first tests answer as they do for the whole lists.
  front-kept : (m : Limits) → ◌≡◌ {A = Result (Unit {0}) Refusal}
      (answered (front_refusals m (kept 65 4294967295 ws) (take 25 ns) (kept 25 65535 ks)) tt)
      (answered (front_refusals m ws ns ks) tt)
  unfolding front_refusals crowded overweight
  front-kept m =
      ap (λ (b : Bool). answered (test Refusal.CountsOutside b ∷ behind (kept 65 4294967295 ws) (take 25 ns) (kept 25 65535 ks)) tt) outside-same
      ∙ answered-same _ _ _ (λ e.
      rw (weights-whole e, numbers-whole e, counts-whole e, cut-same S 4294967295 ws (omega arith), cut-same 128 65535 ks (omega arith)) refl)
    where
      behind : List ℕ → List ℕ → List ℕ → List Test
      behind ws ns ks =
          test Refusal.ModeAbove (mode_above m)
          ∷ test Refusal.NotRising (not_rising ns)
          ∷ test Refusal.Crowded (crowded ks)
          ∷ test Refusal.Overweight (overweight ws)
          ∷ []

-- ---- a text that is read

module _ {t : List ℕ} {g : Gathered} (s : Said t g) where
  -- The lists of the text.
  abbrev W : List ℕ
  W = (sheet_in t).weights

  abbrev N : List ℕ
  N = numbers_of (sheet_in t).cues

  abbrev K : List ℕ
  K = counts_of (sheet_in t).cues

  abbrev P : List ℕ
  P = present_of (sheet_in t).cues

  abbrev Q : List ℕ
  Q = absent_of (sheet_in t).cues

  -- The first tests of what was kept, and that they answer as for the text.
  abbrev front : List Test
  front = front_refusals g.limits g.weights.items g.rows.cues.numbers.items g.rows.cues.counts.items

  front-same : ◌≡◌ {A = Result (Unit {0}) Refusal} (answered front tt) (answered (of-front (text_lists t)) tt)
  unfolding text_lists lists_of
  front-same = rw (s.limits, s.weights, s.holds.cues.numbers, s.holds.cues.counts) (front-kept W N K (sheet_in t).limits)

  -- They agree in length.
  agrees : Agree (text_lists t)
  agrees = disagree-agree (text_lists t) (never-21 t)

  module _ (passes : Passes (of-front (text_lists t))) where
    -- Sizes, counts and weights are within the limits.
    within : (outside W N K W N K ≡ false) × (crowded K ≡ false) × (overweight W ≡ false)
    unfolding front_refusals text_lists lists_of
    within =
        let n = none-applies (of-front (text_lists t)) (first-accepted (of-front (text_lists t)) tt tt passes) in
        (n.0, n.1.1.1.0, n.1.1.1.1.0)

    -- So there is room for all words.
    ways-few : length P ≤ 3072
    unfolding crowded text_lists lists_of
    ways-few =
        let most : total K ≤ 128 * length K = total-most 128 K (none_above 128 K within.1) in
        let said : length P ≡ total K = agrees.dealt in
        omega (arith, most, said, (cues-few W N K within.0).1)

    -- A word that is too wide: 12.
    wide-refuses : g.rows.ways ≡ None → (n : ℕ) → Refuses (write_refusals (text_lists t) n) Refusal.NamesBeyond
    unfolding write_refusals way_refusals text_lists lists_of
    wide-refuses far n =
        let y : Lists = text_lists t in
        let beyond : names_beyond (length W) (rows 0 P Q) ≡ true =
        wide-beyond (length W) P Q (faults-few W N K within.0) agrees.paired (rw far at s.holds.ways) in
        let lists : Refuses (lists_refusals y) Refusal.NamesBeyond =
        ap (λ (l : List Test). answered l tt) (in_groups y)
        ∙ answered-passed (of-front y) (from-ways y) tt tt tt passes
        ∙ answered-here _ _ tt beyond in
        answered-before (lists_refusals y) (of_space y n) tt tt Refusal.NamesBeyond lists

    -- No word is: the lists that are kept are those of the text.
    lists-same : (w : Ways) → g.rows.ways ≡ Some w → lists_kept g w ≡ text_lists t
    unfolding crowded overweight text_lists lists_of
    lists-same w near =
        let words : Worded P Q (Some w) = rw near at s.holds.ways in
        let weights : g.weights.items ≡ W = s.weights ∙ weights-whole W N K within.0 ∙ cut-none S 4294967295 W (omega arith) within.2 in
        let numbers : g.rows.cues.numbers.items ≡ N = s.holds.cues.numbers ∙ numbers-whole W N K within.0 in
        let counts : g.rows.cues.counts.items ≡ K =
        s.holds.cues.counts ∙ counts-whole W N K within.0 ∙ cut-none 128 65535 K (omega arith) within.1 in
        let presents : w.present.items ≡ P = words.1 ∙ take_all 3072 P ways-few in
        let absents : w.absent.items ≡ Q = words.2 ∙ take_all 3072 Q (omega (arith, ways-few, agrees.paired)) in
        rw (s.limits, weights, numbers, counts, presents, absents)

  module _ (before : List ℕ) where
    -- The first tests refuse.
    pub front-refuses : {r : Refusal} → Refuses front r → Importing t before before (Err (ImportError.Refused r))
    front-refuses h = promise_refused t before s.read (front-stops (text_lists t) (length before) (sym front-same ∙ h))

    -- They let pass, but a word is too wide.
    pub far-refuses : Passes front → g.rows.ways ≡ None → Importing t before before (Err (ImportError.Refused Refusal.NamesBeyond))
    far-refuses h far = promise_refused t before s.read (wide-refuses (sym front-same ∙ h) far (length before))

    -- No word is: the writer is called with what was kept.
    pub writes : (w : Ways) → g.rows.ways ≡ Some w → (y : Lists) → y ≡ lists_kept g w → {after : List ℕ} (a : Result ℕ Refusal) → Writing y before after a
        → Importing t before after (taken_over a)
    unfolding taken_over
    writes w near y given {after} a wrote = split (comes {A = Unit {0}} (of-front (text_lists t)) tt)
      where
        same : ◌≡◌ {A = Result (Unit {0}) Refusal} (answered (of-front y) tt) (answered (of-front (text_lists t)) tt)
        same = rw given front-same

        split : Comes {A = Unit {0}} (of-front (text_lists t)) tt → Importing t before after (taken_over a)
        split (accepts n e) = promise_written t before s.read a (subst (λ (l : Lists). Writing l before after a) (given ∙ lists-same e w near) wrote)
        split (refuses r n e) =
            let stops : Refuses (write_refusals y (length before)) r = front-stops y (length before) (same ∙ e) in
            let answer : a ≡ Err r = wrote.answer ∙ answer_is y (length before) stops in
            let numbered = number_is y (length before) stops in
            let space : after ≡ before = wrote.space ∙ written-refused y before numbered.0 numbered.1 in
            rw (answer, space) (promise_refused t before s.read (front-stops (text_lists t) (length before) e))
