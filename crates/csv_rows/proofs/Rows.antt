-- The record of a way, test by test: the empty way, the words of faults that are near or far, and the cue.
-- Rests on `csv_text`, Shapes and Order, and on Reading.antt.
use Rattle.std.proofs.Common.{◌≡◌, refl, sym, ap, ◌∙◌, Bool, true, false, not, ◌&&◌, ◌||◌, eqb, ltb, lt-ltb, le-ltb, ltb-true, eqb-true, if◌then◌else◌, List}
use Rattle.std.proofs.Common.{[], ◌∷◌, map, ℕ, suc, ◌^◌, ◌<◌, ◌≤◌, zero-lt-suc, pow-suc, Option, Some, None, MatchOption, Bor, arith}
use Rattle.std.proofs.lemmas.Bool.{false≢true, eqb-false, ltb-false}
use native.Mathlib.Nat.{pow-le-pow_right, one-le-pow}
use lib.Bits.{or_lt, or_add_and, and_le_r, and_le_l}
use borrow.Author.Tests.{not-true, not-false}
use Rattle.std.specs.Bool.{then_some}
use Rattle.rules.specs.Sheet.{same_numbers}
use Rattle.rules.specs.Text.{bytes, digits, decimal, value_after, decimal_value}
use Rattle.rules.proofs.Booleans.{and_left, and-false, or_split, or-first, or-second, or_cases, or-neither, is_false}
use Rattle.rules.proofs.Sheets.{same-equal}
use Rattle.decimal.specs.Numerals.{is_numeral}
use Rattle.csv_text.specs.Cut.{fields_in}
use Rattle.csv_text.specs.declared.Fault.{Fault}
use Rattle.csv_text.specs.Shapes.{signed, unsigned, is_fault, fault_in, all_faults, repeats, same_sense, word_of, is_empty_way, is_names, is_row}
use Rattle.csv_text.specs.Shapes.{faults_named, row_in}
use Rattle.csv_text.proofs.Order.{sense-itself}
use Rattle.csv_rows.specs.declared.Named.{Named}
use Rattle.csv_rows.specs.declared.Named.TheVariants.{Near, Far}
use Rattle.csv_rows.specs.Scan.{first_line, next_lines}
use Rattle.csv_rows.specs.Fields.{numeral_said}
use Rattle.csv_rows.specs.Walks.{some_far, apart, named_in}
use Rattle.csv_rows.specs.Told.{ReadsLine, named_by, way_by, row_of, faults_said, nothing_said, way_said, row_said}
use Rattle.csv_rows.proofs.Reading.{said-not, said-true, said-false, said-decimal}

-- ---- the empty way

-- Fields that begin with another one are no empty way.
empty-not : (f : List ℕ) (fs : List (List ℕ)) → (f ≡ 48 ∷ [] → ⊥) → is_empty_way (f ∷ fs) ≡ false
unfolding is_empty_way bytes
empty-not f [] h = is_false (same_numbers f (48 ∷ [])) (λ e. h (same-equal f (48 ∷ []) e))
empty-not f (g ∷ fs) h = refl

-- `0` says 0.
zero-said : numeral_said (48 ∷ []) ≡ Some 0
unfolding is_numeral same_numbers decimal digits decimal_value value_after
zero-said = refl

-- No number.
pub nothing-bad : (f : List ℕ) (fs : List (List ℕ)) → numeral_said f ≡ None → nothing_said (f ∷ fs) ≡ None
nothing-bad f fs h = said-not _ _ (empty-not f fs (λ e. let bad : ◌≡◌ {A = Option ℕ} None (Some 0) = sym h ∙ ap numeral_said e ∙ zero-said in absurd cc))

-- A further field follows.
pub nothing-more : (f : List ℕ) (fs : List (List ℕ)) → (fs ≡ [] → ⊥) → nothing_said (f ∷ fs) ≡ None
unfolding is_empty_way
nothing-more f [] h = absurd (h refl)
nothing-more f (g ∷ fs) h = refl

-- A number alone: the empty way, if it is 0.
pub nothing-alone : (f : List ℕ) (n : ℕ) → numeral_said f ≡ Some n → nothing_said (f ∷ []) ≡ then_some (eqb n 0) (named_in [])
unfolding is_empty_way same_numbers bytes decimal digits
nothing-alone f n h = ap (λ (b : Bool). then_some b (named_in [])) (split (eqb n 0) refl)
  where
    split : (x : Bool) → eqb n 0 ≡ x → is_empty_way (f ∷ []) ≡ eqb n 0
    split true e =
        let zero : f ≡ 48 ∷ [] = sym (said-decimal f n h) ∙ ap decimal (eqb-true n 0 e) in
        rw (e, zero)
    split false e =
        empty-not f [] (λ z. eqb-false n 0 e (let same : ◌≡◌ {A = Option ℕ} (Some n) (Some 0) = sym h ∙ ap numeral_said z ∙ zero-said in cc)) ∙ sym e

-- A line that says something if a test holds.
pub reads-if : {A : Type 0} (says : List (List ℕ) → Option A) (t : List ℕ) (b : Bool) (x : A) (lines : Bor (List ℕ))
    → says (fields_in (first_line t)) ≡ then_some b x → lines.now ≡ next_lines t → ReadsLine says t (then_some b (x, lines))
reads-if says t true x lines e f = (e, f)
reads-if says t false x lines e f = e

-- ---- a way

-- `0` is no fault.
apart-some : (fs : List (List ℕ)) → apart fs ≡ true → is_empty_way fs ≡ false
unfolding is_empty_way all_faults is_fault signed unsigned is_numeral same_numbers decimal digits decimal_value value_after
apart-some [] h = refl
apart-some (f ∷ []) h =
    empty-not f [] (λ e. false≢true (sym (and-false (is_numeral (48 ∷ []))) ∙ ap is_fault (sym e) ∙ and_left (is_fault f) _ (and_left (is_fault f && true) _ h)))
apart-some (f ∷ g ∷ fs) h = refl

-- A way that names its faults.
pub way-faults : (fs : List (List ℕ)) (w : Named) → faults_said fs ≡ Some w → way_said fs ≡ Some w
unfolding is_names faults_named
way-faults fs w h =
    let said = said-true (apart fs) (named_in (map fault_in fs)) w h in
    rw (apart-some fs said.0, faults_named, said.0) (ap Some said.1)

-- Any other is the empty one.
pub way-nothing : (fs : List (List ℕ)) → faults_said fs ≡ None → way_said fs ≡ nothing_said fs
unfolding is_names faults_named
way-nothing fs h = rw (said-false (apart fs) _ h) (split (is_empty_way fs) refl)
  where
    split : (x : Bool) → is_empty_way fs ≡ x
        → then_some (is_empty_way fs || false) (named_in (faults_named fs)) ≡ then_some (is_empty_way fs) (named_in [])
    split true e = rw (e, faults_named)
    split false e = rw e

-- Of either kind.
pub way-either : {P : Type 0} (t : List ℕ) (r s : Option (Named × Bor (List ℕ))) → ReadsLine faults_said t r → (P → ReadsLine nothing_said t s)
    → MatchOption r P (λ x. s ≡ Some x) → ReadsLine way_said t s
way-either t None s e other m = reads s (other m)
  where
    reads : (s : Option (Named × Bor (List ℕ))) → ReadsLine nothing_said t s → ReadsLine way_said t s
    reads None n = way-nothing _ e ∙ n
    reads (Some r) n = (way-nothing _ e ∙ n.0, n.1)
way-either t (Some (w, lines)) s e other m = rw m (way-faults _ w e.0, e.1)

-- ---- words that 64 bits hold

-- Without a far fault the word fits.
word_fits : (b : Bool) (fs : List Fault) → some_far fs ≡ false → word_of b fs < 2 ^ 64
unfolding word_of some_far
word_fits b [] h = omega arith
word_fits b (f ∷ fs) h =
    let none = or_split (not (ltb f.place 64)) (some_far fs) h in
    split (same_sense b f.absent) refl (ltb-true f.place 64 (not-false _ none.0)) (word_fits b fs none.1)
  where
    split : (x : Bool) → same_sense b f.absent ≡ x → f.place < 64 → word_of b fs < 2 ^ 64 → word_of b (f ∷ fs) < 2 ^ 64
    split true e near rest =
        let pos : 1 ≤ 2 ^ f.place = one-le-pow f.place 2 (zero-lt-suc 1) in
        let most : 2 ^ suc f.place ≤ 2 ^ 64 = pow-le-pow_right (zero-lt-suc 1) near in
        rw (e, word_of) (or_lt 64 (2 ^ f.place) (word_of b fs) (omega (arith, pow-suc 2 f.place)) rest)
    split false e near rest = rw (e, word_of) rest

-- A word is no less than the bit of its first fault.
word-here : (f : Fault) (fs : List Fault) → 2 ^ f.place ≤ word_of f.absent (f ∷ fs)
unfolding word_of
word-here f fs =
    rw (sense-itself f.absent, word_of)
    (omega (arith, or_add_and (2 ^ f.place) (word_of f.absent fs), and_le_r (2 ^ f.place) (word_of f.absent fs)))

-- And than the word of the faults behind the first.
word-rest : (b : Bool) (f : Fault) (fs : List Fault) → word_of b fs ≤ word_of b (f ∷ fs)
unfolding word_of
word-rest b f fs = split (same_sense b f.absent) refl
  where
    split : (x : Bool) → same_sense b f.absent ≡ x → word_of b fs ≤ word_of b (f ∷ fs)
    split true e = rw (e, word_of) (omega (arith, or_add_and (2 ^ f.place) (word_of b fs), and_le_l (2 ^ f.place) (word_of b fs)))
    split false e = rw (e, word_of) (omega arith)

-- Some word of the two senses is wider than 64 bits.
abbrev beyond : List Fault → Bool
beyond fs = ltb 18446744073709551615 (word_of false fs) || ltb 18446744073709551615 (word_of true fs)

-- A far fault makes it so.
far-wide : (fs : List Fault) → some_far fs ≡ true → beyond fs ≡ true
unfolding some_far
far-wide [] h = absurd (false≢true h)
far-wide (f ∷ fs) h = or_cases (not (ltb f.place 64)) (some_far fs) first (λ k. later (far-wide fs k)) h
  where
    over : Bool → Bool
    over b = ltb 18446744073709551615 (word_of b (f ∷ fs))

    either : (b : Bool) → 18446744073709551615 < word_of b (f ∷ fs) → beyond (f ∷ fs) ≡ true
    either false k = or-first (over false) (over true) (lt-ltb 18446744073709551615 (word_of false (f ∷ fs)) k)
    either true k = or-second (over false) (over true) (lt-ltb 18446744073709551615 (word_of true (f ∷ fs)) k)

    first : not (ltb f.place 64) ≡ true → beyond (f ∷ fs) ≡ true
    first k =
        let far : 2 ^ 64 ≤ 2 ^ f.place = pow-le-pow_right (zero-lt-suc 1) (ltb-false f.place 64 (not-true (ltb f.place 64) k)) in
        either f.absent (omega (arith, far, word-here f fs))

    later : beyond fs ≡ true → beyond (f ∷ fs) ≡ true
    later =
        or_cases (ltb 18446744073709551615 (word_of false fs)) (ltb 18446744073709551615 (word_of true fs))
        (λ e. either false (omega (arith, ltb-true 18446744073709551615 (word_of false fs) e, word-rest false f fs)))
        (λ e. either true (omega (arith, ltb-true 18446744073709551615 (word_of true fs) e, word-rest true f fs)))

-- A far fault is one that 64 bits do not hold.
far-is : (fs : List Fault) → some_far fs ≡ beyond fs
far-is fs = split (some_far fs) refl
  where
    split : (x : Bool) → some_far fs ≡ x → some_far fs ≡ beyond fs
    split true h = h ∙ sym (far-wide fs h)
    split false h =
        h
        ∙ sym (or-neither (ltb 18446744073709551615 (word_of false fs)) (ltb 18446744073709551615 (word_of true fs))
        (le-ltb 18446744073709551615 (word_of false fs) (omega (arith, word_fits false fs h)))
        (le-ltb 18446744073709551615 (word_of true fs) (omega (arith, word_fits true fs h))))

-- ---- the record

-- The faults of a way are those of its words.
words-name : (xs : List Fault) → named_in xs ≡ named_by (word_of false xs) (word_of true xs)
unfolding named_in named_by
words-name xs = ap (λ (far : Bool). if far then Far else Near (record { present = word_of false xs; absent = word_of true xs })) (far-is xs)

-- So a way is told by its words.
way-named : (c : ℕ) (xs : List Fault)
    → row_of (record { number = c; present = word_of false xs ∷ []; absent = word_of true xs ∷ [] }) ≡ record { cue = c; way = Some (named_in xs) }
unfolding row_of way_by
way-named c xs = rw (words-name xs)

-- No number in front;
pub row-bad : (c : List ℕ) (fs : List (List ℕ)) → numeral_said c ≡ None → row_said (c ∷ fs) ≡ None
unfolding is_row
row-bad c fs h = rw (said-false (is_numeral c) _ h)

module _ (c : List ℕ) (n : ℕ) (said : numeral_said c ≡ Some n) where
  -- a cue number too large;
  pub row-high : (fs : List (List ℕ)) → 65535 < n → row_said (c ∷ fs) ≡ None
  unfolding is_row
  row-high fs h = let is = said-true (is_numeral c) (decimal_value c) n said in rw (is.0, is.1, le-ltb n 65536 (omega arith))

  module _ (small : n ≤ 65535) where
    -- fields that are no way.
    pub row-not : (f : List ℕ) (fs : List (List ℕ)) → way_said (f ∷ fs) ≡ None → row_said (c ∷ f ∷ fs) ≡ None
    unfolding is_row
    row-not f fs h =
        rw (said-false (is_names (f ∷ fs)) _ h, and-false (is_numeral c && ltb (decimal_value c) 65536))

    -- The cue alone.
    pub row-alone : row_said (c ∷ []) ≡ Some (record { cue = n; way = None })
    unfolding is_row is_names is_empty_way all_faults repeats row_in row_of way_by
    row-alone = let is = said-true (is_numeral c) (decimal_value c) n said in rw (is.0, is.1, lt-ltb n 65536 (omega arith))

    -- A way.
    pub row-way : (f : List ℕ) (fs : List (List ℕ)) (w : Named) → way_said (f ∷ fs) ≡ Some w → row_said (c ∷ f ∷ fs) ≡ Some (record { cue = n; way = Some w })
    unfolding is_row row_in
    row-way f fs w h =
        let is = said-true (is_numeral c) (decimal_value c) n said in
        let way = said-true (is_names (f ∷ fs)) (named_in (faults_named (f ∷ fs))) w h in
        rw (is.0, is.1, lt-ltb n 65536 (omega arith), way.0, way-named n (faults_named (f ∷ fs)), way.1)
