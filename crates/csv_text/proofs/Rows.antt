-- The records of ways that are written are read again: each says its way, follows the one before, and they join to the cues.
-- Rests on Names.antt (RULES 13.7 to 13.10, 13.13).
use mathlib.Core.Path.{◌≡◌, refl, ap, ap₂, ◌∙◌}
use mathlib.Core.Bool.{true, false, not}
use mathlib.Core.List.Memᴰ
use mathlib.Core.List.{List, [], ◌∷◌, ◌++◌, map}
use Rattle.std.specs.Prelude.{Option, Some, None}
use Prim.Native.Nat.{ℕ, suc, ◌^◌, ◌<◌, ◌≤◌}
use native.Mathlib.Omega.{arith}
use lib.ListN.{length}
use lib.Dec.{eqb, ltb}
use borrow.Author.Tests.{lt-ltb, ltb-true, ne_eqb, eq-eqb}
use Rattle.rules.specs.Refusals.{rising}
use Rattle.rules.specs.Sheet.{Cue, same_numbers, AllBelow, numbers_of}
use Rattle.rules.specs.Text.{bytes, decimal, decimal_value}
use Rattle.rules.proofs.Booleans.{and_both, and_split, or-first, or-second}
use Rattle.rules.proofs.Decimal.{decimal-value}
use Rattle.rules.proofs.Laid.{Paired}
use Rattle.decimal.proofs.Numerals.{decimal-numeral}
use Rattle.csv_text.specs.Shapes.{Fault, fault_in, all_faults, repeats, word_of, is_empty_way, is_names, is_row, faults_named, row_in, follows}
use Rattle.csv_text.specs.Shapes.{misread_rows, attach, grouped}
use Rattle.csv_text.specs.Texts.{fault_text, faults_from, or_zero, way_record, way_records, or_alone, cue_records}
use Rattle.csv_text.proofs.Written.{Every, Plain, PlainRecord}
use Rattle.csv_text.proofs.Names.{decimal-plain, says-fault, Placed, faults-below, none-twice, words_back}

-- ---- one record

-- Faults that are written are faults, say those, and are plain.
says_all : (fs : List Fault) → Placed 0 64 fs
    → (all_faults (map fault_text fs) ≡ true) × (map fault_in (map fault_text fs) ≡ fs) × Every Plain (map fault_text fs)
unfolding all_faults
says_all [] h = (refl, refl, tt)
says_all (f ∷ fs) h =
    let here = says-fault f.place f.absent h.1 in
    let rest = says_all fs h.2 in
    (and_both _ _ here.fault rest.0, ap₂ (λ (x : Fault) (xs : List Fault). x ∷ xs) here.says rest.1, (here.plain, rest.2))

-- Written faults, at least one, are not the empty way.
not-empty : (f : Fault) (fs : List Fault) → Placed 0 64 (f ∷ fs) → is_empty_way (map fault_text (f ∷ fs)) ≡ false
unfolding is_empty_way
not-empty f [] h = (says-fault f.place f.absent h.1).more
not-empty f (g ∷ fs) h = refl

-- They name those faults.
named_back : (f : Fault) (fs : List Fault) → Placed 0 64 (f ∷ fs) → faults_named (map fault_text (f ∷ fs)) ≡ f ∷ fs
unfolding faults_named
named_back f fs h = rw (not-empty f fs h, faults_named) (says_all (f ∷ fs) h).1

-- A record that says a cue.
record Said (r : List (List ℕ)) (c : Cue) : Type 0 where
  pub row : is_row r ≡ true
  pub says : row_in r ≡ c
  pub plain : PlainRecord r

-- A cue with one way.
abbrev single : ℕ → ℕ → ℕ → Cue
single c p q = record { number = c; present = p ∷ []; absent = q ∷ [] }

-- A cue without ways.
abbrev alone : ℕ → Cue
alone c = record { number = c; present = []; absent = [] }

-- A cue number of two bytes is one of a record.
number-good : (c : ℕ) → c < 65536 → ltb (decimal_value (decimal c)) 65536 ≡ true
number-good c h = rw decimal-value (lt-ltb c 65536 h)

-- The number alone says a cue without ways.
alone-row : (c : ℕ) → c < 65536 → Said (decimal c ∷ []) (alone c)
unfolding is_row is_names row_in is_empty_way all_faults repeats
alone-row c h =
    record {
      row = and_both _ _ (and_both _ _ (decimal-numeral c (omega arith)) (number-good c h)) refl;
      says = ap alone (decimal-value c);
      plain = (omega arith, (decimal-plain c, tt));
    }

-- A number and faults, or `0` if there are none, say a cue with one way.
names-row : (c : ℕ) (fs : List Fault) → c < 65536 → Placed 0 64 fs → repeats fs ≡ false
    → Said (decimal c ∷ or_zero (map fault_text fs)) (single c (word_of false fs) (word_of true fs))
unfolding is_row is_names row_in is_empty_way faults_named or_zero bytes same_numbers
names-row c [] h k e =
    record {
      row = and_both _ _ (and_both _ _ (decimal-numeral c (omega arith)) (number-good c h)) refl;
      says = ap (λ (n : ℕ). single n (word_of false []) (word_of true [])) (decimal-value c);
      plain = (omega arith, (decimal-plain c, ((omega arith, tt), tt)));
    }
names-row c (f ∷ fs) h k e =
    let texts : List (List ℕ) = map fault_text (f ∷ fs) in
    let all = says_all (f ∷ fs) k in
    let once : not (repeats (map fault_in texts)) ≡ true = ap (λ (xs : List Fault). not (repeats xs)) all.1 ∙ ap not e in
    record {
      row = and_both _ _ (and_both _ _ (decimal-numeral c (omega arith)) (number-good c h)) (or-second (is_empty_way texts) _ (and_both _ _ all.0 once));
      says = ap₂ (λ (n : ℕ) (xs : List Fault). single n (word_of false xs) (word_of true xs)) (decimal-value c) (named_back f fs k);
      plain = (omega arith, (decimal-plain c, all.2));
    }

-- The record of a way says that way.
way-row : (n c p q : ℕ) → n ≤ 64 → c < 65536 → p < 2 ^ n → q < 2 ^ n → Said (way_record n c p q) (single c p q)
unfolding way_record
way-row n c p q few h l m =
    let fs : List Fault = faults_from 0 n p q in
    let r = names-row c fs h (faults-below n p q few) (none-twice 0 n p q) in
    let back = words_back 0 n p q l m in
    let e : word_of false fs ≡ p = back.0 ∙ omega arith in
    let e' : word_of true fs ≡ q = back.1 ∙ omega arith in
    record { row = r.row; says = r.says ∙ ap₂ (λ (x y : ℕ). single c x y) e e'; plain = r.plain }

-- ---- records in a row

-- Each is a row and follows the one before it.
abbrev pub Steps : Option Cue → List (List (List ℕ)) → Type 0
Steps before [] = Unit {0}
Steps before (r ∷ rs) = (is_row r ≡ true) × (follows before (row_in r) ≡ true) × Steps (Some (row_in r)) rs

-- Then none is misread.
pub steps-read : (k : ℕ) (before : Option Cue) (rs : List (List (List ℕ))) → Steps before rs → misread_rows k before rs ≡ 0
unfolding misread_rows
steps-read k before [] h = refl
steps-read k before (r ∷ rs) h = rw (and_both _ _ h.0 h.1, misread_rows) (steps-read (suc k) (Some (row_in r)) rs h.2)

-- Records that are read well after another, say these cues, and are plain.
pub record Well (before : Option Cue) (rs : List (List (List ℕ))) (cs : List Cue) : Type 0 where
  pub steps : Steps before rs
  pub cues : grouped (map row_in rs) ≡ cs
  pub plain : Every PlainRecord rs

-- One more record in front.
well-cons : (before : Option Cue) (r : List (List ℕ)) (rs : List (List (List ℕ))) (c : Cue) (cs : List Cue)
    → Said r c → follows before c ≡ true → Well (Some c) rs cs → Well before (r ∷ rs) (attach c cs)
unfolding grouped
well-cons before r rs c cs w f k =
    record {
      steps = (w.row, rw w.says f, rw w.says k.steps);
      cues = ap₂ (λ (x : Cue) (xs : List Cue). attach x xs) w.says k.cues;
      plain = (w.plain, k.plain);
    }

-- The record before is of a cue up to m.
abbrev pub Under : Option Cue → ℕ → Type 0
Under None m = Unit {0}
Under (Some b) m = b.number ≤ m

-- A cue of a higher number follows any other.
follows-under : (before : Option Cue) (m : ℕ) (c : Cue) → Under before m → m < c.number → follows before c ≡ true
unfolding follows
follows-under None m c u h = refl
follows-under (Some b) m c u h = or-first _ _ (ap not (ne_eqb b.number c.number (λ e. omega arith)))

-- Cues of which the first, if any, is not of this number.
attach-apart : (m : ℕ) (c : Cue) (cs : List Cue) → c.number ≡ m → rising m (numbers_of cs) ≡ true → attach c cs ≡ c ∷ cs
unfolding attach rising numbers_of
attach-apart m c [] e h = refl
attach-apart m c (d ∷ ds) e h =
    let l : m < d.number = ltb-true m d.number (and_split (ltb m d.number) _ h).0 in
    rw (ne_eqb c.number d.number (λ x. omega arith), attach)

-- A way in front of a cue of the same number joins it.
attach-same : (c p q : ℕ) (ps qs : List ℕ) (cs : List Cue)
    → attach (single c p q) (record { number = c; present = ps; absent = qs } ∷ cs) ≡ record { number = c; present = p ∷ ps; absent = q ∷ qs } ∷ cs
unfolding attach
attach-same c p q ps qs cs = rw (eq-eqb c c refl, attach)

-- Two ways of one cue follow each other.
same-follows : (c p q x y : ℕ) → follows (Some (single c p q)) (single c x y) ≡ true
unfolding follows
same-follows c p q x y = or-second (not (eqb c c)) true refl

-- Every word of every cue is below 2 ^ n.
abbrev pub Worded : ℕ → List Cue → Type 0
Worded n [] = Unit {0}
Worded n (c ∷ cs) = AllBelow (2 ^ n) c.present × AllBelow (2 ^ n) c.absent × Worded n cs

module _ (n : ℕ) (few : n ≤ 64) where
  -- The ways of one cue, at least one.
  ways_well : (before : Option Cue) (c p q : ℕ) (ps qs : List ℕ) (rest : List (List (List ℕ))) (cs : List Cue)
      → c < 65536 → length qs ≡ length ps → AllBelow (2 ^ n) (p ∷ ps) → AllBelow (2 ^ n) (q ∷ qs) → rising c (numbers_of cs) ≡ true
      → ((x y : ℕ) → follows before (single c x y) ≡ true) → ((x y : ℕ) → Well (Some (single c x y)) rest cs)
      → Well before (way_records n c (p ∷ ps) (q ∷ qs) ++ rest) (record { number = c; present = p ∷ ps; absent = q ∷ qs } ∷ cs)
  unfolding way_records
  ways_well before c p q [] [] rest cs h e l m r f k =
      let w = well-cons before (way_record n c p q) rest (single c p q) cs (way-row n c p q few h l.0 m.0) (f p q) (k p q) in
      rw (attach-apart c (single c p q) cs refl r) at w
  ways_well before c p q [] (q' ∷ qs) rest cs h e l m r f k = absurd (omega arith)
  ways_well before c p q (p' ∷ ps) [] rest cs h e l m r f k = absurd (omega arith)
  ways_well before c p q (p' ∷ ps) (q' ∷ qs) rest cs h e l m r f k =
      let next = ways_well (Some (single c p q)) c p' q' ps qs rest cs h (omega arith) l.1 m.1 r (same-follows c p q) k in
      let rs : List (List (List ℕ)) = way_records n c (p' ∷ ps) (q' ∷ qs) ++ rest in
      let w = well-cons before (way_record n c p q) rs (single c p q) _ (way-row n c p q few h l.0 m.0) (f p q) next in
      rw (attach-same c p q (p' ∷ ps) (q' ∷ qs) cs) at w

  -- All cues of a sheet.
  pub cues_well : (before : Option Cue) (m : ℕ) (cs : List Cue) → Under before m → rising m (numbers_of cs) ≡ true → AllBelow 65536 (numbers_of cs)
      → Paired cs → Worded n cs → Well before (cue_records n cs) cs
  unfolding cue_records way_records or_alone rising numbers_of grouped
  cues_well before m [] u r b p w = record { steps = tt; cues = refl; plain = tt }
  cues_well before m (c ∷ cs) u r b p w =
      split c.present c.absent (p c (Memᴰ.head refl)) w.0 w.1
      (λ x h. cues_well (Some x) c.number cs h up.1 b.1 (λ d i. p d (Memᴰ.tail i)) w.2)
    where
      up : (ltb m c.number ≡ true) × (rising c.number (numbers_of cs) ≡ true)
      up = and_split (ltb m c.number) _ r

      above : m < c.number
      above = ltb-true m c.number up.0

      split : (ps qs : List ℕ) → length qs ≡ length ps → AllBelow (2 ^ n) ps → AllBelow (2 ^ n) qs
          → ((x : Cue) → x.number ≤ c.number → Well (Some x) (cue_records n cs) cs)
          → Well before (or_alone c.number (way_records n c.number ps qs) ++ cue_records n cs)
          (record { number = c.number; present = ps; absent = qs } ∷ cs)
      split [] [] e l k rest =
          let d : Cue = alone c.number in
          let comes = follows-under before m d u above in
          let w' = well-cons before (decimal c.number ∷ []) (cue_records n cs) d cs (alone-row c.number b.0) comes (rest d (omega arith)) in
          rw (attach-apart c.number d cs refl up.1) at w'
      split [] (q ∷ qs) e l k rest = absurd (omega arith)
      split (x ∷ ps) [] e l k rest = absurd (omega arith)
      split (x ∷ ps) (y ∷ qs) e l k rest =
          ways_well before c.number x y ps qs (cue_records n cs) cs b.0 (omega arith) l k up.1
          (λ x' y'. follows-under before m (single c.number x' y') u above) (λ x' y'. rest (single c.number x' y') (omega arith))
