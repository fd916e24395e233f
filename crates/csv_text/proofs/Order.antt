-- Faults in any order within a record: it is a record of a way where the other is, and says the same way, so two texts that differ in the order alone
-- import alike (RULES 13.7). Rests on Written.antt, on the library's laws of tests and on `rules`, Bits and Booleans.
use mathlib.Core.Path.{◌≡◌, refl, sym, ap, ap₂, ◌∙◌, subst}
use mathlib.Core.Bool.{Bool, true, false, ◌&&◌, ◌||◌, and_assoc, and_comm, or_assoc, or_comm}
use mathlib.Core.List.{List, [], ◌∷◌, map, Permᴰ}
use Rattle.std.specs.Prelude.{Option, Some, None}
use Prim.Native.Nat.{ℕ, suc, ◌^◌}
use native.Mathlib.Omega.{arith}
use lib.ListN.{length}
use lib.Dec.{eqb}
use lib.Bits.{bit_or}
use Rattle.rules.specs.Sheet.{Cue}
use Rattle.rules.specs.Text.{decimal_value}
use Rattle.std.proofs.lemmas.Nat.{or_comm as bits_comm}
use Rattle.rules.proofs.Bits.{or_assoc as bits_assoc}
use Rattle.rules.proofs.Booleans.{or-four, eqb_swap}
use Rattle.csv_text.specs.Cut.{records_in}
use Rattle.csv_text.specs.Shapes.{Fault, is_fault, fault_in, all_faults, same_sense, among, repeats, word_of, is_empty_way, is_names, is_row, faults_named}
use Rattle.csv_text.specs.Shapes.{is_run, is_weights, follows, misread_rows, misread_weights, misread_records, misread, limits_said, weights_said, grouped}
use Rattle.csv_text.specs.Shapes.{row_in, sheet_said, sheet_in}
use Rattle.csv_text.proofs.Written.{Pairwise, ImportAlike, import-alike}

-- ---- tests and words in another order

-- Two tests exchanged before a third.
and-swap : (x y z : Bool) → x && (y && z) ≡ y && (x && z)
and-swap x y z = sym (and_assoc x y z) ∙ ap (λ b. b && z) (and_comm x y) ∙ and_assoc y x z

-- Likewise for one of them.
or_swap : (x y z : Bool) → x || (y || z) ≡ y || (x || z)
or_swap x y z = sym (or_assoc x y z) ∙ ap (λ b. b || z) (or_comm x y) ∙ or_assoc y x z

-- Two words exchanged before a third.
bits-swap : (x y z : ℕ) → bit_or x (bit_or y z) ≡ bit_or y (bit_or x z)
bits-swap x y z = sym (bits_assoc x y z) ∙ ap (λ n. bit_or n z) (bits_comm x y) ∙ bits_assoc y x z

-- Every sense is the same as itself.
pub sense-itself : (b : Bool) → same_sense b b ≡ true
unfolding same_sense
sense-itself true = refl
sense-itself false = refl

-- Being of the same sense goes both ways.
sense-swap : (x y : Bool) → same_sense x y ≡ same_sense y x
unfolding same_sense
sense-swap true true = refl
sense-swap true false = refl
sense-swap false true = refl
sense-swap false false = refl

-- The word of one fault and others.
word_by : Bool → ℕ → ℕ → ℕ
word_by b x w = elim b as (λ y. ℕ) [ true ↦ bit_or x w | false ↦ w ]

-- Two faults exchanged before others.
word-swap : (a b : Bool) (x y w : ℕ) → word_by a x (word_by b y w) ≡ word_by b y (word_by a x w)
unfolding word_by
word-swap true true x y w = bits-swap x y w
word-swap true false x y w = refl
word-swap false true x y w = refl
word-swap false false x y w = refl

-- The word of a fault and others is made so.
word-cons : (b : Bool) (f : Fault) (fs : List Fault) → word_of b (f ∷ fs) ≡ word_by (same_sense b f.absent) (2 ^ f.place) (word_of b fs)
unfolding word_of word_by
word-cons b f fs = refl

-- ---- what does not look at the order

-- The fields behind two cue numbers pass the same tests and give the same words.
record Alike (fs gs : List (List ℕ)) : Type 0 where
  -- All are faults; a fault is among them; one is there twice.
  faults : all_faults fs ≡ all_faults gs
  named_in : (x : Fault) → among x (map fault_in fs) ≡ among x (map fault_in gs)
  twice : repeats (map fault_in fs) ≡ repeats (map fault_in gs)
  -- The words of either sense.
  word : (b : Bool) → word_of b (map fault_in fs) ≡ word_of b (map fault_in gs)
  -- As many, and the empty way or not.
  size : length fs ≡ length gs
  empty : is_empty_way fs ≡ is_empty_way gs

-- Behind the same field, as many others.
empty-keep : (f : List ℕ) (fs gs : List (List ℕ)) → length fs ≡ length gs → is_empty_way (f ∷ fs) ≡ is_empty_way (f ∷ gs)
unfolding is_empty_way
empty-keep f [] [] e = refl
empty-keep f [] (g ∷ gs) e = absurd (omega arith)
empty-keep f (h ∷ fs) [] e = absurd (omega arith)
empty-keep f (h ∷ fs) (g ∷ gs) e = refl

-- The test of one fault against another.
abbrev same : Fault → Fault → Bool
same x y = eqb x.place y.place && same_sense x.absent y.absent

-- Two fields exchanged.
swapped : (f g : List ℕ) (fs : List (List ℕ)) → Alike (f ∷ g ∷ fs) (g ∷ f ∷ fs)
unfolding all_faults among repeats is_empty_way
swapped f g fs =
    let x : Fault = fault_in f in
    let y : Fault = fault_in g in
    let rest : List Fault = map fault_in fs in
    record {
      faults = and-swap (is_fault f) (is_fault g) (all_faults fs);
      named_in = λ z. or_swap (same z x) (same z y) (among z rest);
      twice =
          or-four (same x y) (among x rest) (among y rest) (repeats rest)
          ∙ ap (λ (s : Bool). (s || among y rest) || (among x rest || repeats rest))
          (ap₂ (λ (p q : Bool). p && q) (eqb_swap x.place y.place) (sense-swap x.absent y.absent));
      word = λ b.
          word-cons b x (y ∷ rest)
          ∙ ap (word_by (same_sense b x.absent) (2 ^ x.place)) (word-cons b y rest)
          ∙ word-swap (same_sense b x.absent) (same_sense b y.absent) (2 ^ x.place) (2 ^ y.place) (word_of b rest)
          ∙ sym (word-cons b y (x ∷ rest) ∙ ap (word_by (same_sense b y.absent) (2 ^ y.place)) (word-cons b x rest));
      size = refl;
      empty = refl;
    }

-- The same field in front.
kept : (f : List ℕ) (fs gs : List (List ℕ)) → Alike fs gs → Alike (f ∷ fs) (f ∷ gs)
unfolding all_faults among repeats
kept f fs gs a =
    record {
      faults = ap (λ (b : Bool). is_fault f && b) a.faults;
      named_in = λ z. ap (λ (b : Bool). same z (fault_in f) || b) (a.named_in z);
      twice = ap₂ (λ (p q : Bool). p || q) (a.named_in (fault_in f)) a.twice;
      word = λ b.
          word-cons b (fault_in f) (map fault_in fs)
          ∙ ap (word_by (same_sense b (fault_in f).absent) (2 ^ (fault_in f).place)) (a.word b)
          ∙ sym (word-cons b (fault_in f) (map fault_in gs));
      size = ap suc a.size;
      empty = empty-keep f fs gs a.size;
    }

-- So in any order.
alike_all : {fs gs : List (List ℕ)} → Permᴰ fs gs → Alike fs gs
alike_all Permᴰ.nil = record { faults = refl; named_in = λ x. refl; twice = refl; word = λ b. refl; size = refl; empty = refl }
alike_all (Permᴰ.cons {a = f} {b = g} {l₁ = fs} {l₂ = gs} e p) = subst (λ (x : List ℕ). Alike (f ∷ fs) (x ∷ gs)) e (kept f fs gs (alike_all p))
alike_all (Permᴰ.swap {a = f} {b = g} {a' = f'} {b' = g'} {l = fs} e e') =
    subst (λ (x : List ℕ). Alike (f ∷ g ∷ fs) (x ∷ g' ∷ fs)) e' (subst (λ (y : List ℕ). Alike (f ∷ g ∷ fs) (g ∷ y ∷ fs)) e (swapped f g fs))
alike_all (Permᴰ.trans p q) =
    let a = alike_all p in
    let b = alike_all q in
    record {
      faults = a.faults ∙ b.faults;
      named_in = λ x. a.named_in x ∙ b.named_in x;
      twice = a.twice ∙ b.twice;
      word = λ x. a.word x ∙ b.word x;
      size = a.size ∙ b.size;
      empty = a.empty ∙ b.empty;
    }

-- ---- one record

-- A cue and faults are a record of a way in every order of the faults, or in none.
pub row-shuffled : (c : List ℕ) (fs gs : List (List ℕ)) → Permᴰ fs gs → is_row (c ∷ fs) ≡ is_row (c ∷ gs)
unfolding is_row is_names
row-shuffled c fs gs s =
    let a = alike_all s in
    rw (a.empty, a.faults, a.twice)

-- The words that they name.
words-named : (b : Bool) (fs gs : List (List ℕ)) → Alike fs gs → word_of b (faults_named fs) ≡ word_of b (faults_named gs)
unfolding faults_named
words-named b fs gs a = split (is_empty_way fs) refl
  where
    split : (x : Bool) → is_empty_way fs ≡ x → word_of b (faults_named fs) ≡ word_of b (faults_named gs)
    split true e = rw (e, faults_named) (rw (sym a.empty ∙ e, faults_named))
    split false e = rw (e, faults_named) (rw (sym a.empty ∙ e, faults_named) (a.word b))

-- The cue that they say.
says_same : (c : List ℕ) (fs gs : List (List ℕ)) → Alike fs gs → row_in (c ∷ fs) ≡ row_in (c ∷ gs)
unfolding row_in
says_same c [] [] a = refl
says_same c [] (g ∷ gs) a = absurd (omega (arith, a.size))
says_same c (f ∷ fs) [] a = absurd (omega (arith, a.size))
says_same c (f ∷ fs) (g ∷ gs) a =
    λ i. record {
      number = decimal_value c;
      present = words-named false (f ∷ fs) (g ∷ gs) a i ∷ [];
      absent = words-named true (f ∷ fs) (g ∷ gs) a i ∷ [];
    }

-- They say the same in every order.
pub says-shuffled : (c : List ℕ) (fs gs : List (List ℕ)) → Permᴰ fs gs → row_in (c ∷ fs) ≡ row_in (c ∷ gs)
says-shuffled c fs gs s = says_same c fs gs (alike_all s)

-- ---- a whole text

-- Two records with the same first field, and the others in any order.
abbrev pub ShuffledRow : List (List ℕ) → List (List ℕ) → Type 0
ShuffledRow [] [] = Unit {0}
ShuffledRow [] (d ∷ gs) = ⊥
ShuffledRow (c ∷ fs) [] = ⊥
ShuffledRow (c ∷ fs) (d ∷ gs) = (c ≡ d) × Permᴰ fs gs

-- So two lists of records.
abbrev pub ShuffledRows : List (List (List ℕ)) → List (List (List ℕ)) → Type 0
ShuffledRows rs ss = Pairwise ShuffledRow rs ss

-- Then both are records of ways or neither, and they say the same.
row_same : (r s : List (List ℕ)) → ShuffledRow r s → (is_row r ≡ is_row s) × (row_in r ≡ row_in s)
row_same [] [] h = (refl, refl)
row_same [] (d ∷ gs) h = absurd h
row_same (c ∷ fs) [] h = absurd h
row_same (c ∷ fs) (d ∷ gs) h =
    subst (λ (x : List ℕ). (is_row (c ∷ fs) ≡ is_row (x ∷ gs)) × (row_in (c ∷ fs) ≡ row_in (x ∷ gs))) h.0
    ((row-shuffled c fs gs h.1, says-shuffled c fs gs h.1))

-- The number of a record if it is misread, else that of a later one.
abbrev read_on : ℕ → Bool → ℕ → ℕ
read_on k good rest = elim good as (λ x. ℕ) [ true ↦ rest | false ↦ k ]

-- Records of ways: the same one is misread, if any, and they say the same.
rows_same : (k : ℕ) (o : Option Cue) (rs ss : List (List (List ℕ))) → ShuffledRows rs ss
    → (misread_rows k o rs ≡ misread_rows k o ss) × (map row_in rs ≡ map row_in ss)
unfolding misread_rows
rows_same k o [] [] h = (refl, refl)
rows_same k o [] (s ∷ ss) h = absurd h
rows_same k o (r ∷ rs) [] h = absurd h
rows_same k o (r ∷ rs) (s ∷ ss) h =
    let here = row_same r s h.0 in
    let rest = rows_same (suc k) (Some (row_in s)) rs ss h.1 in
    let good : is_row r && follows o (row_in r) ≡ is_row s && follows o (row_in s) = rw (here.0, here.1) in
    let on : misread_rows (suc k) (Some (row_in r)) rs ≡ misread_rows (suc k) (Some (row_in s)) ss =
    ap (λ (c : Cue). misread_rows (suc k) (Some c) rs) here.1 ∙ rest.0
    in
    (ap₂ (read_on k) good on, ap₂ (λ (x : Cue) (xs : List Cue). x ∷ xs) here.1 rest.1)

module _ (r w : List (List ℕ)) (rs ss : List (List (List ℕ))) (h : ShuffledRows rs ss) where
  -- Behind the same first two records, the same record is misread, if any.
  misread_same : misread_records (r ∷ w ∷ rs) ≡ misread_records (r ∷ w ∷ ss)
  unfolding misread_records misread_weights
  misread_same = ap (λ (k : ℕ). read_on 1 (is_run r) (read_on 2 (is_weights w) k)) (rows_same 3 None rs ss h).0

  -- And the same sheet is said.
  sheet_same : sheet_said (r ∷ w ∷ rs) ≡ sheet_said (r ∷ w ∷ ss)
  unfolding sheet_said
  sheet_same = ap (λ (cs : List Cue). record { limits = limits_said r; weights = weights_said w; cues = grouped cs }) (rows_same 3 None rs ss h).1

  -- Any order: two texts whose records are equal but for the order of the faults in the records of ways import alike.
  pub order_same : (t u : List ℕ) → records_in t ≡ r ∷ w ∷ rs → records_in u ≡ r ∷ w ∷ ss → ImportAlike t u
  unfolding misread sheet_in
  order_same t u e f =
      import-alike t u (ap misread_records e ∙ misread_same ∙ sym (ap misread_records f)) (ap sheet_said e ∙ sheet_same ∙ sym (ap sheet_said f))
