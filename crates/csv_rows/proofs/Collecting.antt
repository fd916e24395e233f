-- The walk over the faults of a way: what it has collected, one turn, and its end.
-- Rests on Naming.antt, for one fault more.
use Rattle.std.proofs.Common.{◌≡◌, refl, sym, ap, ap₂, ◌∙◌, Bool, true, false, not, ◌&&◌, ◌||◌, List, [], ◌∷◌, map, ℕ, Some, None}
use lib.Bits.{bit_or, or_zero_l, or_zero_r}
use Rattle.csv_text.specs.declared.Fault.{Fault}
use Rattle.csv_text.specs.Shapes.{is_fault, fault_in, all_faults, repeats, word_of}
use Rattle.csv_rows.specs.declared.Named.TheVariants.{Near}
use Rattle.csv_rows.specs.declared.ways.Seen.{Seen}
use Rattle.csv_rows.specs.Walks.{word_for, with_fault, twice, clash, some_far, apart, named, named_in}
use Rattle.csv_rows.specs.Fields.{fault_said}
use Rattle.csv_rows.specs.Told.{faults_said}
use Rattle.csv_rows.proofs.Reading.{said-not, said-true, said-false}
use Rattle.csv_rows.proofs.Naming.{clash-none, twice_found, twice_not, far_next, far-before, words-next}

-- What is asked of fields to come, with faults so far: that they are faults, none of them twice.
joined : Seen → List (List ℕ) → Bool
joined s fs = all_faults fs && not (clash s (map fault_in fs) || repeats (map fault_in fs))

-- Of the fields `all`, those before fs are faults that are in s, and what is asked of all is asked of fs.
pub record Collected (all : List (List ℕ)) (s : Seen) (fs : List (List ℕ)) : Type 0 where
  pub good : all_faults fs && not (clash s (map fault_in fs) || repeats (map fault_in fs)) ≡ apart all
  pub far : s.far || some_far (map fault_in fs) ≡ some_far (map fault_in all)
  pub words : (b : Bool) → s.far ≡ false → bit_or (word_for b s.words) (word_of b (map fault_in fs)) ≡ word_of b (map fault_in all)

-- At first, none.
pub collected-none : (all : List (List ℕ)) → Collected all (record { words = record { present = 0; absent = 0 }; far = false }) all
collected-none all = record { good = rw (clash-none (map fault_in all)); far = refl; words = λ b p. none b }
  where
    none : (b : Bool) → bit_or (word_for b (record { present = 0; absent = 0 })) (word_of b (map fault_in all)) ≡ word_of b (map fault_in all)
    none true = or_zero_l _
    none false = or_zero_l _

-- A field that is no fault.
pub collected-bad : {all : List (List ℕ)} {s : Seen} (f : List ℕ) (fs : List (List ℕ)) → Collected all s (f ∷ fs) → fault_said f ≡ None
    → faults_said all ≡ None
unfolding all_faults
collected-bad f fs c h = said-not _ _ (sym c.good ∙ rw (said-false (is_fault f) _ h))

module _ {all : List (List ℕ)} {s : Seen} (f : List ℕ) (fs : List (List ℕ)) (x : Fault) (b : Bool) (c : Collected all s (f ∷ fs))
    (said : fault_said f ≡ Some x) (e : all_faults fs ≡ true → b ≡ twice s x (map fault_in fs)) where
  is : (is_fault f ≡ true) × (fault_in f ≡ x)
  is = said-true (is_fault f) (fault_in f) x said

  -- What is asked of that fault and of the fields behind it.
  turn : apart all ≡ all_faults fs && not (clash s (x ∷ map fault_in fs) || repeats (x ∷ map fault_in fs))
  unfolding all_faults
  turn = sym c.good ∙ rw (is.0, is.1)

  -- A fault that is named twice.
  pub collected-twice : b ≡ true → faults_said all ≡ None
  collected-twice p = said-not _ _ (turn ∙ split (all_faults fs) refl)
    where
      split : (y : Bool) → all_faults fs ≡ y → all_faults fs && not (clash s (x ∷ map fault_in fs) || repeats (x ∷ map fault_in fs)) ≡ false
      split true q = rw (q, twice_found s x (map fault_in fs) (sym (e q) ∙ p))
      split false q = rw q

  -- One fault more.
  pub collected-next : b ≡ false → (r : Seen) → r ≡ with_fault s x → Collected all r fs
  collected-next p r q =
      rw q
      (record {
        good = split (all_faults fs) refl ∙ sym turn;
        far = sym (far_next s x (map fault_in fs)) ∙ sym (rw is.1) ∙ c.far;
        words = λ d k. sym (words-next d s x (map fault_in fs) k) ∙ sym (rw is.1) ∙ c.words d (far-before s x k);
      })
    where
      split : (y : Bool) → all_faults fs ≡ y
          → (all_faults fs && not (clash (with_fault s x) (map fault_in fs) || repeats (map fault_in fs)))
          ≡ (all_faults fs && not (clash s (x ∷ map fault_in fs) || repeats (x ∷ map fault_in fs)))
      split true q = rw (q, twice_not s x (map fault_in fs) (sym (e q) ∙ p))
      split false q = rw q

-- No field is left.
pub collected-all : {all : List (List ℕ)} {s : Seen} → Collected all s [] → faults_said all ≡ Some (named s)
unfolding all_faults clash repeats some_far word_of named_in
collected-all {all} {s} c = rw (← c.good) (ap Some (sym (split s.far refl)))
  where
    split : (y : Bool) → s.far ≡ y → named s ≡ named_in (map fault_in all)
    split true e = let far : some_far (map fault_in all) ≡ true = sym c.far ∙ rw e in rw (e, far)
    split false e =
        let near : some_far (map fault_in all) ≡ false = sym c.far ∙ rw e in
        rw (e, near)
        (ap₂ (λ (p q : ℕ). Near (record { present = p; absent = q })) (sym (or_zero_r s.words.present) ∙ c.words false e)
        (sym (or_zero_r s.words.absent) ∙ c.words true e))
