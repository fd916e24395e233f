-- A fault looked for among the fields that are left.
-- Rests on `csv_text`, Shapes, and on Pieces.antt.
use Rattle.std.proofs.Common.{◌≡◌, refl, sym, ap, ◌∙◌, Bool, true, false, ◌&&◌, ◌||◌, eqb, List, [], ◌∷◌, map, ℕ, Some, None}
use Rattle.std.proofs.lemmas.Bool.{false≢true}
use mathlib.Core.Bool.{beq}
use Rattle.rules.proofs.Booleans.{and_split}
use Rattle.csv_text.specs.Cut.{fields_in}
use Rattle.csv_text.specs.declared.Fault.{Fault}
use Rattle.csv_text.specs.Shapes.{is_fault, fault_in, all_faults, same_sense, among}
use Rattle.csv_rows.specs.declared.fields.Rest.{Rest}
use Rattle.csv_rows.specs.Scan.{first_line}
use Rattle.csv_rows.specs.Fields.{fault_said, first_field, fields_left, Passed}
use Rattle.csv_rows.proofs.Pieces.{fields-are}
use Rattle.csv_rows.proofs.Reading.{said-true, said-false}

-- If all fields from `start` on are faults, so are those from `rest` on, and the fault x is among the ones if it is among the others.
pub record Looking (x : Fault) (start rest : Rest) : Type 0 where
  pub all : all_faults (fields_left start) ≡ true → all_faults (fields_left rest) ≡ true
  pub same : all_faults (fields_left start) ≡ true → among x (map fault_in (fields_left rest)) ≡ among x (map fault_in (fields_left start))

-- At first.
pub looking-all : (x : Fault) (start : Rest) → Looking x start start
looking-all x start = record { all = λ h. h; same = λ h. refl }

-- Faults are equal at one place in one sense.
abbrev same-fault : Fault → Fault → Bool
same-fault x y = eqb x.place y.place && beq x.absent y.absent

same-sense : (x y : Fault) → same-fault x y ≡ (eqb x.place y.place && same_sense x.absent y.absent)
unfolding same_sense
same-sense x y = ap (λ (b : Bool). eqb x.place y.place && b) (sense x.absent y.absent)
  where
    sense : (a b : Bool) → beq a b ≡ same_sense a b
    sense true true = refl
    sense true false = refl
    sense false true = refl
    sense false false = refl

module _ {x : Fault} {start rest : Rest} (look : Looking x start rest) where
  -- A field that is no fault: not all are.
  pub looking-bad : (s : List ℕ) → fields_left rest ≡ fields_in (first_line s) → fault_said (first_field s) ≡ None
      → all_faults (fields_left start) ≡ true → false ≡ among x (map fault_in (fields_left start))
  unfolding all_faults
  looking-bad s e n h =
      let bad : all_faults (fields_left rest) ≡ false = rw (e, fields-are s, said-false (is_fault (first_field s)) _ n) in
      absurd (false≢true (sym bad ∙ look.all h))

  module _ (s : List ℕ) (y : Fault) (behind : Rest) (e : fields_left rest ≡ fields_in (first_line s)) (said : fault_said (first_field s) ≡ Some y)
      (p : Passed s behind) where
    -- The field there, and those behind it.
    here : fields_left rest ≡ first_field s ∷ fields_left behind
    here = e ∙ p.fields

    is : (is_fault (first_field s) ≡ true) × (fault_in (first_field s) ≡ y)
    is = said-true (is_fault (first_field s)) (fault_in (first_field s)) y said

    -- The fault is the one there, or is among those behind it.
    either : all_faults (fields_left start) ≡ true
        → (eqb x.place y.place && same_sense x.absent y.absent) || among x (map fault_in (fields_left behind)) ≡ among x (map fault_in (fields_left start))
    unfolding among
    either h = sym (rw (here, is.1)) ∙ look.same h

    -- It is the one there.
    pub looking-found : true ≡ same-fault x y → all_faults (fields_left start) ≡ true → true ≡ among x (map fault_in (fields_left start))
    looking-found q h = rw (← same-sense x y, ← q) at (either h)

    -- It is another.
    pub looking-next : false ≡ same-fault x y → Looking x start behind
    unfolding all_faults
    looking-next q =
        record {
          all = λ h. (and_split (is_fault (first_field s)) _ (ap all_faults (sym here) ∙ look.all h)).1;
          same = λ h. rw (← same-sense x y, ← q) at (either h);
        }

  -- None is left.
  pub looking-ended : fields_left rest ≡ [] → all_faults (fields_left start) ≡ true → false ≡ among x (map fault_in (fields_left start))
  unfolding among
  looking-ended e h = ap (λ (fs : List (List ℕ)). among x (map fault_in fs)) (sym e) ∙ look.same h
