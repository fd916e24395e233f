-- One record more: its cue, and the words of its way, if it has one.
-- Rests on Joining.antt, and on `csv_rows`, Told.
use Rattle.std.proofs.Common.{◌≡◌, refl, sym, ap, ◌∙◌, ℕ, is_some, List, [], ◌∷◌, ◌++◌, length, append-nil, Option, Some, None}
use Rattle.rules.specs.Table.{indicator}
use Rattle.rules.specs.Sheet.{Cue, present_of, absent_of}
use Rattle.csv_text.specs.Shapes.{row_in}
use Rattle.csv_rows.specs.declared.Named.{Named}
use Rattle.csv_rows.specs.declared.Row.{Row}
use Rattle.csv_rows.specs.Told.{named_by, way_by, row_of}
use Rattle.csv_import.specs.declared.cues.Cues.{Cues}
use Rattle.csv_import.specs.declared.rows.Rows.{Rows}
use Rattle.csv_import.specs.declared.ways.Ways.{Ways}
use Rattle.csv_import.specs.Gather.{joined, Counting, Worded, Gathers}
use Rattle.csv_import.proofs.Joining.{present-joined, absent-joined}

-- ---- the cue that a record says

-- It has a way if the row has one.
ways-said : (r : List (List ℕ)) → length (row_in r).present ≡ indicator (is_some (row_of (row_in r)).way)
unfolding row_in row_of way_by
ways-said [] = refl
ways-said (c ∷ []) = refl
ways-said (c ∷ f ∷ fs) = refl

-- Without one it has no words.
bare : (r : List (List ℕ)) → (row_of (row_in r)).way ≡ None → ((row_in r).present ≡ []) × ((row_in r).absent ≡ [])
unfolding row_in row_of way_by
bare [] e = (refl, refl)
bare (c ∷ []) e = (refl, refl)
bare (c ∷ f ∷ fs) e = absurd cc

-- With one it has those of the way.
record HasWay (c : Cue) (w : Named) : Type 0 where
  present : ℕ
  absent : ℕ
  presents : c.present ≡ present ∷ []
  absents : c.absent ≡ absent ∷ []
  named : w ≡ named_by present absent

worded : (r : List (List ℕ)) (w : Named) → (row_of (row_in r)).way ≡ Some w → HasWay (row_in r) w
unfolding row_in row_of way_by
worded [] w e = absurd cc
worded (c ∷ []) w e = absurd cc
worded (c ∷ f ∷ fs) w e = record { present = _; absent = _; presents = refl; absents = refl; named = cc }

-- ---- one record more

module _ {cs : List Cue} {g : Rows} (h : Gathers cs g) (r : List (List ℕ)) (row : Row) (said : row ≡ row_of (row_in r)) where
  -- The record as the cues take it.
  pub number-said : (row_in r).number ≡ row.cue
  unfolding row_of
  number-said = sym (ap (λ (x : Row). x.cue) said)

  pub way-said : length (row_in r).present ≡ indicator (is_some row.way)
  way-said = ways-said r ∙ ap (λ (x : Row). indicator (is_some x.way)) (sym said)

  -- A record without a way.
  pub adds-bare : row.way ≡ None → {k : Cues} → Counting (joined cs (row_in r)) k → Gathers (joined cs (row_in r)) (record { cues = k; ways = g.ways })
  adds-bare e counts =
      let none = bare r (sym (ap (λ (x : Row). x.way) said) ∙ e) in
      let presents : present_of (joined cs (row_in r)) ≡ present_of cs =
      present-joined cs (row_in r) ∙ ap (λ (l : List ℕ). present_of cs ++ l) none.0 ∙ append-nil (present_of cs) in
      let absents : absent_of (joined cs (row_in r)) ≡ absent_of cs =
      absent-joined cs (row_in r) ∙ ap (λ (l : List ℕ). absent_of cs ++ l) none.1 ∙ append-nil (absent_of cs) in
      record { cues = counts; ways = rw (presents, absents) h.ways }

  -- One with a way, whose words are taken behind those before.
  pub adds-way : (w : Named) → row.way ≡ Some w → {k : Cues} → Counting (joined cs (row_in r)) k → (o : Option Ways)
      → ((ps qs : List ℕ) (p q : ℕ) → Worded ps qs g.ways → w ≡ named_by p q → Worded (ps ++ p ∷ []) (qs ++ q ∷ []) o)
      → Gathers (joined cs (row_in r)) (record { cues = k; ways = o })
  adds-way w e counts o takes =
      let way = worded r w (sym (ap (λ (x : Row). x.way) said) ∙ e) in
      let presents : present_of (joined cs (row_in r)) ≡ present_of cs ++ way.present ∷ [] =
      present-joined cs (row_in r) ∙ ap (λ (l : List ℕ). present_of cs ++ l) way.presents in
      let absents : absent_of (joined cs (row_in r)) ≡ absent_of cs ++ way.absent ∷ [] =
      absent-joined cs (row_in r) ∙ ap (λ (l : List ℕ). absent_of cs ++ l) way.absents in
      record { cues = counts; ways = rw (presents, absents) (takes _ _ way.present way.absent h.ways way.named) }
