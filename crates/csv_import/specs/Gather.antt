-- What is gathered from the records of ways, one after the other: their cues, counted, and the words of their ways.
-- Rests on `csv_text`, Shapes, and on `csv_rows`, Told. A list of a fixed room keeps the front of what belongs in it.
use Rattle.std.specs.Prelude.{◌≡◌, ◌≢◌, Bool, false, true, ◌||◌, List, [], ◌∷◌, ◌++◌, map, take, length, ℕ, min, Option, Some, None, Result, Ok, Err}
use Rattle.rules.specs.Refusals.{some_above}
use Rattle.rules.specs.Sheet.{Cue, Lists, numbers_of, counts_of, present_of, absent_of}
use Rattle.writer.specs.Given.{given}
use Rattle.writer.specs.declared.lists.Lists.{Lists as Slices}
use Rattle.csv_text.specs.declared.ImportError.{ImportError}
use Rattle.csv_text.specs.Shapes.{row_in, follows, misread_rows, misread, attach, grouped, sheet_in}
use Rattle.csv_rows.specs.Told.{cut_all}
use Rattle.csv_import.specs.declared.cues.Cues.{Cues}
use Rattle.csv_import.specs.declared.cues.Last.{Last}
use Rattle.csv_import.specs.declared.read.Gathered.{Gathered}
use Rattle.csv_import.specs.declared.rows.Rows.{Rows}
use Rattle.csv_import.specs.declared.ways.Ways.{Ways}

-- ---- the cues

-- The last of some cues.
unfoldable pub last_of : List Cue → Option Cue
last_of [] = None
last_of (c ∷ []) = Some c
last_of (c ∷ d ∷ cs) = last_of (d ∷ cs)

-- A record's cue behind those of others: joined with the last of them if that has the same number.
unfoldable pub joined : List Cue → Cue → List Cue
joined [] c = c ∷ []
joined (d ∷ []) c = attach d (c ∷ [])
joined (d ∷ e ∷ ds) c = d ∷ joined (e ∷ ds) c

-- Their numbers and their counts of ways, cut to 16 bits, in lists that have room for 25.
pub record Counted (cs : List Cue) (k : Cues) : Type 0 where
  pub numbers : k.numbers.items ≡ take 25 (numbers_of cs)
  pub counts : k.counts.items ≡ take 25 (cut_all 65535 (counts_of cs))

-- A cue as the last so far.
abbrev pub last_as : Cue → Last
last_as c = record { number = c.number; ways = min (length c.present) 65535 }

-- The last of some cues is not counted yet, those in front of it are.
abbrev pub Latest : List Cue → List Cue → Option Last → Type 0
Latest cs front None = (cs ≡ []) × (front ≡ [])
Latest cs front (Some l) = (c : Cue) × (cs ≡ front ++ c ∷ []) × (l ≡ last_as c)

pub record Counting (cs : List Cue) (k : Cues) : Type 0 where
  pub front : List Cue
  pub latest : Latest cs front k.last
  pub counted : Counted front k

-- One more is counted, unless it may not follow: then its record, the nth, is misread.
abbrev pub CountsCue : List Cue → Cue → ℕ → Cues → Result (Unit {0}) ImportError → Type 0
CountsCue cs c n k (Err e) = (follows (last_of cs) c ≡ false) × (e ≡ ImportError.Misread n)
CountsCue cs c n k (Ok u) = (follows (last_of cs) c ≡ true) × Counting (joined cs c) k

-- ---- the ways

-- Some word is none of 64 bits.
unfoldable pub wide_words : List ℕ → List ℕ → Bool
wide_words ps qs = some_above 18446744073709551615 ps || some_above 18446744073709551615 qs

-- The words of ways, in lists that have room for 3072; none are kept if one is none of 64 bits.
abbrev pub Worded : List ℕ → List ℕ → Option Ways → Type 0
Worded ps qs None = wide_words ps qs ≡ true
Worded ps qs (Some w) = (wide_words ps qs ≡ false) × (w.present.items ≡ take 3072 ps) × (w.absent.items ≡ take 3072 qs)

-- ---- both

-- Cues, of which the last may get further ways.
pub record Gathers (cs : List Cue) (g : Rows) : Type 0 where
  pub cues : Counting cs g.cues
  pub ways : Worded (present_of cs) (absent_of cs) g.ways

-- All cues.
pub record Holds (cs : List Cue) (g : Rows) : Type 0 where
  pub cues : Counted cs g.cues
  pub ways : Worded (present_of cs) (absent_of cs) g.ways

-- One more is gathered, unless it may not follow: then its record, the nth, is misread.
abbrev pub Adds : List Cue → Cue → ℕ → Rows → Result (Unit {0}) ImportError → Type 0
Adds cs c n g (Err e) = (follows (last_of cs) c ≡ false) × (e ≡ ImportError.Misread n)
Adds cs c n g (Ok u) = (follows (last_of cs) c ≡ true) × Gathers (joined cs c) g

-- The lists as the writer is given them.
abbrev pub lists_kept : Gathered → Ways → Lists
lists_kept g w =
    record {
      limits = g.limits;
      weights = g.weights.items;
      numbers = g.rows.cues.numbers.items;
      counts = g.rows.cues.counts.items;
      present = w.present.items;
      absent = w.absent.items;
    }

-- They are handed over where the words of the ways are kept.
abbrev pub GivenIf : Gathered → Option Slices → Type 0
GivenIf g None = g.rows.ways ≡ None
GivenIf g (Some l) = (w : Ways) × (g.rows.ways ≡ Some w) × (given l ≡ lists_kept g w)

-- ---- what is told

-- A record is misread, and it is this one.
abbrev pub Misreads : ℕ → ImportError → Type 0
Misreads k e = (k ≢ 0) × (e ≡ ImportError.Misread k)

-- The records of ways: the first that is misread, or all are gathered.
abbrev pub ReadsRows : List (List (List ℕ)) → Rows → Result (Unit {0}) ImportError → Type 0
ReadsRows rs g (Err e) = Misreads (misread_rows 3 None rs) e
ReadsRows rs g (Ok u) = (misread_rows 3 None rs ≡ 0) × Holds (grouped (map row_in rs)) g

-- A text of which no record is misread: the limits, the first 65 weights, cut to 32 bits, and the cues.
pub record Said (t : List ℕ) (g : Gathered) : Type 0 where
  pub read : misread t ≡ 0
  pub limits : g.limits ≡ (sheet_in t).limits
  pub weights : g.weights.items ≡ take 65 (cut_all 4294967295 (sheet_in t).weights)
  pub holds : Holds (sheet_in t).cues g.rows

-- A whole text: the first record that is misread, or what it says.
abbrev pub ReadsText : List ℕ → Gathered → Result (Unit {0}) ImportError → Type 0
ReadsText t g (Err e) = Misreads (misread t) e
ReadsText t g (Ok u) = Said t g
