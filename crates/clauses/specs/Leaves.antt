-- The ways that a leaf stands for, over a table's two lists of words, and what becomes of them.
-- Rests on `rules`, Table and Leaf.
use Rattle.std.specs.Prelude.{◌≡◌, true, false, List, map, ℕ, ◌^◌, get_or}
use Rattle.std.specs.Int.Bits.{bit_or}
use Rattle.rules.specs.Members.{In}
use Rattle.rules.specs.Table.{rows}
use Rattle.rules.specs.Leaf.{select, dropped, subsumes}
use Rattle.rules.specs.Group.{part}
use Rattle.rules.specs.declared.Way.{Way}
use Rattle.checks.specs.declared.accepted.Rows.{Rows}
use Rattle.clauses.specs.declared.Clauses.{Clauses}
use Rattle.clauses.specs.declared.lost.Gone.{Gone}
use Rattle.clauses.specs.declared.staying.ByFault.{ByFault}
use Rattle.clauses.specs.declared.taking.Ways.{Ways}
use Rattle.clauses.specs.Numbers.{is_in}

-- All the faults that are gone, as one word.
abbrev pub gone_word : Gone → ℕ
gone_word g = bit_or (bit_or g.present g.absent) g.out

-- None is.
abbrev pub none_gone : Gone
none_gone = record { present = 0; absent = 0; out = 0 }

-- More faults fixed, present and absent.
abbrev pub fix_more : Gone → ℕ → ℕ → Gone
fix_more g p q = record { present = bit_or g.present p; absent = bit_or g.absent q; out = g.out }

-- More faults left out.
abbrev pub out_more : Gone → ℕ → Gone
out_more g m = record { present = g.present; absent = g.absent; out = bit_or g.out m }

-- Two words fix one fault.
abbrev pub OneFault : ℕ → ℕ → Type 0
OneFault p q = (f : ℕ) × (bit_or p q ≡ 2 ^ f)

-- The way of a table with a number.
abbrev pub row : List ℕ → List ℕ → ℕ → Way
row ps qs i = record { number = i; present = get_or ps i 0; absent = get_or qs i 0 }

-- The same as a leaf has it, without the faults that are gone.
abbrev pub way_at : Clauses → ℕ → Way
way_at c i = dropped (gone_word c.gone) (row c.rows.present.now c.rows.absent.now i)

-- All ways that rows say, numbered from 0.
abbrev pub all_of : Rows → List Way
all_of r = rows 0 r.present.now r.absent.now

-- The ways: those of the table with these numbers, without the faults that are gone.
unfoldable pub ways_of : Clauses → List Way
ways_of c = map (dropped (gone_word c.gone)) (select (is_in c.numbers) (all_of c.rows))

-- The ways that are still to come.
abbrev pub left_of : Ways → List Way
left_of w = ways_of w.left

-- A leaf over two lists of words has these ways, and the faults of g are gone.
pub record Holds (ps qs : List ℕ) (g : Gone) (vs : List Way) (r : Clauses) : Type 0 where
  pub present_is : r.rows.present.now ≡ ps
  pub absent_is : r.rows.absent.now ≡ qs
  pub gone_is : r.gone ≡ g
  pub ways_are : ways_of r ≡ vs

-- A leaf over a table's rows has.
abbrev pub Of : Rows → Gone → List Way → Clauses → Type 0
Of t g vs r = Holds t.present.now t.absent.now g vs r

-- A leaf c becomes r, over the same table, which has these ways, and the faults of g are gone.
abbrev pub Becomes : Clauses → Gone → List Way → Clauses → Type 0
Becomes c g vs r = Holds c.rows.present.now c.rows.absent.now g vs r

-- The same, where no more faults are gone.
abbrev pub Narrows : Clauses → List Way → Clauses → Type 0
Narrows c vs r = Becomes c c.gone vs r

-- The ways of a leaf by a fault, whose word is m: those that name it, the others, and what each of the others subsumes.
pub record Divided (c : Clauses) (m : ℕ) (d : ByFault) : Type 0 where
  pub named : Narrows c (part true m (ways_of c)) d.named
  pub others : Narrows c (part false m (ways_of c)) d.others
  pub covered : (v : Way) → In v (ways_of d.others) → subsumes v d.cover ≡ true
