-- The ways of a record as the code has them: by their numbers in the table.
-- Rests on `records`, Records, and on `clauses`, Leaves.
use Rattle.std.specs.Prelude.{List, [], ℕ}
use Rattle.rules.specs.Table.{table}
use Rattle.rules.specs.Tree.{Node as Spot}
use Rattle.rules.specs.declared.Way.{Way}
use Rattle.records.specs.Records.{record_ways}
use Rattle.records.specs.declared.Node.{Node}
use Rattle.clauses.specs.declared.Clauses.{Clauses}
use Rattle.clauses.specs.declared.lost.Gone.{Gone}
use Rattle.clauses.specs.Leaves.{Holds}

-- The faults that are gone from a record's ways: those that it has fixed, and those that it leaves out.
abbrev pub gone_in : Node → Gone
gone_in x = record { present = x.present; absent = x.absent; out = x.out }

-- A place by its ways and the faults that are gone from them. Its set does not matter to a record.
abbrev pub spot_with : Gone → List Way → Spot
spot_with g vs = record { set = []; present = g.present; absent = g.absent; out = g.out; ways = vs }

-- The ways of record x of a table with these words, and the faults that are gone from them. They do not depend on the weights.
abbrev pub LeafWays : List ℕ → List ℕ → Node → Clauses → Type 0
LeafWays ps qs x c = (ws : List ℕ) → Holds ps qs (gone_in x) (record_ways (table ws ps qs) x) c
