-- `grow` meets its contract: the three records are written as the definition says, and then raised.
-- Rests on Leaves.antt and on the contracts of `branch_of` and `raise`.
use Rattle.std.proofs.Common.{◌≡◌, sym, ap₂, ◌∙◌, subst, List, ℕ}
use Rattle.rules.specs.Table.{Table}
use Rattle.rules.specs.Leaf.{Lean}
use Rattle.rules.specs.declared.Kind.{Kind}
use Rattle.rules.specs.declared.Way.{Way}
use Rattle.records.specs.Records.{record_in, record_ways}
use Rattle.records.specs.Growing.{raise, refined_at, grown_at}
use Rattle.records.specs.Safe.{Safe}
use Rattle.records.specs.declared.Node.{Node}
use Rattle.records.specs.declared.Tree.{Tree}
use Rattle.checks.specs.Tables.{table_of}
use Rattle.grow.specs.Branched.{Branched, three}
use Rattle.grow.specs.declared.refine.Branch.{Branch}
use Rattle.grow.proofs.Leaves.{safe-three, three_refined}
use Rattle.grow.proofs.refine.grow.Goals as goal

-- The three records of a refinement of record j, whose ways are vs, are written into the tree u. The weights are those of the table t.
module _ (t : Table) (u : Tree) (ws : List ℕ) (vs : List Way) (k : Kind) (j : ℕ) (b : Branch) (same : ws ≡ t.weights)
    (made : Branched ws (record_in u.nodes j) vs k j u.used b) where
  abbrev put : List Node
  put = three u.nodes u.used j b.node b.left b.right

  -- Code may follow the records then.
  safe-put : Safe u.nodes → Safe put
  safe-put s = safe-three u.nodes u.used j b.node b.left b.right s made.node_safe made.left_safe made.right_safe

  -- They are the records that the definition makes.
  here : vs ≡ record_ways t (record_in u.nodes j) → put ≡ refined_at t u.nodes u.used j k
  here e =
      let m : Branched t.weights (record_in u.nodes j) vs k j u.used b = rw same at made in
      three_refined t u.nodes u.used j k vs e b.node b.left b.right m.node_is m.left_is m.right_is

  -- And are raised, which gives the records ns.
  grown : vs ≡ record_ways t (record_in u.nodes j) → (ns : List Node) → ns ≡ raise ws 64 put j → ns ≡ grown_at t u.nodes u.used j k
  unfolding grown_at
  grown e ns r = r ∙ ap₂ (λ (ws : List ℕ) (xs : List Node). raise ws 64 xs j) same (here e)

pub branch_of-b-requires : goal.branch_of-b-requires
branch_of-b-requires c =
    let leaf = c.requires.leaf_ways c.args.table.weights.now in
    record {
      gone = leaf.gone_is;
      lean = subst Lean (sym leaf.ways_are) c.requires.lean;
      fault_fits = c.requires.fault_fits;
      safe = c.requires.safe.each c.args.j;
      inside = c.requires.inside;
      room = c.requires.room;
    }

pub raise-requires : goal.raise-requires
raise-requires c =
    let a = c.args in
    record {
      safe = safe-put (table_of a.table) a.tree.now _ _ a.kind a.j _ c.from-weights.ensures c.branch_of-b.ensures c.requires.safe;
      inside = c.requires.inside;
    }

pub returns-clause-grown : goal.returns-clause-grown
returns-clause-grown c =
    let a = c.args in
    grown (table_of a.table) a.tree.now _ _ a.kind a.j _ c.from-weights.ensures c.branch_of-b.ensures (c.requires.leaf_ways a.table.weights.now).ways_are _ c.raise.ensures.raised
