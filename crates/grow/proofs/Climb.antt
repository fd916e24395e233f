-- Raising, one record at a time: what holds on the way up, and that a turn keeps it.
-- Rests on `records`, SafeLaws, and on the definition of its raise.
use Rattle.std.proofs.Common.{◌≡◌, sym, ◌∙◌, List, ℕ, suc, ◌+◌, ◌<◌, set, add-one}
use borrow.Author.Tests.{eq-eqb, ne_eqb}
use Rattle.records.specs.Records.{tree_records, record_in}
use Rattle.records.specs.Growing.{joined, join_at, raise}
use Rattle.records.specs.Safe.{SafeNode, Safe}
use Rattle.records.specs.declared.Node.{Node}
use Rattle.records.specs.declared.Tree.{Tree}
use Rattle.records.proofs.SafeLaws.{safe-set}

-- ---- one record of raising

module _ (ws : List ℕ) (xs : List Node) (i : ℕ) where
  -- A record other than the root's: its interval is joined, and raising goes on from its parent's with one record less to do.
  above_root : (k : ℕ) → (i ≡ 0 → ⊥) → raise ws (suc k) xs i ≡ raise ws k (join_at ws xs i) (record_in xs i).parent
  unfolding raise
  above_root k e = rw (ne_eqb i 0 e, raise)

  -- The root's: its interval is joined, and that is all.
  at-root : (k : ℕ) → i ≡ 0 → raise ws (suc k) xs i ≡ join_at ws xs i
  unfolding raise
  at-root k e = rw (eq-eqb i 0 e, raise)

-- ---- the way up

-- Of raising the tree t from record j, at most k records are left to do, from record i of the tree u.
pub record Climb (ws : List ℕ) (t : Tree) (j : ℕ) (u : Tree) (i k : ℕ) : Type 0 where
  pub inside : i < tree_records
  pub safe : Safe u.nodes
  pub same : u.used ≡ t.used
  pub rest : raise ws k u.nodes i ≡ raise ws 64 t.nodes j

module _ {ws : List ℕ} {t : Tree} {j : ℕ} {u : Tree} {i m : ℕ} (inv : Climb ws t j u i m) where
  -- With no record left to do the tree is raised.
  pub spent : m ≡ 0 → u.nodes ≡ raise ws 64 t.nodes j
  unfolding raise
  spent z = rw z at inv.rest

  abbrev x : Node
  x = record_in u.nodes i

  -- With k more to do, record i is joined with its children's, which gives n.
  module _ (k : ℕ) (more : m ≡ suc k) (n : Node) (n-is : n ≡ joined ws x (record_in u.nodes x.left) (record_in u.nodes (x.left + 1))) where
    abbrev v : Tree
    v = record { nodes = set u.nodes i n; used = u.used }

    written : v.nodes ≡ join_at ws u.nodes i
    unfolding join_at
    written = rw (n-is, add-one)

    left-over : raise ws (suc k) u.nodes i ≡ raise ws 64 t.nodes j
    left-over = rw more at inv.rest

    pub turn : SafeNode n → (i ≡ 0 → ⊥) → Climb ws t j v x.parent k
    turn s z =
        record {
          inside = (inv.safe.each i).parent_inside;
          safe = safe-set u.nodes i n inv.safe s;
          same = inv.same;
          rest = rw written (sym (above_root ws u.nodes i k z) ∙ left-over);
        }

    pub done : i ≡ 0 → v.nodes ≡ raise ws 64 t.nodes j
    done z = written ∙ sym (at-root ws u.nodes i k z) ∙ left-over
