-- The tree of lent words: it has all its records, and words whose records and count are those of a tree are that tree.
-- So words that are all 0 are the tree without nodes. Rests on the definitions of Lent.antt and the kit's lists.
use mathlib.Core.Path.{◌≡◌, refl, sym, ap, ◌∙◌}
use mathlib.Core.List.{List, [], ◌∷◌}
use Prim.Native.Nat.{ℕ, zero, suc, ◌+◌, ◌<◌}
use native.Mathlib.Nat.{add-zero}
use native.Mathlib.Omega.{arith}
use lib.ListN.{length, get_or, replicate, length-replicate, get_or-replicate}
use lib.Seq.{ext_get_or}
use Rattle.records.specs.Records.{tree_records, record_fields, blank, record_in, no_nodes}
use Rattle.records.specs.declared.Node.{Node}
use Rattle.records.specs.declared.Tree.{Tree}
use Rattle.records.specs.Lent.{count_word, tree_words, first_word, node_at, nodes_from, tree_of}

-- ---- the records of the words

-- A record's fields after its first, in the order of its words.
abbrev pub others : Node → List ℕ
others n =
    n.fault ∷ n.live ∷ n.parent ∷ n.left ∷ n.waysa ∷ n.waysb ∷ n.present ∷ n.absent ∷ n.out ∷ n.low ∷ n.high ∷ n.ownlow ∷ n.ownhigh ∷ []

-- All of them.
abbrev pub fields : Node → List ℕ
fields n = n.kind ∷ others n

-- k records are k.
nodes-long : (ws : List ℕ) (j k : ℕ) → length (nodes_from ws j k) ≡ k
unfolding nodes_from
nodes-long ws j zero = refl
nodes-long ws j (suc k) = ap suc (nodes-long ws (suc j) k)

-- Record i of them is record j + i of the words.
nodes-at : (ws : List ℕ) (j k i : ℕ) → i < k → get_or (nodes_from ws j k) i blank ≡ node_at ws (j + i)
unfolding nodes_from
nodes-at ws j zero i h = absurd (omega arith)
nodes-at ws j (suc k) zero h = ap (node_at ws) (sym (add-zero j))
nodes-at ws j (suc k) (suc i) h = nodes-at ws (suc j) k i (omega arith) ∙ ap (node_at ws) (omega arith)

-- The tree has all its records.
pub long : (ws : List ℕ) → length (tree_of ws).nodes ≡ tree_records
unfolding tree_of
long ws = nodes-long ws 0 tree_records

-- Its record i is in the words from its first on.
pub record_is : (ws : List ℕ) (i : ℕ) → i < tree_records → record_in (tree_of ws).nodes i ≡ node_at ws i
unfolding tree_of
record_is ws i h = nodes-at ws 0 tree_records i h ∙ ap (node_at ws) (omega arith)

-- Words whose records and count are those of a tree with all its records are that tree.
pub tree_is : (ws : List ℕ) (x : Tree) → length x.nodes ≡ tree_records → ((i : ℕ) → i < tree_records → node_at ws i ≡ record_in x.nodes i)
    → get_or ws count_word 0 ≡ x.used
    → tree_of ws ≡ x
unfolding tree_of
tree_is ws x e f u =
    let r = ext_get_or blank (tree_of ws).nodes x.nodes (long ws ∙ sym e)
    (λ i l. let h : i < tree_records = omega (arith, long ws) in record_is ws i h ∙ f i h) in
    λ i. record { nodes = r i; used = u i }

-- Records of equal words are equal.
pub same-record : (us ws : List ℕ) (i j : ℕ) → ((q : ℕ) → q < record_fields → get_or us (first_word i + q) 0 ≡ get_or ws (first_word j + q) 0)
    → node_at us i ≡ node_at ws j
same-record us ws i j f =
    λ z. record {
      kind = (ap (λ k. get_or us k 0) (sym (add-zero (first_word i))) ∙ f 0 (omega arith) ∙ ap (λ k. get_or ws k 0) (add-zero (first_word j))) z;
      fault = f 1 (omega arith) z;
      live = f 2 (omega arith) z;
      parent = f 3 (omega arith) z;
      left = f 4 (omega arith) z;
      waysa = f 5 (omega arith) z;
      waysb = f 6 (omega arith) z;
      present = f 7 (omega arith) z;
      absent = f 8 (omega arith) z;
      out = f 9 (omega arith) z;
      low = f 10 (omega arith) z;
      high = f 11 (omega arith) z;
      ownlow = f 12 (omega arith) z;
      ownhigh = f 13 (omega arith) z;
    }

-- ---- no nodes

-- Words that are all 0 are the tree without nodes. Their number is a variable, so that nothing is computed for each of them.
all-zero : (k : ℕ) → k ≡ tree_words → tree_of (replicate k 0) ≡ no_nodes
unfolding no_nodes
all-zero k e =
    tree_is (replicate k 0) no_nodes (length-replicate tree_records blank)
    (λ i h. same-record (replicate k 0) [] i 0 (λ q l. get_or-replicate k (first_word i + q) 0 0 (omega arith))
    ∙ sym (get_or-replicate tree_records i blank blank h))
    (get_or-replicate k count_word 0 0 (omega arith))

-- The same at the number of the words.
pub cleared : tree_of (replicate tree_words 0) ≡ no_nodes
cleared = all-zero tree_words refl
