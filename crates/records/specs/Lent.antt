-- The tree that the words are which C lends: its records one after the other, a word for each field, and in the last word how many are in use.
-- Every word is one field of one record, or the count, so equal trees are equal words (proofs/Same.antt). Rests on Records.antt.
use Rattle.std.specs.Prelude.{List, [], ◌∷◌, ℕ, zero, suc, ◌+◌, ◌*◌, get_or}
use Rattle.records.specs.Records.{tree_records, record_fields}
use Rattle.records.specs.declared.Node.{Node}
use Rattle.records.specs.declared.Tree.{Tree}

-- The word that says how many records are in use: the one after the records.
abbrev pub count_word : ℕ
count_word = record_fields * tree_records

-- The words of a tree.
abbrev pub tree_words : ℕ
tree_words = count_word + 1

-- The first word of record j.
abbrev pub first_word : ℕ → ℕ
first_word j = record_fields * j

-- Record j.
abbrev pub node_at : List ℕ → ℕ → Node
node_at ws j =
    record {
      kind = get_or ws (first_word j) 0;
      fault = get_or ws (first_word j + 1) 0;
      live = get_or ws (first_word j + 2) 0;
      parent = get_or ws (first_word j + 3) 0;
      left = get_or ws (first_word j + 4) 0;
      waysa = get_or ws (first_word j + 5) 0;
      waysb = get_or ws (first_word j + 6) 0;
      present = get_or ws (first_word j + 7) 0;
      absent = get_or ws (first_word j + 8) 0;
      out = get_or ws (first_word j + 9) 0;
      low = get_or ws (first_word j + 10) 0;
      high = get_or ws (first_word j + 11) 0;
      ownlow = get_or ws (first_word j + 12) 0;
      ownhigh = get_or ws (first_word j + 13) 0;
    }

-- k records from record j on.
unfoldable pub nodes_from : List ℕ → ℕ → ℕ → List Node
nodes_from ws j zero = []
nodes_from ws j (suc k) = node_at ws j ∷ nodes_from ws (suc j) k

-- The tree.
unfoldable pub tree_of : List ℕ → Tree
tree_of ws = record { nodes = nodes_from ws 0 tree_records; used = get_or ws count_word 0 }
