-- What the records of a tree hold: `layout` of a series of refinements, and `history`, the series read back off any records.
-- RULES 6: which record holds a place, the blank, and the codes. Rests on the rules alone.
use Rattle.std.specs.Prelude.{◌≡◌, Bool, true, false, not, ◌&&◌, List, [], ◌∷◌, ◌++◌, map, length, get_or, drop, replicate}
use Rattle.std.specs.Prelude.{ℕ, zero, suc, ◌-◌, ◌/◌, ◌^◌, eqb, ltb}
use Rattle.std.proofs.Math.Option.{Option, none, some}
use Rattle.std.specs.Int.Bits.{bit_or}
use Rattle.rules.specs.declared.Direction.TheVariants.{Down, Up}
use Rattle.rules.specs.Table.{bit, Table, ways}
use Rattle.rules.specs.declared.Way.{Way}
use Rattle.rules.specs.Leaf.{select, remaining, drop_all, leaf_low, leaf_high, is_open}
use Rattle.rules.specs.Tree.{Side, left, right, Place, leaf, end, Refinement, tree, kind_at, Subtree, subtree, Interval, series}
use Rattle.rules.specs.declared.Kind.{Kind}
use Rattle.rules.specs.declared.Kind.TheVariants.{IndependentOr, IndependentAnd, Shannon}
use Rattle.records.specs.declared.Node.{Node}
use Rattle.records.specs.declared.Tree.{Tree}

-- The records of a tree: 255 refinements make 511 nodes.
abbrev pub tree_records : ℕ
tree_records = 511

-- The fields of a record.
abbrev pub record_fields : ℕ
record_fields = 14

-- A record that is not in use.
abbrev pub blank : Node
blank =
    record {
      kind = 0;
      fault = 0;
      live = 0;
      parent = 0;
      left = 0;
      waysa = 0;
      waysb = 0;
      present = 0;
      absent = 0;
      out = 0;
      low = 0;
      high = 0;
      ownlow = 0;
      ownhigh = 0;
    }

-- Record i of a list of records, the blank past its end.
abbrev pub record_in : List Node → ℕ → Node
record_in xs i = get_or xs i blank

-- ---- which record holds which place

-- The two children of each refinement, in the order in which the refinements were made.
unfoldable pub children : List Refinement → List Place
children [] = []
children (n ∷ ns) = (n.place ++ (left ∷ [])) ∷ (n.place ++ (right ∷ [])) ∷ children ns

-- The place in each record: the root in record 0, the children of the k-th refinement in records 2k − 1 and 2k.
unfoldable pub places : List Refinement → List Place
places ns = [] ∷ children ns

-- Two places are equal.
unfoldable pub same_place : Place → Place → Bool
same_place [] [] = true
same_place [] (c ∷ q) = false
same_place (b ∷ p) [] = false
same_place (left ∷ p) (left ∷ q) = same_place p q
same_place (left ∷ p) (right ∷ q) = false
same_place (right ∷ p) (left ∷ q) = false
same_place (right ∷ p) (right ∷ q) = same_place p q

-- The position of a place in a list.
unfoldable pub position : Place → List Place → ℕ
position p [] = 0
position p (q ∷ qs) = elim (same_place p q) as (λ b. ℕ) [ true ↦ 0 | false ↦ suc (position p qs) ]

-- A place without its last step: the parent's.
unfoldable pub above : Place → Place
above [] = []
above (b ∷ []) = []
above (b ∷ c ∷ p) = b ∷ above (c ∷ p)

-- ---- the codes of a record

-- Leaf, independent-or, independent-and, Shannon: by the Option of the rules' definitions, with which `kind_at` (`rules`, Tree) tells of a place.
unfoldable pub kind_code : Option Kind → ℕ
kind_code none = 1
kind_code (some IndependentOr) = 2
kind_code (some IndependentAnd) = 4
kind_code (some (Shannon f)) = 3

-- The fault of a Shannon node.
unfoldable pub fault_code : Option Kind → ℕ
fault_code none = 0
fault_code (some IndependentOr) = 0
fault_code (some IndependentAnd) = 0
fault_code (some (Shannon f)) = f

-- 1 for an open leaf.
unfoldable pub live_code : List ℕ → Option Kind → List Way → ℕ
live_code ws none vs = elim (is_open ws vs) as (λ b. ℕ) [ true ↦ 1 | false ↦ 0 ]
live_code ws (some k) vs = 0

-- A record says that an open leaf is there.
abbrev pub is_live : Node → Bool
is_live x = eqb x.live 1

-- The left child's record; a leaf has none.
unfoldable pub left_code : Option Kind → Place → List Place → ℕ
left_code none p ps = 0
left_code (some k) p ps = position (p ++ (left ∷ [])) ps

-- The numbers of ways below 64, as a word.
unfoldable pub low_word : List Way → ℕ
low_word [] = 0
low_word (v ∷ vs) = elim (ltb v.number 64) as (λ b. ℕ) [ true ↦ bit_or (2 ^ v.number) (low_word vs) | false ↦ low_word vs ]

-- Those from 64 on, less 64.
unfoldable pub high_word : List Way → ℕ
high_word [] = 0
high_word (v ∷ vs) = elim (ltb v.number 64) as (λ b. ℕ) [ true ↦ high_word vs | false ↦ bit_or (2 ^ (v.number - 64)) (high_word vs) ]

-- A number is in the set of two such words.
unfoldable pub in_words : ℕ → ℕ → ℕ → Bool
in_words a b i = elim (ltb i 64) as (λ x. Bool) [ true ↦ bit i a | false ↦ bit (i - 64) b ]

-- The ways of a record: what remains of the table's ways in its set, with its fixed faults, and without the faults left out.
unfoldable pub record_ways : Table → Node → List Way
record_ways t x = drop_all x.out (remaining x.present x.absent (select (in_words x.waysa x.waysb) (ways t)))

-- ---- the records of a series

-- A record from what was done there, what stands there, and its links.
abbrev pub record_from : Table → Option Kind → Subtree → ℕ → ℕ → Node
record_from t o x up-link down-link =
    record {
      kind = kind_code o;
      fault = fault_code o;
      live = live_code t.weights o x.node.ways;
      parent = up-link;
      left = down-link;
      waysa = low_word x.node.ways;
      waysb = high_word x.node.ways;
      present = x.node.present;
      absent = x.node.absent;
      out = x.node.out;
      low = end Down t.weights x.node.ways x.below;
      high = end Up t.weights x.node.ways x.below;
      ownlow = leaf_low t.weights x.node.ways;
      ownhigh = leaf_high t.weights x.node.ways;
    }

-- What stands at a place, or an empty leaf where the tree has no such place.
unfoldable pub subtree_or : Option Subtree → Subtree
subtree_or none = record { node = record { set = []; present = 0; absent = 0; out = 0; ways = [] }; below = leaf }
subtree_or (some x) = x

-- The record of a place.
unfoldable pub record_at : Table → List Refinement → Place → Node
record_at t ns p =
    record_from t (kind_at p (tree ns)) (subtree_or (subtree t p (tree ns))) (position (above p) (places ns)) (left_code (kind_at p (tree ns)) p (places ns))

-- All records: one for each place, the rest blank.
unfoldable pub records_of : Table → List Refinement → List Node
records_of t ns = map (record_at t ns) (places ns) ++ replicate (tree_records - length (places ns)) blank

-- The tree of a series of refinements.
unfoldable pub layout : Table → List Refinement → Tree
layout t ns = record { nodes = records_of t ns; used = length (places ns) }

-- A tree without nodes, which a refused opening gives.
unfoldable pub no_nodes : Tree
no_nodes = record { nodes = replicate tree_records blank; used = 0 }

-- ---- the series, read off the records, whatever they hold

-- What a record says was done.
unfoldable pub kind_of : Node → Kind
kind_of x =
    elim (eqb x.kind 2) as (λ b. Kind) [
      | true ↦ IndependentOr
      | false ↦ elim (eqb x.kind 4) as (λ b. Kind) [ true ↦ IndependentAnd | false ↦ Shannon x.fault ]
    ]

-- k refinements: each from the parent of the next left child, whose place is known by then.
unfoldable pub history_from : ℕ → List Place → List Node → List Node → List Refinement
history_from zero ps rest all = []
history_from (suc k) ps rest all =
    let j = (get_or rest 0 blank).parent in
    let p = get_or ps j [] in
    record { place = p; kind = kind_of (get_or all j blank) } ∷ history_from k (ps ++ ((p ++ (left ∷ [])) ∷ (p ++ (right ∷ [])) ∷ [])) (drop 2 rest) all

-- The number of refinements in a tree, by its records in use.
unfoldable pub tree_count : Tree → ℕ
tree_count x = (x.used - 1) / 2

-- The series of a tree.
unfoldable pub history : Tree → List Refinement
history x = history_from (tree_count x) ([] ∷ []) (drop 1 x.nodes) x.nodes

-- ---- refusal 16

-- Two records are equal.
unfoldable pub same_node : Node → Node → Bool
same_node x y =
    eqb x.kind y.kind
    && (eqb x.fault y.fault
    && (eqb x.live y.live
    && (eqb x.parent y.parent
    && (eqb x.left y.left
    && (eqb x.waysa y.waysa
    && (eqb x.waysb y.waysb
    && (eqb x.present y.present
    && (eqb x.absent y.absent
    && (eqb x.out y.out
    && (eqb x.low y.low
    && (eqb x.high y.high
    && (eqb x.ownlow y.ownlow && eqb x.ownhigh y.ownhigh))))))))))))

unfoldable pub same_nodes : List Node → List Node → Bool
same_nodes [] [] = true
same_nodes [] (y ∷ ys) = false
same_nodes (x ∷ xs) [] = false
same_nodes (x ∷ xs) (y ∷ ys) = same_node x y && same_nodes xs ys

unfoldable pub same_tree : Tree → Tree → Bool
same_tree x y = eqb x.used y.used && same_nodes x.nodes y.nodes

-- The tree is the one that its own series gives, and that series was acceptable all along.
unfoldable pub is_good : Table → Tree → Bool
is_good t x = series t (history x) && same_tree x (layout t (history x))

-- 16: the tree, with all that its records hold, is not good for the table (RULES 6.8).
unfoldable pub bad : Table → Tree → Bool
bad t x = not (is_good t x)

-- A good tree (RULES 6.8): some series of acceptable refinements of the root leaf gives it.
pub record Good (t : Table) (x : Tree) : Type 0 where
  pub made : List Refinement
  pub accepted : series t made ≡ true
  pub is : x ≡ layout t made

-- ---- what a reader of the records sees at a place

-- The record of a child.
abbrev pub child_record : Side → ℕ → ℕ
child_record left l = l
child_record right l = suc l

-- The record of a place, by the links from record i.
unfoldable pub walk : List Node → Place → ℕ → Option ℕ
walk xs [] i = some i
walk xs (b ∷ p) i =
    elim (eqb (get_or xs i blank).left 0) as (λ c. Option ℕ) [ true ↦ none | false ↦ walk xs p (child_record b (get_or xs i blank).left) ]

abbrev pub fetch : List Node → Option ℕ → Option Node
fetch xs none = none
fetch xs (some i) = some (get_or xs i blank)

unfoldable pub seen : Tree → Place → Option Node
seen x p = fetch x.nodes (walk x.nodes p 0)

-- What was done there, if it is no leaf.
unfoldable pub did_there : Node → Option Kind
did_there x = elim (eqb x.kind 1) as (λ b. Option Kind) [ true ↦ none | false ↦ some (kind_of x) ]

abbrev pub kind_seen : Option Node → Option Kind
kind_seen none = none
kind_seen (some x) = did_there x

abbrev pub interval_seen : Option Node → Option Interval
interval_seen none = none
interval_seen (some x) = some (record { low = x.low; high = x.high })

-- What the records say was done at a place, and the interval there.
unfoldable pub tree_kind : Tree → Place → Option Kind
tree_kind x p = kind_seen (seen x p)

unfoldable pub tree_interval : Tree → Place → Option Interval
tree_interval x p = interval_seen (seen x p)
