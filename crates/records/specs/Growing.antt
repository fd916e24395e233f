-- One refinement on the records, as code makes it: the leaf's record is refined, two records are added, and the intervals above are joined anew.
-- And 16 as code tests it: build the tree again by such refinements, and compare. Rests on Records.antt; proofs/ shows what both come to.
use Rattle.std.specs.Prelude.{Bool, true, false, ◌&&◌, List, [], ℕ, zero, suc, ◌+◌, ◌-◌, ◌*◌, min, max, get_or, set, eqb, ltb}
use Rattle.std.proofs.Math.Option.{Option, none, some}
use Rattle.rules.specs.declared.Direction.TheVariants.{Down, Up}
use Rattle.rules.specs.Table.{Table}
use Rattle.rules.specs.Tree.{left, right, leaf, possible, combine, child_node}
use Rattle.rules.specs.Tree.{Node as Spot}
use Rattle.rules.specs.declared.Kind.{Kind}
use Rattle.records.specs.Records.{tree_records, blank, kind_code, fault_code, is_live, record_ways, record_from, records_of, kind_of, tree_count, same_nodes}
use Rattle.records.specs.declared.Node.{Node}
use Rattle.records.specs.declared.Tree.{Tree}

-- ---- the intervals on the way up

-- A record with other codes, another left child and another interval; all else stays.
abbrev pub changed : Node → ℕ → ℕ → ℕ → ℕ → ℕ → ℕ → Node
changed x code f mark l lo hi =
    record {
      kind = code;
      fault = f;
      live = mark;
      parent = x.parent;
      left = l;
      waysa = x.waysa;
      waysb = x.waysb;
      present = x.present;
      absent = x.absent;
      out = x.out;
      low = lo;
      high = hi;
      ownlow = x.ownlow;
      ownhigh = x.ownhigh;
    }

-- A record with another interval.
abbrev pub with_ends : Node → ℕ → ℕ → Node
with_ends x lo hi = changed x x.kind x.fault x.live x.left lo hi

-- An inner record with the interval from its own as a leaf and from its children's records.
unfoldable pub joined : List ℕ → Node → Node → Node → Node
joined ws x l r =
    with_ends x (max x.ownlow (combine (kind_of x) Down ws l.low r.low)) (min x.ownhigh (combine (kind_of x) Up ws l.high r.high))

-- Record i joined with its children's records.
unfoldable pub join_at : List ℕ → List Node → ℕ → List Node
join_at ws xs i =
    let x = get_or xs i blank in
    set xs i (joined ws x (get_or xs x.left blank) (get_or xs (suc x.left) blank))

-- All intervals from record i up to the root joined anew, in at most k records.
unfoldable pub raise : List ℕ → ℕ → List Node → ℕ → List Node
raise ws zero xs i = xs
raise ws (suc k) xs i =
    elim (eqb i 0) as (λ b. List Node) [ true ↦ join_at ws xs i | false ↦ raise ws k (join_at ws xs i) (get_or xs i blank).parent ]

-- ---- one refinement

-- The record of a leaf that is refined, with its interval as a leaf: its left child will be in record l.
abbrev pub refined_record : Node → Kind → ℕ → Node
refined_record x k l = changed x (kind_code (some k)) (fault_code (some k)) 0 l x.low x.high

-- The record of a new leaf.
abbrev pub fresh_record : Table → Spot → ℕ → Node
fresh_record t x up-link = record_from t none (record { node = x; below = leaf }) up-link 0

-- What a record tells of its place. The set is the record's own ways.
abbrev pub spot_of : Table → Node → Spot
spot_of t x = record { set = record_ways t x; present = x.present; absent = x.absent; out = x.out; ways = record_ways t x }

-- The record at j refined, and its two leaves in the next two records.
unfoldable pub refined_at : Table → List Node → ℕ → ℕ → Kind → List Node
refined_at t xs used j k =
    let x = get_or xs j blank in
    set (set (set xs j (refined_record x k used)) used (fresh_record t (child_node k left (spot_of t x)) j)) (suc used)
    (fresh_record t (child_node k right (spot_of t x)) j)

-- ONE REFINEMENT: that, and the intervals from there up to the root. A leaf that can be refined lies above level 64, so 64 records are enough.
unfoldable pub grown_at : Table → List Node → ℕ → ℕ → Kind → List Node
grown_at t xs used j k = raise t.weights 64 (refined_at t xs used j k) j

-- The width of a record's interval.
abbrev pub record_width : Node → ℕ
record_width x = x.high - x.low

-- The leaf in record j may be refined so: it is open, there is room, and the kind is possible.
unfoldable pub may_at : Table → List Node → ℕ → ℕ → Kind → Bool
may_at t xs used j k = is_live (get_or xs j blank) && (ltb used tree_records && possible k (record_ways t (get_or xs j blank)))

-- ---- 16 by building the tree again

-- n refinements more, each read off the records `all`: its place by the parent of the next left child, its kind by what that parent says was done.
unfoldable pub rebuild : Table → ℕ → List Node → List Node → ℕ → Option (List Node)
rebuild t zero all xs used = some xs
rebuild t (suc n) all xs used =
    let j = (get_or all used blank).parent in
    let k = kind_of (get_or all j blank) in
    elim (ltb j used && may_at t xs used j k) as (λ b. Option (List Node))
    [ true ↦ rebuild t n all (grown_at t xs used j k) (suc (suc used)) | false ↦ none ]

-- The records are those that were built, if any were.
unfoldable pub same_as : List Node → Option (List Node) → Bool
same_as xs none = false
same_as xs (some ys) = same_nodes xs ys

-- An odd number of records is in use, and they are what their own refinements build from the root leaf.
unfoldable pub is_good_rebuilt : Table → Tree → Bool
is_good_rebuilt t x =
    eqb x.used (2 * tree_count x + 1) && same_as x.nodes (rebuild t (tree_count x) x.nodes (records_of t []) 1)
