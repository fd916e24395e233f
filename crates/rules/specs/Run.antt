-- A run: when it stops, which leaf it takes, what it does there and the figure that it hands back (RULES 5.6 to 5.10, 5.16).
-- The allowance is a distance from that figure, above or below, or a share of the chance: only `aim_of`, `narrow` and `figure` know which.
use Rattle.std.specs.Prelude.{Bool, true, false, not, List, [], ◌∷◌, ℕ, zero, suc, ◌+◌, ◌-◌, ◌*◌, ◌/◌, length, eqb, ltb, leb}
use Rattle.std.proofs.Math.Option.{Option, none, some}
use Rattle.rules.specs.Rounding.{S}
use Rattle.rules.specs.Table.{bit, Way, Table, faults}
use Rattle.rules.specs.Leaf.{leaf_width, is_open}
use Rattle.rules.specs.Group.{fall_apart}
use Rattle.rules.specs.Common.{shared}
use Rattle.rules.specs.Tree.{Side, left, right, Place, DTree, leaf, inner, child, root_ways, low, high, roomy, Refinement, refine, grow}
use Rattle.rules.specs.declared.Kind.{Kind}
use Rattle.rules.specs.declared.Kind.TheVariants.{IndependentOr, IndependentAnd, Shannon}
use Rattle.rules.specs.declared.Limits.{Limits}
use Rattle.rules.specs.declared.Aim.{Aim}
use Rattle.rules.specs.declared.Aim.TheVariants.{Distance, Share}
use Rattle.rules.specs.declared.Verdict.{Verdict}
use Rattle.rules.specs.declared.Verdict.TheVariants.{Met, Done, Full, Spent}

-- ---- the widest open leaf

-- An open leaf: its width, its place and its remaining ways.
pub record Candidate : Type 0 where
  pub width : ℕ
  pub place : Place
  pub ways : List Way

-- A candidate of a child, seen from its parent.
unfoldable pub from : Side → Option Candidate → Option Candidate
from b none = none
from b (some x) = some (record { width = x.width; place = b ∷ x.place; ways = x.ways })

-- The wider of two candidates, the left one if they are equally wide.
unfoldable pub wider : Option Candidate → Option Candidate → Option Candidate
wider none y = y
wider (some x) none = some x
wider (some x) (some y) = elim (ltb x.width y.width) as (λ b. Option Candidate) [ true ↦ some y | false ↦ some x ]

-- The widest open leaf, the leftmost if several are equally wide.
unfoldable pub widest : List ℕ → List Way → DTree → Option Candidate
widest ws vs leaf =
    elim (is_open ws vs) as (λ b. Option Candidate) [ true ↦ some (record { width = leaf_width ws vs; place = []; ways = vs }) | false ↦ none ]
widest ws vs (inner k l r) = wider (from left (widest ws (child k left vs) l)) (from right (widest ws (child k right vs) r))

-- ---- what is done there

-- In how many of the ways the fault is named, present or absent.
unfoldable pub named : ℕ → List Way → ℕ
named f [] = 0
named f (v ∷ vs) = elim (bit f (faults v)) as (λ b. ℕ) [ true ↦ suc (named f vs) | false ↦ named f vs ]

-- Of the faults below n, the one named in most ways, the lowest number if several are.
unfoldable pub most_named : ℕ → List Way → ℕ
most_named zero vs = 0
most_named (suc n) vs =
    let f = most_named n vs in
    elim (ltb (named f vs) (named n vs)) as (λ b. ℕ) [ true ↦ n | false ↦ f ]

-- What is done there (RULES 5.9): by independence where the ways fall apart, else by the common part where there is one, else by the fault that most
-- of them name.
unfoldable pub choice : List ℕ → List Way → Kind
choice ws vs =
    elim (fall_apart vs) as (λ b. Kind) [
      | true ↦ IndependentOr
      | false ↦ elim (not (eqb (shared vs) 0)) as (λ b. Kind) [ true ↦ IndependentAnd | false ↦ Shannon (most_named (length ws) vs) ]
    ]

-- The refinement that the rule picks next, if a leaf is open.
unfoldable pub next : Table → DTree → Option Refinement
next t s =
    elim (widest t.weights (root_ways t) s) as (λ o. Option Refinement)
    [ none ↦ none | some x ↦ some (record { place = x.place; kind = choice t.weights x.ways }) ]

-- ---- when it stops

-- What a run with these limits aims at: in mode 1 the allowance is a share of the chance, in mode 0 a distance. 3 refuses every other mode.
unfoldable pub aim_of : Limits → Aim
aim_of m = elim (eqb m.mode 1) as (λ b. Aim) [ true ↦ Share m.allowance | false ↦ Distance m.allowance ]

-- The interval is as narrow as is aimed at. With e for a distance, its width is at most 2 × e; with e for a share, (S − e) × high ≤ (S + e) × low.
unfoldable pub narrow : Aim → ℕ → ℕ → Bool
narrow (Distance e) lo hi = leb (hi - lo) (2 * e)
narrow (Share e) lo hi = leb ((S - e) * hi) ((S + e) * lo)

-- Before a refinement: a reason to stop, or the refinement to make.
pub data Turn : Type 0 where
  stop : Verdict → Turn
  go : Refinement → Turn

-- Met, done and full, in this order; otherwise the refinement that the rule picks. Spent is the run's own.
unfoldable pub turn : Table → Aim → DTree → Turn
turn t aim s =
    elim (narrow aim (low t s) (high t s)) as (λ b. Turn) [
      | true ↦ stop Met
      | false ↦ elim (next t s) as (λ o. Turn) [ none ↦ stop Done | some n ↦ elim (roomy s) as (λ b. Turn) [ true ↦ go n | false ↦ stop Full ] ]
    ]

-- The refinements that a run with this aim and budget makes on a tree, one after the other.
unfoldable pub picks : Table → Aim → ℕ → DTree → List Refinement
picks t aim zero s = []
picks t aim (suc budget) s =
    elim (turn t aim s) as (λ x. List Refinement) [ stop v ↦ [] | go n ↦ n ∷ picks t aim budget (refine n s) ]

-- Why it stops: met, done or full before spent, looked for again after the last budgeted refinement.
unfoldable pub verdict : Table → Aim → ℕ → DTree → Verdict
verdict t aim zero s = elim (turn t aim s) as (λ x. Verdict) [ stop v ↦ v | go n ↦ Spent ]
verdict t aim (suc budget) s =
    elim (turn t aim s) as (λ x. Verdict) [ stop v ↦ v | go n ↦ verdict t aim budget (refine n s) ]

-- The tree that a run leaves.
abbrev pub ran : Table → Aim → ℕ → DTree → DTree
ran t aim budget s = grow s (picks t aim budget s)

-- ---- what it shows

-- The figure of an interval: by distance low plus half the width, rounded down; by share 0.
unfoldable pub figure : Aim → ℕ → ℕ → ℕ
figure (Distance e) lo hi = lo + (hi - lo) / 2
figure (Share e) lo hi = 0
