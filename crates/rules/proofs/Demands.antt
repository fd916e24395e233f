-- WHERE TO LOOK FIRST: what is shown of the rules, each claim under the clauses of docs/RULES.md that it settles.
-- Every claim here is about the definitions in specs/; the contracts of the code say that its results equal those definitions.
use mathlib.Core.Path.{◌≡◌, refl, sym, ap, ◌∙◌, subst}
use mathlib.Core.Bool.{true, false, not, ◌&&◌}
use mathlib.Core.List.{List, [], ◌∷◌, ◌++◌}
use mathlib.Core.Option.{Option, none, some}
use mathlib.Core.Logic.{◌↔◌}
use Prim.Native.Nat.{ℕ, suc, ◌+◌, ◌-◌, ◌*◌, ◌≤◌, ◌<◌}
use native.Mathlib.Omega.{arith}
use lib.ListN.{length, take}
use lib.Dec.{eqb}
use Rattle.rules.specs.Rounding.{S, over}
use Rattle.rules.specs.declared.Direction.{Direction}
use Rattle.rules.specs.Table.{bit, Way, Table, ways, Assignment, happens, Encloses, InShare, InRange}
use Rattle.rules.specs.Leaf.{drop_all, is_open, Lean}
use Rattle.rules.specs.Common.{shared, lowest}
use Rattle.rules.specs.Tree.{Side, left, right, Place, DTree, possible, child, combine, inners, nodes, Refinement, refine, tree, leaf_at, on_path, kind_at}
use Rattle.rules.specs.Tree.{Subtree, subtree, root, remains, interval_at, Interval, interval, acceptable, series, low, high}
use Rattle.rules.specs.Run.{next, narrow, picks, verdict, ran}
use Rattle.rules.specs.Refusals.{names_both, Accepted}
use Rattle.rules.specs.declared.Kind.{Kind}
use Rattle.rules.specs.declared.Kind.TheVariants.{IndependentAnd}
use Rattle.rules.specs.declared.Aim.{Aim}
use Rattle.rules.specs.declared.Limits.{Limits}
use Rattle.rules.specs.declared.Verdict.TheVariants.{Met}
use Rattle.rules.specs.Calls.{hand_number, run_number, run_answer, Call, call_number, noted}
use Rattle.rules.specs.Sheet.{Cue, Sheet, Lists, table_of, Within, AllBelow, encode, lists_in, decode, read_number, write_number, written}
use Rattle.rules.proofs.Common.{InOneSense, shared-exactly, common_part, left-common, both-happen}
use Rattle.rules.proofs.KindLaws.{Handed}
use Rattle.rules.proofs.Places.{refined-kind, refined-leaves, refined-inners, nodes-inners, subtree-has, elsewhere}
use Rattle.rules.proofs.Members.{In}
use Rattle.rules.proofs.Series.{Same, acceptable-leaf, places-differ}
use Rattle.rules.proofs.HandedDown.{handed-down, handed-lean, handed-rising}
use Rattle.rules.proofs.Sets.{Rising}
use Rattle.rules.proofs.Enclosure.{CertainAt, enclosure, before-leaving-out}
use Rattle.rules.proofs.Narrowing as narrowing
use Rattle.rules.proofs.Narrowing.{Narrower, no-place-widens, refined-within}
use Rattle.rules.proofs.Levels.{levels, few-nodes}
use Rattle.rules.proofs.Runs.{TooWide, Exactly, verdict-exactly, OneRun, two_runs, picks-budget, report-inners, one-step}
use Rattle.rules.proofs.Demand3.{Share, same-share, never_wider, noted_series, HandsBack, hands-back, HandMade, hand-made}
use Rattle.rules.proofs.Aims.{met_distance, met_share, share-tight, Aimed, aimed, picks_to, verdict_to, same_picks, same_verdict}
use Rattle.rules.proofs.Accepted.{Inside, accepted-inside, inside-accepted}
use Rattle.rules.proofs.WithinLimits.{Tested, tested-within, within-tested, cue-inside}
use Rattle.rules.proofs.CueTables.{LineCertain, printed-certain}
use Rattle.rules.proofs.RoundTrip.{bytes_of, OfSheet, write-exactly, Put, write_read, read_write}
use Rattle.rules.proofs.Sheets.{IsSheet, accepted-exactly, accepts_encoded, decode_encode}
use Rattle.rules.proofs.Sheets.{encode_decode, within_decoded, longest, attained, first-bytes}

-- ---- RULES 4.12: the interval at every place encloses the exact sum of the ways there.

-- What holds at a place of a tree that a series of acceptable refinements grew.
pub record AtPlace (t : Table) (p : Place) (x : Subtree) : Type 0 where
  -- Its interval encloses the exact sum over its remaining ways, low ≤ high, and high is at most S.
  pub interval_certain : CertainAt t.weights x
  -- RULES 3.5, 4.16: its ways are what stays of those of its set that no fixed fault contradicts, without the fixed faults and those left out.
  pub ways_remaining : Handed (ways t) x.node
  -- RULES 3.7: it also encloses the exact sum of all that remained there, left out or not.
  pub over_all : Encloses t.weights (remains (ways t) x.node x.node.set) (interval t.weights x).low (interval t.weights x).high
  -- RULES 3.4: of what a place has, nothing can be left out.
  pub nothing_new : Lean x.node.ways
  -- They stand in number order.
  pub in_order : Rising 0 x.node.ways
  -- RULES 4.9: no place is longer than 64 steps.
  pub level : length p ≤ 64

pub at_place : (t : Table) → Accepted t → (ns : List Refinement) → series t ns ≡ true → (p : Place) (x : Subtree) → subtree t p (tree ns) ≡ some x
    → AtPlace t p x
unfolding subtree
at_place t ok ns h p x e =
    record {
      interval_certain = enclosure t ok ns h p x e;
      ways_remaining = handed-down t ok ns h p x e;
      over_all =
          before-leaving-out t.weights (remains (ways t) x.node x.node.set) _ _
          (subst (λ (vs : List Way). Encloses t.weights vs (interval t.weights x).low (interval t.weights x).high)
          (handed-down t ok ns h p x e) (enclosure t ok ns h p x e).encloses);
      nothing_new = handed-lean t ok ns h p x e;
      in_order = handed-rising t ns h p x e;
      level = levels t ok ns h p (subtree-has p (root t) (tree ns) x e);
    }

-- ---- RULES 4.15, 4.16: the common part, and what taking it out does. All claims on trees here are about the three kinds at once.

-- What is taken out of ways that name no fault in both senses, the lowest numbered first.
pub record TakenOut (v : Way) (vs : List Way) : Type 0 where
  -- The common part has exactly the faults that all ways name in the same sense.
  pub common : (i : ℕ) → (bit i (shared (v ∷ vs)) ≡ true) ↔ InOneSense i (v ∷ vs)
  -- It can be taken out exactly if it is not empty.
  pub offered : possible IndependentAnd (v ∷ vs) ≡ not (eqb (shared (v ∷ vs)) 0)
  -- The left child is one way, the common part; the right child has the ways without those faults.
  pub left_one : child IndependentAnd left (v ∷ vs) ≡ common_part v.number (v ∷ vs) ∷ []
  pub right_rest : child IndependentAnd right (v ∷ vs) ≡ drop_all (shared (v ∷ vs)) (v ∷ vs)
  -- The left child is closed.
  pub left_closed : (ws : List ℕ) → is_open ws (child IndependentAnd left (v ∷ vs)) ≡ false
  -- The ways happen where both children do.
  pub both : (a : Assignment) → happens (v ∷ vs) a ≡ happens (child IndependentAnd left (v ∷ vs)) a && happens (child IndependentAnd right (v ∷ vs)) a
  -- An end is the product of the children's, rounded outwards.
  pub product : (d : Direction) (ws : List ℕ) (x y : ℕ) → combine IndependentAnd d ws x y ≡ over d (x * y)

pub taken_out : (v : Way) (vs : List Way) → names_both (v ∷ vs) ≡ false → TakenOut v vs
unfolding possible child combine lowest drop_all is_open
taken_out v vs c =
    record {
      common = λ i. shared-exactly i v vs;
      offered = refl;
      left_one = left-common v vs c;
      right_rest = refl;
      left_closed = λ ws. refl;
      both = both-happen (v ∷ vs) c;
      product = λ d ws x y. refl;
    }

-- RULES 4.10: a tree has at most 511 nodes.
pub at-most-511 : (t : Table) (ns : List Refinement) → series t ns ≡ true → nodes (tree ns) ≤ 511
at-most-511 = few-nodes

-- ---- RULES 4.11, 4.13, 5.5: what one refinement changes in a tree, and that it widens no place.

-- What one acceptable refinement n changes in the tree s.
pub record OneRefinement (t : Table) (s : DTree) (n : Refinement) : Type 0 where
  pub one_inner_more : inners (refine n s) ≡ suc (inners s)
  pub two_nodes_more : nodes (refine n s) ≡ nodes s + 2
  pub of_its_kind : kind_at n.place (refine n s) ≡ some n.kind
  pub with_two_leaves : (b : Side) → leaf_at (n.place ++ (b ∷ [])) (refine n s) ≡ true
  -- Elsewhere everything stands as it stood: ways, what hangs there, kind and interval.
  pub ways_stay : (q : Place) → on_path q n.place ≡ false → on_path n.place q ≡ false → subtree t q (refine n s) ≡ subtree t q s
  pub intervals_stay : (q : Place) → on_path q n.place ≡ false → on_path n.place q ≡ false → interval_at t q (refine n s) ≡ interval_at t q s
  -- Neither the root nor any other place has a wider interval than before.
  pub root_within : narrowing.NoWider t s (refine n s)
  pub no_wider : (q : Place) (y : Subtree) → subtree t q s ≡ some y → (z : Subtree) × (subtree t q (refine n s) ≡ some z) × Narrower t.weights y z

pub one-refinement : (t : Table) (s : DTree) (n : Refinement) → acceptable t s n ≡ true → OneRefinement t s n
unfolding subtree interval_at
one-refinement t s n a =
    record {
      one_inner_more = more;
      two_nodes_more = omega (arith, nodes-inners s, nodes-inners (refine n s), more);
      of_its_kind = refined-kind n.place n.kind s l;
      with_two_leaves = λ b. refined-leaves n.place b n.kind s l;
      ways_stay = stays;
      intervals_stay =
          λ q g h. ap (λ (o : Option Subtree). elim o as (λ o. Option Interval) [ none ↦ none | some x ↦ some (interval t.weights x) ])
          (stays q g h);
      root_within = refined-within t n s;
      no_wider = no-place-widens t n s;
    }
  where
    l : leaf_at n.place s ≡ true
    l = acceptable-leaf t s n a

    more : inners (refine n s) ≡ suc (inners s)
    more = refined-inners n.place n.kind s l

    stays : (q : Place) → on_path q n.place ≡ false → on_path n.place q ≡ false → subtree t q (refine n s) ≡ subtree t q s
    stays q g h = elsewhere q n.place n.kind (root t) s g h

-- ---- RULES 5.7 to 5.12: what a run makes, why it stops and what it reports.

-- What a run with this aim and budget does to the tree s.
pub record OneRunOf (t : Table) (a : Aim) (budget : ℕ) (s : DTree) : Type 0 where
  -- RULES 5.10: it reports the inner nodes after it less those before it.
  pub report : length (picks t a budget s) ≡ inners (ran t a budget s) - inners s
  pub in_budget : length (picks t a budget s) ≤ budget
  -- RULES 5.7: the verdict is the first of met, done, full, spent that applies.
  pub stops : Exactly t a (ran t a budget s) (verdict t a budget s)
  -- Met is said, by distance, exactly if the width is at most twice the allowance; by share, exactly if (S − e) × high ≤ (S + e) × low.
  pub met_distance : (e : ℕ) → a ≡ Aim.Distance e → (verdict t a budget s ≡ Met) ↔ (high t (ran t a budget s) - low t (ran t a budget s) ≤ 2 * e)
  pub met_share : (e : ℕ) → a ≡ Aim.Share e
      → (verdict t a budget s ≡ Met) ↔ ((S - e) * high t (ran t a budget s) ≤ (S + e) * low t (ran t a budget s))
  -- RULES 5.6: what is aimed at decides where the run stops and nothing else: it is the run that stops by the test `narrow a`.
  pub by_test : (picks t a budget s ≡ picks_to t (narrow a) budget s) × (verdict t a budget s ≡ verdict_to t (narrow a) budget s)
  -- RULES 5.12: two runs in a row, with one allowance and in one mode, are one run with both budgets together.
  pub cut : (more : ℕ) → OneRun t a budget more s
  -- RULES 5.11: budget 1, on a tree that is not met, done or full at the start: one inner node and no more.
  pub single : (n : Refinement) → TooWide t a s → next t s ≡ some n → inners s < 255 → picks t a 1 s ≡ n ∷ []

pub one-run : (t : Table) → Accepted t → (a : Aim) (budget : ℕ) (s : DTree) → OneRunOf t a budget s
one-run t ok a b s =
    record {
      report = omega (arith, report-inners t ok a b s);
      in_budget = picks-budget t a b s;
      stops = verdict-exactly t a b s;
      met_distance = λ e q. met_distance t a e q b s;
      met_share = λ e q. met_share t a e q b s;
      by_test = (same_picks t a b s, same_verdict t a b s);
      cut = λ c. two_runs t a b c s;
      single = one-step t a s;
    }

-- ---- RULES 5.16, 5.17: the figure that an accepted run hands back, and what met says of the exact chance.

-- In mode 0 the figure is low plus half the width, rounded down, lies in the interval, and at met the exact chance is within the allowance of it.
-- In mode 1 it is 0, and at met every number from (S − e) × high / S to (S + e) × low / S is within the share of the exact chance, and there is one.
pub every-aim : (t : Table) → Accepted t → (ns : List Refinement) → series t ns ≡ true → (m : Limits) → run_number t false m ≡ 0
    → Aimed t m (run_answer t false (tree ns) m)
every-aim = aimed

-- To be within the share is no weaker than that: where the exact chance is a whole number p of billionths, a number is within the share of it exactly if it
-- stands between (S − e) × p / S and (S + e) × p / S.
pub in-share-exactly : (ws : List ℕ) (vs : List Way) (e p x d : ℕ) → Encloses ws vs p p → 0 < d → InShare ws vs e x d ↔ InRange e p p x d
in-share-exactly = share-tight

-- ---- RULES 5.1: the interval that every accepted call after an opening hands back.

-- It encloses the exact sum over the table's ways, stands in order, is at most S, lies within the one before, and its count is inner nodes after less before.
pub every-answer : (t : Table) → Accepted t → (ns : List Refinement) → series t ns ≡ true → (c : Call) → call_number t (tree ns) c ≡ 0 → HandsBack t (tree ns) c
every-answer = hands-back

-- An accepted hand refinement makes the one refinement that it names.
pub by-hand-one : (t : Table) → Accepted t → (s : DTree) (bs : List ℕ) (k : Kind) → hand_number t false s bs k ≡ 0 → HandMade t s bs k
by-hand-one = hand-made

-- ---- RULES 2.10: a table is accepted exactly if it is in order.

pub inside-exactly : (t : Table) → Accepted t ↔ Inside t
inside-exactly t = (accepted-inside t, inside-accepted t)

-- Of sheets: `Within` says the limits in plain terms, and the tests of the refusals let through just these.
pub within-exactly : (s : Sheet) → Tested s ↔ Within s
within-exactly s = (tested-within s, within-tested s)

-- The table of each of its cues is then inside the limits.
pub within-cues : (s : Sheet) → Within s → (c : Cue) → In c s.cues → Inside (table_of s.weights c)
within-cues = cue-inside

-- The writer accepts exactly the lists of a sheet within the limits, into a space that is long enough.
pub writes-exactly : (x : Lists) (n : ℕ) → AllBelow 65536 x.numbers → (write_number x n ≡ 0) ↔ OfSheet x n
writes-exactly = write-exactly

-- ---- DEMAND 3 (RULES 5.14, 5.15, 4.13): two lists of calls that note the same refinements in the end, in whatever order, share every interval, the number
-- ---- of refinements and the outcome of every further run; and along a list no refinement widens the root. Each run of a list has limits of its own, so
-- ---- that a list may mix modes; a further run has one and the same limits after either list, mode included.

pub record Demand-3 (t : Table) : Type 0 where
  pub share : (cs cs' : List Call) → Same (noted t cs) (noted t cs') → Share t cs cs'
  pub no_widening : (cs : List Call) (before after : List Refinement) (n : Refinement) → noted t cs ≡ before ++ n ∷ after
      → narrowing.NoWider t (tree before) (tree (before ++ n ∷ []))
  -- No place is noted twice, so the length of the list is the number of its places.
  pub once : (cs : List Call) (a b : List Refinement) (n m : Refinement) → noted t cs ≡ a ++ n ∷ b → In m a → m.place ≡ n.place → ⊥

pub demand-3 : (t : Table) → Accepted t → Demand-3 t
demand-3 t ok =
    record {
      share = same-share t ok;
      no_widening = never_wider t;
      once = λ cs a b n m e i q. places-differ t (noted t cs) a b n m (noted_series t ok cs) e i q;
    }

-- ---- RULES 7.8, 7.18: which bytes reading accepts, how many they are, and that what is written and read is the same.

pub record SheetBytes (bs : List ℕ) : Type 0 where
  -- Reading accepts a list of bytes exactly if it is the encoding of a sheet within the limits.
  pub exactly : (read_number bs ≡ 0) ↔ IsSheet bs
  -- Which is the only one, and the one that reading finds.
  pub only : (s : Sheet) → Within s → encode s ≡ bs → s ≡ decode bs
  -- What is read and written is the same bytes.
  pub same_bytes : read_number bs ≡ 0 → encode (decode bs) ≡ bs
  -- At most 49,612 of them.
  pub short : read_number bs ≡ 0 → length bs ≤ 49612
  -- The number depends on the first 49,613 bytes alone.
  pub front : read_number bs ≡ read_number (take 49613 bs)

pub sheet-bytes : (bs : List ℕ) → AllBelow 256 bs → SheetBytes bs
sheet-bytes bs h =
    record {
      exactly = accepted-exactly bs h;
      only = λ s w e. sym (decode_encode s w) ∙ ap decode e;
      same_bytes = encode_decode bs h;
      short = λ e. rw (← encode_decode bs h e) (longest (decode bs) (within_decoded bs h e));
      front = first-bytes bs;
    }

-- What is written and read is the same sheet.
pub same-sheet : (s : Sheet) → Within s → (read_number (encode s) ≡ 0) × (decode (encode s) ≡ s)
same-sheet s w = (accepts_encoded s w, decode_encode s w)

-- A sheet of 49,612 bytes.
pub longest-sheet : (s : Sheet) × Within s × (length (encode s) ≡ 49612)
longest-sheet = attained

-- ---- RULES 7.18, of the calls: what is written and read is what was given, and what is read and written is
-- ---- the same bytes.

pub written_read : (x : Lists) (space : List ℕ) → AllBelow 65536 x.numbers → write_number x (length space) ≡ 0
    → (read_number (take (length (bytes_of x)) (written x space)) ≡ 0) × (lists_in (take (length (bytes_of x)) (written x space)) ≡ x)
written_read = write_read

pub read-written : (bs : List ℕ) → AllBelow 256 bs → read_number bs ≡ 0 → (space : List ℕ) → length bs ≤ length space
    → (write_number (lists_in bs) (length space) ≡ 0) × Put (lists_in bs) bs space
read-written = read_write

-- ---- RULES 9.3: every printed line is certain.

-- Each cue of an accepted sheet is an accepted table, its printed interval encloses the exact sum over its ways, and met is printed exactly if it is
-- narrow enough.
pub line-shown : (bs : List ℕ) → AllBelow 256 bs → read_number bs ≡ 0 → (c : Cue) → In c (decode bs).cues
    → LineCertain (decode bs).limits (table_of (decode bs).weights c)
line-shown = printed-certain
