-- What an opening promises, shown of its definition: refused, and accepted with the root leaf's record.
-- Rests on the rules' enclosure and on Stored.antt.
use mathlib.Core.Path.{◌≡◌, refl, sym, ap, subst₂, ◌∙◌}
use mathlib.Core.List.{[]}
use Prim.Native.Nat.{ℕ, zero, suc}
use native.Mathlib.Omega.{arith}
use lib.ListN.{set}
use Rattle.rules.specs.Table.{Table, ways}
use Rattle.rules.specs.Tree.{root_ways, leaf, root, low, high, kind_at, subtree, descend, series_from, grow}
use Rattle.std.specs.Prelude.{Result, Ok, Err}
use Rattle.rules.specs.Refusals.{number, table_refusals, table_number, Accepted}
use Rattle.rules.specs.Answers.{refused, answer_reply}
use Rattle.rules.specs.Calls.{open_answer, figures}
use Rattle.rules.specs.declared.Figures.{Figures}
use Rattle.rules.specs.declared.Refusal.{Refusal}
use Rattle.rules.proofs.First.{number-above}
use Rattle.rules.proofs.Answering.{answered-free, answered-alike, first-refused}
use Rattle.rules.proofs.Enclosure.{CertainAt, enclosure, root-encloses}
use Rattle.records.specs.Records.{no_nodes, layout, record_at, records_of, places, children, position, above, left_code, subtree_or, same_place}
use Rattle.records.specs.Growing.{fresh_record}
use Rattle.records.specs.Library.{open_tree, open_by}
use Rattle.records.specs.declared.Tree.{Tree}
use Rattle.records.proofs.ByTheRules.{opened}
use Rattle.records.proofs.Demand.{root-read}
use Rattle.clauses.specs.Leaves.{none_gone}
use Rattle.node.specs.Told.{spot_with}
use Rattle.dtree.proofs.Accepting.{judged}
use Rattle.dtree.specs.Promises.{root_figures, Certain, Opening}
use Rattle.dtree.proofs.Stored.{every-place}
use Rattle.dtree.proofs.Calling.{shows}

-- The root leaf's record, from what stays of the ways of the table.
pub root-record : (t : Table)
    → fresh_record (record { weights = t.weights; present = []; absent = [] }) (spot_with none_gone (root_ways t)) 0
    ≡ record_at t [] []
unfolding record_at grow kind_at subtree subtree_or places above left_code position same_place descend ways
root-record t = refl

-- That record alone, in a tree without nodes, is the layout of no refinement.
pub one-layout : (t : Table) → record { nodes = set no_nodes.nodes 0 (record_at t [] []); used = 1 } ≡ layout t []
unfolding no_nodes layout records_of places children
one-layout t = refl

-- Where the table is refused no leaf stands.
not-opened : (t : Table) (n : ℕ) → (n ≡ 0 → ⊥) → open_by n t ≡ no_nodes
unfolding open_by
not-opened t zero f = absurd (f refl)
not-opened t (suc n) f = refl

-- The root leaf's interval is certain.
root-certain : (t : Table) → Accepted t → Certain t (layout t []) (answer_reply (Ok (figures t leaf [])))
unfolding figures low high grow subtree series_from descend
root-certain t ok =
    let c : CertainAt t.weights (record { node = root t; below = leaf }) = enclosure t ok [] refl [] _ refl in
    record { at-root = root-read t []; encloses = root-encloses t ok [] refl; ordered = c.ordered; bounded = c.bounded }

-- What the tests refuse leaves a tree without nodes.
refused-so : (t : Table) (r : Refusal) (x : Tree) → judged (table_refusals t) ≡ Err r → x ≡ no_nodes → Opening t x (Err r)
unfolding open_tree open_answer table_number
refused-so t r x e g =
    let n : table_number t ≡ number r = first-refused (table_refusals t) tt r e in
    let refused-table : Accepted t → ⊥ = λ ok. absurd (omega (arith, ok, n, number-above r)) in
    record {
      tree_is = g ∙ sym (not-opened t _ refused-table);
      answer_is = sym (answered-alike (table_refusals t) tt _ r e);
      numbered = sym n;
      accepted = λ ok. absurd (refused-table ok);
      otherwise = λ _. (ap refused (sym n), g);
    }

-- The same of an answer that is the refusal.
pub refuses : (t : Table) (x : Tree) (a : Result Figures Refusal) (r : Refusal) → a ≡ Err r → judged (table_refusals t) ≡ Err r → x ≡ no_nodes → Opening t x a
refuses t x a r f e g = rw f (refused-so t r x e g)

-- A table without refusal is opened with the root leaf alone.
opens-so : (t : Table) → Accepted t → (y : Tree) → y ≡ layout t [] → Opening t y (Ok (root_figures y 0))
unfolding open_answer table_number series_from grow
opens-so t ok y own =
    let d : open_answer t ≡ Ok (figures t leaf []) = answered-free (table_refusals t) (figures t leaf []) ok in
    let a : Ok (root_figures y 0) ≡ open_answer t = ap (λ (z : Tree). Ok (root_figures z 0)) own ∙ ap Ok (shows t [] []) ∙ sym d in
    let certain = subst₂ (λ (z : Tree) (b : Result Figures Refusal). Certain t z (answer_reply b)) (sym own) (sym (a ∙ d)) (root-certain t ok) in
    let places = every-place t ok y (record { made = []; accepted = refl; is = own }) in
    record {
      tree_is = own ∙ sym (opened t ok);
      answer_is = a;
      numbered = sym ok;
      accepted = λ _. (certain, refl, places);
      otherwise = λ g. absurd (g ok);
    }

-- The same of a table that is equal and of figures that were read.
pub opens : (t u : Table) → t ≡ u → Accepted t → (y : Tree) → y ≡ layout t [] → (f : Figures) → f ≡ root_figures y 0 → Opening u y (Ok f)
opens t u e ok y own f g = rw (sym e, g) (opens-so t ok y own)
