-- Putting a tree back record by record: those before record j are there, and so are those behind all in use.
-- Rests on specs/Lent.antt and the kit's laws of `set`.
use mathlib.Core.Path.{◌≡◌, sym, ap, ◌∙◌}
use Prim.Native.Nat.{ℕ, ◌+◌, ◌≤◌, ◌<◌}
use native.Mathlib.Numerals.{lt_of_le_of_ne}
use native.Mathlib.Decide.{ℕ_discrete, dec_lt}
use native.Mathlib.Omega.{arith}
use lib.ListN.{length, set, length-set}
use lib.Seq.{get_or-set_same, get_or-set_other, ext_get_or}
use Rattle.records.specs.Records.{blank, record_in}
use Rattle.records.specs.declared.Node.{Node}
use Rattle.records.specs.declared.Tree.{Tree}
use Rattle.store.specs.Lent.{Behind, with_record, with_used}

-- The tree x is on its way to the tree y.
pub record Putting (x y : Tree) (j : ℕ) : Type 0 where
  pub whole : length x.nodes ≡ length y.nodes
  pub put : (i : ℕ) → i < j → record_in x.nodes i ≡ record_in y.nodes i
  pub behind : (i : ℕ) → y.used ≤ i → record_in x.nodes i ≡ record_in y.nodes i

module _ (x y : Tree) where
  -- At first none is put.
  pub begun : Behind x y → Putting x y 0
  begun b = record { whole = b.whole; put = λ i h. absurd (omega arith); behind = b.same }

  -- One record more.
  pub turn : (j : ℕ) → Putting x y j → j < y.used → j < length y.nodes → (n : Node) → n ≡ record_in y.nodes j → (z : Tree) → z ≡ with_record x j n
      → Putting z y (j + 1)
  turn j p h k n e z f =
      record {
        whole = ap (λ (t : Tree). length t.nodes) f ∙ length-set x.nodes j n ∙ p.whole;
        put = λ i l. ap (λ (t : Tree). record_in t.nodes i) f ∙ by i l (ℕ_discrete i j);
        behind = λ i l. ap (λ (t : Tree). record_in t.nodes i) f ∙ get_or-set_other x.nodes j i n blank (λ q. omega arith) ∙ p.behind i l;
      }
    where
      by : (i : ℕ) → i < j + 1 → Dec (i ≡ j) → record_in (set x.nodes j n) i ≡ record_in y.nodes i
      by i l (yes q) =
          ap (record_in (set x.nodes j n)) q ∙ get_or-set_same x.nodes j n blank (omega (arith, p.whole)) ∙ e ∙ ap (record_in y.nodes) (sym q)
      by i l (no q) = get_or-set_other x.nodes j i n blank q ∙ p.put i (lt_of_le_of_ne (omega arith) q)

  -- All in use are put: with the count it is that tree.
  pub done : (j : ℕ) → Putting x y j → y.used ≤ j → (z : Tree) → z ≡ with_used x y.used → z ≡ y
  done j p h z e = e ∙ (λ i. record { nodes = same i; used = y.used })
    where
      at : (i : ℕ) → Dec (i < y.used) → record_in x.nodes i ≡ record_in y.nodes i
      at i (yes l) = p.put i (omega arith)
      at i (no l) = p.behind i (omega arith)

      same : x.nodes ≡ y.nodes
      same = ext_get_or blank x.nodes y.nodes p.whole (λ i l. at i (dec_lt i y.used))
