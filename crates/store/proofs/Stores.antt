-- A record's words, stored one after the other, give the tree with that record; and the count stored gives the tree with that count.
-- Rests on the laws of Lent.antt and the kit's laws of `set`.
use mathlib.Core.Path.{◌≡◌, refl, sym, ap, ◌∙◌}
use mathlib.Core.List.{List, [], ◌∷◌}
use Prim.Native.Nat.{ℕ, zero, suc, ◌+◌, ◌≤◌, ◌<◌}
use native.Mathlib.Nat.{add-zero, zero-add}
use native.Mathlib.Decide.{ℕ_discrete}
use native.Mathlib.Omega.{arith}
use lib.ListN.{length, get_or, set, length-set}
use lib.Seq.{get_or-set_same, get_or-set_other}
use Rattle.records.specs.Records.{tree_records, blank, record_in}
use Rattle.records.specs.declared.Node.{Node}
use Rattle.records.specs.Lent.{count_word, tree_words, first_word, node_at, tree_of}
use Rattle.store.specs.Lent.{with_record, with_used}
use Rattle.records.proofs.Lent.{others, fields, long, record_is, tree_is, same-record}

-- Numbers stored one after the other from word i + k on.
unfoldable pub stores : List ℕ → ℕ → ℕ → List ℕ → List ℕ
stores ws i k [] = ws
stores ws i k (x ∷ xs) = stores (set ws (i + k) x) i (suc k) xs

-- Every other word stays.
kept : (xs ws : List ℕ) (i k p : ℕ) → ((q : ℕ) → k ≤ q → q < k + length xs → p ≡ i + q → ⊥) → get_or (stores ws i k xs) p 0 ≡ get_or ws p 0
unfolding stores
kept [] ws i k p f = refl
kept (x ∷ xs) ws i k p f =
    kept xs (set ws (i + k) x) i (suc k) p (λ q l h. f q (omega arith) (omega arith)) ∙ get_or-set_other ws (i + k) p x 0 (f k (omega arith) (omega arith))

-- And the stored ones are there.
found : (xs ws : List ℕ) (i k : ℕ) → i + k + length xs ≤ length ws → (m : ℕ) → m < length xs → get_or (stores ws i k xs) (i + (k + m)) 0 ≡ get_or xs m 0
unfolding stores
found [] ws i k fits m h = absurd (omega arith)
found (x ∷ xs) ws i k fits zero h =
    kept xs (set ws (i + k) x) i (suc k) (i + (k + 0)) (λ q l r z. omega arith)
    ∙ ap (λ p. get_or (set ws (i + k) x) (i + p) 0) (add-zero k)
    ∙ get_or-set_same ws (i + k) x 0 (omega arith)
found (x ∷ xs) ws i k fits (suc m) h =
    ap (λ p. get_or (stores (set ws (i + k) x) i (suc k) xs) p 0) (omega arith)
    ∙ found xs (set ws (i + k) x) i (suc k) (omega (arith, length-set ws (i + k) x)) m (omega arith)

module _ (ws : List ℕ) (j : ℕ) (n : Node) (h : j < tree_records) (e : length ws ≡ tree_words) where
  -- The words with the record stored.
  us : List ℕ
  us = stores ws (first_word j) 0 (fields n)

  -- Record j is the one that was stored.
  there : node_at us j ≡ n
  unfolding us
  there =
      same-record us (fields n) j 0
      (λ q l. ap (λ p. get_or us (first_word j + p) 0) (sym (zero-add q)) ∙ found (fields n) ws (first_word j) 0 (omega arith) q l
      ∙ ap (λ p. get_or (fields n) p 0) (sym (zero-add q)))

  -- Every other record is as it was.
  elsewhere : (i : ℕ) → (i ≡ j → ⊥) → node_at us i ≡ node_at ws i
  unfolding us
  elsewhere i f = same-record us ws i i (λ q l. kept (fields n) ws (first_word j) 0 (first_word i + q) (λ p a b z. f (omega arith)))

  -- So the tree is the one with that record.
  stored : tree_of us ≡ with_record (tree_of ws) j n
  unfolding us tree_of
  stored =
      tree_is us (with_record (tree_of ws) j n) (length-set (tree_of ws).nodes j n ∙ long ws) (λ i l. by i l (ℕ_discrete i j))
      (kept (fields n) ws (first_word j) 0 count_word (λ q a b z. omega arith))
    where
      by : (i : ℕ) → i < tree_records → Dec (i ≡ j) → node_at us i ≡ record_in (set (tree_of ws).nodes j n) i
      by i l (yes z) =
          ap (node_at us) z ∙ there ∙ sym (get_or-set_same (tree_of ws).nodes j n blank (omega (arith, long ws)))
          ∙ ap (record_in (set (tree_of ws).nodes j n)) (sym z)
      by i l (no f) = elsewhere i f ∙ sym (record_is ws i l) ∙ sym (get_or-set_other (tree_of ws).nodes j i n blank f)

  -- The same of the stores as the code makes them, the first at the record's first word.
  pub written : tree_of (stores (set ws (first_word j) n.kind) (first_word j) 1 (others n)) ≡ with_record (tree_of ws) j n
  unfolding stores us
  written = ap (λ p. tree_of (stores (set ws p n.kind) (first_word j) 1 (others n))) (sym (add-zero (first_word j))) ∙ stored

-- The words with another count are the tree with that count.
pub counted : (ws : List ℕ) (n : ℕ) → length ws ≡ tree_words → tree_of (set ws count_word n) ≡ with_used (tree_of ws) n
counted ws n e =
    tree_is (set ws count_word n) (with_used (tree_of ws) n) (long ws)
    (λ i h. same-record (set ws count_word n) ws i i (λ q l. get_or-set_other ws count_word (first_word i + q) n 0 (λ z. omega arith)) ∙ sym (record_is ws i h))
    (get_or-set_same ws count_word n 0 (omega arith))
