-- EQUAL TREES ARE EQUAL WORDS: a promise on the tree of lent words says what each of the words is.
-- Rests on the laws of Lent.antt and the kit's lists.
use mathlib.Core.Path.{◌≡◌, sym, ap, ◌∙◌}
use mathlib.Core.List.{List, [], ◌∷◌}
use Prim.Native.Nat.{ℕ, zero, suc, ◌+◌, ◌-◌, ◌/◌, ◌%◌, ◌<◌}
use native.Mathlib.Nat.{add-zero}
use native.Mathlib.Decide.{dec_lt}
use native.Mathlib.Omega.{arith}
use lib.ListN.{length, get_or}
use lib.Seq.{ext_get_or}
use Rattle.records.specs.Records.{tree_records, record_fields, record_in}
use Rattle.records.specs.declared.Node.{Node}
use Rattle.records.specs.declared.Tree.{Tree}
use Rattle.records.specs.Lent.{count_word, tree_words, first_word, node_at, tree_of}
use Rattle.records.proofs.Lent.{fields, record_is}

-- ---- a record's words

-- n words from word i + k on.
unfoldable run : List ℕ → ℕ → ℕ → ℕ → List ℕ
run ws i k zero = []
run ws i k (suc n) = get_or ws (i + k) 0 ∷ run ws i (suc k) n

-- Number q of them is word i + k + q.
run_at : (ws : List ℕ) (i k n q : ℕ) → q < n → get_or (run ws i k n) q 0 ≡ get_or ws (i + (k + q)) 0
unfolding run
run_at ws i k zero q h = absurd (omega arith)
run_at ws i k (suc n) zero h = ap (λ p. get_or ws (i + p) 0) (sym (add-zero k))
run_at ws i k (suc n) (suc q) h = run_at ws i (suc k) n q (omega arith) ∙ ap (λ p. get_or ws p 0) (omega arith)

-- The fields of record j are its words, from its first on.
field_at : (ws : List ℕ) (j q : ℕ) → q < record_fields → get_or (fields (node_at ws j)) q 0 ≡ get_or ws (first_word j + q) 0
unfolding run
field_at ws j q h =
    ap (λ p. get_or (get_or ws p 0 ∷ run ws (first_word j) 1 (record_fields - 1)) q 0) (sym (add-zero (first_word j)))
    ∙ run_at ws (first_word j) 0 record_fields q h
    ∙ ap (λ p. get_or ws (first_word j + p) 0) (omega arith)

-- ---- the words of two trees

module _ (us ws : List ℕ) where
  -- Trees with equal records have equal words but for the count.
  pub same_word : (tree_of us).nodes ≡ (tree_of ws).nodes → (k : ℕ) → k < count_word → get_or us k 0 ≡ get_or ws k 0
  same_word e k h =
      let j = k / record_fields in
      let q = k % record_fields in
      let l : j < tree_records = omega arith in
      let r : q < record_fields = omega arith in
      let n : node_at us j ≡ node_at ws j = sym (record_is us j l) ∙ ap (λ (xs : List Node). record_in xs j) e ∙ record_is ws j l in
      let f : get_or us (first_word j + q) 0 ≡ get_or ws (first_word j + q) 0 =
      sym (field_at us j q r) ∙ ap (λ (x : Node). get_or (fields x) q 0) n ∙ field_at ws j q r in
      let w : first_word j + q ≡ k = omega arith in
      ap (λ (p : ℕ). get_or us p 0) (sym w) ∙ f ∙ ap (λ (p : ℕ). get_or ws p 0) w

  -- The count is the last word.
  same_count : tree_of us ≡ tree_of ws → get_or us count_word 0 ≡ get_or ws count_word 0
  unfolding tree_of
  same_count e = ap (λ (x : Tree). x.used) e

  -- So equal trees are equal words.
  pub same_words : length us ≡ tree_words → length ws ≡ tree_words → tree_of us ≡ tree_of ws → us ≡ ws
  same_words m n e = ext_get_or 0 us ws (m ∙ sym n) (λ k h. at k (dec_lt k count_word) (omega (arith, m)))
    where
      at : (k : ℕ) → Dec (k < count_word) → k < tree_words → get_or us k 0 ≡ get_or ws k 0
      at k (yes l) h = same_word (ap (λ (x : Tree). x.nodes) e) k l
      at k (no l) h = let z : count_word ≡ k = omega arith in ap (λ (p : ℕ). get_or us p 0) (sym z) ∙ same_count e ∙ ap (λ (p : ℕ). get_or ws p 0) z
