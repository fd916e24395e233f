-- `refine` meets its contract: refused by the table, by 16 or by the leaf, or made.
-- Rests on Refuses.antt, ByHand.antt, One.antt, and on the contracts of the functions called.
use Rattle.std.proofs.Common.{rules, arith, ◌≡◌, sym, ap, ◌∙◌, subst, List, ℕ, ◌+◌, Result, Ok, Err, Bool, true, false}
use Rattle.rules.specs.Table.{Table}
use Rattle.rules.specs.Refusals.{Accepted}
use Rattle.rules.specs.declared.Kind.{Kind}
use Rattle.rules.specs.declared.Figures.{Figures}
use Rattle.rules.specs.declared.Refusal.{Refusal}
use Rattle.checks.specs.Tables.{table_of}
use Rattle.records.specs.Records.{bad, is_good, Good}
use Rattle.records.specs.Growing.{grown_at}
use Rattle.records.specs.declared.Tree.{Tree}
use Rattle.records.proofs.Live.{lean-at}
use Rattle.records.proofs.SafeTrees.{good_safe}
use Rattle.store.specs.Lent.{Behind}
use Rattle.find.specs.Finds.{word_table, told, Refinable, Tells}
use Rattle.find.proofs.ByHand.{tells_table}
use Rattle.node.proofs.Words.{same_words}
use Rattle.dtree.specs.Promises.{root_figures, Refining}
use Rattle.dtree.proofs.Accepting.{table_refused}
use Rattle.dtree.proofs.Refuses.{hand-table, not-passed, passed-on, hand-bad, not-bad, good, may-room}
use Rattle.dtree.proofs.ByHand.{by_leaf, made}
use Rattle.dtree.proofs.One.{refining, refining-refused}
use Rattle.dtree.proofs.Back.{hand-behind}
use Rattle.dtree.proofs.refining.refine.Goals as goal

pub returns-in_err-table : goal.returns-in_err-table
returns-in_err-table g c =
    let r = c.in_err-table.field-0.0 in
    record {
      promise = refining-refused _ _ _ _ _ r (search rules)
          (hand-table _ (g.T.Lent.tree c.args.tree.now) _ _ r (table_refused _ _ _ _ c.accept.ensures r (search rules)));
    }

-- What is promised of the tree that was made again is promised of the one that was lent, and of the table that the lists make.
of-lent : (t u : Table) → t ≡ u → (m x : Tree) → m ≡ x → (bs : List ℕ) (k : Kind) (y z : Tree) → z ≡ y → (a : Result Figures Refusal)
    → Refining t m bs k y a → Refining u x bs k z a
of-lent t u s m x e bs k y z f a p = rw (sym s, sym e, f) p

-- And of the figures that were read.
of-figures : (t : Table) (m : Tree) (bs : List ℕ) (k : Kind) (y : Tree) (f : Figures) → f ≡ root_figures y 1 → Refining t m bs k y (Ok (root_figures y 1))
    → Refining t m bs k y (Ok f)
of-figures t m bs k y f e p = rw e p

-- The table that was accepted is the one that the lists make.
pub returns-in_err-test : goal.returns-in_err-test
returns-in_err-test g c =
    let r = c.in_err-test.field-0.0 in
    let x = g.T.Lent.tree c.args.tree.now in
    let no = not-passed _ _ c.test.ensures r (search rules) in
    let bad = hand-bad _ x _ c.rebuild-good.ensures.answer c.in_ok-table.table.accepted c.args.place.now c.args.kind no.0 in
    record {
      promise = subst (λ t. Refining t x c.args.place.now c.args.kind x c.from_residual-in_err-test.result) c.in_ok-table.ensures.same
          (refining-refused (table_of c.in_ok-table.table) x _ _ _ r (search rules) (bad ∙ ap (λ s. Err s) (sym no.1)));
    }

-- The tree that was made again is the one that was lent, so that it is good.
module _ (t : Table) (m x : Tree) (b : Bool) (answer : b ≡ is_good t x) (same : b ≡ true → m ≡ x) (passed : b ≡ true) where
  made-good : Good t m
  made-good = subst (Good t) (sym (same passed)) (good t x b answer passed)

  made-not-bad : bad t m ≡ false
  made-not-bad = ap (bad t) (same passed) ∙ not-bad t x b answer passed

pub leaf_at-requires : goal.leaf_at-requires
leaf_at-requires g c =
    let t = table_of c.in_ok-table.table in
    good_safe t c.in_ok-table.table.accepted _
    (made-good t _ (g.T.Lent.tree c.args.tree.now) _ c.rebuild-good.ensures.answer c.rebuild-good.ensures.made (passed-on _ _ c.test.ensures tt (search rules)))

-- What `leaf_at` answered: the refusal, or a leaf that can be refined so. It was lent the words ps and qs, which are the table's.
module _ (t : Table) (ps qs : List ℕ) (p : ps ≡ t.present) (q : qs ≡ t.absent) (x : Tree) (bs : List ℕ) (k : Kind) (w : Result ℕ Refusal)
    (tells : Tells (word_table ps qs) x bs k w) where
  of-table : Tells t x bs k w
  of-table = let told-words : Tells (word_table t.present t.absent) x bs k w = rw (p, q) at tells in tells_table t x bs k w told-words

  leaf-refused : (r : Refusal) → w ≡ Err r → told t x bs k ≡ Err r
  unfolding Tells
  leaf-refused r e = let h : Tells t x bs k w = of-table in rw e at h

  leaf-found : (j : ℕ) → w ≡ Ok j → Refinable t x bs k j
  unfolding Tells
  leaf-found j e = let h : Tells t x bs k w = of-table in rw e at h

pub returns-in_err-leaf : goal.returns-in_err-leaf
returns-in_err-leaf g c =
    let r = c.in_err-leaf.field-0.0 in
    let t = table_of c.in_ok-table.table in
    let m = c.rebuild-good.new.again in
    let x = g.T.Lent.tree c.args.tree.now in
    let ok = c.in_ok-table.table.accepted in
    let passed = passed-on _ _ c.test.ensures tt (search rules) in
    let is-good = made-good t m x _ c.rebuild-good.ensures.answer c.rebuild-good.ensures.made passed in
    let is-not-bad = made-not-bad t m x _ c.rebuild-good.ensures.answer c.rebuild-good.ensures.made passed in
    let same = c.rebuild-good.ensures.made passed in
    let told-so = leaf-refused t _ _ c.rows-rows.ensures.present c.rows-rows.ensures.absent _ _ _ _ c.leaf_at.ensures r (search rules) in
    let of-made = refining-refused t m _ _ _ r (search rules) (by_leaf _ ok m is-good is-not-bad _ _ r told-so) in
    record { promise = of-lent _ _ c.in_ok-table.ensures.same _ _ same _ _ _ _ (sym same) _ of-made }

-- The leaf's record is one of the tree's.
pub bounds-made-leaf : goal.bounds-made-leaf
bounds-made-leaf g c =
    let t = table_of c.in_ok-table.table in
    (leaf-found t _ _ c.rows-rows.ensures.present c.rows-rows.ensures.absent _ _ _ _ c.leaf_at.ensures c.in_ok-leaf.leaf (search rules)).inside

pub offset_bounds-made-leaf : goal.offset_bounds-made-leaf
offset_bounds-made-leaf g c =
    let t = table_of c.in_ok-table.table in
    let r = leaf-found t _ _ c.rows-rows.ensures.present c.rows-rows.ensures.absent _ _ _ _ c.leaf_at.ensures c.in_ok-leaf.leaf (search rules) in
    omega (arith, r.inside)

pub grow-requires : goal.grow-requires
grow-requires g c =
    let t = table_of c.in_ok-table.table in
    let m = c.rebuild-good.new.again in
    let ok = c.in_ok-table.table.accepted in
    let passed = passed-on _ _ c.test.ensures tt (search rules) in
    let is-good = made-good t m (g.T.Lent.tree c.args.tree.now) _ c.rebuild-good.ensures.answer c.rebuild-good.ensures.made passed in
    let r = leaf-found t _ _ c.rows-rows.ensures.present c.rows-rows.ensures.absent _ _ _ _ c.leaf_at.ensures c.in_ok-leaf.leaf (search rules) in
    record {
      leaf_ways = same_words _ _ _ _ c.rows-rows.ensures.present c.rows-rows.ensures.absent _ _ c.ways_of-c.ensures;
      fault_fits = r.fault;
      safe = good_safe t ok m is-good;
      inside = r.inside;
      room = may-room t m is-good _ _ r.may;
      lean = lean-at t ok m is-good _;
    }

-- The refinement is made, by the table that was accepted.
made_so : (t : Table) → Accepted t → (x : Tree) → Good t x → bad t x ≡ false → (bs : List ℕ) (k : Kind) (j : ℕ) → Refinable t x bs k j → (y : Tree)
    → y.nodes ≡ grown_at t x.nodes x.used j k → y.used ≡ x.used + 2 → Refining t x bs k y (Ok (root_figures y 1))
made_so t ok x g b bs k j r y grown more = refining t x bs k y _ (made t ok x g b bs k j r y grown more)

-- What is put back differs from what was lent in the records in use alone.
pub put_back-requires : goal.put_back-requires
put_back-requires g c =
    let t = table_of c.in_ok-table.table in
    let m = c.rebuild-good.new.again in
    let x = g.T.Lent.tree c.args.tree.now in
    let passed = passed-on _ _ c.test.ensures tt (search rules) in
    let is-good = made-good t m x _ c.rebuild-good.ensures.answer c.rebuild-good.ensures.made passed in
    let is-not-bad = made-not-bad t m x _ c.rebuild-good.ensures.answer c.rebuild-good.ensures.made passed in
    let r = leaf-found t _ _ c.rows-rows.ensures.present c.rows-rows.ensures.absent _ _ _ _ c.leaf_at.ensures c.in_ok-leaf.leaf (search rules) in
    let one = made_so t c.in_ok-table.table.accepted m is-good is-not-bad _ _ _ r _ c.grow.ensures.grown c.grow.ensures.two_more in
    subst (λ z. Behind z c.grow.new.tree) (c.rebuild-good.ensures.made passed) (hand-behind t m is-good _ _ _ _ one)

pub returns : goal.returns
returns g c =
    let t = table_of c.in_ok-table.table in
    let m = c.rebuild-good.new.again in
    let x = g.T.Lent.tree c.args.tree.now in
    let passed = passed-on _ _ c.test.ensures tt (search rules) in
    let is-good = made-good t m x _ c.rebuild-good.ensures.answer c.rebuild-good.ensures.made passed in
    let is-not-bad = made-not-bad t m x _ c.rebuild-good.ensures.answer c.rebuild-good.ensures.made passed in
    let r = leaf-found t _ _ c.rows-rows.ensures.present c.rows-rows.ensures.absent _ _ _ _ c.leaf_at.ensures c.in_ok-leaf.leaf (search rules) in
    let one = made_so t c.in_ok-table.table.accepted m is-good is-not-bad _ _ _ r _ c.grow.ensures.grown c.grow.ensures.two_more in
    record {
      promise = of-lent _ _ c.in_ok-table.ensures.same _ _ (c.rebuild-good.ensures.made passed) _ _ _ _ c.put_back.ensures _
          (of-figures _ _ _ _ _ _ c.figures.ensures one);
    }
