-- The first way of a leaf: the way of the table with the first of its numbers, and the ways with the other numbers after it.
-- Rests on `chances`, First, for the first number, on `rules`, Sets, and on Parts.antt.
use mathlib.Core.Path.{◌≡◌, sym, ap, ap₂, ◌∙◌}
use mathlib.Core.Bool.{Bool}
use mathlib.Core.List.Memᴰ
use mathlib.Core.List.{List, [], ◌∷◌, map}
use Prim.Native.Nat.{ℕ, zero, suc, ◌+◌, ◌<◌}
use native.Mathlib.Omega.{arith}
use lib.ListN.{length, get_or}
use Rattle.rules.specs.declared.Way.{Way}
use Rattle.rules.specs.Members.{In}
use Rattle.rules.specs.Table.{rows, absent_rows, ways, table}
use Rattle.rules.specs.Leaf.{select, dropped}
use Rattle.rules.proofs.Sets.{Rising, ways-rising, select-same}
use Rattle.chances.proofs.First.{First, is_one, none_before, same_beyond}
use Rattle.clauses.specs.declared.Clauses.{Clauses}
use Rattle.clauses.specs.declared.lost.Gone.{Gone}
use Rattle.clauses.specs.Numbers.{is_in}
use Rattle.clauses.specs.Leaves.{gone_word, row, way_at, ways_of}
use Rattle.clauses.proofs.Parts.{later}

-- The way of a table with a number is one of its ways.
row_in : (j i k : ℕ) (ps qs : List ℕ) → length qs ≡ length ps → i < length ps → k ≡ j + i
    → In (record { number = k; present = get_or ps i 0; absent = get_or qs i 0 }) (rows j ps qs)
unfolding rows absent_rows
row_in j i k [] qs l h e = absurd (omega arith)
row_in j i k (p ∷ ps) [] l h e = absurd (omega arith)
row_in j zero k (p ∷ ps) (q ∷ qs) l h e = let z : k ≡ j = omega arith in Memᴰ.head (ap (λ (n : ℕ). record { number = n; present = p; absent = q }) z)
row_in j (suc i) k (p ∷ ps) (q ∷ qs) l h e = Memᴰ.tail (row_in (suc j) i k ps qs (omega arith) (omega arith) (omega arith))

-- Of ways whose numbers rise the one with the first number is the first that is selected.
select_first : {P Q : ℕ → Bool} {n : ℕ} → First P Q n → (i : ℕ) (vs : List Way) → Rising i vs → (v : Way) → In v vs → v.number ≡ n
    → select P vs ≡ v ∷ select Q vs
unfolding select Rising
select_first f i [] k v x'' e = elim x'' [ ]
select_first {P} {Q} {n} f i (u ∷ vs) k v (Memᴰ.head p) e =
    let same : u.number ≡ n = sym (ap (λ (w : Way). w.number) p) ∙ e in
    rw (select, ap P same ∙ is_one f, ap Q same ∙ f.gone)
    (ap₂ (λ (x : Way) (y : List Way). x ∷ y) (sym p) (select-same (suc u.number) vs P Q k.1 (λ j l. same_beyond f j (omega (arith, l, same)))))
select_first {P} {Q} {n} f i (u ∷ vs) k v (Memᴰ.tail p) e =
    let l : u.number < n = omega (arith, later (suc u.number) vs v k.1 p, e) in
    rw (select, f.before u.number l, none_before f u.number l) (select_first f (suc u.number) vs k.1 v p e)

module _ (c r : Clauses) (p : r.rows.present.now ≡ c.rows.present.now) (a : r.rows.absent.now ≡ c.rows.absent.now) (g : r.gone ≡ c.gone) where
  -- THE FIRST WAY OF A LEAF, where r has the numbers but the first.
  pub taken : (n : ℕ) → First (is_in c.numbers) (is_in r.numbers) n → ways_of c ≡ way_at c n ∷ ways_of r
  unfolding ways_of ways
  taken n f =
      ap (map (dropped (gone_word c.gone)))
      (select_first f 0 (rows 0 c.rows.present.now c.rows.absent.now) (ways-rising (table [] c.rows.present.now c.rows.absent.now)) (row c.rows.present.now c.rows.absent.now n)
      (row_in 0 n n c.rows.present.now c.rows.absent.now c.rows.paired (c.inside n (is_one f)) (omega arith)) (λ i. n))
      ∙ ap₂ (λ (x : Gone) (vs : List Way). way_at c n ∷ map (dropped (gone_word x)) (select (is_in r.numbers) vs)) (sym g) (sym (ap₂ (rows 0) p a))
