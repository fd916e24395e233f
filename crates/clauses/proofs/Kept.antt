-- Which numbers a part of a leaf has, for the proofs of callers: those of the leaf whose ways pass the test.
-- Rests on Leaf.antt and Parts.antt.
use mathlib.Core.Path.{◌≡◌, refl, sym, ap, ◌∙◌}
use mathlib.Core.Bool.{Bool, true, false, not, ◌&&◌, true≢false}
use mathlib.Core.List.Memᴰ
use mathlib.Core.List.{List, [], ◌∷◌, map}
use Prim.Native.Nat.{ℕ, suc, ◌+◌}
use native.Mathlib.Omega.{arith}
use lib.Bits.{bit_or}
use lib.ListN.{length, get_or}
use Rattle.rules.specs.declared.Way.{Way}
use Rattle.rules.specs.Members.{In}
use Rattle.rules.specs.Table.{rows, absent_rows}
use Rattle.rules.specs.Leaf.{select, sift, has_number, dropped, contradicted, remaining}
use Rattle.clauses.specs.declared.Clauses.{Clauses}
use Rattle.clauses.specs.Numbers.{is_in}
use Rattle.clauses.specs.Leaves.{gone_word, fix_more, row, way_at, ways_of, Becomes, Narrows}
use Rattle.clauses.proofs.Leaf.{rising, numbers}
use Rattle.clauses.proofs.Parts.{numbered, part-in, part-number, remaining-is, dropped-number}

-- A way of ways that dropped faults is one of them that dropped them.
from-dropped : (m : ℕ) (vs : List Way) (v : Way) → In v (map (dropped m) vs) → (u : Way) × In u vs × (v ≡ dropped m u)
from-dropped m [] v x'' = elim x'' [ ]
from-dropped m (u ∷ vs) v (Memᴰ.head p) = (u, Memᴰ.head refl, p)
from-dropped m (u ∷ vs) v (Memᴰ.tail p) = let t = from-dropped m vs v p in (t.0, Memᴰ.tail t.1, t.2)

-- A selected way is one of those that it was selected from.
from-select : (P : ℕ → Bool) (vs : List Way) (v : Way) → In v (select P vs) → In v vs
unfolding select
from-select P [] v x'' = elim x'' [ ]
from-select P (u ∷ vs) v p = by (P u.number) (from-select P vs v) p
  where
    by : (b : Bool) → (In v (select P vs) → In v vs) → In v (elim b as (λ b. List Way) [ true ↦ u ∷ select P vs | false ↦ select P vs ]) → In v (u ∷ vs)
    by true ih (Memᴰ.head q) = Memᴰ.head q
    by true ih (Memᴰ.tail q) = Memᴰ.tail (ih q)
    by false ih q = Memᴰ.tail (ih q)

-- A way of a table, numbered from j, has the words at its place.
at-place : (j : ℕ) (ps qs : List ℕ) → length qs ≡ length ps → (v : Way) → In v (rows j ps qs)
    → (i : ℕ) × (v ≡ record { number = j + i; present = get_or ps i 0; absent = get_or qs i 0 })
unfolding rows absent_rows
at-place j [] [] e v x'' = elim x'' [ ]
at-place j [] (q ∷ qs) e v p = absurd (omega arith)
at-place j (p ∷ ps) [] e v i = absurd (omega arith)
at-place j (p ∷ ps) (q ∷ qs) e v (Memᴰ.head h) =
    let z : j ≡ j + 0 = omega arith in (0, h ∙ ap (λ (n : ℕ). record { number = n; present = p; absent = q }) z)
at-place j (p ∷ ps) (q ∷ qs) e v (Memᴰ.tail h) =
    let t = at-place (suc j) ps qs (omega arith) v h in
    let z : suc j + t.0 ≡ j + suc t.0 = omega arith in
    (suc t.0, t.1 ∙ ap (λ (n : ℕ). record { number = n; present = get_or ps t.0 0; absent = get_or qs t.0 0 }) z)

-- A WAY OF A LEAF is the table's way with its number, without the faults that are gone.
pub way_is : (c : Clauses) (v : Way) → In v (ways_of c) → v ≡ way_at c v.number
unfolding ways_of
way_is c v p =
    let d = from-dropped (gone_word c.gone) _ v p in
    let t = at-place 0 c.rows.present.now c.rows.absent.now c.rows.paired d.0 (from-select (is_in c.numbers) _ d.0 d.1) in
    let n : t.0 ≡ v.number = omega (arith, ap (λ (w : Way). w.number) d.2, ap (λ (w : Way). w.number) t.1) in
    let z : 0 + t.0 ≡ t.0 = omega arith in
    let first = ap (λ (k : ℕ). record { number = k; present = get_or c.rows.present.now t.0 0; absent = get_or c.rows.absent.now t.0 0 }) z in
    d.2 ∙ ap (dropped (gone_word c.gone)) (t.1 ∙ first ∙ ap (row c.rows.present.now c.rows.absent.now) n)

-- Of a leaf's ways those that pass a test have the numbers of ways that do.
passing_numbers : (c : Clauses) (f : Way → Bool) (i : ℕ) → has_number (sift f (ways_of c)) i ≡ (is_in c.numbers i && f (way_at c i))
passing_numbers c f i = by (is_in c.numbers i) refl
  where
    none : (b : Bool) → has_number (sift f (ways_of c)) i ≡ b → is_in c.numbers i ≡ false → b ≡ false
    none true e n = absurd (true≢false (sym (part-in f (ways_of c) i e) ∙ numbers c i ∙ n))
    none false e n = refl

    by : (b : Bool) → is_in c.numbers i ≡ b → has_number (sift f (ways_of c)) i ≡ (b && f (way_at c i))
    by true e =
        let n = numbered (ways_of c) i (numbers c i ∙ e) in
        ap (has_number (sift f (ways_of c))) (sym n.2) ∙ part-number 0 (ways_of c) (rising c) f n.0 n.1
        ∙ ap f (way_is c n.0 n.1 ∙ ap (way_at c) n.2)
    by false e = none (has_number (sift f (ways_of c)) i) refl e

-- THE NUMBERS OF A PART are those of the leaf whose ways pass the test.
pub kept_numbers : (c r : Clauses) (f : Way → Bool) → Narrows c (sift f (ways_of c)) r
    → (i : ℕ) → is_in r.numbers i ≡ (is_in c.numbers i && f (way_at c i))
kept_numbers c r f h i = sym (numbers r i) ∙ ap (λ (vs : List Way). has_number vs i) h.ways_are ∙ passing_numbers c f i

-- THE NUMBERS OF WHAT REMAINS with more faults fixed are those of the ways that they do not contradict.
pub fixed_numbers : (c r : Clauses) (p q : ℕ) → Becomes c (fix_more c.gone p q) (remaining p q (ways_of c)) r
    → (i : ℕ) → is_in r.numbers i ≡ (is_in c.numbers i && not (contradicted p q (way_at c i)))
fixed_numbers c r p q h i =
    let f : Way → Bool = λ v. not (contradicted p q v) in
    sym (numbers r i) ∙ ap (λ (vs : List Way). has_number vs i) (h.ways_are ∙ remaining-is p q (ways_of c))
    ∙ dropped-number (bit_or p q) (sift f (ways_of c)) i ∙ passing_numbers c f i
