-- The ways of a leaf: their numbers rise, they are the leaf's numbers, and they are those of ways of the table.
-- Rests on `rules`, Sets, and on Parts.antt.
use mathlib.Core.Path.{◌≡◌, refl, sym, ap, ap₂, ◌∙◌}
use mathlib.Core.List.Memᴰ
use mathlib.Core.Bool.{Bool, true, false, ◌&&◌, ◌||◌}
use mathlib.Core.List.{List, [], ◌∷◌, map}
use Prim.Native.Nat.{ℕ, suc, ◌+◌, ◌^◌, ◌≤◌, ◌<◌}
use native.Mathlib.Decide.{dec_lt}
use native.Mathlib.Omega.{arith}
use lib.ListN.{length, length-map}
use lib.Dec.{eqb, ltb}
use lib.Bits.{and_zero_r}
use borrow.Author.Tests.{eqb-true, eq-eqb, lt-ltb}
use Rattle.rules.specs.declared.Way.{Way}
use Rattle.rules.specs.Members.{In}
use Rattle.rules.specs.Table.{rows, absent_rows, ways, table}
use Rattle.rules.specs.Leaf.{select, has_number, without, dropped}
use Rattle.rules.proofs.Booleans.{and-true, and-false, or-first, or-second}
use Rattle.rules.proofs.Sets.{Rising, ways-rising, select-rising, select-none}
use Rattle.records.specs.Records.{low_word, high_word, in_words}
use Rattle.records.proofs.Words.{words-number, low_fits}
use Rattle.clauses.specs.declared.Clauses.{Clauses}
use Rattle.clauses.specs.declared.lost.Gone.{Gone}
use Rattle.clauses.specs.Numbers.{is_in}
use Rattle.clauses.specs.Leaves.{none_gone, gone_word, ways_of}
use Rattle.clauses.proofs.Pairs.{same_low, same_high}
use Rattle.clauses.proofs.Parts.{its-number, dropped-number}

-- A number from i on is i, or a later one.
here-or-later : (i j : ℕ) (b : Bool) → i ≤ j → (i < j → b ≡ true) → eqb i j || b ≡ true
here-or-later i j b l f = by (dec_lt i j)
  where
    by : Dec (i < j) → eqb i j || b ≡ true
    by (yes g) = or-second (eqb i j) b (f g)
    by (no g) = or-first (eqb i j) b (eq-eqb i j (omega arith))

-- A table's ways, numbered from i, have the numbers from i on.
rows-number : (i j : ℕ) (ps qs : List ℕ) → i ≤ j → j < i + length ps → has_number (rows i ps qs) j ≡ true
unfolding rows has_number
rows-number i j [] qs l h = absurd (omega arith)
rows-number i j (p ∷ ps) [] l h = here-or-later i j _ l (λ g. rows-number (suc i) j ps [] g (omega arith))
rows-number i j (p ∷ ps) (q ∷ qs) l h = here-or-later i j _ l (λ g. rows-number (suc i) j ps qs g (omega arith))

-- Selected ways have the numbers that pass.
select-number : (P : ℕ → Bool) (vs : List Way) (j : ℕ) → has_number (select P vs) j ≡ (has_number vs j && P j)
unfolding select has_number
select-number P [] j = refl
select-number P (v ∷ vs) j = by (P v.number) refl (eqb v.number j) refl (select-number P vs j)
  where
    by : (x : Bool) → P v.number ≡ x → (y : Bool) → eqb v.number j ≡ y → has_number (select P vs) j ≡ (has_number vs j && P j)
        → has_number (elim x as (λ b. List Way) [ true ↦ v ∷ select P vs | false ↦ select P vs ]) j ≡ ((y || has_number vs j) && P j)
    by true e true q ih = rw q (sym (ap P (sym (eqb-true v.number j q)) ∙ e))
    by true e false q ih = rw q ih
    by false e true q ih = let off : P j ≡ false = ap P (sym (eqb-true v.number j q)) ∙ e in rw off at ih ∙ and-false (has_number vs j) ∙ sym off
    by false e false q ih = ih

-- Dropping faults leaves ways in number order.
dropped-rising : (i m : ℕ) (vs : List Way) → Rising i vs → Rising i (map (dropped m) vs)
unfolding Rising
dropped-rising i m [] k = tt
dropped-rising i m (v ∷ vs) k = (k.0, dropped-rising (suc v.number) m vs k.1)

-- No more ways are selected than the table has.
select-few : (P : ℕ → Bool) (i : ℕ) (ps qs : List ℕ) → length qs ≡ length ps → length (select P (rows i ps qs)) ≤ length ps
unfolding select rows absent_rows
select-few P i [] [] e = omega arith
select-few P i [] (q ∷ qs) e = absurd (omega arith)
select-few P i (p ∷ ps) [] e = absurd (omega arith)
select-few P i (p ∷ ps) (q ∷ qs) e = by (P i) (select-few P (suc i) ps qs (omega arith))
  where
    us : List Way
    us = select P (rows (suc i) ps qs)

    by : (b : Bool) → length us ≤ length ps
        → length {A = Way} (elim b as (λ b. List Way) [ true ↦ record { number = i; present = p; absent = q } ∷ us | false ↦ us ]) ≤ suc (length ps)
    by true ih = omega arith
    by false ih = omega arith

-- A way of a table, numbered from j, has one of its numbers.
rows-below : (j : ℕ) (ps qs : List ℕ) → length qs ≡ length ps → (v : Way) → In v (rows j ps qs) → v.number < j + length ps
unfolding rows absent_rows
rows-below j [] [] e v x'' = elim x'' [ ]
rows-below j [] (q ∷ qs) e v p = absurd (omega arith)
rows-below j (p ∷ ps) [] e v i = absurd (omega arith)
rows-below j (p ∷ ps) (q ∷ qs) e v (Memᴰ.head i) = omega (arith, ap (λ (w : Way). w.number) i)
rows-below j (p ∷ ps) (q ∷ qs) e v (Memᴰ.tail i) = omega (arith, rows-below (suc j) ps qs (omega arith) v i)

-- A test that each way's number passes selects all.
select-all : (P : ℕ → Bool) (vs : List Way) → ((v : Way) → In v vs → P v.number ≡ true) → select P vs ≡ vs
unfolding select
select-all P [] h = refl
select-all P (v ∷ vs) h = rw (h v (Memᴰ.head refl), select) (ap (λ (us : List Way). v ∷ us) (select-all P vs (λ u i. h u (Memᴰ.tail i))))

-- With no fault to drop, ways are as they were.
dropped-none : (vs : List Way) → map (dropped 0) vs ≡ vs
dropped-none [] = refl
dropped-none (v ∷ vs) = ap₂ (λ (u : Way) (us : List Way). u ∷ us) same (dropped-none vs)
  where
    kept : (w : ℕ) → without 0 w ≡ w
    kept w = omega (arith, and_zero_r w)

    same : dropped 0 v ≡ v
    same = ap₂ (λ (p q : ℕ). record { number = v.number; present = p; absent = q }) (kept v.present) (kept v.absent)

module _ (c : Clauses) where
  -- The ways of a leaf are in number order.
  pub rising : Rising 0 (ways_of c)
  unfolding ways_of ways
  rising =
      dropped-rising 0 (gone_word c.gone) _
      (select-rising 0 (is_in c.numbers) _ (ways-rising (table [] c.rows.present.now c.rows.absent.now)))

  -- They have the leaf's numbers.
  pub numbers : (i : ℕ) → has_number (ways_of c) i ≡ is_in c.numbers i
  unfolding ways_of
  numbers i =
      dropped-number (gone_word c.gone) (select (is_in c.numbers) all) i ∙ select-number (is_in c.numbers) all i ∙ by (is_in c.numbers i) refl
    where
      all : List Way
      all = rows 0 c.rows.present.now c.rows.absent.now

      by : (b : Bool) → is_in c.numbers i ≡ b → (has_number all i && b) ≡ b
      by true e = and-true (has_number all i) ∙ rows-number 0 i c.rows.present.now c.rows.absent.now (omega arith) (omega (arith, c.inside i e))
      by false e = and-false (has_number all i)

  -- Without a number there is no way.
  pub no_way : ((i : ℕ) → is_in c.numbers i ≡ false) → ways_of c ≡ []
  unfolding ways_of
  no_way h = ap (map (dropped (gone_word c.gone))) (select-none (is_in c.numbers) h (rows 0 c.rows.present.now c.rows.absent.now))

  -- There are at most 128.
  pub few : length (ways_of c) ≤ 128
  unfolding ways_of
  few =
      omega (
        arith,
        length-map (select (is_in c.numbers) (rows 0 c.rows.present.now c.rows.absent.now)) (dropped (gone_word c.gone)),
        select-few (is_in c.numbers) 0 c.rows.present.now c.rows.absent.now c.rows.paired,
        c.rows.short,
      )

  -- A record tells them by the leaf's two words.
  same-words : (i : ℕ) → in_words (low_word (ways_of c)) (high_word (ways_of c)) i ≡ is_in c.numbers i
  same-words i = words-number (ways_of c) i ∙ numbers i

  pub low_back : c.numbers.low < 2 ^ 64 → low_word (ways_of c) ≡ c.numbers.low
  low_back h =
      same_low (low_word (ways_of c)) (high_word (ways_of c)) c.numbers.low c.numbers.high same-words (low_fits (ways_of c)) h

  pub high_back : high_word (ways_of c) ≡ c.numbers.high
  high_back = same_high (low_word (ways_of c)) (high_word (ways_of c)) c.numbers.low c.numbers.high same-words

  module _ (v : Way) (p : In v (ways_of c)) where
    -- A way's number is one of the leaf's.
    pub number_in : is_in c.numbers v.number ≡ true
    number_in = sym (numbers v.number) ∙ its-number (ways_of c) v p

    -- So it is below 128.
    pub number_small : v.number < 128
    number_small = omega (arith, c.inside v.number number_in, c.rows.short)

-- ALL WAYS OF A TABLE: a leaf with all its numbers, where no fault is gone.
pub all_ways : (c : Clauses) (ps qs : List ℕ) → c.rows.present.now ≡ ps → c.rows.absent.now ≡ qs → length qs ≡ length ps → c.gone ≡ none_gone
    → ((i : ℕ) → is_in c.numbers i ≡ ltb i (length ps)) → ways_of c ≡ rows 0 ps qs
unfolding ways_of
all_ways c ps qs p a e g h =
    ap₂ (λ (x : Gone) (vs : List Way). map (dropped (gone_word x)) (select (is_in c.numbers) vs)) g (ap₂ (rows 0) p a)
    ∙ dropped-none (select (is_in c.numbers) (rows 0 ps qs))
    ∙ select-all (is_in c.numbers) (rows 0 ps qs) (λ v i. h v.number ∙ lt-ltb v.number (length ps) (omega (arith, rows-below 0 ps qs e v i)))
