-- What becomes of a leaf's ways: with fewer numbers they are a part of them, with more faults gone each of them lost these.
-- Rests on Leaf.antt and Parts.antt, and on `rules`, Remaining, for faults dropped after others.
use mathlib.Core.Path.{◌≡◌, refl, sym, ap, ap₂, ◌∙◌}
use mathlib.Core.Bool.{Bool, true, false, not, ◌&&◌, ◌||◌}
use mathlib.Core.List.{List, [], ◌∷◌, map}
use Prim.Native.Nat.{ℕ}
use lib.Bits.{bit_or}
use Rattle.rules.specs.declared.Way.{Way}
use Rattle.rules.specs.Table.{bit, rows}
use Rattle.rules.specs.Leaf.{select, contradicted, dropped, remaining, drop_all, sift}
use Rattle.rules.proofs.Booleans.{or-second}
use Rattle.rules.proofs.Bits.{bit-or, bits-ext, or_assoc}
use Rattle.rules.proofs.Remaining.{dropped-twice}
use Rattle.clauses.specs.declared.Clauses.{Clauses}
use Rattle.clauses.specs.declared.lost.Gone.{Gone}
use Rattle.clauses.specs.declared.sets.Numbers.{Numbers}
use Rattle.clauses.specs.Numbers.{is_in}
use Rattle.clauses.specs.Leaves.{gone_word, fix_more, out_more, ways_of, Becomes, Narrows}
use Rattle.clauses.proofs.Parts.{remaining-is, drop-is}

-- ---- fewer numbers

-- Of selected ways those whose numbers pass another test too are a part, by their numbers.
select-less : (K C P : ℕ → Bool) (m : ℕ) (vs : List Way) → ((i : ℕ) → K i ≡ (C i && P i))
    → map (dropped m) (select K vs) ≡ sift (λ v. P v.number) (map (dropped m) (select C vs))
unfolding select sift
select-less K C P m [] h = refl
select-less K C P m (v ∷ vs) h = by (K v.number) (C v.number) (P v.number) (λ us. refl) (h v.number) (select-less K C P m vs h)
  where
    ks : List Way
    ks = select K vs

    cs : List Way
    cs = select C vs

    g : Way → Bool
    g u = P u.number

    by : (k c p : Bool) → ((us : List Way) → sift g (dropped m v ∷ us) ≡ elim p as (λ b. List Way) [ true ↦ dropped m v ∷ sift g us | false ↦ sift g us ])
        → k ≡ (c && p) → map (dropped m) ks ≡ sift g (map (dropped m) cs)
        → map (dropped m) (elim k as (λ b. List Way) [ true ↦ v ∷ ks | false ↦ ks ])
        ≡ sift g (map (dropped m) (elim c as (λ b. List Way) [ true ↦ v ∷ cs | false ↦ cs ]))
    by k true true q e ih = rw e (ap (λ (us : List Way). dropped m v ∷ us) ih ∙ sym (q (map (dropped m) cs)))
    by k true false q e ih = rw e (ih ∙ sym (q (map (dropped m) cs)))
    by k false p q e ih = rw e ih

module _ (c r : Clauses) (p : r.rows.present.now ≡ c.rows.present.now) (a : r.rows.absent.now ≡ c.rows.absent.now) where
  -- Two leaves over one table.
  rows-same : rows 0 r.rows.present.now r.rows.absent.now ≡ rows 0 c.rows.present.now c.rows.absent.now
  rows-same = ap₂ (rows 0) p a

  -- FEWER NUMBERS: those of a leaf that pass a test.
  pub narrowed : r.gone ≡ c.gone → (P : ℕ → Bool) → ((i : ℕ) → is_in r.numbers i ≡ (is_in c.numbers i && P i))
      → Narrows c (sift (λ v. P v.number) (ways_of c)) r
  unfolding ways_of
  narrowed g P h =
      record {
        present_is = p;
        absent_is = a;
        gone_is = g;
        ways_are = ap₂ (λ (x : Gone) (vs : List Way). map (dropped (gone_word x)) (select (is_in r.numbers) vs)) g rows-same
            ∙ select-less (is_in r.numbers) (is_in c.numbers) P (gone_word c.gone) (rows 0 c.rows.present.now c.rows.absent.now) h;
      }

  -- MORE FAULTS GONE: each way lost them.
  pub thinned : r.numbers ≡ c.numbers → (m : ℕ) → ((v : Way) → dropped m (dropped (gone_word c.gone) v) ≡ dropped (gone_word r.gone) v)
      → ways_of r ≡ map (dropped m) (ways_of c)
  unfolding ways_of
  thinned n m more =
      ap₂ (λ (k : Numbers) (vs : List Way). map (dropped (gone_word r.gone)) (select (is_in k) vs)) n rows-same
      ∙ each (select (is_in c.numbers) (rows 0 c.rows.present.now c.rows.absent.now))
    where
      each : (vs : List Way) → map (dropped (gone_word r.gone)) vs ≡ map (dropped m) (map (dropped (gone_word c.gone)) vs)
      each [] = refl
      each (v ∷ vs) = ap₂ (λ (x : Way) (y : List Way). x ∷ y) (sym (more v)) (each vs)

-- ---- more faults gone

-- Five words joined, those of one sense together.
regroup : (P A O p q : ℕ) → bit_or (bit_or (bit_or P A) O) (bit_or p q) ≡ bit_or (bit_or (bit_or P p) (bit_or A q)) O
regroup P A O p q = bits-ext _ _ (λ i. simp (bit-or) (swap (bit i P) (bit i A) (bit i O) (bit i p) (bit i q)))
  where
    swap : (P A O p q : Bool) → ((P || A) || O) || (p || q) ≡ ((P || p) || (A || q)) || O
    swap true A O p q = refl
    swap false true O true q = refl
    swap false true O false q = refl
    swap false false O true q = or-second O true refl
    swap false false true false true = refl
    swap false false true false false = refl
    swap false false false false true = refl
    swap false false false false false = refl

-- Faults fixed besides those of the leaf are dropped with them.
pub fixed_more : (g : Gone) (p q : ℕ) (v : Way) → dropped (bit_or p q) (dropped (gone_word g) v) ≡ dropped (gone_word (fix_more g p q)) v
fixed_more g p q v = dropped-twice (gone_word g) (bit_or p q) v ∙ ap (λ (m : ℕ). dropped m v) (regroup g.present g.absent g.out p q)

-- Faults left out besides those that are gone are dropped with them.
left_more : (g : Gone) (m : ℕ) (v : Way) → dropped m (dropped (gone_word g) v) ≡ dropped (gone_word (out_more g m)) v
left_more g m v = dropped-twice (gone_word g) m v ∙ ap (λ (k : ℕ). dropped k v) (or_assoc (bit_or g.present g.absent) g.out m)

module _ (c : Clauses) where
  -- FIXING FAULTS: of the ways that they do not contradict (kept) what remains.
  pub restricted : (p q : ℕ) (kept r : Clauses) → Narrows c (sift (λ v. not (contradicted p q v)) (ways_of c)) kept → r.rows.present.now ≡ kept.rows.present.now
      → r.rows.absent.now ≡ kept.rows.absent.now → r.numbers ≡ kept.numbers → r.gone ≡ fix_more kept.gone p q
      → Becomes c (fix_more c.gone p q) (remaining p q (ways_of c)) r
  restricted p q kept r h x y n g =
      record {
        present_is = x ∙ h.present_is;
        absent_is = y ∙ h.absent_is;
        gone_is = g ∙ ap (λ (k : Gone). fix_more k p q) h.gone_is;
        ways_are = thinned kept r x y n (bit_or p q) (λ v. fixed_more kept.gone p q v ∙ ap (λ (k : Gone). dropped (gone_word k) v) (sym g))
            ∙ ap (map (dropped (bit_or p q))) h.ways_are ∙ sym (remaining-is p q (ways_of c));
      }

  -- LEAVING FAULTS OUT leaves them out of each way.
  pub left_out : (m : ℕ) (r : Clauses) → r.rows.present.now ≡ c.rows.present.now → r.rows.absent.now ≡ c.rows.absent.now → r.numbers ≡ c.numbers → r.gone ≡ out_more c.gone m
      → Becomes c (out_more c.gone m) (drop_all m (ways_of c)) r
  left_out m r x y n g =
      record {
        present_is = x;
        absent_is = y;
        gone_is = g;
        ways_are = thinned c r x y n m (λ v. left_more c.gone m v ∙ ap (λ (k : Gone). dropped (gone_word k) v) (sym g)) ∙ sym (drop-is m (ways_of c));
      }
