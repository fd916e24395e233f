-- What stays of a leaf's ways with one fault fixed, as the code finds it: the ways that lost the fault stay, and each leaves out what it subsumes of the
-- others. Rests on Held.antt, Narrowed.antt and Parts.antt, on `rules`, Minimal, and on `rules`, FixedLean, for why so few tests are enough.
use mathlib.Core.Path.{◌≡◌, refl, sym, ap, ap₂, ◌∙◌}
use mathlib.Core.Bool.{Bool, true, false, not, ◌&&◌, ◌||◌, true≢false}
use mathlib.Core.List.Memᴰ
use mathlib.Core.List.{List, [], ◌∷◌, map}
use Prim.Native.Nat.{ℕ}
use lib.Bits.{bit_or}
use Rattle.rules.specs.Members.{In}
use Rattle.rules.specs.declared.Way.{Way}
use Rattle.rules.specs.Leaf.{any, has_number, contradicted, dropped, remaining, sift, subsumes, redundant, minimal, Lean}
use Rattle.rules.specs.Group.{touches, part}
use Rattle.rules.proofs.Booleans.{or_cases, is_false, and-true, and-false}
use Rattle.rules.proofs.Minimal.{subsumes-through}
use Rattle.rules.proofs.FixedLean.{redundant-fixed, unnamed_free}
use Rattle.clauses.specs.declared.staying.ByFault.{ByFault}
use Rattle.clauses.specs.declared.Clauses.{Clauses}
use Rattle.clauses.specs.declared.lost.Gone.{Gone}
use Rattle.clauses.specs.declared.sets.Numbers.{Numbers}
use Rattle.clauses.specs.Numbers.{is_in}
use Rattle.clauses.specs.Leaves.{OneFault, gone_word, fix_more, ways_of, Becomes, Narrows, Divided}
use Rattle.clauses.proofs.Held.{reworded}
use Rattle.clauses.proofs.Leaf.{rising, numbers, number_in}
use Rattle.clauses.proofs.Parts.{part-in, sift-same, sift-twice, part-number, remaining-is, touched-is, untouched-is, dropped-number}
use Rattle.clauses.proofs.Narrowed.{narrowed, thinned, fixed_more}

-- ---- one fault fixed in a lean list

-- The ways that pass a test, each changed by h.
abbrev passing : (Way → Bool) → (Way → Way) → List Way → List Way
passing f h [] = []
passing f h (v ∷ vs) = elim (f v) as (λ b. List Way) [ true ↦ h v ∷ passing f h vs | false ↦ passing f h vs ]

-- They are a part of the list, changed.
passing-is : (f : Way → Bool) (h : Way → Way) (vs : List Way) → map h (sift f vs) ≡ passing f h vs
unfolding sift
passing-is f h [] = refl
passing-is f h (v ∷ vs) = by (f v) (passing-is f h vs)
  where
    by : (b : Bool) → map h (sift f vs) ≡ passing f h vs
        → map h (elim b as (λ b. List Way) [ true ↦ v ∷ sift f vs | false ↦ sift f vs ])
        ≡ elim b as (λ b. List Way) [ true ↦ h v ∷ passing f h vs | false ↦ passing f h vs ]
    by true ih = ap (λ (us : List Way). h v ∷ us) ih
    by false ih = ih

-- A way that names the fault stays unless it is contradicted, another unless one of those that lost it subsumes it.
abbrev stays : ℕ → ℕ → List Way → Way → Bool
stays p q us v = elim (touches (bit_or p q) v) as (λ b. Bool) [ true ↦ not (contradicted p q v) | false ↦ not (any (λ u. subsumes u v) us) ]

-- In a lean list that is what stays.
staying-is : (p q : ℕ) → OneFault p q → (vs : List Way) → Lean vs → (us : List Way) → us ≡ remaining p q (part true (bit_or p q) vs)
    → passing (stays p q us) (dropped (bit_or p q)) vs ≡ minimal (remaining p q vs)
unfolding minimal sift remaining
staying-is p q one vs lean us is = over vs (λ v i. i)
  where
    m : ℕ
    m = bit_or p q

    g : Way → Bool
    g v = not (redundant (remaining p q vs) v)

    over : (ws : List Way) → ((v : Way) → In v ws → In v vs) → passing (stays p q us) (dropped m) ws ≡ sift g (remaining p q ws)
    over [] h = refl
    over (v ∷ ws) h = by (touches m v) refl (contradicted p q v) refl (any (λ u. subsumes u v) us) refl (over ws (λ u i. h u (Memᴰ.tail i)))
      where
        says : contradicted p q v ≡ false → redundant (remaining p q vs) (dropped m v) ≡ not (touches m v) && any (λ u. subsumes u v) us
        says e =
            redundant-fixed one.0 p q one.1 vs lean v (h v (Memᴰ.head refl)) e
            ∙ ap (λ (xs : List Way). not (touches m v) && any (λ u. subsumes u v) xs) (sym is)

        by : (a : Bool) → touches m v ≡ a → (b : Bool) → contradicted p q v ≡ b → (d : Bool) → any (λ u. subsumes u v) us ≡ d
            → passing (stays p q us) (dropped m) ws ≡ sift g (remaining p q ws)
            → ◌≡◌ {A = List Way} (elim (elim a as (λ b. Bool) [ true ↦ not b | false ↦ not d ]) as (λ b. List Way)
            [ true ↦ dropped m v ∷ passing (stays p q us) (dropped m) ws | false ↦ passing (stays p q us) (dropped m) ws ])
            (sift g (elim b as (λ b. List Way) [ true ↦ remaining p q ws | false ↦ dropped m v ∷ remaining p q ws ]))
        by true n true e d k ih = ih
        by true n false e d k ih =
            rw (ap not (says e ∙ ap (λ (x : Bool). not x && any (λ u. subsumes u v) us) n), sift) (ap (λ (r : List Way). dropped m v ∷ r) ih)
        by false n true e d k ih = absurd (true≢false (sym e ∙ unnamed_free one.0 p q one.1 v n))
        by false n false e true k ih =
            rw (ap not (says e ∙ ap (λ (x : Bool). not x && any (λ u. subsumes u v) us) n ∙ k), sift) ih
        by false n false e false k ih =
            rw (ap not (says e ∙ ap (λ (x : Bool). not x && any (λ u. subsumes u v) us) n ∙ k), sift) (ap (λ (r : List Way). dropped m v ∷ r) ih)

-- ---- the ways by a fault

-- The others are those that the word does not touch: their numbers are not among the touched ones.
pub untouched : (c n o : Clauses) (m : ℕ) → ways_of n ≡ part true m (ways_of c) → Narrows c (sift (λ v. not (has_number (ways_of n) v.number)) (ways_of c)) o
    → Narrows c (part false m (ways_of c)) o
untouched c n o m e h =
    reworded h refl
    (sift-same _ _ (ways_of c)
    (λ v p. ap not (ap (λ (vs : List Way). has_number vs v.number) (e ∙ touched-is m (ways_of c))
    ∙ part-number 0 (ways_of c) (rising c) (touches m) v p))
    ∙ sym (untouched-is m (ways_of c)))

-- ---- the others that stay

module _ (o : Clauses) (s : List Way) where
  -- Some of these ways subsumes that one.
  abbrev some-subsumes : List Way → Way → Bool
  some-subsumes ws v = any (λ u. subsumes u v) ws

  -- In the midst of the loop over the ways s: of the others those that are kept and that no way to come subsumes are those that none of s does.
  pub record Beside (kept : Numbers) (ws : List Way) : Type 0 where
    pub told : (v : Way) → In v (ways_of o) → (is_in kept v.number && not (some-subsumes ws v)) ≡ not (some-subsumes s v)

  -- At first all are kept.
  pub none_left_out : Beside o.numbers s
  none_left_out = record { told = λ v p. ap (λ (b : Bool). b && not (some-subsumes s v)) (number_in o v p) }

  module _ (kept : Numbers) (ws : List Way) (k : Beside kept ws) (u : Way) (us : List Way) (next : ws ≡ u ∷ us) where
    -- What is told of a way, with the way that comes apart.
    apart : (v : Way) → In v (ways_of o) → (is_in kept v.number && not (subsumes u v || some-subsumes us v)) ≡ not (some-subsumes s v)
    unfolding any
    apart v p = ap (λ (xs : List Way). is_in kept v.number && not (some-subsumes xs v)) (sym next) ∙ k.told v p

    -- It does not subsume what covers the others, so it leaves out none of them.
    pub skips : (r : Way) → ((v : Way) → In v (ways_of o) → subsumes v r ≡ true) → subsumes u r ≡ false → Beside kept us
    skips r covered z = record {
      told = λ v p. ap (λ (b : Bool). is_in kept v.number && not (b || some-subsumes us v))
          (sym (is_false (subsumes u v) (λ e. true≢false (sym (subsumes-through u v r e (covered v p)) ∙ z)))) ∙ apart v p;
    }

    -- It leaves out what it subsumes.
    pub leaves : (w b : Clauses) → Narrows o (sift (λ v. is_in kept v.number) (ways_of o)) w → Narrows w (sift (λ v. not (subsumes u v)) (ways_of w)) b
        → Beside b.numbers us
    leaves w b n m =
        record {
          told = λ v p. ap (λ (x : Bool). x && not (some-subsumes us v)) (less v p)
              ∙ by (is_in kept v.number) (subsumes u v) (some-subsumes us v) ∙ apart v p;
        }
      where
        less : (v : Way) → In v (ways_of o) → is_in b.numbers v.number ≡ (is_in kept v.number && not (subsumes u v))
        less v p =
            sym (numbers b v.number)
            ∙ ap (λ (vs : List Way). has_number vs v.number)
            (m.ways_are ∙ ap (sift (λ x. not (subsumes u x))) n.ways_are ∙ sift-twice (λ x. is_in kept x.number) (λ x. not (subsumes u x)) (ways_of o))
            ∙ part-number 0 (ways_of o) (rising o) (λ x. is_in kept x.number && not (subsumes u x)) v p

        by : (k t a : Bool) → ((k && not t) && not a) ≡ (k && not (t || a))
        by true true a = refl
        by true false a = refl
        by false t a = refl

  -- At the end those are kept that no way of s subsumes.
  pub all_told : (kept : Numbers) (ws : List Way) → ws ≡ [] → Beside kept ws
      → sift (λ v. is_in kept v.number) (ways_of o) ≡ sift (λ v. not (some-subsumes s v)) (ways_of o)
  unfolding any
  all_told kept ws z k =
      sift-same _ _ (ways_of o)
      (λ v p. sym (and-true (is_in kept v.number)) ∙ ap (λ (xs : List Way). is_in kept v.number && not (some-subsumes xs v)) (sym z) ∙ k.told v p)

-- ---- both together

-- Those that lost the fault and those of the others that are kept: what stays of the leaf's ways with the fault fixed.
module _ (c : Clauses) (p q : ℕ) (one : OneFault p q) (lean : Lean (ways_of c)) (d : ByFault) (divided : Divided c (bit_or p q) d)
    (shorter : Clauses) (lost : Becomes d.named (fix_more d.named.gone p q) (remaining p q (ways_of d.named)) shorter)
    (kept : Clauses) (rest : Narrows d.others (sift (λ v. not (any (λ u. subsumes u v) (ways_of shorter))) (ways_of d.others)) kept) where
  m : ℕ
  m = bit_or p q

  -- Tests that tell which ways of the leaf these are.
  abbrev loses : Way → Bool
  loses v = touches m v && not (contradicted p q v)

  abbrev keeps : Way → Bool
  keeps v = not (touches m v) && not (any (λ u. subsumes u v) (ways_of shorter))

  shorter-numbers : (i : ℕ) → is_in shorter.numbers i ≡ has_number (sift loses (ways_of c)) i
  unfolding m
  shorter-numbers i =
      sym (numbers shorter i)
      ∙ ap (λ (vs : List Way). has_number vs i)
      (lost.ways_are ∙ ap (remaining p q) (divided.named.ways_are ∙ touched-is (bit_or p q) (ways_of c)) ∙ remaining-is p q _)
      ∙ dropped-number (bit_or p q) _ i
      ∙ ap (λ (vs : List Way). has_number vs i) (sift-twice (touches (bit_or p q)) (λ v. not (contradicted p q v)) (ways_of c))

  kept-numbers : (i : ℕ) → is_in kept.numbers i ≡ has_number (sift keeps (ways_of c)) i
  unfolding m
  kept-numbers i =
      sym (numbers kept i)
      ∙ ap (λ (vs : List Way). has_number vs i)
      (rest.ways_are ∙ ap (sift (λ v. not (any (λ u. subsumes u v) (ways_of shorter)))) (divided.others.ways_are ∙ untouched-is (bit_or p q) (ways_of c))
      ∙ sift-twice (λ v. not (touches (bit_or p q) v)) (λ v. not (any (λ u. subsumes u v) (ways_of shorter))) (ways_of c))

  module _ (r : Clauses) (x : r.rows.present.now ≡ c.rows.present.now) (y : r.rows.absent.now ≡ c.rows.absent.now) (g : r.gone ≡ shorter.gone)
      (both : (i : ℕ) → is_in r.numbers i ≡ (is_in shorter.numbers i || is_in kept.numbers i)) where
    -- A way stays by its number.
    tells : (v : Way) → In v (ways_of c) → is_in r.numbers v.number ≡ stays p q (ways_of shorter) v
    unfolding m
    tells v i =
        both v.number
        ∙ ap₂ (λ (a b : Bool). a || b) (shorter-numbers v.number ∙ part-number 0 (ways_of c) (rising c) loses v i)
        (kept-numbers v.number ∙ part-number 0 (ways_of c) (rising c) keeps v i)
        ∙ by (touches (bit_or p q) v) (not (contradicted p q v)) (not (any (λ u. subsumes u v) (ways_of shorter)))
      where
        by : (t k a : Bool) → ((t && k) || (not t && a)) ≡ elim t as (λ b. Bool) [ true ↦ k | false ↦ a ]
        by true true a = refl
        by true false a = refl
        by false k a = refl

    -- Every number is one of the leaf's.
    inside : (i : ℕ) → is_in r.numbers i ≡ true → is_in c.numbers i ≡ true
    inside i e =
        sym (numbers c i)
        ∙ or_cases (is_in shorter.numbers i) (is_in kept.numbers i) (λ h. part-in loses (ways_of c) i (sym (shorter-numbers i) ∙ h))
        (λ h. part-in keeps (ways_of c) i (sym (kept-numbers i) ∙ h)) (sym (both i) ∙ e)

    -- The same ways, before the fault is gone.
    before : Clauses
    before = record {
      rows = r.rows;
      numbers = r.numbers;
      gone = c.gone;
      inside = r.inside;
    }

    gone-is : r.gone ≡ fix_more c.gone p q
    gone-is = g ∙ lost.gone_is ∙ ap (λ (k : Gone). fix_more k p q) divided.named.gone_is

    pub left_out : Becomes c (fix_more c.gone p q) (minimal (remaining p q (ways_of c))) r
    unfolding before m
    left_out =
        record {
          present_is = x;
          absent_is = y;
          gone_is = gone-is;
          ways_are = thinned before r refl refl refl (bit_or p q) (λ v. fixed_more c.gone p q v ∙ ap (λ (k : Gone). dropped (gone_word k) v) (sym gone-is))
              ∙ ap (map (dropped (bit_or p q)))
              ((narrowed c before x y refl (is_in r.numbers) (λ i. by (is_in r.numbers i) (inside i))).ways_are ∙ sift-same _ _ (ways_of c) tells)
              ∙ passing-is (stays p q (ways_of shorter)) (dropped (bit_or p q)) (ways_of c)
              ∙ staying-is p q one (ways_of c) lean (ways_of shorter) (lost.ways_are ∙ ap (remaining p q) divided.named.ways_are);
        }
      where
        by : (b : Bool) {k : Bool} → (b ≡ true → k ≡ true) → b ≡ (k && b)
        by true h = sym (ap (λ (k : Bool). k && true) (h refl))
        by false {k} h = sym (and-false k)
