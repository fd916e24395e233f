-- THE SEARCH FINDS THE FIRST OF THE WIDEST: told a position exactly if it is that, told that there is none exactly if no record counts.
-- By the kit's laws of the first best of a list, on the records' widths alone. Rests on specs/Widest.antt.
use Rattle.std.proofs.Common.{◌≡◌, refl, sym, ap, ◌∙◌, arith, Bool, true, false, List, [], ◌∷◌, map, Option, Some, None}
use Rattle.std.proofs.Common.{ℕ, zero, suc, ◌+◌, ◌<◌, ◌≤◌, eqb, ltb, length, get_or, zero-add}
use native.Mathlib.Decide.{dec_lt}
use borrow.Author.Tests.{ltb-true, ltb-false, lt-ltb, eqb-true, eq-eqb}
use Rattle.std.specs.Prelude.{unwrap_or}
use Rattle.std.specs.Cmp.{IsStrictWeakOrder}
use Rattle.std.specs.List.{fold, enumerate_from, IsFirstBest, best_of}
use Rattle.std.proofs.lemmas.List.MinMax.{IsStrictWeakOrder-by_number, IsStrictWeakOrder-flip, IsFirstBest-from_best_of}
use Rattle.rules.proofs.Booleans.{and_left, and_right, and_both}
use Rattle.records.specs.Records.{record_in}
use Rattle.records.specs.Growing.{record_width}
use Rattle.records.specs.Found.{wider}
use Rattle.records.specs.declared.Node.{Node}
use Rattle.records.specs.declared.Found.{Found}
use Rattle.page.specs.Widest.{counts, counted_width, counted, widest_found, told, widest_of, Counts, FirstWidest, NoneCounts, WidestLaw}

-- ---- the test and its words

counts-sure : (x : Node) → counts x ≡ true → Counts x
unfolding counts
counts-sure x h =
    let more = and_right (eqb x.kind 1) _ h in
    record {
      leaf = eqb-true x.kind 1 (and_left (eqb x.kind 1) _ h);
      live = eqb-true x.live 1 (and_left (eqb x.live 1) _ more);
      below = ltb-true x.low x.high (and_right (eqb x.live 1) _ more);
    }

counts_all : (x : Node) → Counts x → counts x ≡ true
unfolding counts
counts_all x k =
    and_both (eqb x.kind 1) _ (eq-eqb x.kind 1 k.leaf)
    (and_both (eqb x.live 1) _ (eq-eqb x.live 1 k.live) (lt-ltb x.low x.high k.below))

-- A record that counts goes by its width.
width_of : (x : Node) → Counts x → counted_width x ≡ record_width x
unfolding counted_width
width_of x k = rw (counts_all x k, counted_width)

-- And only a record that counts goes by a width above 0.
wide-counts : (x : Node) → 0 < counted_width x → Counts x
unfolding counted_width
wide-counts x = by (counts x) refl
  where
    by : (b : Bool) → counts x ≡ b → 0 < (elim b as (λ b. ℕ) [ true ↦ record_width x | false ↦ 0 ]) → Counts x
    by true e h = counts-sure x e
    by false e h = absurd (omega arith)

-- ---- the best of the records

-- One record beats another if it is wider.
abbrev beats : Found → Found → Bool
beats x y = ltb y.width x.width

beats-orders : IsStrictWeakOrder beats
beats-orders = IsStrictWeakOrder-flip _ (IsStrictWeakOrder-by_number (λ (x : Found). x.width))

-- Each record stands at its position.
placed : (xs : List Node) (n k : ℕ) (d : Found) → k < length xs
    → get_or (map counted (enumerate_from n xs)) k d ≡ record { at = n + k; width = counted_width (record_in xs k) }
placed [] n k d h = absurd (omega arith)
placed (x ∷ xs) n zero d h = ap (λ i. record { at = i; width = counted_width x }) (omega arith)
placed (x ∷ xs) n (suc k) d h =
    placed xs (n + 1) k d (omega arith) ∙ ap (λ i. record { at = i; width = counted_width (record_in xs k) }) (omega arith)

enumerated-long : (xs : List Node) (n : ℕ) → length (map counted (enumerate_from n xs)) ≡ length xs
enumerated-long [] n = refl
enumerated-long (x ∷ xs) n = ap suc (enumerated-long xs (n + 1))

module _ (xs : List Node) where
  abbrev width : ℕ → ℕ
  width j = counted_width (record_in xs j)

  -- The widest of all records stands at its position, no record is wider, and every earlier one is narrower.
  record Top (best : Found) : Type 0 where
    inside : best.at < length xs
    is : best.width ≡ width best.at
    all : (j : ℕ) → j < length xs → width j ≤ best.width
    earlier : (j : ℕ) → j < best.at → width j < best.width

-- Found is the widest of all records.
top : (xs : List Node) (best : Found) → widest_found xs ≡ Some best → Top xs best
top [] best e = cc
top (x ∷ ys) best e = rw at (record { inside = inside; is = refl; all = all; earlier = earlier })
  where
    xs : List Node
    xs = x ∷ ys

    first : Found
    first = counted (0, x)

    rest : List Found
    rest = map counted (enumerate_from (0 + 1) ys)

    best-at : (b : ℕ) × IsFirstBest beats (first ∷ rest) (length (first ∷ rest)) b × (get_or (first ∷ rest) b first ≡ best_of beats first rest)
    best-at = IsFirstBest-from_best_of beats-orders first rest

    b : ℕ
    b = best-at.0

    inside : b < length xs
    inside = omega (arith, best-at.1.0, enumerated-long xs 0)

    at : best ≡ record { at = b; width = width xs b }
    at =
        let last : best ≡ fold wider first rest = cc in
        last ∙ sym best-at.2 ∙ placed xs 0 b first inside ∙ ap (λ i. record { at = i; width = width xs b }) (zero-add b)

    wide : (k : ℕ) → k < length xs → (get_or (first ∷ rest) k first).width ≡ width xs k
    wide k h = ap (λ (f : Found). f.width) (placed xs 0 k first h)

    all : (j : ℕ) → j < length xs → width xs j ≤ width xs b
    all j h = omega (arith, wide j h, wide b inside, ltb-false _ _ (best-at.1.1 j first (omega (arith, enumerated-long xs 0))))

    earlier : (j : ℕ) → j < b → width xs j < width xs b
    earlier j h = omega (arith, wide j (omega (arith, inside)), wide b inside, ltb-true _ _ (best-at.1.2 j first h))

-- Nothing is found where there is no record.
nothing : (xs : List Node) → widest_found xs ≡ None → NoneCounts xs
nothing [] e j h k = absurd (omega arith)
nothing (x ∷ ys) e j h k = cc

-- ---- what the answer says

module _ (xs : List Node) where
  abbrev Says : Option ℕ → Type 0
  Says (Some i) = FirstWidest xs i
  Says None = NoneCounts xs

  says : Says (widest_of xs)
  unfolding widest_of
  says = by (widest_found xs) refl
    where
      by-width : (best : Found) → Top xs best → (b : Bool) → ltb 0 best.width ≡ b → Says (elim b as (λ b. Option ℕ) [ true ↦ Some best.at | false ↦ None ])
      by-width best w false e = λ j h k. omega (arith, w.all j h, width_of (record_in xs j) k, k.below, ltb-false 0 best.width e)
      by-width best w true e =
          let positive = ltb-true 0 best.width e in
          let k : Counts (record_in xs best.at) = wide-counts (record_in xs best.at) (omega (arith, positive, w.is)) in
          let is : best.width ≡ record_width (record_in xs best.at) = w.is ∙ width_of (record_in xs best.at) k in
          record {
            inside = w.inside;
            counted = k;
            widest = λ j h m. rw (← is) (rw (width_of (record_in xs j) m) at (w.all j h));
            first = λ j h m. rw (← is) (rw (width_of (record_in xs j) m) at (w.earlier j h));
          }

      by : (o : Option Found) → widest_found xs ≡ o → Says (told o)
      by None e = nothing xs e
      by (Some best) e = by-width best (top xs best e) (ltb 0 best.width) refl

  -- There is one first of the widest.
  only_one : (i j : ℕ) → FirstWidest xs i → FirstWidest xs j → i ≡ j
  only_one i j f g = by (dec_lt i j) (dec_lt j i)
    where
      by : Dec (i < j) → Dec (j < i) → i ≡ j
      by (yes l) d = absurd (omega (arith, g.first i l f.counted, f.widest j g.inside g.counted))
      by (no p) (yes l) = absurd (omega (arith, f.first j l g.counted, g.widest i f.inside f.counted))
      by (no p) (no q) = omega arith

-- An answer that says what holds is exactly that.
lawful : (xs : List Node) (r : Option ℕ) → Says xs r → WidestLaw xs r
lawful xs (Some i) f =
    record {
      found = λ j. (λ e. rw (ap (λ o. unwrap_or o 0) e) at f, λ g. ap Some (only_one xs i j f g));
      nothing = (λ e. cc, λ none. absurd (none i f.inside f.counted));
    }
lawful xs None none =
    record {
      found = λ j. (λ e. cc, λ g. absurd (none j g.inside g.counted));
      nothing = (λ e. none, λ n. refl);
    }

-- THE LAW.
pub widest-told : (xs : List Node) → WidestLaw xs (widest_of xs)
widest-told xs = lawful xs (widest_of xs) (says xs)
