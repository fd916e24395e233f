-- The parts of a sheet as lists: the columns of numbers, counts, places, weights and words are the fields of its entries, weights and ways.
-- Rests on the definitions of `rules`, Sheet, Table and Refusals, and of Parts, and on the numbers in bytes of `rules`, Bytes.
use Rattle.std.proofs.Common.{◌≡◌, ℕ, zero, suc, ◌+◌, ◌≤◌, Bool, ◌||◌, ltb, List, []}
use Rattle.std.proofs.Common.{◌∷◌, map, length, take, drop, add-one, ◌<◌, refl, ap, ap₂, ◌∙◌, sym, arith}
use lib.Seq.{drop-drop}
use denote.Param.Members.{Mut}
use Rattle.std.specs.Fn.{Called}
use Rattle.std.specs.Iterator.{YieldsFirst, ChecksAny}
use Rattle.std.specs.List.{list_any}
use Rattle.std.proofs.lemmas.List.{map-id, take_all, drop_all}
use Rattle.std.proofs.lemmas.Iterator.Search.{any_from_yields_List}
use Rattle.std.proofs.lemmas.Iterator.Consumers.{YieldsList-from_first}
use Rattle.std.proofs.lemmas.Grind.{common_steps}
use Rattle.rules.specs.Refusals.{some_above}
use Rattle.rules.specs.Sheet.{field, column}
use Rattle.rules.specs.Leaf.{any}
use Rattle.rules.specs.Table.{rows, absent_rows}
use Rattle.rules.proofs.Bytes.{field-drop, field-take}
use Rattle.sheet.specs.Parts.{parts, weight, stated, words, stated_in, words_in}
use Rattle.rules.specs.declared.Words.{Words}

-- There are as many parts as asked for.
pub length_parts : {A : Type 0} (first : List ℕ → A) (size n : ℕ) (bs : List ℕ) → length (parts first size n bs) ≡ n
unfolding parts
length_parts first size zero bs = refl
length_parts first size (suc n) bs = ap suc (length_parts first size n (drop size bs))

-- A part of which bytes are missing has all that there are.
pub parts_cut : {A : Type 0} (first : List ℕ → A) (size n m : ℕ) (bs : List ℕ) → m + 1 ≡ n → length bs < size
    → parts first size n bs ≡ first bs ∷ parts first size m []
unfolding parts
parts_cut first size n m bs e short =
    rw (← e, add-one) (ap₂ (λ xs ys. first xs ∷ parts first size m ys) (take_all size bs (omega arith)) (drop_all size bs (omega arith)))

-- A number of a part, at a distance from its start, is one at a position.
pub part_field : (k size i j : ℕ) (bs : List ℕ) → j + k ≤ size → field k j (take size (drop i bs)) ≡ field k (i + j) bs
part_field k size i j bs h = field-take k j size (drop i bs) h ∙ sym (field-drop k i j bs)

-- A number of each part, at a distance from the part's start and within it, is a column.
pub column_of : {A : Type 0} (first : List ℕ → A) (f : A → ℕ) (k size off : ℕ) → off + k ≤ size → ((xs : List ℕ) → f (first xs) ≡ field k off xs)
    → (i n : ℕ) (bs : List ℕ) → map f (parts first size n (drop i bs)) ≡ column k size (i + off) n bs
unfolding parts column
column_of first f k size off within at i zero bs = refl
column_of first f k size off within at i (suc n) bs =
    let next : i + size + off ≡ i + off + size = omega arith in
    ap₂ (λ x xs. x ∷ xs) (at (take size (drop i bs)) ∙ part_field k size i off bs within)
    (ap (λ xs. map f (parts first size n xs)) (drop-drop size i bs)
    ∙ column_of first f k size off within at (i + size) n bs
    ∙ ap (λ j. column k size j n bs) next)

-- Some number of a list is above a limit, one of each element.
above-each : {A : Type 0} (f : A → ℕ) (limit : ℕ) (xs : List A) → list_any (λ x. ltb limit (f x)) xs ≡ some_above limit (map f xs)
unfolding some_above
above-each f limit [] = refl
above-each f limit (x ∷ xs) = ap (λ b. ltb limit (f x) || b) (above-each f limit xs)

module _ (bs : List ℕ) (n : ℕ) where
  pub numbers_stated : map (λ e. e.cue) (stated_in n bs) ≡ column 2 8 12 n bs
  numbers_stated = column_of stated (λ e. e.cue) 2 8 0 (omega arith) (λ xs. refl) 12 n bs

  pub counts_stated : map (λ e. e.ways) (stated_in n bs) ≡ column 2 8 14 n bs
  counts_stated = column_of stated (λ e. e.ways) 2 8 2 (omega arith) (λ xs. refl) 12 n bs

  pub places_stated : map (λ e. e.start) (stated_in n bs) ≡ column 4 8 16 n bs
  places_stated = column_of stated (λ e. e.start) 4 8 4 (omega arith) (λ xs. refl) 12 n bs

-- The numbers of parts at their start.
front_column : {A : Type 0} (first : List ℕ → A) (f : A → ℕ) (k size : ℕ) → k ≤ size → ((xs : List ℕ) → f (first xs) ≡ field k 0 xs)
    → (i n : ℕ) (bs : List ℕ) → map f (parts first size n (drop i bs)) ≡ column k size i n bs
front_column first f k size within at i n bs =
    let here : i + 0 ≡ i = omega arith in
    column_of first f k size 0 (omega arith) at i n bs ∙ ap (λ j. column k size j n bs) here

module _ (i n : ℕ) (bs : List ℕ) where
  -- Weights.
  pub weights_stated : parts weight 4 n (drop i bs) ≡ column 4 4 i n bs
  weights_stated = sym (map-id (parts weight 4 n (drop i bs))) ∙ front_column weight (λ w. w) 4 4 (omega arith) (λ xs. refl) i n bs

  -- The words of ways, those of one kind.
  pub present_stated : map (λ w. w.present) (words_in i n bs) ≡ column 8 16 i n bs
  present_stated = front_column words (λ w. w.present) 8 16 (omega arith) (λ xs. refl) i n bs

  pub absent_stated : map (λ w. w.absent) (words_in i n bs) ≡ column 8 16 (i + 8) n bs
  absent_stated = column_of words (λ w. w.absent) 8 16 8 (omega arith) (λ xs. refl) i n bs

-- Some way passes a test of its two words.
any_row : (f : ℕ → ℕ → Bool) (k : ℕ) (ws : List Words)
    → list_any (λ w. f w.present w.absent) ws
    ≡ any (λ v. f v.present v.absent) (rows k (map (λ w. w.present) ws) (map (λ w. w.absent) ws))
unfolding any rows absent_rows
any_row f k [] = refl
any_row f k (w ∷ ws) = ap (λ b. f w.present w.absent || b) (any_row f (suc k) ws)

-- What the library's `any` answers of parts with a test that a closure makes.
module _ {A F : Type 0} {call : Mut F (A × Unit {0}) Bool} {ps qs xs : List A} {f : F} {b : Bool} (ran : ChecksAny (YieldsFirst (λ p. p)) call ps f b qs)
    (are : ps ≡ xs) where
  -- Each call of the closure is the test.
  abbrev Tests : (A → Bool) → Type 0
  Tests test = (x : A) (r : Bool) (q : F) → Called call f (x, tt) r q → (q ≡ f) × (r ≡ test x)

  -- Whether some part passes the test.
  any_part : (test : A → Bool) → Tests test → b ≡ list_any test xs
  any_part test k = any_from_yields_List test _ _ _ ran (YieldsList-from_first (λ p. p) (λ ps. ps) _ are) k

  -- Whether a number of some part is above a limit.
  pub part_above : (n : A → ℕ) (limit : ℕ) {ns : List ℕ} → map n xs ≡ ns → Tests (λ x. ltb limit (n x)) → b ≡ some_above limit ns
  part_above n limit e k = any_part (λ x. ltb limit (n x)) k ∙ above-each n limit xs ∙ ap (some_above limit) e

-- The same of the words of ways: whether some way passes a test of its two words.
pub row_passes : {F : Type 0} {call : Mut F (Words × Unit {0}) Bool} {ps qs : List Words} {f : F} {b : Bool} (i n : ℕ) (bs : List ℕ)
    → ChecksAny (YieldsFirst (λ p. p)) call ps f b qs → ps ≡ words_in i n bs → (test : ℕ → ℕ → Bool)
    → ((w : Words) (r : Bool) (q : F) → Called call f (w, tt) r q → (q ≡ f) × (r ≡ test w.present w.absent))
    → b ≡ any (λ v. test v.present v.absent) (rows 0 (column 8 16 i n bs) (column 8 16 (i + 8) n bs))
row_passes i n bs ran are test k =
    any_part ran are (λ w. test w.present w.absent) k
    ∙ any_row test 0 (words_in i n bs)
    ∙ ap₂ (λ ps qs. any (λ v. test v.present v.absent) (rows 0 ps qs)) (present_stated i n bs) (absent_stated i n bs)

-- Of a list that begins with x, one element more is taken than behind it.
pub take_first : {A : Type 0} (n k : ℕ) (x : A) (xs : List A) → k + 1 ≡ n → take n (x ∷ xs) ≡ x ∷ take k xs
take_first n k x xs e = rw (← e, add-one)

-- What a loop over the parts of a sheet knows of them.
pub ruleset reading = (common_steps, length_parts, numbers_stated, counts_stated, places_stated, weights_stated, present_stated, absent_stated, take_first)
