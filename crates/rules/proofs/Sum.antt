-- The exact sum to prove with: an expectation by recursion over the faults, equal to the literal sum over all assignments, and its laws.
-- Independence is "no fault is looked at by both" (RULES 3.9). Rests on specs/Table.antt alone.
use mathlib.Core.Path.{◌≡◌, refl, sym, ap, ap₂, ◌∙◌, fun_ext}
use mathlib.Core.Bool.{Bool, true, false, not, ◌&&◌, ◌||◌}
use mathlib.Core.List.{List, [], ◌∷◌, ◌++◌, map}
use mathlib.Core.Logic.{◌⊎◌, inl, inr}
use Prim.Native.Nat.{ℕ, zero, suc, ◌+◌, ◌-◌, ◌*◌, ◌^◌, ◌≤◌, ◌<◌}
use native.Mathlib.Nat.{mul-le-mul_left, mul_comm, pow-suc, sub-add_cancel, one-le-pow}
use native.Mathlib.Omega.{arith}
use lib.ListN.{length, set, get_or}
use Rattle.rules.specs.Rounding.{S}
use Rattle.rules.specs.Table.{Assignment, indicator, product, assignments, sum, weigh}

-- The expectation of a number that depends on the assignment, scaled by S ^ n: each fault in turn present, then absent.
unfoldable pub expect : List ℕ → (Assignment → ℕ) → ℕ
expect [] g = g []
expect (w ∷ ws) g = w * expect ws (λ (a : Assignment). g (true ∷ a)) + (S - w) * expect ws (λ (a : Assignment). g (false ∷ a))

-- The weight of the assignments at which F holds.
unfoldable pub mass : List ℕ → (Assignment → Bool) → ℕ
mass ws F = expect ws (λ (a : Assignment). indicator (F a))

-- ---- the literal sum

sum-append : {A : Type 0} (f : A → ℕ) (xs ys : List A) → sum f (xs ++ ys) ≡ sum f xs + sum f ys
sum-append f [] ys = omega arith
sum-append f (x ∷ xs) ys = omega (arith, sum-append f xs ys)

sum-map : {A B : Type 0} (f : B → ℕ) (k : A → B) (xs : List A) → sum f (map k xs) ≡ sum (λ (x : A). f (k x)) xs
sum-map f k [] = refl
sum-map f k (x ∷ xs) = ap (λ (t : ℕ). f (k x) + t) (sum-map f k xs)

sum-scale : {A : Type 0} (c : ℕ) (f g : A → ℕ) (xs : List A) → sum (λ (x : A). c * f x * g x) xs ≡ c * sum (λ (x : A). f x * g x) xs
sum-scale c f g [] = omega arith
sum-scale c f g (x ∷ xs) = omega (arith, sum-scale c f g xs)

expect-sum : (ws : List ℕ) (g : Assignment → ℕ) → expect ws g ≡ sum (λ (a : Assignment). product ws a * g a) (assignments (length ws))
unfolding expect
expect-sum [] g = omega arith
expect-sum (w ∷ ws) g =
    simp (sum-append, sum-map, sum-scale)
    (ap₂ (λ (x y : ℕ). w * x + (S - w) * y) (expect-sum ws (λ (a : Assignment). g (true ∷ a))) (expect-sum ws (λ (a : Assignment). g (false ∷ a))))

-- It is the literal sum of the definition.
pub mass-weigh : (ws : List ℕ) (F : Assignment → Bool) → mass ws F ≡ weigh ws F
unfolding mass weigh
mass-weigh ws F = expect-sum ws (λ (a : Assignment). indicator (F a))

-- ---- laws of the expectation
-- Every weight is at most S.
abbrev pub Weights : List ℕ → Type 0
Weights [] = Unit {0}
Weights (w ∷ ws) = (w ≤ S) × Weights ws

-- What is given to the two sides is given back.
pub sides : {w : ℕ} (x : ℕ) → w ≤ S → w * x + (S - w) * x ≡ S * x
sides {w} x h = omega (arith, ap (λ (k : ℕ). k * x) (sub-add_cancel h))

-- The expectation of a sum.
pub expect-add : (ws : List ℕ) (g h : Assignment → ℕ) → expect ws (λ (a : Assignment). g a + h a) ≡ expect ws g + expect ws h
unfolding expect
expect-add [] g h = refl
expect-add (w ∷ ws) g h =
    rw (
      expect-add ws (λ (a : Assignment). g (true ∷ a)) (λ (a : Assignment). h (true ∷ a)),
      expect-add ws (λ (a : Assignment). g (false ∷ a)) (λ (a : Assignment). h (false ∷ a)),
    )
    (omega arith)

-- A constant factor comes out.
pub expect-scale : (ws : List ℕ) (c : ℕ) (g : Assignment → ℕ) → expect ws (λ (a : Assignment). c * g a) ≡ c * expect ws g
unfolding expect
expect-scale [] c g = refl
expect-scale (w ∷ ws) c g =
    rw (expect-scale ws c (λ (a : Assignment). g (true ∷ a)), expect-scale ws c (λ (a : Assignment). g (false ∷ a))) (omega arith)

-- A larger number has a larger expectation.
pub expect-mono : (ws : List ℕ) (g h : Assignment → ℕ) → ((a : Assignment) → g a ≤ h a) → expect ws g ≤ expect ws h
unfolding expect
expect-mono [] g h k = k []
expect-mono (w ∷ ws) g h k =
    omega (
      arith,
      mul-le-mul_left w (expect-mono ws (λ (a : Assignment). g (true ∷ a)) (λ (a : Assignment). h (true ∷ a)) (λ a. k (true ∷ a))),
      mul-le-mul_left (S - w) (expect-mono ws (λ (a : Assignment). g (false ∷ a)) (λ (a : Assignment). h (false ∷ a)) (λ a. k (false ∷ a))),
    )

-- The expectation of a constant.
pub expect-const : (ws : List ℕ) → Weights ws → (c : ℕ) → expect ws (λ (a : Assignment). c) ≡ c * S ^ length ws
unfolding expect
expect-const [] k c = omega arith
expect-const (w ∷ ws) k c = rw (expect-const ws k.1 c, pow-suc) (omega (arith, sides (c * S ^ length ws) k.0))

-- All assignments together weigh S ^ n.
pub total : (ws : List ℕ) → Weights ws → mass ws (λ (a : Assignment). true) ≡ S ^ length ws
unfolding mass
total ws k = rw (expect-const ws k 1) (omega arith)

-- ---- laws of the weight

indicator-or : (p q : Bool) → indicator (p || q) ≤ indicator p + indicator q
indicator-or true q = omega arith
indicator-or false q = omega arith

-- A disjunction weighs at most what its parts weigh together.
pub mass-or : (ws : List ℕ) (F G : Assignment → Bool) → mass ws (λ (a : Assignment). F a || G a) ≤ mass ws F + mass ws G
unfolding mass
mass-or ws F G = rw (← expect-add) (expect-mono ws _ _ (λ a. indicator-or (F a) (G a)))

indicator-mono : (p q : Bool) → (p ≡ true → q ≡ true) → indicator p ≤ indicator q
indicator-mono true q h = rw (h refl) (omega arith)
indicator-mono false q h = omega arith

-- What holds more often weighs more.
pub mass-mono : (ws : List ℕ) (F G : Assignment → Bool) → ((a : Assignment) → F a ≡ true → G a ≡ true) → mass ws F ≤ mass ws G
unfolding mass
mass-mono ws F G h = expect-mono ws _ _ (λ a. indicator-mono (F a) (G a) (h a))

-- ---- a split on one fault

weave : (w v X Y A B C D wf vf : ℕ) → S * X ≡ wf * A + vf * B → S * Y ≡ wf * C + vf * D
    → S * (w * X + v * Y) ≡ wf * (w * A + v * C) + vf * (w * B + v * D)
weave w v X Y A B C D wf vf p q = omega (arith, ap (λ (k : ℕ). w * k) p, ap (λ (k : ℕ). v * k) q)

-- Shannon expansion: a split on fault f.
pub expect-split : (ws : List ℕ) → Weights ws → (f : ℕ) → f < length ws → (g : Assignment → ℕ)
    → S * expect ws g
    ≡ get_or ws f 0 * expect ws (λ (a : Assignment). g (set a f true)) + (S - get_or ws f 0) * expect ws (λ (a : Assignment). g (set a f false))
unfolding expect
expect-split [] k f l g = omega arith
expect-split (w ∷ ws) k zero l g =
    rw (sides (expect ws (λ (a : Assignment). g (true ∷ a))) k.0, sides (expect ws (λ (a : Assignment). g (false ∷ a))) k.0) (omega arith)
expect-split (w ∷ ws) k (suc f) l g =
    weave w (S - w) _ _ _ _ _ _ (get_or ws f 0) (S - get_or ws f 0)
    (expect-split ws k.1 f (omega arith) (λ (a : Assignment). g (true ∷ a)))
    (expect-split ws k.1 f (omega arith) (λ (a : Assignment). g (false ∷ a)))

-- The same for a weight.
pub mass-split : (ws : List ℕ) → Weights ws → (f : ℕ) → f < length ws → (F : Assignment → Bool)
    → S * mass ws F
    ≡ get_or ws f 0 * mass ws (λ (a : Assignment). F (set a f true)) + (S - get_or ws f 0) * mass ws (λ (a : Assignment). F (set a f false))
unfolding mass
mass-split ws k f l F = expect-split ws k f l (λ (a : Assignment). indicator (F a))

-- ---- independence

-- F does not look at fault i.
abbrev pub Ignores : {A : Type 0} → (Assignment → A) → ℕ → Type 0
Ignores F i = (a : Assignment) (b : Bool) → F (set a i b) ≡ F a

-- No fault is looked at by both: the two are independent.
abbrev pub Apart : {A B : Type 0} → (Assignment → A) → (Assignment → B) → Type 0
Apart F G = (i : ℕ) → Ignores F i ⊎ Ignores G i

apart-tail : {A B : Type 0} (F : Assignment → A) (G : Assignment → B) (b : Bool) → Apart F G
    → Apart (λ (a : Assignment). F (b ∷ a)) (λ (a : Assignment). G (b ∷ a))
apart-tail F G b k i = pick (k (suc i))
  where
    pick : Ignores F (suc i) ⊎ Ignores G (suc i) → Ignores (λ (a : Assignment). F (b ∷ a)) i ⊎ Ignores (λ (a : Assignment). G (b ∷ a)) i
    pick (inl h) = inl (λ a c. h (b ∷ a) c)
    pick (inr h) = inr (λ a c. h (b ∷ a) c)

-- at the head, where the first factor ignores the fault: A and A' are its two sums
head-product : (w v X Y N A A' B C : ℕ) → w + v ≡ S → A ≡ A' → X * N ≡ A * B → Y * N ≡ A' * C
    → (w * X + v * Y) * (N * S) ≡ (w * A + v * A') * (w * B + v * C)
head-product w v X Y N A A' B C e d p q =
    rw (← d)
    (omega (arith, ap (λ (k : ℕ). w * S * k) p, ap (λ (k : ℕ). v * S * k) (rw (← d) at q), ap (λ (k : ℕ). k * (A * (w * B + v * C))) e))

ignores-head : (ws : List ℕ) (g : Assignment → ℕ) → Ignores g 0
    → expect ws (λ (a : Assignment). g (true ∷ a)) ≡ expect ws (λ (a : Assignment). g (false ∷ a))
ignores-head ws g i = ap (expect ws) (fun_ext (λ a. i (false ∷ a) true))

-- The expectation of a product of independent numbers is the product of theirs.
pub expect-apart : (ws : List ℕ) → Weights ws → (g h : Assignment → ℕ) → Apart g h
    → expect ws (λ (a : Assignment). g a * h a) * S ^ length ws ≡ expect ws g * expect ws h
unfolding expect
expect-apart [] k g h apart = omega arith
expect-apart (w ∷ ws) k g h apart =
    go (apart 0)
    (expect-apart ws k.1 (λ (a : Assignment). g (true ∷ a)) (λ (a : Assignment). h (true ∷ a)) (apart-tail g h true apart))
    (expect-apart ws k.1 (λ (a : Assignment). g (false ∷ a)) (λ (a : Assignment). h (false ∷ a)) (apart-tail g h false apart))
  where
    X : ℕ
    X = expect ws (λ (a : Assignment). g (true ∷ a) * h (true ∷ a))

    Y : ℕ
    Y = expect ws (λ (a : Assignment). g (false ∷ a) * h (false ∷ a))

    A : ℕ
    A = expect ws (λ (a : Assignment). g (true ∷ a))

    A' : ℕ
    A' = expect ws (λ (a : Assignment). g (false ∷ a))

    B : ℕ
    B = expect ws (λ (a : Assignment). h (true ∷ a))

    B' : ℕ
    B' = expect ws (λ (a : Assignment). h (false ∷ a))

    N : ℕ
    N = S ^ length ws

    go : Ignores g 0 ⊎ Ignores h 0 → X * N ≡ A * B → Y * N ≡ A' * B'
        → (w * X + (S - w) * Y) * S ^ suc (length ws) ≡ (w * A + (S - w) * A') * (w * B + (S - w) * B')
    go (inl i) p q =
        rw pow-suc (head-product w (S - w) X Y N A A' B B' (omega (arith, k.0)) (ignores-head ws g i) p q)
    go (inr i) p q =
        rw (pow-suc, mul_comm (w * A + (S - w) * A'))
        (head-product w (S - w) X Y N B B' A A' (omega (arith, k.0)) (ignores-head ws h i) (p ∙ mul_comm A B) (q ∙ mul_comm A' B'))

-- the sum over the assignments at which F does not hold
indicator-not : (p : Bool) → indicator p + indicator (not p) ≡ 1
indicator-not true = refl
indicator-not false = refl

-- What holds and what does not hold together weigh S ^ n.
pub mass-not : (ws : List ℕ) → Weights ws → (F : Assignment → Bool) → mass ws F + mass ws (λ (a : Assignment). not (F a)) ≡ S ^ length ws
unfolding mass
mass-not ws k F =
    sym (expect-add ws (λ (a : Assignment). indicator (F a)) (λ (a : Assignment). indicator (not (F a))))
    ∙ ap (expect ws) (fun_ext (λ a. indicator-not (F a))) ∙ rw (expect-const ws k 1) (omega arith)

indicator-and : (p q : Bool) → indicator (p && q) ≡ indicator p * indicator q
indicator-and true q = omega arith
indicator-and false q = omega arith

ignores-map : {A B : Type 0} (f : A → B) (F : Assignment → A) (i : ℕ) → Ignores F i → Ignores (λ (a : Assignment). f (F a)) i
ignores-map f F i h a b = ap f (h a b)

apart-map : {A B C D : Type 0} (f : A → C) (g : B → D) (F : Assignment → A) (G : Assignment → B) → Apart F G
    → Apart (λ (a : Assignment). f (F a)) (λ (a : Assignment). g (G a))
apart-map f g F G k i = pick (k i)
  where
    pick : Ignores F i ⊎ Ignores G i → Ignores (λ (a : Assignment). f (F a)) i ⊎ Ignores (λ (a : Assignment). g (G a)) i
    pick (inl h) = inl (ignores-map f F i h)
    pick (inr h) = inr (ignores-map g G i h)

-- Independent events both hold with the product of their weights.
pub mass-and : (ws : List ℕ) → Weights ws → (F G : Assignment → Bool) → Apart F G
    → mass ws (λ (a : Assignment). F a && G a) * S ^ length ws ≡ mass ws F * mass ws G
unfolding mass
mass-and ws k F G apart =
    ap (λ (g : Assignment → ℕ). expect ws g * S ^ length ws) (fun_ext (λ a. indicator-and (F a) (G a)))
    ∙ expect-apart ws k (λ (a : Assignment). indicator (F a)) (λ (a : Assignment). indicator (G a)) (apart-map indicator indicator F G apart)

not-or : (p q : Bool) → not (p || q) ≡ not p && not q
not-or true q = refl
not-or false q = refl

-- What neither reaches is the product of what each does not reach.
pub mass-neither : (ws : List ℕ) → Weights ws → (F G : Assignment → Bool) → Apart F G
    → mass ws (λ (a : Assignment). not (F a || G a)) * S ^ length ws
    ≡ mass ws (λ (a : Assignment). not (F a)) * mass ws (λ (a : Assignment). not (G a))
mass-neither ws k F G apart =
    ap (λ (H : Assignment → Bool). mass ws H * S ^ length ws) (fun_ext (λ a. not-or (F a) (G a)))
    ∙ mass-and ws k (λ (a : Assignment). not (F a)) (λ (a : Assignment). not (G a)) (apart-map not not F G apart)

-- Only the assignments of all the faults count.
pub expect-cong : (ws : List ℕ) (g h : Assignment → ℕ) → ((a : Assignment) → length a ≡ length ws → g a ≡ h a) → expect ws g ≡ expect ws h
unfolding expect
expect-cong [] g h k = k [] refl
expect-cong (w ∷ ws) g h k =
    ap₂ (λ (x y : ℕ). w * x + (S - w) * y)
    (expect-cong ws (λ (a : Assignment). g (true ∷ a)) (λ (a : Assignment). h (true ∷ a)) (λ a e. k (true ∷ a) (ap suc e)))
    (expect-cong ws (λ (a : Assignment). g (false ∷ a)) (λ (a : Assignment). h (false ∷ a)) (λ a e. k (false ∷ a) (ap suc e)))

-- The same for a weight.
pub mass-cong : (ws : List ℕ) (F G : Assignment → Bool) → ((a : Assignment) → length a ≡ length ws → F a ≡ G a) → mass ws F ≡ mass ws G
unfolding mass
mass-cong ws F G k = expect-cong ws _ _ (λ a e. ap indicator (k a e))

-- What never holds weighs nothing.
pub mass-never : (ws : List ℕ) → mass ws (λ (a : Assignment). false) ≡ 0
unfolding mass
mass-never ws = expect-scale ws 0 (λ (a : Assignment). 0) ∙ omega arith

-- A power of S is not 0.
pub pow-S-pos : (n : ℕ) → 0 < S ^ n
pow-S-pos n = one-le-pow n S (omega arith)
