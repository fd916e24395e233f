-- Laws of `answered`, the answer of a call by its list of tests (specs/Refusals.antt): what it says beside the number, and how a list is tried part by part.
-- Rests on First.antt.
use mathlib.Core.Path.{◌≡◌, refl, sym, ap, ◌∙◌}
use mathlib.Core.Bool.{Bool, true, false}
use mathlib.Core.List.{List, [], ◌∷◌, ◌++◌}
use Prim.Native.Nat.{ℕ, suc}
use native.Mathlib.Omega.{arith}
use Rattle.std.specs.Prelude.{Result, Ok, Err}
use Rattle.rules.specs.Refusals.{Test, test, number, first, answered}
use Rattle.rules.specs.declared.Refusal.{Refusal}
use Rattle.rules.proofs.First.{NoneApplies, none-applies, first-none, first-here, first-later, number-above}

-- An empty list refuses nothing.
pub answered-none : {A : Type 0} (a : A) → answered [] a ≡ Ok a
unfolding answered
answered-none a = refl

-- The first applies.
pub answered-here : {A : Type 0} (x : Test) (xs : List Test) (a : A) → x.applies ≡ true → answered (x ∷ xs) a ≡ Err x.refusal
unfolding answered
answered-here x xs a e = rw e refl

-- The first does not apply.
pub answered-later : {A : Type 0} (x : Test) (xs : List Test) (a : A) → x.applies ≡ false → answered (x ∷ xs) a ≡ answered xs a
unfolding answered
answered-later x xs a e = rw e refl

-- What a list comes to: it accepts with the number 0, or refuses with the number of its refusal.
pub data Comes {A : Type 0} (xs : List Test) (a : A) : Type 0 where
  accepts : first xs ≡ 0 → answered xs a ≡ Ok a → Comes xs a
  refuses : (r : Refusal) → first xs ≡ number r → answered xs a ≡ Err r → Comes xs a

pub comes : {A : Type 0} (xs : List Test) (a : A) → Comes xs a
comes [] a = accepts first-none (answered-none a)
comes (x ∷ xs) a = split x.applies refl (comes xs a)
  where
    split : (b : Bool) → x.applies ≡ b → Comes xs a → Comes (x ∷ xs) a
    split true e rest = refuses x.refusal (first-here x xs e) (answered-here x xs a e)
    split false e (accepts n s) = accepts (first-later x xs e ∙ n) (answered-later x xs a e ∙ s)
    split false e (refuses r n s) = refuses r (first-later x xs e ∙ n) (answered-later x xs a e ∙ s)

-- What is told of an answer goes by the number, if it does so of what is accepted and of each refusal.
pub by-number : {A B : Type 0} (f : Result A Refusal → B) (g : ℕ → B) (xs : List Test) (a : A)
    → f (Ok a) ≡ g 0 → ((r : Refusal) → f (Err r) ≡ g (number r)) → f (answered xs a) ≡ g (first xs)
by-number f g xs a ok err = split (comes xs a)
  where
    split : Comes xs a → f (answered xs a) ≡ g (first xs)
    split (accepts n s) = ap f s ∙ ok ∙ sym (ap g n)
    split (refuses r n s) = ap f s ∙ err r ∙ sym (ap g n)

-- Number 0 accepts.
pub answered-free : {A : Type 0} (xs : List Test) (a : A) → first xs ≡ 0 → answered xs a ≡ Ok a
answered-free xs a h = split (comes xs a)
  where
    split : Comes xs a → answered xs a ≡ Ok a
    split (accepts n s) = s
    split (refuses r n s) = absurd (omega (arith, h, n, number-above r))

-- Any other refuses, whatever the call is for.
pub answered-refused : {A : Type 0} (xs : List Test) (n : ℕ) → first xs ≡ suc n → (r : Refusal) × (number r ≡ suc n) × ((a : A) → answered xs a ≡ Err r)
answered-refused [] n h = absurd (omega (arith, h, first-none))
answered-refused {A = A} (x ∷ xs) n h = split x.applies refl (answered-refused {A = A} xs n)
  where
    split : (b : Bool) → x.applies ≡ b
        → (first xs ≡ suc n → (r : Refusal) × (number r ≡ suc n) × ((a : A) → answered xs a ≡ Err r))
        → (r : Refusal) × (number r ≡ suc n) × ((a : A) → answered (x ∷ xs) a ≡ Err r)
    split true e rest = (x.refusal, sym (first-here x xs e) ∙ h, λ a. answered-here x xs a e)
    split false e rest =
        let back = rest (sym (first-later x xs e) ∙ h) in
        (back.0, back.1, λ a. answered-later x xs a e ∙ back.2 a)

-- An accepted call has number 0.
pub first-accepted : {A : Type 0} (xs : List Test) (a b : A) → answered xs a ≡ Ok b → first xs ≡ 0
first-accepted xs a b h = split (comes xs a)
  where
    split : Comes xs a → first xs ≡ 0
    split (accepts n s) = n
    split (refuses r n s) = absurd (cc (sym s ∙ h))

-- A refused one has the number of its refusal.
pub first-refused : {A : Type 0} (xs : List Test) (a : A) (r : Refusal) → answered xs a ≡ Err r → first xs ≡ number r
first-refused xs a r h = split (comes xs a)
  where
    split : Comes xs a → first xs ≡ number r
    split (accepts n s) = absurd (cc (sym s ∙ h))
    split (refuses q n s) = n ∙ ap number (cc (sym s ∙ h))

-- A list that refuses nothing is passed over whole.
pub answered-after : {A : Type 0} (xs ys : List Test) (a : A) → NoneApplies xs → answered (xs ++ ys) a ≡ answered ys a
answered-after [] ys a k = refl
answered-after (x ∷ xs) ys a k = answered-later x (xs ++ ys) a k.0 ∙ answered-after xs ys a k.1

-- ---- a list tried part by part, as code tries it: what one part answers is handed on, or the next part is tried

-- What a list accepts for one purpose, it lets pass for another, with more behind it.
pub answered-passed : {A B : Type 0} (xs ys : List Test) (a b : A) (c : B) → answered xs a ≡ Ok b → answered (xs ++ ys) c ≡ answered ys c
answered-passed [] ys a b c h = refl
answered-passed (x ∷ xs) ys a b c h = split x.applies refl (answered-passed xs ys a b c)
  where
    split : (t : Bool) → x.applies ≡ t → (answered xs a ≡ Ok b → answered (xs ++ ys) c ≡ answered ys c) → answered (x ∷ xs ++ ys) c ≡ answered ys c
    split true e rest = absurd (cc (sym (answered-here x xs a e) ∙ h))
    split false e rest = answered-later x (xs ++ ys) c e ∙ rest (sym (answered-later x xs a e) ∙ h)

-- What it refuses for one purpose, it refuses for another, with more behind it.
pub answered-before : {A B : Type 0} (xs ys : List Test) (a : A) (c : B) (r : Refusal) → answered xs a ≡ Err r → answered (xs ++ ys) c ≡ Err r
answered-before [] ys a c r h = absurd (cc (sym (answered-none a) ∙ h))
answered-before (x ∷ xs) ys a c r h = split x.applies refl (answered-before xs ys a c r)
  where
    split : (t : Bool) → x.applies ≡ t → (answered xs a ≡ Err r → answered (xs ++ ys) c ≡ Err r) → answered (x ∷ xs ++ ys) c ≡ Err r
    split true e rest = answered-here x (xs ++ ys) c e ∙ cc (sym (answered-here x xs a e) ∙ h)
    split false e rest = answered-later x (xs ++ ys) c e ∙ rest (sym (answered-later x xs a e) ∙ h)

-- The same without anything behind it.
pub answered-alike : {A B : Type 0} (xs : List Test) (a : A) (c : B) (r : Refusal) → answered xs a ≡ Err r → answered xs c ≡ Err r
answered-alike [] a c r h = absurd (cc (sym (answered-none a) ∙ h))
answered-alike (x ∷ xs) a c r h = split x.applies refl (answered-alike xs a c r)
  where
    split : (t : Bool) → x.applies ≡ t → (answered xs a ≡ Err r → answered xs c ≡ Err r) → answered (x ∷ xs) c ≡ Err r
    split true e rest = answered-here x xs c e ∙ cc (sym (answered-here x xs a e) ∙ h)
    split false e rest = answered-later x xs c e ∙ rest (sym (answered-later x xs a e) ∙ h)

-- The first part, which answered w, refuses: that is what is handed on.
pub stops : {A B : Type 0} (xs ys : List Test) (a : A) (b : B) (w : Result A Refusal) (v : Result B Refusal) (r : Refusal)
    → w ≡ Err r → v ≡ Err r → w ≡ answered xs a → v ≡ answered (xs ++ ys) b
stops xs ys a b w v r e f h = f ∙ sym (answered-before xs ys a b r (sym h ∙ e))

-- It lets pass, and the others give the answer.
pub goes : {A B : Type 0} (xs ys : List Test) (a : A) (b : B) (w : Result A Refusal) (v : Result B Refusal) (c : A)
    → w ≡ Ok c → w ≡ answered xs a → v ≡ answered ys b → v ≡ answered (xs ++ ys) b
goes xs ys a b w v c e h f = f ∙ sym (answered-passed xs ys a c b (sym h ∙ e))

-- One test, of which code found the answer t, at the front of a list.
module _ (x : Test) (t : Bool) (e : t ≡ x.applies) where
  same-test : answered {A = Unit {0}} (test x.refusal t ∷ []) tt ≡ answered (x ∷ []) tt
  same-test = ap (λ b. answered (test x.refusal b ∷ []) tt) e

  -- It refuses: that is what is handed on.
  pub refused : {A : Type 0} (ys : List Test) (b : A) (w : Result (Unit {0}) Refusal) (v : Result A Refusal) (r : Refusal)
      → w ≡ Err r → v ≡ Err r → w ≡ answered (test x.refusal t ∷ []) tt → v ≡ answered (x ∷ ys) b
  refused ys b w v r f g h = stops (x ∷ []) ys tt b w v r f g (h ∙ same-test)

  -- It lets pass, and the others give the answer.
  pub let_through : {A : Type 0} (ys : List Test) (b : A) (w : Result (Unit {0}) Refusal) (v : Result A Refusal)
      → w ≡ Ok tt → w ≡ answered (test x.refusal t ∷ []) tt → v ≡ answered ys b → v ≡ answered (x ∷ ys) b
  let_through ys b w v f h g = goes (x ∷ []) ys tt b w v tt f (h ∙ same-test) g

  -- No other follows.
  pub alone : (w : Result (Unit {0}) Refusal) → w ≡ answered (test x.refusal t ∷ []) tt → w ≡ answered (x ∷ []) tt
  alone w h = h ∙ same-test

  -- What lets pass does not apply.
  pub clear : (w : Result (Unit {0}) Refusal) → w ≡ Ok tt → w ≡ answered (test x.refusal t ∷ []) tt → x.applies ≡ false
  clear w f h = (none-applies (x ∷ []) (first-accepted (x ∷ []) tt tt (sym (h ∙ same-test) ∙ f))).0
