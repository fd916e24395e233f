-- What stands at the front of a text: a number, digit by digit, a fault, or a word.
-- Rests on specs, Fields, and on `decimal`.
use Rattle.std.proofs.Common.{◌≡◌, refl, sym, ap, ◌∙◌, subst, ℕ, ◌+◌, ◌-◌, ◌*◌, ◌^◌, ◌<◌, ◌≤◌, Bool, true, false, true≢false, ◌&&◌, eqb, ltb, ne_eqb, eqb-true, lt-ltb, List, [], ◌∷◌, ◌++◌, length, get_or, take, drop, length-append, append_assoc, Option, Some, None, zero-lt-suc, arith}
use native.Mathlib.Nat.{pow-le-pow_right}
use native.Mathlib.Decide.{dec_le}
use Rattle.std.proofs.Math.Seq.{take-length}
use Rattle.std.specs.Bool.{then_some}
use Rattle.rules.specs.Text.{decimal, digits, value_after, decimal_value}
use Rattle.rules.specs.Sheet.{same_numbers}
use Rattle.rules.proofs.Booleans.{and_left, and-false, is_false}
use Rattle.rules.proofs.Sheets.{same-equal, equal-same}
use Rattle.rules.proofs.Decimal.{AllDigits, decimal-value, decimal-digits}
use Rattle.decimal.specs.Numerals.{is_numeral}
use Rattle.decimal.proofs.Numerals.{decimal-numeral, numeral-decimal, none-not, letter-not, long-not, nought-not, Read, read-none, read-more}
use Rattle.csv_text.specs.Shapes.{signed, unsigned, is_fault, fault_in}
use Rattle.csv_rows.specs.declared.fields.Signed.{Signed}
use Rattle.csv_rows.specs.Fields.{numeral_said, signed_said, fault_said, word_said, Plain, SaysPlain, Longest}
use Rattle.csv_rows.proofs.Pieces.{first-byte}

-- ---- what is said of bytes

-- Nothing is said where a test fails.
pub said-not : {A : Type 0} (b : Bool) (x : A) → b ≡ false → then_some b x ≡ None
said-not b x e = rw e

-- Where something is said, the test holds.
pub said-true : {A : Type 0} (b : Bool) (x y : A) → then_some b x ≡ Some y → (b ≡ true) × (x ≡ y)
said-true true x y e = (refl, cc)
said-true false x y e = absurd cc

-- Where nothing is said, it fails.
pub said-false : {A : Type 0} (b : Bool) (x : A) → then_some b x ≡ None → b ≡ false
said-false true x e = absurd cc
said-false false x e = refl

-- ---- a number

-- Bytes of which a number is said are its digits.
pub said-decimal : (f : List ℕ) (n : ℕ) → numeral_said f ≡ Some n → decimal n ≡ f
said-decimal f n e = let both = said-true (is_numeral f) (decimal_value f) n e in ap decimal (sym both.1) ∙ numeral-decimal f both.0

-- Digits are plain.
pub digits-plain : (p : List ℕ) → AllDigits p → Plain p
digits-plain [] h = tt
digits-plain (b ∷ p) h = (λ e. omega (arith, h.0), λ e. omega (arith, h.0), λ e. omega (arith, h.0), digits-plain p h.2)

-- So is a numeral.
pub numeral-plain : (f : List ℕ) → is_numeral f ≡ true → Plain f
numeral-plain f h = digits-plain f (subst AllDigits (numeral-decimal f h) (decimal-digits (decimal_value f)))

pub numerals-plain : SaysPlain numeral_said
numerals-plain f x e = numeral-plain f (said-true (is_numeral f) (decimal_value f) x e).0

-- A number of ten digits at most is said by its digits.
decimal-said : (f : List ℕ) (n : ℕ) → n < 10 ^ 10 → decimal n ≡ f → numeral_said f ≡ Some n
decimal-said f n h e = subst (λ (g : List ℕ). numeral_said g ≡ Some n) e (rw (decimal-numeral n h, decimal-value n))

-- The digits up to `rest` are the number n, of ten digits at most.
pub record Reading (t rest : List ℕ) (n : ℕ) : Type 0 where
  pub done : List ℕ
  pub whole : t ≡ done ++ rest
  pub read : Read done n
  pub small : n < 10 ^ 10

-- At first there are none.
pub reading-none : (t : List ℕ) → Reading t t 0
reading-none t = record { done = []; whole = refl; read = read-none; small = omega arith }

module _ {t rest : List ℕ} {n : ℕ} (r : Reading t rest n) where
  -- One digit more.
  pub reading-more : (v : ℕ) (behind : List ℕ) → 0 < length rest → behind ≡ take (length rest - 1) (drop 1 rest) → v ≡ get_or rest 0 0 - 48
      → 48 ≤ get_or rest 0 0 → get_or rest 0 0 ≤ 57 → (0 < length t → get_or t 0 0 ≡ 48 → ⊥) → n ≤ 999999999 → Reading t behind (10 * n + v)
  reading-more v behind h f q low high other few =
      let d : ℕ = get_or rest 0 0 in
      let e : rest ≡ d ∷ behind = first-byte rest d h refl ∙ ap (λ (s : List ℕ). d ∷ s) (sym f) in
      rw q
      (record {
        done = r.done ++ d ∷ [];
        whole = r.whole ∙ ap (λ (s : List ℕ). r.done ++ s) e ∙ sym (append_assoc r.done (d ∷ []) behind);
        read = read-more r.done n d r.read (first d e r.done r.whole) low high;
        small = omega arith;
      })
    where
      first : (d : ℕ) → rest ≡ d ∷ behind → (p : List ℕ) → t ≡ p ++ rest → length p ≡ 0 → d ≡ 48 → ⊥
      first d e [] w l z = other (omega (arith, ap length (w ∙ e))) (ap (λ (s : List ℕ). get_or s 0 0) (w ∙ e) ∙ z)
      first d e (b ∷ p) w l z = omega arith

  module _ (stop : 0 < length rest → 48 ≤ get_or rest 0 0 → get_or rest 0 0 ≤ 57 → 999999999 < n) where
    -- No numeral goes on as the text does, where no digit follows or ten were read.
    no-longer : (b : ℕ) (p s : List ℕ) → rest ≡ b ∷ p ++ s → is_numeral (r.done ++ b ∷ p) ≡ false
    no-longer b p s e = split (dec_le 10 (length r.done))
      where
        there : get_or rest 0 0 ≡ b
        there = ap (λ (l : List ℕ). get_or l 0 0) e

        split : Dec (10 ≤ length r.done) → is_numeral (r.done ++ b ∷ p) ≡ false
        split (yes ten) = long-not (r.done ++ b ∷ p) (omega (arith, length-append r.done (b ∷ p)))
        split (no few) =
            let short : length r.done ≤ 9 = omega arith in
            let nine : 10 ^ length r.done ≤ 10 ^ 9 = pow-le-pow_right (zero-lt-suc 9) short in
            letter-not r.done b p (λ low high.
            let many : 999999999 < n = stop (omega (arith, ap length e)) (omega (arith, there)) (omega (arith, there)) in
            omega (arith, r.read.small))

    -- There is a number.
    pub reading-some : 0 < n → Longest numeral_said t n rest
    reading-some h =
        record {
          front = r.done;
          whole = r.whole;
          said = decimal-said r.done n r.small (r.read.whole (some r.done r.read));
          longest = λ b p s e. said-not (is_numeral (r.done ++ b ∷ p)) _ (no-longer b p s e);
        }
      where
        some : (p : List ℕ) → Read p n → 0 < length p
        some [] q = absurd (omega (arith, q.none refl))
        some (b ∷ p) q = omega arith

    -- There is none.
    pub reading-nothing : n ≡ 0 → (p s : List ℕ) → t ≡ p ++ s → numeral_said p ≡ None
    reading-nothing z p s e = said-not (is_numeral p) (decimal_value p) (go r.done r.read r.whole no-longer p e)
      where
        go : (done : List ℕ) → Read done n → t ≡ done ++ rest → ((b : ℕ) (p s : List ℕ) → rest ≡ b ∷ p ++ s → is_numeral (done ++ b ∷ p) ≡ false)
            → (p : List ℕ) → t ≡ p ++ s → is_numeral p ≡ false
        go [] q w longer [] f = none-not
        go [] q w longer (b ∷ p) f = longer b p s (sym w ∙ f)
        go (c ∷ done) q w longer p f = absurd (omega (arith, q.some (omega arith)))

-- 0 alone.
pub reading-zero : (t rest : List ℕ) → t ≡ 48 ∷ rest → Longest numeral_said t 0 rest
unfolding decimal digits
reading-zero t rest e =
    record { front = 48 ∷ []; whole = e; said = decimal-said (48 ∷ []) 0 (omega arith) refl; longest = λ b p s f. said-not (is_numeral (48 ∷ b ∷ p)) _ (nought-not b p) }

-- ---- a number behind a minus, and a fault

-- Behind a minus, if a test says so.
abbrev pub sign : Bool → List ℕ → List ℕ
sign true f = 45 ∷ f
sign false f = f

-- Where a minus stands in front, the bytes behind it are left.
pub first-signed : (t : List ℕ) → 0 < length t → get_or t 0 0 ≡ 45 → (true ≡ signed t) × (take (length t - 1) (drop 1 t) ≡ unsigned t)
unfolding signed unsigned
first-signed [] h e = absurd (omega arith)
first-signed (b ∷ t) h e =
    let n : length (b ∷ t) - 1 ≡ length t = omega arith in
    rw (e, n, take-length t) (refl, refl)

-- Where no minus stands in front, all bytes are left.
pub first-unsigned : (t : List ℕ) → (0 < length t → get_or t 0 0 ≡ 45 → ⊥) → (false ≡ signed t) × (t ≡ unsigned t)
unfolding signed unsigned
first-unsigned [] h = (refl, refl)
first-unsigned (b ∷ t) h = let bare : signed (b ∷ t) ≡ false = ne_eqb b 45 (h (omega arith)) in (sym bare, rw (bare, unsigned))

-- A text by its minus and the bytes behind it. Without one, none stands in front of those.
unsigned-sign : (t : List ℕ) → (t ≡ sign (signed t) (unsigned t)) × (signed t ≡ false → signed (unsigned t) ≡ false)
unfolding signed unsigned
unsigned-sign [] = (refl, λ h. refl)
unsigned-sign (b ∷ t) = split (eqb b 45) refl
  where
    split : (x : Bool) → eqb b 45 ≡ x
        → (b ∷ t ≡ sign (signed (b ∷ t)) (unsigned (b ∷ t))) × (signed (b ∷ t) ≡ false → signed (unsigned (b ∷ t)) ≡ false)
    split true e = (rw (e, unsigned, eqb-true b 45 e), λ h. absurd (true≢false (sym e ∙ h)))
    split false e = (rw (e, unsigned), λ h. rw (e, unsigned) e)

-- The same of a minus and bytes that are known to be those.
pub minus-is : (t ds : List ℕ) (absent : Bool) → absent ≡ signed t → ds ≡ unsigned t → (t ≡ sign absent ds) × (absent ≡ false → signed ds ≡ false)
minus-is t ds absent e f = rw (e, f) (unsigned-sign t)

-- Then none stands in front of a front.
front-unsigned : (p s : List ℕ) → signed (p ++ s) ≡ false → signed p ≡ false
unfolding signed
front-unsigned [] s h = refl
front-unsigned (b ∷ p) s h = h

-- What is said of bytes behind a minus or without one, as a number,
sign-number : (absent : Bool) (p : List ℕ) → (absent ≡ false → signed p ≡ false)
    → signed_said (sign absent p) ≡ then_some (is_numeral p) (record { value = decimal_value p; absent = absent })
unfolding signed unsigned
sign-number true p h = refl
sign-number false p h = rw (h refl, unsigned)

-- and as a fault.
sign-fault : (absent : Bool) (p : List ℕ) → (absent ≡ false → signed p ≡ false)
    → fault_said (sign absent p) ≡ then_some (is_numeral p && ltb 0 (decimal_value p)) (record { place = decimal_value p - 1; absent = absent })
unfolding is_fault fault_in signed unsigned
sign-fault true p h = refl
sign-fault false p h = rw (h refl, unsigned)

-- The same of more bytes behind.
sign-append : (absent : Bool) (p s : List ℕ) → sign absent (p ++ s) ≡ sign absent p ++ s
sign-append true p s = refl
sign-append false p s = refl

-- No byte is a number,
no-number : signed_said [] ≡ None
unfolding signed unsigned
no-number = rw none-not

-- or a fault.
no-fault : fault_said [] ≡ None
unfolding is_fault signed unsigned
no-fault = rw none-not

-- Nor is 0 a fault.
zero-not : is_numeral (48 ∷ []) && ltb 0 (decimal_value (48 ∷ [])) ≡ false
unfolding decimal_value value_after
zero-not = and-false (is_numeral (48 ∷ []))

-- Bytes that are a number without their minus are plain.
unsigned-plain : (f : List ℕ) → is_numeral (unsigned f) ≡ true → Plain f
unfolding signed unsigned
unsigned-plain [] h = tt
unsigned-plain (b ∷ f) h = split (eqb b 45) refl h
  where
    split : (s : Bool) → eqb b 45 ≡ s → is_numeral (unsigned (b ∷ f)) ≡ true → Plain (b ∷ f)
    split true s h =
        let minus = eqb-true b 45 s in
        (λ e. omega (arith, minus), λ e. omega (arith, minus), λ e. omega (arith, minus), numeral-plain f (rw (s, unsigned) at h))
    split false s h = numeral-plain (b ∷ f) (rw (s, unsigned) at h)

-- So are those of which a number is said, or a fault.
pub signed-plain : SaysPlain signed_said
signed-plain f x e = unsigned-plain f (said-true (is_numeral (unsigned f)) _ x e).0

pub faults-plain : SaysPlain fault_said
unfolding is_fault
faults-plain f x e = unsigned-plain f (and_left (is_numeral (unsigned f)) _ (said-true (is_fault f) (fault_in f) x e).0)

module _ {t ds : List ℕ} {absent : Bool} (e : t ≡ sign absent ds) (bare : absent ≡ false → signed ds ≡ false) where
  -- No minus stands in front of digits that have none.
  digits-bare : (q s : List ℕ) → ds ≡ q ++ s → absent ≡ false → signed q ≡ false
  digits-bare q s f z = front-unsigned q s (sym (ap signed f) ∙ bare z)

  -- Of no front anything is said, if nothing is of the fronts of the digits.
  fronts-none : {A : Type 0} (says : List ℕ → Option A) → says [] ≡ None → ((q s : List ℕ) → ds ≡ q ++ s → says (sign absent q) ≡ None)
      → (p s : List ℕ) → t ≡ p ++ s → says p ≡ None
  fronts-none says none n p s f = go absent p (sym e ∙ f) n
    where
      go : (a : Bool) (p : List ℕ) → sign a ds ≡ p ++ s → ((q s : List ℕ) → ds ≡ q ++ s → says (sign a q) ≡ None) → says p ≡ None
      go true [] f n = none
      go true (c ∷ p) f n = let minus : c ≡ 45 = cc in let more : ds ≡ p ++ s = cc in rw minus (n p s more)
      go false p f n = n p s f

  -- There is no number.
  module _ (n : (q s : List ℕ) → ds ≡ q ++ s → numeral_said q ≡ None) where
    pub signed-none : (p s : List ℕ) → t ≡ p ++ s → signed_said p ≡ None
    signed-none = fronts-none signed_said no-number (λ q s f.
        sign-number absent q (digits-bare q s f) ∙ said-not _ _ (said-false (is_numeral q) (decimal_value q) (n q s f)))

  module _ {rest : List ℕ} {n : ℕ} (l : Longest numeral_said ds n rest) where
    -- The number's front.
    number-is : (is_numeral l.front ≡ true) × (decimal_value l.front ≡ n)
    number-is = said-true (is_numeral l.front) (decimal_value l.front) n l.said

    -- What stands behind the number is left, where no longer front is a number either.
    longest-sign : {A : Type 0} (says : List ℕ → Option A) (x : A) → says (sign absent l.front) ≡ Some x
        → ((q : List ℕ) → (absent ≡ false → signed q ≡ false) → is_numeral q ≡ false → says (sign absent q) ≡ None) → Longest says t x rest
    longest-sign says x said none =
        record {
          front = sign absent l.front;
          whole = e ∙ ap (sign absent) l.whole ∙ sign-append absent l.front rest;
          said = said;
          longest = λ b p s f.
              let more : ds ≡ (l.front ++ b ∷ p) ++ s = l.whole ∙ ap (λ (r : List ℕ). l.front ++ r) f ∙ sym (append_assoc l.front (b ∷ p) s) in
              ap says (sym (sign-append absent l.front (b ∷ p)))
              ∙ none (l.front ++ b ∷ p) (digits-bare (l.front ++ b ∷ p) s more) (said-false (is_numeral (l.front ++ b ∷ p)) _ (l.longest b p s f));
        }

    -- There is a number.
    pub signed-some : Longest signed_said t (record { value = n; absent = absent }) rest
    signed-some =
        longest-sign signed_said _
        (sign-number absent l.front (digits-bare l.front rest l.whole) ∙ rw (number-is.0, number-is.1))
        (λ q b h. sign-number absent q b ∙ said-not _ _ h)

    -- If it is 0, there is no fault.
    fault-zero : (0 < n → ⊥) → (p s : List ℕ) → t ≡ p ++ s → fault_said p ≡ None
    unfolding decimal digits
    fault-zero h = fronts-none fault_said no-fault (λ q s f. sign-fault absent q (digits-bare q s f) ∙ said-not _ _ (go q s (sym zero ∙ f)))
      where
        zero : ds ≡ 48 ∷ rest
        zero =
            let none : n ≡ 0 = omega (arith, h) in
            l.whole ∙ ap (λ (p : List ℕ). p ++ rest) (sym (said-decimal l.front n l.said) ∙ ap decimal none)

        go : (q s : List ℕ) → 48 ∷ rest ≡ q ++ s → is_numeral q && ltb 0 (decimal_value q) ≡ false
        go [] s f = rw none-not
        go (c ∷ []) s f = let same : c ≡ 48 = cc in rw same zero-not
        go (c ∷ d ∷ q) s f = let same : c ≡ 48 = cc in rw (same, nought-not d q)

    -- Else there is one.
    fault-some : 0 < n → Longest fault_said t (record { place = n - 1; absent = absent }) rest
    fault-some h =
        longest-sign fault_said _
        (sign-fault absent l.front (digits-bare l.front rest l.whole) ∙ rw (number-is.0, number-is.1, lt-ltb 0 n h))
        (λ q b k. sign-fault absent q b ∙ said-not _ _ (rw k))

-- ---- a fault by its number

-- Bytes that are no number are no fault.
pub fault-none : (f : List ℕ) → signed_said f ≡ None → fault_said f ≡ None
unfolding is_fault
fault-none f h = said-not _ _ (rw (said-false (is_numeral (unsigned f)) _ h))

-- A numeral that no minus stands in front of has none in front of more either.
more-bare : (q s : List ℕ) → is_numeral q ≡ true → signed q ≡ false → signed (q ++ s) ≡ false
unfolding signed
more-bare [] s h b = absurd (true≢false (sym h ∙ none-not))
more-bare (c ∷ q) s h b = b

module _ {t rest : List ℕ} {x : Signed} (l : Longest signed_said t x rest) where
  -- The digits of the number, and its sign.
  number-said : (is_numeral (unsigned l.front) ≡ true) × (record { value = decimal_value (unsigned l.front); absent = signed l.front } ≡ x)
  number-said = said-true (is_numeral (unsigned l.front)) _ x l.said

  same-sign : signed l.front ≡ x.absent
  same-sign = ap (λ (y : Signed). y.absent) number-said.1

  -- The front by them.
  front-sign : l.front ≡ sign x.absent (unsigned l.front)
  front-sign = (unsigned-sign l.front).0 ∙ ap (λ (a : Bool). sign a (unsigned l.front)) same-sign

  -- No minus stands in front of the digits if the number has none.
  front-bare : (s : List ℕ) → x.absent ≡ false → signed (unsigned l.front ++ s) ≡ false
  front-bare s e = more-bare (unsigned l.front) s number-said.0 ((unsigned-sign l.front).1 (same-sign ∙ e))

  -- The text behind its minus.
  text-sign : t ≡ sign x.absent (unsigned l.front ++ rest)
  text-sign = l.whole ∙ ap (λ (f : List ℕ). f ++ rest) front-sign ∙ sym (sign-append x.absent (unsigned l.front) rest)

  -- The digits are the longest number there.
  digits-longest : Longest numeral_said (unsigned l.front ++ rest) x.value rest
  digits-longest =
      record {
        front = unsigned l.front;
        whole = refl;
        said = rw number-said.0 (ap (λ (y : Signed). Some y.value) number-said.1);
        longest = λ b p s f.
            let more : l.front ++ b ∷ p ≡ sign x.absent (unsigned l.front ++ b ∷ p) =
            ap (λ (q : List ℕ). q ++ b ∷ p) front-sign ∙ sym (sign-append x.absent (unsigned l.front) (b ∷ p)) in
            said-not _ _
            (said-false _ _
            (sym (sign-number x.absent (unsigned l.front ++ b ∷ p) (front-bare (b ∷ p))) ∙ ap signed_said (sym more) ∙ l.longest b p s f));
      }

  -- If it is 0, there is no fault.
  pub fault-nought : (0 < x.value → ⊥) → (p s : List ℕ) → t ≡ p ++ s → fault_said p ≡ None
  fault-nought = fault-zero text-sign (front-bare rest) digits-longest

  -- Else there is the one of that number.
  pub fault-numbered : 0 < x.value → Longest fault_said t (record { place = x.value - 1; absent = x.absent }) rest
  fault-numbered = fault-some text-sign (front-bare rest) digits-longest

-- ---- a word

-- It is plain.
pub words-plain : (w : List ℕ) → Plain w → SaysPlain (word_said w)
words-plain w p f x e = subst Plain (sym (same-equal f w (said-true (same_numbers f w) tt x e).0)) p

-- Another front.
pub word-none : (w t : List ℕ) → ((s : List ℕ) → t ≡ w ++ s → ⊥) → (p s : List ℕ) → t ≡ p ++ s → word_said w p ≡ None
word-none w t n p s e = said-not (same_numbers p w) tt (is_false (same_numbers p w) (λ h. n s (e ∙ ap (λ (l : List ℕ). l ++ s) (same-equal p w h))))

-- The word.
pub word-some : (w t rest : List ℕ) → t ≡ w ++ rest → Longest (word_said w) t tt rest
word-some w t rest e =
    record {
      front = w;
      whole = e;
      said = rw (equal-same w);
      longest = λ b p s f. said-not (same_numbers (w ++ b ∷ p) w) tt (is_false _ (λ h. absurd (omega (arith, ap length (same-equal _ w h), length-append w (b ∷ p)))));
    }
