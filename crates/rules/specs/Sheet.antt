-- The sheet: as a value, as bytes, and what reading finds in any list of bytes (RULES 7).
-- Where a body starts is defined by counting on from the weights; a stated place is only compared with that.
use Rattle.std.specs.Prelude.{◌≡◌, Option, Some, None, Result, Bool, true, false, not, ◌&&◌, ◌||◌, List, [], ◌∷◌, ◌++◌, ℕ, zero, suc, ◌+◌, ◌*◌, ◌/◌, ◌%◌, ◌<◌, ◌≤◌, length, take, drop, get_or, eqb, ltb}
use Rattle.rules.specs.Members.{In}
use Rattle.rules.specs.Rounding.{S}
use Rattle.rules.specs.Table.{bit, Way, Table, rows, ways, faults}
use Rattle.rules.specs.Refusals.{Test, test, first, answered, faults_outside, cues_outside, not_rising, crowded, overweight, mode_above}
use Rattle.rules.specs.Refusals.{way_refusals, limit_refusals}
use Rattle.rules.specs.declared.Limits.{Limits}
use Rattle.rules.specs.declared.Head.{Head}
use Rattle.rules.specs.declared.Entry.{Entry}
use Rattle.rules.specs.declared.Refusal.{Refusal}

-- ---- numbers as bytes, little-endian

-- The k lowest bytes of a number, the lowest first.
unfoldable pub little : ℕ → ℕ → List ℕ
little zero x = []
little (suc k) x = x % 256 ∷ little k (x / 256)

-- The number that bytes give, the lowest first.
unfoldable pub value : List ℕ → ℕ
value [] = 0
value (b ∷ bs) = b + 256 * value bs

-- The number in the k bytes at position i.
unfoldable pub field : ℕ → ℕ → List ℕ → ℕ
field k i bs = value (take k (drop i bs))

-- n such numbers, the first at position i and each `stride` after the one before.
unfoldable pub column : ℕ → ℕ → ℕ → ℕ → List ℕ → List ℕ
column k stride i zero bs = []
column k stride i (suc n) bs = field k i bs ∷ column k stride (i + stride) n bs

-- Every number of a list is below a limit: below 256, it is a list of bytes.
abbrev pub AllBelow : ℕ → List ℕ → Type 0
AllBelow limit [] = Unit {0}
AllBelow limit (x ∷ xs) = (x < limit) × AllBelow limit xs

-- ---- a sheet as a value

-- A cue: its number, and a present and an absent word for each of its ways.
pub record Cue : Type 0 where
  pub number : ℕ
  pub present : List ℕ
  pub absent : List ℕ

-- A sheet: the limits of its runs, the weights of the faults, the cues.
pub record Sheet : Type 0 where
  pub limits : Limits
  pub weights : List ℕ
  pub cues : List Cue

-- A cue's table.
abbrev pub table_of : List ℕ → Cue → Table
table_of ws c = record { weights = ws; present = c.present; absent = c.absent }

-- The lists that the writer is given. Reading finds the same lists in a sheet's bytes.
pub record Lists : Type 0 where
  pub limits : Limits
  pub weights : List ℕ
  pub numbers : List ℕ
  pub counts : List ℕ
  pub present : List ℕ
  pub absent : List ℕ

-- The sum of a list.
unfoldable pub total : List ℕ → ℕ
total [] = 0
total (x ∷ xs) = x + total xs

-- The cues, each with as many words as it counts.
unfoldable pub deal : List ℕ → List ℕ → List ℕ → List ℕ → List Cue
deal [] ks ps qs = []
deal (n ∷ ns) [] ps qs = []
deal (n ∷ ns) (k ∷ ks) ps qs = record { number = n; present = take k ps; absent = take k qs } ∷ deal ns ks (drop k ps) (drop k qs)

-- The sheet that lists give.
unfoldable pub sheet_of : Lists → Sheet
sheet_of x = record { limits = x.limits; weights = x.weights; cues = deal x.numbers x.counts x.present x.absent }

-- The numbers, the counts of ways, and all words, of a list of cues.
unfoldable pub numbers_of : List Cue → List ℕ
numbers_of [] = []
numbers_of (c ∷ cs) = c.number ∷ numbers_of cs

unfoldable pub counts_of : List Cue → List ℕ
counts_of [] = []
counts_of (c ∷ cs) = length c.present ∷ counts_of cs

unfoldable pub present_of : List Cue → List ℕ
present_of [] = []
present_of (c ∷ cs) = c.present ++ present_of cs

unfoldable pub absent_of : List Cue → List ℕ
absent_of [] = []
absent_of (c ∷ cs) = c.absent ++ absent_of cs

-- The lists of a sheet.
unfoldable pub lists_of : Sheet → Lists
lists_of s =
    record {
      limits = s.limits;
      weights = s.weights;
      numbers = numbers_of s.cues;
      counts = counts_of s.cues;
      present = present_of s.cues;
      absent = absent_of s.cues;
    }

-- ---- its bytes

-- Where the weights start, after the head and the contents of c cues.
unfoldable pub weights_start : ℕ → ℕ
weights_start c = 12 + 8 * c

-- Where the bodies start, after the weights of n faults.
unfoldable pub bodies_start : ℕ → ℕ → ℕ
bodies_start c n = weights_start c + 4 * n

-- Where each body starts: the first at a position, every other where the one before it ends.
unfoldable pub starts : ℕ → List ℕ → List ℕ
starts i [] = []
starts i (k ∷ ks) = i ∷ starts (i + 16 * k) ks

-- The head: faults, cues, allowance, budget, mode.
unfoldable pub head_bytes : ℕ → ℕ → Limits → List ℕ
head_bytes n c m = little 2 n ++ little 2 c ++ little 4 m.allowance ++ little 2 m.budget ++ little 2 m.mode

-- The contents: number, ways and place of each cue, whose bodies start at position i.
unfoldable pub contents_bytes : ℕ → List Cue → List ℕ
contents_bytes i [] = []
contents_bytes i (c ∷ cs) = little 2 c.number ++ little 2 (length c.present) ++ little 4 i ++ contents_bytes (i + 16 * length c.present) cs

-- The weights.
unfoldable pub weights_bytes : List ℕ → List ℕ
weights_bytes [] = []
weights_bytes (w ∷ ws) = little 4 w ++ weights_bytes ws

-- A body: present word, absent word for each way.
unfoldable pub body_bytes : List ℕ → List ℕ → List ℕ
body_bytes [] qs = []
body_bytes (p ∷ ps) [] = []
body_bytes (p ∷ ps) (q ∷ qs) = little 8 p ++ little 8 q ++ body_bytes ps qs

-- The bodies, in contents order without gaps.
unfoldable pub bodies_bytes : List Cue → List ℕ
bodies_bytes [] = []
bodies_bytes (c ∷ cs) = body_bytes c.present c.absent ++ bodies_bytes cs

-- The bytes of a sheet.
unfoldable pub encode : Sheet → List ℕ
encode s =
    head_bytes (length s.weights) (length s.cues) s.limits
    ++ contents_bytes (bodies_start (length s.cues) (length s.weights)) s.cues
    ++ weights_bytes s.weights
    ++ bodies_bytes s.cues

-- ---- what reading finds

abbrev pub faults_in : List ℕ → ℕ
faults_in bs = field 2 0 bs

abbrev pub cues_in : List ℕ → ℕ
cues_in bs = field 2 2 bs

abbrev pub limits_in : List ℕ → Limits
limits_in bs = record { allowance = field 4 4 bs; budget = field 2 8 bs; mode = field 2 10 bs }

abbrev pub numbers_in : List ℕ → List ℕ
numbers_in bs = column 2 8 12 (cues_in bs) bs

abbrev pub counts_in : List ℕ → List ℕ
counts_in bs = column 2 8 14 (cues_in bs) bs

abbrev pub places_in : List ℕ → List ℕ
places_in bs = column 4 8 16 (cues_in bs) bs

abbrev pub weights_in : List ℕ → List ℕ
weights_in bs = column 4 4 (weights_start (cues_in bs)) (faults_in bs) bs

-- Where the bodies of the sheet start.
abbrev pub bodies_in : List ℕ → ℕ
bodies_in bs = bodies_start (cues_in bs) (faults_in bs)

abbrev pub present_in : List ℕ → List ℕ
present_in bs = column 8 16 (bodies_in bs) (total (counts_in bs)) bs

abbrev pub absent_in : List ℕ → List ℕ
absent_in bs = column 8 16 (bodies_in bs + 8) (total (counts_in bs)) bs

-- The lists of a sheet's bytes.
unfoldable pub lists_in : List ℕ → Lists
lists_in bs =
    record {
      limits = limits_in bs;
      weights = weights_in bs;
      numbers = numbers_in bs;
      counts = counts_in bs;
      present = present_in bs;
      absent = absent_in bs;
    }

-- The sheet that bytes give.
unfoldable pub decode : List ℕ → Sheet
decode bs = sheet_of (lists_in bs)

-- ---- refusals of reading

-- Two lists of numbers are equal.
unfoldable pub same_numbers : List ℕ → List ℕ → Bool
same_numbers [] [] = true
same_numbers [] (y ∷ ys) = false
same_numbers (x ∷ xs) [] = false
same_numbers (x ∷ xs) (y ∷ ys) = eqb x y && same_numbers xs ys

-- Reading a sheet: 1 to 8, 10, 12 to 15.
unfoldable pub read_refusals : List ℕ → List Test
read_refusals bs =
    test Refusal.NoHead (ltb (length bs) 12)
    ∷ test Refusal.CountsOutside (faults_outside (faults_in bs) || cues_outside (cues_in bs))
    ∷ test Refusal.ModeAbove (mode_above (limits_in bs))
    ∷ test Refusal.TooShort (ltb (length bs) (bodies_in bs))
    ∷ test Refusal.NotRising (not_rising (numbers_in bs))
    ∷ test Refusal.Crowded (crowded (counts_in bs))
    ∷ test Refusal.Misplaced (not (same_numbers (places_in bs) (starts (bodies_in bs) (counts_in bs))))
    ∷ test Refusal.WrongLength (not (eqb (length bs) (bodies_in bs + 16 * total (counts_in bs))))
    ∷ test Refusal.Overweight (overweight (weights_in bs))
    ∷ (way_refusals (faults_in bs) (rows 0 (present_in bs) (absent_in bs)) ++ limit_refusals (limits_in bs))

-- The number of a list of bytes read as a sheet.
unfoldable pub read_number : List ℕ → ℕ
read_number bs = first (read_refusals bs)

-- The head of a sheet's bytes.
unfoldable pub head_in : List ℕ → Head
head_in bs = record { faults = faults_in bs; cues = cues_in bs; limits = limits_in bs }

-- Reading a whole sheet.
unfoldable pub read_answer : List ℕ → Result Head Refusal
read_answer bs = answered (read_refusals bs) (head_in bs)

-- ---- a reader's call

-- The cue at position i of the contents.
unfoldable pub entry_in : List ℕ → ℕ → Entry
entry_in bs i = record { cue = get_or (numbers_in bs) i 0; ways = get_or (counts_in bs) i 0; start = get_or (starts (bodies_in bs) (counts_in bs)) i 0 }

-- The cue at position i, if the sheet has one there.
abbrev pub entry_if : Bool → Entry → Option Entry
entry_if true e = Some e
entry_if false e = None

-- The call at position i: the sheet's own refusal first, also past the last cue.
unfoldable pub entry_answer : List ℕ → ℕ → Result (Option Entry) Refusal
entry_answer bs i = answered (read_refusals bs) (entry_if (ltb i (cues_in bs)) (entry_in bs i))

-- A cue's body, as a part of the sheet.
unfoldable pub body_in : List ℕ → Entry → List ℕ
body_in bs e = take (16 * e.ways) (drop e.start bs)

-- ---- the writer

-- 21: the lists differ in length, or from what the way counts add up to.
unfoldable pub disagree : Lists → Bool
disagree x =
    not (eqb (length x.numbers) (length x.counts))
    || (not (eqb (length x.present) (length x.absent)) || not (eqb (length x.present) (total x.counts)))

-- What the lists hold: 2, 3, 5, 6, 10, 12 to 15, 21. To 12 and 13 a word that one of the lists lacks is 0, and the rows of the longer list are judged.
unfoldable pub lists_refusals : Lists → List Test
lists_refusals x =
    test Refusal.CountsOutside (faults_outside (length x.weights) || (cues_outside (length x.numbers) || cues_outside (length x.counts)))
    ∷ test Refusal.ModeAbove (mode_above x.limits)
    ∷ test Refusal.NotRising (not_rising x.numbers)
    ∷ test Refusal.Crowded (crowded x.counts)
    ∷ test Refusal.Overweight (overweight x.weights)
    ∷ (way_refusals (length x.weights) (rows 0 x.present x.absent) ++ limit_refusals x.limits ++ test Refusal.Disagree (disagree x) ∷ [])

-- Writing a sheet into a space of so many bytes: those, then 22.
unfoldable pub write_refusals : Lists → ℕ → List Test
write_refusals x space = lists_refusals x ++ test Refusal.NoRoom (ltb space (length (encode (sheet_of x)))) ∷ []

unfoldable pub write_number : Lists → ℕ → ℕ
write_number x space = first (write_refusals x space)

-- The writer's answer.
unfoldable pub write_answer : Lists → ℕ → Result ℕ Refusal
write_answer x space = answered (write_refusals x space) (length (encode (sheet_of x)))

unfoldable pub written_by : ℕ → List ℕ → List ℕ → List ℕ
written_by zero out space = out ++ drop (length out) space
written_by (suc n) out space = space

-- What the lent space holds afterwards: accepted, the bytes at its front and the rest as it was; refused, all as it was.
unfoldable pub written : Lists → List ℕ → List ℕ
written x space = written_by (write_number x (length space)) (encode (sheet_of x)) space

-- ---- sheets within the limits

-- A sheet within the limits, in plain terms. Every table of a cue is then `Inside` the limits (proofs/Accepted.antt), and the tests of the refusals
-- accept just these sheets (proofs/Demands.antt, `within-exactly`).
pub record Within (s : Sheet) : Type 0 where
  -- 1 to 64 faults, each of a weight of at most S.
  pub some_faults : 0 < length s.weights
  pub few_faults : length s.weights ≤ 64
  pub weights : (w : ℕ) → In w s.weights → w ≤ S
  -- 1 to 24 cues. Their numbers start at 1 or above, fit two bytes and rise: of two cues that follow each other, the second has the higher one.
  pub some_cues : 0 < length s.cues
  pub few_cues : length s.cues ≤ 24
  pub numbered : (c : Cue) → In c s.cues → 1 ≤ c.number
  pub two_bytes : (c : Cue) → In c s.cues → c.number < 65536
  pub rising : (before after : List Cue) (c d : Cue) → s.cues ≡ before ++ c ∷ d ∷ after → c.number < d.number
  -- Each cue has at most 128 ways, given by as many absent words as present words.
  pub few_ways : (c : Cue) → In c s.cues → length c.present ≤ 128
  pub paired : (c : Cue) → In c s.cues → length c.absent ≡ length c.present
  -- Each way of a cue names only faults of the sheet, and none of them both present and absent.
  pub faults_known : (c : Cue) → In c s.cues → (v : Way) → In v (ways (table_of s.weights c))
      → (i : ℕ) → length s.weights ≤ i → bit i (faults v) ≡ false
  pub one_sense_each : (c : Cue) → In c s.cues → (v : Way) → In v (ways (table_of s.weights c))
      → (i : ℕ) → bit i v.present ≡ true → bit i v.absent ≡ false
  -- The allowance is at most S, the budget at most 255, the mode 0 or 1.
  pub allowance : s.limits.allowance ≤ S
  pub budget : s.limits.budget ≤ 255
  pub mode : s.limits.mode ≤ 1
