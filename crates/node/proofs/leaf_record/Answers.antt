-- `leaf_record` meets its contract: the ends, the open mark and the two words are those of the ways.
-- Rests on the contract of `ends`, and on `clauses`, Leaf, for the two words.
use Rattle.std.proofs.Common.{◌≡◌, refl, sym, ap, ◌∙◌, Bool, true, false, List, [], ℕ, ◌<◌, ◌^◌, rules}
use Rattle.std.specs.Int.{from_bool}
use Rattle.rules.specs.Leaf.{is_open, leaf_low, leaf_high}
use Rattle.rules.specs.Tree.{end}
use Rattle.rules.specs.declared.Way.{Way}
use Rattle.records.specs.Records.{kind_code, fault_code, live_code, low_word, high_word}
use Rattle.records.specs.Growing.{fresh_record}
use Rattle.records.specs.declared.Node.{Node}
use Rattle.clauses.specs.declared.lost.Gone.{Gone}
use Rattle.clauses.proofs.Leaf.{low_back, high_back}
use Rattle.formula.specs.declared.Ends.{Ends}
use Rattle.formula.specs.Leaves.{ends_of}
use Rattle.node.specs.Told.{spot_with}
use Rattle.node.proofs.leaf_record.Goals as goal

-- The two ways to write the open mark.
mark : (b : Bool) → from_bool b ≡ elim b as (λ x. ℕ) [ true ↦ 1 | false ↦ 0 ]
mark true = refl
mark false = refl

all-fields : (ws : List ℕ) (vs : List Way) (up-link : ℕ) (g : Gone) (m a b lo hi : ℕ) → m ≡ from_bool (is_open ws vs) → a ≡ low_word vs → b ≡ high_word vs
    → lo ≡ leaf_low ws vs → hi ≡ leaf_high ws vs
    → ◌≡◌ {A = Node}
    (record {
      kind = 1;
      fault = 0;
      live = m;
      parent = up-link;
      left = 0;
      waysa = a;
      waysb = b;
      present = g.present;
      absent = g.absent;
      out = g.out;
      low = lo;
      high = hi;
      ownlow = lo;
      ownhigh = hi;
    })
    (fresh_record (record { weights = ws; present = []; absent = [] }) (spot_with g vs) up-link)
unfolding kind_code fault_code live_code end
all-fields ws vs up-link g m a b lo hi e h l f k = rw (e, h, l, f, k, mark (is_open ws vs))

pub returns-clause-value : goal.returns-clause-value
unfolding ends_of
returns-clause-value c = let a = c.args in
    let e = c.ends-e.ensures in
    let l : a.c.numbers.low < 2 ^ 64 = search rules in
    all-fields _ _ _ _ _ _ _ _ _ (c.from.ensures ∙ ap (λ (x : Ends). from_bool x.«open») e) (sym (low_back a.c l)) (sym (high_back a.c))
    (c.low.view_is ∙ ap (λ (x : Ends). x.low) e) (c.high.view_is ∙ ap (λ (x : Ends). x.high) e)
