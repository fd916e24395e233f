-- `outdone` meets its contract: a search over the rows, each with its number, finds a way that outdoes this one.
-- Rests on the library's laws of slices, of `zip`, `enumerate` and `any`.
use Rattle.std.proofs.Common.{◌≡◌, ◌∙◌, ℕ, suc, ◌+◌, Bool, ◌||◌, List, [], ◌∷◌, length, refl, ap, arith, rules}
use Rattle.std.proofs.lemmas.Iterator.{YieldsList-from_slice, YieldsList-from_zip}
use Rattle.std.proofs.lemmas.Iterator.Consumers.{YieldsList-from_enumerate, YieldsList-at}
use Rattle.std.proofs.lemmas.Iterator.Search.{any_from_yields_List}
use Rattle.std.specs.List.{list_any, zip, enumerate_from}
use Rattle.rules.specs.declared.Way.{Way}
use Rattle.rules.specs.Table.{rows, absent_rows}
use Rattle.rules.specs.Leaf.{any, outdoes, redundant}
use Rattle.clauses.proofs.staying.outdone.Goals as goal

-- The way that a number and two words say.
abbrev as_way : ℕ × (ℕ × ℕ) → Way
as_way x = record { number = x.0; present = x.1.0; absent = x.1.1 }

-- Some row passes a test just if some way of the rows does, where each present word has its absent word.
any_numbered : (f : Way → Bool) (k : ℕ) (ps qs : List ℕ) → length qs ≡ length ps
    → list_any (λ x. f (as_way x)) (enumerate_from k (zip ps qs)) ≡ any f (rows k ps qs)
unfolding any rows absent_rows
any_numbered f k [] [] e = refl
any_numbered f k [] (q ∷ qs) e = absurd (omega (arith, e))
any_numbered f k (p ∷ ps) [] e = absurd (omega (arith, e))
any_numbered f k (p ∷ ps) (q ∷ qs) e =
    let z : k + 1 ≡ suc k = omega arith in
    ap (λ b. f (record { number = k; present = p; absent = q }) || b)
    (ap (λ n. list_any (λ x. f (as_way x)) (enumerate_from n (zip ps qs))) z ∙ any_numbered f (suc k) ps qs (omega (arith, e)))

pub returns : goal.returns
unfolding redundant
returns c =
    let ps = c.args.rows.present.now in
    let qs = c.args.rows.absent.now in
    any_from_yields_List (λ x. outdoes (as_way x) c.args.v) c.any.new.self _ _ c.any.ensures.ran
    (YieldsList-from_enumerate
    (YieldsList-at c.enumerate.ensures.source (YieldsList-from_zip (YieldsList-from_slice ps (cc)) (YieldsList-from_slice qs (cc)))) (cc))
    (λ x b q k. search rules)
    ∙ any_numbered (λ u. outdoes u c.args.v) 0 ps qs c.args.rows.paired
