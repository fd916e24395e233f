-- Safe records: the blank, a list in which a safe record is stored, one that was changed.
-- Rests on the definitions of Safe.antt and the kit's laws of `set` and `replicate`.
use mathlib.Core.Path.{◌≡◌}
use mathlib.Core.List.{List}
use Prim.Native.Nat.{ℕ, ◌+◌, ◌≤◌, ◌<◌}
use native.Mathlib.Omega.{arith}
use native.Mathlib.Decide.{ℕ_discrete, dec_lt}
use lib.ListN.{length, get_or, set, replicate, length-replicate, get_or-replicate, get_or-eq_default}
use lib.Seq.{get_or-set_same, get_or-set_other}
use Rattle.std.proofs.lemmas.List.{set_past}
use Rattle.rules.specs.Rounding.{S}
use Rattle.records.specs.Records.{tree_records, blank}
use Rattle.records.specs.Growing.{changed}
use Rattle.records.specs.declared.Node.{Node}
use Rattle.records.specs.Safe.{SafeNode, Safe}

-- The blank is safe.
safe-blank : SafeNode blank
safe-blank =
    record {
      parent_inside = omega arith;
      children_inside = omega arith;
      low_le = omega arith;
      high_le = omega arith;
      ownlow_le = omega arith;
      ownhigh_le = omega arith;
    }

-- Any number of blanks is.
pub safe-blanks : (n : ℕ) → Safe (replicate n blank)
safe-blanks n = record { each = λ i. at i (dec_lt i n) }
  where
    at : (i : ℕ) → Dec (i < n) → SafeNode (get_or (replicate n blank) i blank)
    at i (yes h) = rw (get_or-replicate n i blank blank h) safe-blank
    at i (no h) =
        let l : length (replicate n blank) ≤ i = simp length-replicate (omega arith) in
        rw (get_or-eq_default (replicate n blank) blank l) safe-blank

-- Safe records are safe after a safe one is stored among them.
pub safe-set : (xs : List Node) (j : ℕ) (x : Node) → Safe xs → SafeNode x → Safe (set xs j x)
safe-set xs j x s n = record { each = λ i. at i (ℕ_discrete i j) (dec_lt j (length xs)) }
  where
    at : (i : ℕ) → Dec (i ≡ j) → Dec (j < length xs) → SafeNode (get_or (set xs j x) i blank)
    at i (yes e) (yes h) = rw (e, get_or-set_same xs j x blank h) n
    at i (yes e) (no h) = let p : length xs ≤ j = omega arith in rw (set_past xs j x p) (s.each i)
    at i (no e) h = rw (get_or-set_other xs j i x blank e) (s.each i)

-- A safe record with another left child and interval, if these are in order; its codes are free.
pub safe-changed : (x : Node) (code f mark l lo hi : ℕ) → SafeNode x → l + 1 < tree_records → lo ≤ S → hi ≤ S
    → SafeNode (changed x code f mark l lo hi)
safe-changed x code f mark l lo hi s a b c =
    record {
      parent_inside = s.parent_inside;
      children_inside = a;
      low_le = b;
      high_le = c;
      ownlow_le = s.ownlow_le;
      ownhigh_le = s.ownhigh_le;
    }
