-- Members of a list: what definitions and theorems say "one of" with.
-- Rests on the list's own membership.
use mathlib.Core.List.{List, Memᴰ}

-- It is one of the list.
abbrev pub In : {A : Type 0} → A → List A → Type 0
In x xs = Memᴰ x xs
