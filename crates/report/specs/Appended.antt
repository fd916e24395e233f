-- Bytes appended to a text that has room for 939.
-- Rests on nothing but lists.
use Rattle.std.specs.Prelude.{List, ◌++◌, ℕ, ◌+◌, ◌-◌, length, take, drop}

-- The bytes of a list more, behind those that are there, as many as there is room for.
unfoldable pub appended : List ℕ → List ℕ → List ℕ
appended text piece = text ++ take (939 - length text) piece

-- As much of a piece as there is room for behind the first n bytes of an array.
abbrev pub fitting : ℕ → List ℕ → List ℕ
fitting n piece = take (939 - n) piece

-- An array with that written there; all else is as it was.
unfoldable pub written : List ℕ → ℕ → List ℕ → List ℕ
written bytes n piece = take n bytes ++ fitting n piece ++ drop (n + length (fitting n piece)) bytes
