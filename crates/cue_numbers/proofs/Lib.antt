-- Each function's proof stands in its own directory. Asked.antt has the theorems: what a hand refinement comes to that asks for nothing that a leaf
-- could have. Rests on specs/Numbers.antt and the theorems of `rules`.
pub mod Asked
