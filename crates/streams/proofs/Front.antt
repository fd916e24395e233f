-- What is read of an input up to a limit stands in front of it, whether the read fails or not; so does what is read into a lent space.
-- Rests on std alone.
use Rattle.std.proofs.Common.{◌≡◌, ℕ, ◌+◌, ◌≤◌, List, [], ◌++◌, take, drop, length, sym, ap, ◌∙◌, subst, le_refl, drop_at, length-take-le}
use Rattle.std.proofs.Common.{IfSome, Some, None, Option, option_map}
use Rattle.std.proofs.lemmas.Slice.{take-put_mid_below}
use Rattle.std.proofs.KnownBytes.{Consumes-trans, Consumes-kept}
use Rattle.std.specs.Io.{StartsWith, appended_bytes}
use Rattle.std.specs.Io.KnownBytes.{Consumes, Keeps}
use borrow.Rule.Slice.PartMut.{put_mid, post_of}
use lib.Seq.{take-add, take-append-le}
use Rattle.std.specs.Io.Take.{take_limit, take_inner, take_remaining}
use Rattle.std.specs.declared.io.traits.Take.{Take}
use Rattle.std.proofs.Math.Seq.{take-append_seam}

-- Bytes that are consumed stand in front.
consumed : (n : ℕ) (bs : List ℕ) (o new : Option (List ℕ)) → Consumes (option_map (take n) o) new bs → IfSome o (λ input. StartsWith (take n input) bs)
consumed n bs None new h = tt
consumed n bs (Some xs) None h = absurd h
consumed n bs (Some xs) (Some ys) h = ap (take (length bs)) h ∙ take-append_seam bs ys

-- So do those that a reader with a limit appends to none.
pub front : {R : Type 0} (remaining : R → Option (List ℕ)) (t : Take R) (new : Option (List ℕ)) (old bs : List ℕ) {r : R} {n : ℕ}
    → take_limit t ≡ n → take_inner t ≡ r → old ≡ [] → Consumes (take_remaining remaining t) new (appended_bytes old bs)
    → IfSome (remaining r) (λ input. StartsWith (take n input) bs)
front remaining t new old bs {r} {n} limit inner empty h = consumed n bs (remaining r) new (rw (limit, inner, empty) at h)

-- What was taken before a part stays in front of it, whatever is put into the part.
still-taken : (count room : ℕ) (space part : List ℕ) → count ≤ length space → take count (put_mid count room space part) ≡ take count space
still-taken count room space part within = take-put_mid_below _ _ _ _ _ (le_refl _) within

-- A read into a part takes what it puts there.
pub taken-more : (a b c : Option (List ℕ)) (count room n : ℕ) (space part : List ℕ) → count ≤ length space → n ≤ length part
    → Consumes a b (take count space) → Consumes b c (take n part) → Consumes a c (take (count + n) (put_mid count room space part))
taken-more a b c count room n space part within fits before more =
    let new = put_mid count room space part in
    let behind = post_of count room space in
    let read : take n (drop count new) ≡ take n part =
    ap (take n) (drop_at (take count space) (part ++ behind) count (length-take-le count space within)) ∙ take-append-le n part behind fits
    in
    let both : take (count + n) new ≡ take count space ++ take n part =
    take-add count n new ∙ ap (λ l. l ++ take n (drop count new)) (still-taken count room space part within) ∙ ap (λ l. take count space ++ l) read
    in
    subst (Consumes a c) (sym both) (Consumes-trans a b c _ _ before more)

-- One that fails takes nothing.
pub taken-still : (a b c : Option (List ℕ)) (count room : ℕ) (space part : List ℕ) → count ≤ length space
    → Consumes a b (take count space) → Keeps b c → Consumes a c (take count (put_mid count room space part))
taken-still a b c count room space part within before kept =
    subst (Consumes a c) (sym (still-taken count room space part within)) (Consumes-kept a b c _ before kept)
