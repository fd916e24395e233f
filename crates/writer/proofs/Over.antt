-- Pieces written one behind the other, and what a loop has left to write.
-- Rests on the library's laws of lists.
use Rattle.std.proofs.Common.{◌≡◌, ℕ, List, [], ◌++◌, length, refl, sym, ap, ◌∙◌, append_assoc, append-nil, arith, length-append, length-drop, drop}
use Rattle.std.proofs.lemmas.List.{drop-drop}
use Rattle.writer.specs.declared.output.Out.{Out}
use Rattle.writer.specs.Pieces.{written, left, Room, Wrote}

-- ---- two pieces

module _ {old : Out} {p : List ℕ} (q : List ℕ) where
  -- Room for two pieces is room for the first.
  pub room_first : Room old (p ++ q) → Room old p
  room_first room = record { fits = omega (arith, length-append p q) }

  module _ {new : Out} (w : Wrote old p new) where
    -- Once the first is written, there is room for the second.
    pub room_second : Room old (p ++ q) → Room new q
    room_second room = record { fits = omega (arith, length-append p q, ap length w.left, length-drop (length p) (left old)) }

    -- Once the second is written too, both are written as one piece.
    pub wrote_both : {last : Out} → Wrote new q last → Wrote old (p ++ q) last
    wrote_both {last} v =
        record {
          loan = v.loan ∙ w.loan;
          written = rw (v.written, w.written) (append_assoc (written old) p q);
          left = rw (v.left, w.left, length-append p q) (drop-drop (length q) (length p) (left old));
        }

-- No bytes.
wrote_none : (out : Out) → Wrote out [] out
wrote_none out = record { loan = refl; written = sym (append-nil (written out)); left = refl }

-- ---- what is left to write

-- Of a piece to be written behind `start` only `rest` is left, behind `now`: there is room for it, and once it is written the whole piece is.
pub record Remains (start : Out) (whole : List ℕ) (now : Out) (rest : List ℕ) : Type 0 where
  pub room : Room now rest
  pub loan : now.space.ghost_name ≡ start.space.ghost_name
  pub written : written now ++ rest ≡ written start ++ whole
  pub left : drop (length rest) (left now) ≡ drop (length whole) (left start)

-- At first, all of it.
pub remains_all : (start : Out) (whole rest : List ℕ) → Room start whole → rest ≡ whole → Remains start whole start rest
remains_all start whole rest room e = rw e (record { room = room; loan = refl; written = refl; left = refl })

-- Once the next piece of it is written, only the others are left.
pub next_written : {start now next : Out} {whole rest p : List ℕ} (q : List ℕ) → Remains start whole now rest → rest ≡ p ++ q → Wrote now p next
    → Remains start whole next q
next_written {now = now} {p = p} q r e w =
    record {
      room = room_second q w (rw e at r.room);
      loan = w.loan ∙ r.loan;
      written = rw w.written (append_assoc (written now) p q) ∙ (rw e at r.written);
      left = rw w.left (drop-drop (length q) (length p) (left now)) ∙ ap (λ n. drop n (left now)) (sym (length-append p q)) ∙ (rw e at r.left);
    }

-- Nothing is left: the piece is written.
pub remains_none : {start now : Out} {whole rest : List ℕ} → Remains start whole now rest → rest ≡ [] → Wrote start whole now
remains_none {start} {now} {whole} {rest} r e = record { loan = r.loan; written = sym (append-nil (written now)) ∙ (rw e at r.written); left = rw e at r.left }
