-- `import` meets its contract: a record that is misread, the first refusals and 12 where a fault is far, or the writer's own answer.
-- Rests on Answering.antt and on the contracts of the functions that it calls.
use Rattle.std.proofs.Common.{◌≡◌, sym, Err, rules}
use Rattle.csv_text.specs.Calls.{taken_over}
use Rattle.csv_text.specs.declared.ImportError.{ImportError}
use Rattle.csv_import.proofs.Answering.{promise-misread, front-refuses, far-refuses, writes}
use Rattle.csv_import.proofs.import.Goals as goal

pub returns-in_err-read : goal.returns-in_err-read
returns-in_err-read c =
    let answer : c.from_residual.result ≡ Err c.in_err-read.field-0.0 = search rules in
    record { promise = rw answer (promise-misread _ _ _ (c.in_err-read.ensures c.new-gathered.ensures)) }

pub returns-in_err-check_front : goal.returns-in_err-check_front
returns-in_err-check_front c =
    let answer : c.from_residual-in_err-check_front.result ≡ Err (ImportError.Refused c.in_err-check_front.field-0.0) = search rules in
    let refuses = rw (c.as_slice.ensures.value, c.as_slice-in_default.ensures.value, c.as_slice-in_default-2.ensures.value) at (sym c.in_err-check_front.ensures) in
    record { promise = rw answer (front-refuses (c.in_ok-read.ensures c.new-gathered.ensures) _ refuses) }

pub returns-in_default : goal.returns-in_default
returns-in_default c =
    let passes = rw (c.as_slice.ensures.value, c.as_slice-in_default.ensures.value, c.as_slice-in_default-2.ensures.value) at (sym c.in_ok-check_front.ensures) in
    record { promise = rw c.into.ensures (far-refuses (c.in_ok-read.ensures c.new-gathered.ensures) _ passes c.in_default.ensures) }

pub returns-in_err-write : goal.returns-in_err-write
unfolding taken_over
returns-in_err-write c =
    let answer : c.from_residual-in_err-write.result ≡ Err (ImportError.Refused c.in_err-write.field-0.0) = search rules in
    let (ways, near, given) = c.in-Some.ensures in
    record { promise = rw answer (writes (c.in_ok-read.ensures c.new-gathered.ensures) _ ways near _ given _ c.in_err-write.ensures.promise) }

pub returns : goal.returns
unfolding taken_over
returns c =
    let (ways, near, given) = c.in-Some.ensures in
    record { promise = writes (c.in_ok-read.ensures c.new-gathered.ensures) _ ways near _ given _ c.in_ok-write.ensures.promise }
