-- `read` meets its contract: the first two records, then `Rows::read` on the others.
-- Rests on Opening.antt.
use Rattle.std.proofs.Common.{◌≡◌, Err, rules}
use Rattle.csv_text.specs.declared.ImportError.{ImportError}
use Rattle.csv_import.proofs.Opening.{misread_first, misread-second, said-rows}
use Rattle.csv_import.proofs.read.Gathered.read.Goals as goal

pub returns-in_err-limits : goal.returns-in_err-limits
returns-in_err-limits c = λ h.
    let answer : c.from_residual.result ≡ Err (ImportError.Misread 1) = search rules in
    rw answer (misread_first _ (rw c.in_err-limits.ensures.ok_part at c.run.ensures))

pub returns-in_err-kept : goal.returns-in_err-kept
returns-in_err-kept c = λ h.
    let answer : c.from_residual-in_err-kept.result ≡ Err (ImportError.Misread 2) = search rules in
    rw answer (misread-second _ _ (rw c.in_ok-limits.ensures.ok_part at c.run.ensures) (rw c.in_err-kept.ensures.ok_part at c.weights.ensures))

pub returns : goal.returns
returns c = λ h.
    said-rows _ _ (rw c.in_ok-limits.ensures.ok_part at c.run.ensures) _ (rw c.in_ok-kept.ensures.ok_part at c.weights.ensures) _ _ (c.read.ensures h)
