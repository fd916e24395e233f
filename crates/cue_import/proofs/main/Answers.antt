-- `main` is safe and ends: what is written is a part of the space that it lends.
-- Rests on the contracts of `read_front` and `import`.
use Rattle.std.proofs.Common.{sym, length-take-le}
use Rattle.cue_import.proofs.Fits.{zeros, import-fits}
use Rattle.cue_import.proofs.main.Goals as goal

pub slice_bounds-read_front-end : goal.slice_bounds-read_front-end
slice_bounds-read_front-end c = zeros 1180522

pub slice_bounds-text-end : goal.slice_bounds-text-end
slice_bounds-text-end c = c.read_front-read.ensures.within

pub slice_bounds-import-end : goal.slice_bounds-import-end
slice_bounds-import-end c = sym (length-take-le _ _ c.read_front-read.ensures.within)

pub slice_bounds-sheet-end : goal.slice_bounds-sheet-end
slice_bounds-sheet-end c = import-fits _ _ _ _ _ c.import.ensures.promise c.in-Ok.is

pub slice_bounds-write_all-end : goal.slice_bounds-write_all-end
slice_bounds-write_all-end c = sym (length-take-le _ _ (import-fits _ _ _ _ _ c.import.ensures.promise c.in-Ok.is))
