-- `main` is safe and ends: what is written is a part of the space that it lends.
-- Rests on the contracts of `read_front` and `export`.
use Rattle.std.proofs.Common.{sym, length-take-le}
use Rattle.cue_export.proofs.Fits.{zeros, export-fits}
use Rattle.cue_export.proofs.main.Goals as goal

pub slice_bounds-read_front-end : goal.slice_bounds-read_front-end
slice_bounds-read_front-end c = zeros 49613

pub slice_bounds-sheet-end : goal.slice_bounds-sheet-end
slice_bounds-sheet-end c = c.read_front-read.ensures.within

pub slice_bounds-export-end : goal.slice_bounds-export-end
slice_bounds-export-end c = sym (length-take-le _ _ c.read_front-read.ensures.within)

pub slice_bounds-export-end-2 : goal.slice_bounds-export-end-2
slice_bounds-export-end-2 c = zeros 781023

pub slice_bounds-text-end : goal.slice_bounds-text-end
slice_bounds-text-end c = export-fits _ _ _ _ _ c.export.ensures.promise c.in-Ok.is

pub slice_bounds-write_all-end : goal.slice_bounds-write_all-end
slice_bounds-write_all-end c = sym (length-take-le _ _ (export-fits _ _ _ _ _ c.export.ensures.promise c.in-Ok.is))
