-- `listing::read_listing` reads a row a turn. The invariant: the rows read so far, and those that are left, are all; those that there is
-- room for are in their cells. Assumes nothing.
use mathlib.Core.Path.{◌≡◌}
use lib.ListN.{length}
use Rattle.listing.proofs.LoadLaws.{Loading}
use Rattle.listing.proofs.read_listing.Given as goal

abbrev pub invariant-loop-reader : goal.invariant-loop-reader
invariant-loop-reader l = (length l.area ≡ length l.initial.area) × Loading l.listing l.reader.rest.now l.initial.area l.area l.from l.room l.k

abbrev pub decreases-loop-reader : goal.decreases-loop-reader
decreases-loop-reader l = length l.reader.rest.now
