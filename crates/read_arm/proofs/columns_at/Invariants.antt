-- `read_arm::columns_at` follows a link a turn. The invariant: of the bucket's records the map holds the columns of the first, the link leads to the
-- rest, and the map's keys are below the bound. The measure is how far the link is from the end, since links lead on. Assumes nothing.
use mathlib.Core.Path.{◌≡◌}
use lib.ListN.{length}
use Rattle.area.specs.Cells.{cells}
use Rattle.read_arm.proofs.GatherLaws.{ahead_of, Led}
use Rattle.read_arm.proofs.columns_at.Given as goal

abbrev pub invariant-loop-link : goal.invariant-loop-link
invariant-loop-link l = (length l.area ≡ length l.initial.area) × Led l.limit (cells l.initial.area) (cells l.area) l.base l.blocks.bytes.now l.x l.link l.m l.bound

abbrev pub decreases-loop-link : goal.decreases-loop-link
decreases-loop-link l = ahead_of (length (cells l.blocks.bytes.now)) l.link
