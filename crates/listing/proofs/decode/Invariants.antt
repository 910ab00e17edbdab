-- `listing::decode` goes from pair to pair. The invariant: what is left, behind the bytes so far, gives what the whole text gives. Assumes
-- nothing.
use mathlib.Core.Path.{◌≡◌}
use Prim.Native.Nat.{◌+◌, ◌/◌, ◌≤◌}
use lib.ListN.{length, drop}
use Rattle.model.specs.Numbers.{read_hex}
use Rattle.listing.proofs.HexLaws.{hex_from}
use Rattle.listing.proofs.decode.Given as goal

abbrev pub invariant-loop-n : goal.invariant-loop-n
invariant-loop-n l = (l.n ≤ length l.t / 2) × (hex_from (drop (l.n + l.n) l.t) l.bytes l.n ≡ read_hex l.t)
