-- `walk::next_in_place` hands the state and the row over in words. Assumes nothing.
use native.Mathlib.Omega.{arith}
use Rattle.walk.proofs.TurnLaws.{ready_near}
use Rattle.walk.proofs.next_in_place.Goals as goal

pub overflow_add-end : goal.overflow_add-end
overflow_add-end c = omega (arith, c.requires.current.room.most, c.requires.current.room.room, c.requires.current.room.small)

pub next_row-requires : goal.next_row-requires
next_row-requires c = ready_near c.args.x c.requires
