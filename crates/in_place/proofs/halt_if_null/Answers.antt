-- `in_place::halt_if_null` writes a plain column again, as never null; a record and a known number stay. Assumes nothing.
use Rattle.in_place.proofs.NearLaws.{halt_near, halt_at_record, halt_at_int}
use Rattle.in_place.proofs.halt_if_null.Goals as goal

pub returns-in-Single : goal.returns-in-Single
returns-in-Single c = λ i j. halt_near c.register_near.ensures c.in-Some.is c.cell_at.ensures _ c.register_in-v.ensures _ _ c.in-Single.is c.single_near.ensures

pub returns-in-Record : goal.returns-in-Record
returns-in-Record c = λ i j. halt_at_record c.register_near.ensures c.in-Some.is c.cell_at.ensures _ c.register_in-v.ensures _ c.in-Record.is

pub returns-in-Int : goal.returns-in-Int
returns-in-Int c = λ i j. halt_at_int c.register_near.ensures c.in-Some.is c.cell_at.ensures _ c.register_in-v.ensures _ c.in-Int.is
