-- `merge::merge_row` finds the first entry that is not before the row's registers, and merges the entries from there on. Assumes nothing.
use mathlib.Core.Path.{◌≡◌, ap, ◌∙◌}
use Prim.Native.Nat.{◌+◌}
use native.Mathlib.Omega.{arith}
use Rattle.area.specs.Cells.{cells}
use Rattle.intmap.specs.Find.{seek_place}
use Rattle.intmap.specs.Map.{levels}
use Rattle.intmap.proofs.FindLaws.{led_to}
use Rattle.merge.proofs.EntryLaws.{found-columns}
use Rattle.merge.proofs.RowLaws.{merged_row}
use Rattle.merge.proofs.merge_row.Goals as goal
use Rattle.merge.proofs.merge_row.Goals.{in-Ok, in-Ok-2}

pub merge_entries-requires : goal.merge_entries-requires
merge_entries-requires c =
    let led : c.match-find.place ≡ seek_place (cells c.args.area.now) levels (c.class_key.result + c.args.row.first) c.args.map.len c.args.map.base = elim c.match-find.branch [ in-Ok w ↦ w.place-is ∙ led_to _ _ _ _ _ _ _ w.in-Ok.is c.find.ensures | in-Ok-2 w ↦ w.place-is ∙ led_to _ _ _ _ _ _ _ w.in-Ok.is c.find.ensures ] in
    (found-columns _ _ _ _ c.requires.0 led, omega (arith, c.args.row.within, c.class_key.ensures), c.requires.1)

pub returns : goal.returns
returns c =
    let led : c.match-find.place ≡ seek_place (cells c.args.area.now) levels (c.class_key.result + c.args.row.first) c.args.map.len c.args.map.base = elim c.match-find.branch [ in-Ok w ↦ w.place-is ∙ led_to _ _ _ _ _ _ _ w.in-Ok.is c.find.ensures | in-Ok-2 w ↦ w.place-is ∙ led_to _ _ _ _ _ _ _ w.in-Ok.is c.find.ensures ] in
    merged_row _ _ _ _ _ _ _ _ _ (ap (λ k. k + c.args.row.first) c.class_key.ensures) c.requires.1 led c.merge_entries.ensures c.max.ensures
