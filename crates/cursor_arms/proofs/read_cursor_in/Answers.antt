-- `cursor_arms::read_cursor_in` looks for the cursor and reads its cell. Assumes nothing.
use Rattle.std.specs.Prelude.{Ok}
use mathlib.Core.Path.{ap, ◌∙◌}
use native.Mathlib.Omega.{arith}
use Rattle.refusal.proofs.Passed.{passed}
use Rattle.cursor_arms.proofs.CursorLaws.{read_bad, read_absent, read_within, read_at}
use Rattle.cursor_arms.proofs.read_cursor_in.Goals as goal

pub cell_at-requires : goal.cell_at-requires
cell_at-requires c = omega (arith, read_within _ _ _ _ c.get.ensures.gets _ (c.in_ok-get.was ∙ ap Ok c.in-Some.is), c.requires.map.inside, c.requires.map.small)

pub returns-in_err-get : goal.returns-in_err-get
returns-in_err-get c = rw (passed _ _ c.from_residual.ensures.1) (read_bad _ _ _ _ c.get.ensures.gets _ c.in_err-get.was)

pub returns-in-None : goal.returns-in-None
returns-in-None c = read_absent _ _ _ _ c.get.ensures.gets (c.in_ok-get.was ∙ ap Ok c.in-None.is)

pub returns-in-Some : goal.returns-in-Some
returns-in-Some c = read_at _ _ _ _ c.get.ensures.gets _ (c.in_ok-get.was ∙ ap Ok c.in-Some.is) _ _ c.cell_at.ensures c.cursor_in.ensures
