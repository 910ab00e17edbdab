-- `state::int_near` writes one cell, by two searches. Assumes nothing.
use mathlib.Core.Path.{sym, subst}
use native.Mathlib.Omega.{arith}
use Rattle.state.specs.Own.{HeldAmong, WritesNear}
use Rattle.state.proofs.OwnLaws.{near_again, near_leads}
use Rattle.state.proofs.StoreLeads.{int_leads}
use Rattle.state.proofs.int_near.Goals as goal

pub returns-then-write_near : goal.returns-then-write_near
returns-then-write_near c = near_leads (subst (WritesNear _ _ _ _ _ _) c.if-write_near.true c.write_near.ensures) (λ a limit. int_leads _ _ _ _ _ _ _ c.requires.1)

pub write_moved-requires : goal.write_moved-requires
write_moved-requires c = (subst (λ l. HeldAmong l c.args.base c.args.end) (sym (c.write_near.ensures.no c.if-write_near.false)) c.requires.0, λ e. omega (arith, e))

pub returns : goal.returns
returns c = near_leads (near_again c.write_near.ensures c.if-write_near.false c.write_moved.ensures) (λ a limit. int_leads _ _ _ _ _ _ _ c.requires.1)
