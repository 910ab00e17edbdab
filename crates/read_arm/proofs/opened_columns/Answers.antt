-- `read_arm::opened_columns` judges the database first. Assumes nothing.
use Rattle.read_arm.proofs.GatherLaws.{database_below, database_above, database_is, no_database, the_database}
use Rattle.read_arm.proofs.opened_columns.Goals as goal

pub returns-then-x-lt-ZERO : goal.returns-then-x-lt-ZERO
returns-then-x-lt-ZERO c = no_database c.args.x _ _ _ _ (database_below c.args.x c.if-x-lt-ZERO.true) _ c.requires.0 c.requires.1 c.new.ensures

pub returns-then-x : goal.returns-then-x
returns-then-x c = no_database c.args.x _ _ _ _ (database_above c.args.x c.if-x.true) _ c.requires.0 c.requires.1 c.new-then-x.ensures

pub returns : goal.returns
returns c = the_database c.args.x _ _ _ _ (database_is c.args.x c.if-x-lt-ZERO.false c.if-x.false) _ _ c.columns_at.ensures
