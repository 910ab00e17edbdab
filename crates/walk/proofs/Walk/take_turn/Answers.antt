-- `Walk::take_turn`: charged, closed or handled, and followed. Assumes nothing.
use native.Mathlib.Omega.{arith}
use borrow.Author.Rules.{rules}
use Rattle.walk.specs.Walks.{rows_from}
use Rattle.walk.proofs.TurnLaws.{may_count, row_inside, is_ready, closed_walking, turns_closed, turns_in_place, below-256, operation-there}
use Rattle.walk.proofs.Walk.take_turn.Goals as goal

pub count_at-handled-requires : goal.count_at-handled-requires
count_at-handled-requires c = may_count c.requires

pub take_up-requires : goal.take_up-requires
take_up-requires c = closed_walking c.requires _ c.charge.ensures _ c.loop_stop.ensures

pub returns-then-handled-ge3 : goal.returns-then-handled-ge3
returns-then-handled-ge3 c = turns_closed c.requires _ c.charge.ensures _ _ _ _ _ c.count_at-handled.ensures c.if-handled-ge3.true c.loop_stop.ensures c.take_up.ensures

pub raise_count-requires : goal.raise_count-requires
raise_count-requires c = record { inside = may_count c.requires; below = omega (arith, c.count_at-handled.ensures, c.if-handled-ge3.false) }

pub row_at-x-requires : goal.row_at-x-requires
row_at-x-requires c = row_inside c.requires.holds _ (search rules) (search rules) c.raise_count.ensures

pub next_in_place-requires : goal.next_in_place-requires
next_in_place-requires c = is_ready c.requires.holds _ (search rules) (search rules) c.raise_count.ensures

pub returns-in-Some : goal.returns-in-Some
returns-in-Some c = turns_in_place c.requires _ c.charge.ensures _ _ (search rules) (search rules) c.type_inv.area c.raise_count.ensures c.next_in_place.auto.area c.row_at-x.result c.row_at-x.ensures _ c.count_at-handled.ensures c.in-Some.is c.next_in_place.ensures c.if-handled-ge3.false

pub handle_row-requires : goal.handle_row-requires
handle_row-requires c = (
  record {
    entry = _;
    raised = _;
    walk = _;
    counting = record {
      standing = c.requires;
      charged = c.charge.ensures;
      small = below-256 _ (search rules);
      less = below-256 _ (search rules);
      raised = c.raise_count.ensures;
      same = c.next_in_place.ensures.no c.in_default.is;
      long = c.next_in_place.auto.area;
      was = c.count_at-handled.ensures;
      few = c.if-handled-ge3.false;
    };
  },
  operation-there (rows_from c.args.p) c.args.s.row (c.next_in_place.ensures.no c.in_default.is) c.row_at-x.ensures,
)

pub returns : goal.returns
returns c = c.handle_row.ensures.says _ _ _ (record {
  standing = c.requires;
  charged = c.charge.ensures;
  small = below-256 _ (search rules);
  less = below-256 _ (search rules);
  raised = c.raise_count.ensures;
  same = c.next_in_place.ensures.no c.in_default.is;
  long = c.next_in_place.auto.area;
  was = c.count_at-handled.ensures;
  few = c.if-handled-ge3.false;
})
