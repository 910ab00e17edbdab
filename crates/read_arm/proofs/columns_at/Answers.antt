-- What is left of `columns_at`, by the invariant of Invariants.antt. Assumes nothing.
use mathlib.Core.Path.{refl, sym, ◌∙◌}
use native.Mathlib.Omega.{arith}
use Rattle.refusal.proofs.Passed.{passed}
use Rattle.read_arm.proofs.GatherLaws.{gathering_first, gathering_inside, gathering_plain, gathering_less, gathering_passed, gathering_behind, gathering_full, gathering_added, led_less, led_end, led_some, led_at}
use Rattle.read_arm.proofs.columns_at.Goals as goal

pub loop-link-init : goal.loop-link-init
loop-link-init c = (refl, record { link = _; is = c.first_link-link.ensures.0; gathering = gathering_first _ _ _ _ c.args.x _ _ 0 c.requires.0 c.requires.1 c.new-m.ensures refl })

pub record_at-c-requires : goal.record_at-c-requires
record_at-c-requires c = let l = c.loop-link.invariant.1 in
    let lt = led_some l c.in-Some.is in
    (lt, gathering_inside (led_at l c.in-Some.is) lt c.args.blocks.indexed)

pub loop-link-smaller-then-not-is_block_for : goal.loop-link-smaller-then-not-is_block_for
loop-link-smaller-then-not-is_block_for c = let l = c.loop-link.invariant.1 in
    led_less _ _ _ c.in-Some.is c.next_link-link.ensures (gathering_less (led_at l c.in-Some.is) (led_some l c.in-Some.is) _ c.record_at-c.ensures c.args.blocks.indexed)

pub loop-link-preserved-then-not-is_block_for : goal.loop-link-preserved-then-not-is_block_for
loop-link-preserved-then-not-is_block_for c = let loop = c.loop-link in
    let l = loop.invariant.1 in (
      loop.invariant.0,
      record {
        link = _;
        is = c.next_link-link.ensures;
        gathering = gathering_passed (led_at l c.in-Some.is) (led_some l c.in-Some.is) _ c.record_at-c.ensures (sym c.is_block_for.ensures ∙ c.if-not-is_block_for.true);
      },
    )

pub insert_new-requires : goal.insert_new-requires
insert_new-requires c = let l = c.loop-link.invariant.1 in
    let g = led_at l c.in-Some.is in
    let lt = led_some l c.in-Some.is in
    (g.room, gathering_plain g lt _ c.record_at-c.ensures c.args.blocks.indexed, gathering_behind g lt _ c.record_at-c.ensures _ c.key_of-key.ensures c.if-bound-key.true)

pub returns-in_err-m : goal.returns-in_err-m
returns-in_err-m c = let l = c.loop-link.invariant.1 in
    rw (passed _ _ c.from_residual.ensures.1) (gathering_full (led_at l c.in-Some.is) (led_some l c.in-Some.is) _ c.record_at-c.ensures (sym c.is_block_for.ensures ∙ c.if-not-is_block_for.false) _ _ c.insert_new.ensures _ c.in_err-m.was)

pub loop-link-smaller-then-bound-key : goal.loop-link-smaller-then-bound-key
loop-link-smaller-then-bound-key c = let l = c.loop-link.invariant.1 in
    led_less _ _ _ c.in-Some.is c.next_link-link.ensures (gathering_less (led_at l c.in-Some.is) (led_some l c.in-Some.is) _ c.record_at-c.ensures c.args.blocks.indexed)

pub loop-link-preserved-then-bound-key : goal.loop-link-preserved-then-bound-key
loop-link-preserved-then-bound-key c = let loop = c.loop-link in
    let l = loop.invariant.1 in (
      c.insert_new.auto.area ∙ loop.invariant.0,
      record {
        link = _;
        is = c.next_link-link.ensures;
        gathering = gathering_added (led_at l c.in-Some.is) (led_some l c.in-Some.is) _ c.record_at-c.ensures (sym c.is_block_for.ensures ∙ c.if-not-is_block_for.false) _ _ c.insert_new.ensures _ _ c.in_ok-m.was (omega (arith, c.key_of-key.ensures)) (omega (arith, c.if-bound-key.true));
      },
    )

pub insert_cell-requires : goal.insert_cell-requires
insert_cell-requires c = let l = c.loop-link.invariant.1 in
    let g = led_at l c.in-Some.is in
    (g.room, gathering_plain g (led_some l c.in-Some.is) _ c.record_at-c.ensures c.args.blocks.indexed)

pub returns-in_err-m-2 : goal.returns-in_err-m-2
returns-in_err-m-2 c = let l = c.loop-link.invariant.1 in
    rw (passed _ _ c.from_residual-in_err-m-2.ensures.1) (gathering_full (led_at l c.in-Some.is) (led_some l c.in-Some.is) _ c.record_at-c.ensures (sym c.is_block_for.ensures ∙ c.if-not-is_block_for.false) _ _ c.insert_cell.ensures _ c.in_err-m-2.was)

pub loop-link-smaller : goal.loop-link-smaller
loop-link-smaller c = let l = c.loop-link.invariant.1 in
    led_less _ _ _ c.in-Some.is c.next_link-link.ensures (gathering_less (led_at l c.in-Some.is) (led_some l c.in-Some.is) _ c.record_at-c.ensures c.args.blocks.indexed)

pub loop-link-preserved : goal.loop-link-preserved
loop-link-preserved c = let loop = c.loop-link in
    let l = loop.invariant.1 in
    let key = c.key_of-key.ensures in (
      c.insert_cell.auto.area ∙ loop.invariant.0,
      record {
        link = _;
        is = c.next_link-link.ensures;
        gathering = gathering_added (led_at l c.in-Some.is) (led_some l c.in-Some.is) _ c.record_at-c.ensures (sym c.is_block_for.ensures ∙ c.if-not-is_block_for.false) _ _ c.insert_cell.ensures _ _ c.in_ok-m-2.was (omega (arith, key, c.if-bound-key.false)) (omega arith);
      },
    )

pub returns : goal.returns
returns c = led_end c.loop-link.invariant.1 c.in_default.is
