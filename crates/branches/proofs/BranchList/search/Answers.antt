-- What is left of `BranchList::search`, by the invariant of Invariants.antt. Assumes nothing.
use Rattle.std.proofs.Common.{refl, arith}
use Rattle.branches.proofs.HeaderLaws.{place_none}
use Rattle.branches.proofs.SearchLaws.{search_first, search_lies, search_later, search_next, search_known, search_free, search_end}
use Rattle.branches.proofs.BranchList.search.Goals as goal

pub loop-p-init : goal.loop-p-init
loop-p-init c = (omega arith, λ lt. search_first _ _ _ _ _ c.requires.1 c.requires.2 lt)

pub is_at-requires : goal.is_at-requires
is_at-requires c = let so = c.loop-p.invariant.1 (omega arith) in
    ((search_lies _ _ _ _ _ _ so c.args.self refl refl c.requires.0).map, c.requires.1, c.requires.2)

pub returns-then-is_at : goal.returns-then-is_at
returns-then-is_at c = search_known _ _ _ _ _ _ (c.loop-p.invariant.1 (omega arith)) _ c.is_at.ensures c.args.self refl refl c.if-is_at.true

pub child-requires : goal.child-requires
child-requires c = let lies = search_lies _ _ _ _ _ _ (c.loop-p.invariant.1 (omega arith)) c.args.self refl refl c.requires.0 in
    record { within = lies.map.header; small = lies.small }

pub returns-in_default : goal.returns-in_default
returns-in_default c = search_free _ _ _ _ _ _ (c.loop-p.invariant.1 (omega arith)) _ c.is_at.ensures c.args.self refl refl c.if-is_at.false (place_none _ c.in_default.ensures)

pub loop-p-smaller : goal.loop-p-smaller
loop-p-smaller c = omega (arith, search_later c.args.area.now _ _ _ _ _ (c.loop-p.invariant.1 (omega arith)) c.args.self refl refl c.requires.0 _ c.in-Some.ensures)

pub loop-p-preserved : goal.loop-p-preserved
loop-p-preserved c = (omega (arith, search_later c.args.area.now _ _ _ _ _ (c.loop-p.invariant.1 (omega arith)) c.args.self refl refl c.requires.0 _ c.in-Some.ensures), λ lt. search_next _ _ _ _ _ _ (c.loop-p.invariant.1 lt) _ c.is_at.ensures c.if-is_at.false _ _ c.in-Some.ensures c.next_bits-bits.ensures)

pub returns : goal.returns
returns c = search_end _ _ _ _ _ _ c.requires.0 (omega arith) c.loop-p.invariant.1
