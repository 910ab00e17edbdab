-- What is left of `read_listing`, by the invariant of Invariants.antt. Assumes nothing.
use mathlib.Core.Path.{◌≡◌, refl, sym, ◌∙◌}
use borrow.Author.Tests.{eqb-true, eqb-false}
use borrow.Author.Rules.{rules}
use Rattle.std.specs.Prelude.{None, Some, Err}
use Rattle.refusal.specs.declared.Refusal.TheVariants.{IllFormedListing}
use Rattle.listing.proofs.LoadLaws.{load_start, load_next, load_refused, load_over, load_count, room_kept, row_none, row_some}
use Rattle.listing.proofs.read_listing.Goals as goal

pub loop-reader-init : goal.loop-reader-init
loop-reader-init c = (refl, load_start _ _ _ _)

pub returns-in_err-row : goal.returns-in_err-row
returns-in_err-row c =
    let e : c.from_residual.result ≡ Err IllFormedListing = search rules in
    let none : c.read_row.result ≡ None = search rules in
    rw e (load_refused c.loop-reader.invariant.1 (eqb-false _ _ (sym c.is_empty.ensures ∙ c.loop-reader-test.true)) (row_none _ _ _ c.read_row.ensures none))

pub put_where-requires : goal.put_where-requires
put_where-requires c = room_kept c.loop-reader.invariant.0 c.requires

pub loop-reader-preserved : goal.loop-reader-preserved
loop-reader-preserved c =
    let some : c.read_row.result ≡ Some c.in_ok-row.row = search rules in
    let next = load_next c.loop-reader.invariant.1 c.requires (eqb-false _ _ (sym c.is_empty.ensures ∙ c.loop-reader-test.true)) (row_some _ _ _ c.read_row.ensures some) c.put_where.ensures in
    (next.bytes, next)

pub returns-then-k-gt-MOST : goal.returns-then-k-gt-MOST
returns-then-k-gt-MOST c = load_over c.loop-reader.invariant.1 (eqb-true _ _ (sym c.is_empty.ensures ∙ c.loop-reader-test.false)) c.if-k-gt-MOST.true

pub returns : goal.returns
returns c = load_count c.loop-reader.invariant.1 (eqb-true _ _ (sym c.is_empty.ensures ∙ c.loop-reader-test.false)) c.if-k-gt-MOST.false
