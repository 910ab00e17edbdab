-- `catalogue::read_record`: five fields in a row. Assumes nothing.
use mathlib.Core.Path.{refl, sym, ap}
use Rattle.std.specs.Prelude.{option_copied}
use Rattle.type_info.specs.Ascii.{ascii}
use Rattle.model.specs.CatalogueText.{take_record}
use Rattle.std.proofs.lemmas.Option.{none-some}
use Rattle.text.proofs.ReadLaws.{read_none, read_next, read_given}
use Rattle.catalogue.proofs.read_record.Goals as goal

pub returns-in_err-number : goal.returns-in_err-number
unfolding take_record ascii
returns-in_err-number c = rw c.from_residual.ensures (record { reads = read_none c.number.ensures.reads _ c.in_err-number.was; kept = λ _. refl })

pub returns-in_err-number-2 : goal.returns-in_err-number-2
unfolding take_record ascii
returns-in_err-number-2 c = rw c.from_residual-in_err-number-2.ensures (record {
  reads =
      read_next c.number.ensures.reads _ c.in_ok-number.was
      (read_none c.number-2.ensures.reads _ c.in_err-number-2.was);
  kept = λ _. refl;
})

pub returns-in_err-number-3 : goal.returns-in_err-number-3
unfolding take_record ascii
returns-in_err-number-3 c = rw c.from_residual-in_err-number-3.ensures (record {
  reads =
      read_next c.number.ensures.reads _ c.in_ok-number.was
      (read_next c.number-2.ensures.reads _ c.in_ok-number-2.was
      (read_none c.number-3.ensures.reads _ c.in_err-number-3.was));
  kept = λ _. refl;
})

pub returns-in_err-declared : goal.returns-in_err-declared
unfolding take_record ascii
returns-in_err-declared c = rw c.from_residual-in_err-declared.ensures (record {
  reads =
      read_next c.number.ensures.reads _ c.in_ok-number.was
      (read_next c.number-2.ensures.reads _ c.in_ok-number-2.was
      (read_next c.number-3.ensures.reads _ c.in_ok-number-3.was
      (read_none c.declared.ensures _ (ap option_copied c.in_err-declared.was))));
  kept = λ _. refl;
})

pub returns-in_err-notnull : goal.returns-in_err-notnull
unfolding take_record ascii
returns-in_err-notnull c = rw c.from_residual-in_err-notnull.ensures (record {
  reads =
      read_next c.number.ensures.reads _ c.in_ok-number.was
      (read_next c.number-2.ensures.reads _ c.in_ok-number-2.was
      (read_next c.number-3.ensures.reads _ c.in_ok-number-3.was
      (read_next c.declared.ensures _ (ap option_copied c.in_ok-declared.was)
      (read_none c.notnull.ensures _ c.in_err-notnull.was))));
  kept = λ _. refl;
})

pub returns : goal.returns
unfolding take_record ascii
returns c = record {
  reads =
      read_next c.number.ensures.reads _ c.in_ok-number.was
      (read_next c.number-2.ensures.reads _ c.in_ok-number-2.was
      (read_next c.number-3.ensures.reads _ c.in_ok-number-3.was
      (read_next c.declared.ensures _ (ap option_copied c.in_ok-declared.was)
      (read_given c.notnull.ensures _ _ c.in_ok-notnull.was refl))));
  kept = λ e. absurd (none-some _ (sym e));
}
