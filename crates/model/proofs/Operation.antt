-- The table of operations: 111 names, none of them twice, and Int64 is not among them; computed. Assumes nothing.
use mathlib.Core.Path.{◌≡◌, refl}
use mathlib.Core.Bool.{true}
use lib.ListN.{length}
use Rattle.type_info.specs.Ascii.{ascii, equals}
use Rattle.model.specs.Walk.{times}
use Rattle.model.specs.TextTable.{first_for, texts, once_in, texts_differ}
use Rattle.model.specs.Operation.{no_arm, operations, operation_of}

pub operations-count : length operations ≡ 111
unfolding operations
operations-count = refl

pub names_differ : texts_differ operations ≡ true
unfolding operations texts once_in times equals ascii
names_differ = refl

pub int64_has_none : operation_of (ascii "Int64") ≡ no_arm
unfolding operations operation_of first_for equals ascii
int64_has_none = refl
