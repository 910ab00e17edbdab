-- What an item of the records says, once it is known which it is. Assumes nothing.
use mathlib.Core.Path.{◌≡◌, subst}
use Rattle.std.specs.Prelude.{Some, Result}
use Rattle.refusal.specs.declared.Refusal.{Refusal}
use Rattle.catalogue.specs.Records.{GivesRecord}
use Rattle.catalogue.specs.declared.Record.{Record}
use Rattle.catalogue.specs.declared.Records.{Records}

pub given_as : (s t : Records) (x y : Result Record Refusal) → x ≡ y → GivesRecord s (Some x) t → GivesRecord s (Some y) t
given_as s t x y e given = subst (λ (r : Result Record Refusal). GivesRecord s (Some r) t) e given
