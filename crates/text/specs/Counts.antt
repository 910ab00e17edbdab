-- How many items a text has, or the refusal, of what the call's definition tried. Assumes nothing.
use Rattle.std.specs.Prelude.{List, ℕ, length, Result, Ok, Err}
use Rattle.refusal.specs.Numbers.{number_of}
use Rattle.refusal.specs.declared.Refusal.{Refusal}
use Rattle.model.specs.Walk.{Tried, refused, done}

abbrev pub length_of : {A : Type 0} → Tried (List A) → Tried ℕ
length_of (refused k) = refused k
length_of (done xs) = done (length xs)

abbrev pub counted_as : Result ℕ Refusal → Tried ℕ
counted_as (Err refusal) = refused (number_of refusal)
counted_as (Ok n) = done n
