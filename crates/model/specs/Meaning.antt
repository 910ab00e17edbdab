-- What the rows take from outside the listing: the limit of cells, the catalogue's columns for a database and a page, and the function
-- table; and those of 01. Assumes nothing.
use Rattle.std.specs.Prelude.{Option, List, ℕ, ℤ}
use Rattle.model.specs.State.{Columns}
use Rattle.model.specs.Functions.{FunctionValue, built_in, function_in}
use Rattle.model.specs.Catalogue.{CatalogueRecord, columns_at}

pub record Meaning : Type 0 where
  pub cell_limit : ℕ
  pub columns_for : ℤ → ℤ → Columns
  pub function_for : List ℕ → Option FunctionValue

-- "more than 512 cells"; the seven built-in texts
abbrev pub standard : List CatalogueRecord → Meaning
standard records = record { cell_limit = 512; columns_for = columns_at records; function_for = function_in built_in }
