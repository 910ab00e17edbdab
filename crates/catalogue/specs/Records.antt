-- A record that was read, in the terms of model's CatalogueText, and what the records of a text give. Assumes nothing.
use Rattle.std.specs.Prelude.{◌≡◌, ◌<◌, [], length, Option, None, Some, Result, Ok, Err}
use Rattle.refusal.specs.declared.Refusal.{Refusal}
use Rattle.refusal.specs.declared.Refusal.TheVariants.{IllFormedCatalogue}
use Rattle.model.specs.Catalogue.{CatalogueRecord}
use Rattle.model.specs.CatalogueText.{take_record}
use Rattle.text.specs.Reads.{Reads}
use Rattle.catalogue.specs.declared.Record.{Record}
use Rattle.catalogue.specs.declared.Records.{Records}

-- the record of the definition
abbrev pub record_of : Record → CatalogueRecord
record_of r = record { db = r.db; page = r.page; col = r.col; declared = r.declared.now; notnull = r.notnull }

-- an item: the record that stands first, or that it is ill-formed, and then no text is left; none where the text ends, and then it is as it was
abbrev pub GivesRecord : Records → Option (Result Record Refusal) → Records → Type 0
GivesRecord s None t = (length s.reader.rest.now ≡ 0) × (t.reader.rest.now ≡ s.reader.rest.now)
GivesRecord s (Some (Ok r)) t = Reads take_record s.reader.rest.now t.reader.rest.now (Some (record_of r))
GivesRecord s (Some (Err e)) t = (e ≡ IllFormedCatalogue) × (0 < length s.reader.rest.now) × Reads take_record s.reader.rest.now t.reader.rest.now None × (t.reader.rest.now ≡ [])
