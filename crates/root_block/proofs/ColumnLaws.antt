-- A record's column as a cell, and its cell among the blocks. Assumes nothing.
use mathlib.Core.Path.{◌≡◌, sym, ap, ◌∙◌}
use mathlib.Core.Bool.{Bool, true, false, not}
use Rattle.std.specs.Prelude.{Some}
use mathlib.Core.List.{List, [], ◌∷◌}
use Prim.Native.Nat.{ℕ, ◌+◌, ◌*◌, ◌<◌, ◌≤◌}
use native.Mathlib.Omega.{arith}
use Rattle.type_info.specs.Kind.{kind_of}
use Rattle.type_info.specs.declared.DataType.{DataType}
use Rattle.model.specs.State.{datatype_code}
use Rattle.model.specs.Catalogue.{record_column}
use Rattle.model.specs.CatalogueText.{ValidRecord, take_record}
use Rattle.model.proofs.CatalogueTextLaws.{record_takes}
use Rattle.area.specs.Cells.{cell}
use Rattle.area.specs.declared.Cell.{Cell}
use Rattle.intmap.specs.Pack.{head, with_key}
use Rattle.encoding.specs.Encode.{nullable_code, single, run_column}
use Rattle.encoding.proofs.Dense.{column_rekey}
use Rattle.encoding.proofs.Packing.{code_small}
use Rattle.catalogue.specs.Records.{record_of}
use Rattle.catalogue.specs.declared.Record.{Record}
use Rattle.text.specs.Reads.{Reads}
use Rattle.root_block.specs.Build.{IsColumn, Unlinked}

code_few : (b : Bool) → nullable_code (Some b) < 3
code_few true = omega arith
code_few false = omega arith

pub column_made : (r : Record) (d : DataType) (k c : Cell) → d ≡ kind_of r.declared.now → k ≡ single (datatype_code d) (nullable_code (Some (not r.notnull))) 0 → c ≡ with_key r.col k → IsColumn r c
unfolding run_column record_column
column_made r d k c de ke ce =
    ap (λ y. y ∷ []) (ce ∙ ap (with_key r.col) ke)
    ∙ ap (λ y. with_key r.col (single (datatype_code y) (nullable_code (Some (not r.notnull))) 0) ∷ []) de
    ∙ column_rekey (record_column (record_of r)) 0 r.col

-- what is known of a record that was read
pub record_read : {t rest : List ℕ} (r : Record) → Reads take_record t rest (Some (record_of r)) → ValidRecord (record_of r)
record_read {t} {rest} r h = ((record_takes.is t (record_of r) rest).0 (sym h.is)).0

-- the head of a column leaves room for a link
pub block_made : (r : Record) (c : Cell) → IsColumn r c → r.db ≤ 1 → r.page ≤ 2147483647 → r.col ≤ 65535 → Unlinked (cell c.head (r.page + 2147483648 * r.db)) (record_of r)
unfolding run_column record_column
block_made r c e d p k =
    let kind = datatype_code (kind_of (record_of r).declared) in
    let null = nullable_code (Some (not r.notnull)) in
    let same : c ≡ single kind null r.col = cc in
    let h : c.head ≡ head 1 kind null r.col = ap (λ (x : Cell). x.head) same in
    let a : kind < 256 = code_small (kind_of (record_of r).declared) in
    let b : null < 3 = code_few (not r.notnull) in
    record {
      is = record { db = omega arith; page = omega arith; column = ap (λ w. cell w 0 ∷ []) (omega arith) };
      first = omega arith;
    }
