-- The catalogue's text: the reader accepts exactly the printings of valid records. Assumes nothing.
use mathlib.Core.Path.{◌≡◌, refl, sym}
use mathlib.Core.Bool.{Bool, true, false, and-eq-true_iff}
use Rattle.std.specs.Prelude.{Some}
use mathlib.Core.List.{List, [], ◌∷◌, flatten, append_assoc}
use Prim.Native.Nat.{ℕ, ◌≤◌}
use native.Mathlib.Omega.{arith}
use lib.Dec.{leb}
use lib.ListN.{length}
use Rattle.type_info.specs.Ascii.{ascii, equals}
use Rattle.type_info.specs.DeclaredType.{all_printable}
use Rattle.model.specs.Reader.{read_name}
use Rattle.model.specs.Fields.{print_field}
use Rattle.model.specs.CatalogueText.{is_declared, ValidRecord, print_flag, print_record, read_flag, read_declared, take_record, print_catalogue, read_catalogue}
use Rattle.model.specs.Catalogue.{CatalogueRecord}
use Rattle.model.specs.TextClaims.{Takes, CatalogueExact}
use Rattle.model.proofs.TestLaws.{all_of_weaker}
use Rattle.model.proofs.ReaderLaws.{Any, takes_from, then_yields, then_gives, give_yields, give_gives}
use Rattle.model.proofs.FieldLaws.{within_no_lf, NoLf, Value, text_value, name_value, field-takes}
use Rattle.model.proofs.ItemLaws.{items_exact}
use Rattle.model.proofs.DecimalLaws.{up_to-value}

printable_no_lf : (s : List ℕ) → all_printable s ≡ true → NoLf s
unfolding all_printable
printable_no_lf s e = all_of_weaker (λ b h. within_no_lf 32 126 b (omega arith) h) s e

declared_value : Value read_declared (λ s. is_declared s ≡ true) (λ s. s)
unfolding read_declared is_declared
declared_value = text_value λ s e. printable_no_lf s ((and-eq-true_iff (leb (length s) 64) (all_printable s)).0 e).1

flag_good : (b : Bool) → (read_name print_flag (false ∷ true ∷ []) (print_flag b) ≡ Some b) × NoLf (print_flag b)
unfolding read_name print_flag ascii equals
flag_good false = (refl, refl)
flag_good true = (refl, refl)

flag_value : Value read_flag Any print_flag
unfolding read_flag
flag_value = name_value print_flag (false ∷ true ∷ []) flag_good

pub record_takes : Takes take_record ValidRecord print_record
unfolding take_record print_record flatten
record_takes =
    let db-law = field-takes (ascii "db=") (up_to-value 1) in
    let page-law = field-takes (ascii "page=") (up_to-value 2147483647) in
    let col-law = field-takes (ascii "col=") (up_to-value 65535) in
    let type-law = field-takes (ascii "type=") declared_value in
    let notnull-law = field-takes (ascii "notnull=") flag_value in
    takes_from
    (λ r v.
    then_yields db-law _ v.db_small (
    then_yields page-law _ v.page_small (
    then_yields col-law _ v.col_small (
    then_yields type-law _ v.declared_printable (
    then_yields notnull-law _ tt
    give_yields)))))
    (then_gives db-law _ λ db db_small.
    then_gives page-law _ λ page page_small.
    then_gives col-law _ λ col col_small.
    then_gives type-law _ λ declared declared_printable.
    then_gives notnull-law _ λ notnull _.
    give_gives _ λ u. (
      record { db_small = db_small; page_small = page_small; col_small = col_small; declared_printable = declared_printable },
      sym (simp append_assoc),
    ))

record_longer : (k : ℕ) (r : CatalogueRecord) → 1 ≤ length (print_record r)
unfolding ascii print_field print_record flatten
record_longer k r = omega arith

pub catalogue_exact : CatalogueExact
unfolding read_catalogue print_catalogue
catalogue_exact = items_exact (λ _. take_record) ValidRecord (λ _. print_record) (λ _. record_takes) record_longer
