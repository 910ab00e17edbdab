-- The answer's text: the reader accepts exactly the printings of valid answers. Assumes nothing.
use mathlib.Core.Path.{◌≡◌, refl, sym}
use mathlib.Core.Bool.{Bool, true, false}
use Rattle.std.specs.Prelude.{Option, None, Some}
use mathlib.Core.List.{List, [], ◌∷◌, flatten, append_assoc}
use Prim.Native.Nat.{ℕ}
use lib.ListN.{length}
use Rattle.type_info.specs.Ascii.{ascii, equals}
use Rattle.type_info.specs.Names.{name_of}
use Rattle.type_info.specs.declared.DataType.{DataType}
use Rattle.type_info.specs.declared.DataType.TheVariants as kind
use Rattle.type_info.specs.All.{All, all_nil, all_cons}
use Rattle.model.specs.Reader.{read_name}
use Rattle.model.specs.AnswerText.{most_counted, ValidAnswer, print_nullable, print_column, print_answer, data_types, read_data_type, read_nullable, take_column, take_answer, read_answer}
use Rattle.model.specs.TextClaims.{Takes, AnswerExact}
use Rattle.model.proofs.ReaderLaws.{Any, takes_from, then_yields, then_gives, give_yields, give_gives, whole_exact}
use Rattle.model.proofs.FieldLaws.{NoLf, Value, name_value, field-takes}
use Rattle.model.proofs.ItemLaws.{items_take}
use Rattle.model.proofs.DecimalLaws.{up_to-value, index-value}

type_good : (k : DataType) → (read_name name_of data_types (name_of k) ≡ Some k) × NoLf (name_of k)
unfolding read_name name_of data_types ascii equals
type_good kind.Null = (refl, refl)
type_good kind.Integer = (refl, refl)
type_good kind.Float = (refl, refl)
type_good kind.Text = (refl, refl)
type_good kind.Blob = (refl, refl)
type_good kind.Numeric = (refl, refl)
type_good kind.Bool = (refl, refl)
type_good kind.Int4 = (refl, refl)
type_good kind.Date = (refl, refl)
type_good kind.Time = (refl, refl)
type_good kind.Datetime = (refl, refl)

type_value : Value read_data_type Any name_of
unfolding read_data_type
type_value = name_value name_of data_types type_good

nullable_good : (n : Option Bool) → (read_name print_nullable (Some true ∷ Some false ∷ None ∷ []) (print_nullable n) ≡ Some n) × NoLf (print_nullable n)
unfolding read_name print_nullable ascii equals
nullable_good (Some true) = (refl, refl)
nullable_good (Some false) = (refl, refl)
nullable_good None = (refl, refl)

nullable_value : Value read_nullable Any print_nullable
unfolding read_nullable
nullable_value = name_value print_nullable (Some true ∷ Some false ∷ None ∷ []) nullable_good

pub column_takes : (k : ℕ) → Takes (take_column k) Any (print_column k)
unfolding take_column print_column flatten
column_takes k =
    let col-law = field-takes (ascii "col=") (index-value k) in
    let type-law = field-takes (ascii "type=") type_value in
    let null-law = field-takes (ascii "null=") nullable_value in
    takes_from
    (λ c _.
    then_yields col-law _ tt (
    then_yields type-law _ tt (
    then_yields null-law _ tt
    give_yields)))
    (then_gives col-law _ λ _ _.
    then_gives type-law _ λ datatype _.
    then_gives null-law _ λ nullable _.
    give_gives _ λ u. (tt, sym (simp append_assoc)))

all_any : {A : Type 0} (xs : List A) → All Any xs
all_any [] = all_nil
all_any (x ∷ xs) = all_cons tt (all_any xs)

pub answer-takes : Takes take_answer ValidAnswer print_answer
unfolding take_answer print_answer flatten
answer-takes =
    let width-law = field-takes (ascii "columns=") (up_to-value 2000) in
    let charged-law = field-takes (ascii "charged=") (up_to-value most_counted) in
    let loopstops-law = field-takes (ascii "loopstops=") (up_to-value most_counted) in
    let gasstops-law = field-takes (ascii "gasstops=") (up_to-value most_counted) in
    let repeats-law = field-takes (ascii "repeats=") (up_to-value most_counted) in
    takes_from
    (λ a v.
    then_yields width-law _ v.columns_few (
    then_yields charged-law _ v.charged_small (
    then_yields loopstops-law _ v.loopstops_small (
    then_yields gasstops-law _ v.gasstops_small (
    then_yields repeats-law _ v.repeats_small (
    then_yields (items_take take_column Any print_column column_takes (length a.columns) 0) _ (refl, all_any a.columns)
    give_yields))))))
    (then_gives width-law _ λ width width_small.
    then_gives charged-law _ λ charged charged_small.
    then_gives loopstops-law _ λ loopstops loopstops_small.
    then_gives gasstops-law _ λ gasstops gasstops_small.
    then_gives repeats-law _ λ repeats repeats_small.
    then_gives (items_take take_column Any print_column column_takes width 0) _ λ columns h.
    give_gives _ λ u. (
      record { columns_few = rw h.0 width_small; charged_small = charged_small; loopstops_small = loopstops_small; gasstops_small = gasstops_small; repeats_small = repeats_small },
      rw h.0 (sym (simp append_assoc)),
    ))

pub answer_exact : AnswerExact
unfolding read_answer
answer_exact = whole_exact answer-takes
