-- The listing's text: the reader accepts exactly the printings of valid rows. Assumes nothing.
use mathlib.Core.Path.{◌≡◌, refl, sym}
use mathlib.Core.Bool.{Bool, true, false, ◌||◌, not, and-eq-true_iff}
use mathlib.Core.List.{flatten, append_assoc}
use Prim.Native.Nat.{ℕ, ◌≤◌, ◌<◌}
use native.Mathlib.Omega.{arith}
use lib.Dec.{eqb}
use lib.ListN.{length}
use borrow.Author.Tests.{leb-true, le-leb}
use Rattle.type_info.specs.Ascii.{ascii, within}
use Rattle.model.specs.Row.{Row}
use Rattle.type_info.specs.All.{All, all_of}
use Rattle.model.specs.Numbers.{is_digit, print_hex}
use Rattle.model.specs.Fields.{print_field}
use Rattle.model.specs.ListingText.{is_alnum, is_operation, ValidRow, print_row, read_operation, read_p4, take_row, print_listing, read_listing}
use Rattle.model.specs.TextClaims.{Takes, ListingExact}
use Rattle.model.proofs.ReaderLaws.{takes_from, then_yields, then_gives, give_yields, give_gives}
use Rattle.model.proofs.TestLaws.{all_of_weaker}
use Rattle.model.proofs.FieldLaws.{within_no_lf, Value, if_value, text_value, field-takes}
use Rattle.model.proofs.ItemLaws.{items_exact}
use Rattle.model.proofs.DecimalLaws.{index-value, signed_value}
use Rattle.model.proofs.HexLaws.{hex_value_lem}

alnum_no_lf : (b : ℕ) → is_alnum b ≡ true → not (eqb b 10) ≡ true
alnum_no_lf b e = go (is_digit b) (within 65 90 b) refl refl e
  where
    go : (digit capital : Bool) → is_digit b ≡ digit → within 65 90 b ≡ capital → (digit || (capital || within 97 122 b)) ≡ true → not (eqb b 10) ≡ true
    go true capital p q e = within_no_lf 48 57 b (omega arith) p
    go false true p q e = within_no_lf 65 90 b (omega arith) q
    go false false p q e = within_no_lf 97 122 b (omega arith) e

operation_value : Value read_operation (λ s. is_operation s ≡ true) (λ s. s)
unfolding read_operation is_operation
operation_value = text_value λ s e. all_of_weaker alnum_no_lf s ((and-eq-true_iff (within 1 32 (length s)) (all_of is_alnum s)).0 e).1

p4_value : Value read_p4 (λ bs. (length bs ≤ 255) × All (λ b. b < 256) bs) print_hex
unfolding read_p4
p4_value = if_value hex_value_lem λ bs. (λ h. (leb-true (length bs) 255 h.1, h.0), λ h. (h.1, le-leb (length bs) 255 h.0))

pub row-takes : (addr : ℕ) → Takes (take_row addr) ValidRow (print_row addr)
unfolding take_row print_row flatten
row-takes addr =
    let addr-law = field-takes (ascii "addr=") (index-value addr) in
    let op-law = field-takes (ascii "op=") operation_value in
    let p1-law = field-takes (ascii "p1=") signed_value in
    let p2-law = field-takes (ascii "p2=") signed_value in
    let p3-law = field-takes (ascii "p3=") signed_value in
    let p4-law = field-takes (ascii "p4=") p4_value in
    takes_from
    (λ r v.
    then_yields addr-law _ tt (
    then_yields op-law _ v.op_named (
    then_yields p1-law _ v.p1_small (
    then_yields p2-law _ v.p2_small (
    then_yields p3-law _ v.p3_small (
    then_yields p4-law _ (v.p4_short, v.p4_bytes)
    give_yields))))))
    (then_gives addr-law _ λ _ _.
    then_gives op-law _ λ op op_named.
    then_gives p1-law _ λ p1 p1_small.
    then_gives p2-law _ λ p2 p2_small.
    then_gives p3-law _ λ p3 p3_small.
    then_gives p4-law _ λ p4 p4_good.
    give_gives _ λ u. (
      record { op_named = op_named; p1_small = p1_small; p2_small = p2_small; p3_small = p3_small; p4_short = p4_good.0; p4_bytes = p4_good.1 },
      sym (simp append_assoc),
    ))

row-longer : (addr : ℕ) (r : Row) → 1 ≤ length (print_row addr r)
unfolding ascii print_field print_row flatten
row-longer addr r = omega arith

pub listing_exact : ListingExact
unfolding read_listing print_listing
listing_exact = items_exact take_row ValidRow print_row row-takes row-longer
