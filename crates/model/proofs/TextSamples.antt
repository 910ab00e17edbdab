-- Texts computed: ★A's listing and answer as 01 has them, printed from their values and read back; and texts at the limits of the forms,
-- which are accepted or refused. Assumes nothing.
use mathlib.Core.Path.{◌≡◌, refl}
use mathlib.Core.Bool.{Bool, true, false, cond, beq}
use Rattle.std.specs.Prelude.{Option, None, Some}
use mathlib.Core.List.{List, [], ◌∷◌, map, flatten}
use Prim.Native.Nat.{ℕ}
use Prim.Native.String.{String}
use lib.IntN.{pos}
use lib.ListN.{replicate}
use Rattle.type_info.specs.Ascii.{ascii}
use Rattle.type_info.specs.declared.DataType.TheVariants as kind
use Rattle.model.specs.Row.{Row}
use Rattle.model.specs.ListingText.{print_listing, read_listing}
use Rattle.model.specs.CatalogueText.{read_catalogue}
use Rattle.model.specs.AnswerText.{print_answer, read_answer}
use Rattle.model.specs.Answer.{Answer}
use Rattle.model.specs.OpenTexts.{open_texts}

-- ★A
listing : List Row
listing = row "Init" 0 1 ∷ row "Integer" 7 1 ∷ row "Null" 0 2 ∷ row "ResultRow" 1 2 ∷ row "Halt" 0 0 ∷ []
  where
    row : String → ℕ → ℕ → Row
    row op p1 p2 = record { op = ascii op; p1 = pos p1; p2 = pos p2; p3 = pos 0; p4 = [] }

listing_text : List ℕ
listing_text = ascii "addr=0\nop=Init\np1=0\np2=1\np3=0\np4=\naddr=1\nop=Integer\np1=7\np2=1\np3=0\np4=\naddr=2\nop=Null\np1=0\np2=2\np3=0\np4=\naddr=3\nop=ResultRow\np1=1\np2=2\np3=0\np4=\naddr=4\nop=Halt\np1=0\np2=0\np3=0\np4=\n"

listing_printed : print_listing listing ≡ listing_text
unfolding open_texts listing listing_text
listing_printed = refl

listing-read : read_listing listing_text ≡ Some listing
unfolding open_texts listing listing_text
listing-read = refl

answer : Answer
answer = record {
  charged = 5;
  loopstops = 0;
  gasstops = 0;
  repeats = 0;
  columns = record { datatype = kind.Integer; nullable = Some false } ∷ record { datatype = kind.Null; nullable = Some true } ∷ [];
}

answer_text : List ℕ
answer_text = ascii "columns=2\ncharged=5\nloopstops=0\ngasstops=0\nrepeats=0\ncol=0\ntype=Integer\nnull=no\ncol=1\ntype=Null\nnull=yes\n"

answer_printed : print_answer answer ≡ answer_text
unfolding open_texts answer answer_text
answer_printed = refl

answer-read : read_answer answer_text ≡ Some answer
unfolding open_texts answer answer_text
answer-read = refl

-- a text, and whether its reader accepts it
record Case : Type 0 where
  text : List ℕ
  good : Bool

file : String → Bool → Case
file text good = record { text = ascii text; good = good }

-- so many digits 0 between two texts
padded : String → ℕ → String → Bool → Case
padded first n last good = record { text = flatten (ascii first ∷ replicate n 48 ∷ ascii last ∷ []); good = good }

-- one row, and one record
row : String → String → String → String → Bool → Case
row addr op p1 p4 good = record {
  text = flatten (map ascii ("addr=" ∷ addr ∷ "\nop=" ∷ op ∷ "\np1=" ∷ p1 ∷ "\np2=0\np3=0\np4=" ∷ p4 ∷ "\n" ∷ []));
  good = good;
}

entry : String → String → String → String → String → Bool → Case
entry db page col declared notnull good = record {
  text = flatten (map ascii ("db=" ∷ db ∷ "\npage=" ∷ page ∷ "\ncol=" ∷ col ∷ "\ntype=" ∷ declared ∷ "\nnotnull=" ∷ notnull ∷ "\n" ∷ []));
  good = good;
}

accepted : {A : Type 0} → Option A → Bool
accepted None = false
accepted (Some a) = true

failing : {A : Type 0} → (List ℕ → Option A) → List Case → List Case
failing read [] = []
failing read (c ∷ more) = let rest = failing read more in cond (beq c.good (accepted (read c.text))) rest (c ∷ rest)

listing_limits : failing read_listing (
    row "0" "Goto" "2147483647" "" true
    ∷ row "0" "Goto" "2147483648" "" false
    ∷ row "0" "Goto" "-2147483648" "00ff" true
    ∷ row "0" "Goto" "-2147483649" "" false
    ∷ row "0" "Goto" "-0" "" false
    ∷ row "0" "Goto" "01" "" false
    ∷ row "0" "Goto" "+1" "" false
    ∷ row "0" "Goto" "" "" false
    ∷ row "1" "Goto" "0" "" false
    ∷ row "00" "Goto" "0" "" false
    ∷ row "0" "" "0" "" false
    ∷ row "0" "abcdefghijklmnopqrstuvwxyzABC789" "0" "" true
    ∷ row "0" "abcdefghijklmnopqrstuvwxyzABC6789" "0" "" false
    ∷ row "0" "Seek-GE" "0" "" false
    ∷ row "0" "Goto" "0" "0" false
    ∷ row "0" "Goto" "0" "FF" false
    ∷ padded "addr=0\nop=Halt\np1=0\np2=0\np3=0\np4=" 510 "\n" true
    ∷ padded "addr=0\nop=Halt\np1=0\np2=0\np3=0\np4=" 512 "\n" false
    ∷ file "" true
    ∷ file "\n" false
    ∷ file "addr=0\nop=Halt\np1=0\np2=0\np3=0\np4=" false
    ∷ file "addr=0\nop=Halt\np1=0\np2=0\np3=0\np4=\n\n" false
    ∷ file "addr=0\nop=Halt\np2=0\np1=0\np3=0\np4=\n" false
    ∷ file "addr=0\r\nop=Halt\r\np1=0\r\np2=0\r\np3=0\r\np4=\r\n" false
    ∷ []) ≡ []
unfolding open_texts file padded row accepted failing
listing_limits = refl

catalogue_limits : failing read_catalogue (
    entry "1" "2147483647" "65535" "" "1" true
    ∷ entry "0" "0" "0" "VARCHAR(20) ~" "0" true
    ∷ entry "2" "0" "0" "" "0" false
    ∷ entry "0" "2147483648" "0" "" "0" false
    ∷ entry "0" "0" "65536" "" "0" false
    ∷ entry "0" "0" "0" "INT\t" "0" false
    ∷ entry "0" "0" "0" "" "2" false
    ∷ entry "0" "0" "0" "" "01" false
    ∷ padded "db=0\npage=0\ncol=0\ntype=" 64 "\nnotnull=0\n" true
    ∷ padded "db=0\npage=0\ncol=0\ntype=" 65 "\nnotnull=0\n" false
    ∷ file "" true
    ∷ []) ≡ []
unfolding open_texts file padded entry accepted failing
catalogue_limits = refl

answer_limits : failing read_answer (
    file "columns=0\ncharged=4294967295\nloopstops=0\ngasstops=0\nrepeats=0\n" true
    ∷ file "columns=0\ncharged=4294967296\nloopstops=0\ngasstops=0\nrepeats=0\n" false
    ∷ file "columns=1\ncharged=1\nloopstops=0\ngasstops=0\nrepeats=0\n" false
    ∷ file "columns=0\ncharged=1\nloopstops=0\ngasstops=0\nrepeats=0\ncol=0\ntype=Null\nnull=unknown\n" false
    ∷ file "columns=1\ncharged=1\nloopstops=0\ngasstops=0\nrepeats=0\ncol=0\ntype=Null\nnull=unknown\n" true
    ∷ file "columns=1\ncharged=1\nloopstops=0\ngasstops=0\nrepeats=0\ncol=0\ntype=null\nnull=unknown\n" false
    ∷ file "" false
    ∷ []) ≡ []
unfolding open_texts file accepted failing
answer_limits = refl
