-- The numbers of the refusals. 01, "Walk, refusals in order" and "Declared type, refusal". Assumes nothing.
use Rattle.std.specs.Prelude.{ℕ}
use Rattle.refusal.specs.declared.Refusal.{Refusal}
use Rattle.refusal.specs.declared.Refusal.TheVariants.{IllFormedListing, IllFormedCatalogue, TooManyLines, AreaSize, AnswerTooLong, Negative, IndexTooLarge, TooManyCells, TooDeep, NotUtf8, NoSpace, TooWide, NotDeclared}

abbrev pub number_of : Refusal → ℕ
-- the listing is ill-formed
number_of IllFormedListing = 1
-- the catalogue is
number_of IllFormedCatalogue = 2
-- more than 2,048 rows, or more than 4,096 records
number_of TooManyLines = 3
-- an area of too few bytes for so many rows, or of more than 16 MiB
number_of AreaSize = 4
-- the answer is longer than its buffer
number_of AnswerTooLong = 5
-- a map index, or a count, below 0
number_of Negative = 6
-- a map index above 65,535
number_of IndexTooLarge = 7
-- a store that makes a state of more than 512 cells
number_of TooManyCells = 8
-- a store that makes records nested deeper than 8
number_of TooDeep = 9
-- a P4 that is not UTF-8, where it is read
number_of NotUtf8 = 10
-- no space to remember a new branch
number_of NoSpace = 11
-- a result row of more than 2,000 columns
number_of TooWide = 12
-- no declared type: empty, over 64 bytes, or a byte outside 32 to 126
number_of NotDeclared = 13
