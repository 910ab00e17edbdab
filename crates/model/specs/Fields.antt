-- Fields: a field is a key, its value and LF. 01, "The call": LF-ended lines, each `key=value`; rows, records and columns are such lines
-- in a fixed order, one item after the other. A reader takes what its printer prints, and leaves the rest. Assumes nothing.
use Rattle.std.specs.Prelude.{true, false, List, [], ◌∷◌, ◌++◌, ℕ, zero, suc, eqb, length, Option, None, Some}
use Rattle.model.specs.Reader.{◌then◌, only_if, Reader, ◌>>=◌, ◌>>◌, given, give}

-- what stands before the first LF
unfoldable pub take_line : Reader (List ℕ)
take_line [] = None
take_line (b ∷ t) = elim (eqb b 10) [ true ↦ Some ([], t) | false ↦ take_line t then λ l. Some (b ∷ l.0, l.1) ]

-- a key, which must stand there
unfoldable pub take_key : List ℕ → Reader Unit
take_key [] t = Some (tt, t)
take_key (k ∷ key) [] = None
take_key (k ∷ key) (b ∷ t) = only_if (eqb k b) (take_key key t)

-- the value's text
unfoldable pub take_value : List ℕ → Reader (List ℕ)
take_value key = do
  take_key key
  take_line

-- what is read of it
unfoldable pub take_field : {A : Type 0} → List ℕ → (List ℕ → Option A) → Reader A
take_field key read = do
  value ← take_value key
  given (read value)

-- a field, printed
unfoldable pub print_field : List ℕ → List ℕ → List ℕ
print_field key value = key ++ (value ++ (10 ∷ []))

-- Items in a row, numbered from k on: so many of them.
unfoldable pub take_items : {A : Type 0} → (ℕ → Reader A) → ℕ → ℕ → Reader (List A)
take_items item zero k = give []
take_items item (suc n) k = do
  x ← item k
  more ← take_items item n (suc k)
  give (x ∷ more)

-- The same until the text ends, at most so many.
unfoldable pub items_up_to : {A : Type 0} → (ℕ → Reader A) → ℕ → ℕ → List ℕ → Option (List A)
items_up_to item zero k [] = Some []
items_up_to item zero k (b ∷ t) = None
items_up_to item (suc most) k [] = Some []
items_up_to item (suc most) k (b ∷ t) = item k (b ∷ t) then λ x. items_up_to item most (suc k) x.1 then λ more. Some (x.0 ∷ more)

-- As many as there are: an item takes a byte at least.
unfoldable pub read_items : {A : Type 0} → (ℕ → Reader A) → List ℕ → Option (List A)
read_items item t = items_up_to item (length t) 0 t

-- Items in a row, printed.
unfoldable pub print_items : {A : Type 0} → (ℕ → A → List ℕ) → ℕ → List A → List ℕ
print_items print k [] = []
print_items print k (x ∷ more) = print k x ++ print_items print (suc k) more
