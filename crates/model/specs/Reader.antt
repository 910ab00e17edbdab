-- Reading a text: a value reader is given a whole text, a `Reader` takes what it needs from the front and gives the value and the rest.
-- `do` puts readers in a row: each goes on with what the one before it left. Assumes nothing.
use Rattle.std.specs.Prelude.{Bool, true, false, List, [], ◌∷◌, ℕ, Option, None, Some}
use Rattle.type_info.specs.Ascii.{equals}

-- go on with what was read, if anything was
infixl 20 ◌then◌
abbrev pub ◌then◌ : {A B : Type 0} → Option A → (A → Option B) → Option B
None then f = None
Some a then f = f a

-- nothing where the test fails
abbrev pub only_if : {A : Type 0} → Bool → Option A → Option A
only_if true o = o
only_if false o = None

-- no text is left
abbrev pub ended : List ℕ → Bool
ended [] = true
ended (b ∷ t) = false

-- what is read, if it passes the test
unfoldable pub read_if : {A : Type 0} → (A → Bool) → (List ℕ → Option A) → List ℕ → Option A
read_if test read t = read t then λ a. only_if (test a) (Some a)

-- this one where the test passes, else what is found further on
abbrev pub this_or : {A : Type 0} → Bool → A → Option A → Option A
this_or true a rest = Some a
this_or false a rest = rest

-- the value, among those listed, whose name the text is
unfoldable pub read_name : {A : Type 0} → (A → List ℕ) → List A → List ℕ → Option A
read_name name [] t = None
read_name name (a ∷ more) t = this_or (equals (name a) t) a (read_name name more t)

-- the value and the rest of the text, or nothing
abbrev pub Reader : Type 0 → Type 0
Reader A = List ℕ → Option (A × List ℕ)

-- one reader, then another that may depend on what the first gave
infixl 20 ◌>>=◌
unfoldable pub ◌>>=◌ : {A B : Type 0} → Reader A → (A → Reader B) → Reader B
◌>>=◌ r f t = r t then λ x. f x.0 x.1

abbrev pub ◌>>◌ : {A B : Type 0} → Reader A → Reader B → Reader B
◌>>◌ r s = r >>= λ _. s

-- takes nothing, and gives what there is
unfoldable pub given : {A : Type 0} → Option A → Reader A
given o t = o then λ a. Some (a, t)

abbrev pub give : {A : Type 0} → A → Reader A
give a = given (Some a)

-- the whole text
unfoldable pub whole : {A : Type 0} → Reader A → List ℕ → Option A
whole r t = r t then λ x. only_if (ended x.1) (Some x.0)
