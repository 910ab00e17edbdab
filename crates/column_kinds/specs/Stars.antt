-- The ★ cases of 01, "Sample runs", listings and declared types, in one table; proofs/Stars.antt has the one proof over it. Assumes nothing.
use Rattle.std.specs.Prelude.{List, ◌++◌, map}
use Rattle.type_info.specs.Stars.{Star as Declared, Holds as DeclaredHolds, stars as declared_stars}
use Rattle.model.specs.Stars.{Star as Listed, Holds as ListedHolds, stars as listed_stars}

pub data Star : Type 0 where
  -- a listing's text, and what the call makes of it
  listing : Listed → Star
  -- a declared type, its kind and affinity
  declared : Declared → Star

unfoldable pub stars : List Star
stars = map listing listed_stars ++ map declared declared_stars

abbrev pub Holds : Star → Type 0
Holds (listing s) = ListedHolds s
Holds (declared s) = DeclaredHolds s
