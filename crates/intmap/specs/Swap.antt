-- The entries of a map with those of one key put in the place of what the key has: an insertion and a removal, as lists of runs. Assumes nothing.
use Rattle.std.specs.Prelude.{List, [], ◌∷◌, ◌++◌, ℕ, eqb, ltb, Option, None, Some}
use Rattle.area.specs.declared.Cell.{Cell}
use Rattle.intmap.specs.Pick.{pick}
use Rattle.intmap.specs.Entries.{Runs, key_run}

-- the runs with rs in the place of the one that has the key, or before the first that is above it
unfoldable pub swap : ℕ → Runs → Runs → Runs
swap key rs [] = rs
swap key rs (e ∷ es) = pick (ltb (key_run e) key) (e ∷ swap key rs es) (pick (eqb (key_run e) key) (rs ++ es) (rs ++ e ∷ es))

-- the run that has a key
unfoldable pub lookup : ℕ → Runs → Option (List Cell)
lookup key [] = None
lookup key (e ∷ es) = pick (ltb (key_run e) key) (lookup key es) (pick (eqb (key_run e) key) (Some e) None)
