-- The ★ cases of specs/Stars.antt hold. Assumes nothing.
use mathlib.Core.List.{List, ◌++◌, map}
use Rattle.type_info.specs.All.{All, all_nil, all_cons}
use Rattle.type_info.proofs.Stars.{stars_hold as declared-hold}
use Rattle.model.proofs.Stars.{stars_hold as listed-hold}
use Rattle.column_kinds.specs.Stars.{listing, declared, stars, Holds}

-- of each element's image, and of two lists in a row
all_map : {A B : Type 0} {P : A → Type 0} {Q : B → Type 0} (f : A → B) → ((a : A) → P a → Q (f a)) → {xs : List A} → All P xs → All Q (map f xs)
all_map f g all_nil = all_nil
all_map f g (all_cons {x = a} h more) = all_cons (g a h) (all_map f g more)

all_append : {A : Type 0} {P : A → Type 0} {xs ys : List A} → All P xs → All P ys → All P (xs ++ ys)
all_append all_nil more = more
all_append (all_cons h rest) more = all_cons h (all_append rest more)

pub stars_hold : All Holds stars
unfolding stars
stars_hold = all_append (all_map listing (λ s h. h) listed-hold) (all_map declared (λ s h. h) declared-hold)
