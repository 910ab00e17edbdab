-- An answer that may be a refusal, told of something else: of a state's runs instead of the state. Assumes nothing.
use Rattle.model.specs.Walk.{Tried, refused, done}

abbrev pub map_tried : {A B : Type 0} → (A → B) → Tried A → Tried B
map_tried f (refused n) = refused n
map_tried f (done a) = done (f a)
