-- The ★ listings of specs/Stars.antt, computed. Assumes nothing.
use mathlib.Core.Path.{◌≡◌, refl, ap, ◌∙◌}
use mathlib.Core.List.{List, []}
use Rattle.type_info.specs.All.{All, all_nil, all_cons}
use Rattle.type_info.specs.Ascii.{ascii}
use Rattle.model.specs.Call.{rows_of, records_of, area_fits, print_into, outcome, leave, call}
use Rattle.model.specs.Stars.{Star, stars, Holds}
use Rattle.model.specs.OpenTexts.{open_texts}
use Rattle.model.specs.OpenWalk.{open_walk}

abbrev Computes : Star → Type 0
Computes s = outcome (ascii s.listing) [] 65536 65536 ≡ s.outcome

computed : All Computes stars
unfolding open_texts open_walk rows_of records_of area_fits print_into outcome stars
computed =
    all_cons refl (all_cons refl (all_cons refl (all_cons refl (all_cons refl (all_cons refl (all_cons refl (all_cons refl all_nil)))))))

holds : {ss : List Star} → All Computes ss → All Holds ss
unfolding call
holds all_nil = all_nil
holds (all_cons {x = s} h more) =
    all_cons (λ answer e. ap (λ room. leave answer (outcome (ascii s.listing) [] 65536 room)) e ∙ ap (leave answer) h) (holds more)

pub stars_hold : All Holds stars
stars_hold = holds computed
