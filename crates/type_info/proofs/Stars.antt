-- The ★ cases of specs/Stars.antt, computed. Assumes nothing.
use mathlib.Core.Path.{refl}
use Rattle.type_info.specs.All.{All, all_nil, all_cons}
use Rattle.type_info.specs.Ascii.{ascii, lower_byte, lowercase, equals, starts_with, contains}
use Rattle.type_info.specs.Kind.{takes, arms, first_arm, from_str, kind_of}
use Rattle.type_info.specs.Affinity.{rules, contains_any_case, first_rule, affinity_of}
use Rattle.type_info.specs.DeclaredType.{all_printable, declared_type}
use Rattle.type_info.specs.Stars.{Holds, stars}

pub stars_hold : All Holds stars
unfolding stars ascii lower_byte lowercase equals starts_with contains takes arms first_arm from_str kind_of rules contains_any_case first_rule affinity_of all_printable declared_type
stars_hold = all_cons refl (all_cons refl (all_cons refl (all_cons refl all_nil)))
