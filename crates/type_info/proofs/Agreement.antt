-- Kind and affinity of a declared type agree as specs/Agreement.antt says: the Rust's last arms are the page's rules. Assumes nothing.
use mathlib.Core.Path.{◌≡◌, refl, sym, ap, ◌∙◌}
use mathlib.Core.Bool.{Bool, true, false, ◌||◌}
use mathlib.Core.List.{List, [], ◌∷◌, ◌++◌}
use Prim.Native.Nat.{ℕ}
use Prim.Native.String.{String}
use lib.ListN.{drop}
use Rattle.type_info.specs.All.{All, all_nil, all_cons}
use Rattle.type_info.specs.Ascii.{ascii, lower_byte, lowercase, equals, starts_with, contains}
use Rattle.type_info.specs.Kind.{Arm, exactly, containing, takes, gives, arms, first_if, first_arm, from_str, or_null, kind_of}
use Rattle.type_info.specs.Affinity.{Rule, rules, contains_any_case, affinity_if, first_rule, affinity_of}
use Rattle.type_info.specs.Agreement.{kind_of_affinity, Word, words, is_one_of, Says, Agreement}
use Rattle.type_info.specs.declared.DataType.{DataType}

-- arms that contain the rules' words and give what their affinities say
data Alike : List Arm → List Rule → Type 0 where
  none : Alike [] []
  also :
      {w : String} {k : DataType} {r : Rule} {more : List Arm} {later : List Rule} →
      ascii w ≡ lowercase (ascii r.word) →
      k ≡ kind_of_affinity r.affinity →
      Alike more later →
      Alike (containing w k ∷ more) (r ∷ later)

same : (s : List ℕ) {more : List Arm} {later : List Rule} → Alike more later → or_null (first_arm more (lowercase s)) ≡ kind_of_affinity (first_rule later s)
unfolding first_arm first_rule takes contains_any_case
same s none = refl
same s (also {w} {k} {r} {more} {later} e₁ e₂ h) =
    ap (λ t. or_null (first_if (contains (lowercase s) t) k (first_arm more (lowercase s)))) e₁
    ∙ go (contains (lowercase s) (lowercase (ascii r.word))) (same s h)
  where
    go :
        (b : Bool) →
        or_null (first_arm more (lowercase s)) ≡ kind_of_affinity (first_rule later s) →
        or_null (first_if b k (first_arm more (lowercase s))) ≡ kind_of_affinity (affinity_if b r.affinity (first_rule later s))
    go true h₂ = e₂
    go false h₂ = h₂

last-arms : Alike (drop 8 arms) rules
unfolding arms rules ascii lowercase lower_byte
last-arms = also refl refl (also refl refl (also refl refl (also refl refl (also refl refl (also refl refl (also refl refl (also refl refl none)))))))

-- behind the Rust's own words, the arms decide as the affinity does
pub last_agree : (s : List ℕ) → or_null (first_arm (drop 8 arms) (lowercase s)) ≡ kind_of_affinity (affinity_of s)
unfolding affinity_of
last_agree s = same s last-arms

-- an arm that does not take the text leaves it to the rest
arm_fails : (a : Arm) (more : List Arm) (s : List ℕ) → takes a s ≡ false → first_arm more s ≡ first_arm (a ∷ more) s
unfolding first_arm
arm_fails a more s e = sym (ap (λ b. first_if b (gives a) (first_arm more s)) e)

own : List Word → List Arm
own [] = []
own (w ∷ ws) = exactly w.text w.kind ∷ own ws

skips : (ws : List Word) (more : List Arm) (s : List ℕ) → is_one_of ws s ≡ false → first_arm (own ws ++ more) (lowercase s) ≡ first_arm more (lowercase s)
unfolding own is_one_of takes
skips [] more s e = refl
skips (w ∷ ws) more s e = go (equals (lowercase s) (ascii w.text)) refl e (skips ws more s)
  where
    go :
        (b : Bool) →
        equals (lowercase s) (ascii w.text) ≡ b →
        (b || is_one_of ws s) ≡ false →
        (is_one_of ws s ≡ false → first_arm (own ws ++ more) (lowercase s) ≡ first_arm more (lowercase s)) →
        first_arm (own (w ∷ ws) ++ more) (lowercase s) ≡ first_arm more (lowercase s)
    go true h f rest = cc
    go false h f rest = sym (arm_fails (exactly w.text w.kind) (own ws ++ more) (lowercase s) h) ∙ rest f

outside : (s : List ℕ) → is_one_of words s ≡ false → kind_of s ≡ kind_of_affinity (affinity_of s)
unfolding kind_of from_str arms words own
outside s e = ap or_null (skips words (drop 8 arms) s e) ∙ last_agree s

-- both read the text in lower case alone
kind_lower : (s t : List ℕ) → lowercase s ≡ lowercase t → kind_of s ≡ kind_of t
unfolding kind_of from_str
kind_lower s t e = ap (λ l. or_null (first_arm arms l)) e

affinity_lower : (rs : List Rule) (s t : List ℕ) → lowercase s ≡ lowercase t → first_rule rs s ≡ first_rule rs t
unfolding first_rule contains_any_case
affinity_lower [] s t e = refl
affinity_lower (r ∷ rs) s t e =
    ap (λ l. affinity_if (contains l (lowercase (ascii r.word))) r.affinity (first_rule rs s)) e
    ∙ ap (λ a. affinity_if (contains (lowercase t) (lowercase (ascii r.word))) r.affinity a) (affinity_lower rs s t e)

-- of a word in lower case, by computation
abbrev Computes : Word → Type 0
Computes w = (ascii w.text ≡ lowercase (ascii w.text)) × (kind_of (ascii w.text) ≡ w.kind) × (affinity_of (ascii w.text) ≡ w.affinity)

computed : All Computes words
unfolding words ascii lowercase lower_byte kind_of from_str first_arm arms takes equals contains starts_with affinity_of first_rule rules contains_any_case
computed =
    all_cons (refl, refl, refl)
    (all_cons (refl, refl, refl)
    (all_cons (refl, refl, refl)
    (all_cons (refl, refl, refl)
    (all_cons (refl, refl, refl)
    (all_cons (refl, refl, refl)
    (all_cons (refl, refl, refl)
    (all_cons (refl, refl, refl) all_nil)))))))

of_words : {ws : List Word} → All Computes ws → All Says ws
unfolding affinity_of
of_words all_nil = all_nil
of_words (all_cons {x = w} h more) =
    all_cons
    (λ s e. (kind_lower s (ascii w.text) (e ∙ h.0) ∙ h.1, affinity_lower rules s (ascii w.text) (e ∙ h.0) ∙ h.2))
    (of_words more)

pub agreement : Agreement
agreement = record { outside = outside; of_words = of_words computed }
