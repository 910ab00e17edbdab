-- The columns of an answer say of the rows counted what 01 asks: kind, nullable and width. Assumes nothing.
use mathlib.Core.Path.{◌≡◌, refl, sym, ap, subst, ◌∙◌}
use mathlib.Core.Logic.{◌⊎◌, inl, inr, ◌↔◌}
use mathlib.Core.Bool.{Bool, true, false, false≢true}
use Rattle.std.specs.Prelude.{Option, None, Some, slice_get}
use Rattle.std.proofs.lemmas.Option.{none-some, same_Some}
use mathlib.Core.List.{List, [], ◌∷◌}
use Prim.Native.Nat.{ℕ, zero, suc, max}
use native.Mathlib.Omega.{arith}
use lib.ListN.{length}
use Rattle.type_info.specs.declared.DataType.{DataType}
use Rattle.type_info.specs.declared.DataType.TheVariants.{Null}
use Rattle.model.specs.Walk.{◌∈◌}
use Rattle.model.specs.State.{datatype_code, is_zero, is_null_type, first_if, either_nullable}
use Rattle.model.specs.Results.{ResultColumn, ResultRow, merge_column, merge, columns_of}
use Rattle.model.specs.Columns.{Gives, Every, NullableSays, Says, LatestKind, this, earlier, widest}
use Rattle.model.proofs.Same.{code-injective}

-- the column at a place, of the newer row and of the older ones
abbrev join : Option ResultColumn → Option ResultColumn → Option ResultColumn
join None old = old
join (Some new) None = Some new
join (Some new) (Some old) = Some (merge_column new old)

join-none : (o : Option ResultColumn) → o ≡ join o None
join-none None = refl
join-none (Some c) = refl

merge-at : (i : ℕ) (new old : List ResultColumn) → slice_get (merge new old) i ≡ join (slice_get new i) (slice_get old i)
unfolding merge
merge-at i [] [] = refl
merge-at i [] (b ∷ bs) = refl
merge-at i (a ∷ more) [] = join-none (slice_get (a ∷ more) i)
merge-at zero (a ∷ more) (b ∷ bs) = refl
merge-at (suc i) (a ∷ more) (b ∷ bs) = merge-at i more bs

-- Null is the kind of code 0
null_is : (k : DataType) → is_null_type k ≡ true → k ≡ Null
null_is k h = code-injective k Null (zero_is (datatype_code k) h)
  where
    zero_is : (n : ℕ) → is_zero n ≡ true → n ≡ 0
    zero_is zero h = refl
    zero_is (suc n) h = absurd (false≢true h)

never : {A : Type 0} {X : Type 0} {a : A} {o : Option A} → o ≡ None → o ≡ Some a → X
never {a = a} e t = absurd (none-some a (sym e ∙ t))

-- a newer row is put before the others
module _ (r : ResultRow) (rs : List ResultRow) (i : ℕ) where
  abbrev Old : ResultRow → Type 0
  Old z = z ∈ rs

  abbrev New : ResultRow → Type 0
  New z = z ∈ (r ∷ rs)

  older : (P : ResultColumn → Type 0) → Gives Old i P → Gives New i P
  older P g = record { row = g.row; has = inr g.has; column = g.column; there = g.there; holds = g.holds }

  every : (P : ResultColumn → Type 0) → ((d : ResultColumn) → slice_get r.columns i ≡ Some d → P d) → Every Old i P → Every New i P
  every P new old z d (inl e) t = new d (ap (λ (y : ResultRow). slice_get y.columns i) e ∙ t)
  every P new old z d (inr e) t = old z d e t

  -- the newer row lacks the column, or does not know whether it is nullable
  silent : ((d : ResultColumn) → slice_get r.columns i ≡ Some d → d.nullable ≡ None) → (b : Option Bool) → NullableSays Old i b → NullableSays New i b
  silent h (Some true) g = older (λ d. d.nullable ≡ Some true) g
  silent h (Some false) g = (older (λ d. d.nullable ≡ Some false) g.0, every (λ d. d.nullable ≡ Some true → ⊥) (λ d t e. never (h d t) e) g.1)
  silent h None g = every (λ d. d.nullable ≡ None) h g

  -- the newer row has the column
  module _ (a : ResultColumn) (at : slice_get r.columns i ≡ Some a) where
    newest : (P : ResultColumn → Type 0) → P a → Gives New i P
    newest P p = record { row = r; has = inl refl; column = a; there = at; holds = p }

    -- what holds of its column, and of the older ones
    every_at : (P : ResultColumn → Type 0) → P a → Every Old i P → Every New i P
    every_at P p old = every P (λ d t. subst P (same_Some a d (sym at ∙ t)) p) old

    says_true : a.nullable ≡ Some true → (b : Option Bool) → NullableSays New i (either_nullable (Some true) b)
    says_true q None = newest (λ d. d.nullable ≡ Some true) q
    says_true q (Some b) = newest (λ d. d.nullable ≡ Some true) q

    not_true : a.nullable ≡ Some false → a.nullable ≡ Some true → ⊥
    not_true q e = false≢true (same_Some false true (sym q ∙ e))

    says_false : a.nullable ≡ Some false → (b : Option Bool) → NullableSays Old i b → NullableSays New i (either_nullable (Some false) b)
    says_false q (Some true) g = older (λ d. d.nullable ≡ Some true) g
    says_false q (Some false) g = (newest (λ d. d.nullable ≡ Some false) q, every_at (λ d. d.nullable ≡ Some true → ⊥) (not_true q) g.1)
    says_false q None g = (newest (λ d. d.nullable ≡ Some false) q, every_at (λ d. d.nullable ≡ Some true → ⊥) (not_true q) (λ z d m t e. never (g z d m t) e))

    nullable_at : (b : Option Bool) → NullableSays Old i b → NullableSays New i (either_nullable a.nullable b)
    nullable_at b g = by a.nullable refl
      where
        by : (n : Option Bool) → a.nullable ≡ n → NullableSays New i (either_nullable n b)
        by None q = silent (λ d t. ap (λ (c : ResultColumn). c.nullable) (sym (same_Some a d (sym at ∙ t))) ∙ q) b g
        by (Some true) q = says_true q b
        by (Some false) q = says_false q b g

either-none : (n : Option Bool) → either_nullable n None ≡ n
either-none None = refl
either-none (Some b) = refl

-- what the columns at a place say, or that no row has one there
abbrev At : (ResultRow → Type 0) → ℕ → Option ResultColumn → Type 0
At X i None = Every X i (λ d. ⊥)
At X i (Some c) = Says X i c

module _ (r : ResultRow) (rs : List ResultRow) (i : ℕ) where
  cons_at : (o p : Option ResultColumn) → slice_get r.columns i ≡ o → At (λ z. z ∈ rs) i p → At (λ z. z ∈ (r ∷ rs)) i (join o p)
  cons_at None None e f = every r rs i (λ d. ⊥) (λ d t. never e t) f
  cons_at None (Some b) e f =
      record {
        kind_given = older r rs i (λ d. d.datatype ≡ b.datatype) f.kind_given;
        null_all = λ k. every r rs i (λ d. d.datatype ≡ Null) (λ d t. never e t) (f.null_all k);
        nullable = silent r rs i (λ d t. never e t) b.nullable f.nullable;
      }
  cons_at (Some a) None e f =
      record {
        kind_given = newest r rs i a e (λ d. d.datatype ≡ a.datatype) refl;
        null_all = λ k. every_at r rs i a e (λ d. d.datatype ≡ Null) k (λ z d m t. absurd (f z d m t));
        nullable = subst (NullableSays (λ z. z ∈ (r ∷ rs)) i) (either-none a.nullable) (nullable_at r rs i a e None (λ z d m t. absurd (f z d m t)));
      }
  cons_at (Some a) (Some b) e f =
      record {
        kind_given = given (is_null_type a.datatype);
        null_all = λ k. nulls (is_null_type a.datatype) refl k;
        nullable = nullable_at r rs i a e b.nullable f.nullable;
      }
    where
      given : (t : Bool) → Gives (λ z. z ∈ (r ∷ rs)) i (λ d. d.datatype ≡ first_if t a.datatype b.datatype)
      given true = older r rs i (λ d. d.datatype ≡ b.datatype) f.kind_given
      given false = newest r rs i a e (λ d. d.datatype ≡ a.datatype) refl

      nulls : (t : Bool) → is_null_type a.datatype ≡ t → first_if t a.datatype b.datatype ≡ Null → Every (λ z. z ∈ (r ∷ rs)) i (λ d. d.datatype ≡ Null)
      nulls true h k = every_at r rs i a e (λ d. d.datatype ≡ Null) (null_is a.datatype h) (f.null_all k)
      nulls false h k = absurd (false≢true (sym h ∙ ap is_null_type k))

columns-at : (rs : List ResultRow) (i : ℕ) → At (λ z. z ∈ rs) i (slice_get (columns_of rs) i)
unfolding columns_of
columns-at [] i = λ z d m t. m
columns-at (r ∷ rs) i =
    subst (At (λ z. z ∈ (r ∷ rs)) i) (sym (merge-at i r.columns (columns_of rs))) (cons_at r rs i (slice_get r.columns i) (slice_get (columns_of rs) i) refl (columns-at rs i))

-- a column of the answer says what 01 asks of the rows counted
pub columns_say : (rs : List ResultRow) (i : ℕ) (c : ResultColumn) → slice_get (columns_of rs) i ≡ Some c → Says (λ z. z ∈ rs) i c
columns_say rs i c e = subst (At (λ z. z ∈ rs) i) e (columns-at rs i)

-- and a column of a row counted is one of the answer's
pub column_there : (rs : List ResultRow) (i : ℕ) (r : ResultRow) (d : ResultColumn) → r ∈ rs → slice_get r.columns i ≡ Some d → (c : ResultColumn) × (slice_get (columns_of rs) i ≡ Some c)
column_there rs i r d h t = go (slice_get (columns_of rs) i) refl (columns-at rs i)
  where
    go : (o : Option ResultColumn) → slice_get (columns_of rs) i ≡ o → At (λ z. z ∈ rs) i o → (c : ResultColumn) × (slice_get (columns_of rs) i ≡ Some c)
    go None e f = absurd (f r d h t)
    go (Some c) e f = (c, e)

-- the kind at a place, unless it is Null, is that of the latest row whose kind isn't Null
abbrev Latest : List ResultRow → ℕ → Option ResultColumn → Type 0
Latest rs i None = Unit {0}
Latest rs i (Some c) = (c.datatype ≡ Null) ⊎ LatestKind i c.datatype rs

module _ (r : ResultRow) (rs : List ResultRow) (i : ℕ) where
  cons_latest : (o p : Option ResultColumn) → slice_get r.columns i ≡ o → Latest rs i p → Latest (r ∷ rs) i (join o p)
  cons_latest None None e f = tt
  cons_latest None (Some b) e (inl k) = inl k
  cons_latest None (Some b) e (inr l) = inr (earlier (λ d t. never e t) l)
  cons_latest (Some a) None e f = inr (this a e refl)
  cons_latest (Some a) (Some b) e f = by (is_null_type a.datatype) refl f
    where
      skip : is_null_type a.datatype ≡ true → (d : ResultColumn) → slice_get r.columns i ≡ Some d → d.datatype ≡ Null
      skip h d t = ap (λ (c : ResultColumn). c.datatype) (sym (same_Some a d (sym e ∙ t))) ∙ null_is a.datatype h

      by : (t : Bool) → is_null_type a.datatype ≡ t → Latest rs i (Some b) → (first_if t a.datatype b.datatype ≡ Null) ⊎ LatestKind i (first_if t a.datatype b.datatype) (r ∷ rs)
      by true h (inl k) = inl k
      by true h (inr l) = inr (earlier (skip h) l)
      by false h g = inr (this a e refl)

latest-at : (rs : List ResultRow) (i : ℕ) → Latest rs i (slice_get (columns_of rs) i)
unfolding columns_of
latest-at [] i = tt
latest-at (r ∷ rs) i =
    subst (Latest (r ∷ rs) i) (sym (merge-at i r.columns (columns_of rs))) (cons_latest r rs i (slice_get r.columns i) (slice_get (columns_of rs) i) refl (latest-at rs i))

pub kind_latest : (rs : List ResultRow) (i : ℕ) (c : ResultColumn) → slice_get (columns_of rs) i ≡ Some c → (c.datatype ≡ Null) ⊎ LatestKind i c.datatype rs
kind_latest rs i c e = subst (Latest rs i) e (latest-at rs i)

-- the answer is as wide as the widest row
merge-length : (new old : List ResultColumn) → length (merge new old) ≡ max (length new) (length old)
unfolding merge
merge-length [] [] = refl
merge-length [] (b ∷ bs) = omega arith
merge-length (a ∷ more) [] = omega arith
merge-length (a ∷ more) (b ∷ bs) = omega (arith, merge-length more bs)

pub columns_width : (rs : List ResultRow) → length (columns_of rs) ≡ widest rs
unfolding columns_of widest
columns_width [] = refl
columns_width (r ∷ rs) = omega (arith, merge-length r.columns (columns_of rs), columns_width rs)

-- `yes`, `no` and `unknown` stand exactly where 01 says so
module _ (X : ResultRow → Type 0) (i : ℕ) where
  clash : {P Q : ResultColumn → Type 0} → Gives X i P → Every X i Q → ((d : ResultColumn) → P d → Q d → ⊥) → ⊥
  clash g f against = against g.column g.holds (f g.row g.column g.has g.there)

  no_unknown : {b : Bool} → Gives X i (λ d. d.nullable ≡ Some b) → Every X i (λ d. d.nullable ≡ None) → ⊥
  no_unknown g f = clash g f (λ d p q. never q p)

  only_one : (n k : Option Bool) → NullableSays X i n → NullableSays X i k → n ≡ k
  only_one (Some true) (Some true) s u = refl
  only_one (Some true) (Some false) s u = absurd (clash s u.1 (λ d p q. q p))
  only_one (Some true) None s u = absurd (no_unknown s u)
  only_one (Some false) (Some true) s u = absurd (clash u s.1 (λ d p q. q p))
  only_one (Some false) (Some false) s u = refl
  only_one (Some false) None s u = absurd (no_unknown s.0 u)
  only_one None (Some true) s u = absurd (no_unknown u s)
  only_one None (Some false) s u = absurd (no_unknown u.0 s)
  only_one None None s u = refl

  pub nullable_exactly : (c : ResultColumn) → Says X i c → (n : Option Bool) → (c.nullable ≡ n) ↔ NullableSays X i n
  nullable_exactly c s n = ((λ e. subst (NullableSays X i) e s.nullable), only_one c.nullable n s.nullable)

-- the same set of rows, the same sayings
module _ (X Y : ResultRow → Type 0) (same : (r : ResultRow) → X r ↔ Y r) (i : ℕ) where
  gives_as : (P : ResultColumn → Type 0) → Gives X i P → Gives Y i P
  gives_as P g = record { row = g.row; has = (same g.row).0 g.has; column = g.column; there = g.there; holds = g.holds }

  every_as : (P : ResultColumn → Type 0) → Every X i P → Every Y i P
  every_as P f r d h t = f r d ((same r).1 h) t

  nullable_as : (n : Option Bool) → NullableSays X i n → NullableSays Y i n
  nullable_as (Some true) s = gives_as (λ d. d.nullable ≡ Some true) s
  nullable_as (Some false) s = (gives_as (λ d. d.nullable ≡ Some false) s.0, every_as (λ d. d.nullable ≡ Some true → ⊥) s.1)
  nullable_as None s = every_as (λ d. d.nullable ≡ None) s

  pub says_as : (c : ResultColumn) → Says X i c → Says Y i c
  says_as c s =
      record {
        kind_given = gives_as (λ d. d.datatype ≡ c.datatype) s.kind_given;
        null_all = λ k. every_as (λ d. d.datatype ≡ Null) (s.null_all k);
        nullable = nullable_as c.nullable s.nullable;
      }
