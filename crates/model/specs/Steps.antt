-- Allowed steps and what lists of them reach (01, "What we will not take", second paragraph), and the chains of handled states that a
-- lineage's past tells of. Over any type of states, as the walk. Assumes nothing.
use Rattle.std.specs.Prelude.{◌≡◌, Bool, false, List, [], ◌∷◌, ℕ, zero, suc, Option, None, Some, slice_get}
use Rattle.model.specs.Walk.{◌∈◌, Tried, refused, done, Ways, Lineage, handled_before}

-- a way by its number: 0 goes on in the same lineage, k is the k-th branch in the order added
unfoldable pub pick : {M R : Type 0} → ℕ → Ways M R → Option M
pick zero w = w.stays
pick (suc k) w = slice_get w.branches k

-- "A row outside the listing, or one that the walk refuses there with 6 to 10 or 12, offers none"
unfoldable pub step_at : {M R : Type 0} → ℕ → Option ℕ → Tried (Ways M R) → Option M
step_at k None t = None
step_at k (Some row) (refused j) = None
step_at k (Some row) (done w) = pick k w

-- a lineage with this past is one of these ways
pub record WayOf {M R : Type 0} (w : Ways M R) (past : List ℕ) (l : Lineage M) : Type 0 where
  pub number : ℕ
  pub goes : pick number w ≡ Some l.mem
  pub same : l.past ≡ past

-- whether a past's latest row stands in the rest of it: then its handling was a second or third one
abbrev pub handled_again : List ℕ → Bool
handled_again [] = false
handled_again (row ∷ past) = handled_before row past

module _ {M R : Type 0} (row_of : M → Option ℕ) (ways : Bool → M → Tried (Ways M R)) where
  -- an allowed step is "any way that its row offers, IfPos as at a first handling"
  unfoldable pub step : ℕ → M → Option M
  step k m = step_at k (row_of m) (ways false m)

  -- it "starts from the state that the last one left"
  unfoldable pub follow : List ℕ → M → Option M
  follow [] m = Some m
  follow (k ∷ ks) m = elim (step k m) [ None ↦ None | Some m' ↦ follow ks m' ]

  -- a list of allowed steps, "the empty one too", leads from one state to another
  pub record Reach (start m : M) : Type 0 where
    pub steps : List ℕ
    pub leads : follow steps start ≡ Some m

  -- a state stands on a row of the listing, which offers these ways at a first handling
  pub record Offering (m : M) (w : Ways M R) : Type 0 where
    pub row : ℕ
    pub at : row_of m ≡ Some row
    pub is : ways false m ≡ done w

  -- a list of allowed steps "reaches a result row when its last state stands on a ResultRow"
  pub record Result (fresh : M) (r : R) : Type 0 where
    pub state : M
    pub reach : Reach fresh state
    pub way : Ways M R
    pub offering : Offering state way
    pub gives : way.result ≡ Some r

  -- a lineage is one of the ways of a handled one, and has its past
  pub record Child (h l : Lineage M) : Type 0 where
    pub offers : Ways M R
    pub is : ways (handled_again h.past) h.mem ≡ done offers
    pub way : WayOf offers h.past l

  -- a lineage is the fresh start, with nothing handled, or a child of one of those handled
  pub data Born (fresh : M) (handled : List (Lineage M)) (l : Lineage M) : Type 0 where
    first : l.mem ≡ fresh → l.past ≡ [] → Born fresh handled l
    child : (h : Lineage M) → h ∈ handled → Child h l → Born fresh handled l

  -- a handled state stands on its past's latest row, and the lineage that came there has the rest of the past, and was born so;
  -- that past is shorter, so the chain of births ends at the fresh start
  pub record Chain (fresh : M) (handled : List (Lineage M)) (h : Lineage M) : Type 0 where
    pub row : ℕ
    pub before : List ℕ
    pub at : row_of h.mem ≡ Some row
    pub past : h.past ≡ row ∷ before
    pub born : Born fresh handled (record { mem = h.mem; past = before })
