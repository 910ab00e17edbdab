-- IsNull and NotNull: what is asked of the register, the two changes to it by a store, and the two arms by one law. Assumes nothing.
use Rattle.refusal.specs.Numbers.{number_of}
use Rattle.refusal.specs.declared.Refusal.{Refusal}
use mathlib.Core.Path.{◌≡◌, refl, sym, ap, ap₂, subst, ◌∙◌}
use mathlib.Core.Bool.{Bool, true, false, not}
use Rattle.std.specs.Prelude.{Option, None, Some, Ok, Err}
use mathlib.Core.List.{List, [], ◌∷◌}
use Prim.Native.Nat.{ℕ, ◌+◌}
use lib.IntN.{ℤ, suc_ℤ}
use Rattle.type_info.specs.declared.DataType.{DataType}
use Rattle.type_info.specs.declared.DataType.TheVariants.{Null, Integer, Float, Text, Blob, Numeric, Bool as Boolean, Int4, Date, Time, Datetime}
use Rattle.model.specs.Walk.{Tried, refused, done}
use Rattle.model.specs.Row.{Row as Listed}
use Rattle.model.specs.State.{RegDataType, Column, Single, MemoryState as Defined, to_not_null, is_false, is_null_type, datatype_code}
use Rattle.model.specs.Operation.{JumpOperation, op_is_null, op_not_null}
use Rattle.model.specs.Offer.{Offer, offers, goes_on, ends, branch_if, stay_if}
use Rattle.model.specs.Access.{◌>>=◌, index, go_to, next, with_registers, read_register, store_register, update_register}
use Rattle.model.specs.JumpArms.{may_be_null, has_kind, to_default, is_null_arm, not_null_arm, jump_arm}
use Rattle.model.proofs.Tried.{Kept, value, ◌>>◌, anything}
use Rattle.model.proofs.InPlace.{to_default_no_larger, to_not_null_no_larger}
use Rattle.area.specs.declared.Cell.{Cell}
use Rattle.intmap.specs.Map.{HasRoom}
use Rattle.intmap.specs.Signed.{int_of}
use Rattle.intmap.specs.Store.{Stores, Stored}
use Rattle.intmap.specs.declared.IntMap.{IntMap}
use Rattle.encoding.specs.Encode.{single, nullable_code}
use Rattle.model.specs.IntMap.{get, update}
use Rattle.encoding.proofs.Updates.{update_stored, update_kept, update_refused}
use Rattle.rows.specs.Judged.{Judged}
use Rattle.rows.specs.declared.row.Row.{Row}
use Rattle.state.specs.Leads.{HoldsMap, Tells}
use Rattle.state.specs.Reads.{Reads, Reading}
use Rattle.state.specs.Steps.{HoldsState, Offered, TellsStep, JumpArm, Step, offered}
use Rattle.state.specs.declared.MemoryState.{MemoryState}
use Rattle.state.specs.declared.Register.{Register}
use Rattle.state.specs.declared.Register.TheVariants as register
use Rattle.state.proofs.StoreLeads.{single_leads}
use Rattle.state.proofs.LeadsLaws.{unchanged}
use Rattle.jump_arms.specs.Arms.{step_after, branch_after, Puts, BothArm, IsAsked, Asks, changed}
use Rattle.jump_arms.specs.declared.Asked.{Asked}
use Rattle.jump_arms.proofs.StepLaws.{held_at, held_next, ends_here}
use Rattle.jump_arms.proofs.StoreSteps.{SameRow, goes_after, leaves_after, branches_after, branch_leaves}
use Rattle.std.specs.Option.{option_eq}
use Rattle.std.proofs.Math.Bool.{beq}

-- ---- what is asked

abbrev pub asked : Bool → Bool → Asked
asked null kind = record { null = null; kind = kind }

pub not_false : (n : Option Bool) → not (option_eq beq n (Some false)) ≡ not (is_false n)
not_false None = refl
not_false (Some true) = refl
not_false (Some false) = refl

pub some_kind : (d : DataType) → (d ≡ Null → ⊥) → true ≡ not (is_null_type d)
some_kind Null h = absurd (h refl)
some_kind Integer h = refl
some_kind Float h = refl
some_kind Text h = refl
some_kind Blob h = refl
some_kind Numeric h = refl
some_kind Boolean h = refl
some_kind Int4 h = refl
some_kind Date h = refl
some_kind Time h = refl
some_kind Datetime h = refl

module _ (cs : List Cell) (a : IntMap) (i : ℕ) (x : Reading) (reads : Reads cs a i x) where
  pub asks_bad : (n : Refusal) → x ≡ Err n → Asks cs a i (Err n)
  asks_bad n e = record { says = λ limit bound m h. (subst (Reads cs a i) e reads).says limit bound m h }

  pub asks_absent : x ≡ Ok None → Asks cs a i (Ok (asked false false))
  asks_absent e = record { says = λ limit bound m h. record { value = None; answer = (subst (Reads cs a i) e reads).says limit bound m h; null = refl; kind = refl } }

  pub asks_record : (p : ℕ) → x ≡ Ok (Some (register.Record p)) → Asks cs a i (Ok (asked true false))
  asks_record p e = record { says = λ limit bound m h. record { value = _; answer = ((subst (Reads cs a i) e reads).says limit bound m h).answer; null = refl; kind = refl } }

  pub asks_int : (w : ℕ) → x ≡ Ok (Some (register.Int w)) → Asks cs a i (Ok (asked false true))
  asks_int w e = record { says = λ limit bound m h. record { value = _; answer = ((subst (Reads cs a i) e reads).says limit bound m h).answer; null = refl; kind = refl } }

  pub asks_single : (d : DataType) (n : Option Bool) → x ≡ Ok (Some (register.Single d n)) → (b k : Bool) → b ≡ not (is_false n) → k ≡ not (is_null_type d) → Asks cs a i (Ok (asked b k))
  asks_single d n e b k be ke =
      record { says = λ limit bound m h. record { value = _; answer = (subst (Reads cs a i) e reads).says limit bound m h; null = sym be; kind = sym ke } }

-- ---- the changes

pub update-row : (i : ℤ) (f : RegDataType → RegDataType) (m : Defined) → Kept (SameRow m) (update_register i f m)
unfolding update_register
update-row i f m = anything (index i) >> λ k _. value refl

pub put-single : (limit : ℕ) (cs ds : List Cell) (a : IntMap) (i : ℕ) (r : Stored) (d : DataType) (n : Option Bool) (c : Cell) → c ≡ single (datatype_code d) (nullable_code n) 0 → Stores cs ds limit a 0 i 0 (c ∷ []) r → Puts limit cs ds a r (store_register limit (int_of i) (Column (Single d n)))
put-single limit cs ds a i r d n c e st = record { leads = single_leads limit cs ds a i r d n c e st; frame = st.frame }

module _ (limit : ℕ) (cs : List Cell) (a : IntMap) (i : ℕ) (x : Reading) (reads : Reads cs a i x) where
  pub put_bad : (f : RegDataType → RegDataType) (n : Refusal) → x ≡ Err n → Puts limit cs cs a (Err n) (update_register (int_of i) f)
  put_bad f n e =
      record {
        leads =
            record {
              says = λ bound m le h. update_refused h.good (int_of i) f (number_of n) ((subst (Reads cs a i) e reads).says limit bound m h);
              leaves = tt;
              frame = unchanged cs _ _;
            };
        frame = unchanged cs _ _;
      }

  put_kept : HasRoom cs limit a → (f : RegDataType → RegDataType) → ((bound : ℕ) (m : Defined) → HoldsMap limit bound cs a m → update_register (int_of i) f m ≡ done m) → Puts limit cs cs a (Ok a) (update_register (int_of i) f)
  put_kept room f same =
      record {
        leads =
            record {
              says = λ bound m le h. record { state = m; answer = same bound m h; holds = h };
              leaves = record { base = refl; room = room };
              frame = unchanged cs _ _;
            };
        frame = unchanged cs _ _;
      }

  pub put_absent : HasRoom cs limit a → (f : RegDataType → RegDataType) → x ≡ Ok None → Puts limit cs cs a (Ok a) (update_register (int_of i) f)
  put_absent room f e = put_kept room f (λ bound m h. update_kept h.good (int_of i) f None ((subst (Reads cs a i) e reads).says limit bound m h) tt)

  pub never_record : HasRoom cs limit a → (p : ℕ) → x ≡ Ok (Some (register.Record p)) → Puts limit cs cs a (Ok a) (update_register (int_of i) to_not_null)
  never_record room p e = put_kept room to_not_null (λ bound m h. update_kept h.good (int_of i) to_not_null _ ((subst (Reads cs a i) e reads).says limit bound m h).answer refl)

  pub never_int : HasRoom cs limit a → (w : ℕ) → x ≡ Ok (Some (register.Int w)) → Puts limit cs cs a (Ok a) (update_register (int_of i) to_not_null)
  never_int room w e = put_kept room to_not_null (λ bound m h. update_kept h.good (int_of i) to_not_null _ ((subst (Reads cs a i) e reads).says limit bound m h).answer refl)

  module _ (ds : List Cell) (r : Stored) where
    put_as : {f g : Defined → Tried Defined} → ((bound : ℕ) (m : Defined) → HoldsMap limit bound cs a m → g m ≡ f m) → Puts limit cs ds a r f → Puts limit cs ds a r g
    put_as e put =
        record {
          leads =
              record {
                says = λ bound m le h. subst (Tells limit bound ds r) (sym (e bound m h)) (put.leads.says bound m le h);
                leaves = put.leads.leaves;
                frame = put.leads.frame;
              };
          frame = put.frame;
        }

    module _ (put : Puts limit cs ds a r (store_register limit (int_of i) (Column (Single Null None)))) where
      pub default_some : (q : Register) → x ≡ Ok (Some q) → Puts limit cs ds a r (update_register (int_of i) to_default)
      default_some (register.Single d n) e = put_as (λ bound m h. update_stored h.good (int_of i) to_default _ ((subst (Reads cs a i) e reads).says limit bound m h) to_default_no_larger) put
      default_some (register.Record p) e = put_as (λ bound m h. update_stored h.good (int_of i) to_default _ ((subst (Reads cs a i) e reads).says limit bound m h).answer to_default_no_larger) put
      default_some (register.Int w) e = put_as (λ bound m h. update_stored h.good (int_of i) to_default _ ((subst (Reads cs a i) e reads).says limit bound m h).answer to_default_no_larger) put

    pub never_single : (d : DataType) (n : Option Bool) → Puts limit cs ds a r (store_register limit (int_of i) (Column (Single d (Some false)))) → x ≡ Ok (Some (register.Single d n)) → Puts limit cs ds a r (update_register (int_of i) to_not_null)
    never_single d n put e = put_as (λ bound m h. update_stored h.good (int_of i) to_not_null _ ((subst (Reads cs a i) e reads).says limit bound m h) to_not_null_no_larger) put

-- ---- IsNull and NotNull: a branch with one change, where a test says so, and the next row with the other, where the register may be null

abbrev Test : Type 0
Test = Option RegDataType → Bool

abbrev ways : (RegDataType → RegDataType) → (RegDataType → RegDataType) → ℤ → ℤ → Bool → Bool → ℤ → Defined → Offer
ways f g p q b c i m = update_register i f (go_to p m) >>= λ branch. update_register i g (go_to q m) >>= λ stays. offers (branch_if b branch) (stay_if c stays)

-- a register that can be read has an index
record Indexed (i : ℤ) : Type 0 where
  key : ℕ
  is : index i ≡ done key

indexed : (i : ℤ) (m : Defined) (o : Option RegDataType) → read_register i m ≡ done o → Indexed i
unfolding read_register
indexed i m o read = go (index i) refl read
  where
    go : (t : Tried ℕ) → index i ≡ t → (t >>= λ k. done (get k m.r)) ≡ done o → Indexed i
    go (refused n) is e = cc
    go (done k) is e = record { key = k; is = is }

-- so it can be changed
module _ (f g : RegDataType → RegDataType) (p q : ℤ) (i : ℤ) (m : Defined) (o : Option RegDataType) (read : read_register i m ≡ done o) where
  abbrev changed_to : (RegDataType → RegDataType) → ℤ → Tried ℕ → Tried Defined
  changed_to h to t = t >>= λ k. done (with_registers (update k h m.r) (go_to to m))

  abbrev ways_at : Bool → Bool → Tried ℕ → Offer
  ways_at b c t = changed_to f p t >>= λ branch. changed_to g q t >>= λ stays. offers (branch_if b branch) (stay_if c stays)

  ways_end : ways f g p q false false i m ≡ ends
  unfolding update_register
  ways_end = ap (ways_at false false) (indexed i m o read).is

  ways_branch : ways f g p q true false i m ≡ (update_register i f (go_to p m) >>= λ n. offers (n ∷ []) None)
  unfolding update_register
  ways_branch = let e = (indexed i m o read).is in ap (ways_at true false) e ∙ sym (ap (λ t. changed_to f p t >>= λ n. offers (n ∷ []) None) e)

  ways_stay : ways f g p q false true i m ≡ (update_register i g (go_to q m) >>= λ n. goes_on n)
  unfolding update_register
  ways_stay = let e = (indexed i m o read).is in ap (ways_at false true) e ∙ sym (ap (λ t. changed_to g q t >>= λ n. goes_on n) e)

-- the register as it was asked: whether the row branches, and whether the state goes on
pub record Decided (test : Test) (b c : Bool) (t : Tried (Option RegDataType)) : Type 0 where
  pub value : Option RegDataType
  pub answer : t ≡ done value
  pub branch : test value ≡ b
  pub stays : may_be_null value ≡ c

-- the two arms: at the branch the register is null, or it is not
pub record ChangeArm (limit : ℕ) (o : JumpOperation) (null : Bool) (test : Test) : Type 0 where
  pub is : (rows : List Listed) (l : Listed) (m : Defined) → jump_arm limit rows l m o ≡ (read_register l.p1 m >>= λ v. ways (changed null) (changed (not null)) l.p2 (suc_ℤ m.program_i) (test v) (may_be_null v) l.p1 m)

pub is-null-arm : (limit : ℕ) → ChangeArm limit op_is_null true may_be_null
unfolding jump_arm is_null_arm
is-null-arm limit = record { is = λ rows l m. refl }

pub not-null-arm : (limit : ℕ) → ChangeArm limit op_not_null false has_kind
unfolding jump_arm not_null_arm
not-null-arm limit = record { is = λ rows l m. refl }

module _ (limit : ℕ) (cs : List Cell) (s : MemoryState) (x : Row) (o : JumpOperation) (null : Bool) (test : Test) (arm : ChangeArm limit o null test) where
  -- the two changes of register P1
  abbrev at_branch : Defined → Tried Defined
  at_branch m = update_register (int_of x.p1) (changed null) m

  abbrev going_on : Defined → Tried Defined
  going_on m = update_register (int_of x.p1) (changed (not null)) m

  abbrev after : Listed → Defined → Bool → Bool → Offer
  after l m b c = ways (changed null) (changed (not null)) l.p2 (suc_ℤ m.program_i) b c (int_of x.p1) m

  read_is : (rows : List Listed) (l : Listed) (m : Defined) → Judged l x → (t : Tried (Option RegDataType)) → read_register (int_of x.p1) m ≡ t → jump_arm limit rows l m o ≡ (t >>= λ v. after l m (test v) (may_be_null v))
  read_is rows l m j t e =
      arm.is rows l m
      ∙ ap (λ i. read_register i m >>= λ v. ways (changed null) (changed (not null)) l.p2 (suc_ℤ m.program_i) (test v) (may_be_null v) i m) (sym j.p1)
      ∙ ap (λ u. u >>= λ v. after l m (test v) (may_be_null v)) e

  pub change_bad : (n : Refusal) → Asks cs s.map x.p1 (Err n) → JumpArm limit cs cs s x o (Err n)
  change_bad n k =
      record { says = λ rows l j bound m le h. read_is rows l m j (refused (number_of n)) (k.says limit bound m h.map); leaves = tt; frame = unchanged cs _ _ }

  module _ (b c : Bool) (told : (bound : ℕ) (m : Defined) → HoldsState limit bound cs s m → Decided test b c (read_register (int_of x.p1) m)) where
    told_is : (rows : List Listed) (l : Listed) (bound : ℕ) (m : Defined) → Judged l x → HoldsState limit bound cs s m → jump_arm limit rows l m o ≡ after l m b c
    told_is rows l bound m j h =
        let u = told bound m h in
        read_is rows l m j _ u.answer ∙ ap₂ (after l m) u.branch u.stays

  pub change_ends : ((bound : ℕ) (m : Defined) → HoldsState limit bound cs s m → Decided test false false (read_register (int_of x.p1) m)) → JumpArm limit cs cs s x o (offered None None)
  change_ends told =
      record {
        says = λ rows l j bound m le h.
            (let u = told bound m h in
            subst (Offered limit bound cs None None)
            (sym (told_is false false told rows l bound m j h ∙ ways_end _ _ _ _ (int_of x.p1) m u.value u.answer))
            ends_here);
        leaves = (tt, tt);
        frame = unchanged cs _ _;
      }

  pub change_branches : ((bound : ℕ) (m : Defined) → HoldsState limit bound cs s m → Decided test true false (read_register (int_of x.p1) m)) → (ds : List Cell) (r : Stored) → Puts limit cs ds s.map r at_branch → JumpArm limit cs ds s x o (branch_after x.p2 r)
  change_branches told ds r put =
      record {
        says = λ rows l j bound m le h.
            (let u = told bound m h in
            subst (TellsStep limit bound ds (branch_after x.p2 r))
            (sym (told_is true false told rows l bound m j h ∙ ways_branch _ _ _ _ (int_of x.p1) m u.value u.answer))
            (branches_after r x.p2 bound (go_to l.p2 m) le put.leads (update-row _ _ _) (held_at x.p2 l.p2 j.p2 h.map)));
        leaves = branch_leaves limit ds s r x.p2 put.leads.leaves;
        frame = put.leads.frame;
      }

  pub change_stays : ((bound : ℕ) (m : Defined) → HoldsState limit bound cs s m → Decided test false true (read_register (int_of x.p1) m)) → (ds : List Cell) (r : Stored) → Puts limit cs ds s.map r going_on → JumpArm limit cs ds s x o (step_after (s.row + 1) r)
  change_stays told ds r put =
      record {
        says = λ rows l j bound m le h.
            (let u = told bound m h in
            subst (TellsStep limit bound ds (step_after (s.row + 1) r))
            (sym (told_is false true told rows l bound m j h ∙ ways_stay _ _ _ _ (int_of x.p1) m u.value u.answer))
            (goes_after r (s.row + 1) bound (next m) le put.leads (update-row _ _ _) (held_next s.row h.row h.map)));
        leaves = leaves_after limit ds s r (s.row + 1) put.leads.leaves;
        frame = put.leads.frame;
      }

  pub change_both : ((bound : ℕ) (m : Defined) → HoldsState limit bound cs s m → Decided test true true (read_register (int_of x.p1) m)) → (ds : List Cell) (r : Step) → BothArm limit cs ds s x at_branch going_on r → JumpArm limit cs ds s x o r
  change_both told ds r both =
      record {
        says = λ rows l j bound m le h. subst (TellsStep limit bound ds r) (sym (told_is true true told rows l bound m j h)) (both.says l j bound m le h);
        leaves = both.leaves;
        frame = both.frame;
      }

-- what the answers decide
module _ {q : Asked} {b : Bool} {t : Tried (Option RegDataType)} (u : IsAsked q.null q.kind t) (e : q.null ≡ b) where
  pub decided_null : Decided may_be_null b b t
  decided_null = record { value = u.value; answer = u.answer; branch = u.null ∙ e; stays = u.null ∙ e }

  pub decided_kind : {c : Bool} → q.kind ≡ c → Decided has_kind c b t
  decided_kind f = record { value = u.value; answer = u.answer; branch = u.kind ∙ f; stays = u.null ∙ e }
