-- The first pass: the records read so far stand in the first cells, and no bucket has any. Assumes nothing.
use mathlib.Core.Path.{◌≡◌, refl, sym, ap, subst, ◌∙◌}
use Rattle.std.specs.Prelude.{Option, None, Some}
use Rattle.std.proofs.lemmas.Option.{none-some, same_Some}
use mathlib.Core.List.{List, [], ◌∷◌, ◌++◌}
use Prim.Native.Nat.{ℕ, ◌+◌, ◌-◌, ◌<◌}
use native.Mathlib.Omega.{arith}
use native.Mathlib.Decide.{ℕ_discrete}
use lib.ListN.{length, get_or, set, length-append}
use lib.Seq.{get_or-set_same, get_or-set_other}
use Rattle.model.specs.Catalogue.{CatalogueRecord}
use Rattle.model.specs.CatalogueText.{take_record, read_catalogue}
use Rattle.model.specs.Reader.{◌then◌}
use Rattle.model.specs.Fields.{items_up_to}
use Rattle.area.specs.Cells.{blank, cells, Inside, CellsNow}
use Rattle.area.specs.declared.Cell.{Cell}
use Rattle.area.proofs.CellLaws.{cells-kept, cleared_cell}
use Rattle.text.proofs.ReadLaws.{read_shorter}
use Rattle.text.proofs.ItemLaws.{ItemsRead, items_start, items_next, items_end, items_bad}
use Rattle.text.specs.Reads.{Reads}
use Rattle.catalogue.specs.Records.{record_of}
use Rattle.catalogue.specs.declared.Record.{Record}
use Rattle.root_block.specs.Blocks.{first_of, IsBlock}
use Rattle.root_block.specs.Build.{Indexable, Unlinked, StandFrom, Stand}

-- a cell after a store: the one stored, or the one that was there
pub at_set : (P : Cell → Type 0) (cs : List Cell) (i : ℕ) (v : Cell) (j : ℕ) → i < length cs → (j ≡ i → P v) → ((j ≡ i → ⊥) → P (get_or cs j blank)) → P (get_or (set cs i v) j blank)
at_set P cs i v j lt here there = go (ℕ_discrete j i)
  where
    go : Dec (j ≡ i) → P (get_or (set cs i v) j blank)
    go (yes e) = subst P (sym (ap (λ k. get_or (set cs i v) k blank) e ∙ get_or-set_same cs i v blank lt)) (here e)
    go (no ne) = subst P (sym (get_or-set_other cs i j v blank ne)) (there ne)

-- one more record behind those that stand
stand_more : (cs ds : List Cell) (at : ℕ) (before : List CatalogueRecord) (r : CatalogueRecord) → ((j : ℕ) → j < at + length before → get_or ds j blank ≡ get_or cs j blank) → IsBlock (get_or ds (at + length before) blank) r → StandFrom cs at before → StandFrom ds at (before ++ (r ∷ []))
stand_more cs ds at [] r same is s = let z : at + 0 ≡ at = omega arith in (subst (λ j. IsBlock (get_or ds j blank) r) z is, tt)
stand_more cs ds at (x ∷ before) r same is s =
    let z : at + length (x ∷ before) ≡ at + 1 + length before = omega arith in (
      subst (λ c. IsBlock c x) (sym (same at (omega arith))) s.0,
      stand_more cs ds (at + 1) before r (λ j l. same j (omega arith)) (subst (λ j. IsBlock (get_or ds j blank) r) z is) s.1,
    )

-- of the text t, n records are read, which stand in the first cells, and `rest` is left
pub record Filling (t rest xs ys : List ℕ) (n : ℕ) : Type 0 where
  pub before : List CatalogueRecord
  pub read : ItemsRead (λ _. take_record) t rest n before
  pub stand : StandFrom (cells ys) 0 before
  pub none : (b : ℕ) → first_of (get_or (cells ys) b blank) ≡ 0
  pub bytes : length ys ≡ length xs

pub filling_first : (t xs : List ℕ) → Indexable t xs → Filling t t xs xs 0
filling_first t xs h =
    record {
      before = [];
      read = items_start (λ _. take_record) t;
      stand = tt;
      none = λ b. ap (λ l. first_of (get_or (cells l) b blank)) h.zeros ∙ ap first_of (cleared_cell h.size b);
      bytes = refl;
    }

-- the text's records begin with those that are read
begins : (t rest : List ℕ) (k : ℕ) (first records : List CatalogueRecord) → ItemsRead (λ _. take_record) t rest k first → read_catalogue t ≡ Some records → (more : List CatalogueRecord) × (records ≡ first ++ more)
unfolding read_catalogue
begins t rest k first records h e = go (items_up_to (λ _. take_record) (length t - k) k rest) (h.all ∙ e)
  where
    go : (o : Option (List CatalogueRecord)) → (o then λ more. Some (first ++ more)) ≡ Some records → (more : List CatalogueRecord) × (records ≡ first ++ more)
    go None e = absurd (none-some records e)
    go (Some more) e = (more, sym (same_Some (first ++ more) records e))

pub filling_end : {t rest xs ys : List ℕ} {n : ℕ} → Filling t rest xs ys n → length rest ≡ 0 → Stand t xs ys n
unfolding read_catalogue
filling_end {ys = ys} f l =
    record {
      says = λ records e.
          (let q : records ≡ f.before = same_Some records f.before (sym e ∙ items_end (λ _. take_record) f.read l) in
          (subst (StandFrom (cells ys) 0) (sym q) f.stand, ap length q ∙ f.read.count));
      none = f.none;
      bytes = f.bytes;
    }

module _ {t rest xs ys : List ℕ} {n : ℕ} (f : Filling t rest xs ys n) {last : List ℕ} where
  -- the text reads, so that no record of it is ill-formed
  pub filling_bad : Reads take_record rest last None → 0 < length rest → Stand t xs ys n
  unfolding read_catalogue
  filling_bad h some =
      record {
        says = λ records read. absurd (none-some records (sym (items_bad (λ _. take_record) f.read (λ l. omega (arith, l, some)) h refl) ∙ read));
        none = f.none;
        bytes = f.bytes;
      }

  module _ (r : Record) (h : Reads take_record rest last (Some (record_of r))) where
    some_left : length rest ≡ 0 → ⊥
    some_left l = omega (arith, l, read_shorter h refl)

    next : ItemsRead (λ _. take_record) t last (n + 1) (f.before ++ (record_of r ∷ []))
    next = items_next (λ _. take_record) f.read some_left h refl

    -- there is a cell for it
    pub filling_inside : Indexable t xs → Inside ys n 1
    filling_inside i =
        let long : length (cells ys) ≡ length (cells xs) = cells-kept xs ys f.bytes in
        let first = f.before ++ (record_of r ∷ []) in
        let b = begins t last (n + 1) first i.records next i.reads in
        record { within = omega (arith, i.few, ap length b.1, length-append first b.0, next.count); small = omega (arith, i.small) }

    pub filling_next : Indexable t xs → (zs : List ℕ) (c : Cell) → Unlinked c (record_of r) → CellsNow ys zs (set (cells ys) n c) → Filling t last xs zs (n + 1)
    filling_next i zs c u s =
        let lt : n < length (cells ys) = omega (arith, (filling_inside i).within) in
        let k : length f.before ≡ n = f.read.count in
        record {
          before = f.before ++ (record_of r ∷ []);
          read = next;
          stand =
              stand_more (cells ys) (cells zs) 0 f.before (record_of r)
              (λ j m. ap (λ l. get_or l j blank) s.cells ∙ get_or-set_other (cells ys) n j c blank (λ q. omega arith))
              (subst (λ d. IsBlock d (record_of r)) (sym (ap (λ l. get_or l (0 + length f.before) blank) s.cells ∙ ap (λ j. get_or (set (cells ys) n c) j blank) (omega arith) ∙ get_or-set_same (cells ys) n c blank lt)) u.is)
              f.stand;
          none = λ b. ap (λ l. first_of (get_or l b blank)) s.cells ∙ at_set (λ d. first_of d ≡ 0) (cells ys) n c b lt (λ q. u.first) (λ q. f.none b);
          bytes = s.bytes ∙ f.bytes;
        }
