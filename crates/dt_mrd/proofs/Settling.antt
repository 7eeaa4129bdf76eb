-- A value stands still after each step of a stage, and stands for what is held after where the stage is settled.
use Rattle.std.proofs.Common.{◌≡◌, ℕ, ◌≤◌, true, if◌then◌else◌, List, [], ◌∷◌, set, length, Option, None, Vec, Global, Contains, refl, sym, ap, subst, ◌∙◌}
use Rattle.std.proofs.lemmas.Bool.{or_left}
use Rattle.std.proofs.lemmas.List.{length-set}
use Rattle.std.proofs.lemmas.List.Elements.{All-weaker}
use Rattle.slab.specs.Slab.{get}
use Rattle.dt_pages.specs.Reading.{Reading}
use Rattle.dt_scratch.specs.Query.{Query, arity_of_query}
use Rattle.dt_scratch.specs.declared.reply.Change.{Change}
use Rattle.dt_cells.specs.Held.{Held, IsHeld, Row, held_after, IsStageableChange, IsStageable}
use Rattle.dt_cells.specs.HeldLaws.{after_keeps}
use Rattle.dt_cells.specs.Kind.{Stay}
use Rattle.dt_cells.specs.Standing.{CanStage}
use Rattle.dt_fit.specs.Cells.{Cells, is_kept, is_tried}
use Rattle.dt_fit.specs.declared.geometry.Geometry.TheVariants.{Displacements}
use Rattle.dt_mrd.specs.declared.staged.StagedRoot.{StagedRoot}
use Rattle.dt_mrd.specs.declared.staged.MrdStaged.{MrdStaged}
use Rattle.dt_mrd.specs.declared.kept_rows.KeptRows.{KeptRows}
use Rattle.dt_mrd.specs.Rows.{IsRow}
use Rattle.dt_mrd.specs.Reading.{owns, tag_read}
use Rattle.dt_mrd.specs.Placing.{Places, mrd}
use Rattle.dt_mrd.specs.MrdLaws.{shown_after, tag_shown, tags_one, words_one}
use Rattle.dt_mrd.specs.MrdStanding.{used_elsewhere, rows_elsewhere, taken_elsewhere}
use Rattle.dt_mrd.specs.Kept.{AreKept, AreTaken, with_roots, Stands, Follows}
use Rattle.dt_mrd.specs.Laying.{is_among}
use Rattle.dt_mrd.specs.Levels.{Extends}
use Rattle.dt_mrd.specs.Staging.{IsSettled, CanLay}
use Rattle.dt_mrd.proofs.Giving.{kept_if_given, kept_if_extended, kept_if_beside}

-- a value with other rows, and other tried cells and displacements
pub record IsBeside (kept later : KeptRows) : Type 0 where
  pub least : later.least ≡ kept.least
  pub roots : later.roots ≡ kept.roots
  pub cells_geometry : later.cells.geometry ≡ Displacements
  pub taken_geometry : later.taken.geometry ≡ Displacements
  pub cells : (cell : ℕ) → is_kept later.cells cell ≡ is_kept kept.cells cell
  pub taken : (displacement : ℕ) → is_kept later.taken displacement ≡ is_kept kept.taken displacement

pub stands_beside : (kept later : KeptRows) (x : Reading) (held : Held) → IsBeside kept later
    → (AreKept kept.roots.items (get kept.rows) kept.fresh.items (tag_read x) held → AreKept kept.roots.items (get later.rows) later.fresh.items (tag_read x) held)
    → Stands kept x held → Stands later x held
stands_beside kept later x held beside rows st = record {
  shows = st.shows;
  some = subst (λ n. 1 ≤ n) (sym beside.least) st.some;
  least = λ q h. subst (λ n. n ≤ arity_of_query q) (sym beside.least) (st.least q h);
  count = ap (λ (r : Vec (Option ℕ) Global). length r.items) beside.roots ∙ st.count;
  rows = subst (λ (r : Vec (Option ℕ) Global). AreKept r.items (get later.rows) later.fresh.items (tag_read x) held) (sym beside.roots) (rows st.rows);
  displacements = (beside.cells_geometry, beside.taken_geometry);
  cells = λ cell. beside.cells cell ∙ st.cells cell;
  taken = record {
    of_rows = λ row is displacement e. beside.taken displacement ∙ st.taken.of_rows row is displacement e;
    no_other = λ displacement e. st.taken.no_other displacement (sym (beside.taken displacement) ∙ e);
  };
}

-- what stands before rows are laid stands after
pub laid_stands : (kept laid : KeptRows) (x : Reading) (held : Held) → laid ≡ record kept { rows = laid.rows; fresh = laid.fresh }
    → Extends (get kept.rows) kept.fresh.items (get laid.rows) laid.fresh.items → Stands kept x held → Stands laid x held
laid_stands kept laid x held same more st = stands_beside kept laid x held
    (record {
      least = ap (λ (k : KeptRows). k.least) same;
      roots = ap (λ (k : KeptRows). k.roots) same;
      cells_geometry = ap (λ (k : KeptRows). k.cells.geometry) same ∙ st.displacements.0;
      taken_geometry = ap (λ (k : KeptRows). k.taken.geometry) same ∙ st.displacements.1;
      cells = λ cell. ap (λ (k : KeptRows). is_kept k.cells cell) same;
      taken = λ displacement. ap (λ (k : KeptRows). is_kept k.taken displacement) same;
    })
    (λ are. kept_if_extended kept.roots.items (get kept.rows) (get laid.rows) kept.fresh.items laid.fresh.items (tag_read x) held are more) st

-- and after they were placed
pub placed_stands : (laid placed : KeptRows) (x : Reading) (held : Held) → placed ≡ record laid { rows = placed.rows; cells = placed.cells; taken = placed.taken }
    → placed.cells.geometry ≡ Displacements → placed.taken.geometry ≡ Displacements
    → ((cell : ℕ) → is_kept placed.cells cell ≡ is_kept laid.cells cell) → ((displacement : ℕ) → is_kept placed.taken displacement ≡ is_kept laid.taken displacement)
    → ((key : ℕ) → (Contains laid.fresh.items key → ⊥) → get placed.rows key ≡ get laid.rows key) → Stands laid x held → Stands placed x held
placed_stands laid placed x held same geometry geometry_taken cells taken rows st = stands_beside laid placed x held
    (record {
      least = ap (λ (k : KeptRows). k.least) same;
      roots = ap (λ (k : KeptRows). k.roots) same;
      cells_geometry = geometry;
      taken_geometry = geometry_taken;
      cells = cells;
      taken = taken;
    })
    (λ are. subst (λ (f : Vec ℕ Global). AreKept laid.roots.items (get placed.rows) f.items (tag_read x) held) (sym (ap (λ (k : KeptRows). k.fresh) same))
    (kept_if_beside laid.roots.items (get laid.rows) (get placed.rows) laid.fresh.items (tag_read x) held are rows)) st

-- what a stage left that wasn't settled is given up
pub undone_stands : (kept undone : KeptRows) (x : Reading) (held : Held) → undone.least ≡ kept.least → undone.roots ≡ kept.roots
    → ((key : ℕ) → get undone.rows key ≡ (if is_among kept.fresh.items key then None else get kept.rows key)) → undone.fresh.items ≡ []
    → undone.cells ≡ record kept.cells { tried = kept.cells.kept } → undone.taken ≡ record kept.taken { tried = kept.taken.kept } → Stands kept x held → Stands undone x held
undone_stands kept undone x held least roots rows fresh cells taken st = stands_beside kept undone x held
    (record {
      least = least;
      roots = roots;
      cells_geometry = ap (λ (c : Cells). c.geometry) cells ∙ st.displacements.0;
      taken_geometry = ap (λ (c : Cells). c.geometry) taken ∙ st.displacements.1;
      cells = λ cell. ap (λ (c : Cells). is_kept c cell) cells;
      taken = λ displacement. ap (λ (c : Cells). is_kept c displacement) taken;
    })
    (λ are. subst (λ (f : List ℕ). AreKept kept.roots.items (get undone.rows) f (tag_read x) held) (sym fresh)
    (kept_if_given kept.roots.items (get kept.rows) (get undone.rows) kept.fresh.items (tag_read x) held are rows)) st

-- then changes may be laid where they may be staged
pub undone_can_lay : (kept undone : KeptRows) (x drafted : Reading) (held : Held) (changes : List Change) → undone.least ≡ kept.least → undone.roots ≡ kept.roots
    → ((key : ℕ) → get undone.rows key ≡ (if is_among kept.fresh.items key then None else get kept.rows key)) → undone.fresh.items ≡ []
    → undone.cells ≡ record kept.cells { tried = kept.cells.kept } → undone.taken ≡ record kept.taken { tried = kept.taken.kept }
    → CanStage mrd (Stands kept) kept.least x drafted held changes → CanLay undone x drafted held changes
undone_can_lay kept undone x drafted held changes least roots rows fresh cells taken can = record {
  stands = undone_stands kept undone x held least roots rows fresh cells taken can.standing;
  stageable = subst (λ n. IsStageable n 4 held changes) (sym least) can.stageable;
  untouched = can.untouched;
  none_fresh = fresh;
  used_are = λ cell. ap (λ (c : Cells). is_tried c cell) cells ∙ can.standing.cells cell;
  taken_are = (let same : (displacement : ℕ) → is_tried undone.taken displacement ≡ is_kept kept.taken displacement = (λ displacement. ap (λ (c : Cells). is_tried c displacement) taken) in
      record {
        of_rows = λ row is displacement e. same displacement ∙ can.standing.taken.of_rows row is displacement e;
        no_other = λ displacement e. can.standing.taken.no_other displacement (sym (same displacement) ∙ e);
      });
}

-- ---- settled

length_roots : (staged : List StagedRoot) (roots : List (Option ℕ)) → length (with_roots staged roots) ≡ length roots
length_roots [] roots = refl
length_roots (root ∷ more) roots = length_roots more (set roots root.selector root.key) ∙ length-set roots root.selector root.key

module _ (kept : KeptRows) (staged : MrdStaged) (later : KeptRows) (settled : IsSettled kept staged later) (x : Reading) (held : Held) (changes : List Change) (y : Reading)
    (st : Stands kept x held) (follows : Follows kept staged x held changes) (places : Places x held changes y) (stay : Stay mrd held changes x y) where
  abbrev next : Held
  next = held_after held changes

  tags : (row : Row) → IsRow (held_after held changes) row → follows.places.tags row ≡ tag_read y row
  tags row is = tags_one x follows.reading y held changes follows.places places row.0 row.1 is ∙ tag_shown x y held changes places stay row is

  same_words : (address : ℕ) → owns address ≡ true → follows.reading address ≡ y address
  same_words address own = words_one x follows.reading y held changes follows.places places address (or_left (owns address) _ own)

  same_cells : (cell : ℕ) → is_kept later.cells cell ≡ is_tried kept.cells cell
  same_cells cell = ap (λ (c : Cells). is_kept c cell) settled.cells

  same_taken : (displacement : ℕ) → is_kept later.taken displacement ≡ is_tried kept.taken displacement
  same_taken displacement = ap (λ (c : Cells). is_kept c displacement) settled.taken

  rows_then : AreKept (with_roots staged.roots.items kept.roots.items) (get later.rows) [] (tag_read y) (held_after held changes)
  rows_then = rows_elsewhere (with_roots staged.roots.items kept.roots.items) (get later.rows) [] follows.places.tags (tag_read y) next tags
      (kept_if_given (with_roots staged.roots.items kept.roots.items) (get kept.rows) (get later.rows) staged.gone.items follows.places.tags next follows.rows settled.rows)

  taken_then : AreTaken (is_kept later.taken) (tag_read y) (held_after held changes)
  taken_then = taken_elsewhere (is_kept later.taken) follows.places.tags (tag_read y) next tags (record {
    of_rows = λ row is displacement e. same_taken displacement ∙ follows.taken.of_rows row is displacement e;
    no_other = λ displacement e. follows.taken.no_other displacement (sym (same_taken displacement) ∙ e);
  })

  least_then : (q : Query) → IsHeld (held_after held changes) q → kept.least ≤ arity_of_query q
  least_then = after_keeps (λ q. kept.least ≤ arity_of_query q) held changes st.least
      (All-weaker (IsStageableChange kept.least 4) (λ (c : Change). kept.least ≤ arity_of_query c.query) (λ c is. is.least) changes follows.stageable.each)

  pub settled_stands : Stands later y (held_after held changes)
  settled_stands = record {
    shows = shown_after x y held changes places stay;
    some = subst (λ n. 1 ≤ n) (sym settled.least) st.some;
    least = λ q h. subst (λ n. n ≤ arity_of_query q) (sym settled.least) (least_then q h);
    count = ap length settled.roots ∙ length_roots staged.roots.items kept.roots.items ∙ st.count;
    rows = subst (λ (f : List ℕ). AreKept later.roots.items (get later.rows) f (tag_read y) next) (sym settled.fresh)
        (subst (λ (r : List (Option ℕ)). AreKept r (get later.rows) [] (tag_read y) next) (sym settled.roots) rows_then);
    displacements = (ap (λ (c : Cells). c.geometry) settled.cells ∙ st.displacements.0, ap (λ (c : Cells). c.geometry) settled.taken ∙ st.displacements.1);
    cells = λ cell. same_cells cell ∙ used_elsewhere (is_tried kept.cells) follows.reading y same_words follows.cells cell;
    taken = taken_then;
  }
