-- A batch is followed: by the heads, then the stage.
use Rattle.std.proofs.Common.{◌≡◌, ℕ, ◌+◌, ◌<◌, ◌≤◌, ◌==◌, true, false, ◌&&◌, List, [], ◌∷◌, refl, sym, ap, subst, ◌∙◌, arith, eqb-true, eq-eqb}
use Rattle.std.specs.Prelude.{nat_lt, nat_le, unwrap_or}
use mathlib.Core.Path.{fun_ext}
use Rattle.std.specs.Ordering.{nat_cmp}
use Rattle.std.specs.FinMap.{empty, get-empty}
use Rattle.std.proofs.lemmas.Bool.{or_from}
use Rattle.std.proofs.lemmas.Bool.Decides.{nat_tests}
use Rattle.dt_pages.specs.Reading.{Reading, blank}
use Rattle.dt_pages.specs.Draft.{Drafted, laid_over}
use Rattle.dt_definitions.specs.Lawful.{Lawful}
use Rattle.dt_definitions.specs.Program.{Program, empty_program}
use Rattle.dt_scratch.specs.CellLaws.{UnderstoodCells}
use Rattle.dt_scratch.specs.declared.reply.Change.{Change}
use Rattle.dt_cells.specs.Regions.{class_numbers, selector_at, place_of}
use Rattle.dt_cells.specs.Held.{Held, none_held, held_after, is_changed_place}
use Rattle.dt_cells.specs.HeldLaws.{by_cases, if_true, if_false}
use Rattle.dt_cells.specs.Kind.{Kind, IsLawful, sets, Stay}
use Rattle.dt_cells.specs.Standing.{CanStage}
use Rattle.dt_cells.specs.Heads.{HasHeads, head_word, with_heads, class_word}
use Rattle.dt_cells.specs.Serving.{Serves, IsRest}
use Rattle.dt_cells.specs.Following.{IsTableOf, CanFollow, IsImageAfter, ImagesAreDetermined}
use Rattle.dt_cells.proofs.Limits.{within_limits}
use Rattle.dt_cells.proofs.Serving.{cells_after, shown_serves, none_is_stray_after, rest_stays}

-- nothing is laid over by a draft in which nothing is set
pub nothing_laid : (drafted : Drafted) (x : Reading) (address : ℕ) → drafted ≡ empty → laid_over drafted x address ≡ x address
nothing_laid drafted x address is = ap (λ (d : Drafted). laid_over d x address) is ∙ ap (λ o. unwrap_or o (x address)) (get-empty nat_cmp address)

-- past the heads every word stays
pub past_heads : (old new : Program) (x : Reading) (address : ℕ) → 8192 ≤ address → with_heads old new x address ≡ x address
past_heads old new x address past =
    if_true (head_word old address == head_word new address) (x address) (head_word new address)
    (eq-eqb (head_word old address) (head_word new address) (none old ∙ sym (none new)))
  where
    no_class : nat_lt address class_numbers ≡ false
    no_class = grind (arith, nat_tests)

    no_selector : (nat_le 4096 address && nat_lt address 8192) ≡ false
    no_selector = grind (arith, nat_tests)

    none : (p : Program) → head_word p address ≡ 0
    none p = if_false (nat_lt address class_numbers) (class_word p address) _ no_class
        ∙ if_false (nat_le 4096 address && nat_lt address 8192) _ 0 no_selector

-- below the place words nothing is set by a stage
not_a_place : (changes : List Change) (address : ℕ) → address < 8192 → is_changed_place changes address ≡ false
not_a_place [] address below = refl
not_a_place (c ∷ cs) address below = or_from (place_of c.query.selector == address) (is_changed_place cs address)
    (by_cases (place_of c.query.selector == address)
    (λ t. let e : 8192 + c.query.selector ≡ address = eqb-true _ _ t in absurd (omega (arith, e, below))) (λ f. f))
    (not_a_place cs address below)

no_cell : (k : Kind) → IsLawful k → (address : ℕ) → address < 16777216 → k.owns address ≡ false
no_cell k l address below = by_cases (k.owns address)
    (λ o. let from : 16777216 ≤ address = (l.owned_are_cells address o).0 in absurd (omega (arith, from, below))) (λ f. f)

unset_head : (k : Kind) → IsLawful k → (changes : List Change) (address : ℕ) → address < 8192 → sets k changes address ≡ false
unset_head k l changes address below = or_from (k.owns address) _ (no_cell k l address (omega (arith, below)))
    (rw (not_a_place changes address below) (elim k.has_places as (λ v. (v && false) ≡ false) [ true ↦ refl | false ↦ refl ]))

-- what a batch makes of the words: those of the tree before, after the heads, and after the stage
pub record Steps (k : Kind) (x w z : Reading) (changes : List Change) (old new : Program) : Type 0 where
  pub heads : (address : ℕ) → w address ≡ with_heads old new x address
  pub has_heads : HasHeads old x → HasHeads new w
  pub rest : (address : ℕ) → sets k changes address ≡ false → z address ≡ w address

pub can_stage : (k : Kind) (l : IsLawful k) (stands : Reading → Held → Type 0) (low : ℕ) (x w : Reading) (held : Held) (changes : List Change) (old new : Program)
    → ((address : ℕ) → w address ≡ with_heads old new x address) → CanFollow k stands low x held changes old new → CanStage k stands low x w held changes
can_stage k l stands low x w held changes old new heads can = record {
  standing = can.table.standing;
  stageable = can.stageable;
  untouched = λ address own. heads address ∙ past_heads old new x address
      (let from : 16777216 ≤ address = (l.owned_are_cells address own).0 in omega (arith, from));
}

is_rest : (k : Kind) (l : IsLawful k) (x w z : Reading) (changes : List Change) (old new : Program) → Steps k x w z changes old new → IsRest k changes x z
is_rest k l x w z changes old new steps s below unset = steps.rest (place_of s) unset ∙ steps.heads (place_of s) ∙ past_heads old new x (place_of s) (omega arith)

pub stays : (k : Kind) (l : IsLawful k) (understood : UnderstoodCells) (x w z : Reading) (held : Held) (changes : List Change) (old new : Program) → Steps k x w z changes old new
    → k.shows x held → Stay k held changes x z
stays k l understood x w z held changes old new steps sh = rest_stays understood k l held changes x z sh (is_rest k l x w z changes old new steps)

pub followed : (k : Kind) (l : IsLawful k) (understood : UnderstoodCells) (before now : Reading → Held → Type 0) (low : ℕ) (x w z : Reading) (held : Held) (changes : List Change) (old new : Program)
    → Lawful new → Steps k x w z changes old new → CanFollow k before low x held changes old new → k.shows x held → k.places x held changes z → now z (held_after held changes)
    → IsTableOf k now low z (held_after held changes) new
followed k l understood before now low x w z held changes old new lawful steps can sh pl standing = record {
  standing = standing;
  holds = cells_after understood low k.arities old new held changes lawful can.table.holds can.differences;
  heads = record {
    classes = λ class below. steps.rest class (unset_head k l changes class (omega (arith, below))) ∙ (steps.has_heads can.table.heads).classes class below;
    selectors = λ s below. steps.rest (selector_at s) (unset_head k l changes (selector_at s) (omega (arith, below))) ∙ (steps.has_heads can.table.heads).selectors s below;
  };
  strays = none_is_stray_after understood k l held changes x z sh pl (is_rest k l x w z changes old new steps) can.table.strays;
}

-- a table serves its program
pub table_serves : (k : Kind) (l : IsLawful k) (understood : UnderstoodCells) (stands : Reading → Held → Type 0) (low : ℕ) (x : Reading) (held : Held) (p : Program)
    → 1 ≤ low → Lawful p → k.shows x held → IsTableOf k stands low x held p → Serves low k p x
table_serves k l understood stands low x held p some lawful sh table = shown_serves understood k l low p held x some lawful table.holds sh table.heads
    (λ s n live least most unplaced. table.strays s ((within_limits p lawful).selectors s n live).0 unplaced)

-- over a draft in which nothing was set
pub headed_words : (drafted headed : Drafted) (x : Reading) (old new : Program) → drafted ≡ empty
    → ((base : Reading) (address : ℕ) → laid_over headed base address ≡ with_heads old new (laid_over drafted base) address)
    → (address : ℕ) → laid_over headed x address ≡ with_heads old new x address
headed_words drafted headed x old new none words address = words x address
    ∙ ap (λ (y : Reading). with_heads old new y address) (fun_ext (λ a. nothing_laid drafted x a none))

pub steps_of : (k : Kind) (drafted headed staged : Drafted) (x : Reading) (changes : List Change) (old new : Program) → drafted ≡ empty
    → ((base : Reading) (address : ℕ) → laid_over headed base address ≡ with_heads old new (laid_over drafted base) address)
    → ((base : Reading) → HasHeads old (laid_over drafted base) → HasHeads new (laid_over headed base))
    → ((address : ℕ) → sets k changes address ≡ false → laid_over staged x address ≡ laid_over headed x address)
    → Steps k x (laid_over headed x) (laid_over staged x) changes old new
steps_of k drafted headed staged x changes old new none words has rest = record {
  heads = headed_words drafted headed x old new none words;
  has_heads = λ h. has x (subst (λ (y : Reading). HasHeads old y) (sym (fun_ext (λ a. nothing_laid drafted x a none))) h);
  rest = rest;
}

-- the empty image is a table of the empty program
pub first : (k : Kind) (stands : Reading → Held → Type 0) (low : ℕ) → stands blank none_held → IsTableOf k stands low blank none_held empty_program
first k stands low standing = record {
  standing = standing;
  holds = record { cells = λ q least most. refl; none = λ q h. absurd (h refl) };
  heads = record { classes = λ class below. refl; selectors = λ s below. refl };
  strays = λ s below unplaced. refl;
}

-- the words that the steps of a batch make
pub words_made : (k : Kind) (x d y : Reading) (held : Held) (changes : List Change) (old new : Program) → ((address : ℕ) → d address ≡ with_heads old new x address)
    → ((address : ℕ) → sets k changes address ≡ false → y address ≡ d address) → k.places x held changes y → IsImageAfter k x held changes old new y
words_made k x d y held changes old new heads rest placed = record {
  placed = placed;
  rest = λ address unset. rest address unset ∙ heads address;
}

-- are determined, those that the kind sets by its own law
pub one_image_after : (k : Kind) → IsLawful k → ImagesAreDetermined k
one_image_after k l x y z held changes old new sh one other address = by_cases (sets k changes address)
    (λ set. l.determined x y z held changes sh one.placed other.placed address set)
    (λ unset. one.rest address unset ∙ sym (other.rest address unset))
