-- Steps at a level of a selector, one after another.
use Rattle.std.proofs.Common.{◌≡◌, ◌++◌, ℕ, suc, true, List, [], ◌∷◌, length, get_or, take, drop, Option, None, Some, is_some, Result, Ok, Err, IfOk, inl, inr, refl, sym, ap, subst, ◌∙◌, arith}
use Rattle.std.proofs.lemmas.Bool.{true≢false}
use Rattle.dt_scratch.specs.Query.{Query}
use Rattle.dt_scratch.specs.declared.reply.Change.{Change}
use Rattle.dt_mrd.specs.declared.kept_row.KeptRow.{KeptRow}
use Rattle.dt_placing.specs.Turn.{run_of}
use Rattle.dt_mrd.specs.declared.staged.StagedRoot.{StagedRoot}
use Rattle.dt_mrd.specs.declared.turn.Turn.{Turn}
use Rattle.dt_mrd.specs.Levels.{KeptAt, Extends, prefix_of, first_of, IsRun, IsTurnOf, IsLevel, IsBeforeArity, AreLevels, IsFirstSelector, AreSelectors}

-- what is nothing or something
pub no_row_before : (before now : Option KeptRow) → (is_some before ≡ true → now ≡ before) → now ≡ None → before ≡ None
no_row_before None now kept none = refl
no_row_before (Some row) now kept none = absurd (true≢false (ap is_some (sym (kept refl) ∙ none)))

pub extends_none : (rows : KeptAt) (fresh : List ℕ) → Extends rows fresh rows fresh
extends_none rows fresh = record { kept = λ key some. refl; stays = λ key has. has; added = λ key has. inl has }

pub extends_then : (rows between rows_then : KeptAt) (fresh fresh_between fresh_then : List ℕ) → Extends rows fresh between fresh_between
    → Extends between fresh_between rows_then fresh_then → Extends rows fresh rows_then fresh_then
extends_then rows between rows_then fresh fresh_between fresh_then one other = record {
  kept = λ key some. other.kept key (ap is_some (one.kept key some) ∙ some) ∙ one.kept key some;
  stays = λ key has. other.stays key (one.stays key has);
  added = λ key has. elim (other.added key has) [
    | inl between_has ↦ one.added key between_has
    | inr vacant ↦ inr (no_row_before (rows key) (between key) (one.kept key) vacant)
  ];
}

pub next_level : (root : Option ℕ) (depth : ℕ) (rows between rows_then : KeptAt) (fresh fresh_between fresh_then : List ℕ)
    (changes own more : List Change) (led own_led more_led : List Turn) (query : Query) (count count_led : ℕ) (turn : Turn) (level : List Turn)
    → first_of depth changes led ≡ Some query
    → IsRun (λ (change : Change). change.query) depth (prefix_of depth query) changes count → IsRun (λ (t : Turn). t.query) depth (prefix_of depth query) led count_led
    → own ≡ take count changes → more ≡ drop count changes → own_led ≡ take count_led led → more_led ≡ drop count_led led
    → IsTurnOf root depth rows query own own_led turn between fresh_between → Extends rows fresh between fresh_between
    → IsLevel root depth between fresh_between more more_led level rows_then fresh_then
    → IsLevel root depth rows fresh changes led (turn ∷ level) rows_then fresh_then
next_level root depth rows between rows_then fresh fresh_between fresh_then changes own more led own_led more_led query count count_led turn level first run run_led own_is more_is own_led_is more_led_is is extends rest = (
  count,
  count_led,
  between,
  fresh_between,
  record {
    query = query;
    first = first;
    run = run;
    run_led = run_led;
    is = subst (λ (l : List Change). IsTurnOf root depth rows query l (take count_led led) turn between fresh_between) own_is
        (subst (λ (l : List Turn). IsTurnOf root depth rows query own l turn between fresh_between) own_led_is is);
    extends = extends;
  },
  subst (λ (l : List Change). IsLevel root depth between fresh_between l (drop count_led led) level rows_then fresh_then) more_is
      (subst (λ (l : List Turn). IsLevel root depth between fresh_between more l level rows_then fresh_then) more_led_is rest),
)

pub no_first : (depth : ℕ) (changes : List Change) (led : List Turn) → ((query : Query) → first_of depth changes led ≡ Some query → ⊥) → (changes ≡ []) × (led ≡ [])
no_first depth [] [] none = (refl, refl)
no_first depth [] (turn ∷ led) none = absurd (none turn.query refl)
no_first depth (change ∷ changes) [] none = absurd (none change.query refl)
no_first depth (change ∷ changes) (turn ∷ led) none = absurd (none _ refl)

pub next_levels : (root : Option ℕ) (depth fewer_depth : ℕ) (rows between rows_then : KeptAt) (fresh fresh_between fresh_then : List ℕ)
    (changes fewer own : List Change) (led : List Turn) (count : ℕ) (level shown more : List Turn) (key : Option ℕ)
    → depth ≡ suc fewer_depth → IsBeforeArity changes depth count → fewer ≡ take count changes → own ≡ drop count changes → shown ≡ level
    → IsLevel root fewer_depth rows fresh own led level between fresh_between
    → AreLevels root fewer_depth between fresh_between fewer shown more rows_then fresh_then key
    → AreLevels root depth rows fresh changes led (level ++ more) rows_then fresh_then key
next_levels root depth fewer_depth rows between rows_then fresh fresh_between fresh_then changes fewer own led count level shown more key is before fewer_is own_is shown_is laid rest =
    subst (λ (d : ℕ). AreLevels root d rows fresh changes led (level ++ more) rows_then fresh_then key) (sym is) (
      count,
      level,
      more,
      between,
      fresh_between,
      subst (λ (d : ℕ). IsBeforeArity changes d count) is before,
      subst (λ (l : List Change). IsLevel root fewer_depth rows fresh l led level between fresh_between) own_is laid,
      subst (λ (l : List Change). AreLevels root fewer_depth between fresh_between l level more rows_then fresh_then key) fewer_is
          (subst (λ (l : List Turn). AreLevels root fewer_depth between fresh_between fewer l more rows_then fresh_then key) shown_is rest),
      refl,
    )

pub map_ok : {T E : Type 0} (result : Result T E) (P Q : T → Type 0) → ((value : T) → P value → Q value) → IfOk result P → IfOk result Q
map_ok (Ok value) P Q f p = f value p
map_ok (Err error) P Q f p = tt

pub next_selector : (roots : List (Option ℕ)) (rows between rows_then : KeptAt) (fresh fresh_between fresh_then : List ℕ)
    (changes own_changes more_changes : List Change) (count : ℕ) (root : StagedRoot) (first : Option ℕ) (own : List Turn) (staged : List StagedRoot) (more : List Turn)
    → IsFirstSelector changes root.selector → count ≡ run_of root.selector changes → own_changes ≡ take count changes → more_changes ≡ drop count changes
    → first ≡ get_or roots root.selector None
    → AreLevels first 4 rows fresh own_changes [] own between fresh_between root.key → Extends rows fresh between fresh_between
    → AreSelectors roots between fresh_between more_changes staged more rows_then fresh_then
    → AreSelectors roots rows fresh changes (root ∷ staged) (own ++ more) rows_then fresh_then
next_selector roots rows between rows_then fresh fresh_between fresh_then changes own_changes more_changes count root first own staged more is_first count_is own_is more_is first_is levels extends rest = (
  own,
  more,
  between,
  fresh_between,
  is_first,
  subst (λ (l : List Change). AreLevels (get_or roots root.selector None) 4 rows fresh l [] own between fresh_between root.key) (own_is ∙ ap (λ n. take n changes) count_is)
      (subst (λ (key : Option ℕ). AreLevels key 4 rows fresh own_changes [] own between fresh_between root.key) first_is levels),
  extends,
  subst (λ (l : List Change). AreSelectors roots between fresh_between l staged more rows_then fresh_then) (more_is ∙ ap (λ n. drop n changes) count_is) rest,
  refl,
)

pub first_selector : (changes : List Change) (change : Change) (selector : ℕ) → (length changes ≡ 0 → ⊥)
    → selector ≡ (get_or changes 0 change).query.selector → IsFirstSelector changes selector
first_selector [] change selector some e = some refl
first_selector (c ∷ cs) change selector some e = sym e

pub no_items : (changes : List Change) → length changes ≡ 0 → changes ≡ []
no_items [] none = refl
no_items (change ∷ changes) none = absurd (omega (arith, none))
