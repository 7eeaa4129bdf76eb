-- The place words of selectors with new keys.
use Rattle.std.proofs.Common.{◌≡◌, ◌≢◌, ◌==◌, ℕ, suc, ◌+◌, ◌<◌, Bool, true, false, ◌||◌, List, [], ◌∷◌, get_or, set, length, drop, Option, None, inl, inr, refl, sym, ap, ◌∙◌, arith}
use Rattle.std.proofs.lemmas.Bool.{or_left, or_right, eqb-true, eq-eqb, true≢false}
use Rattle.std.proofs.lemmas.List.{get_or-set_same, get_or-set_other, length-set, drop_more}
use Rattle.dt_pages.specs.Reading.{Reading}
use Rattle.dt_scratch.specs.declared.reply.Change.{Change}
use Rattle.dt_cells.specs.Regions.{place_of}
use Rattle.dt_cells.specs.Held.{is_changed}
use Rattle.dt_cells.specs.HeldLaws.{by_cases, or_true, if_true, if_false}
use Rattle.dt_placing.specs.Turn.{run_of}
use Rattle.dt_mrd.specs.declared.kept_row.KeptRow.{KeptRow}
use Rattle.dt_mrd.specs.declared.staged.StagedRoot.{StagedRoot}
use Rattle.dt_mrd.specs.declared.turn.Turn.{Turn}
use Rattle.dt_mrd.specs.Kept.{row_at, tag_in, with_roots}
use Rattle.dt_mrd.specs.Levels.{KeptAt, IsFirstSelector, AreSelectors}
use Rattle.dt_mrd.specs.Staging.{has_root, with_place, with_places}

-- one place word after others
pub place_step : (rows : ℕ → Option KeptRow) (staged : List StagedRoot) (i : ℕ) (none root : StagedRoot) (d later : Reading) → i < length staged → root ≡ get_or staged i none
    → ((address : ℕ) → later address ≡ with_place rows root d address) → with_places rows (drop (i + 1) staged) later ≡ with_places rows (drop i staged) d
place_step rows staged i none root d later below is words =
    let same : later ≡ with_place rows root d = (λ j address. words address j) in
    ap (λ (w : Reading). with_places rows (drop (i + 1) staged) w) same
    ∙ ap (λ (r : StagedRoot). with_places rows (r ∷ drop (i + 1) staged) d) is
    ∙ ap (λ (l : List StagedRoot). with_places rows l d) (sym (drop_more staged i none below))

same_place : (a s : ℕ) → place_of a ≡ place_of s → a ≡ s
same_place a s e = let sums : 8192 + a ≡ 8192 + s = e in omega (arith, sums)

module _ (rows : ℕ → Option KeptRow) (s : ℕ) where
  -- the word at the place of a selector is the tag of its key's row
  abbrev IsWord : List (Option ℕ) → Reading → Type 0
  IsWord roots d = d (place_of s) ≡ tag_in (row_at rows (get_or roots s None))

  own_word : (roots : List (Option ℕ)) (root : StagedRoot) (d : Reading) → s < length roots → root.selector ≡ s → IsWord (set roots root.selector root.key) (with_place rows root d)
  own_word roots root d below same =
      if_true (place_of s == place_of root.selector) (tag_in (row_at rows root.key)) (d (place_of s)) (eq-eqb (place_of s) (place_of root.selector) (ap place_of (sym same)))
      ∙ ap (λ k. tag_in (row_at rows k)) (sym (ap (λ n. get_or (set roots n root.key) s None) same ∙ get_or-set_same roots s root.key None below))

  other_word : (roots : List (Option ℕ)) (root : StagedRoot) (d : Reading) → root.selector ≢ s → IsWord roots d → IsWord (set roots root.selector root.key) (with_place rows root d)
  other_word roots root d differs is =
      if_false (place_of s == place_of root.selector) (tag_in (row_at rows root.key)) (d (place_of s))
      (by_cases (place_of s == place_of root.selector) (λ t. absurd (differs (sym (same_place s root.selector (eqb-true (place_of s) (place_of root.selector) t))))) (λ f. f))
      ∙ is
      ∙ ap (λ k. tag_in (row_at rows k)) (sym (get_or-set_other roots root.selector s root.key None (λ e. differs (sym e))))

  longer : (roots : List (Option ℕ)) (root : StagedRoot) → s < length roots → s < length (set roots root.selector root.key)
  longer roots root below = let same : length (set roots root.selector root.key) ≡ length roots = length-set roots root.selector root.key in omega (arith, below, same)

  word_stays : (staged : List StagedRoot) (roots : List (Option ℕ)) (d : Reading) → s < length roots → IsWord roots d → IsWord (with_roots staged roots) (with_places rows staged d)
  word_stays [] roots d below is = is
  word_stays (root ∷ more) roots d below is =
      word_stays more (set roots root.selector root.key) (with_place rows root d) (longer roots root below)
      (by_cases (root.selector == s)
      (λ t. own_word roots root d below (eqb-true root.selector s t))
      (λ f. other_word roots root d (λ e. true≢false (sym (eq-eqb root.selector s e) ∙ f)) is))

  pub word_of_root : (staged : List StagedRoot) (roots : List (Option ℕ)) (d : Reading) → s < length roots → has_root staged s ≡ true
      → with_places rows staged d (place_of s) ≡ tag_in (row_at rows (get_or (with_roots staged roots) s None))
  word_of_root [] roots d below e = absurd (true≢false (sym e))
  word_of_root (root ∷ more) roots d below e = by_cases (root.selector == s)
      (λ t. word_stays more (set roots root.selector root.key) (with_place rows root d) (longer roots root below) (own_word roots root d below (eqb-true root.selector s t)))
      (λ f. word_of_root more (set roots root.selector root.key) (with_place rows root d) (longer roots root below)
      (elim (or_true (root.selector == s) (has_root more s) e) [ inl t ↦ absurd (true≢false (sym t ∙ f)) | inr later ↦ later ]))

-- every other word stays
pub word_beside : (rows : ℕ → Option KeptRow) (staged : List StagedRoot) (d : Reading) (address : ℕ) → ((s : ℕ) → has_root staged s ≡ true → address ≢ place_of s)
    → with_places rows staged d address ≡ d address
word_beside rows [] d address apart = refl
word_beside rows (root ∷ more) d address apart =
    word_beside rows more (with_place rows root d) address (λ s e. apart s (or_right (root.selector == s) (has_root more s) e))
    ∙ if_false (address == place_of root.selector) (tag_in (row_at rows root.key)) (d address)
    (by_cases (address == place_of root.selector)
    (λ t. absurd (apart root.selector (or_left (root.selector == root.selector) (has_root more root.selector) (eq-eqb root.selector root.selector refl)) (eqb-true address (place_of root.selector) t)))
    (λ f. f))

-- ---- the new keys are those of the selectors with a change

or_twice : (a b : Bool) → (a || (a || b)) ≡ (a || b)
or_twice true b = refl
or_twice false b = refl

changed_past : (selector s : ℕ) (changes : List Change) → ((selector == s) || is_changed changes s) ≡ ((selector == s) || is_changed (drop (run_of selector changes) changes) s)
changed_past selector s [] = refl
changed_past selector s (c ∷ cs) = by_cases (c.query.selector == selector)
    (λ t. (let same : c.query.selector ≡ selector = eqb-true c.query.selector selector t in
    ap (λ n. (selector == s) || ((n == s) || is_changed cs s)) same
    ∙ or_twice (selector == s) (is_changed cs s)
    ∙ changed_past selector s cs
    ∙ ap (λ n. (selector == s) || is_changed (drop n (c ∷ cs)) s) (sym (if_true (c.query.selector == selector) (suc (run_of selector cs)) 0 t))))
    (λ f. ap (λ n. (selector == s) || is_changed (drop n (c ∷ cs)) s) (sym (if_false (c.query.selector == selector) (suc (run_of selector cs)) 0 f)))

changed_run : (selector s : ℕ) (changes : List Change) → IsFirstSelector changes selector
    → is_changed changes s ≡ ((selector == s) || is_changed (drop (run_of selector changes) changes) s)
changed_run selector s [] first = absurd first
changed_run selector s (c ∷ cs) first =
    let test : (c.query.selector == selector) ≡ true = eq-eqb c.query.selector selector first in
    ap (λ n. (n == s) || is_changed cs s) first
    ∙ changed_past selector s cs
    ∙ ap (λ n. (selector == s) || is_changed (drop n (c ∷ cs)) s) (sym (if_true (c.query.selector == selector) (suc (run_of selector cs)) 0 test))

pub roots_changed : (roots : List (Option ℕ)) (staged : List StagedRoot) (rows : KeptAt) (fresh : List ℕ) (changes : List Change) (turns : List Turn) (rows_then : KeptAt) (fresh_then : List ℕ)
    → AreSelectors roots rows fresh changes staged turns rows_then fresh_then → (s : ℕ) → has_root staged s ≡ is_changed changes s
roots_changed roots [] rows fresh changes turns rows_then fresh_then are s = ap (λ (l : List Change). is_changed l s) (sym are.0)
roots_changed roots (root ∷ staged) rows fresh changes turns rows_then fresh_then are s =
    ap (λ b. (root.selector == s) || b) (roots_changed roots staged are.2 are.3 (drop (run_of root.selector changes) changes) are.1 rows_then fresh_then are.7 s)
    ∙ sym (changed_run root.selector s changes are.4)
