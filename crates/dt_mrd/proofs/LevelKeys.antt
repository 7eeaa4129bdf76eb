-- Which key a row has where those of some rows are new.
use Rattle.std.proofs.Common.{◌≡◌, ◌≢◌, ℕ, suc, Bool, true, false, if◌then◌else◌, List, [], ◌∷◌, ◌++◌, length, take, get_or, Option, Some, None, ◌⊎◌, inl, inr, refl, sym, ap, subst, ◌∙◌, arith}
use Rattle.std.proofs.lemmas.Bool.{true≢false}
use Rattle.std.proofs.lemmas.List.{append_assoc, take_all}
use Rattle.dt_cells.specs.Held.{Held}
use Rattle.dt_cells.specs.HeldLaws.{by_cases, if_true, if_false}
use Rattle.dt_placing.specs.Rows.{is_understood}
use Rattle.dt_mrd.specs.declared.kept_row.Next.{Next}
use Rattle.dt_mrd.specs.declared.kept_row.Next.TheVariants.{Answer as LeadsToAnswer, Row as LeadsToRow}
use Rattle.dt_mrd.specs.declared.turn.Turn.{Turn}
use Rattle.dt_mrd.specs.Rows.{sent}
use Rattle.dt_mrd.specs.Placing.{code_of_answer}
use Rattle.dt_mrd.specs.Kept.{row_at, next_in}
use Rattle.dt_mrd.specs.Levels.{KeptAt, prefix_of}
use Rattle.dt_mrd.specs.Turns.{is_same_row}
use Rattle.dt_mrd.proofs.TurnLists.{row_same, same_row}
use Rattle.dt_mrd.proofs.LevelLists.{Has}
use Rattle.dt_mrd.proofs.LevelOrder.{Ascends, below_differs, take_next}
use Rattle.dt_mrd.proofs.LevelPuts.{turn_query}
use Rattle.dt_mrd.proofs.LevelCell.{IsCell, IsSameBelow, row_after, row_before}
use Rattle.dt_mrd.proofs.LevelRow.{IsAt}

abbrev is_same : List ℕ → List ℕ → Bool
is_same p q = is_same_row (0, p) (0, q)

same_list : (p q : List ℕ) → is_same p q ≡ true → p ≡ q
same_list p q e = let same = row_same (0, p) (0, q) e in λ i. (same i).1

list_same : (p q : List ℕ) → p ≡ q → is_same p q ≡ true
list_same p q e = same_row (0, p) (0, q) (λ i. (0, e i))

not_same : (p q : List ℕ) → p ≢ q → is_same p q ≡ false
not_same p q differs = by_cases (is_same p q) (λ t. absurd (differs (same_list p q t))) (λ f. f)

-- some turn is of the row of a prefix, or none is
pub of_prefix : (depth : ℕ) (turns : List Turn) (p : List ℕ)
    → ((turn : Turn) × Has turns turn × (prefix_of depth turn.query ≡ p)) ⊎ ((turn : Turn) → Has turns turn → prefix_of depth turn.query ≢ p)
of_prefix depth [] p = inr (λ turn has. absurd has)
of_prefix depth (first ∷ turns) p = by_cases (is_same (prefix_of depth first.query) p)
    (λ t. inl (first, inl refl, same_list (prefix_of depth first.query) p t))
    (λ f. elim (of_prefix depth turns p) [
      | inl found ↦ inl (found.0, inr found.1, found.2)
      | inr none ↦ inr (λ turn has. elim has [
        | inl is ↦ subst (λ (t : Turn). prefix_of depth t.query ≢ p) is (λ same. true≢false (sym (list_same (prefix_of depth first.query) p same) ∙ f))
        | inr later ↦ none turn later
      ])
    ])

-- the new key of the turn of the row, if there is one
abbrev pub keyed : ℕ → List Turn → List ℕ → Option ℕ → Option ℕ
keyed depth [] p before = before
keyed depth (turn ∷ turns) p before = if is_same (prefix_of depth turn.query) p then turn.new else keyed depth turns p before

pub keyed_one : (depth : ℕ) (turns : List Turn) (before : Option ℕ) → Ascends turn_query depth turns → (turn : Turn) → Has turns turn
    → keyed depth turns (prefix_of depth turn.query) before ≡ turn.new
keyed_one depth [] before up turn has = absurd has
keyed_one depth (first ∷ turns) before up turn has = elim has [
  | inl is ↦ subst (λ (t : Turn). keyed depth (first ∷ turns) (prefix_of depth t.query) before ≡ t.new) is
      (if_true (is_same (prefix_of depth first.query) (prefix_of depth first.query)) first.new (keyed depth turns (prefix_of depth first.query) before) (list_same (prefix_of depth first.query) (prefix_of depth first.query) refl))
  | inr later ↦ if_false (is_same (prefix_of depth first.query) (prefix_of depth turn.query)) first.new (keyed depth turns (prefix_of depth turn.query) before)
      (not_same (prefix_of depth first.query) (prefix_of depth turn.query) (below_differs (prefix_of depth first.query) (prefix_of depth turn.query) (up.0 turn later)))
      ∙ keyed_one depth turns before up.1 turn later
]

pub keyed_none : (depth : ℕ) (turns : List Turn) (p : List ℕ) (before : Option ℕ) → ((turn : Turn) → Has turns turn → prefix_of depth turn.query ≢ p) → keyed depth turns p before ≡ before
keyed_none depth [] p before none = refl
keyed_none depth (first ∷ turns) p before none =
    if_false (is_same (prefix_of depth first.query) p) first.new (keyed depth turns p before) (not_same (prefix_of depth first.query) p (none first (inl refl)))
    ∙ keyed_none depth turns p before (λ turn has. none turn (inr has))

-- a prefix with its last class
pub last_class : (depth : ℕ) (p : List ℕ) → length p ≡ suc depth → p ≡ take depth p ++ (get_or p depth 0 ∷ [])
last_class depth p long = sym (take_all (suc depth) p (omega (arith, long))) ∙ take_next depth p (omega (arith, long))

-- ---- where nothing below a row changes

pub same_next : (held next : Held) (s : ℕ) (p : List ℕ) (class : ℕ) → IsSameBelow held next s p → IsSameBelow held next s (p ++ (class ∷ []))
same_next held next s p class same other rest =
    ap (λ (l : List ℕ). next (sent s l)) (append_assoc p (class ∷ []) (other ∷ rest)) ∙ same class (other ∷ rest)
    ∙ ap (λ (l : List ℕ). held (sent s l)) (sym (append_assoc p (class ∷ []) (other ∷ rest)))

cell_next : (held next : Held) (s : ℕ) (p : List ℕ) (class : ℕ) (cell : Option Next) → IsSameBelow held next s p → IsCell held s p class cell → IsCell next s p class cell
cell_next held next s p class None same is = (ap is_understood (same class []) ∙ is.0, λ on. is.1 (row_before held next s (p ++ (class ∷ [])) (same_next held next s p class same) on))
cell_next held next s p class (Some (LeadsToAnswer code)) same is = (ap is_understood (same class []) ∙ is.0, is.1 ∙ ap code_of_answer (sym (same class [])))
cell_next held next s p class (Some (LeadsToRow key)) same is =
    (ap is_understood (same class []) ∙ is.0, row_after held next s (p ++ (class ∷ [])) (same_next held next s p class same) is.1)

pub at_next : (rows : KeptAt) (key : Option ℕ) (held next : Held) (s : ℕ) (p : List ℕ) → IsSameBelow held next s p → IsAt rows key held s p → IsAt rows key next s p
at_next rows key held next s p same at = record {
  cells = λ class. cell_next held next s p class (next_in (row_at rows key) class) same (at.cells class);
  there = λ k e. (let was = at.there k e in (row_after held next s p same was.0, was.1));
  none = λ e is. at.none e (row_before held next s p same is);
}
