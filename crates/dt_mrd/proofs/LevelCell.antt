-- The cell of one class of a row before and after its turn, and what it means for what is held.
use Rattle.std.proofs.Common.{◌≡◌, ℕ, Bool, true, false, if◌then◌else◌, List, [], ◌∷◌, ◌++◌, Option, Some, None, ◌⊎◌, inl, inr, refl, sym, ap, subst, ◌∙◌}
use Rattle.std.proofs.lemmas.Bool.{true≢false}
use Rattle.dt_scratch.specs.declared.reply.Answer.{Answer}
use Rattle.dt_scratch.specs.declared.reply.Change.{Change}
use Rattle.dt_cells.specs.Held.{Held}
use Rattle.dt_cells.specs.HeldLaws.{by_cases, if_true, if_false}
use Rattle.dt_placing.specs.Rows.{is_understood}
use Rattle.dt_mrd.specs.declared.kept_row.Next.{Next}
use Rattle.dt_mrd.specs.declared.kept_row.Next.TheVariants.{Answer as LeadsToAnswer, Row as LeadsToRow}
use Rattle.dt_mrd.specs.Rows.{sent, IsRow}
use Rattle.dt_mrd.specs.Placing.{IsTabled, code_of_answer}
use Rattle.dt_mrd.specs.Kept.{key_of_next}
use Rattle.dt_mrd.specs.Changing.{is_answer}
use Rattle.dt_mrd.specs.ReadingLaws.{row_not_held}
use Rattle.dt_mrd.proofs.LevelPuts.{cell_changed, cell_led}

-- the answer where a query ends with a class after a row's prefix
abbrev pub answer_at : Held → ℕ → List ℕ → ℕ → Answer
answer_at held s p class = held (sent s (p ++ (class ∷ [])))

-- the class leads to a row
abbrev pub LeadsOn : Held → ℕ → List ℕ → ℕ → Type 0
LeadsOn held s p class = IsRow held (s, p ++ (class ∷ []))

-- the cell of a class is that of what is held
abbrev pub IsCell : Held → ℕ → List ℕ → ℕ → Option Next → Type 0
IsCell held s p class None = (is_understood (answer_at held s p class) ≡ false) × (LeadsOn held s p class → ⊥)
IsCell held s p class (Some (LeadsToAnswer code)) = (is_understood (answer_at held s p class) ≡ true) × (code ≡ code_of_answer (answer_at held s p class))
IsCell held s p class (Some (LeadsToRow key)) = (is_understood (answer_at held s p class) ≡ false) × LeadsOn held s p class

-- longer queries with the prefix have the same answers
abbrev pub IsSameBelow : Held → Held → ℕ → List ℕ → Type 0
IsSameBelow held next s p = (class : ℕ) (rest : List ℕ) → next (sent s (p ++ (class ∷ rest))) ≡ held (sent s (p ++ (class ∷ rest)))

pub row_after : (held next : Held) (s : ℕ) (p : List ℕ) → IsSameBelow held next s p → IsRow held (s, p) → IsRow next (s, p)
row_after held next s p same is = (is.0, (is.1.0, λ none. is.1.1 (sym (same is.0 is.1.0) ∙ none)))

pub row_before : (held next : Held) (s : ℕ) (p : List ℕ) → IsSameBelow held next s p → IsRow next (s, p) → IsRow held (s, p)
row_before held next s p same is = (is.0, (is.1.0, λ none. is.1.1 (same is.0 is.1.0 ∙ none)))

abbrev is_none : Option ℕ → Bool
is_none None = true
is_none (Some key) = false

-- a cell of a row with a key is one that leads to a row
leads_on : (held : Held) (s : ℕ) (p : List ℕ) (class key : ℕ) (cell : Option Next) → IsCell held s p class cell → key_of_next cell ≡ Some key → LeadsOn held s p class
leads_on held s p class key None is e = absurd (true≢false (ap is_none e))
leads_on held s p class key (Some (LeadsToAnswer code)) is e = absurd (true≢false (ap is_none e))
leads_on held s p class key (Some (LeadsToRow k)) is e = is.1

-- ---- after the changes

-- the cell after the changes: the answer of the query that ends there, or else as before without any answer
abbrev pub IsMid : Held → ℕ → List ℕ → ℕ → Option Next → Option Next → Type 0
IsMid next s p class old mid =
    ((is_understood (answer_at next s p class) ≡ true) × (mid ≡ Some (LeadsToAnswer (code_of_answer (answer_at next s p class)))))
    ⊎ ((is_understood (answer_at next s p class) ≡ false) × (is_answer mid ≡ false) × (key_of_next mid ≡ key_of_next old))

-- where the query has a change
pub mid_changed : (next : Held) (s : ℕ) (p : List ℕ) (class : ℕ) (old mid : Option Next) (change : Change)
    → answer_at next s p class ≡ change.answer → mid ≡ cell_changed change old → IsMid next s p class old mid
mid_changed next s p class old mid change answer is = by_cases (is_understood change.answer)
    (λ t. inl (
      ap is_understood answer ∙ t,
      is ∙ if_true (is_understood change.answer) (Some (LeadsToAnswer (code_of_answer change.answer))) (if is_answer old then None else old) t
          ∙ ap (λ a. Some (LeadsToAnswer (code_of_answer a))) (sym answer),
    ))
    (λ f. (let left : mid ≡ (if is_answer old then None else old)
    = is ∙ if_false (is_understood change.answer) (Some (LeadsToAnswer (code_of_answer change.answer))) (if is_answer old then None else old) f in
    inr (ap is_understood answer ∙ f, ap is_answer left ∙ (rest old).0, ap key_of_next left ∙ (rest old).1)))
  where
    rest : (old : Option Next) → (is_answer (if is_answer old then None else old) ≡ false) × (key_of_next (if is_answer old then None else old) ≡ key_of_next old)
    rest None = (refl, refl)
    rest (Some (LeadsToAnswer code)) = (refl, refl)
    rest (Some (LeadsToRow key)) = (refl, refl)

-- where it has none
pub mid_same : (held next : Held) (s : ℕ) (p : List ℕ) (class : ℕ) (old mid : Option Next) → IsCell held s p class old
    → answer_at next s p class ≡ answer_at held s p class → mid ≡ old → IsMid next s p class old mid
mid_same held next s p class None mid cell answer is = inr (ap is_understood answer ∙ cell.0, ap is_answer is, ap key_of_next is)
mid_same held next s p class (Some (LeadsToAnswer code)) mid cell answer is =
    inl (ap is_understood answer ∙ cell.0, is ∙ ap (λ c. Some (LeadsToAnswer c)) (cell.1 ∙ ap code_of_answer (sym answer)))
mid_same held next s p class (Some (LeadsToRow key)) mid cell answer is = inr (ap is_understood answer ∙ cell.0, ap is_answer is, ap key_of_next is)

-- ---- after the rows to which it leads

abbrev pub IsEnd : Held → ℕ → List ℕ → ℕ → Option Next → Option ℕ → Type 0
IsEnd next s p class cell key = IsCell next s p class cell × (key_of_next cell ≡ key)

-- where the class leads to a row that had its turn
pub end_led : (next : Held) → IsTabled next → (s : ℕ) (p : List ℕ) (class : ℕ) (old mid end : Option Next) (key : Option ℕ) → IsMid next s p class old mid
    → end ≡ cell_led key mid → ((new : ℕ) → key ≡ Some new → LeadsOn next s p class) → (key ≡ None → LeadsOn next s p class → ⊥) → IsEnd next s p class end key
end_led next tabled s p class old mid end (Some new) is e on off =
    subst (λ (c : Option Next). IsEnd next s p class c (Some new)) (sym e) ((row_not_held next s p class tabled (on new refl), on new refl), refl)
end_led next tabled s p class old mid end None is e on off = subst (λ (c : Option Next). IsEnd next s p class c None) (sym e) (elim is [
  | inl answered ↦ subst (λ (m : Option Next). IsEnd next s p class (cell_led None m) None) (sym answered.1) ((answered.0, refl), refl)
  | inr left ↦ without mid left.0 left.1
])
  where
    without : (mid : Option Next) → is_understood (answer_at next s p class) ≡ false → is_answer mid ≡ false → IsEnd next s p class (cell_led None mid) None
    without None f a = ((f, off refl), refl)
    without (Some (LeadsToAnswer code)) f a = absurd (true≢false a)
    without (Some (LeadsToRow k)) f a = ((f, off refl), refl)

-- where it leads to none that had its turn
pub end_same : (held next : Held) → IsTabled held → IsTabled next → (s : ℕ) (p : List ℕ) (class : ℕ) (old mid end : Option Next) → IsCell held s p class old → IsMid next s p class old mid
    → end ≡ mid → IsSameBelow held next s (p ++ (class ∷ [])) → IsEnd next s p class end (key_of_next old)
end_same held next tabled tabled_next s p class old mid end cell is e same = subst (λ (c : Option Next). IsEnd next s p class c (key_of_next old)) (sym e) (elim is [
  | inl answered ↦ subst (λ (m : Option Next). IsEnd next s p class m (key_of_next old)) (sym answered.1) ((answered.0, refl), no_key old cell answered.0)
  | inr left ↦ without mid left.0 left.1 left.2
])
  where
    no_key : (old : Option Next) → IsCell held s p class old → is_understood (answer_at next s p class) ≡ true → None ≡ key_of_next old
    no_key None cell t = refl
    no_key (Some (LeadsToAnswer code)) cell t = refl
    no_key (Some (LeadsToRow key)) cell t =
        absurd (true≢false (sym t ∙ row_not_held next s p class tabled_next (row_after held next s (p ++ (class ∷ [])) same cell.1)))

    none_before : (old : Option Next) → IsCell held s p class old → None ≡ key_of_next old → LeadsOn held s p class → ⊥
    none_before None cell k on = cell.1 on
    none_before (Some (LeadsToAnswer code)) cell k on = true≢false (sym cell.0 ∙ row_not_held held s p class tabled on)
    none_before (Some (LeadsToRow key)) cell k on = true≢false (ap is_none k)

    without : (mid : Option Next) → is_understood (answer_at next s p class) ≡ false → is_answer mid ≡ false → key_of_next mid ≡ key_of_next old → IsEnd next s p class mid (key_of_next old)
    without None f a k = ((f, λ on. none_before old cell k (row_before held next s (p ++ (class ∷ [])) same on)), k)
    without (Some (LeadsToAnswer code)) f a k = absurd (true≢false a)
    without (Some (LeadsToRow key)) f a k = ((f, row_after held next s (p ++ (class ∷ [])) same (leads_on held s p class key old cell (sym k))), k)
