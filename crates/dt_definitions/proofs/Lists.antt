-- The definitions of rows, by the number of the first row's selector.
use Rattle.std.proofs.Common.{◌≡◌, ℕ, zero, suc, ◌+◌, ◌<◌, Bool, not, List, [], ◌∷◌, ◌++◌, length, get_or, set, filter, find, All, IsTrue, refl, sym, ◌∙◌, subst, arith, eqb}
use Rattle.std.specs.List.{list_any}
use Rattle.std.proofs.lemmas.Bool.{eq-eqb, ne_eqb}
use Rattle.std.proofs.lemmas.Bool.Decides.{nat_tests}
use Rattle.std.proofs.lemmas.List.{append-nil}
use Rattle.std.proofs.lemmas.List.Elements.{All-nil, All-cons, filter-append}
use Rattle.dt_definitions.specs.Program.{Definition, is_definition, insert_definition, key_of, is_key_before, is_same_key}
use Rattle.dt_definitions.specs.SelectorLists.{SelectorList, definition_of, with_selector, definitions_from, NoneDefined}
use Rattle.dt_definitions.specs.declared.defined.Defined.{Defined}
use Rattle.dt_definitions.proofs.DefinitionOrder.{key_order}
use Rattle.dt_graph.proofs.InOrder.{inserted_first}

-- rows with no definition have none together
pub none_from_empty : (k : ℕ) (rows : List SelectorList) → NoneDefined rows → definitions_from k rows ≡ []
none_from_empty k [] h = refl
none_from_empty k (row ∷ rows) h = let r = none_from_empty (k + 1) rows h.1 in rw (h.0, r) refl

pub none_push : (rows : List SelectorList) (row : SelectorList) → NoneDefined rows → row.defined ≡ [] → NoneDefined (rows ++ row ∷ [])
none_push [] row h e = (e, tt)
none_push (r ∷ rows) row h e = (h.0, none_push rows row h.1 e)

of_same : (s : ℕ) (row : List Defined) → filter (λ d. eqb d.selector s) (with_selector s row) ≡ with_selector s row
of_same s [] = refl
of_same s (d ∷ row) = let e = eq-eqb s s refl in let r = of_same s row in rw (e, r) refl

of_other : (s k : ℕ) (row : List Defined) → (k ≡ s → ⊥) → filter (λ d. eqb d.selector s) (with_selector k row) ≡ []
of_other s k [] n = refl
of_other s k (d ∷ row) n = let e = ne_eqb k s n in let r = of_other s k row n in rw e r

of_later : (s k : ℕ) (rows : List SelectorList) → s < k → filter (λ d. eqb d.selector s) (definitions_from k rows) ≡ []
of_later s k [] l = refl
of_later s k (row ∷ rows) l =
    filter-append (λ (d : Definition). eqb d.selector s) (with_selector k row.defined) (definitions_from (k + 1) rows)
    ∙ rw (of_other s k row.defined (λ e. absurd (omega arith)), of_later s (k + 1) rows (omega arith)) refl

-- the definitions of a selector are its row
pub of_row : (rows : List SelectorList) (k i s : ℕ) (r : SelectorList)
    → s ≡ k + i → i < length rows → r ≡ get_or rows i r
    → with_selector s r.defined ≡ filter (λ d. eqb d.selector s) (definitions_from k rows)
of_row [] k i s r e l g = absurd (omega arith)
of_row (row ∷ rows) k zero s r e l g =
    let q : s ≡ k = omega arith in
    sym (filter-append (λ (d : Definition). eqb d.selector s) (with_selector k row.defined) (definitions_from (k + 1) rows)
    ∙ rw (of_later s (k + 1) rows (omega arith), sym q, of_same s row.defined, sym g) (append-nil (with_selector s r.defined)))
of_row (row ∷ rows) k (suc i) s r e l g =
    of_row rows (k + 1) i s r (omega arith) (omega arith) g
    ∙ sym (filter-append (λ (d : Definition). eqb d.selector s) (with_selector k row.defined) (definitions_from (k + 1) rows)
    ∙ rw (of_other s k row.defined (λ q. absurd (omega arith))) refl)

-- a test that only definitions of the selector pass
pub any_of : (s : ℕ) (p : Definition → Bool) (ds : List Definition)
    → ((d : Definition) → IsTrue (p d) → d.selector ≡ s)
    → list_any p ds ≡ list_any p (filter (λ d. eqb d.selector s) ds)
any_of s p [] h = refl
any_of s p (d ∷ ds) h = let r = any_of s p ds h in let q = h d in grind (arith, nat_tests)

pub find_of : (s : ℕ) (p : Definition → Bool) (ds : List Definition)
    → ((d : Definition) → IsTrue (p d) → d.selector ≡ s)
    → find p ds ≡ find p (filter (λ d. eqb d.selector s) ds)
find_of s p [] h = refl
find_of s p (d ∷ ds) h = let r = find_of s p ds h in let q = h d in grind (arith, nat_tests)

-- the definition stands before each of the list
abbrev StandsFirst : Definition → List Definition → Type 0
StandsFirst d ds = All (λ e. IsTrue (is_key_before (key_of d) (key_of e))) ds

-- placing in front of what stands behind, and behind what stands in front
insert_left : (d : Definition) (xs ys : List Definition) → StandsFirst d ys → insert_definition d (xs ++ ys) ≡ insert_definition d xs ++ ys
insert_left d [] ys h = inserted_first key_of is_key_before is_same_key key_order d ys h
insert_left d (e ∷ xs) ys h = let r = insert_left d xs ys h in grind arith

insert_right : (d : Definition) (k : ℕ) (row : List Defined) (ys : List Definition)
    → k < d.selector → insert_definition d (with_selector k row ++ ys) ≡ with_selector k row ++ insert_definition d ys
insert_right d k [] ys l = refl
insert_right d k (e ∷ row) ys l = let r = insert_right d k row ys l in grind (arith, nat_tests)

first_of_row : (d : Definition) (k : ℕ) (row : List Defined) (ys : List Definition)
    → d.selector < k → StandsFirst d ys → StandsFirst d (with_selector k row ++ ys)
first_of_row d k [] ys l h = h
first_of_row d k (e ∷ row) ys l h = All-cons (λ e. IsTrue (is_key_before (key_of d) (key_of e))) (definition_of k e) (with_selector k row ++ ys)
    (grind (arith, nat_tests)) (first_of_row d k row ys l h)

first_of_rows : (d : Definition) (k : ℕ) (rows : List SelectorList) → d.selector < k → StandsFirst d (definitions_from k rows)
first_of_rows d k [] l = All-nil (λ e. IsTrue (is_key_before (key_of d) (key_of e)))
first_of_rows d k (row ∷ rows) l = first_of_row d k row.defined (definitions_from (k + 1) rows) l (first_of_rows d (k + 1) rows (omega arith))

-- placing a definition changes its selector's row
pub insert_row : (rows : List SelectorList) (k i : ℕ) (d : Definition) (r new : SelectorList)
    → d.selector ≡ k + i → i < length rows → r ≡ get_or rows i r
    → with_selector d.selector new.defined ≡ insert_definition d (with_selector d.selector r.defined)
    → definitions_from k (set rows i new) ≡ insert_definition d (definitions_from k rows)
insert_row [] k i d r new e l g h = absurd (omega arith)
insert_row (row ∷ rows) k zero d r new e l g h =
    let q : d.selector ≡ k = omega arith in
    let left = insert_left d (with_selector k row.defined) (definitions_from (k + 1) rows) (first_of_rows d (k + 1) rows (omega arith)) in
    let h' : with_selector k new.defined ≡ insert_definition d (with_selector k row.defined) = subst (λ s. with_selector s new.defined ≡ insert_definition d (with_selector s row.defined)) q (rw g at h) in
    rw h' (sym left)
insert_row (row ∷ rows) k (suc i) d r new e l g h =
    let right = insert_right d k row.defined (definitions_from (k + 1) rows) (omega arith) in
    let rest = insert_row rows (k + 1) i d r new (omega arith) (omega arith) g h in
    rw rest (sym right)

-- taking a definition away changes its selector's row
keep_row : (s : ℕ) (cs : List ℕ) (k : ℕ) (row : List Defined) → (k ≡ s → ⊥)
    → filter (λ d. not (is_definition s cs d)) (with_selector k row) ≡ with_selector k row
keep_row s cs k [] n = refl
keep_row s cs k (d ∷ row) n = let r = keep_row s cs k row n in grind (arith, nat_tests)

keep_later : (s : ℕ) (cs : List ℕ) (k : ℕ) (rows : List SelectorList) → s < k
    → filter (λ d. not (is_definition s cs d)) (definitions_from k rows) ≡ definitions_from k rows
keep_later s cs k [] l = refl
keep_later s cs k (row ∷ rows) l =
    filter-append (λ d. not (is_definition s cs d)) (with_selector k row.defined) (definitions_from (k + 1) rows)
    ∙ rw (keep_row s cs k row.defined (λ e. absurd (omega arith)), keep_later s cs (k + 1) rows (omega arith)) refl

pub remove_row : (rows : List SelectorList) (k i s : ℕ) (cs : List ℕ) (r new : SelectorList)
    → s ≡ k + i → i < length rows → r ≡ get_or rows i r
    → with_selector s new.defined ≡ filter (λ d. not (is_definition s cs d)) (with_selector s r.defined)
    → definitions_from k (set rows i new) ≡ filter (λ d. not (is_definition s cs d)) (definitions_from k rows)
remove_row [] k i s cs r new e l g h = absurd (omega arith)
remove_row (row ∷ rows) k zero s cs r new e l g h =
    let q : s ≡ k = omega arith in
    let h' : with_selector k new.defined ≡ filter (λ d. not (is_definition s cs d)) (with_selector k row.defined) =
    subst (λ t. with_selector t new.defined ≡ filter (λ d. not (is_definition s cs d)) (with_selector t row.defined)) q (rw g at h) in
    rw h' (sym (filter-append (λ d. not (is_definition s cs d)) (with_selector k row.defined) (definitions_from (k + 1) rows)
    ∙ rw (keep_later s cs (k + 1) rows (omega arith)) refl))
remove_row (row ∷ rows) k (suc i) s cs r new e l g h =
    let rest = remove_row rows (k + 1) i s cs r new (omega arith) (omega arith) g h in
    rw rest (sym (filter-append (λ d. not (is_definition s cs d)) (with_selector k row.defined) (definitions_from (k + 1) rows)
    ∙ rw (keep_row s cs k row.defined (λ q. absurd (omega arith))) refl))
