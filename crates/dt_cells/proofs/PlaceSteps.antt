-- Place words that are set one after the other.
use Rattle.std.proofs.Common.{◌≡◌, ◌==◌, ℕ, zero, suc, ◌+◌, ◌-◌, ◌<◌, ◌≤◌, Bool, true, false, ◌&&◌, ◌||◌, if◌then◌else◌, List, [], ◌∷◌, length, take, map, get_or, refl, sym, ap, subst, ◌∙◌, arith, eqb-true, true≢false}
use Rattle.std.specs.List.{list_any}
use Rattle.std.proofs.lemmas.List.{take_all}
use Rattle.dt_pages.specs.Reading.{Reading}
use Rattle.dt_scratch.specs.declared.reply.Change.{Change}
use Rattle.dt_cells.specs.Regions.{place_of}
use Rattle.dt_cells.specs.Held.{is_changed_place}
use Rattle.dt_cells.specs.PlaceWords.{is_place_among, own_words}

-- one element more
pub any_of_more : {T : Type 0} (test : T → Bool) (l : List T) (i : ℕ) (d : T) → i < length l
    → list_any test (take (i + 1) l) ≡ (list_any test (take i l) || test (get_or l i d))
any_of_more test [] i d within = absurd (omega arith)
any_of_more test (x ∷ l) zero d within = or_none (test x)
  where
    or_none : (b : Bool) → (b || false) ≡ b
    or_none true = refl
    or_none false = refl
any_of_more test (x ∷ l) (suc i) d within =
    let e : suc i + 1 ≡ suc (i + 1) = omega arith in
    ap (λ n. list_any test (take n (x ∷ l))) e
    ∙ ap (λ b. test x || b) (any_of_more test l i d (omega arith)) ∙ in_turn (test x) (list_any test (take i l)) (test (get_or l i d))
  where
    in_turn : (a b c : Bool) → (a || (b || c)) ≡ ((a || b) || c)
    in_turn true b c = refl
    in_turn false b c = refl

pub map_at : {T : Type 0} (f : T → ℕ) (l : List T) (i : ℕ) (d : T) → i < length l → get_or (map f l) i 0 ≡ f (get_or l i d)
map_at f [] i d within = absurd (omega arith)
map_at f (x ∷ l) zero d within = refl
map_at f (x ∷ l) (suc i) d within = map_at f l i d (omega arith)

-- ---- words that belong to a kind

laid : (before here : Bool) (v w x y z : ℕ) → y ≡ (if before then w else x) → z ≡ (if here then v else y) → (here ≡ true → v ≡ w)
    → z ≡ (if before || here then w else x)
laid true true v w x y z e f is = f ∙ is refl
laid true false v w x y z e f is = f ∙ e
laid false true v w x y z e f is = f ∙ is refl
laid false false v w x y z e f is = f ∙ e

pub laid_step : (has : ℕ → Bool) (x y z w : Reading) (selectors : List ℕ) (i : ℕ) (d : ℕ) → i < length selectors
    → ((address : ℕ) → y address ≡ (if is_place_among (take i selectors) address then own_words has x address else w address))
    → ((address : ℕ) → z address ≡ (if address == place_of (get_or selectors i d) then (if has (get_or selectors i d) then x (place_of (get_or selectors i d)) else 0) else y address))
    → (address : ℕ) → z address ≡ (if is_place_among (take (i + 1) selectors) address then own_words has x address else w address)
laid_step has x y z w selectors i d within before now address =
    let s = get_or selectors i d in
    laid (is_place_among (take i selectors) address) (place_of s == address) (if has s then x (place_of s) else 0) (own_words has x address) (w address) (y address) (z address)
    (before address) (now address ∙ ap (λ b. if b then (if has s then x (place_of s) else 0) else y address) (turned address (place_of s)))
    (λ t. let is : place_of s ≡ address = eqb-true _ _ t in own s address is)
    ∙ ap (λ b. if b then own_words has x address else w address) (sym (any_of_more (λ selector. place_of selector == address) selectors i d within))
  where
    turned : (m n : ℕ) → (m == n) ≡ (n == m)
    turned m n = grind arith

    own : (s address : ℕ) → place_of s ≡ address → (if has s then x (place_of s) else 0) ≡ own_words has x address
    own s address is =
        let back : s ≡ address - place_of 0 = omega (arith, is) in
        ap (λ n. if has n then x (place_of s) else 0) back ∙ ap (λ n. if has (address - place_of 0) then x n else 0) is

-- ---- words that are put back

put : (before here none still : Bool) (v w x y z : ℕ) → (y ≡ x → still ≡ none) → y ≡ (if before && none then w else x)
    → z ≡ (if here && still then v else y) → (here ≡ true → v ≡ w) → z ≡ (if (before || here) && none then w else x)
put true true true true v w x y z same e f is = f ∙ is refl
put true true true false v w x y z same e f is = f ∙ e
put true true false true v w x y z same e f is = absurd (true≢false (same e))
put true true false false v w x y z same e f is = f ∙ e
put true false true still v w x y z same e f is = f ∙ e
put true false false still v w x y z same e f is = f ∙ e
put false true true true v w x y z same e f is = f ∙ is refl
put false true true false v w x y z same e f is = absurd (true≢false (sym (same e)))
put false true false true v w x y z same e f is = absurd (true≢false (same e))
put false true false false v w x y z same e f is = f ∙ e
put false false true still v w x y z same e f is = f ∙ e
put false false false still v w x y z same e f is = f ∙ e

pub put_step : (read y z w : Reading) (selectors : List ℕ) (i : ℕ) (d word : ℕ) → i < length selectors
    → ((address : ℕ) → y address ≡ (if is_place_among (take i selectors) address && (w address == 0) then read address else w address))
    → word ≡ read (place_of (get_or selectors i d))
    → ((address : ℕ) → z address ≡ (if (address == place_of (get_or selectors i d)) && (y address == 0) then word else y address))
    → (address : ℕ) → z address ≡ (if is_place_among (take (i + 1) selectors) address && (w address == 0) then read address else w address)
put_step read y z w selectors i d word within before its now address =
    let s = get_or selectors i d in
    put (is_place_among (take i selectors) address) (place_of s == address) (w address == 0) (y address == 0) word (read address) (w address) (y address) (z address)
    (λ e. ap (λ (n : ℕ). n == 0) e) (before address) (now address ∙ ap (λ b. if b && (y address == 0) then word else y address) (turned address (place_of s)))
    (λ t. let is : place_of s ≡ address = eqb-true _ _ t in its ∙ ap read is)
    ∙ ap (λ b. if b && (w address == 0) then read address else w address) (sym (any_of_more (λ selector. place_of selector == address) selectors i d within))
  where
    turned : (m n : ℕ) → (m == n) ≡ (n == m)
    turned m n = grind arith

-- ---- once all are set

-- the selectors are those of the changes
abbrev pub AreSelectors : List ℕ → List Change → Type 0
AreSelectors selectors changes = (test : ℕ → Bool) → list_any test selectors ≡ list_any (λ change. test change.query.selector) changes

among_all : (selectors : List ℕ) (changes : List Change) (i : ℕ) (address : ℕ) → length selectors ≤ i → AreSelectors selectors changes
    → is_place_among (take i selectors) address ≡ is_changed_place changes address
among_all selectors changes i address all are =
    ap (λ (l : List ℕ). is_place_among l address) (take_all i selectors all) ∙ are (λ selector. place_of selector == address)

pub all_laid : (has : ℕ → Bool) (x y w : Reading) (selectors own : List ℕ) (changes : List Change) (i : ℕ) → selectors ≡ own → length selectors ≤ i → AreSelectors own changes
    → ((address : ℕ) → y address ≡ (if is_place_among (take i selectors) address then own_words has x address else w address))
    → (address : ℕ) → y address ≡ (if is_changed_place changes address then own_words has x address else w address)
all_laid has x y w selectors own changes i is all are laid address =
    laid address ∙ ap (λ b. if b then own_words has x address else w address)
    (among_all selectors changes i address all (subst (λ (l : List ℕ). AreSelectors l changes) (sym is) are))

pub all_put : (read y w : Reading) (selectors own : List ℕ) (changes : List Change) → selectors ≡ own → AreSelectors own changes
    → ((address : ℕ) → y address ≡ (if is_place_among selectors address && (w address == 0) then read address else w address))
    → (address : ℕ) → y address ≡ (if is_changed_place changes address && (w address == 0) then read address else w address)
all_put read y w selectors own changes is are put address =
    put address ∙ ap (λ b. if b && (w address == 0) then read address else w address)
    (ap (λ (l : List ℕ). is_place_among l address) is ∙ are (λ selector. place_of selector == address))
