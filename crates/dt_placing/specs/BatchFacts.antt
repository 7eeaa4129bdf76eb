-- What a batch of two selectors comes to: what is used when a turn comes, and what is placed, from a few facts.
use Rattle.std.proofs.Common.{◌≡◌, ◌≢◌, ◌==◌, inl, inr, ℕ, ◌-◌, ◌<◌, ◌≤◌, Bool, true, false, ◌&&◌, not, if◌then◌else◌, List, [], ◌∷◌, refl, sym, ap, subst, ◌∙◌, arith, All, get_or}
use Rattle.std.proofs.lemmas.Bool.{eqb-true, true≢false}
use Rattle.std.proofs.lemmas.List.Elements.{All-nil, All-cons, All-head, All-tail}
use Rattle.dt_pages.specs.Reading.{Reading}
use Rattle.dt_scratch.specs.Query.{Query}
use Rattle.dt_scratch.specs.declared.reply.Answer.TheVariants.{Method}
use Rattle.dt_scratch.specs.declared.reply.Change.{Change}
use Rattle.dt_cells.specs.Regions.{place_of}
use Rattle.dt_cells.specs.Held.{Held, none_held, IsHeld, IsInRange, HasBodyInRange, held_after, is_changed, IsStageableChange}
use Rattle.dt_cells.specs.HeldLaws.{by_cases, or_true, after_keeps, body_after}
use Rattle.dt_cells.specs.Kind.{sets}
use Rattle.dt_fit.specs.declared.geometry.Geometry.{Geometry}
use Rattle.dt_fit.specs.Geometry as fit
use Rattle.dt_fit.specs.Fits.{fits}
use Rattle.dt_placing.specs.Rows.{single, indexes, is_some, has_index}
use Rattle.dt_placing.specs.Placing.{cell_at, owns, is_used, may_stay, HasWord, IsPlaced}
use Rattle.dt_placing.specs.TurnLaws.{used_is_of_another, of_another_is_used}
use Rattle.dt_placing.specs.Examples.{words}

-- ---- what a batch comes to, from a few facts

-- the class of a query of one class
abbrev pub class_of : Query → ℕ
class_of q = get_or q.classes 0 0

-- it holds of the address of each word that is set
abbrev pub OfEach : (ℕ → Type 0) → List (ℕ × ℕ) → Type 0
OfEach P [] = Unit {0}
OfEach P (set ∷ sets) = P set.0 × OfEach P sets

pub on_words : (P : ℕ → Type 0) (sets : List (ℕ × ℕ)) → OfEach P sets → (address : ℕ) → words sets address ≢ 0 → P address
on_words P [] each address some = absurd (some refl)
on_words P (set ∷ sets) each address some = by_cases (address == set.0)
    (λ t. subst P (sym (eqb-true address set.0 t)) each.0)
    (λ f. on_words P sets each.1 address (λ e. some (ap (λ (b : Bool). if b then set.1 else words sets address) f ∙ e)))

pub on_changed : (P : ℕ → Type 0) (changes : List Change) → All (λ change. P change.query.selector) changes → (s : ℕ) → is_changed changes s ≡ true → P s
on_changed P [] each s e = absurd (true≢false (sym e))
on_changed P (c ∷ cs) each s e = elim (or_true (c.query.selector == s) (is_changed cs s) e) [
  | inl t ↦ subst P (eqb-true c.query.selector s t) (All-head (λ change. P change.query.selector) c cs each)
  | inr t ↦ on_changed P cs (All-tail (λ change. P change.query.selector) c cs each) s t
]

pub of_none : (P : Query → Type 0) (q : Query) → IsHeld none_held q → P q
of_none P q h = absurd (h refl)

module _ (g : Geometry) (x : Reading) (held : Held) (changes : List Change) (places : ℕ → ℕ) where
  -- the number of the cell of a query's class at the place of a word
  abbrev pub number : ℕ → Query → ℕ
  number word q = fit.cell_at g (word - 1) (class_of q)

  pub unused : (turn cell : ℕ) → ((q : Query) → IsHeld (held_after held changes) q → q.selector < turn → number (places q.selector) q ≡ cell → ⊥)
      → ((q : Query) → IsHeld held q → turn < q.selector → number (x (place_of q.selector)) q ≡ cell → ⊥)
      → is_used g x held changes places turn cell ≡ false
  unused turn cell earlier later = by_cases (is_used g x held changes places turn cell)
      (λ t. (let is = used_is_of_another g x held changes places turn cell t in elim is.has [
        | inl e ↦ absurd (earlier (single is.other e.1.class) e.1.understands e.0 e.1.is)
        | inr l ↦ absurd (later (single is.other l.1.class) l.1.understands l.0 l.1.is)
      ]))
      (λ f. f)

  pub used_before : (turn cell other class : ℕ) → other < 4096 → other < turn → class < 2048 → IsHeld (held_after held changes) (single other class)
      → number (places other) (single other class) ≡ cell → is_used g x held changes places turn cell ≡ true
  used_before turn cell other class range earlier below h is = of_another_is_used g x held changes places turn cell (record {
    other = other;
    range = range;
    has = inl (earlier, record { class = class; below = below; understands = h; is = is });
  })

  pub used_later : (turn cell other class : ℕ) → other < 4096 → turn < other → class < 2048 → IsHeld held (single other class)
      → number (x (place_of other)) (single other class) ≡ cell → is_used g x held changes places turn cell ≡ true
  used_later turn cell other class range later below h is = of_another_is_used g x held changes places turn cell (record {
    other = other;
    range = range;
    has = inr (later, record { class = class; below = below; understands = h; is = is });
  })

  abbrev pub used : ℕ → ℕ → Bool
  used = is_used g x held changes places

  pub stays_as : (s : ℕ) (list : List ℕ) (b : Bool) → indexes (held_after held changes) s ≡ list → has_index held s ≡ true
      → fits g (used s) list (x (place_of s) - 1) ≡ b → may_stay g x held changes places s ≡ b
  stays_as s list b is has f = ap (λ (v : Bool). v && fits g (used s) (indexes (held_after held changes) s) (x (place_of s) - 1)) has
      ∙ ap (λ (l : List ℕ). fits g (used s) l (x (place_of s) - 1)) is ∙ f

  pub none_stays : (s : ℕ) → has_index held s ≡ false → may_stay g x held changes places s ≡ false
  none_stays s has = ap (λ (v : Bool). v && fits g (used s) (indexes (held_after held changes) s) (x (place_of s) - 1)) has

  pub placed_as : (s : ℕ) (list : List ℕ) (stays : Bool) → indexes (held_after held changes) s ≡ list → may_stay g x held changes places s ≡ stays
      → HasWord g (x (place_of s)) (used s) list (is_some list) stays (places s) → IsPlaced g x held changes places s
  placed_as s list stays is may has =
      subst (λ (b : Bool). HasWord g (x (place_of s)) (used s) (indexes (held_after held changes) s) (has_index (held_after held changes) s) b (places s)) (sym may)
      (subst (λ (l : List ℕ). HasWord g (x (place_of s)) (used s) l (is_some l) stays (places s)) (sym is) has)

  pub placed_means : (s : ℕ) (list : List ℕ) (stays : Bool) → indexes (held_after held changes) s ≡ list → may_stay g x held changes places s ≡ stays
      → IsPlaced g x held changes places s → HasWord g (x (place_of s)) (used s) list (is_some list) stays (places s)
  placed_means s list stays is may has =
      subst (λ (b : Bool). HasWord g (x (place_of s)) (used s) list (is_some list) b (places s)) may
      (subst (λ (l : List ℕ). HasWord g (x (place_of s)) (used s) l (is_some l) (may_stay g x held changes places s) (places s)) is has)

-- a cell of a held query, where selectors have these place words
abbrev pub IsHeldAt : Geometry → (ℕ → ℕ) → Held → ℕ → Type 0
IsHeldAt g places held address = owns address ≡ true
    → (selector : ℕ) × (class : ℕ) × (class < 2048) × IsHeld held (single selector class) × (cell_at g (places selector - 1) class ≡ address)

pub no_cell : {T : Type 0} → false ≡ true → T
no_cell e = absurd (true≢false (sym e))

pub in_range : (s class : ℕ) → s < 4096 → class < 2048 → IsInRange (single s class)
in_range s class small below = record { selector = small; classes = All-cons (λ c. c < 2048) class [] below (All-nil (λ c. c < 2048)) }

-- a row of two indexes
pub fits_two : (g : Geometry) (used : ℕ → Bool) (a b place : ℕ) → used (fit.cell_at g place a) ≡ false → used (fit.cell_at g place b) ≡ false
    → fits g used (a ∷ b ∷ []) place ≡ true
fits_two g used a b place first second = ap (λ (v : Bool). not v && (not (used (fit.cell_at g place b)) && true)) first ∙ ap (λ (v : Bool). not v && true) second

pub not_by_first : (g : Geometry) (used : ℕ → Bool) (a : ℕ) (list : List ℕ) (place : ℕ) → used (fit.cell_at g place a) ≡ true → fits g used (a ∷ list) place ≡ false
not_by_first g used a list place first = ap (λ (v : Bool). not v && fits g used list place) first

pub not_by_second : (g : Geometry) (used : ℕ → Bool) (a b : ℕ) (list : List ℕ) (place : ℕ) → used (fit.cell_at g place b) ≡ true → fits g used (a ∷ b ∷ list) place ≡ false
not_by_second g used a b list place second = ap (λ (v : Bool). not (used (fit.cell_at g place a)) && (not v && fits g used list place)) second ∙ and_no (not (used (fit.cell_at g place a)))
  where
    and_no : (b : Bool) → (b && false) ≡ false
    and_no true = refl
    and_no false = refl

-- ---- the changes and what is held

abbrev pub answered : ℕ → ℕ → ℕ → Change
answered selector class body = record { query = single selector class; answer = Method body }

-- selector 0 is understood by class 0, and selector 1 by class 1
abbrev pub apart : List Change
apart = answered 0 0 0 ∷ answered 1 1 1 ∷ []

abbrev pub apart_held : Held
apart_held = held_after none_held apart

pub of_apart : (P : Query → Type 0) → P (single 0 0) → P (single 1 1) → (q : Query) → IsHeld apart_held q → P q
of_apart P a b = after_keeps P none_held apart (of_none P) (All-cons (λ change. P change.query) (answered 0 0 0) (answered 1 1 1 ∷ []) a
    (All-cons (λ change. P change.query) (answered 1 1 1) [] b (All-nil (λ change. P change.query))))

pub may_be : (s class body : ℕ) → s < 4096 → class < 2048 → body < 65536 → IsStageableChange 1 1 (answered s class body)
may_be s class body small below little = record { least = (let a : 1 ≤ 1 = omega arith in a); greatest = (let a : 1 ≤ 1 = omega arith in a); range = in_range s class small below; body = little }

pub apart_bodies : (q : Query) → HasBodyInRange (apart_held q)
apart_bodies = body_after 1 1 none_held apart (λ q. tt) (All-cons (IsStageableChange 1 1) (answered 0 0 0) (answered 1 1 1 ∷ []) (may_be 0 0 0 (omega arith) (omega arith) (omega arith))
    (All-cons (IsStageableChange 1 1) (answered 1 1 1) [] (may_be 1 1 1 (omega arith) (omega arith) (omega arith)) (All-nil (IsStageableChange 1 1))))

-- then both by class 2
abbrev pub to_both : List Change
to_both = answered 0 2 0 ∷ answered 1 2 1 ∷ []

abbrev pub both_held : Held
both_held = held_after apart_held to_both

pub of_both : (P : Query → Type 0) → P (single 0 0) → P (single 1 1) → P (single 0 2) → P (single 1 2) → (q : Query) → IsHeld both_held q → P q
of_both P a b c d = after_keeps P apart_held to_both (of_apart P a b) (All-cons (λ change. P change.query) (answered 0 2 0) (answered 1 2 1 ∷ []) c
    (All-cons (λ change. P change.query) (answered 1 2 1) [] d (All-nil (λ change. P change.query))))
