-- What holds of any kind as a part of a pair: the place words that it leaves, and what a reading shows that keeps them.
use Rattle.std.proofs.Common.{◌≡◌, ◌≢◌, ℕ, ◌≤◌, true, false, ◌&&◌, if◌then◌else◌, List, inl, inr, refl, sym, ◌∙◌}
use Rattle.std.proofs.lemmas.Bool.{or_from, or_left, or_right}
use Rattle.dt_pages.specs.Reading.{Reading}
use Rattle.dt_scratch.specs.declared.reply.Change.{Change}
use Rattle.dt_cells.specs.Regions.{place_of}
use Rattle.dt_cells.specs.Held.{Held, held_after, IsStageable, is_changed}
use Rattle.dt_cells.specs.HeldLaws.{by_cases, if_true, if_false, unchanged_after, changed_place}
use Rattle.dt_cells.specs.Kind.{Kind, IsLawful, sets, SameFor, Stay}
use Rattle.dt_cells.specs.Pair.{word_left}

module _ (k : Kind) (l : IsLawful k) where
  -- a selector without a change that has a place after has one before, and the other way round
  pub placed_before : (held : Held) (changes : List Change) (s : ℕ) → is_changed changes s ≡ false
      → k.placed (held_after held changes) s → k.placed held s
  placed_before held changes s e p = l.placed_by_own (held_after held changes) held s (unchanged_after held changes s e) p

  pub placed_after : (held : Held) (changes : List Change) (s : ℕ) → is_changed changes s ≡ false
      → k.placed held s → k.placed (held_after held changes) s
  placed_after held changes s e p = l.placed_by_own held (held_after held changes) s (λ q h. sym (unchanged_after held changes s e q h)) p

  pub gives_places : (held : Held) (s : ℕ) → k.placed held s → k.has_places ≡ true
  gives_places held s p = by_cases k.has_places (λ t. t) (λ f. absurd (l.no_places f held s p))

  pub sets_changed : (held : Held) (changes : List Change) (s : ℕ) → k.placed held s → is_changed changes s ≡ true
      → sets k changes (place_of s) ≡ true
  sets_changed held changes s p e = or_right (k.owns (place_of s)) _ (rw (gives_places held s p) (changed_place changes s ∙ e))

  -- ---- the place word that a part leaves

  left_changed : (x f : Reading) (changes : List Change) (s : ℕ) → is_changed changes s ≡ true → word_left x f changes s ≡ f (place_of s)
  left_changed x f changes s t = if_true (is_changed changes s) (f (place_of s)) (x (place_of s)) t

  left_unchanged : (x f : Reading) (changes : List Change) (s : ℕ) → is_changed changes s ≡ false → word_left x f changes s ≡ x (place_of s)
  left_unchanged x f changes s u = if_false (is_changed changes s) (f (place_of s)) (x (place_of s)) u

  -- that of a placed selector isn't 0
  pub word_is_some : (x f : Reading) (held : Held) (changes : List Change) (s : ℕ)
      → k.shows x held → k.places x held changes f → k.placed (held_after held changes) s → word_left x f changes s ≢ 0
  word_is_some x f held changes s sh pl p = by_cases (is_changed changes s)
      (λ t. elim (l.marks x f held changes s sh pl (gives_places (held_after held changes) s p) t) [
        | inl m ↦ (λ e. m.1 (sym (left_changed x f changes s t) ∙ e))
        | inr m ↦ absurd (m.0 p)
      ])
      (λ u e. l.placed_has_word x held s sh (placed_before held changes s u p) (sym (left_unchanged x f changes s u) ∙ e))

  -- it rests on what is read before only where the selector was placed then
  pub word_from : (x z f : Reading) (held : Held) (changes : List Change) (s : ℕ)
      → ((t : ℕ) → k.placed held t → x (place_of t) ≡ z (place_of t)) → k.placed (held_after held changes) s
      → word_left x f changes s ≡ word_left z f changes s
  word_from x z f held changes s same p = by_cases (is_changed changes s)
      (λ t. left_changed x f changes s t ∙ sym (left_changed z f changes s t))
      (λ u. left_unchanged x f changes s u ∙ same s (placed_before held changes s u p) ∙ sym (left_unchanged z f changes s u))

  -- two placings leave the same
  pub word_determined : (x f g : Reading) (held : Held) (changes : List Change) (s : ℕ)
      → k.shows x held → k.places x held changes f → k.places x held changes g → k.placed (held_after held changes) s
      → word_left x f changes s ≡ word_left x g changes s
  word_determined x f g held changes s sh pf pg p = by_cases (is_changed changes s)
      (λ t. left_changed x f changes s t
      ∙ l.determined x f g held changes sh pf pg (place_of s) (sets_changed (held_after held changes) changes s p t)
      ∙ sym (left_changed x g changes s t))
      (λ u. left_unchanged x f changes s u ∙ sym (left_unchanged x g changes s u))

  -- ---- a placing alone

  -- what the placing sets, over what was read before
  abbrev pub alone : List Change → Reading → Reading → Reading
  alone changes x f address = if sets k changes address then f address else x address

  pub alone_places : (x f : Reading) (held : Held) (changes : List Change) → k.places x held changes f → k.places x held changes (alone changes x f)
  alone_places x f held changes pl = l.placed_at_set x f (alone changes x f) held changes pl
      (λ address e. sym (if_true (sets k changes address) (f address) (x address) e))

  unset : (changes : List Change) (s : ℕ) → k.owns (place_of s) ≡ false → is_changed changes s ≡ false → sets k changes (place_of s) ≡ false
  unset changes s o u = or_from (k.owns (place_of s)) _ o
      (rw (changed_place changes s, u) (elim k.has_places as (λ v. (v && false) ≡ false) [ true ↦ refl | false ↦ refl ]))

  -- the reading has the cells of the placing, and the words that the part leaves placed selectors
  pub record Keeps (x : Reading) (held : Held) (changes : List Change) (f y : Reading) : Type 0 where
    pub cells : (address : ℕ) → k.owns address ≡ true → y address ≡ f address
    pub words : (s : ℕ) → k.placed (held_after held changes) s → y (place_of s) ≡ word_left x f changes s

  pub alone_stays : (x f y : Reading) (held : Held) (changes : List Change) → Keeps x held changes f y → Stay k held changes x (alone changes x f)
  alone_stays x f y held changes keeps s u p = by_cases (k.owns (place_of s))
      (λ o. if_true (sets k changes (place_of s)) (f (place_of s)) (x (place_of s)) (or_left _ _ o)
      ∙ sym (keeps.cells (place_of s) o) ∙ keeps.words s (placed_after held changes s u p) ∙ left_unchanged x f changes s u)
      (λ n. if_false (sets k changes (place_of s)) (f (place_of s)) (x (place_of s)) (unset changes s n u))

  pub alone_same : (x f y : Reading) (held : Held) (changes : List Change) → Keeps x held changes f y
      → SameFor k (held_after held changes) (alone changes x f) y
  alone_same x f y held changes keeps = record {
    owned = λ address o. if_true (sets k changes address) (f address) (x address) (or_left _ _ o) ∙ sym (keeps.cells address o);
    words = λ s p. by_cases (is_changed changes s)
        (λ t. if_true (sets k changes (place_of s)) (f (place_of s)) (x (place_of s)) (sets_changed (held_after held changes) changes s p t)
        ∙ sym (keeps.words s p ∙ left_changed x f changes s t))
        (λ u. alone_stays x f y held changes keeps s u (placed_before held changes s u p)
        ∙ sym (keeps.words s p ∙ left_unchanged x f changes s u));
  }

  -- so it shows what is held after
  pub part_shown : (low : ℕ) (x f y : Reading) (held : Held) (changes : List Change) → k.shows x held → 1 ≤ low
      → IsStageable low k.arities held changes → k.places x held changes f → Keeps x held changes f y → k.shows y (held_after held changes)
  part_shown low x f y held changes sh some able pl keeps =
      l.shown_elsewhere (alone changes x f) y (held_after held changes)
      (l.shown_after low x (alone changes x f) held changes sh some able (alone_places x f held changes pl) (alone_stays x f y held changes keeps))
      (alone_same x f y held changes keeps)

  -- and a value that is settled at the placing alone stands for it
  pub part_stands : (stands : Reading → Held → Type 0)
      → ((x y : Reading) (held : Held) → stands x held → SameFor k held x y → stands y held)
      → (x f y : Reading) (held : Held) (changes : List Change)
      → ((z : Reading) → k.places x held changes z → Stay k held changes x z → stands z (held_after held changes))
      → k.places x held changes f → Keeps x held changes f y → stands y (held_after held changes)
  part_stands stands elsewhere x f y held changes settled pl keeps =
      elsewhere (alone changes x f) y (held_after held changes)
      (settled (alone changes x f) (alone_places x f held changes pl) (alone_stays x f y held changes keeps))
      (alone_same x f y held changes keeps)
