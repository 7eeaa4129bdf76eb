-- What a value keeps, before a stage, after it and after it is settled.
use Rattle.std.proofs.Common.{◌≡◌, ◌≢◌, ◌⊎◌, ℕ, ◌+◌, Bool, true, false, ◌&&◌, if◌then◌else◌, List, get_or, inl, inr, refl, sym, ap, ◌∙◌, arith}
use Rattle.std.proofs.lemmas.Bool.{or_left, true≢false}
use Rattle.dt_pages.specs.Reading.{Reading, blank}
use Rattle.dt_scratch.specs.declared.reply.Change.{Change}
use Rattle.dt_cells.specs.Regions.{place_of}
use Rattle.dt_cells.specs.Held.{Held, none_held, held_after, is_changed, is_changed_place}
use Rattle.dt_cells.specs.HeldLaws.{by_cases, if_true, if_false}
use Rattle.dt_cells.specs.Kind.{Stay}
use Rattle.dt_cells.specs.Standing.{CanStage}
use Rattle.dt_fit.specs.declared.geometry.Geometry.{Geometry}
use Rattle.dt_fit.specs.Cells.{Cells, is_kept, is_tried}
use Rattle.dt_placing.specs.declared.staged.StagedWord.{StagedWord}
use Rattle.dt_placing.specs.Rows.{is_some, has_index}
use Rattle.dt_placing.specs.Placing.{owns, words_after, with_words, AreUsed, Kept, Stands, Follows, Places, placing}
use Rattle.dt_placing.specs.PlacingLaws.{unchanged_indexes, words_changed, words_unchanged, words_one, word_shown, marked, shown_after, placing_is_lawful}
use Rattle.dt_placing.specs.PlacingStanding.{used_elsewhere}
use Rattle.dt_placing.specs.Turn.{CanTakeTurns, AreWordsOf}

module _ (g : Geometry) where
  pub can_take : (kept : Kept) (x d : Reading) (held : Held) (changes : List Change) → CanStage (placing g) (Stands g kept) 1 x d held changes
      → CanTakeTurns g (record kept.cells { tried = kept.cells.kept }) kept.words x d held changes
  can_take kept x d held changes can = record {
    shows = can.standing.shows;
    used = can.standing.cells;
    words = can.standing.words;
    untouched = can.untouched;
    each = can.stageable.each;
    ascending = can.stageable.ascending;
  }

  pub staged_follows : (kept : Kept) (cells : Cells) (staged : List StagedWord) (x d now : Reading) (held : Held) (changes : List Change)
      → CanStage (placing g) (Stands g kept) 1 x d held changes → Places g x held changes now → AreUsed (is_tried cells) now → AreWordsOf kept.words changes now staged
      → Follows g (record { words = kept.words; cells = cells }) staged x held changes
  staged_follows kept cells staged x d now held changes can places used words = record {
    stageable = can.stageable;
    reading = now;
    places = places;
    words = λ s small. by_cases (is_changed changes s)
        (λ t. words.changed s small t ∙ by_cases (has_index (held_after held changes) s)
        (λ some. sym (if_true (has_index (held_after held changes) s) (words_after x changes now s) 0 some ∙ words_changed g x now changes s t))
        (λ none. none_placed s (marked g x now held changes s places t) none ∙ sym (if_false (has_index (held_after held changes) s) (words_after x changes now s) 0 none)))
        (λ f. words.others s small f ∙ can.standing.words s small
        ∙ ap (λ b. if b then x (place_of s) else 0) (sym (ap is_some (unchanged_indexes held changes s f)))
        ∙ ap (λ w. if has_index (held_after held changes) s then w else 0) (sym (words_unchanged g x now changes s f)));
    cells = used;
  }
    where
      none_placed : (s : ℕ) → ((has_index (held_after held changes) s ≡ true) × (now (place_of s) ≢ 0)) ⊎ ((has_index (held_after held changes) s ≡ true → ⊥) × (now (place_of s) ≡ 0))
          → has_index (held_after held changes) s ≡ false → now (place_of s) ≡ 0
      none_placed s (inl p) none = absurd (true≢false (sym p.0 ∙ none))
      none_placed s (inr p) none = p.1

  pub settled : (kept : Kept) (staged : List StagedWord) (x y : Reading) (held : Held) (changes : List Change) → Stands g kept x held
      → Follows g kept staged x held changes → Places g x held changes y → Stay (placing g) held changes x y
      → Stands g (record { words = with_words staged kept.words; cells = record kept.cells { kept = kept.cells.tried } }) y (held_after held changes)
  settled kept staged x y held changes st follows places stay = record {
    shows = shown_after g 1 x y held changes st.shows (omega arith) follows.stageable places stay;
    geometry_is = st.geometry_is;
    words = λ s small. follows.words s small ∙ by_cases (has_index (held_after held changes) s)
        (λ some. if_true (has_index (held_after held changes) s) (words_after x changes follows.reading s) 0 some
        ∙ words_one g x follows.reading y held changes follows.places places (s + 1) s (omega arith)
        ∙ word_shown g x y held changes s stay some
        ∙ sym (if_true (has_index (held_after held changes) s) (y (place_of s)) 0 some))
        (λ none. if_false (has_index (held_after held changes) s) (words_after x changes follows.reading s) 0 none
        ∙ sym (if_false (has_index (held_after held changes) s) (y (place_of s)) 0 none));
    cells = used_elsewhere g (is_tried kept.cells) follows.reading y
        (λ address own. (placing_is_lawful g).determined x follows.reading y held changes st.shows follows.places places address (or_left (owns address) (is_changed_place changes address) own))
        follows.cells;
  }

  pub none_stands : (words : List ℕ) (cells : Cells) → ((at : ℕ) → get_or words at 0 ≡ 0) → cells.geometry ≡ g → ((cell : ℕ) → is_kept cells cell ≡ false)
      → Stands g (record { words = words; cells = cells }) blank none_held
  none_stands words cells zeros geometry none = record {
    shows = (placing_is_lawful g).blank_shows_none;
    geometry_is = geometry;
    words = λ s small. zeros s ∙ sym (same (has_index none_held s));
    cells = λ cell. none cell ∙ sym (and_none (owns (16777216 + cell)));
  }
    where
      same : (b : Bool) → ◌≡◌ {A = ℕ} (if b then 0 else 0) 0
      same true = refl
      same false = refl

      and_none : (b : Bool) → (b && false) ≡ false
      and_none true = refl
      and_none false = refl
