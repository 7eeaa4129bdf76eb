-- The steps of a batch's turns: of one row more is taken away what isn't used any more, and one row more has its turn.
use Rattle.std.proofs.Common.{◌≡◌, ◌≢◌, ℕ, ◌+◌, ◌-◌, ◌<◌, ◌≤◌, Bool, true, false, ◌&&◌, List, [], take, get_or, length, Option, None, Some, is_some, inl, inr, refl, sym, ap, subst, ◌∙◌}
use Rattle.std.proofs.lemmas.Bool.{true≢false}
use Rattle.std.proofs.lemmas.List.{take_all}
use Rattle.dt_pages.specs.Reading.{Reading}
use Rattle.dt_scratch.specs.declared.reply.Change.{Change}
use Rattle.dt_cells.specs.Held.{Held, Row, held_after}
use Rattle.dt_placing.specs.Turn.{Laid}
use Rattle.dt_mrd.specs.declared.kept_row.KeptRow.{KeptRow}
use Rattle.dt_mrd.specs.declared.turn.Turn.{Turn}
use Rattle.dt_mrd.specs.Rows.{next_row, IsRow, comes_before}
use Rattle.dt_mrd.specs.Reading.{owns, tag_read}
use Rattle.dt_mrd.specs.Placing.{rows_of, IsPlaced}
use Rattle.dt_mrd.specs.MrdLaws.{placed_moves}
use Rattle.dt_mrd.specs.Kept.{row_at, tag_in, next_in, code_in, key_of}
use Rattle.dt_mrd.specs.Laying.{has_cell}
use Rattle.dt_mrd.specs.Midway.{Cleared, Midway, TakenAway, IsTurn, HasOtherRows, given_up}
use Rattle.dt_mrd.specs.Turns.{row_of_turn, has_turn, tags_in, with_tag, CanPlace, ArePlaced, HasTurn, IsOver}
use Rattle.dt_mrd.proofs.Order.{before_strict}
use Rattle.dt_mrd.proofs.Midway.{not_itself}
use Rattle.dt_mrd.proofs.Clearing.{nothing_gone, taken_away, all_gone}
use Rattle.dt_mrd.proofs.Skip.{skipped}
use Rattle.dt_mrd.proofs.Step.{after_turn, turn_is_placed, child_first}
use Rattle.dt_mrd.proofs.Displacements.{laid_outside}
use Rattle.dt_mrd.proofs.TurnLists.{same_row, same_or_not, turn_later, is_turn, turn_over, others_over}
use Rattle.dt_mrd.proofs.Retagging.{turns_after}
use Rattle.dt_mrd.proofs.Touched.{no_turn, code_beside, touches, own_tag_after, same_tags_after, was_row, is_row, no_row, row_now, key_after, fresh_after, code_after}
use Rattle.dt_mrd.proofs.OtherRows.{other_rows}

-- ---- before the first turn

module _ (x : Reading) (held : Held) (changes : List Change) (roots roots_then : List (Option ℕ)) (rows : ℕ → Option KeptRow) (fresh : List ℕ) (turns : List Turn) where
  -- at first nothing is taken away
  pub none_away : (d : Reading) (used taken : ℕ → Bool) → CanPlace x d held changes roots roots_then rows fresh turns used taken
      → Cleared (rows_of x held changes (tags_in roots_then rows)) (has_turn (take 0 turns)) d used taken
  none_away d used taken can = nothing_gone x held (held_after held changes) (tags_in roots_then rows) can.batch.shows d used taken can.untouched can.used_are can.taken_are

  pub one_away : (first : Reading) (used_first taken_first : ℕ → Bool) → CanPlace x first held changes roots roots_then rows fresh turns used_first taken_first
      → (i : ℕ) (turn : Turn) → i < length turns → turn ≡ get_or turns i no_turn → (d : Reading) (used taken : ℕ → Bool)
      → Cleared (rows_of x held changes (tags_in roots_then rows)) (has_turn (take i turns)) d used taken
      → (used_then taken_then : ℕ → Bool) (then_words : Reading)
      → TakenAway (tag_in (row_at rows turn.old)) (has_cell (row_at rows turn.old)) (has_cell (row_at rows turn.new)) (is_some turn.new) used taken d used_then taken_then then_words
      → Cleared (rows_of x held changes (tags_in roots_then rows)) (has_turn (take (i + 1) turns)) then_words used_then taken_then
  one_away first used_first taken_first can i turn below at d used taken cleared used_then taken_then then_words away =
      let t : Turn = get_or turns i no_turn in
      let order = can.turns_are.order in
      taken_away x held (held_after held changes) (tags_in roots_then rows) can.batch.shows (has_turn (take i turns)) d used taken cleared
      (row_of_turn t) (is_turn turns i no_turn order below).waits (tag_in (row_at rows t.old)) (has_cell (row_at rows t.old)) (has_cell (row_at rows t.new)) (is_some t.new)
      (was_row x held changes roots roots_then rows fresh turns can.batch can.turns_are i below) used_then taken_then then_words
      (subst (λ (u : Turn). TakenAway (tag_in (row_at rows u.old)) (has_cell (row_at rows u.old)) (has_cell (row_at rows u.new)) (is_some u.new) used taken d used_then taken_then then_words) at away)
      (has_turn (take (i + 1) turns)) (turn_over turns i no_turn order below) (others_over turns i no_turn order below) (same_or_not (row_of_turn t))

  -- when it was done for all turns the first may begin
  pub all_away : (first : Reading) (used_first taken_first : ℕ → Bool) → CanPlace x first held changes roots roots_then rows fresh turns used_first taken_first
      → (i : ℕ) → length turns ≤ i → (d : Reading) (used taken : ℕ → Bool)
      → Cleared (rows_of x held changes (tags_in roots_then rows)) (has_turn (take i turns)) d used taken
      → ArePlaced x d held changes roots roots_then rows fresh turns [] used taken
  all_away first used_first taken_first can i past d used taken cleared = record {
    batch = can.batch;
    turns_are = can.turns_are;
    midway = all_gone x held (held_after held changes) (tags_in roots_then rows) can.batch.shows (has_turn (take i turns)) d used taken cleared (has_turn turns)
        (touches x held changes roots roots_then rows fresh turns can.batch can.turns_are)
        (λ row e. ap (λ (l : List Turn). has_turn l row) (take_all i turns past) ∙ e);
    placed = λ row e is. absurd (true≢false (sym e));
  }

-- ---- one turn

module _ (x : Reading) (held : Held) (changes : List Change) (roots roots_then : List (Option ℕ)) (rows : ℕ → Option KeptRow) (fresh : List ℕ) (turns : List Turn)
    (i : ℕ) (below : i < length turns) (d : Reading) (used taken : ℕ → Bool)
    (are : ArePlaced x d held changes roots roots_then rows fresh turns (take i turns) used taken) where
  abbrev t : Turn
  t = get_or turns i no_turn

  abbrev row : Row
  row = row_of_turn (get_or turns i no_turn)

  abbrev after : Row → ℕ
  after = tags_in roots_then rows

  its_turn : IsTurn (has_turn turns) (has_turn (take i turns)) (row_of_turn (get_or turns i no_turn))
  its_turn = is_turn turns i no_turn are.turns_are.order below

  over : has_turn (take (i + 1) turns) (row_of_turn (get_or turns i no_turn)) ≡ true
  over = turn_over turns i no_turn are.turns_are.order below

  differ : (other : Row) → other ≢ row_of_turn (get_or turns i no_turn) → has_turn (take (i + 1) turns) other ≡ has_turn (take i turns) other
  differ = others_over turns i no_turn are.turns_are.order below

  -- the row is placed beside few others
  pub beside_few : is_some (get_or turns i no_turn).new ≡ true → (freed : ℕ → Bool)
      → Laid (λ class. tag_in (row_at rows (get_or turns i no_turn).old) - 1 + class)
      (λ class. has_cell (row_at rows (get_or turns i no_turn).old) class && has_cell (row_at rows (get_or turns i no_turn).new) class) (λ class. false) 2048 used freed
      → HasOtherRows freed (given_up taken (tag_in (row_at rows (get_or turns i no_turn).old)))
  beside_few some = other_rows (rows_of x held changes after) (has_turn (take i turns)) row d used taken are.batch.tabled are.midway (has_turn turns)
      (touches x held changes roots roots_then rows fresh turns are.batch are.turns_are) its_turn
      (tag_in (row_at rows t.old)) (has_cell (row_at rows t.old)) (has_cell (row_at rows t.new))
      (row_now x held changes roots roots_then rows fresh turns are.batch are.turns_are i below some) are.batch.few_rows (same_row row)

  -- a row that is none after
  skips : (get_or turns i no_turn).new ≡ None → ArePlaced x d held changes roots roots_then rows fresh turns (take (i + 1) turns) used taken
  skips none =
      let gone = no_row x held changes roots roots_then rows fresh turns are.batch are.turns_are i below none in
      record {
        batch = are.batch;
        turns_are = are.turns_are;
        midway = skipped (rows_of x held changes after) (has_turn (take i turns)) d used taken are.midway row gone (has_turn (take (i + 1) turns)) differ;
        placed = λ other e is. elim (same_or_not row other) [
          | inl same ↦ absurd (gone (subst (IsRow (held_after held changes)) same is))
          | inr apart ↦ are.placed other (sym (differ other apart) ∙ e) is
        ];
      }

  -- another
  module _ (rows_then : ℕ → Option KeptRow) (used_then taken_then : ℕ → Bool) (then_words : Reading)
      (h : HasTurn (get_or turns i no_turn) rows rows_then used taken d used_then taken_then then_words) where
    abbrev later : Row → ℕ
    later = tags_in roots_then (with_tag rows h.key h.tag)

    stays : IsRow (held_after held changes) (row_of_turn (get_or turns i no_turn))
    stays = is_row x held changes roots roots_then rows fresh turns are.batch are.turns_are i below (ap is_some h.is_key)

    at : key_of roots_then rows (row_of_turn (get_or turns i no_turn)) ≡ Some h.key
    at = sym (key_after x held changes roots roots_then rows fresh turns are.batch are.turns_are i below) ∙ h.is_key

    own_tag : tags_in roots_then (with_tag rows h.key h.tag) (row_of_turn (get_or turns i no_turn)) ≡ h.tag
    own_tag = own_tag_after x held changes roots roots_then rows fresh turns are.batch are.turns_are row stays h.key h.tag at

    other_tags : (other : Row) → other ≢ row_of_turn (get_or turns i no_turn) → IsRow (held_after held changes) other
        → tags_in roots_then (with_tag rows h.key h.tag) other ≡ tags_in roots_then rows other
    other_tags = same_tags_after x held changes roots roots_then rows fresh turns are.batch are.turns_are row stays h.key h.tag at

    midway_then : Midway (rows_of x held changes (tags_in roots_then (with_tag rows h.key h.tag))) (has_turn (take (i + 1) turns)) then_words used_then taken_then
    midway_then =
        let of = row_now x held changes roots roots_then rows fresh turns are.batch are.turns_are i below (ap is_some h.is_key) in
        after_turn (rows_of x held changes after) (has_turn (take i turns)) d used taken are.batch.tabled are.midway (has_turn turns)
        (touches x held changes roots roots_then rows fresh turns are.batch are.turns_are) row its_turn
        (tag_in (row_at rows t.old)) h.tag (has_cell (row_at rows t.old)) (has_cell (row_at rows t.new)) of
        (λ class. code_in rows (next_in (row_at rows t.new) class)) used_then taken_then then_words h.turned h.room later other_tags own_tag
        (λ class e. code_after x held changes roots roots_then rows fresh turns are.batch are.turns_are i below class e
        ∙ code_beside after later (held_after held changes) row class
        (λ is. sym (other_tags (next_row row class) (not_itself (next_row row class) row (child_first row.0 row.1 class)) is)) (of.new_is class e))
        (has_turn (take (i + 1) turns)) over differ (same_or_not row)

    placed_turn : IsPlaced (rows_of x held changes (tags_in roots_then (with_tag rows h.key h.tag))) (row_of_turn (get_or turns i no_turn)) h.tag
    placed_turn =
        let of = row_now x held changes roots roots_then rows fresh turns are.batch are.turns_are i below (ap is_some h.is_key) in
        turn_is_placed (rows_of x held changes after) (has_turn (take i turns)) d used taken are.batch.tabled are.midway (has_turn turns)
        (touches x held changes roots roots_then rows fresh turns are.batch are.turns_are) row its_turn
        (tag_in (row_at rows t.old)) h.tag (has_cell (row_at rows t.old)) (has_cell (row_at rows t.new)) of
        (λ class. code_in rows (next_in (row_at rows t.new) class)) used_then taken_then then_words h.turned h.room later other_tags own_tag
        (λ class e. code_after x held changes roots roots_then rows fresh turns are.batch are.turns_are i below class e
        ∙ code_beside after later (held_after held changes) row class
        (λ is. sym (other_tags (next_row row class) (not_itself (next_row row class) row (child_first row.0 row.1 class)) is)) (of.new_is class e))
        (has_turn (take (i + 1) turns)) over differ (same_or_not row)

    placed_other : (other : Row) → other ≢ row_of_turn (get_or turns i no_turn) → has_turn (take i turns) other ≡ true → IsRow (held_after held changes) other
        → IsPlaced (rows_of x held changes (tags_in roots_then (with_tag rows h.key h.tag))) other (tags_in roots_then (with_tag rows h.key h.tag) other)
    placed_other other apart done is =
        let first : comes_before other row ≡ true = sym (its_turn.order other (turn_later turns i other done) apart) ∙ done in
        subst (IsPlaced (rows_of x held changes later) other) (sym (other_tags other apart is))
        (placed_moves held (held_after held changes) other (tag_read x) after (tag_read x) later
        (record {
          before = λ r was. refl;
          after = λ r earlier has. sym (other_tags r (λ same. true≢false
              (sym (subst (λ (q : Row). comes_before q other ≡ true) same earlier) ∙ before_strict other row first)) has);
        })
        (after other) (are.placed other done is))

    placed_then : ArePlaced x then_words held changes roots roots_then (with_tag rows h.key h.tag) fresh turns (take (i + 1) turns) used_then taken_then
    placed_then = record {
      batch = are.batch;
      turns_are = turns_after x held changes roots roots_then rows fresh turns h.key h.tag
          (fresh_after x held changes roots roots_then rows fresh turns are.batch are.turns_are i below h.key h.is_key) are.turns_are;
      midway = midway_then;
      placed = λ other e is. elim (same_or_not row other) [
        | inl same ↦ subst (λ (r : Row). IsPlaced (rows_of x held changes later) r (later r)) (sym same)
            (subst (IsPlaced (rows_of x held changes later) row) (sym own_tag) placed_turn)
        | inr apart ↦ placed_other other apart (sym (differ other apart) ∙ e) is
      ];
    }

  -- its turn is over
  pub one_over : (turn : Turn) → turn ≡ get_or turns i no_turn → (rows_then : ℕ → Option KeptRow) (used_then taken_then : ℕ → Bool) (then_words : Reading)
      → IsOver turn rows rows_then used taken d used_then taken_then then_words
      → ArePlaced x then_words held changes roots roots_then rows_then fresh turns (take (i + 1) turns) used_then taken_then
  one_over turn same rows_then used_then taken_then then_words is_over = elim is_over [
    | inl none ↦ (let rows_same : rows ≡ rows_then = (λ j key. sym (none.same_rows key) j) in
        let used_same : used ≡ used_then = (λ j cell. sym (none.same_used cell) j) in
        let taken_same : taken ≡ taken_then = (λ j displacement. sym (none.same_taken displacement) j) in
        let words_same : d ≡ then_words = (λ j address. sym (none.same_words address) j) in
        let skip : ArePlaced x d held changes roots roots_then rows fresh turns (take (i + 1) turns) used taken
        = skips (ap (λ (u : Turn). u.new) (sym same) ∙ none.none) in
        subst (λ (w : Reading). ArePlaced x w held changes roots roots_then rows_then fresh turns (take (i + 1) turns) used_then taken_then) words_same
        (subst (λ (k : ℕ → Bool). ArePlaced x d held changes roots roots_then rows_then fresh turns (take (i + 1) turns) used_then k) taken_same
        (subst (λ (u : ℕ → Bool). ArePlaced x d held changes roots roots_then rows_then fresh turns (take (i + 1) turns) u taken) used_same
        (subst (λ (r : ℕ → Option KeptRow). ArePlaced x d held changes roots roots_then r fresh turns (take (i + 1) turns) used taken) rows_same skip))))
    | inr some ↦ (let h : HasTurn (get_or turns i no_turn) rows rows_then used taken d used_then taken_then then_words
        = subst (λ (u : Turn). HasTurn u rows rows_then used taken d used_then taken_then then_words) same some in
        let rows_same : with_tag rows h.key h.tag ≡ rows_then = (λ j key. sym (h.tagged key) j) in
        subst (λ (r : ℕ → Option KeptRow). ArePlaced x then_words held changes roots roots_then r fresh turns (take (i + 1) turns) used_then taken_then) rows_same
        (placed_then rows_then used_then taken_then then_words h))
  ]

-- other words stay in a turn
pub words_beside : (turn : Turn) (rows rows_then : ℕ → Option KeptRow) (used taken : ℕ → Bool) (d : Reading) (used_then taken_then : ℕ → Bool) (then_words : Reading)
    → tag_in (row_at rows turn.old) - 1 < 67106816 → IsOver turn rows rows_then used taken d used_then taken_then then_words
    → (address : ℕ) → owns address ≡ false → then_words address ≡ d address
words_beside turn rows rows_then used taken d used_then taken_then then_words small is_over address out = elim is_over [
  | inl none ↦ none.same_words address
  | inr h ↦ laid_outside h.tag _ _ h.turned.cleared then_words h.room.within h.turned.lays address out
      ∙ laid_outside (tag_in (row_at rows turn.old)) _ _ d h.turned.cleared small h.turned.clears address out
]
