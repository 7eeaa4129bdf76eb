-- The parser of options takes the words that are options, and keeps each option's value.
use Rattle.std.proofs.Common.{◌≡◌, ◌∙◌, ◌&&◌, ◌||◌, ◌⊎◌, inl, inr, ℕ, Bool, true, false, not, refl, ap, ap₂, subst, sym, List, [], ◌∷◌, ◌++◌, Option, Some, None, append_assoc}
use Rattle.std.specs.Prelude.{fold, if◌then◌else◌}
use Rattle.std.specs.List.{list_any}
use Rattle.std.proofs.lemmas.List.{append-nil}
use Rattle.clap.specs.Walk.{Held, Row, Rule, Text, Walk, idle, option as option_waits, has_row, reacted, settled, used, walked}
use Rattle.clap.specs.Kinds.{Kinds, or_else}
use Rattle.clap.specs.Faults.{settle_fault, turn_fault, walk_fault}
use Rattle.clap.specs.declared.error.kind.ErrorKind.TheVariants as kind
use Rattle.dt_words.specs.Options.{Given, begun, is_among, options_from, put, without}
use Rattle.dt_words.proofs.Parser.{FoundAs, by_id, by_long, ready_rule, ready_rules, ready_shape}
use Rattle.dt_words.proofs.Rows.{IsLeft, one_less, option, rows, use_passes, used_last, used_twice}
use Rattle.dt_words.proofs.Shapes.{IsOption, Reads, reads}
use Rattle.dt_words.specs.Parsed.{is_stray}
use Rattle.dt_words.proofs.Turns.{first_passes, idle_at, name_turn, name_walked, nothing_pending, or_assoc, settling_turn, stray_turn, then_passes, unknown_turn, value_pending, value_settled, value_turn, value_walked, waited_turn, waited_walked, waits_at}

-- the faults of the words, and of what is pending after them
abbrev pub all_kinds : Text → List Text → Walk → List Text → Kinds
all_kinds command names w words =
    or_else (walk_fault (ready_shape command names) [] w words) (settle_fault (ready_rules names) false (fold (walked (ready_rules names) []) w words).held)

-- the rows after the words
abbrev pub last_rows : List Text → Walk → List Text → List Row
last_rows names w words = (settled (ready_rules names) (fold (walked (ready_rules names) []) w words).held).rows

-- the words are options, and no fault comes and the rows are those of the options; or they aren't, and a fault comes
abbrev pub Agrees : Option (List Given) → Kinds → List Row → List Given → Type 0
Agrees None kinds last given = kinds ≡ [] → ⊥
Agrees (Some more) kinds last given = (kinds ≡ []) × (last ≡ rows (given ++ more))

-- once what is pending is settled, these options are held
pub record Settles (names : List Text) (h : Held) (given : List Given) : Type 0 where
  pub fault : settle_fault (ready_rules names) false h ≡ []
  pub held : (settled (ready_rules names) h).rows ≡ rows given

abbrev pub waiting_for : Text → List Row → ℕ → Held
waiting_for name held skip = record { rows = held; pending = Some (name, []); skip = skip }

put_agrees : (name value : Text) (o : Option (List Given)) (kinds : Kinds) (last : List Row) (given : List Given)
    → Agrees o kinds last (given ++ option name value ∷ []) → Agrees (put name value o) kinds last given
put_agrees name value None kinds last given h = h
put_agrees name value (Some more) kinds last given h = (h.0, h.1 ∙ ap rows (append_assoc given (option name value ∷ []) more))

pub agrees_as : (o : Option (List Given)) (k k' : Kinds) (l l' : List Row) (given : List Given) → k' ≡ k → l' ≡ l → Agrees o k l given → Agrees o k' l' given
agrees_as o k k' l l' given ek el h = subst (λ (x : Kinds). Agrees o x l' given) (sym ek) (subst (λ (x : List Row). Agrees o k x given) (sym el) h)

found : (b : Bool) (name : Text) (o : Option Rule) → b ≡ true → FoundAs b name o → o ≡ Some (ready_rule name)
found true name o e h = h
found false name o e h = absurd (cc)

not_found : (b : Bool) (name : Text) (o : Option Rule) → b ≡ false → FoundAs b name o → o ≡ None
not_found true name o e h = absurd (cc)
not_found false name o e h = h

both : (a b : Bool) → (a && not b) ≡ true → (a ≡ true) × (b ≡ false)
both true true h = absurd (cc)
both true false h = (refl, refl)
both false b h = absurd (cc)

either : (a b : Bool) → (a && not b) ≡ false → (a ≡ false) ⊎ ((a ≡ true) × (b ≡ true))
either true true h = inr (refl, refl)
either true false h = absurd (cc)
either false b h = inl refl

neither : (a b : Bool) → (a || b) ≡ false → (a ≡ false) × (b ≡ false)
neither true b h = absurd (cc)
neither false b h = (refl, h)

no_fault : (k : kind.the_data) → k ∷ [] ≡ [] → ⊥
no_fault k h = cc

module _ (command : Text) (names : List Text) where
  next_word : (w : Walk) (word : Text) (words : List Text)
      → all_kinds command names w (word ∷ words) ≡ or_else (turn_fault (ready_shape command names) [] w word) (all_kinds command names (walked (ready_rules names) [] w word) words)
  unfolding walk_fault
  next_word w word words =
      or_assoc (turn_fault (ready_shape command names) [] w word) (walk_fault (ready_shape command names) [] (walked (ready_rules names) [] w word) words)
      (settle_fault (ready_rules names) false (fold (walked (ready_rules names) []) w (word ∷ words)).held)

  no_word : (w : Walk) → all_kinds command names w [] ≡ settle_fault (ready_rules names) false w.held
  unfolding walk_fault
  no_word w = refl

  -- the turn passes where all does
  turn_passes : (w : Walk) (word : Text) (words : List Text) → all_kinds command names w (word ∷ words) ≡ [] → turn_fault (ready_shape command names) [] w word ≡ []
  turn_passes w word words h = first_passes _ _ (sym (next_word w word words) ∙ h)

  -- and where it passes, all goes on
  goes_on : (w after : Walk) (word : Text) (words : List Text) → turn_fault (ready_shape command names) [] w word ≡ [] → walked (ready_rules names) [] w word ≡ after
      → all_kinds command names w (word ∷ words) ≡ all_kinds command names after words
  goes_on w after word words passes e = next_word w word words ∙ ap₂ (λ (k : Kinds) (x : Walk). or_else k (all_kinds command names x words)) passes e

  abbrev pub Idle : List Text → Type 0
  Idle words = (left : List Text) (given : List Given) (h : Held) → Settles names h given → IsLeft names left given
      → Agrees (options_from words left None) (all_kinds command names (idle_at h) words) (last_rows names (idle_at h) words) given

  abbrev pub Waits : List Text → Type 0
  Waits words = (left : List Text) (given : List Given) (name : Text) (skip : ℕ) → is_among names name ≡ true → has_row name (rows given) ≡ false
      → ((value : Text) → IsLeft names left (given ++ option name value ∷ []))
      → Agrees (options_from words left (Some name)) (all_kinds command names (waits_at name (waiting_for name (rows given) skip)) words)
      (last_rows names (waits_at name (waiting_for name (rows given) skip)) words) given

  -- ---- an option that is given already

  settled_in_time : (words : List Text) (h : Held) → list_any is_stray words ≡ false → all_kinds command names (idle_at h) words ≡ [] → settle_fault (ready_rules names) false h ≡ []
  settled_in_time [] h kept passes = sym (no_word (idle_at h)) ∙ passes
  settled_in_time (word ∷ words) h kept passes = go (reads word (neither _ _ kept).0)
    where
      go : Reads word → settle_fault (ready_rules names) false h ≡ []
      go (inl r) = settling_turn command names idle word r.0.0 r.0.1 h r.1 (turn_passes (idle_at h) word words passes)
      go (inr is) = absurd (no_fault _ (sym (stray_turn command names word h is) ∙ turn_passes (idle_at h) word words passes))

  taken : (words : List Text) (name : Text) (given : List Row) (skip : ℕ) → list_any is_stray words ≡ false → is_among names name ≡ true → has_row name given ≡ true
      → all_kinds command names (waits_at name (waiting_for name given skip)) words ≡ [] → ⊥
  taken [] name given skip kept known old passes =
      no_fault _ (sym (nothing_pending command names name given skip (found _ _ _ known (by_id names name))) ∙ sym (no_word (waits_at name (waiting_for name given skip))) ∙ passes)
  taken (word ∷ words) name given skip kept known old passes = go (reads word (neither _ _ kept).0)
    where
      before : Walk
      before = waits_at name (waiting_for name given skip)

      after : Held
      after = record { rows = given; pending = Some (name, word ∷ []); skip = skip }

      go : Reads word → ⊥
      go (inl r) =
          let settles = settling_turn command names (option_waits name) word r.0.0 r.0.1 before.held r.1 (turn_passes before word words passes) in
          no_fault _ (sym (nothing_pending command names name given skip (found _ _ _ known (by_id names name))) ∙ settles)
      go (inr is) =
          let id = found _ name _ known (by_id names name) in
          let later = sym (goes_on before (idle_at after) word words (waited_turn command names word name before.held is) (waited_walked command names word name given skip is id)) ∙ passes in
          let settles = settled_in_time words after (neither _ _ kept).1 later in
          no_fault _ (sym (value_pending command names name word given skip id ∙ used_twice name word given old) ∙ settles)

  -- ---- where nothing waits

  idle_value : (word : Text) (words : List Text) (name value : Text) → IsOption word (name, Some value) → Idle words
      → (left : List Text) (given : List Given) (h : Held) → Settles names h given → IsLeft names left given
      → Agrees (begun left (Some (name, Some value)) (options_from words)) (all_kinds command names (idle_at h) (word ∷ words)) (last_rows names (idle_at h) (word ∷ words)) given
  idle_value word words name value is next left given h settles is_left = go (is_among left name) refl
    where
      go : (b : Bool) → is_among left name ≡ b
          → Agrees (if b then put name value (options_from words (without name left) None) else None) (all_kinds command names (idle_at h) (word ∷ words)) (last_rows names (idle_at h) (word ∷ words)) given
      go true e =
          let parts = both (is_among names name) (has_row name (rows given)) (sym (is_left name) ∙ e) in
          let known = found (is_among names name) name _ parts.0 (by_long names name) in
          let new : has_row name (settled (ready_rules names) h).rows ≡ false = ap (has_row name) settles.held ∙ parts.1 in
          let turn = value_turn command names idle word name value h is known ∙ ap₂ or_else settles.fault (use_passes name value (settled (ready_rules names) h).rows new) in
          let walk = value_walked command names word name value h is known in
          let now : Settles names (reacted (ready_rules names) (ready_rule name) (value ∷ []) h) (given ++ option name value ∷ []) =
          record { fault = refl; held = ap (used (ready_rule name) (value ∷ [])) settles.held ∙ used_last name value given parts.1 } in
          agrees_as (put name value (options_from words (without name left) None)) _ _ _ _ given
          (goes_on (idle_at h) _ word words turn walk)
          (ap (λ (w : Walk). last_rows names w words) walk)
          (put_agrees name value (options_from words (without name left) None) _ _ given
          (next (without name left) (given ++ option name value ∷ []) _ now (one_less names left given name value is_left)))
      go false e = λ passes. refused (either (is_among names name) (has_row name (rows given)) (sym (is_left name) ∙ e)) (turn_passes (idle_at h) word words passes)
        where
          refused : (is_among names name ≡ false) ⊎ ((is_among names name ≡ true) × (has_row name (rows given) ≡ true)) → turn_fault (ready_shape command names) [] (idle_at h) word ≡ [] → ⊥
          refused (inl unknown) passes =
              no_fault _ (sym (unknown_turn command names idle word name (Some value) h is (not_found _ name _ unknown (by_long names name))) ∙ passes)
          refused (inr old) passes =
              let known = found (is_among names name) name _ old.0 (by_long names name) in
              let again : has_row name (settled (ready_rules names) h).rows ≡ true = ap (has_row name) settles.held ∙ old.1 in
              no_fault _ (sym (used_twice name value _ again) ∙ then_passes _ _ (sym (value_turn command names idle word name value h is known) ∙ passes))

  idle_name : (word : Text) (words : List Text) (name : Text) → IsOption word (name, None) → list_any is_stray words ≡ false → Waits words
      → (left : List Text) (given : List Given) (h : Held) → Settles names h given → IsLeft names left given
      → Agrees (begun left (Some (name, None)) (options_from words)) (all_kinds command names (idle_at h) (word ∷ words)) (last_rows names (idle_at h) (word ∷ words)) given
  idle_name word words name is kept next left given h settles is_left = go (is_among left name) refl
    where
      go : (b : Bool) → is_among left name ≡ b
          → Agrees (if b then options_from words (without name left) (Some name) else None) (all_kinds command names (idle_at h) (word ∷ words)) (last_rows names (idle_at h) (word ∷ words)) given
      go true e =
          let parts = both (is_among names name) (has_row name (rows given)) (sym (is_left name) ∙ e) in
          let known = found (is_among names name) name _ parts.0 (by_long names name) in
          let turn = name_turn command names idle word name h is known ∙ settles.fault in
          let walk = name_walked command names word name h is known ∙ ap (λ (held : List Row). waits_at name (waiting_for name held h.skip)) settles.held in
          agrees_as (options_from words (without name left) (Some name)) _ _ _ _ given
          (goes_on (idle_at h) _ word words turn walk)
          (ap (λ (w : Walk). last_rows names w words) walk)
          (next (without name left) given name h.skip parts.0 parts.1 (λ value. one_less names left given name value is_left))
      go false e = λ passes. refused (either (is_among names name) (has_row name (rows given)) (sym (is_left name) ∙ e)) passes
        where
          refused : (is_among names name ≡ false) ⊎ ((is_among names name ≡ true) × (has_row name (rows given) ≡ true)) → all_kinds command names (idle_at h) (word ∷ words) ≡ [] → ⊥
          refused (inl unknown) passes =
              no_fault _ (sym (unknown_turn command names idle word name None h is (not_found _ name _ unknown (by_long names name))) ∙ turn_passes (idle_at h) word words passes)
          refused (inr old) passes =
              let known = found (is_among names name) name _ old.0 (by_long names name) in
              let turn = name_turn command names idle word name h is known ∙ settles.fault in
              let walk = name_walked command names word name h is known ∙ ap (λ (held : List Row). waits_at name (waiting_for name held h.skip)) settles.held in
              taken words name (rows given) h.skip kept old.0 old.1 (sym (goes_on (idle_at h) _ word words turn walk) ∙ passes)

  idle_word : (word : Text) (words : List Text) → list_any is_stray (word ∷ words) ≡ false → Idle words → Waits words → Idle (word ∷ words)
  idle_word word words kept idle_next waits_next left given h settles is_left = go (reads word (neither _ _ kept).0)
    where
      go : Reads word → Agrees (options_from (word ∷ words) left None) (all_kinds command names (idle_at h) (word ∷ words)) (last_rows names (idle_at h) (word ∷ words)) given
      go (inl r) = rw r.1.option (by_parts r.0 r.1)
        where
          by_parts : (parts : Text × Option Text) → IsOption word parts
              → Agrees (begun left (Some parts) (options_from words)) (all_kinds command names (idle_at h) (word ∷ words)) (last_rows names (idle_at h) (word ∷ words)) given
          by_parts (name, Some value) is = idle_value word words name value is idle_next left given h settles is_left
          by_parts (name, None) is = idle_name word words name is (neither _ _ kept).1 waits_next left given h settles is_left
      go (inr is) = rw is.option (λ passes. no_fault _ (sym (stray_turn command names word h is) ∙ turn_passes (idle_at h) word words passes))

  -- ---- where an option waits for its value

  waits_word : (word : Text) (words : List Text) → list_any is_stray (word ∷ words) ≡ false → Idle words → Waits (word ∷ words)
  waits_word word words kept next left given name skip known new is_left = go (reads word (neither _ _ kept).0)
    where
      before : Walk
      before = waits_at name (waiting_for name (rows given) skip)

      after : Held
      after = record { rows = rows given; pending = Some (name, word ∷ []); skip = skip }

      go : Reads word → Agrees (options_from (word ∷ words) left (Some name)) (all_kinds command names before (word ∷ words)) (last_rows names before (word ∷ words)) given
      go (inl r) = rw r.1.hyphen (λ passes.
          let settles = settling_turn command names (option_waits name) word r.0.0 r.0.1 before.held r.1 (turn_passes before word words passes) in
          no_fault _ (sym (nothing_pending command names name (rows given) skip (found _ _ _ known (by_id names name))) ∙ settles))
      go (inr is) =
          let id = found _ name _ known (by_id names name) in
          let walk = waited_walked command names word name (rows given) skip is id in
          let now : Settles names after (given ++ option name word ∷ []) = record {
            fault = value_pending command names name word (rows given) skip id ∙ use_passes name word (rows given) new;
            held = value_settled command names name word (rows given) skip id ∙ used_last name word given new;
          } in
          rw is.hyphen (agrees_as (put name word (options_from words left None)) _ _ _ _ given
          (goes_on before (idle_at after) word words (waited_turn command names word name before.held is) walk)
          (ap (λ (w : Walk). last_rows names w words) walk)
          (put_agrees name word (options_from words left None) _ _ given (next left (given ++ option name word ∷ []) after now (is_left word))))

  -- ---- all words

  pub agree : (words : List Text) → list_any is_stray words ≡ false → Idle words × Waits words
  agree [] kept = (
    (λ left given h settles is_left. (no_word (idle_at h) ∙ settles.fault, settles.held ∙ ap rows (sym (append-nil given)))),
    (λ left given name skip known new is_left passes. no_fault _ (sym (nothing_pending command names name (rows given) skip (found _ _ _ known (by_id names name))) ∙ sym (no_word (waits_at name (waiting_for name (rows given) skip))) ∙ passes)),
  )
  agree (word ∷ words) kept =
      let next = agree words (neither _ _ kept).1 in
      (idle_word word words kept next.0 next.1, waits_word word words kept next.0)
