-- What the parser of options makes of one word.
use Rattle.std.proofs.Common.{◌≡◌, ◌∙◌, ℕ, Bool, true, false, refl, sym, List, [], ◌∷◌, Option, Some, None}
use Rattle.clap.specs.Walk.{Held, Row, Text, Waiting, Walk, idle, option, arg_by_id, arg_by_long, reacted, settled, subcommand_met, used, walk_from, walked}
use Rattle.clap.specs.Kinds.{Kinds, or_else}
use Rattle.clap.specs.Faults.{settle_fault, turn_fault, use_fault}
use Rattle.clap.specs.declared.error.kind.ErrorKind.TheVariants as kind
use Rattle.dt_words.specs.Options.{is_among}
use Rattle.dt_words.proofs.Parser.{FoundAs, by_index, by_long, itself, ready_rule, ready_rules, ready_shape}
use Rattle.dt_words.proofs.Shapes.{IsOption, IsValue}

-- the walk between two words: nothing waits, or the option of this name waits for its value
abbrev pub idle_at : Held → Walk
idle_at h = walk_from h

abbrev pub waits_at : Text → Held → Walk
waits_at name h = record (walk_from h) { waiting = option name }

abbrev at : Waiting → Held → Walk
at waiting h = record (walk_from h) { waiting = waiting }

none_met : (waiting : Waiting) (word : Text) → subcommand_met [] waiting word ≡ None
none_met idle word = refl
none_met _ word = refl

pub or_none : (kinds : Kinds) → or_else kinds [] ≡ kinds
or_none [] = refl
or_none (k ∷ ks) = refl

pub or_assoc : (a b c : Kinds) → or_else (or_else a b) c ≡ or_else a (or_else b c)
or_assoc [] b c = refl
or_assoc (k ∷ ks) b c = refl

pub first_passes : (a b : Kinds) → or_else a b ≡ [] → a ≡ []
first_passes [] b h = refl
first_passes (k ∷ ks) b h = h

pub then_passes : (a b : Kinds) → or_else a b ≡ [] → b ≡ []
then_passes [] b h = h
then_passes (k ∷ ks) b h = absurd (cc)

module _ (command : Text) (names : List Text) where
  -- an unknown option is a fault
  pub unknown_turn : (waiting : Waiting) (word name : Text) (value : Option Text) (h : Held) → IsOption word (name, value) → arg_by_long (ready_rules names) name ≡ None
      → turn_fault (ready_shape command names) [] (at waiting h) word ≡ kind.UnknownArgument ∷ []
  unknown_turn waiting word name value h is found = rw (none_met waiting word, is.goes_on, is.long, found) refl

  -- `--name=value`
  pub value_turn : (waiting : Waiting) (word name value : Text) (h : Held) → IsOption word (name, Some value) → arg_by_long (ready_rules names) name ≡ Some (ready_rule name)
      → turn_fault (ready_shape command names) [] (at waiting h) word ≡ or_else (settle_fault (ready_rules names) false h) (use_fault false (ready_rule name) (value ∷ []) (settled (ready_rules names) h).rows)
  value_turn waiting word name value h is found = rw (none_met waiting word, is.goes_on, is.long, found) (or_none _)

  pub value_walked : (word name value : Text) (h : Held) → IsOption word (name, Some value) → arg_by_long (ready_rules names) name ≡ Some (ready_rule name)
      → walked (ready_rules names) [] (idle_at h) word ≡ idle_at (reacted (ready_rules names) (ready_rule name) (value ∷ []) h)
  unfolding walked
  value_walked word name value h is found = rw (is.goes_on, is.long, found) refl

  -- `--name`
  pub name_turn : (waiting : Waiting) (word name : Text) (h : Held) → IsOption word (name, None) → arg_by_long (ready_rules names) name ≡ Some (ready_rule name)
      → turn_fault (ready_shape command names) [] (at waiting h) word ≡ settle_fault (ready_rules names) false h
  name_turn waiting word name h is found = rw (none_met waiting word, is.goes_on, is.long, found) (or_none _)

  pub name_walked : (word name : Text) (h : Held) → IsOption word (name, None) → arg_by_long (ready_rules names) name ≡ Some (ready_rule name)
      → walked (ready_rules names) [] (idle_at h) word ≡ waits_at name (record (settled (ready_rules names) h) { pending = Some (name, []) })
  unfolding walked
  name_walked word name h is found = rw (is.goes_on, is.long, found) refl

  -- an option's word settles what was pending
  pub settling_turn : (waiting : Waiting) (word name : Text) (value : Option Text) (h : Held) → IsOption word (name, value)
      → turn_fault (ready_shape command names) [] (at waiting h) word ≡ [] → settle_fault (ready_rules names) false h ≡ []
  settling_turn waiting word name value h is passes = go (is_among names name) (by_long names name) value is passes
    where
      go : (b : Bool) → FoundAs b name (arg_by_long (ready_rules names) name) → (value : Option Text) → IsOption word (name, value)
          → turn_fault (ready_shape command names) [] (at waiting h) word ≡ [] → settle_fault (ready_rules names) false h ≡ []
      go false found value is passes = let bad : kind.UnknownArgument ∷ [] ≡ [] = sym (unknown_turn waiting word name value h is found) ∙ passes in absurd (cc)
      go true found (Some value) is passes = first_passes _ _ (sym (value_turn waiting word name value h is found) ∙ passes)
      go true found None is passes = sym (name_turn waiting word name h is found) ∙ passes

  -- a word that is no option, where nothing waits
  pub stray_turn : (word : Text) (h : Held) → IsValue word → turn_fault (ready_shape command names) [] (idle_at h) word ≡ kind.UnknownArgument ∷ []
  stray_turn word h is = rw (is.other, is.long, is.short, by_index names 1) refl

  -- and where an option waits for it
  pub waited_turn : (word name : Text) (h : Held) → IsValue word → turn_fault (ready_shape command names) [] (waits_at name h) word ≡ []
  waited_turn word name h is = rw (is.other, is.long, is.short) refl

  pub waited_walked : (word name : Text) (rows : List Row) (skip : ℕ) → IsValue word → arg_by_id (ready_rules names) name ≡ Some (ready_rule name)
      → walked (ready_rules names) [] (waits_at name (record { rows = rows; pending = Some (name, []); skip = skip })) word
      ≡ idle_at (record { rows = rows; pending = Some (name, word ∷ []); skip = skip })
  unfolding walked
  waited_walked word name rows skip is found = rw (is.other, is.long, is.short, found, itself name) refl

  -- ---- what is pending

  -- the option that waits has no value yet
  pub nothing_pending : (name : Text) (rows : List Row) (skip : ℕ) → arg_by_id (ready_rules names) name ≡ Some (ready_rule name)
      → settle_fault (ready_rules names) false (record { rows = rows; pending = Some (name, []); skip = skip }) ≡ kind.InvalidValue ∷ []
  nothing_pending name rows skip found = rw found refl

  -- or it has one
  pub value_pending : (name value : Text) (rows : List Row) (skip : ℕ) → arg_by_id (ready_rules names) name ≡ Some (ready_rule name)
      → settle_fault (ready_rules names) false (record { rows = rows; pending = Some (name, value ∷ []); skip = skip }) ≡ use_fault false (ready_rule name) (value ∷ []) rows
  value_pending name value rows skip found = rw found refl

  pub value_settled : (name value : Text) (rows : List Row) (skip : ℕ) → arg_by_id (ready_rules names) name ≡ Some (ready_rule name)
      → (settled (ready_rules names) (record { rows = rows; pending = Some (name, value ∷ []); skip = skip })).rows ≡ used (ready_rule name) (value ∷ []) rows
  value_settled name value rows skip found = rw found refl
