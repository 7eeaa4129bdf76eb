-- The parser of options, from the words to its answer.
use Rattle.std.proofs.Common.{◌≡◌, ◌∙◌, inl, inr, ℕ, Bool, true, false, refl, ap, ap₂, subst, sym, List, [], ◌∷◌, drop, Option, Some, None, Ok, Err}
use Rattle.std.specs.Prelude.{if◌then◌else◌}
use Rattle.std.specs.List.{list_any}
use Rattle.clap.specs.Walk.{first_of, nothing_held, settled, rows_after, rows_of, walk, walk_from}
use Rattle.clap.specs.Simple.{App, HasMatchesOf, matches_of, names_of}
use Rattle.clap.specs.Matches.{found_of}
use Rattle.clap.specs.Kinds.{FailsBy, HasKind, IsAmong, Kinds, or_else}
use Rattle.clap.specs.Faults.{built_fault, fault_of, is_simple_and_free, settle_fault, walk_fault}
use Rattle.clap.specs.declared.parser.matches.ArgMatches.{ArgMatches}
use Rattle.clap.specs.Values.{kind_of}
use Rattle.clap.specs.declared.error.Error.{Error}
use Rattle.clap.specs.declared.error.kind.ErrorKind.TheVariants.{OutOfMemory}
use Rattle.clap.proofs.FaultLemmas.{leaf_fault}
use Rattle.clap.proofs.WalkLemmas.{both, first_value-rows}
use Rattle.dt_words.specs.Options.{Given, after_hyphens, begun, has_hyphen, is_among, option_word, options_from, options_of, put, without}
use Rattle.dt_words.specs.Parsed.{ParsedBy, is_stray, options_app}
use Rattle.dt_words.specs.declared.words_fault.WordsFault.{WordsFault}
use Rattle.dt_words.specs.declared.words_fault.WordsFault.TheVariants.{Usage}
use Rattle.dt_words.proofs.Parser.{built_app, defaults_add_none, no_check, no_default, ready_rules, ready_shape}
use Rattle.dt_words.proofs.Rows.{all_left, first_given}
use Rattle.dt_words.proofs.Turns.{idle_at, or_none}
use Rattle.dt_words.proofs.Walked.{Agrees, agree, agrees_as, all_kinds, last_rows}

faults : (command : List ℕ) (names words : List (List ℕ)) → fault_of (options_app command names) words ≡ all_kinds command names (idle_at nothing_held) (drop 1 words)
faults command names words =
    let s = ready_shape command names in
    let rest = drop 1 words in
    let end = (walk (ready_rules names) [] nothing_held rest).held in
    ap (λ (a : App). built_fault a nothing_held rest) (built_app command names)
    ∙ leaf_fault (record { top = s; subs = [] }) nothing_held rest refl
    ∙ ap₂ (λ (d c : Kinds). or_else (walk_fault s [] (walk_from nothing_held) rest) (or_else (settle_fault (ready_rules names) false end) (or_else d c)))
    (no_default names (settled (ready_rules names) end).rows) (no_check command names _)
    ∙ ap (λ (k : Kinds). or_else (walk_fault s [] (walk_from nothing_held) rest) k) (or_none (settle_fault (ready_rules names) false end))

matches : (command : List ℕ) (names words : List (List ℕ)) → matches_of (options_app command names) words ≡ last_rows names (idle_at nothing_held) (drop 1 words)
matches command names words =
    ap (λ (a : App). rows_after a.top.rules (names_of a) (drop 1 words)) (built_app command names)
    ∙ defaults_add_none names (last_rows names (idle_at nothing_held) (drop 1 words))

-- where no word is stray, the parser's faults and matches are those of the options that the words write
taken : (command : List ℕ) (names words : List (List ℕ)) → list_any is_stray (drop 1 words) ≡ false
    → Agrees (options_of names (drop 1 words)) (fault_of (options_app command names) words) (matches_of (options_app command names) words) []
taken command names words kept =
    agrees_as (options_of names (drop 1 words)) _ _ _ _ [] (faults command names words) (matches command names words)
    ((agree command names (drop 1 words) kept).0 names [] nothing_held (record { fault = refl; held = refl }) (all_left names))

-- ---- its two answers

given_of : (command : List ℕ) (names words : List (List ℕ)) (m : ArgMatches) → list_any is_stray (drop 1 words) ≡ false
    → fault_of (options_app command names) words ≡ [] → rows_of (found_of m) ≡ matches_of (options_app command names) words
    → ParsedBy names (drop 1 words) (Ok m)
given_of command names words m kept passes held = go (options_of names (drop 1 words)) refl (taken command names words kept)
  where
    go : (o : Option (List Given)) → options_of names (drop 1 words) ≡ o → Agrees o (fault_of (options_app command names) words) (matches_of (options_app command names) words) []
        → ParsedBy names (drop 1 words) (Ok m)
    go None e agrees = absurd (agrees passes)
    go (Some given) e agrees =
        (given, e, λ name. first_value-rows (found_of m) name ∙ ap (first_of name) (held ∙ agrees.1) ∙ first_given name given)

none_given : (command : List ℕ) (names words : List (List ℕ)) → list_any is_stray (drop 1 words) ≡ false
    → (fault_of (options_app command names) words ≡ [] → ⊥) → options_of names (drop 1 words) ≡ None
none_given command names words kept fails = go (options_of names (drop 1 words)) refl (taken command names words kept)
  where
    go : (o : Option (List Given)) → options_of names (drop 1 words) ≡ o → Agrees o (fault_of (options_app command names) words) (matches_of (options_app command names) words) []
        → options_of names (drop 1 words) ≡ None
    go None e agrees = e
    go (Some given) e agrees = absurd (fails agrees.0)

-- an error of another kind than want of memory is a fault of the words
is_fault : (kinds : Kinds) (e : Error) → HasKind kinds e → (kind_of e ≡ OutOfMemory → ⊥) → kinds ≡ [] → ⊥
is_fault kinds e (inl memory) other none = other memory
is_fault kinds e (inr among) other none = subst (IsAmong (kind_of e)) none among

pub parsed : (a : App) (texts words : List (List ℕ)) (m : ArgMatches) → texts ≡ words → list_any is_stray (drop 1 words) ≡ false
    → (is_simple_and_free a ≡ true → FailsBy (fault_of a texts) (Ok m)) → HasMatchesOf a texts m
    → (command : List ℕ) (names : List (List ℕ)) → a ≡ options_app command names → is_simple_and_free (options_app command names) ≡ true → ParsedBy names (drop 1 words) (Ok m)
parsed a texts words m same kept kinds held command names is simple =
    let here : is_simple_and_free a ≡ true = subst (λ (x : App). is_simple_and_free x ≡ true) (sym is) simple in
    given_of command names words m kept
    (ap₂ fault_of (sym is) (sym same) ∙ kinds here)
    ((held (both _ _ here).0).0 ∙ ap₂ matches_of is same)

pub not_parsed : (a : App) (texts words : List (List ℕ)) (e : Error) (fault : WordsFault) → texts ≡ words → list_any is_stray (drop 1 words) ≡ false
    → (is_simple_and_free a ≡ true → HasKind (fault_of a texts) e) → (fault ≡ Usage → kind_of e ≡ OutOfMemory → ⊥)
    → (command : List ℕ) (names : List (List ℕ)) → a ≡ options_app command names → is_simple_and_free (options_app command names) ≡ true → ParsedBy names (drop 1 words) (Err fault)
not_parsed a texts words e fault same kept kinds other command names is simple = λ usage.
    let here : is_simple_and_free a ≡ true = subst (λ (x : App). is_simple_and_free x ≡ true) (sym is) simple in
    none_given command names words kept (λ passes. is_fault (fault_of a texts) e (kinds here) (other usage) (ap₂ fault_of is same ∙ passes))

-- ---- a stray word

begun_none : (left : List (List ℕ)) (o : Option (List ℕ × Option (List ℕ))) (others : List (List ℕ) → Option (List ℕ) → Option (List Given))
    → ((left : List (List ℕ)) (waiting : Option (List ℕ)) → others left waiting ≡ None) → begun left o others ≡ None
begun_none left None others none = refl
begun_none left (Some (name, Some value)) others none = go (is_among left name)
  where
    go : (b : Bool) → (if b then put name value (others (without name left) None) else None) ≡ None
    go true = ap (put name value) (none (without name left) None)
    go false = refl
begun_none left (Some (name, None)) others none = go (is_among left name)
  where
    go : (b : Bool) → (if b then others (without name left) (Some name) else None) ≡ None
    go true = none (without name left) (Some name)
    go false = refl

stray : (word : List ℕ) → is_stray word ≡ true → (has_hyphen word ≡ true) × (option_word word ≡ None)
stray word h = go (has_hyphen word) (after_hyphens word) refl refl
  where
    go : (x : Bool) (o : Option (List ℕ)) → has_hyphen word ≡ x → after_hyphens word ≡ o → (has_hyphen word ≡ true) × (option_word word ≡ None)
    go true None ex eo = (ex, rw eo refl)
    go true (Some after) ex eo = let bad : false ≡ true = rw (ex, eo) at h in absurd (cc)
    go false o ex eo = let bad : false ≡ true = rw ex at h in absurd (cc)

none_from : (words : List (List ℕ)) → list_any is_stray words ≡ true → (left : List (List ℕ)) (waiting : Option (List ℕ)) → options_from words left waiting ≡ None
none_from [] h left waiting = absurd (cc)
none_from (word ∷ words) h left waiting = go (is_stray word) refl (none_from words) waiting
  where
    go : (b : Bool) → is_stray word ≡ b → (list_any is_stray words ≡ true → (left : List (List ℕ)) (waiting : Option (List ℕ)) → options_from words left waiting ≡ None)
        → (waiting : Option (List ℕ)) → options_from (word ∷ words) left waiting ≡ None
    go true e others None = rw (stray word e).1 refl
    go true e others (Some name) = rw (stray word e).0 refl
    go false e others None =
        let later : list_any is_stray words ≡ true = rw e at h in
        begun_none left (option_word word) (options_from words) (others later)
    go false e others (Some name) = value (has_hyphen word)
      where
        later : list_any is_stray words ≡ true
        later = rw e at h

        value : (x : Bool) → (if x then None else put name word (options_from words left None)) ≡ None
        value true = refl
        value false = ap (put name word) (others later left None)

pub stray_none : (names words : List (List ℕ)) → list_any is_stray words ≡ true → options_of names words ≡ None
stray_none names words h = none_from words h names None
