-- Which options the words of a command line write.
use Rattle.std.specs.Prelude.{ℕ, Bool, ◌==◌, ◌&&◌, false, not, if◌then◌else◌, List, [], ◌∷◌, Option, Some, None, option_map, filter, find}
use Rattle.std.specs.List.{list_any, before_first, after_first}
use Rattle.std.specs.Str.{bytes_eq}

-- an option and its value
pub record Given : Type 0 where
  pub name : List ℕ
  pub value : List ℕ

-- what follows `--` (two bytes 45), where anything does
abbrev pub after_hyphens : List ℕ → Option (List ℕ)
after_hyphens (first ∷ second ∷ third ∷ rest) = if first == 45 && second == 45 then Some (third ∷ rest) else None
after_hyphens _ = None

-- the name before the first `=` (61), and the value after it where there is one
abbrev pub name_and_value : List ℕ → List ℕ × Option (List ℕ)
name_and_value text = (
  before_first (λ byte. byte == 61) text,
  if list_any (λ byte. byte == 61) text then Some (after_first (λ byte. byte == 61) text) else None,
)

-- a word `--name` or `--name=value`, by its name and its value; none where the word is neither
abbrev pub option_word : List ℕ → Option (List ℕ × Option (List ℕ))
option_word word = option_map name_and_value (after_hyphens word)

-- whether the word begins with a hyphen (45), and so is no value
abbrev pub has_hyphen : List ℕ → Bool
has_hyphen [] = false
has_hyphen (first ∷ rest) = first == 45

-- whether the text is one of these names
abbrev pub is_among : List (List ℕ) → List ℕ → Bool
is_among names text = list_any (λ name. bytes_eq name text) names

-- the names without this one
abbrev pub without : List ℕ → List (List ℕ) → List (List ℕ)
without text names = filter (λ name. not (bytes_eq text name)) names

-- this option and then the others, if the others are options
abbrev pub put : List ℕ → List ℕ → Option (List Given) → Option (List Given)
put name value others = option_map (λ given. record { name = name; value = value } ∷ given) others

-- an option that a word begins, if its name is left: with its value, or it waits for one
abbrev pub begun : List (List ℕ) → Option (List ℕ × Option (List ℕ)) → (List (List ℕ) → Option (List ℕ) → Option (List Given)) → Option (List Given)
begun left None others = None
begun left (Some (name, Some value)) others = if is_among left name then put name value (others (without name left) None) else None
begun left (Some (name, None)) others = if is_among left name then others (without name left) (Some name) else None

-- The options that the words write in their order, each with a name that is left, and none twice; none where they write
-- no options. A name may wait for its value, which is then the next word.
abbrev pub options_from : List (List ℕ) → List (List ℕ) → Option (List ℕ) → Option (List Given)
options_from [] left None = Some []
options_from [] left (Some name) = None
options_from (word ∷ words) left None = begun left (option_word word) (options_from words)
options_from (word ∷ words) left (Some name) = if has_hyphen word then None else put name word (options_from words left None)

-- the options that the words write, each with one of these names, and none twice
abbrev pub options_of : List (List ℕ) → List (List ℕ) → Option (List Given)
options_of names words = options_from words names None

-- the value of the option of this name, if it is given
abbrev pub value_of : List ℕ → List Given → Option (List ℕ)
value_of name given = option_map (λ g. g.value) (find (λ g. bytes_eq g.name name) given)
