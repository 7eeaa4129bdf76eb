-- Names are numbered in the order of their first appearance: a name's number is its place in the list.
use Rattle.std.specs.Prelude.{ℕ, ◌+◌, Bool, ◌&&◌, if◌then◌else◌, nat_le, List, [], ◌∷◌, length, Option, None, Some, is_none}
use Rattle.std.specs.List.{list_all}
use Rattle.std.specs.Option.{option_map}
use Rattle.dt_graph.specs.SameLists.{same_list}

-- the names in the order of their numbers, and how many there may be
pub record Names : Type 0 where
  pub limit : ℕ
  pub texts : List (List ℕ)

-- whether the two texts are the same
abbrev pub same_text : List ℕ → List ℕ → Bool
same_text first second = same_list first second

-- a byte that may stand in a name: one that prints, and no space
abbrev pub is_name_byte : ℕ → Bool
is_name_byte byte = nat_le 33 byte && nat_le byte 126

-- a name: 1 to 64 bytes that print, no space among them
abbrev pub is_name : List ℕ → Bool
is_name text = nat_le 1 (length text) && (nat_le (length text) 64 && list_all is_name_byte text)

-- the place of the text in the list, from 0, if it is there
abbrev pub position_of : List ℕ → List (List ℕ) → Option ℕ
position_of text [] = None
position_of text (t ∷ texts) = if same_text t text then Some 0 else option_map (λ place. place + 1) (position_of text texts)

-- the texts with this one, last where it is new
abbrev pub with_text : List ℕ → List (List ℕ) → List (List ℕ)
with_text text [] = text ∷ []
with_text text (t ∷ texts) = if same_text t text then t ∷ texts else t ∷ with_text text texts

-- whether the text is new, and there is no room for it
abbrev pub is_full_for : Names → List ℕ → Bool
is_full_for names text = is_none (position_of text names.texts) && nat_le names.limit (length names.texts)

-- the names with this one
abbrev pub with_name : Names → List ℕ → Names
with_name names text = record { limit = names.limit; texts = with_text text names.texts }
