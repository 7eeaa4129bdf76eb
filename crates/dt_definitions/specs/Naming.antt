-- From a class to the definitions that name it.
use Rattle.std.specs.Prelude.{◌≡◌, ℕ, ◌≤◌, ◌<◌, IsTrue, List, [], length, map, filter, Result, IsSome, slice_index_or}
use Rattle.dt_graph.specs.Graph.{has_number}
use Rattle.dt_graph.specs.declared.limits.TheConstants.{CLASSES}
use Rattle.dt_graph.specs.InOrder.{Ascends, insert_by_key, find_at, without}
use Rattle.dt_definitions.specs.Program.{Definition, key_of, is_key_before, is_same_key}
use Rattle.dt_definitions.specs.Search.{Searched}
use Rattle.dt_definitions.specs.declared.definition_key.DefinitionKey.{DefinitionKey}

-- where the definitions that name the class stand, in ascending order
abbrev pub naming : List Definition → ℕ → List DefinitionKey
naming definitions class = map key_of (filter (λ d. has_number d.classes class) definitions)

-- ---- how they are kept: a list for each class, in ascending order

-- the list of a class, and for how many there is room without more memory
pub record NamingList : Type 0 where
  pub keys : List DefinitionKey
  pub room : ℕ

abbrev pub itself : DefinitionKey → DefinitionKey
itself k = k

-- the list with one more, and with one less
abbrev pub insert_key : DefinitionKey → List DefinitionKey → List DefinitionKey
insert_key k keys = insert_by_key itself is_key_before is_same_key k keys

abbrev pub without_key : DefinitionKey → List DefinitionKey → List DefinitionKey
without_key k keys = without itself is_same_key k keys

abbrev pub KeysAscend : List DefinitionKey → Type 0
KeysAscend keys = Ascends itself is_key_before keys

-- what a search of the list answers
abbrev pub KeySearched : List DefinitionKey → DefinitionKey → Result ℕ ℕ → Type 0
KeySearched keys k answer = Searched itself is_key_before is_same_key k keys answer

-- the list of this class, and its room
abbrev pub none_kept : NamingList
none_kept = record { keys = []; room = 0 }

abbrev pub keys_at : List NamingList → ℕ → List DefinitionKey
keys_at lists class = (slice_index_or lists class none_kept).keys

abbrev pub room_at : List NamingList → ℕ → ℕ
room_at lists class = (slice_index_or lists class none_kept).room

-- the lists of these classes have room for one more
abbrev pub HasRoomIn : List NamingList → List ℕ → Type 0
HasRoomIn lists classes = (class : ℕ) → class < CLASSES → IsTrue (has_number classes class) → length (keys_at lists class) < room_at lists class

-- the lists stay as they were but for their room, which may grow
abbrev pub KeysStay : List NamingList → List NamingList → Type 0
KeysStay old new = (class : ℕ) → keys_at new class ≡ keys_at old class

abbrev pub RoomsGrow : List NamingList → List NamingList → Type 0
RoomsGrow old new = (class : ℕ) → room_at old class ≤ room_at new class

-- those of these lists that had the key have room for it
abbrev pub HasRoomAgain : DefinitionKey → List NamingList → List NamingList → List ℕ → Type 0
HasRoomAgain k old new classes = (class : ℕ) → class < CLASSES → IsTrue (has_number classes class)
    → IsSome (find_at itself is_same_key k (keys_at old class)) → length (keys_at new class) < room_at new class
