-- The pair of two kinds: one for queries of one class, and one for the others.
use Rattle.std.specs.Prelude.{◌≡◌, ◌⊎◌, ℕ, ◌<◌, ◌≤◌, ◌^◌, ◌==◌, ◌||◌, not, Bool, true, if◌then◌else◌, List, filter}
use Rattle.dt_pages.specs.Reading.{Reading}
use Rattle.dt_scratch.specs.Query.{Query, arity_of_query}
use Rattle.dt_scratch.specs.declared.reply.Answer.TheVariants.{NotUnderstood}
use Rattle.dt_scratch.specs.declared.reply.Change.{Change}
use Rattle.dt_cells.specs.Regions.{place_of}
use Rattle.dt_cells.specs.Held.{Held, held_after, HasOneArity, is_changed}
use Rattle.dt_cells.specs.Kind.{Kind}

-- ---- which kinds make a pair

-- a kind for queries of one class, whose cells are the cells of one receiver
pub record IsForOneClass (k : Kind) : Type 0 where
  pub arities : k.arities ≡ 1
  pub begins : 1 ≤ k.most_low
  pub region : (address : ℕ) → k.owns address ≡ true → address < 2 ^ 25

-- a kind that may begin with queries of two classes and goes up to four, whose cells are those of the master array
pub record IsForMoreClasses (k : Kind) : Type 0 where
  pub arities : k.arities ≡ 4
  pub begins : 2 ≤ k.most_low
  pub region : (address : ℕ) → k.owns address ≡ true → 2 ^ 26 ≤ address

-- ---- what belongs to which part

-- the query has one class
abbrev pub is_single : Query → Bool
is_single q = arity_of_query q == 1

-- what is held of queries of one class, and of the others
abbrev pub single_held : Held → Held
single_held held q = if is_single q then held q else NotUnderstood

abbrev pub multi_held : Held → Held
multi_held held q = if is_single q then NotUnderstood else held q

-- the changes of queries of one class, and of the others
abbrev pub single_changes : List Change → List Change
single_changes changes = filter (λ change. is_single change.query) changes

abbrev pub multi_changes : List Change → List Change
multi_changes changes = filter (λ change. not (is_single change.query)) changes

-- ---- place words

-- the place word that a part leaves a selector which is placed in it: that of its placing, or the one before where the part
-- has no change of the selector
abbrev pub word_left : Reading → Reading → List Change → ℕ → ℕ
word_left x placing changes s = if is_changed changes s then placing (place_of s) else x (place_of s)

-- the selector is placed in the part after its changes, and the word is the one that the part leaves it
abbrev pub IsWordOfPart : Kind → Reading → Held → List Change → Reading → ℕ → ℕ → Type 0
IsWordOfPart k x held changes placing s word = k.placed (held_after held changes) s × (word ≡ word_left x placing changes s)

-- the word is that of the part in which the selector is placed after the changes, or 0 where it is placed in neither
abbrev pub IsWordOfPair : Kind → Kind → Reading → Held → List Change → Reading → Reading → ℕ → ℕ → Type 0
IsWordOfPair a b x held changes first rest s word =
    IsWordOfPart a x (single_held held) (single_changes changes) first s word
    ⊎ (IsWordOfPart b x (multi_held held) (multi_changes changes) rest s word
    ⊎ ((a.placed (held_after (single_held held) (single_changes changes)) s → ⊥)
    × (b.placed (held_after (multi_held held) (multi_changes changes)) s → ⊥)
    × (word ≡ 0)))

-- each part has placed its changes, after which the held queries of a selector have one arity: the cells are those of both
-- placings, and each selector with a change has the place word of the part in which it is placed then
pub record PairPlaces (a b : Kind) (x : Reading) (held : Held) (changes : List Change) (y : Reading) : Type 0 where
  pub one_arity : HasOneArity (held_after held changes)
  pub first : Reading
  pub rest : Reading
  pub by_first : a.places x (single_held held) (single_changes changes) first
  pub by_rest : b.places x (multi_held held) (multi_changes changes) rest
  pub first_cells : (address : ℕ) → a.owns address ≡ true → y address ≡ first address
  pub rest_cells : (address : ℕ) → b.owns address ≡ true → y address ≡ rest address
  pub words : (s : ℕ) → is_changed changes s ≡ true → IsWordOfPair a b x held changes first rest s (y (place_of s))

-- ---- the kind

-- the first kind for queries of one class, the second for the others; it shows and owns what both do, and a selector has a
-- place in it where it has one in either
abbrev pub pair_kind : Kind → Kind → Kind
pair_kind a b = record {
  arities = b.arities;
  most_low = 1;
  has_places = true;
  owns = λ address. a.owns address || b.owns address;
  part = λ x q. if is_single q then a.part x q else b.part x q;
  placed = λ held s. a.placed (single_held held) s ⊎ b.placed (multi_held held) s;
  way = λ x q n. if is_single q then a.way x q n else b.way x q n;
  shows = λ x held. a.shows x (single_held held) × b.shows x (multi_held held);
  places = PairPlaces a b;
}

-- ---- a value of the kind

-- the parts stand for the reading, each with what it holds; the first serves queries from one class on, the second from
-- two classes on
pub record PairStands (first_stands rest_stands : Reading → Held → Type 0) (first_least rest_least : ℕ) (x : Reading) (held : Held) : Type 0 where
  pub first : first_stands x (single_held held)
  pub rest : rest_stands x (multi_held held)
  pub first_low : first_least ≡ 1
  pub rest_low : rest_least ≡ 2

-- a stage of the pair left what a stage of each part leaves
pub record PairFollows (first_follows rest_follows : Reading → Held → List Change → Type 0) (x : Reading) (held : Held) (changes : List Change) : Type 0 where
  pub first : first_follows x (single_held held) (single_changes changes)
  pub rest : rest_follows x (multi_held held) (multi_changes changes)
