-- How the words of an image lie in a tree: 512 middle nodes stand over 512 leaves each, and a leaf has 512 words.
-- Where a node is missing, its words are 0.
use Rattle.std.specs.Prelude.{◌≡◌, ℕ, zero, suc, ◌/◌, ◌%◌, ◌==◌, ◌<◌, ◌||◌, Bool, true, false, length, if◌then◌else◌, List, Option, None, Some, is_some, get_or}
use Rattle.std.specs.FinMap.{empty, insert, get}
use Rattle.dt_pages.specs.Reading.{Reading, addresses}
use Rattle.dt_pages.specs.Image.{Image}
use Rattle.dt_pages.specs.Draft.{Drafted}

-- the image of the words of a reading at the addresses below a bound
unfoldable pub image_below : Reading → ℕ → Image
image_below words zero = empty
image_below words (suc bound) =
    if words bound == 0 then image_below words bound else insert (image_below words bound) bound (words bound)

-- the image of a reading's words
unfoldable pub image_of : Reading → Image
image_of words = image_below words addresses

abbrev pub LeafForm : Type 0
LeafForm = List ℕ

abbrev pub MiddleForm : Type 0
MiddleForm = List (Option LeafForm)

abbrev pub TreeForm : Type 0
TreeForm = List (Option MiddleForm)

-- the word at this place of a leaf
abbrev pub word_of_leaf : Option LeafForm → ℕ → ℕ
word_of_leaf None at = 0
word_of_leaf (Some words) at = get_or words at 0

-- the word at this place of the leaves of a middle node
abbrev pub word_of_middle : Option MiddleForm → ℕ → ℕ
word_of_middle None at = 0
word_of_middle (Some leaves) at = word_of_leaf (get_or leaves (at / 512) None) (at % 512)

-- the reading of a tree
abbrev pub word_of_tree : TreeForm → Reading
word_of_tree middles address = word_of_middle (get_or middles (address / 262144) None) (address % 262144)

-- whether a middle node has the leaf of this place
abbrev pub has_leaf : Option MiddleForm → ℕ → Bool
has_leaf None at = false
has_leaf (Some leaves) at = is_some (get_or leaves (at / 512) None)

-- whether the tree has the leaf of this address
abbrev pub has_room : TreeForm → ℕ → Bool
has_room middles address = has_leaf (get_or middles (address / 262144) None) (address % 262144)

-- whether one of two middle nodes has the leaf of this place
abbrev pub has_either_leaf : Option MiddleForm → Option MiddleForm → ℕ → Bool
has_either_leaf middle room at = has_leaf middle at || has_leaf room at

-- whether the tree or its rooms have the leaf of this address
abbrev pub has_either : TreeForm → TreeForm → ℕ → Bool
has_either middles rooms address = has_room middles address || has_room rooms address

-- nodes without words, and among them the leaf of each address that changes
pub record AreRooms (middles : TreeForm) (changes : Drafted) : Type 0 where
  pub count : length middles ≡ 512
  pub zeros : (address : ℕ) → word_of_tree middles address ≡ 0
  pub rooms : (address : ℕ) → address < addresses → is_some (get changes address) ≡ true → has_room middles address ≡ true
