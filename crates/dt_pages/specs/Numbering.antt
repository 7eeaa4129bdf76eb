-- The pages of a tree: which page each node has, and how they stand in the words of all pages.
-- An address is the position of its word. Behind the addresses stand the nodes: the leaves, the middle nodes, the top.
use Rattle.std.specs.Prelude.{◌≡◌, ◌≢◌, ℕ, ◌+◌, ◌-◌, ◌*◌, ◌/◌, ◌<◌, ◌≤◌, ◌↔◌, List, Contains, length, get_or}
use Rattle.dt_pages.specs.Reading.{Pages, page_words, addresses}

-- the top stands behind 2 ^ 18 leaves and 2 ^ 9 middle nodes
abbrev pub top_node : ℕ
top_node = addresses + 262144 + 512

abbrev pub IsNode : ℕ → Type 0
IsNode node = (addresses ≤ node) × (node ≤ top_node)

-- the position at this place of a node, which has `page_words` places: a word below a leaf, and else a node
abbrev pub child : ℕ → ℕ → ℕ
child node at = page_words * (node - addresses) + at

-- the node of which a position is a child
abbrev pub over : ℕ → ℕ
over position = addresses + position / page_words

-- at each address its word, and at each node the number of its page, or 0 where no word is set below it
abbrev pub Numbering : Type 0
Numbering = ℕ → ℕ

-- so page numbers stand for an image: a node without a page is one below which nothing is set, and no page has two nodes
pub record IsNumbering (numbers : Numbering) : Type 0 where
  pub blank : (node : ℕ) → IsNode node → (numbers node ≡ 0) ↔ ((at : ℕ) → at < page_words → numbers (child node at) ≡ 0)
  pub once : (node other : ℕ) → IsNode node → IsNode other → numbers node ≢ 0 → numbers node ≡ numbers other → node ≡ other
  pub in_range : (node : ℕ) → IsNode node → numbers node < 65536

-- the page of each node has what stands at its places, and page 0 has zeros
pub record StandsIn (memory : Pages) (numbers : Numbering) : Type 0 where
  pub zeros : (at : ℕ) → at < page_words → memory 0 at ≡ 0
  pub words : (node : ℕ) → IsNode node → numbers node ≢ 0 → (at : ℕ) → at < page_words → memory (numbers node) at ≡ numbers (child node at)

-- pages that no node has, each in range, none 0 and none twice
pub record AreFree (numbers : Numbering) (pages : List ℕ) : Type 0 where
  pub some : (page : ℕ) → Contains pages page → page ≢ 0
  pub in_range : (page : ℕ) → Contains pages page → page < 65536
  pub no_node : (node : ℕ) → IsNode node → ¬ Contains pages (numbers node)
  pub each_once : (j k : ℕ) → j < length pages → k < length pages → get_or pages j 0 ≡ get_or pages k 0 → j ≡ k

-- another numbering that has these pages more: a node keeps its number exactly where all that stands below it stays, each
-- other node below which a word is set has a page of the list, and each page of the list has a node
pub record Follows (old new : Numbering) (pages : List ℕ) : Type 0 where
  pub numbers : IsNumbering new
  pub keeps : (node : ℕ) → IsNode node → (new node ≡ old node) ↔ ((at : ℕ) → at < page_words → new (child node at) ≡ old (child node at))
  pub takes : (node : ℕ) → IsNode node → new node ≢ old node → new node ≢ 0 → Contains pages (new node)
  pub all_taken : (page : ℕ) → Contains pages page → (node : ℕ) × IsNode node × (new node ≡ page)

-- the pages that the other numbering has no more
abbrev pub AreGone : Numbering → Numbering → List ℕ → Type 0
AreGone old new gone = (page : ℕ) → Contains gone page ↔ ((node : ℕ) × IsNode node × (old node ≡ page) × (page ≢ 0) × (new node ≢ old node))

-- the pages of the list were written, and neither page 0 nor a page of the old numbering
pub record IsWritten (memory after : Pages) (old new : Numbering) (pages : List ℕ) : Type 0 where
  pub zero_stays : (at : ℕ) → at < page_words → after 0 at ≡ memory 0 at
  pub old_stay : (node : ℕ) → IsNode node → (at : ℕ) → at < page_words → after (old node) at ≡ memory (old node) at
  pub words : (node : ℕ) → IsNode node → Contains pages (new node) → (at : ℕ) → at < page_words → after (new node) at ≡ new (child node at)
