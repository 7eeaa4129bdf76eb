-- How the new page numbers of a draft are found: from the words that change up to the top.
use Rattle.std.specs.Prelude.{ℕ, ◌+◌, ◌==◌, if◌then◌else◌, Bool, List, [], ◌∷◌, ◌++◌, map, length, get_or, refl}
use Rattle.std.specs.List.{list_all, dedup, range_with_len}
use Rattle.std.specs.Coded.{Coded, code_by, coded×, coded_list, coded_ℕ}
use Rattle.std.specs.FinMap as finite
use Rattle.std.specs.FinMap.{insert, entries}
use Rattle.dt_pages.specs.Reading.{page_words}
use Rattle.dt_pages.specs.Draft.{Drafted, laid_over}
use Rattle.dt_pages.specs.Numbering.{Numbering, child, over}

-- every place below the node has 0
unfoldable pub is_blank_below : Numbering → ℕ → Bool
is_blank_below numbers node = list_all (λ at. numbers (child node at) == 0) (range_with_len 0 page_words)

-- the leaves of the words that change, as often as one does
abbrev pub leaves_of : Numbering → List (ℕ × ℕ) → List ℕ
leaves_of numbers [] = []
leaves_of numbers (set ∷ sets) = if numbers set.0 == set.1 then leaves_of numbers sets else over set.0 ∷ leaves_of numbers sets

-- each leaf of such a word, in ascending order
unfoldable pub changed_leaves : Numbering → Drafted → List ℕ
changed_leaves numbers drafted = dedup (λ a b. a == b) (leaves_of numbers (entries drafted))

-- each node above these
unfoldable pub nodes_over : List ℕ → List ℕ
nodes_over nodes = dedup (λ a b. a == b) (map over nodes)

-- each node above a word that changes, in ascending order
unfoldable pub changed_nodes : Numbering → Drafted → List ℕ
changed_nodes numbers drafted =
    changed_leaves numbers drafted ++ nodes_over (changed_leaves numbers drafted) ++ nodes_over (nodes_over (changed_leaves numbers drafted))

-- the number of the page that is taken at this turn: that of the list, and past its end one that no page has
abbrev pub taken : List ℕ → ℕ → ℕ
taken pages turn = get_or pages turn (65536 + turn)

-- what is known of a draft's nodes: the words and numbers that change, and the nodes that have taken a page
pub record Drawing : Type 0 where
  pub changes : Drafted
  pub written : List ℕ

-- by this proofs tell two of them apart
abbrev pub drawing_code : Coded Drawing
drawing_code = code_by (Drafted × List ℕ) (coded× (finite.code coded_ℕ coded_ℕ) (coded_list coded_ℕ))
    (λ d. (d.changes, d.written)) (λ p. record { changes = p.0; written = p.1 }) (λ _. refl)

-- one node more: its number is 0 where all below it is blank, and else that of the next page
unfoldable pub drawn_one : Numbering → List ℕ → Drawing → ℕ → Drawing
drawn_one numbers pages drawing node =
    if is_blank_below (laid_over drawing.changes numbers) node
    then record { changes = insert drawing.changes node 0; written = drawing.written }
    else record { changes = insert drawing.changes node (taken pages (length drawing.written)); written = drawing.written ++ node ∷ [] }

-- all of these nodes
abbrev pub drawn : Numbering → List ℕ → Drawing → List ℕ → Drawing
drawn numbers pages drawing [] = drawing
drawn numbers pages drawing (node ∷ nodes) = drawn numbers pages (drawn_one numbers pages drawing node) nodes

-- the pages of these nodes, where they have one
abbrev pub pages_of : Numbering → List ℕ → List ℕ
pages_of numbers [] = []
pages_of numbers (node ∷ nodes) = if numbers node == 0 then pages_of numbers nodes else numbers node ∷ pages_of numbers nodes
