-- The plan of a draft.
use Rattle.std.proofs.Common.{◌≡◌, ◌≢◌, ◌⊎◌, ◌↔◌, ℕ, zero, suc, ◌+◌, ◌<◌, ◌≤◌, ◌==◌, nat_lt, Bool, true, false, not, cond, List, [], ◌∷◌, length, get_or, Contains, None, All, refl, sym, ap, subst, ◌∙◌, inl, inr, arith, true≢false, ltb-true, ltb-false, eqb-true, eq-eqb}
use native.Mathlib.Decide.{ℕ_discrete}
use Rattle.std.specs.FinMap.{get}
use Rattle.std.specs.List.{IsDistinct, AllByRecursion}
use Rattle.std.proofs.lemmas.List.{get_or_default}
use Rattle.dt_pages.specs.Reading.{addresses}
use Rattle.dt_pages.specs.Draft.{Drafted, laid_over}
use Rattle.dt_pages.specs.Numbering.{Numbering, IsNode, top_node, child, IsNumbering, AreFree, Follows, AreGone}
use Rattle.dt_pages.specs.Drawing.{Drawing, is_blank_below, changed_nodes, taken, pages_of}
use Rattle.dt_pages.specs.Planned.{Planned, IsPlan}
use Rattle.dt_pages.proofs.Rising.{In, to_contains, from_contains, in_filter, in_at, Rising, rising_low, rising_filter, rising_once}
use Rattle.dt_pages.proofs.ChangedNodes.{nodes_rising, is_node}
use Rattle.dt_pages.proofs.Drawn.{takes_page}
use Rattle.dt_pages.proofs.Redrawn.{AreFresh, decide_in, by_bool, new, after, facts, new_word, same_out, differs_in, keeps, blank_new, some_page, page_in, once_new}

-- the page of a turn is one of the list, or one that no page has
past_list : (xs : List ℕ) (j d : ℕ) → length xs ≤ j → get_or xs j d ≡ d
past_list [] j d past = refl
past_list (x ∷ xs) zero d past = absurd (omega (arith, past))
past_list (x ∷ xs) (suc j) d past = past_list xs j d (omega (arith, past))

listed : (pages : List ℕ) (j : ℕ) → j < length pages → taken pages j ≡ get_or pages j 0
listed pages j below = get_or_default pages j (65536 + j) 0 below

in_list : (pages : List ℕ) (j : ℕ) → j < length pages → Contains pages (taken pages j)
in_list pages j below = subst (Contains pages) (sym (listed pages j below)) (to_contains (get_or pages j 0) pages (in_at j pages below))

module _ (numbers : Numbering) (pages : List ℕ) (is : IsNumbering numbers) (free : AreFree numbers pages) where
  by_turn : {G : Type 0} (j : ℕ) → (j < length pages → G) → (length pages ≤ j → taken pages j ≡ 65536 + j → G) → G
  by_turn j f g = by_bool (nat_lt j (length pages)) (λ low. f (ltb-true j (length pages) low))
      (λ high. let past = ltb-false j (length pages) high in g past (past_list pages j (65536 + j) past))

  pub fresh_free : AreFresh numbers pages
  fresh_free = record {
    other = λ j node a_node same. by_turn j
        (λ low. free.no_node node a_node (subst (Contains pages) (sym same) (in_list pages j low)))
        (λ past at. let low = is.in_range node a_node in absurd (omega (arith, low, same, at)));
    some = λ j none. by_turn j
        (λ low. free.some (taken pages j) (in_list pages j low) none)
        (λ past at. absurd (omega (arith, none, at)));
    once = λ j k same. by_turn j
        (λ j_low. by_turn k
        (λ k_low. free.each_once j k j_low k_low (sym (listed pages j j_low) ∙ same ∙ listed pages k k_low))
        (λ past at. let low = free.in_range (taken pages j) (in_list pages j j_low) in absurd (omega (arith, low, same, at))))
        (λ past at. by_turn k
        (λ k_low. let low = free.in_range (taken pages k) (in_list pages k k_low) in absurd (omega (arith, low, same, at)))
        (λ k_past k_at. omega (arith, same, at, k_at)));
  }

-- the pages of nodes that have one
pub in_pages : (numbers : Numbering) (page : ℕ) (nodes : List ℕ) → In page (pages_of numbers nodes) ↔ ((node : ℕ) × In node nodes × (numbers node ≡ page) × (page ≢ 0))
in_pages numbers page [] = ((λ none. absurd none), (λ found. absurd found.1))
in_pages numbers page (n ∷ nodes) = go (numbers n == 0) refl (in_pages numbers page nodes)
  where
    go : (b : Bool) → (numbers n == 0) ≡ b → In page (pages_of numbers nodes) ↔ ((node : ℕ) × In node nodes × (numbers node ≡ page) × (page ≢ 0))
        → In page (cond b (pages_of numbers nodes) (numbers n ∷ pages_of numbers nodes)) ↔ ((node : ℕ) × ((node ≡ n) ⊎ In node nodes) × (numbers node ≡ page) × (page ≢ 0))
    go true none rest = (
      (λ there. let f = rest.0 there in (f.0, inr f.1, f.2, f.3)),
      (λ f. elim f.1 [
        | inl here ↦ absurd (f.3 (sym f.2 ∙ ap numbers here ∙ eqb-true (numbers n) 0 none))
        | inr there ↦ rest.1 (f.0, there, f.2, f.3)
      ]),
    )
    go false some rest = (
      (λ there. elim there [
        | inl same ↦ (n, inl refl, sym same, λ none. true≢false (sym (eq-eqb (numbers n) 0 (sym same ∙ none)) ∙ some))
        | inr later ↦ let f = rest.0 later in (f.0, inr f.1, f.2, f.3)
      ]),
      (λ f. elim f.1 [
        | inl here ↦ inl (sym f.2 ∙ ap numbers here)
        | inr there ↦ inr (rest.1 (f.0, there, f.2, f.3))
      ]),
    )

all_in : (P : ℕ → Type 0) (xs : List ℕ) → ((x : ℕ) → In x xs → P x) → AllByRecursion P xs
all_in P [] each = tt
all_in P (x ∷ xs) each = (each x (inl refl), all_in P xs (λ y there. each y (inr there)))

-- nodes that rise have each of their pages once, since no two nodes have one page
pub distinct_pages : (numbers : Numbering) → IsNumbering numbers → (low : ℕ) (nodes : List ℕ) → Rising low nodes → ((n : ℕ) → In n nodes → IsNode n)
    → IsDistinct (λ a b. a == b) (pages_of numbers nodes)
unfolding IsDistinct
distinct_pages numbers is low [] rise are = tt
distinct_pages numbers is low (n ∷ nodes) rise are = go (numbers n == 0) refl (distinct_pages numbers is (suc n) nodes rise.1 (λ m there. are m (inr there)))
  where
    other : (numbers n == 0) ≡ false → (page : ℕ) → In page (pages_of numbers nodes) → (numbers n == page) ≡ false
    other some page there = by_bool (numbers n == page)
        (λ same.
        let f = (in_pages numbers page nodes).0 there in
        let high = rising_low (suc n) f.0 nodes rise.1 f.1 in
        let one : n ≡ f.0 = is.once n f.0 (are n (inl refl)) (are f.0 (inr f.1)) (λ none. true≢false (sym (eq-eqb (numbers n) 0 none) ∙ some))
        (eqb-true (numbers n) page same ∙ sym f.2) in
        absurd (omega (arith, high, one)))
        (λ apart. apart)

    go : (b : Bool) → (numbers n == 0) ≡ b → IsDistinct (λ a b. a == b) (pages_of numbers nodes)
        → IsDistinct (λ a b. a == b) (cond b (pages_of numbers nodes) (numbers n ∷ pages_of numbers nodes))
    go true none rest = rest
    go false some rest = (all_in (λ page. (numbers n == page) ≡ false) (pages_of numbers nodes) (other some), rest)

module _ (numbers : Numbering) (drafted : Drafted) (within : (q : ℕ) → addresses ≤ q → get drafted q ≡ None) (numbered : IsNumbering numbers)
    (pages : List ℕ) (free : AreFree numbers pages) where
  abbrev pub fresh : AreFresh numbers pages
  fresh = fresh_free numbers pages numbered free

  abbrev nodes : List ℕ
  nodes = changed_nodes numbers drafted

  abbrev pub made : Drawing
  made = after numbers drafted within numbered pages fresh

  abbrev pub now : Numbering
  now = new numbers drafted within numbered pages fresh

  written_in : (n : ℕ) → In n made.written → In n nodes × (is_blank_below now n ≡ false)
  written_in n there =
      let all = facts numbers drafted within numbered pages fresh in
      let f = (in_filter (takes_page numbers pages made) n nodes).0 (subst (In n) all.written there) in
      (f.0, by_bool (is_blank_below now n) (λ blank. absurd (true≢false (sym f.1 ∙ ap not blank))) (λ some. some))

  written_rising : Rising addresses made.written
  written_rising =
      let all = facts numbers drafted within numbered pages fresh in
      subst (Rising addresses) (sym all.written) (rising_filter (takes_page numbers pages made) addresses nodes (nodes_rising numbers drafted within))

  pub written_nodes : All IsNode made.written
  written_nodes k d below =
      let at : get_or made.written k 0 ≡ get_or made.written k d = get_or_default made.written k 0 d below in
      subst IsNode at (is_node numbers drafted within (get_or made.written k 0) (written_in (get_or made.written k 0) (in_at k made.written below)).0)

  module _ (enough : length made.written ≡ length pages) where
    page_of : (n : ℕ) → In n nodes → now n ≢ 0 → (j : ℕ) × (j < length pages) × (get_or made.written j 0 ≡ n) × (now n ≡ get_or pages j 0)
    page_of n there some =
        let f = some_page numbers drafted within numbered pages fresh n there some in
        let below : f.0 < length pages = subst (λ (k : ℕ). f.0 < k) enough f.1 in
        (f.0, below, f.2, f.3 ∙ listed pages f.0 below)

    takes_list : (n : ℕ) → IsNode n → now n ≢ numbers n → now n ≢ 0 → Contains pages (now n)
    takes_list n a_node other some = elim (decide_in n nodes) [
      | inl there ↦ let f = page_of n there some in subst (Contains pages) (sym f.3) (to_contains (get_or pages f.0 0) pages (in_at f.0 pages f.1))
      | inr away ↦ absurd (other (same_out numbers drafted within numbered pages fresh n a_node.0 away))
    ]

    pub range : (n : ℕ) → IsNode n → now n < 65536
    range n a_node = elim (ℕ_discrete (now n) (numbers n)) [
      | yes same ↦ let low = numbered.in_range n a_node in omega (arith, same, low)
      | no other ↦ elim (ℕ_discrete (now n) 0) [
        | yes none ↦ omega (arith, none)
        | no some ↦ free.in_range (now n) (takes_list n a_node other some)
      ]
    ]

    -- the node of a page of the list
    node_of : (j : ℕ) → j < length pages → (node : ℕ) × (get_or made.written j 0 ≡ node) × IsNode node × (now node ≡ get_or pages j 0)
    node_of j below =
        let n : ℕ = get_or made.written j 0 in
        let in_written : j < length made.written = subst (λ (k : ℕ). j < k) (sym enough) below in
        let inside = written_in n (in_at j made.written in_written) in
        let f = page_in numbers drafted within numbered pages fresh n inside.0 inside.1 in
        let same : f.0 ≡ j = rising_once addresses f.0 j made.written written_rising f.1 in_written f.2 in
        (n, refl, is_node numbers drafted within n inside.0, f.3 ∙ ap (taken pages) same ∙ listed pages j below)

    pub follows : Follows numbers now pages
    follows = record {
      numbers = record {
        blank = blank_new numbers drafted within numbered pages fresh;
        once = λ n m a b some same. once_new numbers drafted within numbered pages fresh n m a b some same;
        in_range = range;
      };
      keeps = keeps numbers drafted within numbered pages fresh;
      takes = takes_list;
      all_taken = λ page inside.
          let g = node_of inside.0 inside.1 in
          (g.0, g.2, g.3 ∙ get_or_default pages inside.0 0 page inside.1 ∙ inside.2);
    }

    pub written_at : (node place : ℕ) → IsNode node → place < length pages → now node ≡ get_or pages place 0 → get_or made.written place 0 ≡ node
    written_at node place a_node below same =
        let g = node_of place below in
        let some : now g.0 ≢ 0 = λ none. free.some (get_or pages place 0) (to_contains (get_or pages place 0) pages (in_at place pages below)) (sym g.3 ∙ none) in
        g.1 ∙ once_new numbers drafted within numbered pages fresh g.0 node g.2 a_node some (g.3 ∙ sym same)

    pub goes : AreGone numbers now (pages_of numbers nodes)
    goes page = (
      (λ there.
          let f = (in_pages numbers page nodes).0 (from_contains page (pages_of numbers nodes) there) in
          (f.0, is_node numbers drafted within f.0 f.1, f.2, f.3, differs_in numbers drafted within numbered pages fresh f.0 f.1)),
      (λ f. to_contains page (pages_of numbers nodes) ((in_pages numbers page nodes).1 (
        f.0,
        elim (decide_in f.0 nodes) [
          | inl there ↦ there
          | inr away ↦ absurd (f.4 (same_out numbers drafted within numbered pages fresh f.0 f.1.0 away))
        ],
        f.2,
        f.3,
      ))),
    )

    pub planned : (plan : Planned) → plan.changes ≡ made.changes → plan.pages ≡ pages → length plan.contents ≡ length made.written
        → ((k at : ℕ) → k < length made.written → at < 512 → get_or (get_or plan.contents k []) at 0 ≡ now (child (get_or made.written k 0) at))
        → plan.top ≡ now top_node → plan.gone ≡ pages_of numbers nodes → IsPlan numbers drafted pages plan
    planned plan changes same count words top gone =
        let is : laid_over plan.changes numbers ≡ now = ap (λ (m : Drafted). laid_over m numbers) changes in
        record {
          words = λ address low. ap (λ (f : Numbering). f address) is ∙ new_word numbers drafted within numbered pages fresh address low;
          follows = subst (λ (f : Numbering). Follows numbers f pages) (sym is) follows;
          listed = same;
          count = count ∙ enough;
          contents = λ node place at a_node below its low.
              words place at (subst (λ (k : ℕ). place < k) (sym enough) below) low
              ∙ ap (λ (n : ℕ). now (child n at)) (written_at node place a_node below (sym (ap (λ (f : Numbering). f node) is) ∙ its))
              ∙ sym (ap (λ (f : Numbering). f (child node at)) is);
          top = top ∙ sym (ap (λ (f : Numbering). f top_node) is);
          gone = subst (λ (f : Numbering). AreGone numbers f plan.gone) (sym is) (subst (AreGone numbers now) (sym gone) goes);
          gone_once = subst (IsDistinct (λ a b. a == b)) (sym gone)
              (distinct_pages numbers numbered addresses nodes (nodes_rising numbers drafted within) (is_node numbers drafted within));
        }
