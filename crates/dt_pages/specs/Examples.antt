-- Readings, reach and places, worked out.
use Rattle.std.specs.Prelude.{◌≡◌, ℕ, ◌+◌, ◌-◌, ◌*◌, [], ◌∷◌, refl}
use Rattle.std.proofs.Common.{arith, inl, inr}
use Rattle.dt_pages.specs.Reading.{Pages, reading, Reaches}
use Rattle.dt_pages.specs.Image.{place}
use Rattle.dt_pages.specs.Reach.{met, each_once}
use Rattle.dt_pages.specs.Laws.{SamePage}
use Rattle.dt_pages.specs.ThreeWords.{pages_with}

-- pages of which each word tells its page and its place
abbrev telling : Pages
telling page at = 1000 * page + at

the_way_down : reading telling 1 (3 * 512 * 512 + 5 * 512 + 7) ≡ 1003005007
the_way_down = refl

the_first_address : reading telling 1 0 ≡ 1000000000
the_first_address = refl

the_last_address : reading telling 1 134217727 ≡ 1511511511
the_last_address = refl

past_the_last_address : reading telling 1 134217728 ≡ 0
past_the_last_address = refl

-- ---- reach

-- page 1 leads to page 2 by its last word, and page 2 to page 3
abbrev chain : Pages
chain = pages_with ((1, 511, 2) ∷ (2, 511, 3) ∷ (3, 511, 4) ∷ [])

a_page_of_the_second_level : Reaches chain 1 2
a_page_of_the_second_level = inr (511, omega arith, inl refl)

a_page_of_the_last_level : Reaches chain 1 3
a_page_of_the_last_level = inr (511, omega arith, inr (511, omega arith, inl refl))

page_zero_where_a_word_is_zero : Reaches chain 1 0
page_zero_where_a_word_is_zero = inr (0, omega arith, inl refl)

-- pages of which each word is the number of the next page
abbrev rising : Pages
rising page at = page + 1

-- the words of the last level are what is read, and no pages
what_is_read_is_not_reached : ¬ Reaches rising 1 4
what_is_read_is_not_reached (inl is) = let same : ◌≡◌ {A = ℕ} 1 4 = is in absurd (omega (arith, same))
what_is_read_is_not_reached (inr (at, below, inl is)) = let same : ◌≡◌ {A = ℕ} 2 4 = is in absurd (omega (arith, same))
what_is_read_is_not_reached (inr (at, below, inr (next, under, inl is))) = let same : ◌≡◌ {A = ℕ} 3 4 = is in absurd (omega (arith, same))
what_is_read_is_not_reached (inr (at, below, inr (next, under, inr way))) = way.2

-- pages whose words are zero, and behind whose last place stands a 1
abbrev beyond : Pages
beyond page at = at - 511

-- what stands behind the last place leads nowhere
a_word_past_the_page_leads_nowhere : ¬ Reaches beyond 0 1
a_word_past_the_page_leads_nowhere (inl is) = let same : ◌≡◌ {A = ℕ} 0 1 = is in absurd (omega (arith, same))
a_word_past_the_page_leads_nowhere (inr (at, below, inl is)) = absurd (omega (arith, below, is))
a_word_past_the_page_leads_nowhere (inr (at, below, inr (next, under, inl is))) = absurd (omega (arith, under, is))
a_word_past_the_page_leads_nowhere (inr (at, below, inr (next, under, inr way))) = way.2

-- ---- reach as a list

-- over one level a page is met alone, and no page is met twice in the list
one_page_is_met : met rising 1 5 ≡ 5 ∷ []
unfolding met
one_page_is_met = refl

the_last_of_each_stays : each_once (3 ∷ 1 ∷ 3 ∷ 0 ∷ 1 ∷ []) ≡ 3 ∷ 0 ∷ 1 ∷ []
the_last_of_each_stays = refl

-- ---- the same page

-- these differ from zeros behind the last place alone
the_same_up_to_the_last_place : SamePage beyond (λ page at. 0) 3
the_same_up_to_the_last_place at below = omega (arith, below)

another_word_at_the_last_place : ¬ SamePage chain (λ page at. 0) 3
another_word_at_the_last_place same = let is : ◌≡◌ {A = ℕ} 4 0 = same 511 (omega arith) in absurd (omega (arith, is))

-- ---- places

the_last_word_of_a_leaf : place 1 511 ≡ 0
the_last_word_of_a_leaf = refl

the_first_word_of_the_next_leaf : place 1 512 ≡ 1
the_first_word_of_the_next_leaf = refl

a_leaf_of_the_second_middle_page : place 2 262144 ≡ 1
a_leaf_of_the_second_middle_page = refl

the_top_page_stands_over_all : place 3 134217727 ≡ 0
the_top_page_stands_over_all = refl
