-- What a change of one row does to the live classes and to the links.
use Rattle.std.proofs.Common.{◌≡◌, ◌==◌, ◌≢◌, ℕ, zero, suc, ◌+◌, ◌<◌, Bool, true, false, not, List, [], ◌∷◌, ◌++◌, length, get_or, set, filter, refl, sym, ap, ◌∙◌, eq-eqb, ne_eqb, lt-ltb, le-ltb, arith, set-set, length-set, get_or-set_same}
use Rattle.std.proofs.lemmas.Bool.Decides.{nat_tests}
use Rattle.std.proofs.lemmas.List.Elements.{filter-append}
use Rattle.dt_graph.specs.Graph.{Link, is_link, insert_number, insert_link, insert_links}
use Rattle.dt_graph.specs.GraphRows.{live_from, links_to, links_from, insert_numbers}
use Rattle.dt_graph.specs.declared.class_rows.Row.{Row}

-- ---- the live classes

-- a row that is live as before
pub live_from-same : (rows : List Row) (k i : ℕ) (row d : Row) → row.is_live ≡ (get_or rows i d).is_live → i < length rows → live_from k (set rows i row) ≡ live_from k rows
live_from-same [] k i row d same inside = refl
live_from-same (r ∷ rows) k zero row d same inside = rw same refl
live_from-same (r ∷ rows) k (suc i) row d same inside = rw (live_from-same rows (k + 1) i row d same (omega arith)) refl

insert_number-first : (rows : List Row) (k q : ℕ) → q < k → insert_number q (live_from k rows) ≡ q ∷ live_from k rows
insert_number-first [] k q before = refl
insert_number-first (r ∷ rows) k q before =
    let rest = insert_number-first rows (k + 1) q (omega arith) in grind (arith, nat_tests)

-- a row that becomes live
pub live_from-placed : (rows : List Row) (k i q : ℕ) (row : Row) → q ≡ k + i → i < length rows → row.is_live ≡ true → live_from k (set rows i row) ≡ insert_number q (live_from k rows)
live_from-placed [] k i q row at inside live = absurd (omega arith)
live_from-placed (r ∷ rows) k zero q row at inside live =
    let here : q ≡ k = omega arith in
    let first = insert_number-first rows (k + 1) k (omega arith) in grind (arith, nat_tests)
live_from-placed (r ∷ rows) k (suc i) q row at inside live =
    let rest = live_from-placed rows (k + 1) i q row (omega arith) (omega arith) live in grind (arith, nat_tests)

drop_number-none : (rows : List Row) (k q : ℕ) → q < k → filter (λ c. not (c == q)) (live_from k rows) ≡ live_from k rows
drop_number-none [] k q before = refl
drop_number-none (r ∷ rows) k q before =
    let rest = drop_number-none rows (k + 1) q (omega arith) in grind (arith, nat_tests)

-- a row that isn't live any more
pub live_from-dropped : (rows : List Row) (k i q : ℕ) (row : Row) → q ≡ k + i → i < length rows → row.is_live ≡ false → live_from k (set rows i row) ≡ filter (λ c. not (c == q)) (live_from k rows)
live_from-dropped [] k i q row at inside live = absurd (omega arith)
live_from-dropped (r ∷ rows) k zero q row at inside live =
    let rest = drop_number-none rows (k + 1) q (omega arith) in grind (arith, nat_tests)
live_from-dropped (r ∷ rows) k (suc i) q row at inside live =
    let rest = live_from-dropped rows (k + 1) i q row (omega arith) (omega arith) live in grind (arith, nat_tests)

-- ---- the links

-- a row with the same parents
pub links_from-same : (rows : List Row) (k i : ℕ) (row d : Row) → row.parents.items ≡ (get_or rows i d).parents.items → i < length rows → links_from k (set rows i row) ≡ links_from k rows
links_from-same [] k i row d same inside = refl
links_from-same (r ∷ rows) k zero row d same inside = rw same refl
links_from-same (r ∷ rows) k (suc i) row d same inside = rw (links_from-same rows (k + 1) i row d same (omega arith)) refl

-- a link of a class before these links' class stands first, where it stands first among the rest
before_links_to : (k q p : ℕ) (ps : List ℕ) (links : List Link) → q < k → insert_link (record { class = q; parent = p }) links ≡ record { class = q; parent = p } ∷ links → insert_link (record { class = q; parent = p }) (links_to k ps ++ links) ≡ record { class = q; parent = p } ∷ links_to k ps ++ links
before_links_to k q p [] links before rest = rest
before_links_to k q p (x ∷ ps) links before rest = rw (lt-ltb q k before) refl

-- a link of a class before the rows stands first
insert_link-first : (rows : List Row) (k q p : ℕ) → q < k → insert_link (record { class = q; parent = p }) (links_from k rows) ≡ record { class = q; parent = p } ∷ links_from k rows
insert_link-first [] k q p before = refl
insert_link-first (r ∷ rows) k q p before =
    before_links_to k q p r.parents.items (links_from (k + 1) rows) before (insert_link-first rows (k + 1) q p (omega arith))

-- a link of the class itself is placed among its own
insert_link-own : (rows : List Row) (k p : ℕ) (ps : List ℕ) → insert_link (record { class = k; parent = p }) (links_to k ps ++ links_from (k + 1) rows) ≡ links_to k (insert_number p ps) ++ links_from (k + 1) rows
insert_link-own rows k p [] = insert_link-first rows (k + 1) k p (omega arith)
insert_link-own rows k p (x ∷ ps) = let rest = insert_link-own rows k p ps in grind (arith, nat_tests)

-- a link of a later class is placed after these
insert_link-later : (k q p : ℕ) (ps : List ℕ) (links : List Link) → k < q → insert_link (record { class = q; parent = p }) (links_to k ps ++ links) ≡ links_to k ps ++ insert_link (record { class = q; parent = p }) links
insert_link-later k q p [] links after = refl
insert_link-later k q p (x ∷ ps) links after =
    rw (le-ltb q k (omega arith), ne_eqb q k (omega arith), ne_eqb k q (omega arith)) (ap (λ ls. record { class = k; parent = x } ∷ ls) (insert_link-later k q p ps links after))

-- a row with one parent more
pub links_from-placed : (rows : List Row) (k i q p : ℕ) (row d : Row) → q ≡ k + i → i < length rows → row.parents.items ≡ insert_number p (get_or rows i d).parents.items → links_from k (set rows i row) ≡ insert_link (record { class = q; parent = p }) (links_from k rows)
links_from-placed [] k i q p row d at inside parents = absurd (omega arith)
links_from-placed (r ∷ rows) k zero q p row d at inside parents =
    let here : q ≡ k = omega arith in
    rw (parents, here) (sym (insert_link-own rows k p r.parents.items))
links_from-placed (r ∷ rows) k (suc i) q p row d at inside parents =
    rw (links_from-placed rows (k + 1) i q p row d (omega arith) (omega arith) parents) (sym (insert_link-later k q p r.parents.items (links_from (k + 1) rows) (omega arith)))

-- a row with these parents
abbrev pub row_with : List ℕ → Row
row_with parents = record { is_live = true; parents = record { items = parents } }

-- a row with parents placed one after another
links_from-each_placed : (rows : List Row) (i : ℕ) (ps before : List ℕ) → i < length rows → links_from 0 (set rows i (row_with (insert_numbers ps before))) ≡ insert_links i ps (links_from 0 (set rows i (row_with before)))
links_from-each_placed rows i [] before inside = refl
links_from-each_placed rows i (p ∷ ps) before inside =
    let d = row_with before in
    let first = links_from-placed (set rows i (row_with before)) 0 i i p (row_with (insert_number p before)) d (omega arith) (rw length-set inside) (rw (get_or-set_same rows i (row_with before) d inside) refl) in
    links_from-each_placed rows i ps (insert_number p before) inside
    ∙ ap (insert_links i ps) (rw set-set at first)

-- a row without parents that gets these
pub links_from-filled : (rows : List Row) (i : ℕ) (ps : List ℕ) (row d : Row) → i < length rows → (get_or rows i d).parents.items ≡ [] → row.parents.items ≡ insert_numbers ps [] → links_from 0 (set rows i row) ≡ insert_links i ps (links_from 0 rows)
links_from-filled rows i ps row d inside none filled =
    let to_row : links_from 0 (set rows i (row_with (insert_numbers ps []))) ≡ links_from 0 (set rows i row) = (rw set-set at (links_from-same (set rows i row) 0 i (row_with (insert_numbers ps [])) row (rw (get_or-set_same rows i row row inside, filled) refl) (rw length-set inside))) in
    let from_none = links_from-same rows 0 i (row_with []) d (sym none) inside in
    sym to_row ∙ links_from-each_placed rows i ps [] inside ∙ ap (insert_links i ps) from_none

-- ---- links that go

-- a test of links that all of other classes pass
module _ (test : Link → Bool) (q : ℕ) (passes : (k p : ℕ) → k ≢ q → test (record { class = k; parent = p }) ≡ true) where
  others_stay : (k : ℕ) (ps : List ℕ) → k ≢ q → filter test (links_to k ps) ≡ links_to k ps
  others_stay k [] other = refl
  others_stay k (x ∷ ps) other = rw (passes k x other, others_stay k ps other) refl

  later_stay : (rows : List Row) (k : ℕ) → q < k → filter test (links_from k rows) ≡ links_from k rows
  later_stay [] k before = refl
  later_stay (r ∷ rows) k before =
      filter-append test (links_to k r.parents.items) (links_from (k + 1) rows)
      ∙ rw (others_stay k r.parents.items (omega arith), later_stay rows (k + 1) (omega arith)) refl

  links_from-filtered : (rows : List Row) (k i : ℕ) (row d : Row) → q ≡ k + i → i < length rows → filter test (links_to q (get_or rows i d).parents.items) ≡ links_to q row.parents.items → links_from k (set rows i row) ≡ filter test (links_from k rows)
  links_from-filtered [] k i row d at inside fewer = absurd (omega arith)
  links_from-filtered (r ∷ rows) k zero row d at inside fewer =
      let here : k ≡ q = omega arith in
      sym (filter-append test (links_to k r.parents.items) (links_from (k + 1) rows)
      ∙ rw (later_stay rows (k + 1) (omega arith), here, fewer) refl)
  links_from-filtered (r ∷ rows) k (suc i) row d at inside fewer =
      sym (filter-append test (links_to k r.parents.items) (links_from (k + 1) rows)
      ∙ rw (others_stay k r.parents.items (omega arith), links_from-filtered rows (k + 1) i row d (omega arith) (omega arith) fewer) refl)

own_links_go : (k : ℕ) (ps : List ℕ) → filter (λ (l : Link). not (l.class == k)) (links_to k ps) ≡ []
own_links_go k [] = refl
own_links_go k (x ∷ ps) = rw (eq-eqb k k refl) (own_links_go k ps)

-- a row whose parents are gone
pub links_from-dropped : (rows : List Row) (k i q : ℕ) (row : Row) → q ≡ k + i → i < length rows → row.parents.items ≡ [] → links_from k (set rows i row) ≡ filter (λ (l : Link). not (l.class == q)) (links_from k rows)
links_from-dropped rows k i q row at inside none =
    links_from-filtered (λ (l : Link). not (l.class == q)) q (λ k p other. ap not (ne_eqb k q other)) rows k i row row at inside
    (own_links_go q (get_or rows i row).parents.items ∙ rw none refl)

own_link_goes : (k p : ℕ) (ps : List ℕ) → filter (λ l. not (is_link k p l)) (links_to k ps) ≡ links_to k (filter (λ x. not (x == p)) ps)
own_link_goes k p [] = refl
own_link_goes k p (x ∷ ps) = let rest = own_link_goes k p ps in grind (arith, nat_tests)

-- a row with one parent less
pub links_from-removed : (rows : List Row) (k i q p : ℕ) (row d : Row) → q ≡ k + i → i < length rows → row.parents.items ≡ filter (λ x. not (x == p)) (get_or rows i d).parents.items → links_from k (set rows i row) ≡ filter (λ l. not (is_link q p l)) (links_from k rows)
links_from-removed rows k i q p row d at inside fewer =
    links_from-filtered (λ l. not (is_link q p l)) q (λ k x other. rw (ne_eqb k q other) refl) rows k i row d at inside
    (own_link_goes q p (get_or rows i d).parents.items ∙ rw fewer refl)
