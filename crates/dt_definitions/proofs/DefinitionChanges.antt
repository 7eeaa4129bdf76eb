-- A table keeps what holds of it when a definition is put in or taken out.
use Rattle.std.proofs.Common.{◌≡◌, ℕ, zero, suc, ◌+◌, ◌-◌, ◌<◌, ◌≤◌, Bool, true, false, cond, not, List, [], ◌∷◌, ◌++◌, length, get_or, set, filter, find, option_map, Option, Some, None, is_some, is_none, slice_index, refl, sym, ap, ◌∙◌, arith, eqb}
use Rattle.std.specs.List.{list_any}
use Rattle.std.proofs.lemmas.Bool.{eq-eqb}
use Rattle.std.proofs.lemmas.Bool.Decides.{nat_tests}
use Rattle.std.proofs.lemmas.List.{length-map}
use Rattle.dt_graph.specs.Graph.{has_number}
use Rattle.dt_selectors.specs.declared.limits.TheConstants.{SELECTORS}
use Rattle.dt_definitions.specs.declared.defined.Defined.{Defined}
use Rattle.dt_definitions.specs.Program.{Definition, is_definition, insert_definition, body_of, key_of, is_key_before, is_same_key}
use Rattle.dt_definitions.specs.Naming.{NamingList, naming, insert_key, without_key, keys_at, room_at, HasRoomIn, KeysStay, RoomsGrow}
use Rattle.dt_definitions.specs.SelectorLists.{SelectorList, with_selector, definitions_from, rooms_of, rooms_in, body_in, DefinitionsKept, NoneDefined, HaveSameDefinitions, ListRoomFor, HasNamingRoom, NoneShrinks}
use Rattle.dt_definitions.proofs.DefinitionOrder.{key_order, insert-ascends, filter-ascends, is_definition-equal}
use Rattle.dt_definitions.proofs.Keys.{length-insert_new, length-insert_again, length-without}
use Rattle.dt_definitions.proofs.Keys.{keys-insert, keys-again, keys-without}
use Rattle.dt_definitions.proofs.Lists.{none_from_empty, of_row, find_of}

-- a row's body is the body among its selector's definitions
pub body_in_row : (s : ℕ) (cs : List ℕ) (row : List Defined)
    → body_in row cs ≡ option_map (λ d. d.body) (find (is_definition s cs) (with_selector s row))
body_in_row s cs [] = refl
body_in_row s cs (d ∷ row) =
    let r = body_in_row s cs row in let e = eq-eqb s s refl in grind arith

pub body_from_rows : (rows : List SelectorList) (i s : ℕ) (cs : List ℕ) (r : SelectorList)
    → s ≡ i → i < length rows → r ≡ get_or rows i r
    → body_in r.defined cs ≡ body_of (definitions_from 0 rows) s cs
body_from_rows rows i s cs r e l g =
    let o = of_row rows 0 i s r (omega arith) l g in
    let f = find_of s (is_definition s cs) (definitions_from 0 rows) (λ d h. (is_definition-equal s cs d h).0) in
    body_in_row s cs r.defined ∙ rw (o, sym f) refl

pub some_body : (s : ℕ) (cs : List ℕ) (ds : List Definition) → is_some (body_of ds s cs) ≡ list_any (is_definition s cs) ds
some_body s cs [] = refl
some_body s cs (d ∷ ds) = let r = some_body s cs ds in grind arith

pub none_body : (o : Option ℕ) → is_none o ≡ not (is_some o)
none_body None = refl
none_body (Some x) = refl

-- whether a filter leaves nothing
pub filtered_any : (p : Definition → Bool) (ds : List Definition) → not (eqb (length (filter p ds)) 0) ≡ list_any p ds
filtered_any p [] = refl
filtered_any p (d ∷ ds) = let r = filtered_any p ds in grind (arith, nat_tests)

pub length_with : (s : ℕ) (row : List Defined) → length (with_selector s row) ≡ length row
length_with s row = length-map row _

pub kept_same : (rows new : List SelectorList) (count : ℕ) (lists : List NamingList)
    → DefinitionsKept rows count lists → length new ≡ SELECTORS
    → definitions_from 0 new ≡ definitions_from 0 rows → DefinitionsKept new count lists
kept_same rows new count lists k l e = record {
  all_selectors = l;
  counted = k.counted ∙ ap length (sym e);
  named = λ class c. k.named class c ∙ ap (λ ds. naming ds class) (sym e);
  ascends = rw e k.ascends;
}

pub kept_lists : (rows : List SelectorList) (count : ℕ) (lists new : List NamingList)
    → DefinitionsKept rows count lists → KeysStay lists new → DefinitionsKept rows count new
kept_lists rows count lists new k stay = record {
  all_selectors = k.all_selectors;
  counted = k.counted;
  named = λ class c. stay class ∙ k.named class c;
  ascends = k.ascends;
}

module _ (rows new : List SelectorList) (count : ℕ) (lists : List NamingList) (k : DefinitionsKept rows count lists) (l : length new ≡ SELECTORS) where
  pub kept_put_again : (d : Definition)
      → definitions_from 0 new ≡ insert_definition d (definitions_from 0 rows)
      → list_any (is_definition d.selector d.classes) (definitions_from 0 rows) ≡ true
      → DefinitionsKept new count lists
  kept_put_again d e there =
      let ds = definitions_from 0 rows in
      record {
        all_selectors = l;
        counted = k.counted ∙ sym (length-insert_again key_of is_key_before is_same_key key_order d ds k.ascends there) ∙ ap length (sym e);
        named = λ class c. k.named class c
            ∙ sym (keys-again key_of is_key_before is_same_key key_order (λ key. has_number key.classes class) d ds k.ascends there)
            ∙ ap (λ ds. naming ds class) (sym e);
        ascends = rw e (insert-ascends d ds k.ascends);
      }

  pub kept_put_new : (d : Definition) (named : List NamingList)
      → definitions_from 0 new ≡ insert_definition d (definitions_from 0 rows)
      → list_any (is_definition d.selector d.classes) (definitions_from 0 rows) ≡ false
      → ((class : ℕ) → keys_at named class ≡ cond (has_number d.classes class) (insert_key (key_of d) (keys_at lists class)) (keys_at lists class))
      → DefinitionsKept new (count + 1) named
  kept_put_new d named e absent g =
      let ds = definitions_from 0 rows in
      record {
        all_selectors = l;
        counted = rw (e, k.counted) (sym (length-insert_new key_of is_key_before is_same_key key_order d ds absent));
        named = λ class c. g class ∙ rw (k.named class c, e)
            (sym (keys-insert key_of is_key_before is_same_key key_order (λ key. has_number key.classes class) d ds k.ascends));
        ascends = rw e (insert-ascends d ds k.ascends);
      }

  pub kept_remove : (d : Definition) (named : List NamingList)
      → definitions_from 0 new ≡ filter (λ e. not (is_definition d.selector d.classes e)) (definitions_from 0 rows)
      → list_any (is_definition d.selector d.classes) (definitions_from 0 rows) ≡ true
      → ((class : ℕ) → keys_at named class ≡ cond (has_number d.classes class) (without_key (key_of d) (keys_at lists class)) (keys_at lists class))
      → DefinitionsKept new (count - 1) named
  kept_remove d named e there g =
      let ds = definitions_from 0 rows in
      record {
        all_selectors = l;
        counted = rw e (omega (arith, k.counted, length-without key_of is_key_before is_same_key key_order (key_of d) ds k.ascends there));
        named = λ class c. g class ∙ rw (k.named class c, e)
            (sym (keys-without key_of is_key_before is_same_key key_order (λ key. has_number key.classes class) (key_of d) ds));
        ascends = rw e (filter-ascends (λ e. not (is_definition d.selector d.classes e)) ds k.ascends);
      }

-- the rooms of the lists
rooms-at : (lists : List NamingList) (class : ℕ) → slice_index (rooms_in lists) class ≡ room_at lists class
rooms-at [] class = refl
rooms-at (list ∷ lists) zero = refl
rooms-at (list ∷ lists) (suc class) = rooms-at lists class

pub none_shrinks : (old new : List NamingList) → RoomsGrow old new → NoneShrinks (rooms_in old) (rooms_in new)
none_shrinks old new grow = λ class. let g = grow class in omega (arith, rooms-at old class, rooms-at new class, g)

pub room_of_lists : (rows : List SelectorList) (count : ℕ) (lists : List NamingList) (classes : List ℕ) → DefinitionsKept rows count lists
    → HasRoomIn lists classes → HasNamingRoom (definitions_from 0 rows) (rooms_in lists) classes
room_of_lists rows count lists classes k room = λ class small there.
    let h = room class small there in omega (arith, ap length (k.named class small), rooms-at lists class, h)

-- the rooms after a row's
pub room_grows : (rows : List SelectorList) (i : ℕ) (r new : SelectorList)
    → r ≡ get_or rows i r → r.room ≤ new.room
    → (s : ℕ) → slice_index (rooms_of rows) s ≤ slice_index (rooms_of (set rows i new)) s
room_grows [] i r new g h s = omega arith
room_grows (row ∷ rows) zero r new g h zero = let e = ap (λ (r : SelectorList). r.room) g in omega arith
room_grows (row ∷ rows) zero r new g h (suc s) = omega arith
room_grows (row ∷ rows) (suc i) r new g h zero = omega arith
room_grows (row ∷ rows) (suc i) r new g h (suc s) = room_grows rows i r new g h s

pub room_same : (rows : List SelectorList) (i : ℕ) (r new : SelectorList)
    → r ≡ get_or rows i r → new.room ≡ r.room → rooms_of (set rows i new) ≡ rooms_of rows
room_same [] i r new g h = refl
room_same (row ∷ rows) zero r new g h = let e = ap (λ (r : SelectorList). r.room) g in let q : new.room ≡ row.room = h ∙ e in ap (λ n. n ∷ rooms_of rows) q
room_same (row ∷ rows) (suc i) r new g h = ap (λ ns. row.room ∷ ns) (room_same rows i r new g h)

pub row_room_at : (rows : List SelectorList) (i : ℕ) (r : SelectorList)
    → i < length rows → r ≡ get_or rows i r → slice_index (rooms_of rows) i ≡ r.room
row_room_at [] i r l g = absurd (omega arith)
row_room_at (row ∷ rows) zero r l g = ap (λ (r : SelectorList). r.room) (sym g)
row_room_at (row ∷ rows) (suc i) r l g = row_room_at rows i r (omega arith) g

-- a row with the same definitions
pub same_row : (rows : List SelectorList) (k i : ℕ) (r new : SelectorList)
    → r ≡ get_or rows i r → new.defined ≡ r.defined → definitions_from k (set rows i new) ≡ definitions_from k rows
same_row [] k i r new g h = refl
same_row (row ∷ rows) k zero r new g h =
    let e : new.defined ≡ row.defined = h ∙ ap (λ (r : SelectorList). r.defined) g in
    ap (λ ds. with_selector k ds ++ definitions_from (k + 1) rows) e
same_row (row ∷ rows) k (suc i) r new g h = ap (λ ds. with_selector k row.defined ++ ds) (same_row rows (k + 1) i r new g h)

pub kept_empty : (rows : List SelectorList) (lists : List NamingList) → length rows ≡ SELECTORS → NoneDefined rows
    → ((class : ℕ) → keys_at lists class ≡ []) → DefinitionsKept rows 0 lists
kept_empty rows lists l n none =
    let e = none_from_empty 0 rows n in record {
      all_selectors = l;
      counted = ap length (sym e);
      named = λ class c. none class ∙ ap (λ ds. naming ds class) (sym e);
      ascends = rw e tt;
    }

-- rows with the same definitions
pub same_push : (rows news : List SelectorList) (row new : SelectorList)
    → HaveSameDefinitions rows news → new.defined ≡ row.defined → HaveSameDefinitions (rows ++ row ∷ []) (news ++ new ∷ [])
same_push [] [] row new h e = (e, tt)
same_push (r ∷ rows) (n ∷ news) row new h e = (h.0, same_push rows news row new h.1 e)
same_push rows news row new h e = absurd h

pub same_length : (rows news : List SelectorList) → HaveSameDefinitions rows news → length news ≡ length rows
same_length [] [] h = refl
same_length (r ∷ rows) (n ∷ news) h = ap suc (same_length rows news h.1)
same_length rows news h = absurd h

pub same_definitions : (k : ℕ) (rows news : List SelectorList) → HaveSameDefinitions rows news → definitions_from k news ≡ definitions_from k rows
same_definitions k [] [] h = refl
same_definitions k (r ∷ rows) (n ∷ news) h = let rest = same_definitions (k + 1) rows news h.1 in rw (h.0, rest) refl
same_definitions k rows news h = absurd h

-- a row that has lost a definition has room for it, and so has the table
pub room_for : (rows : List SelectorList) (i s : ℕ) (cs : List ℕ) (r : SelectorList)
    → s ≡ i → i < length rows → r ≡ get_or rows i r → length r.defined < r.room → ListRoomFor (definitions_from 0 rows) (rooms_of rows) s cs
room_for rows i s cs r e l g room = λ _.
    let of = ap length (of_row rows 0 i s r (omega arith) l g) in
    let at = ap (slice_index (rooms_of rows)) e ∙ row_room_at rows i r l g in
    rw at (omega (arith, of, length_with s r.defined))

-- and a table that has room for a definition has it in the row
pub room_in : (rows : List SelectorList) (i s : ℕ) (cs : List ℕ) (r : SelectorList)
    → s ≡ i → i < length rows → r ≡ get_or rows i r → ListRoomFor (definitions_from 0 rows) (rooms_of rows) s cs
    → body_in r.defined cs ≡ None → length r.defined < r.room
room_in rows i s cs r e l g has none =
    let of = ap length (of_row rows 0 i s r (omega arith) l g) in
    let at = ap (slice_index (rooms_of rows)) e ∙ row_room_at rows i r l g in
    let absent = sym (some_body s cs (definitions_from 0 rows)) ∙ ap is_some (sym (body_from_rows rows i s cs r e l g) ∙ none) in
    let room = rw at at (has absent) in
    omega (arith, of, length_with s r.defined, room)
