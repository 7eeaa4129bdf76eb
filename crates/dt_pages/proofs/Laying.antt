-- What is left of a draft's words while they are laid over a tree.
use Rattle.std.proofs.Common.{◌≡◌, ℕ, ◌≤◌, ◌<◌, ◌==◌, true, false, cond, nat_lt, if◌then◌else◌, List, [], ◌∷◌, length, Option, Some, None, is_some, unwrap_or, ◌⊎◌, inl, inr, refl, sym, ap, subst, ◌∙◌, arith, eqb-true, eq-eqb}
use Rattle.std.specs.List.{AllByRecursion}
use Rattle.std.specs.List.Sorted.{IsStrictlySortedBy}
use Rattle.std.proofs.lemmas.Map.Keys.{sorted_tail, sorted_head}
use Rattle.std.specs.Map.{keys_of}
use Rattle.std.specs.Ordering.{nat_cmp, is_eq}
use Rattle.std.specs.declared.cmp.Ordering.TheVariants.{Less}
use Rattle.std.specs.BTreeMap.{BTreeMap}
use Rattle.std.specs.Cmp.{nat_cmp_total}
use Rattle.std.specs.FinMap.{find, get, from_entries, get-from_entries}
use Rattle.dt_pages.specs.Reading.{addresses}
use Rattle.dt_pages.specs.Draft.{Drafted, laid_over}
use Rattle.dt_pages.specs.TreeForm.{TreeForm, word_of_tree, has_room}
use Rattle.dt_pages.proofs.Numbers.{by_cases, is_number}

-- rooms were made for all words of the draft but those that are left
pub record Reserving (drafted : Drafted) (left : List (ℕ × ℕ)) (start now : TreeForm) : Type 0 where
  pub count : length now ≡ 512
  pub words : (q : ℕ) → word_of_tree now q ≡ word_of_tree start q
  pub rooms : (q : ℕ) → is_some (get drafted q) ≡ true → (is_some (find nat_cmp q left) ≡ true) ⊎ (has_room now q ≡ true)
  pub within : (q : ℕ) → addresses ≤ q → find nat_cmp q left ≡ None

-- all words of the draft were laid but those that are left
pub record Laying (drafted : Drafted) (left : List (ℕ × ℕ)) (start now : TreeForm) : Type 0 where
  pub count : length now ≡ 512
  pub words : (q : ℕ) → unwrap_or (find nat_cmp q left) (word_of_tree now q) ≡ laid_over drafted (word_of_tree start) q
  pub rooms : (q : ℕ) → is_some (find nat_cmp q left) ≡ true → has_room now q ≡ true
  pub within : (q : ℕ) → addresses ≤ q → find nat_cmp q left ≡ None
  pub sorted : IsStrictlySortedBy nat_cmp (keys_of left)

-- the word that is found first, and the others
pub find_here : (at word : ℕ) (left : List (ℕ × ℕ)) (q : ℕ) → q ≡ at → find nat_cmp q ((at, word) ∷ left) ≡ Some word
find_here at word left q e = ap (λ b. cond b (Some word) (find nat_cmp q left)) (is_number q at ∙ eq-eqb q at e)

pub find_other : (at word : ℕ) (left : List (ℕ × ℕ)) (q : ℕ) → (q == at) ≡ false → find nat_cmp q ((at, word) ∷ left) ≡ find nat_cmp q left
find_other at word left q f = ap (λ b. cond b (Some word) (find nat_cmp q left)) (is_number q at ∙ f)

pub none_later : (q : ℕ) (es : List (ℕ × ℕ)) → AllByRecursion (λ y. nat_cmp q y ≡ Less) (keys_of es) → find nat_cmp q es ≡ None
none_later q [] all = refl
none_later q (e ∷ es) all = ap (λ o. cond (is_eq o) (Some e.1) (find nat_cmp q es)) all.0 ∙ none_later q es all.1

pub some_none : (v : ℕ) (o : Option ℕ) → o ≡ Some v → o ≡ None → ⊥
some_none v o e f = cc

pub first_within : (at word : ℕ) (left : List (ℕ × ℕ)) → ((q : ℕ) → addresses ≤ q → find nat_cmp q ((at, word) ∷ left) ≡ None) → at < addresses
first_within at word left none = by_cases (nat_lt at addresses)
    (λ t. below at addresses t)
    (λ f. absurd (some_none word _ (find_here at word left at refl) (none at (past at addresses f))))
  where
    below : (a b : ℕ) → nat_lt a b ≡ true → a < b
    below a b t = grind arith

    past : (a b : ℕ) → nat_lt a b ≡ false → b ≤ a
    past a b f = grind arith

pub within_rest : (at word : ℕ) (left : List (ℕ × ℕ)) → ((q : ℕ) → addresses ≤ q → find nat_cmp q ((at, word) ∷ left) ≡ None)
    → (q : ℕ) → addresses ≤ q → find nat_cmp q left ≡ None
within_rest at word left none q past = by_cases (q == at)
    (λ t. let e : q ≡ at = eqb-true q at t in absurd (some_none word _ (find_here at word left q e) (none q past)))
    (λ f. sym (find_other at word left q f) ∙ none q past)

pub reserve_more : (drafted : Drafted) (at word : ℕ) (all left : List (ℕ × ℕ)) (start now new : TreeForm) → all ≡ (at, word) ∷ left → Reserving drafted all start now
    → length new ≡ 512 → ((q : ℕ) → word_of_tree new q ≡ word_of_tree now q) → ((q : ℕ) → has_room now q ≡ true → has_room new q ≡ true)
    → has_room new at ≡ true → Reserving drafted left start new
reserve_more drafted at word all left start now new is before count same others room =
    let was : Reserving drafted ((at, word) ∷ left) start now = subst (λ es. Reserving drafted es start now) is before in
    record {
      count = count;
      words = λ q. same q ∙ was.words q;
      rooms = λ q some. elim (was.rooms q some) [
        | inl found ↦ by_cases (q == at)
            (λ t. let e : q ≡ at = eqb-true q at t in inr (subst (λ (n : ℕ). has_room new n ≡ true) (sym e) room))
            (λ f. inl (ap is_some (sym (find_other at word left q f)) ∙ found))
        | inr there ↦ inr (others q there)
      ];
      within = within_rest at word left was.within;
    }

pub lay_more : (drafted : Drafted) (at word : ℕ) (all left : List (ℕ × ℕ)) (start now new : TreeForm) → all ≡ (at, word) ∷ left → Laying drafted all start now
    → length new ≡ 512 → ((q : ℕ) → word_of_tree new q ≡ (if q == at then word else word_of_tree now q)) → ((q : ℕ) → has_room new q ≡ has_room now q)
    → Laying drafted left start new
lay_more drafted at word all left start now new is before count set same =
    let was : Laying drafted ((at, word) ∷ left) start now = subst (λ es. Laying drafted es start now) is before in
    record {
      count = count;
      words = λ q. by_cases (q == at)
          (λ t. let e : q ≡ at = eqb-true q at t in
          ap (λ o. unwrap_or o (word_of_tree new q)) (subst (λ (n : ℕ). find nat_cmp n left ≡ None) (sym e) (none_later at left (sorted_head nat_cmp at (keys_of left) was.sorted)))
          ∙ set q ∙ ap (λ b. if b then word else word_of_tree now q) t
          ∙ sym (ap (λ o. unwrap_or o (word_of_tree now q)) (find_here at word left q e)) ∙ was.words q)
          (λ f. ap (unwrap_or (find nat_cmp q left)) (set q ∙ ap (λ b. if b then word else word_of_tree now q) f)
          ∙ sym (ap (λ o. unwrap_or o (word_of_tree now q)) (find_other at word left q f)) ∙ was.words q);
      rooms = λ q found. same q ∙ by_cases (q == at)
          (λ t. let e : q ≡ at = eqb-true q at t in was.rooms q (ap is_some (find_here at word left q e)))
          (λ f. was.rooms q (ap is_some (find_other at word left q f) ∙ found));
      within = within_rest at word left was.within;
      sorted = sorted_tail nat_cmp at (keys_of left) was.sorted;
    }

-- the words of a draft by the list of its map's entries
pub record IsListed (drafted : Drafted) (es : List (ℕ × ℕ)) : Type 0 where
  pub found : (q : ℕ) → find nat_cmp q es ≡ get drafted q
  pub within : (q : ℕ) → addresses ≤ q → get drafted q ≡ None

pub listed : (m : BTreeMap ℕ ℕ) (drafted : Drafted) (es : List (ℕ × ℕ)) → from_entries m.entries ≡ drafted → es ≡ m.entries
    → ((q : ℕ) → addresses ≤ q → get {R = nat_cmp} (from_entries m.entries) q ≡ None) → IsListed drafted es
listed m drafted es is all none = record {
  found = λ q. ap (find nat_cmp q) all ∙ sym (get-from_entries nat_cmp_total m.entries q) ∙ ap (λ d. get d q) is;
  within = λ q past. ap (λ d. get d q) (sym is) ∙ none q past;
}

pub reserve_start : (drafted : Drafted) (es : List (ℕ × ℕ)) (start : TreeForm) → IsListed drafted es → length start ≡ 512 → Reserving drafted es start start
reserve_start drafted es start is count = record {
  count = count;
  words = λ q. refl;
  rooms = λ q some. inl (ap is_some (is.found q) ∙ some);
  within = λ q past. is.found q ∙ is.within q past;
}

pub lay_start : (drafted : Drafted) (es : List (ℕ × ℕ)) (start : TreeForm) → IsListed drafted es → length start ≡ 512
    → ((q : ℕ) → is_some (get drafted q) ≡ true → has_room start q ≡ true) → IsStrictlySortedBy nat_cmp (keys_of es) → Laying drafted es start start
lay_start drafted es start is count rooms sorted = record {
  count = count;
  words = λ q. ap (λ o. unwrap_or o (word_of_tree start q)) (is.found q);
  rooms = λ q found. rooms q (ap is_some (sym (is.found q)) ∙ found);
  within = λ q past. is.found q ∙ is.within q past;
  sorted = sorted;
}
