-- The lists and look-ups of the images of the examples.
use Rattle.std.proofs.Common.{◌≡◌, ℕ, List, [], ◌∷◌, length, refl, sym, ◌∙◌, arith}
use Rattle.std.specs.FinMap.{empty, get, entries, find, entries-from_sorted, get-from_sorted, len-empty, len-entries}
use Rattle.std.specs.Ordering.{nat_cmp}
use Rattle.dt_pages.specs.ThreeWords.{three_words, last_changed, one_gone}

-- the three words
abbrev pub three : List (ℕ × ℕ)
three = (0, 1) ∷ (4096, 1) ∷ (16777216, 4294967298) ∷ []

-- the last one changed
abbrev pub changed : List (ℕ × ℕ)
changed = (0, 1) ∷ (4096, 1) ∷ (16777216, 5) ∷ []

-- the second one gone
abbrev pub gone : List (ℕ × ℕ)
gone = (0, 1) ∷ (16777216, 4294967298) ∷ []

pub listed : entries three_words ≡ three
listed = entries-from_sorted nat_cmp three tt

pub found : (address : ℕ) → get three_words address ≡ find nat_cmp address three
found address = get-from_sorted nat_cmp three address tt

pub listed_changed : entries last_changed ≡ changed
listed_changed = entries-from_sorted nat_cmp changed tt

pub found_changed : (address : ℕ) → get last_changed address ≡ find nat_cmp address changed
found_changed address = get-from_sorted nat_cmp changed address tt

pub listed_gone : entries one_gone ≡ gone
listed_gone = entries-from_sorted nat_cmp gone tt

pub found_gone : (address : ℕ) → get one_gone address ≡ find nat_cmp address gone
found_gone address = get-from_sorted nat_cmp gone address tt

no_length : (es : List (ℕ × ℕ)) → length es ≡ 0 → es ≡ []
no_length [] is = refl
no_length (e ∷ es) is = absurd (omega arith)

pub none_listed : entries (empty {X = ℕ} {R = nat_cmp}) ≡ []
none_listed = no_length _ (sym (len-entries (empty {X = ℕ} {R = nat_cmp})) ∙ len-empty nat_cmp ℕ)
