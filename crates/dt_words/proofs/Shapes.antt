-- A word that isn't refused before the parser of options sees it is an option's word or begins with no hyphen.
use Rattle.std.proofs.Common.{◌≡◌, ℕ, Bool, ◌==◌, ◌⊎◌, inl, inr, true, false, refl, List, [], ◌∷◌, Option, Some, None}
use Rattle.std.specs.Str.{bytes_eq}
use Rattle.clap.specs.Lexer.{long_of, short_of}
use Rattle.dt_words.specs.Options.{after_hyphens, has_hyphen, name_and_value, option_word}
use Rattle.dt_words.specs.Parsed.{is_stray}

-- the parser of options reads the word as an option
pub record IsOption (word : List ℕ) (parts : List ℕ × Option (List ℕ)) : Type 0 where
  pub hyphen : has_hyphen word ≡ true
  pub option : option_word word ≡ Some parts
  pub goes_on : bytes_eq word (45 ∷ 45 ∷ []) ≡ false
  pub long : long_of word ≡ Some parts

-- or as a value
pub record IsValue (word : List ℕ) : Type 0 where
  pub hyphen : has_hyphen word ≡ false
  pub option : option_word word ≡ None
  pub other : bytes_eq word (45 ∷ 45 ∷ []) ≡ false
  pub long : long_of word ≡ None
  pub short : short_of word ≡ None

abbrev pub Reads : List ℕ → Type 0
Reads word = ((parts : List ℕ × Option (List ℕ)) × IsOption word parts) ⊎ IsValue word

value : (word : List ℕ) → has_hyphen word ≡ false → Reads word
value [] h = inr (record { hyphen = refl; option = refl; other = refl; long = refl; short = refl })
value (a ∷ []) h = inr (record { hyphen = h; option = refl; other = rw h refl; long = rw h refl; short = rw h refl })
value (a ∷ b ∷ []) h = inr (record { hyphen = h; option = refl; other = rw h refl; long = rw h refl; short = rw h refl })
value (a ∷ b ∷ c ∷ rest) h = inr (record { hyphen = h; option = rw h refl; other = rw h refl; long = rw h refl; short = rw h refl })

one_hyphen : (word : List ℕ) → has_hyphen word ≡ true → is_stray word ≡ false → (after : List ℕ) × (after_hyphens word ≡ Some after)
one_hyphen word hyphen kept = go (after_hyphens word) refl
  where
    go : (o : Option (List ℕ)) → after_hyphens word ≡ o → (after : List ℕ) × (after_hyphens word ≡ Some after)
    go None e = let bad : true ≡ false = rw (hyphen, e) at kept in absurd (cc)
    go (Some after) e = (after, e)

two_hyphens : (a b c : ℕ) (rest after : List ℕ) → after_hyphens (a ∷ b ∷ c ∷ rest) ≡ Some after → IsOption (a ∷ b ∷ c ∷ rest) (name_and_value (c ∷ rest))
two_hyphens a b c rest after h = go (a == 45) (b == 45) refl refl
  where
    go : (x y : Bool) → (a == 45) ≡ x → (b == 45) ≡ y → IsOption (a ∷ b ∷ c ∷ rest) (name_and_value (c ∷ rest))
    go true true ex ey = record { hyphen = ex; option = rw (ex, ey) refl; goes_on = rw (ex, ey) refl; long = rw (ex, ey) refl }
    go true false ex ey = let bad : None ≡ Some after = rw (ex, ey) at h in absurd (cc)
    go false y ex ey = let bad : None ≡ Some after = rw ex at h in absurd (cc)

option : (word after : List ℕ) → after_hyphens word ≡ Some after → Reads word
option [] after h = absurd (cc)
option (a ∷ []) after h = absurd (cc)
option (a ∷ b ∷ []) after h = absurd (cc)
option (a ∷ b ∷ c ∷ rest) after h = inl (name_and_value (c ∷ rest), two_hyphens a b c rest after h)

pub reads : (word : List ℕ) → is_stray word ≡ false → Reads word
reads word kept = go (has_hyphen word) refl
  where
    go : (x : Bool) → has_hyphen word ≡ x → Reads word
    go false e = value word e
    go true e = let after = one_hyphen word e kept in option word after.0 after.1
