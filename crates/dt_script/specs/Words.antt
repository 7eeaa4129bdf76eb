-- The words of the rest of a line.
use Rattle.std.specs.Prelude.{◌≡◌, ℕ, ◌<◌, List, [], ◌∷◌, length, Option, None, Some}
use Rattle.dt_script.specs.Cut.{parts_at}
use Rattle.dt_script.specs.declared.words.Words.{Words}
use Rattle.dt_script.specs.declared.words.Words.TheVariants as variant

-- the words that are left of a line: none, or those between the spaces of these bytes
abbrev pub words_left : Option (List ℕ) → List (List ℕ)
words_left None = []
words_left (Some bytes) = parts_at 32 bytes

-- these are the words, where there are at most six
abbrev pub AreWords : Words → List (List ℕ) → Type 0
AreWords variant.None words = words ≡ []
AreWords (variant.One a) words = words ≡ a.now ∷ []
AreWords (variant.Two a b) words = words ≡ a.now ∷ b.now ∷ []
AreWords (variant.Three a b c) words = words ≡ a.now ∷ b.now ∷ c.now ∷ []
AreWords (variant.Four a b c d) words = words ≡ a.now ∷ b.now ∷ c.now ∷ d.now ∷ []
AreWords (variant.Five a b c d e) words = words ≡ a.now ∷ b.now ∷ c.now ∷ d.now ∷ e.now ∷ []
AreWords (variant.Six a b c d e f) words = words ≡ a.now ∷ b.now ∷ c.now ∷ d.now ∷ e.now ∷ f.now ∷ []
AreWords variant.More words = 6 < length words
