-- The first line of bytes.
use Rattle.std.proofs.Common.{◌≡◌, ℕ, ◌<◌, IsTrue, List, [], ◌∷◌, ◌++◌, length, refl, ap, ◌∙◌, arith}
use Rattle.dt_script.specs.Cut.{is_free_of, parts_at}
use Rattle.dt_script.specs.Lines.{without_empty_last, lines_of}
use Rattle.dt_script.proofs.Parts.{parts_only, parts_first, some_part}

-- a part that isn't the last stays
not_last : (part : List ℕ) (parts : List (List ℕ)) → 0 < length parts → without_empty_last (part ∷ parts) ≡ part ∷ without_empty_last parts
not_last part [] some = absurd (omega (arith, some))
not_last [] (next ∷ parts) some = refl
not_last (byte ∷ bytes) (next ∷ parts) some = refl

-- bytes without a line feed are one line
pub one_line : (bytes line : List ℕ) → 0 < length bytes → IsTrue (is_free_of 10 line) → bytes ≡ line → lines_of bytes ≡ line ∷ []
one_line bytes [] some free is = absurd (omega (arith, some, ap length is))
one_line bytes (byte ∷ line) some free is = ap lines_of is ∙ ap without_empty_last (parts_only 10 (byte ∷ line) free)

-- the first line ends at the first line feed
pub line_first : (bytes line rest : List ℕ) → IsTrue (is_free_of 10 line) → bytes ≡ line ++ 10 ∷ rest → lines_of bytes ≡ line ∷ lines_of rest
line_first bytes line rest free is = ap lines_of is ∙ ap without_empty_last (parts_first 10 line rest free) ∙ not_last line (parts_at 10 rest) (some_part 10 rest)
