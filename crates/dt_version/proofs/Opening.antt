-- The words of a fresh gate are all 0.
use Rattle.std.proofs.Common.{◌≡◌, ℕ, zero, suc, ◌+◌, ◌*◌, List, [], ◌∷◌, ◌++◌, replicate, refl, sym, ap, ◌∙◌, arith}
use Rattle.dt_pages.specs.Reading.{Reading, page_words, blank}
use Rattle.dt_gate.specs.declared.gate.Standing.TheVariants.{Now}
use Rattle.dt_gate.specs.Gate.{blank_root, fresh, fresh_author}
use Rattle.dt_gate.specs.Words.{record_words, words_of}
use Rattle.dt_gate.specs.AllBounds.{LawsOfRuns}
use Rattle.atomic_table.specs.Table.{opening}
use Rattle.dt_version.specs.declared.view.Size.{Size}
use Rattle.dt_version.specs.declared.view.View.TheVariants as view
use Rattle.dt_version.specs.Ranges.{AreLimits}
use Rattle.dt_version.specs.Limits.{bounds, word_count}
use Rattle.dt_version.specs.Rule.{Holds}

-- so many words that are 0
abbrev zeros : ℕ → List ℕ
zeros n = replicate n 0

replicate_suc : (n m : ℕ) → n ≡ suc m → zeros n ≡ 0 ∷ zeros m
replicate_suc n m e = ap zeros e

replicate-add : (n m : ℕ) → zeros n ++ zeros m ≡ zeros (n + m)
replicate-add zero m = ap zeros (let e : m ≡ zero + m = omega arith in e)
replicate-add (suc n) m = ap (λ ws. 0 ∷ ws) (replicate-add n m) ∙ sym (replicate_suc (suc n + m) (n + m) (omega arith))

records_zero : (n : ℕ) → record_words (zeros n) (replicate n blank_root) ≡ zeros (3 * n)
records_zero zero = refl
records_zero (suc n) = ap (λ ws. 0 ∷ 0 ∷ 0 ∷ ws) (records_zero n) ∙ sym (ap zeros (let e : 3 * suc n ≡ suc (suc (suc (3 * n))) = omega arith in e))

module _ (M I : Type 0) where
  pub fresh_words : (size : Size) → words_of (fresh {M = M} {I = I} (bounds size)) ≡ zeros (word_count size.readers size.pages)
  fresh_words size =
      ap (λ ws. 0 ∷ ws ++ zeros (page_words * size.pages)) (all size.readers)
      ∙ (ap (λ ws. 0 ∷ ws) (replicate-add (3 * (size.readers + 2)) (page_words * size.pages))
      ∙ sym (replicate_suc (word_count size.readers size.pages) (3 * (size.readers + 2) + page_words * size.pages) (omega arith)))
    where
      all : (readers : ℕ) → record_words (zeros (readers + 2)) (record blank_root { standing = Now } ∷ replicate (readers + 1) blank_root)
          ≡ zeros (3 * (readers + 2))
      all readers =
          ap (λ ws. record_words ws (record blank_root { standing = Now } ∷ replicate (readers + 1) blank_root))
          (replicate_suc (readers + 2) (readers + 1) (omega arith))
          ∙ (ap (λ ws. 0 ∷ 0 ∷ 0 ∷ ws) (records_zero (readers + 1))
          ∙ sym (ap zeros (let e : 3 * (readers + 2) ≡ suc (suc (suc (3 * (readers + 1)))) = omega arith in e)))

module _ {M I : Type 0} where
  pub opens : (shows : Reading → List I → Type 0) → LawsOfRuns M shows → shows blank [] → (size : Size) (versions : ℕ) → AreLimits size.readers size.pages size.entries versions
      → (words : List ℕ) → words ≡ zeros (word_count size.readers size.pages)
      → Holds {M = M} shows size (opening words [] (view.Author size (fresh_author (bounds size))))
  opens shows laws empty size versions limits words is = (
    fresh (bounds size),
    record {
      in_range = record {
        some_reader = limits.some_reader;
        readers = limits.readers_most;
        some_pages = limits.some_pages;
        pages = limits.pages_most;
        some_entry = limits.some_entry;
        entries = limits.entries_most;
      };
      empty = empty;
      reached = laws.begins (bounds size);
    },
    record { words = is ∙ sym (fresh_words M I size); views = refl },
  )
