-- The root that a reader is inside: it is live, and its exits have room for one more.
use Rattle.std.proofs.Common.{◌≡◌, ℕ, suc, ◌+◌, ◌*◌, ◌<◌, ◌^◌, List, length, get_or, ap, ◌∙◌, arith}
use Rattle.dt_pages.specs.Reading.{Reading}
use Rattle.dt_gate.specs.declared.event.RecordWord.TheVariants.{Exits}
use Rattle.dt_gate.specs.declared.gate.Frozen.{Frozen}
use Rattle.dt_gate.specs.declared.gate.Gate.{Gate}
use Rattle.dt_gate.specs.declared.gate.Stage.TheVariants.{In}
use Rattle.dt_gate.specs.Gate.{Bounds, IsLive, root_at, exits_at, seat_at}
use Rattle.dt_gate.specs.Runs.{InRange}
use Rattle.dt_gate.specs.Words.{record_words, record_word, words_of}
use Rattle.dt_gate.proofs.Kept.{Kept}
use Rattle.dt_gate.proofs.CountedRoots.{inside_is_live, root_has_a_place}
use Rattle.dt_gate.proofs.Words.{records_length, get_record, get_in_front}
use Rattle.dt_gate.proofs.Accesses.{counts_fit}

module _ {M I : Type 0} (shows : Reading → List I → Type 0) (bounds : Bounds) where
  pub inside_a_live_root : InRange bounds → (gate : Gate M I) → Kept shows bounds gate → (seat root : ℕ) (frozen : Frozen) → (seat_at gate seat).stage ≡ In root frozen
      → IsLive (root_at gate.author root).standing × (get_or (words_of gate) (record_word root Exits) 0 + 1 < 2 ^ 64)
  inside_a_live_root range gate kept seat root frozen is = (live, omega (arith, found, fits))
    where
      live : IsLive (root_at gate.author root).standing
      live = inside_is_live bounds gate kept.counted seat root frozen is

      below : root < bounds.readers + 2
      below = root_has_a_place bounds gate kept.counted root live

      as_many : length gate.exits ≡ length gate.author.roots
      as_many = omega (arith, kept.counted.exits, kept.counted.roots)

      there : root < length gate.author.roots
      there = omega (arith, below, kept.counted.roots)

      place : record_word root Exits ≡ suc (0 + 3 * root)
      place = omega arith

      in_front : 0 + 3 * root < length (record_words gate.exits gate.author.roots)
      in_front = omega (arith, records_length gate.exits gate.author.roots as_many, there)

      found : get_or (words_of gate) (record_word root Exits) 0 ≡ exits_at gate root
      found = ap (λ k. get_or (words_of gate) k 0) place
          ∙ (get_in_front (record_words gate.exits gate.author.roots) gate.author.words (0 + 3 * root) in_front
          ∙ get_record gate.exits gate.author.roots root Exits as_many there)

      fits : exits_at gate root < 2 ^ 32
      fits = (counts_fit shows bounds range gate kept).exits root live
