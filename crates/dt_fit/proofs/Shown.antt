-- The cells as they are shown, against the words that are kept: what a change makes of both, and the places of a row.
use Rattle.std.proofs.Common.{◌≡◌, ◌==◌, ℕ, ◌+◌, ◌-◌, ◌*◌, ◌/◌, ◌%◌, ◌^◌, ◌<◌, Bool, not, ◌&&◌, ◌||◌, List, [], ◌++◌, length, get_or, set, replicate, sym, ap, ◌∙◌, subst, arith, w64, length-append}
use Rattle.std.proofs.lemmas.List.{length-replicate}
use Rattle.std.proofs.lemmas.Grind.{get_or_default_zero}
use Rattle.std.specs.Prelude.{bit_and, bit_or}
use Rattle.std.specs.Int.{bit_not}
use Rattle.dt_graph.specs.ClassSet.{has_bit}
use Rattle.dt_fit.specs.declared.geometry.Geometry.{Geometry}
use Rattle.dt_fit.specs.declared.geometry.Geometry.TheVariants.{Displacements}
use Rattle.dt_fit.specs.declared.journal.WordBefore.{WordBefore}
use Rattle.dt_fit.specs.Geometry.{cell_limit, place_limit}
use Rattle.dt_fit.specs.Fits.{fits, fits_untaken}
use Rattle.dt_fit.specs.Rows.{AreIndexes}
use Rattle.dt_fit.specs.Cells.{Cells, bit_of, is_used, is_kept, is_tried}
use Rattle.dt_fit.specs.Bits.{step_of, are_free, is_open}
use Rattle.dt_fit.specs.Undoing.{undone, AreWithin}
use Rattle.dt_fit.proofs.WordBits.{has_bit-set, has_bit-cleared, has_bit-grown}
use Rattle.dt_fit.proofs.Cells.{used_taken, used_freed, same_used, fits_by_bits, open_by_bits, open_alone}
use Rattle.dt_fit.proofs.Undo.{undone-grown}

abbrev shown_as : Geometry → List ℕ → List ℕ → Cells
shown_as geometry kept tried = record { geometry = geometry; kept = kept; tried = tried }

-- ---- a cell is taken or freed

-- so many words more
abbrev pub grown_to : ℕ → List ℕ → List ℕ
grown_to count words = words ++ replicate (count - length words) 0

grown_inside : (at : ℕ) (words : List ℕ) → at < length (grown_to (at + 1) words)
grown_inside at words =
    omega (arith, length-append words (replicate (at + 1 - length words) 0), length-replicate {A = ℕ} (at + 1 - length words) 0)

pub kept_grown : (geometry : Geometry) (journal : List WordBefore) (words before grown : List ℕ) (count : ℕ) (cells : Cells) → shown_as geometry (undone journal words) words ≡ cells
    → AreWithin journal words → grown ≡ grown_to count words → before ≡ undone journal grown
    → (other : ℕ) → is_used geometry before other ≡ is_kept cells other
kept_grown geometry journal words before grown count cells shown within grown_is same other =
    ap (λ ws. is_used geometry ws other) (same ∙ ap (undone journal) grown_is ∙ undone-grown journal words (replicate (count - length words) 0) within)
    ∙ same_used geometry (undone journal words ++ replicate (count - length words) 0) (undone journal words) other (has_bit-grown (undone journal words) (count - length words))
    ∙ ap (λ c. is_kept c other) shown

pub tried_taken : (geometry : Geometry) (kept words grown changed : List ℕ) (bit old cell : ℕ) (cells : Cells) → shown_as geometry kept words ≡ cells
    → cell < cell_limit cells.geometry → bit ≡ bit_of geometry cell → grown ≡ grown_to (bit / 64 + 1) words → old ≡ get_or grown (bit / 64) old
    → changed ≡ set grown (bit / 64) (bit_or old (1 * 2 ^ (bit % 64) % 2 ^ 64))
    → (other : ℕ) → is_used geometry changed other ≡ ((other == cell) || is_tried cells other)
tried_taken geometry kept words grown changed bit old cell cells shown small bit_is grown_is read changed_is =
    let inside : bit / 64 < length grown = omega (arith, grown_inside (bit / 64) words, ap length grown_is) in
    let word : old ≡ get_or grown (bit / 64) 0 = read ∙ get_or_default_zero grown (bit / 64) old inside in
    let each : (n : ℕ) → has_bit changed n ≡ ((n == bit_of geometry cell) || has_bit words n) = λ n.
    ap (λ ws. has_bit ws n) (changed_is ∙ ap (λ w. set grown (bit / 64) (bit_or w (1 * 2 ^ (bit % 64) % 2 ^ 64))) word)
    ∙ has_bit-set grown bit n inside
    ∙ ap (λ ws. (n == bit) || has_bit ws n) grown_is
    ∙ ap (λ t. (n == bit) || t) (has_bit-grown words (bit / 64 + 1 - length words) n)
    ∙ ap (λ b. (n == b) || has_bit words n) bit_is in
    let P : Cells → Type 0 = λ c. cell < cell_limit c.geometry → (other : ℕ) → is_used geometry changed other ≡ ((other == cell) || is_tried c other) in
    subst P shown (λ limit other. used_taken geometry words changed cell other limit each) small

pub tried_freed : (geometry : Geometry) (kept words changed : List ℕ) (bit old cell : ℕ) (cells : Cells) → shown_as geometry kept words ≡ cells
    → cell < cell_limit cells.geometry → bit ≡ bit_of geometry cell → bit / 64 < length words → old ≡ get_or words (bit / 64) old
    → changed ≡ set words (bit / 64) (bit_and old (bit_not w64 (1 * 2 ^ (bit % 64) % 2 ^ 64)))
    → (other : ℕ) → is_used geometry changed other ≡ (not (other == cell) && is_tried cells other)
tried_freed geometry kept words changed bit old cell cells shown small bit_is inside read changed_is =
    let word : old ≡ get_or words (bit / 64) 0 = read ∙ get_or_default_zero words (bit / 64) old inside in
    let each : (n : ℕ) → has_bit changed n ≡ (not (n == bit_of geometry cell) && has_bit words n) = λ n.
    ap (λ ws. has_bit ws n) (changed_is ∙ ap (λ w. set words (bit / 64) (bit_and w (bit_not w64 (1 * 2 ^ (bit % 64) % 2 ^ 64)))) word)
    ∙ has_bit-cleared words bit n inside
    ∙ ap (λ b. not (n == b) && has_bit words n) bit_is in
    let P : Cells → Type 0 = λ c. cell < cell_limit c.geometry → (other : ℕ) → is_used geometry changed other ≡ (not (other == cell) && is_tried c other) in
    subst P shown (λ limit other. used_freed geometry words changed cell other limit each) small

-- ---- the places of a row

pub same_fits : (geometry : Geometry) (kept words read indexes : List ℕ) (step : ℕ) (cells : Cells) → shown_as geometry kept words ≡ cells → AreIndexes indexes
    → read ≡ words → step ≡ step_of geometry → (place : ℕ) → place < place_limit cells.geometry
    → are_free read step indexes place ≡ fits cells.geometry (is_tried cells) indexes place
same_fits geometry kept words read indexes step cells shown are read_is step_is place inside =
    let P : Cells → Type 0 = λ c. place < place_limit c.geometry → are_free words (step_of geometry) indexes place ≡ fits c.geometry (is_tried c) indexes place in
    ap (λ ws. are_free ws step indexes place) read_is
    ∙ ap (λ s. are_free words s indexes place) step_is
    ∙ subst P shown (λ limit. fits_by_bits geometry words indexes place are limit) inside

pub same_alone : (geometry : Geometry) (kept words read indexes : List ℕ) (step : ℕ) (cells : Cells) → shown_as geometry kept words ≡ cells → AreIndexes indexes
    → read ≡ words → step ≡ step_of geometry → (place : ℕ) → place < place_limit cells.geometry
    → is_open [] read step indexes place ≡ fits cells.geometry (is_tried cells) indexes place
same_alone geometry kept words read indexes step cells shown are read_is step_is place inside =
    let P : Cells → Type 0 = λ c. place < place_limit c.geometry → is_open [] words (step_of geometry) indexes place ≡ fits c.geometry (is_tried c) indexes place in
    ap (λ ws. is_open [] ws step indexes place) read_is
    ∙ ap (λ s. is_open [] words s indexes place) step_is
    ∙ subst P shown (λ limit. open_alone geometry words indexes place are limit) inside

-- the places that are taken are displacements
pub taken_shown : (geometry : Geometry) (kept words : List ℕ) (cells : Cells) → shown_as geometry kept words ≡ cells → cells.geometry ≡ Displacements
    → (place : ℕ) → is_used Displacements words place ≡ is_tried cells place
taken_shown geometry kept words cells shown displaced place =
    ap (λ g. is_used g words place) (sym displaced ∙ sym (ap (λ (c : Cells). c.geometry) shown)) ∙ ap (λ c. is_tried c place) shown

pub same_untaken : (geometry : Geometry) (kept words read taken listed indexes : List ℕ) (step : ℕ) (cells : Cells) (test : ℕ → Bool) → shown_as geometry kept words ≡ cells → AreIndexes indexes
    → read ≡ words → listed ≡ taken → step ≡ step_of geometry → ((place : ℕ) → is_used Displacements taken place ≡ test place)
    → (place : ℕ) → place < place_limit cells.geometry
    → is_open listed read step indexes place ≡ fits_untaken cells.geometry test (is_tried cells) indexes place
same_untaken geometry kept words read taken listed indexes step cells test shown are read_is listed_is step_is same place inside =
    let P : Cells → Type 0 = λ c. place < place_limit c.geometry
    → is_open taken words (step_of geometry) indexes place ≡ fits_untaken c.geometry (is_used Displacements taken) (is_tried c) indexes place in
    ap (λ ws. is_open ws read step indexes place) listed_is
    ∙ ap (λ ws. is_open taken ws step indexes place) read_is
    ∙ ap (λ s. is_open taken words s indexes place) step_is
    ∙ subst P shown (λ limit. open_by_bits geometry taken words indexes place are limit) inside
    ∙ ap (λ t. not t && fits cells.geometry (is_tried cells) indexes place) (same place)
