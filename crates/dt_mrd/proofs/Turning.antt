-- The tag that was chosen and the words that were laid, as one turn.
use Rattle.std.proofs.Common.{◌≡◌, ℕ, Bool, ◌&&◌, subst, refl}
use Rattle.dt_pages.specs.Reading.{Reading}
use Rattle.dt_mrd.specs.Midway.{TagChosen, WordsLaid, Turned, given_up}

pub turned_of : (before tag : ℕ) (given among old new : ℕ → Bool) (code : ℕ → ℕ) (used taken used_then taken_then : ℕ → Bool) (d then_words : Reading)
    → ((class : ℕ) → given class ≡ (old class && new class)) → ((class : ℕ) → among class ≡ new class)
    → TagChosen before tag given among used taken used_then taken_then → WordsLaid before tag given among code d then_words
    → Turned before tag old new code used taken d used_then taken_then then_words
turned_of before tag given among old new code used taken used_then taken_then d then_words given_is among_is chosen laid =
    let both : given ≡ (λ (class : ℕ). old class && new class) = (λ i class. given_is class i) in
    let same : among ≡ new = (λ i class. among_is class i) in
    let choice : TagChosen before tag (λ (class : ℕ). old class && new class) new used taken used_then taken_then
    = subst (λ (g : ℕ → Bool). TagChosen before tag g new used taken used_then taken_then) both
    (subst (λ (n : ℕ → Bool). TagChosen before tag given n used taken used_then taken_then) same chosen) in
    let words : WordsLaid before tag (λ (class : ℕ). old class && new class) new code d then_words
    = subst (λ (g : ℕ → Bool). WordsLaid before tag g new code d then_words) both
    (subst (λ (n : ℕ → Bool). WordsLaid before tag given n code d then_words) same laid) in
    record {
      freed = choice.freed;
      given = given_up taken before;
      cleared = words.cleared;
      frees = choice.frees;
      gives = λ displacement. refl;
      chosen = choice.chosen;
      takes = choice.takes;
      has = choice.has;
      clears = words.clears;
      lays = words.lays;
    }
