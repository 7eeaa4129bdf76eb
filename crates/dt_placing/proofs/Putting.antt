-- Words that are put in place of others, one by one.
use Rattle.std.proofs.Common.{◌≡◌, ℕ, zero, suc, ◌+◌, ◌<◌, ◌≤◌, List, [], ◌∷◌, length, get_or, set, drop, refl, ap, ◌∙◌, arith}
use Rattle.dt_placing.specs.declared.staged.StagedWord.{StagedWord}
use Rattle.dt_placing.specs.Placing.{with_words}

pub set_past : (l : List ℕ) (i a : ℕ) → length l ≤ i → set l i a ≡ l
set_past [] i a past = refl
set_past (x ∷ xs) zero a past = absurd (omega arith)
set_past (x ∷ xs) (suc i) a past = ap (λ (m : List ℕ). x ∷ m) (set_past xs i a (omega arith))

pub put_step : (staged : List StagedWord) (i : ℕ) (d p : StagedWord) (words : List ℕ) → i < length staged → p ≡ get_or staged i d
    → with_words (drop (i + 1) staged) (set words p.selector p.word) ≡ with_words (drop i staged) words
put_step [] i d p words within is = absurd (omega arith)
put_step (q ∷ qs) zero d p words within is = ap (λ (k : StagedWord). with_words qs (set words k.selector k.word)) is
put_step (q ∷ qs) (suc i) d p words within is =
    let e : suc i + 1 ≡ suc (i + 1) = omega arith in
    ap (λ n. with_words (drop n (q ∷ qs)) (set words p.selector p.word)) e ∙ put_step qs i d p words (omega arith) is

pub put_all : (staged : List StagedWord) (n : ℕ) (words : List ℕ) → length staged ≤ n → with_words (drop n staged) words ≡ words
put_all [] zero words all = refl
put_all [] (suc n) words all = refl
put_all (q ∷ qs) zero words all = absurd (omega arith)
put_all (q ∷ qs) (suc n) words all = put_all qs n words (omega arith)
