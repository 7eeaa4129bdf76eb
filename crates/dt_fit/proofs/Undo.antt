-- What undoing leaves: a change and its undoing, further words, the changes one by one.
use Rattle.std.proofs.Common.{◌≡◌, ℕ, ◌<◌, List, [], ◌∷◌, ◌++◌, length, set, get_or, refl, ap, ◌∙◌, arith, Some}
use Rattle.std.proofs.lemmas.List.{set-set, set-get_or, set-append_left, length-set}
use Rattle.std.proofs.lemmas.List.Elements.{All-head, All-tail, All-pop}
use Rattle.dt_fit.specs.declared.journal.WordBefore.{WordBefore}
use Rattle.dt_fit.specs.Undoing.{undone, AreWithin}

pub undone-last : (journal : List WordBefore) (before : WordBefore) (words : List ℕ)
    → undone (journal ++ before ∷ []) words ≡ undone journal (set words before.at before.word)
undone-last [] before words = refl
undone-last (first ∷ journal) before words = ap (λ ws. set ws first.at first.word) (undone-last journal before words)

-- a change that is noted is undone by what is noted
pub undone_change : (journal : List WordBefore) (words : List ℕ) (at old word : ℕ) → old ≡ get_or words at old
    → undone (journal ++ record { at = at; word = old } ∷ []) (set words at word) ≡ undone journal words
undone_change journal words at old word read =
    undone-last journal (record { at = at; word = old }) (set words at word)
    ∙ ap (undone journal) (set-set words at word old ∙ ap (set words at) read ∙ set-get_or words at old)

pub length-undone : (journal : List WordBefore) (words : List ℕ) → length (undone journal words) ≡ length words
length-undone [] words = refl
length-undone (first ∷ journal) words = length-set (undone journal words) first.at first.word ∙ length-undone journal words

-- words that come after are as they were
pub undone-grown : (journal : List WordBefore) (words more : List ℕ) → AreWithin journal words → undone journal (words ++ more) ≡ undone journal words ++ more
undone-grown [] words more within = refl
undone-grown (first ∷ journal) words more within =
    let inside : first.at < length words = All-head (λ before. before.at < length words) first journal within in
    ap (λ ws. set ws first.at first.word) (undone-grown journal words more (All-tail (λ before. before.at < length words) first journal within))
    ∙ set-append_left (undone journal words) more first.at first.word (omega (arith, inside, length-undone journal words))

-- the newest change goes: the others were of words, too
pub within_left : (journal left : List WordBefore) (before : WordBefore) (words : List ℕ) (at word : ℕ) → journal ≡ left ++ before ∷ [] → AreWithin journal words
    → AreWithin left (set words at word)
within_left journal left before words at word popped within k d inside =
    let all = All-pop (λ b. b.at < length words) journal left (Some before) popped within in
    omega (arith, all.0 k d inside, length-set words at word)
