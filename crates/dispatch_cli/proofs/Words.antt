-- What the number of an ending says, for the words that the arguments give.
use Rattle.std.proofs.Common.{◌≡◌, ◌⊎◌, ◌∙◌, ℕ, List, Option, Result, Ok, Err, Some, None, IfSome, IfErr, MatchResult, [], inl, inr, ap}
use Rattle.dt_run.specs.Status.{number_of}
use Rattle.dt_run.specs.declared.status.Status.{Status}
use Rattle.dispatch_cli.specs.Arguments.{words_in}

-- the words that arguments give
abbrev pub Gives : {A E : Type 0} → (A → List (List ℕ)) → (E → Type 0) → Result A E → List (List ℕ) → Type 0
Gives after other args words = MatchResult args (λ all. words ≡ after all) (λ error. (words ≡ []) × other error)

pub given_words : {A E : Type 0} (after : A → List (List ℕ)) (other : E → Type 0) (args : Result A E) (words : List (List ℕ))
    → Gives after other args words → words ≡ words_in after args
given_words after other (Ok all) words given = given
given_words after other (Err error) words given = given.0

-- a number says what its status says
pub numbers_say : {n : ℕ} (s a b : Status) → n ≡ number_of s → (s ≡ a) ⊎ (s ≡ b) → (n ≡ number_of a) ⊎ (n ≡ number_of b)
numbers_say s a b e (inl first) = inl (e ∙ ap number_of first)
numbers_say s a b e (inr second) = inr (e ∙ ap number_of second)

-- so where the bytes are told
pub numbers_end : {n : ℕ} (s a b : Status) (P : List ℕ → Type 0) (left : Option (List ℕ)) → n ≡ number_of s
    → IfSome left (λ bytes. P bytes → (s ≡ a) ⊎ (s ≡ b)) → IfSome left (λ bytes. P bytes → (n ≡ number_of a) ⊎ (n ≡ number_of b))
numbers_end s a b P (Some bytes) e ends = λ is. numbers_say s a b e (ends is)
numbers_end s a b P None e ends = tt

-- what holds of all bytes holds of those that are told
pub whatever_bytes : (left : Option (List ℕ)) (P : List ℕ → Type 0) (Q : Type 0) → Q → IfSome left (λ bytes. P bytes → Q)
whatever_bytes (Some bytes) P Q q = λ is. q
whatever_bytes None P Q q = tt

-- where words came, no other error did
pub no_other_error : {A E : Type 0} (after : A → List (List ℕ)) (other wanted : E → Type 0) (P : Type 0) (args : Result A E) (words : List (List ℕ))
    → ((error : E) → other error → wanted error → ⊥) → Gives after other args words → IfErr args (λ error. wanted error → P)
no_other_error after other wanted P (Ok all) words never given = tt
no_other_error after other wanted P (Err error) words never given = λ is. absurd (never error given.1 is)

-- what holds anyway holds at an error
pub whatever_error : {A E : Type 0} (args : Result A E) (wanted : E → Type 0) (P : Type 0) → P → IfErr args (λ error. wanted error → P)
whatever_error (Ok all) wanted P p = tt
whatever_error (Err error) wanted P p = λ is. p
