-- What a writer took in two turns.
use Rattle.std.proofs.Common.{◌≡◌, ℕ, ◌+◌, List, ◌++◌, length, take, drop, Option, Some, None, ◌-◌, arith, sym, ap, ◌∙◌, append_assoc}
use Rattle.std.specs.Io.KnownBytes.{Appends}
use Rattle.std.proofs.Math.Seq.{take-add}
use Rattle.std.proofs.lemmas.List.{take_all, length-drop}

-- a front of the text, and then a front of the rest
pub appends_more : (old middle new : Option (List ℕ)) (i n : ℕ) (text : List ℕ) → Appends old middle (take i text) → Appends middle new (take n (drop i text)) → Appends old new (take (i + n) text)
appends_more None middle new i n text first second = tt
appends_more (Some xs) None new i n text first second = absurd first
appends_more (Some xs) (Some ys) None i n text first second = absurd second
appends_more (Some xs) (Some ys) (Some zs) i n text first second =
    second ∙ ap (λ l. l ++ take n (drop i text)) first ∙ append_assoc xs (take i text) (take n (drop i text)) ∙ ap (λ l. xs ++ l) (sym (take-add i n text))

-- the rest of a text from a place on, as a slice gives it
pub take-rest : (at : ℕ) (text : List ℕ) → take (length text - at) (drop at text) ≡ drop at text
take-rest at text = take_all (length text - at) (drop at text) (omega (arith, length-drop at text))
