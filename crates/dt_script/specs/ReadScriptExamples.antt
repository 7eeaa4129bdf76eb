-- Small sources that are read as scripts.
use Rattle.std.specs.Prelude.{◌≡◌, ℕ, List, [], ◌++◌, length, None, Some, Err, refl}
use Rattle.std.proofs.Common.{ap, arith}
use Rattle.std.proofs.lemmas.List.{length-append}
use Rattle.dt_script.specs.ReadScript.{WasRead, IsFaultOfSource, IsFaultCounted}
use Rattle.dt_script.specs.declared.script_fault.ScriptFault.TheVariants.{ReadFault, TooLong, NoHeader, NoEnd}

-- a source with nothing left has no header
nothing_left : IsFaultOfSource 8 (Some []) (Some []) NoHeader
nothing_left = ([], record { whole = refl; end = refl; short = omega arith }, λ texts is. absurd (cc))

-- 16,777,217 bytes are too long, and these are lost before it is told; a read fault loses fewer
too_long : (lost rest : List ℕ) → length lost ≡ 16_777_217 → IsFaultOfSource 8 (Some (lost ++ rest)) (Some rest) TooLong
too_long lost rest many = (lost, many, refl)

not_read : (bytes : List ℕ) → length bytes ≡ 16_777_217 → WasRead None None bytes → ⊥
not_read bytes many was = let short = was.short in absurd (omega (arith, many, short))

no_read_fault : (left : List ℕ) → length left ≡ 16_777_217 → IsFaultOfSource 8 (Some left) (Some []) ReadFault → ⊥
no_read_fault left many (lost, few, is) =
    let same = ap length is in
    let both = length-append lost [] in
    absurd (omega (arith, many, few, same, both))

-- a source that failed the third time has failed three times, and a script without an end is no fault of its source
third_fault : IsFaultCounted (Err ReadFault) 2 3
third_fault = refl

no_fault : IsFaultCounted (Err NoEnd) 2 2
no_fault = refl
