-- Small worked examples of scripts that can be performed, and of some that can't.
use Rattle.std.specs.Prelude.{◌≡◌, ℕ, ◌≤◌, ◌==◌, Bool, true, false, nat_eq, if◌then◌else◌, List, [], ◌∷◌, ◌++◌, map, refl}
use Rattle.std.specs.List.{All, IsDistinct}
use Rattle.std.proofs.Common.{arith}
use Rattle.std.proofs.lemmas.List.Elements.{All-from_recursion}
use Rattle.dt_script.specs.NameBook.{empty_book}
use Rattle.dt_script.specs.Script.{Part, Phase, Script}
use Rattle.dt_script.specs.Playable.{lines_through, Alternate, Playable}
use Rattle.dt_script.specs.declared.line.CallerLine.{CallerLine}
use Rattle.dt_script.specs.declared.line.CallerLine.TheVariants.{Call, Pin, Unpin}

abbrev one_call : CallerLine
one_call = Call (record { selector = 0; classes = 0 ∷ [] })

abbrev phase : List Part → Phase
phase parts = record { edits = []; callers = parts }

abbrev part : ℕ → List CallerLine → Part
part caller lines = record { caller = caller; lines = lines }

abbrev script : List Phase → Script
script phases = record { names = empty_book; phases = phases }

-- ---- pins and unpins

pin_first : Alternate false (one_call ∷ Pin ∷ one_call ∷ Unpin ∷ Pin ∷ [])
pin_first = (refl, (refl, (refl, tt)))

no_unpin_first : Alternate false (one_call ∷ Unpin ∷ []) → ⊥
no_unpin_first alternate = absurd cc

no_pin_twice : Alternate false (Pin ∷ one_call ∷ Pin ∷ []) → ⊥
no_pin_twice alternate = absurd cc

-- each caller has its own lines, through all phases
through_phases : lines_through 2 (phase (part 2 (Pin ∷ []) ∷ part 1 (one_call ∷ []) ∷ []) ∷ phase (part 2 (Unpin ∷ []) ∷ []) ∷ [])
    ≡ Pin ∷ Unpin ∷ []
through_phases = refl

-- ---- scripts

-- a pin holds on through the phases
abbrev kept : Script
kept = script (phase (part 1 (Pin ∷ []) ∷ []) ∷ phase (part 1 (Unpin ∷ []) ∷ []) ∷ [])

kept_lines : (mine : Bool)
    → Alternate false ((if mine then Pin ∷ [] else []) ++ [] ++ ((if mine then Unpin ∷ [] else []) ++ [] ++ []))
kept_lines true = (refl, (refl, tt))
kept_lines false = tt

kept_caller : (lines : List CallerLine) → All (λ p. (1 ≤ p.caller) × (p.caller ≤ 1)) (part 1 lines ∷ [])
kept_caller lines = All-from_recursion (λ p. (1 ≤ p.caller) × (p.caller ≤ 1)) (part 1 lines ∷ []) ((omega arith, omega arith), tt)

kept_is_playable : Playable 1 kept
unfolding IsDistinct
kept_is_playable = record {
  callers = All-from_recursion (λ p. All (λ q. (1 ≤ q.caller) × (q.caller ≤ 1)) p.callers) kept.phases (kept_caller (Pin ∷ []), (kept_caller (Unpin ∷ []), tt));
  once = All-from_recursion (λ p. IsDistinct nat_eq (map (λ q. q.caller) p.callers)) kept.phases ((tt, tt), ((tt, tt), tt));
  pins = λ caller. kept_lines (1 == caller);
}

no_caller_past_the_readers : Playable 1 (script (phase (part 2 [] ∷ []) ∷ [])) → ⊥
no_caller_past_the_readers playable =
    let few : 2 ≤ 1 = (playable.callers 0 (phase []) (omega arith) 0 (part 2 []) (omega arith)).1 in absurd (omega (arith, few))

no_caller_zero : Playable 1 (script (phase (part 0 [] ∷ []) ∷ [])) → ⊥
no_caller_zero playable =
    let some : 1 ≤ 0 = (playable.callers 0 (phase []) (omega arith) 0 (part 0 []) (omega arith)).0 in absurd (omega (arith, some))

no_caller_twice : Playable 1 (script (phase (part 1 [] ∷ part 1 [] ∷ []) ∷ [])) → ⊥
unfolding IsDistinct
no_caller_twice playable =
    let apart : true ≡ false = (playable.once 0 (phase []) (omega arith)).0.0 in absurd cc

no_unpin_of_no_pin : Playable 1 (script (phase (part 1 (Unpin ∷ []) ∷ []) ∷ [])) → ⊥
no_unpin_of_no_pin playable = let pinned : false ≡ true = (playable.pins 1).0 in absurd cc
