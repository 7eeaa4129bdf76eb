-- The keys of rows as they were before their turns.
use Rattle.std.proofs.Common.{◌≡◌, ℕ, suc, ◌+◌, ◌<◌, List, [], ◌∷◌, ◌++◌, take, get_or, length, Option, None, Some, Contains, filter_map, inl, inr, refl, sym, ap, ◌∙◌, arith}
use Rattle.std.specs.List.{cons_option}
use Rattle.std.proofs.Math.Seq.{take-suc}
use Rattle.std.proofs.lemmas.List.Elements.{filter_map-append}
use Rattle.slab.proofs.SlabLemmas.{Contains-cons_cases}
use Rattle.dt_mrd.specs.declared.turn.Turn.{Turn}
use Rattle.dt_mrd.proofs.Touched.{no_turn}

abbrev pub old_keys : List Turn → List ℕ
old_keys turns = filter_map (λ turn. turn.old) turns

-- one turn more
pub old_more : (turns : List Turn) (i : ℕ) (turn : Turn) (old : Option ℕ) → i < length turns → turn ≡ get_or turns i turn → turn.old ≡ old
    → old_keys (take (i + 1) turns) ≡ old_keys (take i turns) ++ cons_option old []
old_more turns i turn old below at is =
    let next : i + 1 ≡ suc i = omega arith in
    ap (λ n. old_keys (take n turns)) next
    ∙ ap old_keys (take-suc turns i turn below)
    ∙ filter_map-append (λ (t : Turn). t.old) (take i turns) (get_or turns i turn ∷ [])
    ∙ ap (λ o. old_keys (take i turns) ++ cons_option o []) (ap (λ (t : Turn). t.old) (sym at) ∙ is)

-- a turn has the key
pub record HasOld (turns : List Turn) (key : ℕ) : Type 0 where
  pub index : ℕ
  pub within : index < length turns
  pub is : (get_or turns index no_turn).old ≡ Some key

pub old_of : (turns : List Turn) (key : ℕ) → Contains (old_keys turns) key → HasOld turns key
old_of [] key there = absurd (omega (arith, there.1))
old_of (t ∷ ts) key there = go (old_of ts key) t.old refl there
  where
    later : HasOld ts key → HasOld (t ∷ ts) key
    later r = (let below : r.index < length ts = r.within in record { index = suc r.index; within = omega (arith, below); is = r.is })

    go : (Contains (old_keys ts) key → HasOld ts key) → (o : Option ℕ) → t.old ≡ o → Contains (cons_option o (old_keys ts)) key → HasOld (t ∷ ts) key
    go rest None e here = later (rest here)
    go rest (Some k) e here = elim (Contains-cons_cases k key (old_keys ts) here) [
      | inl same ↦ record { index = 0; within = omega arith; is = e ∙ ap Some same }
      | inr more ↦ later (rest more)
    ]
