-- A pair stands for a reading where its parts stand for it, each with what it holds.
use Rattle.std.proofs.Common.{◌≡◌, ℕ, ◌≤◌, Bool, ◌||◌, inl, inr, sym, ◌∙◌, arith}
use Rattle.std.proofs.lemmas.Bool.{or_parts, eqb-true}
use Rattle.dt_pages.specs.Reading.{Reading}
use Rattle.dt_scratch.specs.Query.{Query, arity_of_query}
use Rattle.dt_cells.specs.Held.{Held, IsHeld}
use Rattle.dt_cells.specs.HeldLaws.{by_cases, or_true}
use Rattle.dt_cells.specs.Kind.{Kind, IsLawful}
use Rattle.dt_cells.specs.Standing.{IsStanding}
use Rattle.dt_cells.specs.Pair.{IsForOneClass, IsForMoreClasses, is_single, single_held, multi_held, pair_kind, PairStands}
use Rattle.dt_cells.specs.PairHeldLaws.{multi_at}
use Rattle.dt_cells.specs.PairLaws.{same_first, same_rest}

module _ {V W : Type 0} (a b : Kind) (la : IsLawful a) (lb : IsLawful b) (first_low : V → ℕ) (rest_low : W → ℕ) (first_has : V → ℕ → Bool) (rest_has : W → ℕ → Bool)
    (first_stands : V → Reading → Held → Type 0) (rest_stands : W → Reading → Held → Type 0)
    (sa : IsStanding V a first_low first_has first_stands) (sb : IsStanding W b rest_low rest_has rest_stands) where
  in_arities : IsForOneClass a → IsForMoreClasses b → (v : V) (w : W) (x : Reading) (held : Held) (q : Query)
      → PairStands (first_stands v) (rest_stands w) (first_low v) (rest_low w) x held → IsHeld held q → (1 ≤ arity_of_query q) × (arity_of_query q ≤ b.arities)
  in_arities one more v w x held q both h =
      let four : b.arities ≡ 4 = more.arities in by_cases (is_single q)
      (λ t. let n : arity_of_query q ≡ 1 = eqb-true _ _ t in (omega (arith, n), omega (arith, n, four)))
      (λ f. let r = sb.in_arities w x (multi_held held) q both.rest (λ e. h (sym (multi_at held q f) ∙ e)) in
      let two : rest_low w ≡ 2 = both.rest_low in (omega (arith, r.0, two), r.1))

  pub pair_stands : IsForOneClass a → IsForMoreClasses b → (P : Type 0) (first : P → V) (rest : P → W)
      → IsStanding P (pair_kind a b) (λ p. 1) (λ p s. first_has (first p) s || rest_has (rest p) s)
      (λ p x held. PairStands (first_stands (first p)) (rest_stands (rest p)) (first_low (first p)) (rest_low (rest p)) x held)
  pair_stands one more P first rest = record {
    shows = λ p x held both. (sa.shows (first p) x (single_held held) both.first, sb.shows (rest p) x (multi_held held) both.rest);
    elsewhere = λ p x y held both same. record {
      first = sa.elsewhere (first p) x y (single_held held) both.first (same_first a b la lb held x y same);
      rest = sb.elsewhere (rest p) x y (multi_held held) both.rest (same_rest a b la lb held x y same);
      first_low = both.first_low;
      rest_low = both.rest_low;
    };
    least = λ p x held both. omega arith;
    in_arities = λ p x held q both h. in_arities one more (first p) (rest p) x held q both h;
    tells = λ p x held s both t. elim (or_true (first_has (first p) s) (rest_has (rest p) s) t) [
      | inl u ↦ inl (sa.tells (first p) x (single_held held) s both.first u)
      | inr u ↦ inr (sb.tells (rest p) x (multi_held held) s both.rest u)
    ];
    tells_none = λ p x held s both t placed. let parts = or_parts (first_has (first p) s) (rest_has (rest p) s) t in elim placed [
      | inl u ↦ sa.tells_none (first p) x (single_held held) s both.first parts.0 u
      | inr u ↦ sb.tells_none (rest p) x (multi_held held) s both.rest parts.1 u
    ];
  }
