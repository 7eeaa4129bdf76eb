-- A walk over a set, each time to the first number from a bound on: the numbers that are gone by.
use Rattle.std.proofs.Common.{◌≡◌, ℕ, ◌+◌, ◌≤◌, Bool, ◌||◌, nat_lt, List, [], ◌∷◌, ◌++◌, None, Some, filter, refl, sym, ap, ◌∙◌, arith, ltb-true, append_assoc, append-nil}
use Rattle.std.specs.List.{list_any, sum_by}
use Rattle.std.proofs.lemmas.List.Sums.{sum_by_push}
use Rattle.std.proofs.lemmas.Bool.Decides.{nat_tests}
use Rattle.dt_graph.specs.Lawful.{AscendingNumbers}
use Rattle.dt_graph.specs.FirstFrom.{first_from}
use Rattle.dt_graph.proofs.AscendingSets.{ascending_tail, first_some}
use Rattle.dt_propagate.specs.Boxes.{in_turn}

abbrev pub gone_by : ℕ → List ℕ → List ℕ
gone_by least numbers = filter (λ n. nat_lt n least) numbers

pub gone_none : (numbers : List ℕ) → gone_by 0 numbers ≡ []
gone_none [] = refl
gone_none (a ∷ numbers) = let rest = gone_none numbers in grind (arith, nat_tests)

-- all that come after the first are above it
gone_rest : (a : ℕ) (numbers : List ℕ) (least : ℕ) → AscendingNumbers (a ∷ numbers) → least ≤ a + 1 → gone_by least numbers ≡ []
gone_rest a [] least ascending low = refl
gone_rest a (b ∷ numbers) least ascending low =
    let order = ltb-true a b ascending.0 in
    let rest = gone_rest b numbers least ascending.1 (omega arith) in grind (arith, nat_tests)

gone_more : (numbers : List ℕ) (least number next : ℕ) → AscendingNumbers numbers → first_from least numbers ≡ Some number → next ≡ number + 1 →
    gone_by next numbers ≡ gone_by least numbers ++ number ∷ []
gone_more [] least number next ascending found e = absurd cc
gone_more (a ∷ numbers) least number next ascending found e =
    let more = (first_some (a ∷ numbers) least number ascending found).more in
    let later : first_from least numbers ≡ Some number → gone_by next numbers ≡ gone_by least numbers ++ number ∷ [] = λ f. gone_more numbers least number next (ascending_tail a numbers ascending) f e in
    let here = gone_rest a numbers least ascending in
    let above = gone_rest a numbers next ascending in grind (arith, nat_tests)

pub gone_all : (numbers : List ℕ) (least : ℕ) → first_from least numbers ≡ None → gone_by least numbers ≡ numbers
gone_all [] least none = refl
gone_all (a ∷ numbers) least none = let rest = gone_all numbers least in grind (arith, nat_tests)

-- ---- whether it holds of one of them

any_pushed : (test : ℕ → Bool) (numbers : List ℕ) (number : ℕ) → list_any test (numbers ++ number ∷ []) ≡ (list_any test numbers || test number)
any_pushed test [] number = grind arith
any_pushed test (a ∷ numbers) number = let rest = any_pushed test numbers number in grind (arith, rest)

pub any_begun : (test : ℕ → Bool) (numbers : List ℕ) (start : Bool) → start ≡ (start || list_any test (gone_by 0 numbers))
any_begun test numbers start = rw (gone_none numbers) (grind arith)

pub any_more : (test : ℕ → Bool) (numbers : List ℕ) (least number next : ℕ) (start before after : Bool) → AscendingNumbers numbers →
    first_from least numbers ≡ Some number → next ≡ number + 1 → before ≡ (start || list_any test (gone_by least numbers)) →
    after ≡ (before || test number) → after ≡ (start || list_any test (gone_by next numbers))
any_more test numbers least number next start before after ascending found e b a =
    let step = ap (list_any test) (gone_more numbers least number next ascending found e) ∙ any_pushed test (gone_by least numbers) number in
    a ∙ either before start (list_any test (gone_by least numbers)) (test number) (list_any test (gone_by next numbers)) b step
  where
    either : (before start some here more : Bool) → before ≡ (start || some) → more ≡ (some || here) → (before || here) ≡ (start || more)
    either before start some here more b s = grind (arith, b, s)

pub any_all : (test : ℕ → Bool) (numbers : List ℕ) (least : ℕ) (start after : Bool) → first_from least numbers ≡ None →
    after ≡ (start || list_any test (gone_by least numbers)) → after ≡ (start || list_any test numbers)
any_all test numbers least start after none a = a ∙ ap (λ ns. start || list_any test ns) (gone_all numbers least none)

-- ---- what each gives in turn

module _ {T : Type 0} (f : ℕ → List T) where
  pub turns_append : (xs ys : List ℕ) → in_turn f (xs ++ ys) ≡ in_turn f xs ++ in_turn f ys
  turns_append [] ys = refl
  turns_append (x ∷ xs) ys = ap (λ zs. f x ++ zs) (turns_append xs ys) ∙ sym (append_assoc (f x) (in_turn f xs) (in_turn f ys))

  pub turns_begun : (numbers : List ℕ) (start : List T) → start ≡ start ++ in_turn f (gone_by 0 numbers)
  turns_begun numbers start = sym (append-nil start) ∙ ap (λ ns. start ++ in_turn f ns) (sym (gone_none numbers))

  pub turns_more : (numbers : List ℕ) (least number next : ℕ) (start before after : List T) → AscendingNumbers numbers →
      first_from least numbers ≡ Some number → next ≡ number + 1 → before ≡ start ++ in_turn f (gone_by least numbers) →
      after ≡ before ++ f number → after ≡ start ++ in_turn f (gone_by next numbers)
  turns_more numbers least number next start before after ascending found e b a =
      let some : List T = in_turn f (gone_by least numbers) in
      a ∙ ap (λ xs. xs ++ f number) b ∙ append_assoc start some (f number)
      ∙ ap (λ xs. start ++ (some ++ xs)) (sym (append-nil (f number)))
      ∙ ap (λ xs. start ++ xs) (sym (turns_append (gone_by least numbers) (number ∷ [])))
      ∙ ap (λ ns. start ++ in_turn f ns) (sym (gone_more numbers least number next ascending found e))

  pub turns_all : (numbers : List ℕ) (least : ℕ) (start after : List T) → first_from least numbers ≡ None →
      after ≡ start ++ in_turn f (gone_by least numbers) → after ≡ start ++ in_turn f numbers
  turns_all numbers least start after none a = a ∙ ap (λ ns. start ++ in_turn f ns) (gone_all numbers least none)

-- ---- the sum over them

pub sum_begun : (f : ℕ → ℕ) (numbers : List ℕ) → sum_by f (gone_by 0 numbers) ≡ 0
sum_begun f numbers = ap (sum_by f) (gone_none numbers)

pub sum_more : (f : ℕ → ℕ) (numbers : List ℕ) (least number next : ℕ) → AscendingNumbers numbers → first_from least numbers ≡ Some number →
    next ≡ number + 1 → sum_by f (gone_by next numbers) ≡ sum_by f (gone_by least numbers) + f number
sum_more f numbers least number next ascending found e =
    ap (sum_by f) (gone_more numbers least number next ascending found e) ∙ sum_by_push f (gone_by least numbers) number

pub sum_all : (f : ℕ → ℕ) (numbers : List ℕ) (least : ℕ) → first_from least numbers ≡ None → sum_by f (gone_by least numbers) ≡ sum_by f numbers
sum_all f numbers least none = ap (sum_by f) (gone_all numbers least none)
