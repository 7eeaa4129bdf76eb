-- Six pages show an image of three words.
use Rattle.std.proofs.Common.{◌≡◌, ◌≢◌, ℕ, ◌/◌, ◌%◌, ◌^◌, ◌<◌, ◌≤◌, ◌==◌, nat_lt, Bool, true, false, cond, unwrap_or, Some, None, refl, sym, ap, ◌∙◌, arith, eq-eqb, ne_eqb, ltb-true, ltb-false, inl, inr}
use mathlib.Core.Path.{fun_ext}
use native.Mathlib.Decide.{ℕ_discrete}
use Rattle.std.proofs.lemmas.Bool.Decides.{nat_tests}
use Rattle.dt_pages.specs.Reading.{levels, addresses, follow, reading, Meets, Reaches}
use Rattle.dt_pages.specs.Image.{look_up}
use Rattle.dt_pages.proofs.Nodes.{same_test}
use Rattle.dt_pages.proofs.ThreeWords.{found}
use Rattle.dt_pages.specs.ThreeWords.{three_words, six_pages}

-- the word at an address, by cases
abbrev chosen : ℕ → ℕ
chosen address = cond (address == 0) 1 (cond (address == 4096) 1 (cond (address == 16777216) 4294967298 0))

looked_up : (address : ℕ) → look_up three_words address ≡ chosen address
looked_up address =
    ap (λ word. unwrap_or word 0) (found address)
    ∙ simp (same_test address 0, same_test address 4096, same_test address 16777216) (pick (address == 0) (address == 4096) (address == 16777216))
  where
    pick : (a b c : Bool) → ◌≡◌ {A = ℕ} (unwrap_or (cond a (Some 1) (cond b (Some 1) (cond c (Some 4294967298) None))) 0) (cond a 1 (cond b 1 (cond c 4294967298 0)))
    pick true b c = refl
    pick false true c = refl
    pick false false true = refl
    pick false false false = refl

-- at the three addresses
chosen_other : (address : ℕ) → address ≢ 0 → address ≢ 4096 → address ≢ 16777216 → chosen address ≡ 0
chosen_other address a b c = simp (ne_eqb address 0 a, ne_eqb address 4096 b, ne_eqb address 16777216 c) refl

-- a test of a place
at_place : (k i x y : ℕ) → k ≡ i → cond (k == i) x y ≡ x
at_place k i x y e = ap (λ b. cond b x y) (eq-eqb k i e)

not_at_place : (k i x y : ℕ) → k ≢ i → cond (k == i) x y ≡ y
not_at_place k i x y n = ap (λ b. cond b x y) (ne_eqb k i n)

module _ (address : ℕ) (below : address < 2 ^ 27) where
  at_word : (place : ℕ) {word : ℕ} → chosen place ≡ word → address ≡ place → chosen address ≡ word
  at_word place is same = ap chosen same ∙ is

  -- a leaf page whose only word stands at place 0
  leaf : (word : ℕ) → (address / 1 % 512 ≡ 0 → chosen address ≡ word) → (0 ≢ address / 1 % 512 → chosen address ≡ 0) → cond (0 == address / 1 % 512) word 0 ≡ chosen address
  leaf word here other = elim (ℕ_discrete 0 (address / 1 % 512)) [
    | yes e ↦ at_place 0 (address / 1 % 512) word 0 e ∙ sym (here (sym e))
    | no n ↦ not_at_place 0 (address / 1 % 512) word 0 n ∙ sym (other n)
  ]

  from_two : address / 262144 % 512 ≡ 0 → follow six_pages 2 2 address ≡ chosen address
  from_two first = elim (ℕ_discrete 0 (address / 512 % 512)) [
    | yes e ↦ ap (λ p. six_pages p (address / 1 % 512)) (at_place 0 (address / 512 % 512) 4 _ e)
        ∙ leaf 1 (λ last. at_word 0 refl (omega (arith, first, e, last, below))) (λ n. chosen_other address (omega arith) (omega arith) (omega arith))
    | no n ↦ ap (λ p. six_pages p (address / 1 % 512)) (not_at_place 0 (address / 512 % 512) 4 _ n) ∙ elim (ℕ_discrete 8 (address / 512 % 512)) [
      | yes e ↦ ap (λ p. six_pages p (address / 1 % 512)) (at_place 8 (address / 512 % 512) 5 _ e)
          ∙ leaf 1 (λ last. at_word 4096 refl (omega (arith, first, e, last, below))) (λ m. chosen_other address (omega arith) (omega arith) (omega arith))
      | no m ↦ ap (λ p. six_pages p (address / 1 % 512)) (not_at_place 8 (address / 512 % 512) 5 _ m)
          ∙ sym (chosen_other address (omega arith) (omega arith) (omega arith))
    ]
  ]

  from_three : address / 262144 % 512 ≡ 64 → follow six_pages 2 3 address ≡ chosen address
  from_three first = elim (ℕ_discrete 0 (address / 512 % 512)) [
    | yes e ↦ ap (λ p. six_pages p (address / 1 % 512)) (at_place 0 (address / 512 % 512) 6 _ e)
        ∙ leaf 4294967298 (λ last. at_word 16777216 refl (omega (arith, first, e, last, below))) (λ n. chosen_other address (omega arith) (omega arith) (omega arith))
    | no n ↦ ap (λ p. six_pages p (address / 1 % 512)) (not_at_place 0 (address / 512 % 512) 6 _ n)
        ∙ sym (chosen_other address (omega arith) (omega arith) (omega arith))
  ]

  followed : follow six_pages levels 1 address ≡ chosen address
  followed = elim (ℕ_discrete 0 (address / 262144 % 512)) [
    | yes e ↦ ap (λ p. follow six_pages 2 p address) (at_place 0 (address / 262144 % 512) 2 _ e) ∙ from_two (sym e)
    | no n ↦ ap (λ p. follow six_pages 2 p address) (not_at_place 0 (address / 262144 % 512) 2 _ n) ∙ elim (ℕ_discrete 64 (address / 262144 % 512)) [
      | yes e ↦ ap (λ p. follow six_pages 2 p address) (at_place 64 (address / 262144 % 512) 3 _ e) ∙ from_three (sym e)
      | no m ↦ ap (λ p. follow six_pages 2 p address) (not_at_place 64 (address / 262144 % 512) 3 _ m)
          ∙ sym (chosen_other address (omega arith) (omega arith) (omega arith))
    ]
  ]

pub shown : reading six_pages 1 ≡ look_up three_words
shown = fun_ext λ address. go address (nat_lt address addresses) refl ∙ sym (looked_up address)
  where
    go : (address : ℕ) (inside : Bool) → nat_lt address addresses ≡ inside → cond inside (follow six_pages levels 1 address) 0 ≡ chosen address
    go address true is = followed address (ltb-true address addresses is)
    go address false is = let past : addresses ≤ address = ltb-false address addresses is in sym (chosen_other address (omega (arith, past)) (omega (arith, past)) (omega (arith, past)))

-- the words of the upper three pages are numbers of the six, or 0
top_word : (at : ℕ) → six_pages 1 at < 4
top_word at = grind (arith, nat_tests)

upper_word : (found at : ℕ) → found < 4 → six_pages found at ≤ 6
upper_word found at small = grind (arith, nat_tests)

pub only_six : (page : ℕ) → Reaches six_pages 1 page → page ≤ 6
only_six page (inl same) = omega (arith, same)
only_six page (inr way) = below (six_pages 1 way.0) (top_word way.0) way.2
  where
    lowest : (found : ℕ) → found ≤ 6 → Meets six_pages 1 found page → page ≤ 6
    lowest found small (inl same) = omega (arith, same, small)
    lowest found small (inr way) = absurd way.2

    below : (found : ℕ) → found < 4 → Meets six_pages 2 found page → page ≤ 6
    below found small (inl same) = omega (arith, same, small)
    below found small (inr way) = lowest (six_pages found way.0) (upper_word found way.0 small) way.2
