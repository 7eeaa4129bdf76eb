-- A reading depends on the pages that are reached alone.
use Rattle.std.proofs.Common.{◌≡◌, ℕ, zero, suc, ◌/◌, ◌%◌, ◌^◌, ◌<◌, ◌↔◌, if◌then◌else◌, nat_lt, Bool, true, false, refl, sym, ap, ◌∙◌, subst, inl, inr, arith}
use mathlib.Core.Path.{fun_ext}
use Rattle.std.proofs.Common.{unwrap_or}
use Rattle.std.specs.FinMap.{empty, get-empty}
use Rattle.std.specs.Ordering.{nat_cmp}
use Rattle.dt_pages.specs.Image.{look_up}
use Rattle.dt_pages.specs.Reading.{Pages, blank, levels, addresses, follow, reading, Meets, Reaches}
use Rattle.dt_pages.specs.Laws.{SamePage}

-- every page that is met over these levels has the same words in both
abbrev pub SameBelow : Pages → Pages → ℕ → ℕ → Type 0
SameBelow pages others level found = (page : ℕ) → Meets pages level found page → SamePage pages others page

within : (address level : ℕ) → address / 512 ^ level % 512 < 512
within address level = omega arith

pub follow_same : (pages others : Pages) (level found address : ℕ) → SameBelow pages others level found
    → follow pages level found address ≡ follow others level found address
follow_same pages others zero found address same = refl
follow_same pages others (suc level) found address same =
    let at : ℕ = address / 512 ^ level % 512 in
    let here : pages found at ≡ others found at = same found (inl refl) at (within address level) in
    follow_same pages others level (pages found at) address (λ page met. same page (inr (at, within address level, met)))
    ∙ ap (λ next. follow others level next address) here

pub meets_same : (pages others : Pages) (level found page : ℕ) → SameBelow pages others level found
    → Meets pages level found page ↔ Meets others level found page
meets_same pages others zero found page same = ((λ met. met), (λ met. met))
meets_same pages others (suc level) found page same =
    let next : (at : ℕ) → at < 512 → Meets pages level (pages found at) page ↔ Meets others level (others found at) page = λ at below.
    subst (λ to. Meets pages level (pages found at) page ↔ Meets others level to page) (same found (inl refl) at below)
    (meets_same pages others level (pages found at) page (λ q met. same q (inr (at, below, met)))) in (
      (λ met. elim met [ inl is ↦ inl is | inr way ↦ inr (way.0, way.1, (next way.0 way.1).0 way.2) ]),
      (λ met. elim met [ inl is ↦ inl is | inr way ↦ inr (way.0, way.1, (next way.0 way.1).1 way.2) ]),
    )

pub reading_same : (pages others : Pages) (top : ℕ) → ((page : ℕ) → Reaches pages top page → SamePage pages others page)
    → reading pages top ≡ reading others top
reading_same pages others top same =
    fun_ext λ address. ap (λ found. if nat_lt address addresses then found else 0) (follow_same pages others levels top address same)

-- page 0 has zeros
abbrev pub HasZeros : Pages → Type 0
HasZeros pages = (at : ℕ) → at < 512 → pages 0 at ≡ 0

pub zero_follows : (pages : Pages) → HasZeros pages → (level address : ℕ) → follow pages level 0 address ≡ 0
zero_follows pages zeros zero address = refl
zero_follows pages zeros (suc level) address =
    ap (λ next. follow pages level next address) (zeros (address / 512 ^ level % 512) (within address level))
    ∙ zero_follows pages zeros level address

pub zero_meets : (pages : Pages) → HasZeros pages → (level page : ℕ) → Meets pages level 0 page → page ≡ 0
zero_meets pages zeros zero page met = absurd met
zero_meets pages zeros (suc level) page (inl is) = sym is
zero_meets pages zeros (suc level) page (inr way) =
    zero_meets pages zeros level page (subst (λ next. Meets pages level next page) (zeros way.0 way.1) way.2)

same_or_zero : (test : Bool) (found : ℕ) → found ≡ 0 → (if test then found else 0) ≡ 0
same_or_zero true found is = is
same_or_zero false found is = refl

pub zero_reading : (pages : Pages) → HasZeros pages → reading pages 0 ≡ blank
zero_reading pages zeros = fun_ext λ address.
    same_or_zero (nat_lt address addresses) (follow pages levels 0 address) (zero_follows pages zeros levels address)

pub empty_reading : look_up empty ≡ blank
empty_reading = fun_ext λ address. ap (λ found. unwrap_or found 0) (get-empty nat_cmp address)
