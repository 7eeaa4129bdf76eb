-- Texts that end at a byte which none of them has are known from all their bytes.
use Rattle.std.proofs.Common.{◌≡◌, ℕ, List, [], ◌∷◌, ◌++◌, drop, length, get_or, flat_map, refl, sym, ap, ◌∙◌, arith, append_assoc, append-nil, length-append}
use Rattle.std.specs.List.{join_with_byte}

-- none of the bytes is this one
abbrev pub Free : ℕ → List ℕ → Type 0
Free c [] = Unit {0}
Free c (x ∷ xs) = (x ≡ c → ⊥) × Free c xs

abbrev pub AllFree : ℕ → List (List ℕ) → Type 0
AllFree c [] = Unit {0}
AllFree c (t ∷ ts) = Free c t × AllFree c ts

pub free_append : (c : ℕ) (xs ys : List ℕ) → Free c xs → Free c ys → Free c (xs ++ ys)
free_append c [] ys free more = more
free_append c (x ∷ xs) ys (other, free) more = (other, free_append c xs ys free more)

pub free_join : (c separator : ℕ) (texts : List (List ℕ)) → (separator ≡ c → ⊥) → AllFree c texts → Free c (join_with_byte separator texts)
free_join c separator [] other free = tt
free_join c separator (t ∷ []) other (free, none) = free
free_join c separator (t ∷ u ∷ texts) other (free, more) =
    free_append c t (separator ∷ join_with_byte separator (u ∷ texts)) free (other, free_join c separator (u ∷ texts) other more)

-- equal bytes are cut at the same place
pub same_cut : (c : ℕ) (xs ys s t : List ℕ) → Free c xs → Free c ys → xs ++ c ∷ s ≡ ys ++ c ∷ t → (xs ≡ ys) × (s ≡ t)
same_cut c [] [] s t free free' e = (refl, ap (drop 1) e)
same_cut c [] (y ∷ ys) s t free (other, free') e = absurd (other (sym (ap (λ l. get_or l 0 0) e)))
same_cut c (x ∷ xs) [] s t (other, free) free' e = absurd (other (ap (λ l. get_or l 0 0) e))
same_cut c (x ∷ xs) (y ∷ ys) s t (other, free) (other', free') e =
    let first : x ≡ y = ap (λ l. get_or l 0 0) e in
    let rest = same_cut c xs ys s t free free' (ap (drop 1) e) in
    ((λ i. first i ∷ rest.0 i), rest.1)

-- each text with the byte at its end
abbrev pub ended : ℕ → List (List ℕ) → List ℕ
ended c texts = flat_map (λ t. t ++ c ∷ []) texts

ended_cons : (c : ℕ) (t : List ℕ) (texts : List (List ℕ)) → ended c (t ∷ texts) ≡ t ++ c ∷ ended c texts
ended_cons c t texts = append_assoc t (c ∷ []) (ended c texts)

no_text : (c : ℕ) (t : List ℕ) (texts : List (List ℕ)) → [] ≡ ended c (t ∷ texts) → ⊥
no_text c t texts e = omega (arith, ap length (e ∙ ended_cons c t texts), length-append t (c ∷ ended c texts))

pub same_texts : (c : ℕ) (xs ys : List (List ℕ)) → AllFree c xs → AllFree c ys → ended c xs ≡ ended c ys → xs ≡ ys
same_texts c [] [] free free' e = refl
same_texts c [] (y ∷ ys) free free' e = absurd (no_text c y ys e)
same_texts c (x ∷ xs) [] free free' e = absurd (no_text c x xs (sym e))
same_texts c (x ∷ xs) (y ∷ ys) (free, more) (free', more') e =
    let cut = same_cut c x y (ended c xs) (ended c ys) free free' (sym (ended_cons c x xs) ∙ e ∙ ended_cons c y ys) in
    let rest = same_texts c xs ys more more' cut.1 in
    λ i. cut.0 i ∷ rest i

-- joined texts, with the byte once more
joined_ended : (c : ℕ) (t : List ℕ) (texts : List (List ℕ)) → join_with_byte c (t ∷ texts) ++ c ∷ [] ≡ ended c (t ∷ texts)
joined_ended c t [] = sym (append-nil (t ++ c ∷ []))
joined_ended c t (u ∷ texts) =
    append_assoc t (c ∷ join_with_byte c (u ∷ texts)) (c ∷ []) ∙ ap (λ l. t ++ c ∷ l) (joined_ended c u texts) ∙ sym (ended_cons c t (u ∷ texts))

-- texts of which there is one at least are known from what they are joined to
pub same_joined : (c : ℕ) (x y : List ℕ) (xs ys : List (List ℕ)) → AllFree c (x ∷ xs) → AllFree c (y ∷ ys)
    → join_with_byte c (x ∷ xs) ≡ join_with_byte c (y ∷ ys) → x ∷ xs ≡ y ∷ ys
same_joined c x y xs ys free free' e =
    same_texts c (x ∷ xs) (y ∷ ys) free free' (sym (joined_ended c x xs) ∙ ap (λ l. l ++ c ∷ []) e ∙ joined_ended c y ys)
