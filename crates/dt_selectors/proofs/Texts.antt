-- Lemmas on the places of texts in a list, and on a list with one more text.
use Rattle.std.proofs.Common.{◌≡◌, ℕ, zero, suc, ◌+◌, ◌<◌, ◌⊎◌, Bool, true, false, not, ◌||◌, cond, nat_lt, nat_eq, List, [], ◌∷◌, ◌++◌, map, length, Option, None, Some, is_some, option_map, slice_get, position, All, IsTrue, refl, sym, ap, subst, ◌∙◌, inl, inr, arith, add-one, length-append}
use Rattle.std.proofs.lemmas.Bool.Decides.{nat_tests}
use Rattle.std.proofs.lemmas.List.Elements.{All-push}
use Rattle.std.specs.Cmp.Lexicographic.{pointwise}
use Rattle.std.proofs.lemmas.Option.{slice_get_within, get_or_from_slice_get}
use Rattle.std.specs.List.{list_any, position_or_len}
use Rattle.std.proofs.lemmas.List.{map-append}
use Rattle.indexmap.specs.IndexSet.{insert_key}
use Rattle.dt_graph.proofs.SameLists.{same_list-self, same_list-pointwise, same_list_equal}
use Rattle.dt_selectors.specs.Names.{Names, same_text, is_name, position_of, with_text, with_name}
use Rattle.dt_selectors.specs.NameLists.{NumbersStayAlong}
use Rattle.dt_selectors.specs.Lawful.{LawfulNames, HasDistinctTexts}
use Rattle.dt_selectors.specs.Laws.{KnownNamesStay, NewNamesAreLast, NumbersStay}

-- a place in a list, where one more text stands before the list
abbrev one_later : Option ℕ → Option ℕ
one_later = option_map (λ place. place + 1)

some-same : (i j : ℕ) → Some i ≡ Some j → i ≡ j
some-same i j e = cc

-- where the set finds a text, the list has it
module _ {K : Type 0} (text_of : K → List ℕ) (text : List ℕ) where
  abbrev is_text : K → Bool
  is_text key = pointwise nat_eq text (text_of key)

  counted : (b : Bool) (n len : ℕ)
      → cond (nat_lt (cond (not b) (1 + n) 0) (suc len)) (Some (cond (not b) (1 + n) 0)) None
      ≡ cond b (Some 0) (one_later (cond (nat_lt n len) (Some n) None))
  counted true n len = let e : nat_lt 0 (suc len) ≡ true = grind (arith, nat_tests) in rw e refl
  counted false n len = by (nat_lt n len) refl
    where
      by : (t : Bool) → nat_lt n len ≡ t → cond (nat_lt (1 + n) (suc len)) (Some (1 + n)) None ≡ one_later (cond t (Some n) None)
      by true e = let f : nat_lt (1 + n) (suc len) ≡ true = grind (arith, nat_tests) in let g : 1 + n ≡ n + 1 = omega arith in rw (f, g) refl
      by false e = let f : nat_lt (1 + n) (suc len) ≡ false = grind (arith, nat_tests) in rw f refl

  pub position_of-position : (keys : List K) → position (λ key. pointwise nat_eq text (text_of key)) keys ≡ position_of text (map text_of keys)
  position_of-position [] = refl
  position_of-position (key ∷ keys) =
      counted (is_text key) (position_or_len is_text keys) (length keys)
      ∙ ap (λ b. cond b (Some 0) (one_later (position is_text keys))) (sym (same_list-pointwise (text_of key) text))
      ∙ ap (λ p. cond (same_text (text_of key) text) (Some 0) (one_later p)) (position_of-position keys)

  any-step : (b : Bool) (p : Option ℕ) → (b || is_some p) ≡ is_some (cond b (Some 0) (one_later p))
  any-step b None = grind arith
  any-step b (Some i) = grind arith

  pub position_of-any : (keys : List K) → list_any (λ key. pointwise nat_eq text (text_of key)) keys ≡ is_some (position_of text (map text_of keys))
  position_of-any [] = refl
  position_of-any (key ∷ keys) =
      ap (λ b. b || list_any is_text keys) (sym (same_list-pointwise (text_of key) text))
      ∙ ap (λ r. same_text (text_of key) text || r) (position_of-any keys)
      ∙ any-step (same_text (text_of key) text) (position_of text (map text_of keys))

-- the set puts a new text last
pub texts_of-inserted : {K : Type 0} (text_of : K → List ℕ) (text : List ℕ) (keys after : List K) (key : K)
    → after ≡ insert_key (λ x y. pointwise nat_eq (text_of x) (text_of y)) keys key
    → text_of key ≡ text → position_of text (map text_of keys) ≡ None → map text_of after ≡ map text_of keys ++ text ∷ []
texts_of-inserted text_of text keys after key inserted is new =
    let absent : list_any (λ other. pointwise nat_eq (text_of key) (text_of other)) keys ≡ false =
    position_of-any text_of (text_of key) keys ∙ ap (λ t. is_some (position_of t (map text_of keys))) is ∙ ap is_some new in
    ap (map text_of) (inserted ∙ ap (λ b. cond b keys (keys ++ key ∷ [])) absent)
    ∙ map-append text_of keys (key ∷ []) ∙ ap (λ t. map text_of keys ++ t ∷ []) is

-- the texts with one more: they stay where it is known, and it goes last where it is new
with_text-step : (b : Bool) (p : Option ℕ) (text t : List ℕ) (texts w : List (List ℕ))
    → w ≡ cond (is_some p) texts (texts ++ text ∷ [])
    → cond b (t ∷ texts) (t ∷ w)
    ≡ cond (is_some (cond b (Some 0) (one_later p))) (t ∷ texts) (t ∷ (texts ++ text ∷ []))
with_text-step true p text t texts w h = refl
with_text-step false None text t texts w h = ap (λ rest. t ∷ rest) h
with_text-step false (Some i) text t texts w h = ap (λ rest. t ∷ rest) h

pub with_text-is : (text : List ℕ) (texts : List (List ℕ)) → with_text text texts ≡ cond (is_some (position_of text texts)) texts (texts ++ text ∷ [])
with_text-is text [] = refl
with_text-is text (t ∷ texts) =
    with_text-step (same_text t text) (position_of text texts) text t texts (with_text text texts) (with_text-is text texts)

pub with_text-known : (text : List ℕ) (texts : List (List ℕ)) (i : ℕ) → position_of text texts ≡ Some i → with_text text texts ≡ texts
with_text-known text texts i known = rw (with_text-is text texts, known) refl

pub with_text-new : (text : List ℕ) (texts : List (List ℕ)) → position_of text texts ≡ None → with_text text texts ≡ texts ++ text ∷ []
with_text-new text texts new = rw (with_text-is text texts, new) refl

pub with_name-known : (names : Names) (text : List ℕ) (i : ℕ) → position_of text names.texts ≡ Some i → with_name names text ≡ names
with_name-known names text i known = ap (λ texts. record { limit = names.limit; texts = texts }) (with_text-known text names.texts i known)

-- a text that is there keeps its place when others come
stays-step : (b : Bool) (p q : Option ℕ) (i : ℕ) → ((j : ℕ) → p ≡ Some j → q ≡ Some j)
    → cond b (Some 0) (one_later p) ≡ Some i
    → cond b (Some 0) (one_later q) ≡ Some i
stays-step true p q i h e = e
stays-step false None q i h e = absurd cc
stays-step false (Some j) q i h e = ap (one_later) (h j refl) ∙ e

pub position_of-stays : (text : List ℕ) (texts more : List (List ℕ)) (i : ℕ) → position_of text texts ≡ Some i → position_of text (texts ++ more) ≡ Some i
position_of-stays text [] more i e = absurd cc
position_of-stays text (t ∷ texts) more i e =
    stays-step (same_text t text) (position_of text texts) (position_of text (texts ++ more)) i (λ j h. position_of-stays text texts more j h) e

-- a new text has the place after the others
last-step : (b : Bool) (p q : Option ℕ) (n : ℕ) → (p ≡ None → q ≡ Some n)
    → cond b (Some 0) (one_later p) ≡ None
    → cond b (Some 0) (one_later q) ≡ Some (suc n)
last-step true p q n h e = absurd cc
last-step false None q n h e = rw (h refl, add-one) refl
last-step false (Some j) q n h e = absurd cc

pub position_of-last : (text : List ℕ) (texts : List (List ℕ)) → position_of text texts ≡ None → position_of text (texts ++ text ∷ []) ≡ Some (length texts)
position_of-last text [] e = rw (same_list-self text) refl
position_of-last text (t ∷ texts) e =
    last-step (same_text t text) (position_of text texts) (position_of text (texts ++ text ∷ [])) (length texts) (position_of-last text texts) e

-- the text stands at its place
stored-step : (b : Bool) (p : Option ℕ) (t text : List ℕ) (texts : List (List ℕ)) (i : ℕ) → (b ≡ true → t ≡ text)
    → ((j : ℕ) → p ≡ Some j → slice_get texts j ≡ Some text)
    → cond b (Some 0) (one_later p) ≡ Some i → slice_get (t ∷ texts) i ≡ Some text
stored-step true p t text texts i same h e = subst (λ n. slice_get (t ∷ texts) n ≡ Some text) (some-same 0 i e) (ap Some (same refl))
stored-step false None t text texts i same h e = absurd cc
stored-step false (Some j) t text texts i same h e =
    subst (λ n. slice_get (t ∷ texts) n ≡ Some text) (some-same (suc j) i (ap Some (sym (add-one j)) ∙ e)) (h j refl)

pub position_of-stored : (text : List ℕ) (texts : List (List ℕ)) (i : ℕ) → position_of text texts ≡ Some i → slice_get texts i ≡ Some text
position_of-stored text [] i e = absurd cc
position_of-stored text (t ∷ texts) i e =
    stored-step (same_text t text) (position_of text texts) t text texts i (same_list_equal t text) (position_of-stored text texts) e

pub position_of-within : (text : List ℕ) (texts : List (List ℕ)) (i : ℕ) → position_of text texts ≡ Some i → i < length texts
position_of-within text texts i e = slice_get_within texts i text (position_of-stored text texts i e)

-- what holds of each text holds of the one that stands there
pub All-slice_get : {X : Type 0} (P : X → Type 0) (xs : List X) (i : ℕ) (x : X) → All P xs → slice_get xs i ≡ Some x → P x
All-slice_get P xs i x all e = subst P (get_or_from_slice_get xs i x x e) (all i x (slice_get_within xs i x e))

-- a text of the longer list is one of the list, or the last
last-cases : (texts : List (List ℕ)) (last text : List ℕ) (i : ℕ) → slice_get (texts ++ last ∷ []) i ≡ Some text
    → (slice_get texts i ≡ Some text) ⊎ ((i ≡ length texts) × (last ≡ text))
last-cases [] last text zero e = inr (refl, cc)
last-cases [] last text (suc i) e = absurd cc
last-cases (t ∷ texts) last text zero e = inl e
last-cases (t ∷ texts) last text (suc i) e =
    elim (last-cases texts last text i e) [ inl h ↦ inl h | inr h ↦ inr (ap suc (h.0), h.1) ]

HasDistinctTexts-last : (texts : List (List ℕ)) (text : List ℕ) → HasDistinctTexts texts → position_of text texts ≡ None → HasDistinctTexts (texts ++ text ∷ [])
HasDistinctTexts-last texts text distinct new i t e =
    elim (last-cases texts text t i e) [
      | inl h ↦ position_of-stays t texts (text ∷ []) i (distinct i t h)
      | inr h ↦ subst (λ u. position_of u (texts ++ text ∷ []) ≡ Some i) (h.1) (position_of-last text texts new ∙ ap Some (sym (h.0)))
    ]

-- lawful names stay lawful when a new name goes last
pub LawfulNames-last : (limit : ℕ) (texts : List (List ℕ)) (text : List ℕ)
    → LawfulNames (record { limit = limit; texts = texts }) → IsTrue (is_name text) → position_of text texts ≡ None → length texts < limit
    → LawfulNames (record { limit = limit; texts = texts ++ text ∷ [] })
LawfulNames-last limit texts text lawful name new room = record {
  distinct = HasDistinctTexts-last texts text lawful.distinct new;
  are_names = All-push (λ t. IsTrue (is_name t)) texts text lawful.are_names name;
  few = rw (length-append texts (text ∷ [])) (omega arith);
  limit_in_range = lawful.limit_in_range;
}

-- a name keeps its number, and a new one gets the next
pub numbers_stay : NumbersStay
numbers_stay names name added number is =
    by (is_some (position_of added names.texts)) refl
  where
    by : (b : Bool) → is_some (position_of added names.texts) ≡ b → position_of name (with_name names added).texts ≡ Some number
    by true e = rw (with_text-is added names.texts, e) is
    by false e = rw (with_text-is added names.texts, e) (position_of-stays name names.texts (added ∷ []) number is)

pub new_names_are_last : NewNamesAreLast
new_names_are_last names name new =
    let last = with_text-new name names.texts new in
    (ap (position_of name) last ∙ position_of-last name names.texts new, last)

pub known_names_stay : KnownNamesStay
known_names_stay names name number known = with_name-known names name number known

-- a name keeps its number whatever list of names is added
pub numbers_stay_along : NumbersStayAlong
numbers_stay_along names name [] number is = is
numbers_stay_along names name (text ∷ texts) number is =
    numbers_stay_along (with_name names text) name texts number (numbers_stay names name text number is)
