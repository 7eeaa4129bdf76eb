-- The lists of the classes, and a change of those of some classes.
use Rattle.std.proofs.Common.{◌≡◌, ℕ, zero, suc, ◌+◌, ◌<◌, ◌≤◌, true, false, cond, ◌||◌, List, [], ◌∷◌, length, get_or, set, take, eqb, refl, sym, ap, subst, ◌∙◌, arith}
use Rattle.std.specs.List.{list_any}
use Rattle.std.proofs.lemmas.Bool.{eqb-true, eq-eqb, ne_eqb}
use Rattle.std.proofs.lemmas.Bool.Decides.{nat_tests}
use Rattle.std.proofs.lemmas.List.{get_or_default}
use Rattle.std.proofs.lemmas.List.Folds.{list_any_at, list_any_more}
use Rattle.std.specs.Prelude.{IsSome, slice_index_or}
use Rattle.dt_graph.proofs.ListMembers.{by_cases}
use Rattle.dt_graph.specs.Graph.{has_number}
use Rattle.dt_graph.specs.declared.limits.TheConstants.{CLASSES}
use Rattle.dt_graph.specs.InOrder.{find_at}
use Rattle.dt_definitions.specs.Program.{is_same_key}
use Rattle.dt_definitions.specs.declared.definition_key.DefinitionKey.{DefinitionKey}
use Rattle.dt_definitions.specs.Naming.{NamingList, itself, none_kept, without_key, keys_at, room_at, HasRoomIn, HasRoomAgain, RoomsGrow}

set-at : (lists : List NamingList) (i : ℕ) (new : NamingList) (class : ℕ) → i < length lists
    → slice_index_or (set lists i new) class none_kept ≡ cond (eqb i class) new (slice_index_or lists class none_kept)
set-at [] i new class l = absurd (omega arith)
set-at (list ∷ lists) zero new zero l = refl
set-at (list ∷ lists) zero new (suc class) l = let e = ne_eqb 0 (suc class) (λ q. absurd (omega (arith, q))) in rw e refl
set-at (list ∷ lists) (suc i) new zero l = let e = ne_eqb (suc i) 0 (λ q. absurd (omega (arith, q))) in rw e refl
set-at (list ∷ lists) (suc i) new (suc class) l = let r = set-at lists i new class (omega arith) in grind (arith, nat_tests)

pub keys-set : (lists : List NamingList) (i : ℕ) (new : NamingList) (class : ℕ) → i < length lists
    → keys_at (set lists i new) class ≡ cond (eqb i class) new.keys (keys_at lists class)
keys-set lists i new class l =
    ap (λ (list : NamingList). list.keys) (set-at lists i new class l) ∙ by_cases (eqb i class) (λ e. rw e refl) (λ e. rw e refl)

pub rooms-set : (lists : List NamingList) (i : ℕ) (new : NamingList) (class : ℕ) → i < length lists
    → room_at (set lists i new) class ≡ cond (eqb i class) new.room (room_at lists class)
rooms-set lists i new class l =
    ap (λ (list : NamingList). list.room) (set-at lists i new class l) ∙ by_cases (eqb i class) (λ e. rw e refl) (λ e. rw e refl)

pub one_more : (classes : List ℕ) (place x class : ℕ) → place < length classes → x ≡ get_or classes place x
    → has_number (take (place + 1) classes) class ≡ (has_number (take place classes) class || eqb x class)
one_more classes place x class l r =
    list_any_more (λ m. eqb m class) classes place x l ∙ ap (λ m. has_number (take place classes) class || eqb m class) (sym r)

-- a class that is among the earlier ones is so by its number
earlier_too : (earlier : List ℕ) (x class : ℕ) → true ≡ has_number earlier x → eqb x class ≡ true → has_number earlier class ≡ true
earlier_too earlier x class there same = subst (λ c. has_number earlier c ≡ true) (eqb-true x class same) (sym there)

-- the lists of the first of these classes are changed, each once
abbrev pub ChangedIn : (List DefinitionKey → List DefinitionKey) → List NamingList → List NamingList → List ℕ → Type 0
ChangedIn f old new classes =
    (class : ℕ) → keys_at new class ≡ cond (has_number classes class) (f (keys_at old class)) (keys_at old class)

module _ (f : List DefinitionKey → List DefinitionKey) (old now : List NamingList) (classes : List ℕ) (place x : ℕ)
    (within : place < length classes) (is : x ≡ get_or classes place x)
    (changed : ChangedIn f old now (take place classes)) where
  -- a class that isn't among the earlier ones has its list as it was
  pub still : false ≡ list_any (λ y. eqb y x) (take place classes) → keys_at now x ≡ keys_at old x
  still absent = rw (sym absent) at (changed x)

  pub changed_then : (new : NamingList) → x < length now → false ≡ list_any (λ y. eqb y x) (take place classes)
      → new.keys ≡ f (keys_at now x) → ChangedIn f old (set now x new) (take (place + 1) classes)
  changed_then new l absent e = λ class.
      let s = keys-set now x new class l in
      let m = one_more classes place x class within is in
      let h = changed class in
      let k : eqb x class ≡ true → new.keys ≡ f (keys_at old class) = λ same.
      e ∙ ap f (still absent ∙ ap (keys_at old) (eqb-true x class same)) in grind arith

  pub changed_else : true ≡ list_any (λ y. eqb y x) (take place classes) → ChangedIn f old now (take (place + 1) classes)
  changed_else there = λ class.
      let m = one_more classes place x class within is in
      let h = changed class in
      let k = earlier_too (take place classes) x class there in grind arith

pub rooms_grow : (old now : List NamingList) (x : ℕ) (new : NamingList) → x < length now
    → RoomsGrow old now → room_at now x ≤ new.room → RoomsGrow old (set now x new)
rooms_grow old now x new l grow more = λ class.
    let s = rooms-set now x new class l in
    let h = grow class in
    let q : eqb x class ≡ true → room_at now x ≡ room_at now class = λ same. ap (room_at now) (eqb-true x class same) in grind arith

-- what is read of the lists
module _ (now : List NamingList) (n : ℕ) (list : NamingList) (l : n < length now) (read : list ≡ get_or now n list) where
  read_list : list ≡ get_or now n none_kept
  read_list = read ∙ get_or_default now n list none_kept l

  pub read_keys : list.keys ≡ keys_at now n
  read_keys = ap (λ (one : NamingList). one.keys) read_list

  pub read_room : list.room ≡ room_at now n
  read_room = ap (λ (one : NamingList). one.room) read_list

named_at : (classes : List ℕ) (place x : ℕ) → place < length classes → x ≡ get_or classes place x → has_number classes x ≡ true
named_at classes place x l r = list_any_at (λ m. eqb m x) classes place x l (eq-eqb (get_or classes place x) x (sym r))

-- a list whose keys are as they were has its room yet
pub room_left : (old now : List NamingList) (classes : List ℕ) (place x n : ℕ) (list : NamingList)
    → place < length classes → x ≡ get_or classes place x → n ≡ x → n < length now → list ≡ get_or now n list
    → keys_at now x ≡ keys_at old x → RoomsGrow old now → x < CLASSES → HasRoomIn old classes → length list.keys < list.room
room_left old now classes place x n list w is e l read same grow small room =
    let k : list.keys ≡ keys_at old x = read_keys now n list l read ∙ ap (keys_at now) e ∙ same in
    let r : list.room ≡ room_at now x = read_room now n list l read ∙ ap (room_at now) e in
    omega (arith, room x small (named_at classes place x w is), grow x, ap length k, r)

-- room for what was taken out
module _ (k : DefinitionKey) (old now : List NamingList) (classes : List ℕ) (place n : ℕ)
    (w : place < length classes) (is : n ≡ get_or classes place n) (before : HasRoomAgain k old now (take place classes)) where
  pub again_then : (list new : NamingList) → n < length now → list ≡ get_or now n list
      → false ≡ list_any (λ y. eqb y n) (take place classes) → ChangedIn (without_key k) old now (take place classes)
      → (IsSome (find_at itself is_same_key k list.keys) → length new.keys < new.room)
      → HasRoomAgain k old (set now n new) (take (place + 1) classes)
  again_then list new l read absent changed left = λ class small there was.
      let s = keys-set now n new class l in
      let r = rooms-set now n new class l in
      let m = one_more classes place n class w is in
      elim (eqb n class) as (λ t. eqb n class ≡ t → length (keys_at (set now n new) class) < room_at (set now n new) class) [
        | true ↦ λ same.
            let q : n ≡ class = eqb-true n class same in
            let kept : list.keys ≡ keys_at old class = read_keys now n list l read
            ∙ still (without_key k) old now classes place n w is changed absent ∙ ap (keys_at old) q in
            rw (s, r, same) (left (subst (λ keys. IsSome (find_at itself is_same_key k keys)) (sym kept) was))
        | false ↦ λ another.
            let earlier : has_number (take place classes) class ≡ true = grind arith in
            rw (s, r, another) (before class small earlier was)
      ] refl

  pub again_else : true ≡ list_any (λ y. eqb y n) (take place classes) → HasRoomAgain k old now (take (place + 1) classes)
  again_else found = λ class small there was.
      let m = one_more classes place n class w is in
      let k = earlier_too (take place classes) n class found in before class small (grind arith) was
