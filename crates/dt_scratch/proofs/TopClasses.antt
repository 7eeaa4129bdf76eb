-- A class that is below no other sees only its own definitions.
use Rattle.std.proofs.Common.{◌≡◌, ◌==◌, ℕ, ◌&&◌, List, [], ◌∷◌, refl, ap, arith}
use Rattle.std.specs.Prelude.{All}
use Rattle.std.proofs.lemmas.Bool.Decides.{nat_tests}
use Rattle.std.proofs.lemmas.List.Elements.{filter_agree, All-head, All-tail}
use Rattle.dt_graph.specs.Graph.{Link}
use Rattle.dt_graph.specs.Below.{is_below}
use Rattle.dt_graph.proofs.Walks.{is_below_self}
use Rattle.dt_definitions.specs.Program.{same_classes, is_definition}
use Rattle.dt_scratch.specs.Resolve.{are_below}
use Rattle.dt_scratch.specs.Laws.{IsTop, TopSeesItself}
use Rattle.dt_scratch.proofs.Parts.{applies}

is_below-top : (links : List Link) (a b : ℕ) → IsTop links a → is_below links a b ≡ (b == a)
is_below-top links a b top = let only = top b in let own = is_below_self links a in grind (arith, nat_tests)

are_below-top : (links : List Link) (xs ys : List ℕ) → All (IsTop links) xs →
    are_below links xs ys ≡ same_classes ys xs
are_below-top links [] [] tops = refl
are_below-top links (x ∷ xs) (y ∷ ys) tops =
    rw (is_below-top links x y (All-head (IsTop links) x xs tops), are_below-top links xs ys (All-tail (IsTop links) x xs tops))
    refl
are_below-top links xs ys tops = refl

pub top_sees_itself : TopSeesItself
top_sees_itself program query tops =
    filter_agree (applies program.graph.links query) (is_definition query.selector query.classes)
    (λ d. ap (λ b. (d.selector == query.selector) && b) (are_below-top program.graph.links query.classes d.classes tops))
    program.definitions
