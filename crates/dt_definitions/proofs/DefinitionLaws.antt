-- What definitions do to bodies, and that they may be made in either order.
use Rattle.std.proofs.Common.{◌≡◌, ℕ, cond, not, List, [], ◌∷◌, filter, None, Some, IsTrue, refl, sym, ap, ◌∙◌, arith}
use Rattle.dt_definitions.specs.Program.{Definition, Program, is_definition, insert_definition, body_of, key_of, is_key_before, is_same_key}
use Rattle.dt_definitions.specs.Step.{with_definitions}
use Rattle.dt_definitions.specs.Laws.{the, LeadsTo, DefineSetsOneBody, UndefineClearsOneBody, DefinesCommute}
use Rattle.dt_definitions.specs.declared.edit.Edit.TheVariants.{Define, Undefine}
use Rattle.dt_definitions.proofs.AnswerLaws.{ok_has_no_cause}
use Rattle.dt_definitions.proofs.DefinitionOrder.{is_definition-equal, key_order}
use Rattle.dt_graph.proofs.InOrder.{inserts-commute}

-- ---- the body at a place, after a definition is made or goes

is_definition-same : (s : ℕ) (cs : List ℕ) (d e : Definition)
    → IsTrue (is_definition d.selector d.classes e) → is_definition s cs e ≡ is_definition s cs d
is_definition-same s cs d e h =
    let q = is_definition-equal d.selector d.classes e h in rw (q.0, q.1) refl

-- two definitions at one place
at_one_place : (s : ℕ) (cs : List ℕ) (d e : Definition)
    → IsTrue (is_definition s cs d) → IsTrue (is_definition s cs e) → IsTrue (is_definition d.selector d.classes e)
at_one_place s cs d e h k =
    let q = is_definition-equal s cs d h in rw (q.0, q.1) k

pub body-placed : (d : Definition) (s : ℕ) (cs : List ℕ) (ds : List Definition)
    → body_of (insert_definition d ds) s cs ≡ cond (is_definition s cs d) (Some d.body) (body_of ds s cs)
body-placed d s cs [] = grind arith
body-placed d s cs (e ∷ ds) =
    let r = body-placed d s cs ds in
    let same = is_definition-same s cs d e in
    let one = at_one_place s cs d e in
    grind arith

pub body-removed : (d : Definition) (s : ℕ) (cs : List ℕ) (ds : List Definition)
    → body_of (filter (λ e. not (is_definition d.selector d.classes e)) ds) s cs ≡ cond (is_definition s cs d) None (body_of ds s cs)
body-removed d s cs [] = grind arith
body-removed d s cs (e ∷ ds) =
    let r = body-removed d s cs ds in
    let same = is_definition-same s cs d e in
    let one = at_one_place s cs d e in
    grind arith

pub define_sets_one_body : DefineSetsOneBody
define_sets_one_body p q s cs body h other at =
    ap (λ (r : Program). body_of r.definitions other at) (ok_has_no_cause p q (Define s cs body) h).1
    ∙ body-placed (the s cs body) other at p.definitions

pub undefine_clears_one_body : UndefineClearsOneBody
undefine_clears_one_body p q s cs h other at =
    ap (λ (r : Program). body_of r.definitions other at) (ok_has_no_cause p q (Undefine s cs) h).1
    ∙ body-removed (the s cs 0) other at p.definitions

-- ---- two definitions in either order

-- the program after two definitions
both_placed : (p q : Program) (a b : Definition)
    → LeadsTo p (Define a.selector a.classes a.body ∷ Define b.selector b.classes b.body ∷ []) q
    → q ≡ with_definitions p (insert_definition b (insert_definition a p.definitions))
both_placed p q a b h =
    let one = (ok_has_no_cause p h.0 (Define a.selector a.classes a.body) h.1).1 in
    let two = (ok_has_no_cause h.0 h.2.0 (Define b.selector b.classes b.body) h.2.1).1 in
    sym h.2.2 ∙ two ∙ ap (λ (r : Program). with_definitions r (insert_definition b r.definitions)) one

pub defines_commute : DefinesCommute
defines_commute p q r a b differ h k =
    both_placed p q a b h
    ∙ ap (with_definitions p) (sym (inserts-commute key_of is_key_before is_same_key key_order a b p.definitions differ))
    ∙ sym (both_placed p r b a k)
