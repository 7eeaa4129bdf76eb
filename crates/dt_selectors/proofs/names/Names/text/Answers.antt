use Rattle.std.proofs.Common.{◌≡◌, map, slice_get, option_map, Some, IsTrue, ap, sym, subst, ◌∙◌}
use Rattle.std.proofs.lemmas.Option.{slice_get-map}
use Rattle.std.specs.Box.{boxed_slice_items}
use Rattle.dt_selectors.specs.Names.{is_name, position_of}
use Rattle.dt_selectors.proofs.Texts.{All-slice_get}
use Rattle.dt_selectors.proofs.names.Names.text.Goals as goal

stands : (c : goal.After-as_slice) → slice_get (map boxed_slice_items c.self.inside.texts.keys) c.args.number ≡ Some c.as_slice.result.now
stands c =
    slice_get-map boxed_slice_items c.self.inside.texts.keys c.args.number
    ∙ ap (option_map boxed_slice_items) (sym c.in_ok-text.ensures.key)
    ∙ ap Some (sym c.as_slice.ensures.value)

pub returns-clause-name : goal.returns-clause-name
returns-clause-name c =
    All-slice_get (λ text. IsTrue (is_name text)) (map boxed_slice_items c.self.inside.texts.keys) c.args.number c.as_slice.result.now
    c.self.invariant.are_names (stands c)

pub returns-clause-place : goal.returns-clause-place
returns-clause-place c =
    subst (λ names. position_of c.as_slice.result.now names.texts ≡ Some c.args.number) c.self.view_is
    (c.self.invariant.distinct c.args.number c.as_slice.result.now (stands c))
