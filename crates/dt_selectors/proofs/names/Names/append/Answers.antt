use Rattle.std.proofs.Common.{◌≡◌, ◌<◌, [], ◌∷◌, ◌++◌, map, length, None, Some, sym, ap, subst, ◌∙◌}
use Rattle.std.specs.Box.{boxed_slice_items}
use Rattle.dt_selectors.specs.Names.{position_of, with_name}
use Rattle.dt_selectors.proofs.Texts.{texts_of-inserted, with_text-new, LawfulNames-last, position_of-last}
use Rattle.dt_selectors.proofs.names.Names.append.Goals as goal

is_new : (c : goal.In_ok-insert) → position_of c.args.text.now (map boxed_slice_items c.self.inside.texts.keys) ≡ None
is_new c = ap (λ names. position_of c.args.text.now names.texts) c.self.view_is ∙ c.requires.new

put : (c : goal.In_ok-insert) → map boxed_slice_items c.insert.new.self.keys ≡ map boxed_slice_items c.self.inside.texts.keys ++ c.args.text.now ∷ []
put c =
    texts_of-inserted boxed_slice_items c.args.text.now c.self.inside.texts.keys c.insert.new.self.keys c.in_ok-text.text
    c.in_ok-insert.ensures.keys c.in_ok-text.ensures.ok (is_new c)

pub invariant_of-self-2 : goal.invariant_of-self-2
invariant_of-self-2 c =
    rw (put c) (LawfulNames-last c.self.inside.limit (map boxed_slice_items c.self.inside.texts.keys) c.args.text.now
    c.self.invariant c.requires.name (is_new c) (subst (λ names. length names.texts < names.limit) (sym c.self.view_is) c.requires.room))

pub returns-clause-ok : goal.returns-clause-ok
returns-clause-ok c =
    ap (λ texts. record { limit = c.self.inside.limit; texts = texts })
    (put c ∙ sym (with_text-new c.args.text.now (map boxed_slice_items c.self.inside.texts.keys) (is_new c)))
    ∙ ap (λ names. with_name names c.args.text.now) c.self.view_is

pub returns-clause-place : goal.returns-clause-place
returns-clause-place c =
    rw (put c) (position_of-last c.args.text.now (map boxed_slice_items c.self.inside.texts.keys) (is_new c)
    ∙ ap Some (ap (λ names. length names.texts) c.self.view_is ∙ sym c.len-number.ensures))
