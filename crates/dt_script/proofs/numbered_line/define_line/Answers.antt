use Rattle.std.proofs.Common.{ℕ, [], ◌∷◌, ◌++◌, map, ◌∙◌}
use Rattle.dt_script.specs.Written.{Plain, ClassName, BodyName, texts_of_classes, tokens_of}
use Rattle.dt_script.specs.declared.written.Written.TheVariants as written
use Rattle.dt_script.proofs.Tokens.{define_classes_full, define_body_full, numbered_full, handed_line, full_selector}
use Rattle.dt_script.proofs.OwnNames.{own_none, own_tokens, own_all}
use Rattle.dt_script.specs.NameBook.{with_selector_name}
use Rattle.dt_script.proofs.numbered_line.define_line.Goals as goal

pub returns-in_err-selector-clause-numbered : goal.returns-in_err-selector-clause-numbered
returns-in_err-selector-clause-numbered c =
    handed_line c.args.names.now c.selector.new.self (written.Define c.args.selector c.args.classes c.args.body) c.from_residual.result c.in_err-selector.field-0.0 c.from_residual.ensures.1
    (λ full. full_selector c.args.names.now c.args.selector.now (map ClassName (texts_of_classes c.args.classes) ++ Plain (45 ∷ 62 ∷ []) ∷ BodyName c.args.body.now ∷ []) (c.in_err-selector.ensures.full.0 full))

pub returns-in_err-classes-clause-numbered : goal.returns-in_err-classes-clause-numbered
returns-in_err-classes-clause-numbered c =
    handed_line {T = ℕ} c.args.names.now c.number_classes.new.names (written.Define c.args.selector c.args.classes c.args.body) c.from_residual-in_err-classes.result c.in_err-classes.field-0.0 c.from_residual-in_err-classes.ensures.1
    (λ full. define_classes_full c.args.names.now c.selector.new.self c.args.selector.now (texts_of_classes c.args.classes) (Plain (45 ∷ 62 ∷ []) ∷ BodyName c.args.body.now ∷ []) c.in_ok-selector.ensures.ok
    (numbered_full c.selector.new.self c.number_classes.new.names (texts_of_classes c.args.classes) c.in_err-classes.field-0.0 c.in_err-classes.ensures.numbered full))

pub returns-in_err-body-clause-numbered : goal.returns-in_err-body-clause-numbered
returns-in_err-body-clause-numbered c =
    handed_line c.args.names.now c.body.new.self (written.Define c.args.selector c.args.classes c.args.body) c.from_residual-in_err-body.result c.in_err-body.field-0.0 c.from_residual-in_err-body.ensures.1
    (λ full. define_body_full c.args.names.now c.selector.new.self c.number_classes.new.names c.args.selector.now c.args.body.now (45 ∷ 62 ∷ []) (texts_of_classes c.args.classes) c.in_ok-selector.ensures.ok c.in_ok-classes.ensures.numbered.0 (c.in_err-body.ensures.full.0 full))

pub returns-in_err-selector-clause-own : goal.returns-in_err-selector-clause-own
returns-in_err-selector-clause-own c =
    own_none c.args.names.now c.selector.new.self (tokens_of (written.Define c.args.selector c.args.classes c.args.body)) c.in_err-selector.ensures.err

pub returns-in_err-classes-clause-own : goal.returns-in_err-classes-clause-own
returns-in_err-classes-clause-own c =
    own_tokens (with_selector_name c.args.names.now c.args.selector.now) c.selector.new.self c.number_classes.new.names (texts_of_classes c.args.classes) (Plain (45 ∷ 62 ∷ []) ∷ BodyName c.args.body.now ∷ []) c.in_ok-selector.ensures.ok c.in_err-classes.ensures.own

pub returns-in_err-body-clause-own : goal.returns-in_err-body-clause-own
returns-in_err-body-clause-own c =
    own_tokens (with_selector_name c.args.names.now c.args.selector.now) c.selector.new.self c.body.new.self (texts_of_classes c.args.classes) (Plain (45 ∷ 62 ∷ []) ∷ BodyName c.args.body.now ∷ []) c.in_ok-selector.ensures.ok
    (own_all c.body.new.self _ (c.in_err-body.ensures.err ∙ c.in_ok-classes.ensures.numbered.0))
