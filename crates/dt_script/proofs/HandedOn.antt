-- A fault that is handed on.
use Rattle.std.proofs.Common.{◌≡◌, Result, Ok, Err, sym, ap, ◌∙◌}
use Rattle.std.specs.Prelude.{IsErrOf, IsErrAnd}
use Rattle.dt_selectors.specs.declared.names.NameFault.{NameFault}

-- where the fault that is handed on is this one, the fault was
pub handed_on : {T U : Type 0} (result : Result T NameFault) (fault told : NameFault) → IsErrAnd result (λ e. e ≡ fault) → IsErrOf result told → IsErrOf {T = U} (Err fault) told
handed_on (Ok value) fault told same is = absurd same
handed_on (Err e) fault told same is = let it : e ≡ told = cc in ap (λ f. Err f) (sym same ∙ it)
