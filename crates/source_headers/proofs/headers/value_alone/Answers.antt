use Rattle.std.proofs.Common.{◌≡◌, List, ℕ, subst}
use Rattle.std.specs.Prelude.{IfOk}
use Rattle.source_names.specs.Annotations.{of_value, written}
use Rattle.source_headers.proofs.headers.value_alone.Goals as goal

pub returns-clause-ty : goal.returns-clause-ty
returns-clause-ty c =
    subst (λ (vs : List (List ℕ)). IfOk c.written_value.result (λ a. a.ty ≡ (of_value (written c.args.names.now vs c.args.tree.now)).ty)) c.new-variables.ensures c.written_value.ensures.ty
