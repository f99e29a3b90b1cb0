-- An unpacking to one target.
use Rattle.std.proofs.Common.{◌≡◌, ◌≤◌, ◌<◌, List, [], ◌∷◌, length, Option, refl, arith}
use Rattle.std.specs.Prelude.{IfOk, Result}
use Rattle.puya_base.specs.declared.memory.Memory.{Memory}
use Rattle.puya_base.specs.declared.source.Place.{Place}
use Rattle.awst.specs.declared.statement.Stmt.{Stmt}
use Rattle.awst.specs.declared.statement.Target.{Target}
use Rattle.awst.specs.declared.ty.Ty.{Ty}
use Rattle.meaning_rules.specs.declared.meaning.Typed.{Typed}
use Rattle.statement_check.specs.Statements.{unpack_one, unpack_to}

-- a list of one target is unpacked to it
pub to_only : (p : Place) (as_ : List Target) (u : Option Ty) (t : Typed) (r : Result (Option (List Stmt)) Memory) → 1 ≤ length as_ → length as_ < 2
    → ((a : Target) → as_ ≡ a ∷ [] → IfOk r (λ ss. ss ≡ unpack_one p a u t)) → IfOk r (λ ss. ss ≡ unpack_to p as_ u t)
to_only p [] u t r h k g = absurd (omega (arith, h))
to_only p (a ∷ []) u t r h k g = g a refl
to_only p (a ∷ b ∷ as_) u t r h k g = absurd (omega (arith, k))
