-- Forms without branches.
use Rattle.std.proofs.Common.{◌≡◌, ℕ, List, refl}
use Rattle.avm_ops.specs.declared.rows.Format.{Format}
use Rattle.avm_ops.specs.declared.rows.Format.TheVariants as format
use Rattle.teal_line.specs.declared.statement.Statement.TheVariants.{Op}
use Rattle.teal_line.specs.Reading.{said_as, imm_said, statement_in}

pub no_branch : (op : ℕ) (f : Format) (ws : List (List ℕ)) → (f ≡ format.Jump → ⊥) → (f ≡ format.Jumps → ⊥) → said_as (λ i. Op (record { op = op; imm = i })) (imm_said f ws) ≡ statement_in op f ws
no_branch op format.Jump ws h g = absurd (h refl)
no_branch op format.Jumps ws h g = absurd (g refl)
no_branch op f ws h g = refl
