-- The notes of a function: its parameters are assigned, and then its body runs.
use Rattle.std.proofs.Common.{◌≡◌, ℕ, ◌+◌, length, arith, Bool, true, false, List, [], ◌∷◌, ◌++◌, refl, sym, subst}
use Rattle.std.specs.Prelude.{if◌then◌else◌, ◌==◌, nat_lt}
use Rattle.std.proofs.lemmas.Bool.{lt-ltb, le-ltb, ltb-true, ltb-false, eqb-true, eqb-false}
use Rattle.path_rules.specs.declared.note.Note.{Note}
use Rattle.path_rules.specs.declared.note.Note.TheVariants as note
use Rattle.path_rules.specs.Steps.{no_steps, assign, step_of, steps_of}
use Rattle.path_rules.specs.Walks.{Way, goes, out, Walk, assigns, Walks, ended, went_on}
use Rattle.path_rules.proofs.Equations.{step-Assign}
use Rattle.path_rules.proofs.WalkLaws.{on_before}
use Rattle.source_names.specs.declared.signature.Parameter.{Parameter}
use Rattle.type_check.specs.Functions.{assigned_from}
use Rattle.typing_laws.proofs.Agreeing.{steps-append}

below_by : (x i : ℕ) (b c : Bool) → (x == i) ≡ b → nat_lt x i ≡ c → (if b then true else c) ≡ nat_lt x (i + 1)
below_by x i true c e k = sym (lt-ltb x (i + 1) (omega (arith, eqb-true x i e)))
below_by x i false true e k = sym (lt-ltb x (i + 1) (omega (arith, ltb-true x i k)))
below_by x i false false e k = sym (le-ltb x (i + 1) (omega (arith, ltb-false x i k, eqb-false x i e)))

below_next : (x i : ℕ) → (if x == i then true else nat_lt x i) ≡ nat_lt x (i + 1)
below_next x i = below_by x i (x == i) (nat_lt x i) refl refl

-- a walk through the assignments of parameters
pub walk_assigned : (x : ℕ) (ps : List Parameter) (i n : ℕ) → i + length ps ≡ n → Walks x (steps_of (assigned_from i ps)) (nat_lt x i) (out goes) (nat_lt x n)
walk_assigned x [] i n e = subst (λ z. Walks x no_steps (nat_lt x i) (out goes) (nat_lt x z)) (omega (arith, e)) (ended (nat_lt x i))
walk_assigned x (p ∷ ps) i n e =
    went_on (step_of (note.Assign i)) (steps_of (assigned_from (i + 1) ps)) (nat_lt x i) (nat_lt x (i + 1)) (out goes) (nat_lt x n)
    (subst (λ f. Walk x f (nat_lt x i) (out goes) (nat_lt x (i + 1))) (sym (step-Assign i)) (subst (λ b. Walk x (assign i) (nat_lt x i) (out goes) b) (below_next x i) (assigns i (nat_lt x i))))
    (walk_assigned x ps (i + 1) n (omega (arith, e)))

-- a walk of the body, behind them
pub walk_started : (x : ℕ) (ps : List Parameter) (b : List Note) (w : Way) (t : Bool) → Walks x (steps_of b) (nat_lt x (length ps)) w t → Walks x (steps_of (assigned_from 0 ps ++ b)) false w t
walk_started x ps b w t h =
    let first = subst (λ s. Walks x (steps_of (assigned_from 0 ps)) s (out goes) (nat_lt x (length ps))) (le-ltb x 0 (omega arith)) (walk_assigned x ps 0 (length ps) (omega arith)) in
    subst (λ z. Walks x z false w t) (sym (steps-append (assigned_from 0 ps) b)) (on_before x (steps_of (assigned_from 0 ps)) (steps_of b) false (nat_lt x (length ps)) w t first h)
