-- Sums of what is marked, with sizes that stand still.
use Rattle.std.proofs.Common.{◌≡◌, ℕ, ◌+◌, ◌∙◌, Bool, true, false, cond, List, [], ◌∷◌, length, replicate, refl, ap, arith}
use Rattle.awst.specs.Capped.{capped}
use Rattle.awst.specs.Types.{scalar_count}
use Rattle.awst.specs.Plain.{Scope, scalars_from, assigned_scalars}
use Rattle.awst.specs.Meaning.{Function}
use Rattle.awst.specs.Weight.{function_weight, marked_weight}
use Rattle.awst.specs.Marks.{marked_from, marked, marked_sum, sizes_of, weights_of}

one_more : (mark : Bool) (n s t : ℕ) → capped s ≡ capped t → capped (cond mark (capped n) 0 + s) ≡ capped (cond mark n 0 + t)
one_more true n s t e = omega (arith, e)
one_more false n s t e = omega (arith, e)

marked_scalars_from : (x : ℕ) (assigns : ℕ → Bool) (scope : Scope) → capped (marked_sum (marked_from x assigns (replicate (length scope) false)) (sizes_of scope)) ≡ capped (scalars_from x assigns scope)
marked_scalars_from x assigns [] = refl
marked_scalars_from x assigns (t ∷ ts) = one_more (assigns x) (scalar_count t) _ _ (marked_scalars_from (x + 1) assigns ts)

length-sizes : (scope : Scope) → length (sizes_of scope) ≡ length scope
length-sizes [] = refl
length-sizes (t ∷ ts) = omega (arith, length-sizes ts)

-- the variables that are assigned, by a row that holds nothing else
pub assigned_sum : (sizes : List ℕ) (scope : Scope) (assigns : ℕ → Bool) → sizes ≡ sizes_of scope →
    capped (marked_sum (marked assigns (replicate (length sizes) false)) sizes) ≡ capped (assigned_scalars scope assigns)
assigned_sum sizes scope assigns e =
    ap (λ s. capped (marked_sum (marked assigns (replicate (length s) false)) s)) e
    ∙ ap (λ n. capped (marked_sum (marked assigns (replicate n false)) (sizes_of scope))) (length-sizes scope)
    ∙ marked_scalars_from 0 assigns scope

pub marked_weighs : (marks : List Bool) (functions : List Function) → capped (marked_sum marks (weights_of functions)) ≡ capped (marked_weight marks functions)
marked_weighs [] functions = refl
marked_weighs (mark ∷ marks) [] = refl
marked_weighs (mark ∷ marks) (f ∷ fs) = one_more mark (function_weight f) _ _ (marked_weighs marks fs)
