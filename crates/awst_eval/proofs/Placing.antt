-- Values put in their places, one after another.
use Rattle.std.proofs.Common.{◌≡◌, ℕ, zero, suc, ◌≤◌, List, [], ◌∷◌, min, length, drop, refl, arith}
use Rattle.awst.specs.Values.{Val, parts_of}
use Rattle.awst.specs.Tree.{Destination}
use Rattle.awst.specs.Meaning.{Env, arranged, put_each, put_all}

none_arranged : (order : List ℕ) (placed : List Val) → arranged order [] placed ≡ placed
none_arranged [] placed = refl
none_arranged (i ∷ order) placed = refl

-- behind the last value of those that have a parameter nothing is left to place
pub arranged_ends : (i : ℕ) (order : List ℕ) (vs placed : List Val) → min (length order) (length vs) ≤ i → arranged (drop i order) (drop i vs) placed ≡ placed
arranged_ends zero [] vs placed h = refl
arranged_ends zero (o ∷ order) [] placed h = refl
arranged_ends zero (o ∷ order) (v ∷ vs) placed h = absurd (omega arith)
arranged_ends (suc i) [] vs placed h = refl
arranged_ends (suc i) (o ∷ order) [] placed h = none_arranged (drop i order) placed
arranged_ends (suc i) (o ∷ order) (v ∷ vs) placed h = arranged_ends i order vs placed (omega arith)

none_put : (ds : List Destination) (env : Env) → put_each ds [] env ≡ env
none_put [] env = refl
none_put (d ∷ ds) env = refl

pub put_ends : (i : ℕ) (ds : List Destination) (vs : List Val) (env : Env) → min (length ds) (length vs) ≤ i → put_each (drop i ds) (drop i vs) env ≡ env
put_ends zero [] vs env h = refl
put_ends zero (d ∷ ds) [] env h = refl
put_ends zero (d ∷ ds) (v ∷ vs) env h = absurd (omega arith)
put_ends (suc i) [] vs env h = refl
put_ends (suc i) (d ∷ ds) [] env h = none_put (drop i ds) env
put_ends (suc i) (d ∷ ds) (v ∷ vs) env h = put_ends i ds vs env (omega arith)

-- several destinations, or none, take the parts of the value
pub put_several : (ds : List Destination) (v : Val) (env : Env) → (length ds ≡ 1 → ⊥) → put_all ds v env ≡ put_each ds (parts_of v) env
put_several [] v env h = refl
put_several (d ∷ []) v env h = absurd (h refl)
put_several (d ∷ e ∷ ds) v env h = refl
