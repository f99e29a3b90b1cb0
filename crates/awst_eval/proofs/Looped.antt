-- What is left of a loop, behind what it has done.
use Rattle.std.proofs.Common.{◌≡◌, ℕ, suc, ◌-◌, ◌<◌, List, [], ◌∷◌, ◌++◌, replicate, ap, sym, ◌∙◌, arith}
use Rattle.std.proofs.lemmas.List.{append_assoc}
use Rattle.runs.specs.Steps.{Run, give}
use Rattle.awst.specs.Values.{Val, nothing}

-- the values of the parts that are left, behind those that stand
abbrev pub behind_these : {A : Type 0} → List A → List A → Run (List A)
behind_these out vs = give (out ++ vs)

-- one more that is not assigned
pub one_more : (vs : List Val) (n : ℕ) → 0 < n → (vs ++ (nothing ∷ [])) ++ replicate (n - 1) nothing ≡ vs ++ replicate n nothing
one_more vs n h =
    let e : n ≡ suc (n - 1) = omega arith in
    append_assoc vs (nothing ∷ []) (replicate (n - 1) nothing) ∙ ap (λ (k : ℕ). vs ++ replicate k nothing) (sym e)
