-- Where a key stands in a list of entries whose keys rise, or else where it would go.
use Rattle.std.specs.Prelude.{ℕ, zero, suc, ◌≡◌, List, [], ◌∷◌}
use Rattle.std.specs.declared.cmp.Ordering.{Ordering}
use Rattle.std.specs.declared.cmp.Ordering.TheVariants.{Less, Equal, Greater}

-- the key stands at place i, and is greater than the keys before it
abbrev pub IsFound : {K X : Type 0} → (K → K → Ordering) → K → List (K × X) → ℕ → Type 0
IsFound R k [] i = ⊥
IsFound R k (e ∷ es) zero = R k e.0 ≡ Equal
IsFound R k (e ∷ es) (suc i) = (R k e.0 ≡ Greater) × IsFound R k es i

-- the key is greater than those before place i, and less than the one there, if there is one
abbrev pub IsGap : {K X : Type 0} → (K → K → Ordering) → K → List (K × X) → ℕ → Type 0
IsGap R k [] zero = Unit {0}
IsGap R k [] (suc i) = ⊥
IsGap R k (e ∷ es) zero = R k e.0 ≡ Less
IsGap R k (e ∷ es) (suc i) = (R k e.0 ≡ Greater) × IsGap R k es i
