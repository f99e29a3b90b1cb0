-- Copies that happen at once, and moves that are done one after another (translation out of static single assignment form:
-- the phis of a block as a parallel copy, and its sequencing).
use Rattle.std.specs.Prelude.{◌≡◌, ℕ, Bool, true, false, not, ◌&&◌, ◌||◌, if◌then◌else◌, nat_eq, List, [], ◌∷◌}
use Rattle.phi_copies.specs.declared.copies.Pair.{Pair}

-- what each place holds
abbrev pub Holding : Type 0
Holding = ℕ → ℕ

-- a function with another value at one place
abbrev pub put : {A : Type 0} → (ℕ → A) → ℕ → A → ℕ → A
put f at a k = if nat_eq at k then a else f k

-- what the places hold after one move
abbrev pub moved : Pair → Holding → Holding
moved m env = put env m.to (env m.from)

-- what the places hold after moves, one after another
abbrev pub one_by_one : List Pair → Holding → Holding
one_by_one [] env = env
one_by_one (m ∷ ms) env = one_by_one ms (moved m env)

-- what the places hold after all pairs at once: each source is read in `env`, and a place that no pair writes keeps its own
abbrev pub at_once : List Pair → Holding → Holding
at_once [] env = env
at_once (p ∷ ps) env = put (at_once ps env) p.to (env p.from)

-- the moves in order do what the pairs do at once, outside the spare place
abbrev pub Sequences : List Pair → List Pair → ℕ → Type 0
Sequences moves pairs spare = (env : Holding) (k : ℕ) → (k ≡ spare → ⊥) → one_by_one moves env k ≡ at_once pairs env k

-- a pair of the list writes the place
abbrev pub writes : ℕ → List Pair → Bool
writes k [] = false
writes k (p ∷ ps) = nat_eq p.to k || writes k ps

-- no two pairs write one place
abbrev pub no_two_write_one : List Pair → Bool
no_two_write_one [] = true
no_two_write_one (p ∷ ps) = not (writes p.to ps) && no_two_write_one ps

-- a pair of the list reads or writes the place
abbrev pub uses : ℕ → List Pair → Bool
uses k [] = false
uses k (p ∷ ps) = nat_eq p.to k || (nat_eq p.from k || uses k ps)
