-- Small functions that are sound.
use Rattle.std.proofs.Common.{◌≡◌, ℕ, zero, suc, ◌<◌, Bool, false, List, [], ◌∷◌, Some, refl, arith}
use Rattle.std.specs.Prelude.{slice_get}
use Rattle.puya_base.specs.declared.source.Place.{Place}
use Rattle.awst.specs.declared.primitive.Primitive.TheVariants as prim
use Rattle.awst.specs.Types.{uint64, bool}
use Rattle.awst.specs.Values.{number}
use Rattle.awst.specs.Table.{own_number, own_local, own_prim, own_call, own_if, own_return}
use Rattle.awst.specs.Tree.{by, Ex, constant, variable, strict, call, exs_of, St, branch, give_back, sts_of, Sts}
use Rattle.awst.specs.Plain.{made, headed}
use Rattle.awst.specs.Paths.{none, one, leaves, goes_on, at_read, Walks, stopped, went_on, sts_moves, ReadsAssigned, NeverEnds}
use Rattle.awst.specs.Sound.{Signature, Names, Within, AreSoundStatements, IsCall}

abbrev here : Place
here = record { line = 4; col = 9 }

abbrev num : ℕ → Ex
num n = made here uint64 (own_number n) (constant (number n))

abbrev local : ℕ → Ex
local x = made here uint64 (own_local 1) (variable x)

abbrev two : Ex → Ex → List Ex
two a b = a ∷ b ∷ []

abbrev returns_it : Ex → St
returns_it e = headed here (own_return 1) (give_back (Some e))

abbrev within : Within
within = record { result = uint64; in_loop = false; in_entry = false }

-- return UInt64(6) * UInt64(7)
abbrev product : Sts
product = sts_of (returns_it (made here uint64 (own_prim prim.Mul 1 2) (strict (by prim.Mul) (exs_of (two (num 6) (num 7))))) ∷ [])

product_is_sound : AreSoundStatements (record { functions = []; variables = [] }) within product
product_is_sound = (((((refl, (refl, tt)), (refl, refl)), refl), refl), tt)

nothing_is_read : (x : ℕ) (p : Place) (s t : Bool) → ¬ Walks x (one leaves none) s (at_read p) t
nothing_is_read x p s t (stopped _ _ _ _ _ e w) = elim w [ ]
nothing_is_read x p s t (went_on _ _ _ _ _ _ w ws) = elim w [ ]

product_reads_nothing : ReadsAssigned 0 (sts_moves product)
product_reads_nothing x p = nothing_is_read x p _ _

nothing_goes_on : (x : ℕ) (s t : Bool) → ¬ Walks x (one leaves none) s goes_on t
nothing_goes_on x s t (stopped _ _ _ _ _ e w) = elim w [ ]
nothing_goes_on x s t (went_on _ _ _ _ _ _ w ws) = elim w [ ]

product_never_ends : NeverEnds (sts_moves product)
product_never_ends x s t = nothing_goes_on x s t

-- a function of one number: if n == 0: return UInt64(0); return n + total(n - 1)
abbrev total : Sts
total = sts_of
    (headed here (own_if 0) (branch (made here bool (own_prim prim.Equal 1 2) (strict (by prim.Equal) (exs_of (two (local 0) (num 0))))) (sts_of (returns_it (num 0) ∷ [])) (sts_of []))
    ∷ returns_it (made here uint64 (own_prim prim.Add 1 2) (strict (by prim.Add) (exs_of (two (local 0) (made here uint64 (own_call 2) (call 0 (exs_of (made here uint64 (own_prim prim.Sub 1 2) (strict (by prim.Sub) (exs_of (two (local 0) (num 1)))) ∷ [])) (0 ∷ []))))))) ∷ [])

abbrev one_number : Signature
one_number = record { params = uint64 ∷ []; result = uint64 }

abbrev names : Names
names = record { functions = one_number ∷ []; variables = uint64 ∷ [] }

first_is_given : (i : ℕ) → i < 1 → (k : ℕ) × (slice_get (0 ∷ []) k ≡ Some i)
first_is_given zero h = (0, refl)
first_is_given (suc i) h = absurd (omega (arith, h))

total_is_called : IsCall names 0 (0 ∷ []) (uint64 ∷ []) uint64
total_is_called = record { signature = one_number; exists = refl; gives = refl; all_given = record { count = refl; all = first_is_given }; types = refl }

total_is_sound : AreSoundStatements names within total
total_is_sound = (
  ((((refl, (refl, tt)), (uint64, refl, refl, refl)), refl), (((refl, refl), refl), tt), tt),
  (((((refl, (((((refl, (refl, tt)), (refl, refl)), tt), total_is_called), tt)), (refl, refl)), refl), refl), tt),
)
