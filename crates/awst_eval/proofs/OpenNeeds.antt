-- What a function needs, by its number.
use Rattle.std.proofs.Common.{◌≡◌, ℕ, zero, suc, ◌-◌, ◌<◌, List, [], ◌∷◌, map, Some, None, slice_get, refl, ap, ◌∙◌, arith}
use Rattle.awst.specs.declared.contract.Func.{Func}
use Rattle.awst.specs.Functions.{function_of, stack_need_of}
use Rattle.awst.specs.Meaning.{need_in}

found : (e i : ℕ) (fs : List Func) (g : Func) → slice_get fs i ≡ Some g → need_in e (map function_of fs) (suc i) ≡ stack_need_of g
found e i [] g h = cc h
found e zero (f ∷ fs) g h = let k : f ≡ g = cc h in ap stack_need_of k
found e (suc i) (f ∷ fs) g h = found e i fs g h

missing : (e i : ℕ) (fs : List Func) → slice_get fs i ≡ None → need_in e (map function_of fs) (suc i) ≡ 0
missing e i [] h = refl
missing e zero (f ∷ fs) h = cc h
missing e (suc i) (f ∷ fs) h = missing e i fs h

pub need_found : (e f : ℕ) (fs : List Func) (g : Func) → 0 < f → slice_get fs (f - 1) ≡ Some g → need_in e (map function_of fs) f ≡ stack_need_of g
need_found e f fs g p h = let k : f ≡ suc (f - 1) = omega arith in ap (need_in e (map function_of fs)) k ∙ found e (f - 1) fs g h

pub need_missing : (e f : ℕ) (fs : List Func) → 0 < f → slice_get fs (f - 1) ≡ None → need_in e (map function_of fs) f ≡ 0
need_missing e f fs p h = let k : f ≡ suc (f - 1) = omega arith in ap (need_in e (map function_of fs)) k ∙ missing e (f - 1) fs h
