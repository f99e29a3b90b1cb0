use Rattle.std.proofs.Common.{ℕ, suc, ◌≤◌, Bool, true, false, cond, List, [], ◌∷◌, length, arith}
use Rattle.py_lexer.specs.Bytes.{control_at, is_control}

within_by : (b : Bool) (n m : ℕ) → n ≤ m → cond b 0 (suc n) ≤ suc m
within_by true n m h = omega arith
within_by false n m h = omega arith

-- the place of a control byte is one of the text, or its end
pub control_within : (bytes : List ℕ) → control_at bytes ≤ length bytes
control_within [] = omega arith
control_within (b ∷ bs) = within_by (is_control b bs) _ _ (control_within bs)
