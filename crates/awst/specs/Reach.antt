-- Functions that are marked, and those of them whose calls have not been looked at.
use Rattle.std.specs.Prelude.{◌≡◌, ℕ, zero, suc, ◌+◌, ◌⊎◌, Bool, true, false, if◌then◌else◌, List, [], ◌∷◌, length, slice_index_or}
use Rattle.awst.specs.Meaning.{Function}
use Rattle.awst.specs.Weight.{sts_calls}
use Rattle.awst.specs.Calls.{is_in}

-- the mark of a number
abbrev pub mark_at : List Bool → ℕ → Bool
mark_at marks g = slice_index_or marks g false

-- function h calls function g
abbrev pub calls_at : List Function → ℕ → ℕ → Bool
calls_at [] h g = false
calls_at (function ∷ functions) zero g = sts_calls function.body g
calls_at (function ∷ functions) (suc h) g = calls_at functions h g

abbrev pub unmarked : List Bool → ℕ
unmarked [] = 0
unmarked (mark ∷ marks) = (if mark then 0 else 1) + unmarked marks

-- of the marks that are set some wait: those set anew wait besides
pub record Waits (old_marks new_marks : List Bool) (old new : List ℕ) : Type 0 where
  pub kept : (f : ℕ) → is_in old f ≡ true → is_in new f ≡ true
  pub added : (f : ℕ) → mark_at new_marks f ≡ true → (mark_at old_marks f ≡ true) ⊎ (is_in new f ≡ true)
  pub only : (f : ℕ) → is_in new f ≡ true → (is_in old f ≡ true) ⊎ (mark_at new_marks f ≡ true)
  pub size : unmarked new_marks + length new ≡ unmarked old_marks + length old

-- exactly the marked ones wait
pub record AllWait (marks : List Bool) (waiting : List ℕ) : Type 0 where
  pub marked_waits : (f : ℕ) → mark_at marks f ≡ true → is_in waiting f ≡ true
  pub waiting_is_marked : (f : ℕ) → is_in waiting f ≡ true → mark_at marks f ≡ true
