-- The code of lines, or why there is none (AVM specification, "Encoding": the version byte, then the instructions, with offsets of 16 signed bits).
use Rattle.std.specs.Prelude.{◌≡◌, ℕ, ℤ, ◌+◌, ◌-◌, ◌^◌, pos, negsuc, nat_lt, min, not, Bool, if◌then◌else◌, List, [], ◌∷◌, ◌++◌, map, find, is_none, is_some, Option, Some, None, Result, Ok, Err}
use Rattle.std.specs.List.{flat_map}
use Rattle.avm_asm.specs.declared.line.Line.{Line}
use Rattle.avm_asm.specs.declared.line.AsmFault.{AsmFault}
use Rattle.avm_asm.specs.declared.line.AsmFault.TheVariants.{NoLabel, TwiceLabel, Far, Memory}
use Rattle.avm_asm.specs.Listing.{line_size, lines_size, named_by, symbols, place_in, distance, bytes_from}

-- instructions begin behind the version byte
abbrev pub first_place : ℕ
first_place = 1

-- how many bytes the code of lines has
abbrev pub code_size : List Line → ℕ
code_size ls = first_place + lines_size ls

-- a number, up to the last value of a counter
abbrev pub counted : ℕ → ℕ
counted n = min n (2 ^ 64 - 1)

abbrev pub size_of : List Line → ℕ
size_of ls = counted (code_size ls)

-- the symbol table of a whole program
abbrev pub symbols_of : List Line → List (ℕ × ℕ)
symbols_of ls = symbols first_place ls

-- the first label of a table that stands in the one before it, or before in the table itself
abbrev pub first_again : List (ℕ × ℕ) → List (ℕ × ℕ) → Option ℕ
first_again before [] = None
first_again before (s ∷ table) = if is_some (place_in before s.0) then Some s.0 else first_again (before ++ s ∷ []) table

-- the first label that stands a second time
abbrev pub twice : List Line → Option ℕ
twice ls = first_again [] (symbols_of ls)

-- the first of these labels that isn't in the table
abbrev pub first_missing : List (ℕ × ℕ) → List ℕ → Option ℕ
first_missing table ks = find (λ k. is_none (place_in table k)) ks

-- the first label that is named and stands nowhere
abbrev pub missing : List Line → Option ℕ
missing ls = first_missing (symbols_of ls) (flat_map named_by ls)

-- the branches to these labels of an instruction that ends at a place: each label with the distance to it
abbrev pub branches_to : List (ℕ × ℕ) → ℕ → List ℕ → List (ℕ × ℤ)
branches_to table end ks = map (λ k. (k, distance table end k)) ks

-- the branches of lines from a place on
abbrev pub branches : List (ℕ × ℕ) → ℕ → List Line → List (ℕ × ℤ)
branches table at [] = []
branches table at (l ∷ ls) = branches_to table (at + line_size l) (named_by l) ++ branches table (at + line_size l) ls

-- 16 signed bits hold it
abbrev pub is_near : ℤ → Bool
is_near (pos n) = nat_lt n (2 ^ 15)
is_near (negsuc n) = nat_lt n (2 ^ 15)

-- the first of these branches that leads too far
abbrev pub first_far : List (ℕ × ℤ) → Option (ℕ × ℤ)
first_far bs = find (λ b. not (is_near b.1)) bs

-- the first branch of a program that leads too far
abbrev pub far : List Line → Option (ℕ × ℤ)
far ls = first_far (branches (symbols_of ls) first_place ls)

abbrev pub code_unless_far : List Line → Option (ℕ × ℤ) → Result (List ℕ) AsmFault
code_unless_far ls None = Ok (10 ∷ bytes_from (symbols_of ls) first_place ls)
code_unless_far ls (Some b) = Err (Far b.0 b.1)

abbrev pub code_unless_missing : List Line → Option ℕ → Result (List ℕ) AsmFault
code_unless_missing ls None = code_unless_far ls (far ls)
code_unless_missing ls (Some k) = Err (NoLabel k)

abbrev pub code_unless_twice : List Line → Option ℕ → Result (List ℕ) AsmFault
code_unless_twice ls None = code_unless_missing ls (missing ls)
code_unless_twice ls (Some k) = Err (TwiceLabel k)

-- the code of lines: the first fault is a label that stands twice, then one that stands nowhere, then a branch that leads too far
unfoldable pub assembled : List Line → Result (List ℕ) AsmFault
assembled ls = code_unless_twice ls (twice ls)

-- what a call answers is the definition's answer, unless memory ran out
abbrev pub Assembles : Result (List ℕ) AsmFault → Result (List ℕ) AsmFault → Type 0
Assembles (Ok code) due = due ≡ Ok code
Assembles (Err (NoLabel k)) due = due ≡ Err (NoLabel k)
Assembles (Err (TwiceLabel k)) due = due ≡ Err (TwiceLabel k)
Assembles (Err (Far k d)) due = due ≡ Err (Far k d)
Assembles (Err Memory) due = Unit {0}
