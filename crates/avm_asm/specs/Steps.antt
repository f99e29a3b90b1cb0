-- What each step of the assembler answers.
use Rattle.std.specs.Prelude.{◌≡◌, ℕ, ℤ, ◌+◌, List, ◌∷◌, [], ◌++◌, length, map, Some, None, Result, Ok, Err, ⊤, is_some, true, false}
use Rattle.avm_asm.specs.declared.line.Line.{Line}
use Rattle.avm_asm.specs.declared.line.AsmFault.{AsmFault}
use Rattle.avm_asm.specs.declared.line.AsmFault.TheVariants.{NoLabel, TwiceLabel, Far, Memory}
use Rattle.avm_asm.specs.Listing.{line_size, named_by, bytes_from, bytes_of, instr_in, distance, place_in, symbol_at}
use Rattle.avm_asm.specs.Assembled.{branches, branches_to, first_again, first_far, first_place, is_near, symbols_of, twice}

-- a label is put at a place, unless it stands already
abbrev pub Adds : Result ⊤ AsmFault → List (ℕ × ℕ) → ℕ → ℕ → List (ℕ × ℕ) → Type 0
Adds (Ok u) old label at new = (place_in old label ≡ None) × (new ≡ old ++ (label, at) ∷ [])
Adds (Err (NoLabel k)) old label at new = ⊥
Adds (Err (TwiceLabel k)) old label at new = (is_some (place_in old label) ≡ true) × (k ≡ label)
Adds (Err (Far k d)) old label at new = ⊥
Adds (Err Memory) old label at new = Unit {0}

-- the label of a line is put at a place, unless it stands already
abbrev pub AddsLabel : Result ⊤ AsmFault → List (ℕ × ℕ) → Line → ℕ → List (ℕ × ℕ) → Type 0
AddsLabel (Ok u) old l at new = (first_again old (symbol_at at l) ≡ None) × (new ≡ old ++ symbol_at at l)
AddsLabel (Err (NoLabel k)) old l at new = ⊥
AddsLabel (Err (TwiceLabel k)) old l at new = first_again old (symbol_at at l) ≡ Some k
AddsLabel (Err (Far k d)) old l at new = ⊥
AddsLabel (Err Memory) old l at new = Unit {0}

-- the symbol table of a program, or the first label that stands a second time
abbrev pub Places : Result (List (ℕ × ℕ)) AsmFault → List Line → Type 0
Places (Ok table) ls = (twice ls ≡ None) × (table ≡ symbols_of ls)
Places (Err (NoLabel k)) ls = ⊥
Places (Err (TwiceLabel k)) ls = twice ls ≡ Some k
Places (Err (Far k d)) ls = ⊥
Places (Err Memory) ls = Unit {0}

-- the offset to a label of an instruction that ends at a place, unless it is too far
abbrev pub Offset : Result ℤ AsmFault → List (ℕ × ℕ) → ℕ → ℕ → Type 0
Offset (Ok j) table end k = (is_near (distance table end k) ≡ true) × (j ≡ distance table end k)
Offset (Err (NoLabel n)) table end k = ⊥
Offset (Err (TwiceLabel n)) table end k = ⊥
Offset (Err (Far n d)) table end k = (is_near (distance table end k) ≡ false) × (n ≡ k) × (d ≡ distance table end k)
Offset (Err Memory) table end k = ⊥

-- the offsets to labels of an instruction that ends at a place, or the first that is too far
abbrev pub Offsets : Result (List ℤ) AsmFault → List (ℕ × ℕ) → ℕ → List ℕ → Type 0
Offsets (Ok js) table end ks = (first_far (branches_to table end ks) ≡ None) × (js ≡ map (distance table end) ks)
Offsets (Err (NoLabel k)) table end ks = ⊥
Offsets (Err (TwiceLabel k)) table end ks = ⊥
Offsets (Err (Far k d)) table end ks = first_far (branches_to table end ks) ≡ Some (k, d)
Offsets (Err Memory) table end ks = Unit {0}

-- the bytes of a line are put behind the code, or its first branch leads too far
abbrev pub AddsLine : Result ⊤ AsmFault → List (ℕ × ℕ) → Line → List ℕ → List ℕ → Type 0
AddsLine (Ok u) table l old new = (first_far (branches_to table (length old + line_size l) (named_by l)) ≡ None) × (new ≡ old ++ bytes_of (instr_in table (length old + line_size l) l))
AddsLine (Err (NoLabel k)) table l old new = ⊥
AddsLine (Err (TwiceLabel k)) table l old new = ⊥
AddsLine (Err (Far k d)) table l old new = first_far (branches_to table (length old + line_size l) (named_by l)) ≡ Some (k, d)
AddsLine (Err Memory) table l old new = Unit {0}

-- the version byte and the bytes of lines, or the first of their branches that leads too far
abbrev pub Emits : Result (List ℕ) AsmFault → List (ℕ × ℕ) → List Line → Type 0
Emits (Ok code) table ls = (first_far (branches table first_place ls) ≡ None) × (code ≡ 10 ∷ bytes_from table first_place ls)
Emits (Err (NoLabel k)) table ls = ⊥
Emits (Err (TwiceLabel k)) table ls = ⊥
Emits (Err (Far k d)) table ls = first_far (branches table first_place ls) ≡ Some (k, d)
Emits (Err Memory) table ls = Unit {0}
