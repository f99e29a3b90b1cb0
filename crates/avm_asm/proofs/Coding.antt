-- The code of lines, line by line.
use Rattle.std.proofs.Common.{◌≡◌, ℕ, ℤ, ◌+◌, List, [], ◌∷◌, ◌++◌, length, Some, None, Err, refl, sym, arith, ap, ◌∙◌, length-append, append_assoc}
use Rattle.std.specs.Prelude.{not}
use Rattle.std.specs.Option.{option_or}
use Rattle.std.proofs.lemmas.List.Folds.{find-append}
use Rattle.avm_asm.specs.declared.line.Line.{Line}
use Rattle.avm_asm.specs.declared.line.AsmFault.{AsmFault}
use Rattle.avm_asm.specs.declared.line.AsmFault.TheVariants.{NoLabel, TwiceLabel, Far, Memory}
use Rattle.avm_asm.specs.Steps.{AddsLine, Emits}
use Rattle.avm_asm.specs.Listing.{line_size, lines_size, named_by, instr_in, bytes_of, bytes_from}
use Rattle.avm_asm.specs.Assembled.{first_place, code_size, is_near, branches, branches_to, first_far}
use Rattle.avm_asm.proofs.Forms.{line_length}

pub first_far-append : (cs bs : List (ℕ × ℤ)) → first_far (cs ++ bs) ≡ option_or (first_far cs) (first_far bs)
first_far-append cs bs = find-append (λ b. not (is_near b.1)) cs bs

-- the code so far, before the bytes of the lines that are left, is that of the whole, and so far no branch is too far
pub record Coded (table : List (ℕ × ℕ)) (whole : List Line) (code : List ℕ) (left : List Line) : Type 0 where
  pub branch : first_far (branches table (length code) left) ≡ first_far (branches table first_place whole)
  pub bytes : code ++ bytes_from table (length code) left ≡ 10 ∷ bytes_from table first_place whole
  pub room : length code + lines_size left ≡ code_size whole

-- one line more
pub line_coded : (table : List (ℕ × ℕ)) (whole : List Line) (code new : List ℕ) (l : Line) (left : List Line) → Coded table whole code (l ∷ left)
    → first_far (branches_to table (length code + line_size l) (named_by l)) ≡ None → new ≡ code ++ bytes_of (instr_in table (length code + line_size l) l) → Coded table whole new left
line_coded table whole code new l left so_far near is =
    let end : ℕ = length code + line_size l in
    let len : length new ≡ length code + line_size l = omega (arith, ap length is, length-append code (bytes_of (instr_in table end l)), line_length table end l) in
    record {
      branch =
          ap (λ at. first_far (branches table at left)) len
          ∙ ap (λ r. option_or r (first_far (branches table end left))) (sym near)
          ∙ sym (first_far-append (branches_to table end (named_by l)) (branches table end left))
          ∙ so_far.branch;
      bytes =
          ap (λ at. new ++ bytes_from table at left) len
          ∙ ap (λ bs. bs ++ bytes_from table end left) is
          ∙ append_assoc code (bytes_of (instr_in table end l)) (bytes_from table end left)
          ∙ so_far.bytes;
      room = let r = so_far.room in omega (arith, len, r);
    }

-- the first branch that is too far
pub line_far : (table : List (ℕ × ℕ)) (whole : List Line) (code : List ℕ) (l : Line) (left : List Line) (b : ℕ × ℤ) → Coded table whole code (l ∷ left)
    → first_far (branches_to table (length code + line_size l) (named_by l)) ≡ Some b → first_far (branches table first_place whole) ≡ Some b
line_far table whole code l left b so_far far =
    let end : ℕ = length code + line_size l in
    sym so_far.branch
    ∙ first_far-append (branches_to table end (named_by l)) (branches table end left)
    ∙ ap (λ r. option_or r (first_far (branches table end left))) far

-- no line is coded yet, and all are
pub none_coded : (table : List (ℕ × ℕ)) (whole : List Line) → Coded table whole (10 ∷ []) whole
none_coded table whole = record { branch = refl; bytes = refl; room = omega arith }

-- a line's fault is the whole's
pub line_fault : (f : AsmFault) (table : List (ℕ × ℕ)) (whole : List Line) (code new : List ℕ) (l : Line) (left : List Line) → Coded table whole code (l ∷ left) → AddsLine (Err f) table l code new → Emits (Err f) table whole
line_fault (NoLabel k) table whole code new l left so_far h = h
line_fault (TwiceLabel k) table whole code new l left so_far h = h
line_fault (Far k d) table whole code new l left so_far h = line_far table whole code l left (k, d) so_far h
line_fault Memory table whole code new l left so_far h = tt
