-- The places of labels, line by line.
use Rattle.std.proofs.Common.{◌≡◌, ℕ, ◌+◌, Bool, true, false, List, [], ◌∷◌, ◌++◌, Option, Some, None, Ok, Err, refl, sym, arith, ap, ◌∙◌, append_assoc, if◌then◌else◌, is_some}
use Rattle.std.specs.Option.{option_or}
use Rattle.std.proofs.lemmas.List.{append-nil}
use Rattle.avm_asm.specs.declared.line.Line.{Line}
use Rattle.avm_asm.specs.declared.line.AsmFault.{AsmFault}
use Rattle.avm_asm.specs.declared.line.AsmFault.TheVariants.{NoLabel, TwiceLabel, Far, Memory}
use Rattle.avm_asm.specs.Listing.{line_size, lines_size, symbol_at, symbols, place_in}
use Rattle.avm_asm.specs.Assembled.{first_place, code_size, first_again, symbols_of, twice}
use Rattle.avm_asm.specs.Steps.{AddsLabel, Places}

-- the first of two tables that are joined
again_or : (b : Bool) (k : ℕ) (r s t : Option ℕ) → r ≡ option_or s t → (if b then Some k else r) ≡ option_or (if b then Some k else s) t
again_or true k r s t e = refl
again_or false k r s t e = e

pub first_again-append : (before xs ys : List (ℕ × ℕ)) → first_again before (xs ++ ys) ≡ option_or (first_again before xs) (first_again (before ++ xs) ys)
first_again-append before [] ys = ap (λ bs. first_again bs ys) (sym (append-nil before))
first_again-append before (x ∷ xs) ys =
    again_or (is_some (place_in before x.0)) x.0 _ (first_again (before ++ x ∷ []) xs) (first_again (before ++ x ∷ xs) ys)
    (first_again-append (before ++ x ∷ []) xs ys ∙ ap (λ bs. option_or (first_again (before ++ x ∷ []) xs) (first_again bs ys)) (append_assoc before (x ∷ []) xs))

-- the places so far, before those of the lines that are left, are the table of the whole, and so far no label stands twice
pub record Placed (whole : List Line) (table : List (ℕ × ℕ)) (at : ℕ) (left : List Line) : Type 0 where
  pub again : first_again table (symbols at left) ≡ twice whole
  pub places : table ++ symbols at left ≡ symbols_of whole
  pub room : at + lines_size left ≡ code_size whole

pub none_placed : (whole : List Line) → Placed whole [] first_place whole
none_placed whole = record { again = refl; places = refl; room = refl }

pub line_placed : (whole : List Line) (table new : List (ℕ × ℕ)) (at next : ℕ) (l : Line) (left : List Line) → Placed whole table at (l ∷ left)
    → first_again table (symbol_at at l) ≡ None → new ≡ table ++ symbol_at at l → next ≡ at + line_size l → Placed whole new next left
line_placed whole table new at next l left so_far once is behind = record {
  again =
      ap (λ n. first_again new (symbols n left)) behind
      ∙ ap (λ t. first_again t (symbols (at + line_size l) left)) is
      ∙ ap (λ r. option_or r (first_again (table ++ symbol_at at l) (symbols (at + line_size l) left))) (sym once)
      ∙ sym (first_again-append table (symbol_at at l) (symbols (at + line_size l) left))
      ∙ so_far.again;
  places =
      ap (λ n. new ++ symbols n left) behind
      ∙ ap (λ t. t ++ symbols (at + line_size l) left) is
      ∙ append_assoc table (symbol_at at l) (symbols (at + line_size l) left)
      ∙ so_far.places;
  room = let r = so_far.room in omega (arith, r, behind);
}

line_twice : (whole : List Line) (table : List (ℕ × ℕ)) (at k : ℕ) (l : Line) (left : List Line) → Placed whole table at (l ∷ left) → first_again table (symbol_at at l) ≡ Some k → twice whole ≡ Some k
line_twice whole table at k l left so_far again =
    sym so_far.again
    ∙ first_again-append table (symbol_at at l) (symbols (at + line_size l) left)
    ∙ ap (λ r. option_or r (first_again (table ++ symbol_at at l) (symbols (at + line_size l) left))) again

-- a line's fault is the whole's
pub label_fault : (f : AsmFault) (whole : List Line) (table new : List (ℕ × ℕ)) (at : ℕ) (l : Line) (left : List Line) → Placed whole table at (l ∷ left) → AddsLabel (Err f) table l at new → Places (Err f) whole
label_fault (NoLabel k) whole table new at l left so_far h = h
label_fault (TwiceLabel k) whole table new at l left so_far h = line_twice whole table at k l left so_far h
label_fault (Far k d) whole table new at l left so_far h = h
label_fault Memory whole table new at l left so_far h = tt

-- nothing is left
pub all_placed : (whole : List Line) (table : List (ℕ × ℕ)) (at : ℕ) → Placed whole table at [] → Places (Ok table) whole
all_placed whole table at so_far = (sym so_far.again, sym (append-nil table) ∙ so_far.places)
