-- The faults of lines, one kind after the other.
use Rattle.std.proofs.Common.{◌≡◌, ℕ, ◌+◌, ◌<◌, List, ◌∷◌, length, drop, get_or, Some, None, Result, Ok, Err, sym, ap, ◌∙◌}
use Rattle.std.specs.Prelude.{is_none}
use Rattle.std.specs.Option.{option_or}
use Rattle.std.specs.List.{flat_map}
use Rattle.std.proofs.lemmas.List.Folds.{find-append}
use Rattle.avm_asm.specs.declared.line.Line.{Line}
use Rattle.avm_asm.specs.declared.line.AsmFault.{AsmFault}
use Rattle.avm_asm.specs.declared.line.AsmFault.TheVariants.{NoLabel, TwiceLabel, Far, Memory}
use Rattle.avm_asm.specs.Listing.{named_by, place_in, bytes_from}
use Rattle.avm_asm.specs.Assembled.{assembled, Assembles, branches, code_unless_far, code_unless_missing, code_unless_twice, first_far, first_missing, first_place}
use Rattle.avm_asm.specs.Steps.{Emits, Places}
use Rattle.avm_asm.proofs.Lines.{left_from}

-- the first label that is missing in a line, or in those behind it
missing-line : (table : List (ℕ × ℕ)) (ls : List Line) (i : ℕ) (l : Line) → i < length ls → l ≡ get_or ls i l
    → first_missing table (flat_map named_by (drop i ls)) ≡ option_or (first_missing table (named_by l)) (first_missing table (flat_map named_by (drop (i + 1) ls)))
missing-line table ls i l h e =
    ap (λ left. first_missing table (flat_map named_by left)) (left_from ls i l h e)
    ∙ find-append (λ k. is_none (place_in table k)) (named_by l) (flat_map named_by (drop (i + 1) ls))

pub missing_here : (table : List (ℕ × ℕ)) (ls : List Line) (i : ℕ) (l : Line) (k : ℕ) → i < length ls → l ≡ get_or ls i l → first_missing table (flat_map named_by (drop i ls)) ≡ first_missing table (flat_map named_by ls)
    → Some k ≡ first_missing table (named_by l) → Some k ≡ first_missing table (flat_map named_by ls)
missing_here table ls i l k h e so_far here =
    sym (sym so_far ∙ missing-line table ls i l h e ∙ ap (λ r. option_or r (first_missing table (flat_map named_by (drop (i + 1) ls)))) (sym here))

pub missing_later : (table : List (ℕ × ℕ)) (ls : List Line) (i : ℕ) (l : Line) → i < length ls → l ≡ get_or ls i l → first_missing table (flat_map named_by (drop i ls)) ≡ first_missing table (flat_map named_by ls)
    → None ≡ first_missing table (named_by l) → first_missing table (flat_map named_by (drop (i + 1) ls)) ≡ first_missing table (flat_map named_by ls)
missing_later table ls i l h e so_far here =
    ap (λ r. option_or r (first_missing table (flat_map named_by (drop (i + 1) ls)))) here ∙ sym (missing-line table ls i l h e) ∙ so_far

pub judged_twice : (f : AsmFault) (ls : List Line) → Places (Err f) ls → Assembles (Err f) (assembled ls)
unfolding assembled
judged_twice (NoLabel k) ls h = absurd h
judged_twice (TwiceLabel k) ls h = ap (code_unless_twice ls) h
judged_twice (Far k d) ls h = absurd h
judged_twice Memory ls h = tt

pub judged_missing : (k : ℕ) (table : List (ℕ × ℕ)) (ls : List Line) → Places (Ok table) ls → first_missing table (flat_map named_by ls) ≡ Some k → assembled ls ≡ Err (NoLabel k)
unfolding assembled
judged_missing k table ls placed h =
    ap (code_unless_twice ls) placed.0
    ∙ ap (code_unless_missing ls) (ap (λ t. first_missing t (flat_map named_by ls)) (sym placed.1) ∙ h)

judged_there : (table : List (ℕ × ℕ)) (ls : List Line) → Places (Ok table) ls → first_missing table (flat_map named_by ls) ≡ None → assembled ls ≡ code_unless_far ls (first_far (branches table first_place ls))
unfolding assembled
judged_there table ls placed h =
    ap (code_unless_twice ls) placed.0
    ∙ ap (code_unless_missing ls) (ap (λ t. first_missing t (flat_map named_by ls)) (sym placed.1) ∙ h)
    ∙ ap (λ t. code_unless_far ls (first_far (branches t first_place ls))) (sym placed.1)

pub judged_far : (r : Result (List ℕ) AsmFault) (table : List (ℕ × ℕ)) (ls : List Line) → Places (Ok table) ls → first_missing table (flat_map named_by ls) ≡ None → Emits r table ls → Assembles r (assembled ls)
judged_far (Ok code) table ls placed there h =
    judged_there table ls placed there ∙ ap (code_unless_far ls) h.0 ∙ ap (λ t. let r : Result (List ℕ) AsmFault = Ok (10 ∷ bytes_from t first_place ls) in r) (sym placed.1) ∙ ap Ok (sym h.1)
judged_far (Err (NoLabel k)) table ls placed there h = absurd h
judged_far (Err (TwiceLabel k)) table ls placed there h = absurd h
judged_far (Err (Far k d)) table ls placed there h = judged_there table ls placed there ∙ ap (code_unless_far ls) h
judged_far (Err Memory) table ls placed there h = tt
