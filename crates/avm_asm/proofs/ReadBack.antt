-- The code of lines is read back line by line.
use Rattle.std.proofs.Common.{◌≡◌, ℕ, ℤ, ◌+◌, ◌<◌, ◌^◌, pos, negsuc, Bool, true, false, cond, not, List, [], ◌∷◌, ◌++◌, length, drop, map, Option, Some, None, Result, Ok, refl, sym, subst, arith, ap, ◌∙◌, append_assoc, FitsSigned, rules}
use Rattle.std.specs.Option.{option_or}
use Rattle.std.specs.List.{All}
use Rattle.std.specs.Int.{w16}
use Rattle.std.proofs.lemmas.Bool.Decides.{nat_tests}
use Rattle.std.proofs.lemmas.List.{length-map, length-append}
use Rattle.std.proofs.lemmas.List.Elements.{All-nil, All-cons}
use Rattle.std.proofs.Math.Seq.{drop-append_seam, get_or-append_seam}
use Rattle.avm_ops.specs.declared.instr.Instr.{Instr}
use Rattle.avm_ops.specs.declared.instr.DecodeFault.{DecodeFault}
use Rattle.avm_ops.specs.Code.{HasForm, instr_bytes, decoded, decoded_at}
use Rattle.avm_ops.specs.Immediate.{IsSigned16}
use Rattle.avm_asm.specs.declared.line.Line.{Line}
use Rattle.avm_asm.specs.declared.line.Line.TheVariants.{Op, Label, Jump, Table}
use Rattle.avm_asm.specs.Listing.{AreLines, IsLine, line_size, lines_size, named_by, distance, instr_in, bytes_of, bytes_from}
use Rattle.avm_asm.specs.Assembled.{assembled, branches, branches_to, code_size, code_unless_far, code_unless_missing, code_unless_twice, far, first_far, first_place, is_near, missing, symbols_of, twice}
use Rattle.avm_asm.proofs.Coding.{first_far-append}
use Rattle.avm_asm.proofs.Forms.{bytes_length, jump_has_form, line_length, table_has_form}

ok_unless_twice : (ls : List Line) (code : List ℕ) (o : Option ℕ) → code_unless_twice ls o ≡ Ok code → code_unless_missing ls (missing ls) ≡ Ok code
ok_unless_twice ls code None h = h
ok_unless_twice ls code (Some k) h = cc

ok_unless_missing : (ls : List Line) (code : List ℕ) (o : Option ℕ) → code_unless_missing ls o ≡ Ok code → code_unless_far ls (far ls) ≡ Ok code
ok_unless_missing ls code None h = h
ok_unless_missing ls code (Some k) h = cc

-- lines that have code: no branch is too far, and the code is the bytes of the lines
pub record HasCode (ls : List Line) (code : List ℕ) : Type 0 where
  pub near : first_far (branches (symbols_of ls) first_place ls) ≡ None
  pub bytes : code ≡ 10 ∷ bytes_from (symbols_of ls) first_place ls

ok_unless_far : (ls : List Line) (code : List ℕ) (o : Option (ℕ × ℤ)) → far ls ≡ o → code_unless_far ls o ≡ Ok code → HasCode ls code
ok_unless_far ls code None e h = record { near = e; bytes = cc }
ok_unless_far ls code (Some b) e h = absurd cc

has_code : (ls : List Line) (code : List ℕ) → assembled ls ≡ Ok code → HasCode ls code
unfolding assembled
has_code ls code h = ok_unless_far ls code (far ls) refl (ok_unless_missing ls code (missing ls) (ok_unless_twice ls code (twice ls) h))

pub code_length : (ls : List Line) (code : List ℕ) → assembled ls ≡ Ok code → length code ≡ code_size ls
code_length ls code h = omega (arith, ap length (has_code ls code h).bytes, bytes_length (symbols_of ls) first_place ls)

-- a place behind lines, in two steps
behind : (at n m : ℕ) → at + n + m ≡ at + (n + m)
behind at n m = omega arith

bytes-split : (t : List (ℕ × ℕ)) (at : ℕ) (before : List Line) (l : Line) (after : List Line)
    → bytes_from t at (before ++ l ∷ after) ≡ bytes_from t at before ++ (bytes_of (instr_in t (at + lines_size before + line_size l) l) ++ bytes_from t (at + lines_size before + line_size l) after)
bytes-split t at [] l after = let e : at + 0 ≡ at = omega arith in rw e refl
bytes-split t at (x ∷ before) l after =
    let e : at + line_size x + lines_size before ≡ at + (line_size x + lines_size before) = behind at (line_size x) (lines_size before) in
    let i = rw e at (bytes-split t (at + line_size x) before l after) in
    ap (λ bs. bytes_of (instr_in t (at + line_size x) x) ++ bs) i
    ∙ sym (append_assoc (bytes_of (instr_in t (at + line_size x) x)) (bytes_from t (at + line_size x) before) _)

none_first : {X : Type 0} (a b : Option X) → option_or a b ≡ None → a ≡ None
none_first None b h = refl
none_first (Some x) b h = cc

none_second : {X : Type 0} (a b : Option X) → option_or a b ≡ None → b ≡ None
none_second None b h = h
none_second (Some x) b h = absurd cc

near-split : (t : List (ℕ × ℕ)) (at : ℕ) (before : List Line) (l : Line) (after : List Line) → first_far (branches t at (before ++ l ∷ after)) ≡ None
    → first_far (branches_to t (at + lines_size before + line_size l) (named_by l)) ≡ None
near-split t at [] l after h =
    let e : at + 0 ≡ at = omega arith in
    rw e (none_first _ _ (sym (first_far-append (branches_to t (at + line_size l) (named_by l)) (branches t (at + line_size l) after)) ∙ h))
near-split t at (x ∷ before) l after h =
    let e : at + line_size x + lines_size before ≡ at + (line_size x + lines_size before) = behind at (line_size x) (lines_size before) in
    let later = none_second _ _ (sym (first_far-append (branches_to t (at + line_size x) (named_by x)) (branches t (at + line_size x) (before ++ l ∷ after))) ∙ h) in
    rw e at (near-split t (at + line_size x) before l after later)

near_fits : (d : ℤ) → is_near d ≡ true → FitsSigned w16 d
near_fits (pos n) h = let l : n < 2 ^ 15 = grind (arith, nat_tests) in search rules
near_fits (negsuc n) h = let l : n < 2 ^ 15 = grind (arith, nat_tests) in search rules

near_else : (b : Bool) (p : ℕ × ℤ) (r : Option (ℕ × ℤ)) → cond (not b) (Some p) r ≡ None → b ≡ true
near_else true p r h = refl
near_else false p r h = absurd cc

near_rest : (b : Bool) (p : ℕ × ℤ) (r : Option (ℕ × ℤ)) → cond (not b) (Some p) r ≡ None → r ≡ None
near_rest true p r h = h
near_rest false p r h = absurd cc

all_fit : (t : List (ℕ × ℕ)) (end : ℕ) (ks : List ℕ) → first_far (branches_to t end ks) ≡ None → All IsSigned16 (map (distance t end) ks)
all_fit t end [] h = All-nil IsSigned16
all_fit t end (k ∷ ks) h =
    All-cons IsSigned16 (distance t end k) (map (distance t end) ks) (near_fits (distance t end k) (near_else (is_near (distance t end k)) _ _ h))
    (all_fit t end ks (near_rest (is_near (distance t end k)) _ _ h))

form_of : (a b : Instr) → HasForm a → Some a ≡ Some b → HasForm b
form_of a b h e = let d : a ≡ b = cc in subst HasForm d h

line_form : (t : List (ℕ × ℕ)) (end : ℕ) (l : Line) (i : Instr) → IsLine l → first_far (branches_to t end (named_by l)) ≡ None → instr_in t end l ≡ Some i → HasForm i
line_form t end (Op j) i is near h = form_of j i is.0 h
line_form t end (Label k) i is near h = absurd cc
line_form t end (Jump kind k) i is near h =
    form_of _ i (jump_has_form kind (distance t end k) (near_fits (distance t end k) (near_else (is_near (distance t end k)) _ _ near))) h
line_form t end (Table kind ks) i is near h =
    let few : length (map (distance t end) ks) < 256 = omega (arith, length-map ks (distance t end), is) in
    form_of _ i (table_has_form kind (map (distance t end) ks) few (all_fit t end ks near)) h

-- what an instruction is spelled as is read as it
abbrev pub SpellingIsRead : Type 0
SpellingIsRead = (i : Instr) (pc : ℕ) (rest : List ℕ) → HasForm i → decoded pc (instr_bytes i ++ rest) ≡ Ok (i, pc + length (instr_bytes i))

pub form_at : (ls before after : List Line) (l : Line) (code : List ℕ) (i : Instr) → AreLines ls → ls ≡ before ++ l ∷ after → assembled ls ≡ Ok code
    → instr_in (symbols_of ls) (1 + lines_size before + line_size l) l ≡ Some i → HasForm i
form_at ls before after l code i lines split ok is =
    let t : List (ℕ × ℕ) = symbols_of ls in
    let near : first_far (branches t first_place (before ++ l ∷ after)) ≡ None = ap (λ xs. first_far (branches t first_place xs)) (sym split) ∙ (has_code ls code ok).near in
    let all : AreLines (before ++ l ∷ after) = subst AreLines split lines in
    let inside : length before < length (before ++ l ∷ after) = omega (arith, length-append before (l ∷ after)) in
    let line : IsLine l = subst IsLine (get_or-append_seam before l after l) (all (length before) l inside) in
    line_form t (1 + lines_size before + line_size l) l i line (near-split t first_place before l after near) is

pub read_at : SpellingIsRead → (ls before after : List Line) (l : Line) (code : List ℕ) (i : Instr) → AreLines ls → ls ≡ before ++ l ∷ after → assembled ls ≡ Ok code
    → instr_in (symbols_of ls) (1 + lines_size before + line_size l) l ≡ Some i → decoded_at code (1 + lines_size before) ≡ Ok (i, 1 + lines_size before + line_size l)
read_at spelling ls before after l code i lines split ok is =
    let t : List (ℕ × ℕ) = symbols_of ls in
    let pc : ℕ = 1 + lines_size before in
    let front : List ℕ = 10 ∷ bytes_from t first_place before in
    let rest : List ℕ = bytes_from t (pc + line_size l) after in
    let bytes : code ≡ front ++ (instr_bytes i ++ rest) =
    (has_code ls code ok).bytes
    ∙ ap (λ xs. 10 ∷ bytes_from t first_place xs) split
    ∙ ap (λ bs. 10 ∷ bs) (bytes-split t first_place before l after)
    ∙ ap (λ o. front ++ (bytes_of o ++ rest)) is in
    let place : pc ≡ length front = omega (arith, bytes_length t first_place before) in
    let left : drop pc code ≡ instr_bytes i ++ rest =
    ap (λ n. drop n code) place ∙ ap (drop (length front)) bytes ∙ drop-append_seam front (instr_bytes i ++ rest) in
    let size : pc + length (instr_bytes i) ≡ pc + line_size l = omega (arith, line_length t (pc + line_size l) l, ap (λ o. length (bytes_of o)) is) in
    ap (decoded pc) left
    ∙ spelling i pc rest (form_at ls before after l code i lines split ok is)
    ∙ ap (λ (k : ℕ). let r : Result (Instr × ℕ) DecodeFault = Ok (i, k) in r) size
