-- The lines of a printed program: their sizes, their symbol table, and the code that they become.
use Rattle.std.proofs.Common.{◌≡◌, ℕ, ℤ, pos, negsuc, suc, ◌+◌, ◌*◌, ◌^◌, ◌<◌, ◌≤◌, List, [], ◌∷◌, ◌++◌, length, map, Bool, true, false, Some, None, Option, Result, Ok, refl, arith, ap, sym, subst, ◌∙◌, append_assoc, length-append}
use Rattle.std.specs.Prelude.{◌==◌, ◌+ℤ◌, ◌-ℤ◌, if◌then◌else◌, find, not, is_none, is_some}
use Rattle.std.specs.List.{flat_map, list_all}
use Rattle.std.proofs.lemmas.Bool.{eqb-true, eqb-false, eq-eqb, ne_eqb, lt-ltb, and_parts}
use Rattle.std.proofs.lemmas.Int.{ints}
use Rattle.std.proofs.lemmas.List.{append-nil, map-append, length-map}
use Rattle.avm_ops.specs.declared.rows.Row.{Row}
use Rattle.avm_ops.specs.declared.rows.Format.{Format}
use Rattle.avm_ops.specs.declared.rows.Format.TheVariants as format
use Rattle.avm_ops.specs.declared.instr.Instr.{Instr}
use Rattle.avm_ops.specs.declared.instr.Imm.{Imm}
use Rattle.avm_ops.specs.declared.instr.Imm.TheVariants as imm
use Rattle.avm_ops.specs.Table.{row_of, row_in, table}
use Rattle.avm_ops.specs.Immediate.{IsOf, IsSigned16, jump_bytes}
use Rattle.avm_ops.specs.Code.{HasForm, HasFormOf, instr_bytes}
use Rattle.avm_run.specs.Bytes.{offsets_of, place, target}
use Rattle.avm_asm.specs.declared.line.Line.{Line}
use Rattle.avm_asm.specs.declared.line.AsmFault.{AsmFault}
use Rattle.avm_asm.specs.Listing.{jump_opcode, table_opcode, line_size, named_by, symbol_at, symbols, place_in, distance, distance_to, instr_in, bytes_of, bytes_from}
use Rattle.avm_asm.specs.Assembled.{assembled, branches, code_unless_twice, code_unless_missing, code_unless_far, far, first_again, is_near, missing, twice}
use Rattle.teal_line.specs.declared.statement.Statement.TheVariants.{Label}
use Rattle.teal_line.specs.Reading.{jump_kind, table_kind}
use Rattle.teal_text.specs.Printing.{Placed, label_name, label_at, statement_of, statements_by}
use Rattle.teal_text.proofs.LawChain.{Each, each_append, each_map, each_weaker, none_found, IsLink, IsChain, IsGood, Reaches, bytes_at, place_at, is_in, stands_in}
use Rattle.teal_text.proofs.LawNumbers.{line_of}

-- ---- the lines

-- the lines of instructions that end at a place, by a numbering of names
abbrev pub lines_by : (List ℕ → ℕ) → List ℕ → ℕ → List Placed → List Line
lines_by f ts end [] = map (line_of f) (label_at ts end)
lines_by f ts end (p ∷ ps) = map (line_of f) (label_at ts p.pc) ++ (line_of f (statement_of p) ∷ lines_by f ts end ps)

pub lines_are : (f : List ℕ → ℕ) (ts : List ℕ) (end : ℕ) (ps : List Placed) → map (line_of f) (statements_by ts end ps) ≡ lines_by f ts end ps
lines_are f ts end [] = refl
lines_are f ts end (p ∷ ps) =
    let rest = flat_map (λ (q : Placed). label_at ts q.pc ++ statement_of q ∷ []) ps in
    let apart : ((label_at ts p.pc ++ statement_of p ∷ []) ++ rest) ++ label_at ts end ≡ label_at ts p.pc ++ (statement_of p ∷ (rest ++ label_at ts end)) = simp append_assoc in
    ap (map (line_of f)) apart
    ∙ map-append (line_of f) (label_at ts p.pc) (statement_of p ∷ (rest ++ label_at ts end))
    ∙ ap (λ (ls : List Line). map (line_of f) (label_at ts p.pc) ++ (line_of f (statement_of p) ∷ ls)) (lines_are f ts end ps)

abbrev pub placed_so : ℕ → ℕ → ℕ → Imm → Placed
placed_so pc op next i = record { pc = pc; instr = record { op = op; imm = i }; next = next }

-- ---- one line

table_size : (js : List ℤ) → 2 + 2 * length js ≡ suc (suc (length (flat_map jump_bytes js)))
table_size [] = refl
table_size (j ∷ js) = omega (arith, table_size js, length-append (jump_bytes j) (flat_map jump_bytes js))

size_by : (f : List ℕ → ℕ) (pc next op : ℕ) (i : Imm) → line_size (line_of f (statement_of (placed_so pc op next i))) ≡ length (instr_bytes (record { op = op; imm = i }))
size_by f pc next op (imm.Jump j) = refl
size_by f pc next op (imm.Jumps js) =
    let h = λ (j : ℤ). label_name (place (target next j)) in
    omega (arith, table_size js, length-map (map h js) f, length-map js h)
size_by f pc next op i = refl

size_is : (f : List ℕ → ℕ) (p : Placed) → line_size (line_of f (statement_of p)) ≡ length (instr_bytes p.instr)
size_is f p = size_by f p.pc p.next p.instr.op p.instr.imm

symbol_by : (f : List ℕ → ℕ) (at pc next op : ℕ) (i : Imm) → symbol_at at (line_of f (statement_of (placed_so pc op next i))) ≡ []
symbol_by f at pc next op (imm.Jump j) = refl
symbol_by f at pc next op (imm.Jumps js) = refl
symbol_by f at pc next op i = refl

symbol_is : (f : List ℕ → ℕ) (at : ℕ) (p : Placed) → symbol_at at (line_of f (statement_of p)) ≡ []
symbol_is f at p = symbol_by f at p.pc p.next p.instr.op p.instr.imm

-- the label of an offset, by number
abbrev pub label_of : (List ℕ → ℕ) → ℕ → ℤ → ℕ
label_of f next j = f (label_name (place (target next j)))

map_twice : {A B C : Type 0} (h : A → B) (g : B → C) (xs : List A) → map g (map h xs) ≡ map (λ x. g (h x)) xs
map_twice h g [] = refl
map_twice h g (x ∷ xs) = ap (λ ys. g (h x) ∷ ys) (map_twice h g xs)

named_by_is : (f : List ℕ → ℕ) (pc next op : ℕ) (i : Imm) → named_by (line_of f (statement_of (placed_so pc op next i))) ≡ map (label_of f next) (offsets_of i)
named_by_is f pc next op (imm.Jump j) = refl
named_by_is f pc next op (imm.Jumps js) = map_twice (λ (j : ℤ). label_name (place (target next j))) f js
named_by_is f pc next op i = refl

named_is : (f : List ℕ → ℕ) (p : Placed) → named_by (line_of f (statement_of p)) ≡ map (label_of f p.next) (offsets_of p.instr.imm)
named_is f p = named_by_is f p.pc p.next p.instr.op p.instr.imm

-- ---- the opcode of a branch

abbrev right_by : Format → ℕ → Bool
right_by format.Jump op = jump_opcode (jump_kind op) == op
right_by format.Jumps op = table_opcode (table_kind op) == op
right_by f op = true

right_table : list_all (λ (e : ℕ × Row). right_by e.1.format e.0) table ≡ true
unfolding table
right_table = refl

right_in : (es : List (ℕ × Row)) (op : ℕ) (row : Row) → list_all (λ (e : ℕ × Row). right_by e.1.format e.0) es ≡ true → row_in es op ≡ Some row → right_by row.format op ≡ true
right_in [] op row h is = absurd cc
right_in (e ∷ es) op row h is = by (op == e.0) refl is (right_in es op row (and_parts (right_by e.1.format e.0) (list_all (λ (e : ℕ × Row). right_by e.1.format e.0) es) h).1)
  where
    by : (b : Bool) → (op == e.0) ≡ b → (if b then Some e.1 else row_in es op) ≡ Some row → (row_in es op ≡ Some row → right_by row.format op ≡ true) → right_by row.format op ≡ true
    by false at is ih = ih is
    by true at is ih =
        let same : e.1 ≡ row = cc in
        let there : op ≡ e.0 = eqb-true op e.0 at in
        let first : right_by e.1.format e.0 ≡ true = (and_parts (right_by e.1.format e.0) (list_all (λ (e : ℕ × Row). right_by e.1.format e.0) es) h).0 in
        ap (λ (r : Row). right_by r.format op) (sym same) ∙ ap (right_by e.1.format) there ∙ first

right_of : (op : ℕ) (row : Row) → row_of op ≡ Some row → right_by row.format op ≡ true
unfolding row_of
right_of op row is = right_in table op row right_table is

jump_of : (op : ℕ) (j : ℤ) (g : Format) → right_by g op ≡ true → IsOf g (imm.Jump j) → jump_opcode (jump_kind op) ≡ op
jump_of op j format.Jump r h = eqb-true (jump_opcode (jump_kind op)) op r
jump_of op j g r h = absurd h

table_of_kind : (op : ℕ) (js : List ℤ) (g : Format) → right_by g op ≡ true → IsOf g (imm.Jumps js) → table_opcode (table_kind op) ≡ op
table_of_kind op js format.Jumps r h = eqb-true (table_opcode (table_kind op)) op r
table_of_kind op js g r h = absurd h

jump_is : (op : ℕ) (j : ℤ) (row : Option Row) → row_of op ≡ row → HasFormOf row (imm.Jump j) → jump_opcode (jump_kind op) ≡ op
jump_is op j None is h = absurd h
jump_is op j (Some row) is h = jump_of op j row.format (right_of op row is) h

table_is : (op : ℕ) (js : List ℤ) (row : Option Row) → row_of op ≡ row → HasFormOf row (imm.Jumps js) → table_opcode (table_kind op) ≡ op
table_is op js None is h = absurd h
table_is op js (Some row) is h = table_of_kind op js row.format (right_of op row is) h

-- ---- the distance to a label

-- the table has the place to which an offset leads, and it is the label's distance
pub record IsMet (f : List ℕ → ℕ) (known : List (ℕ × ℕ)) (next : ℕ) (j : ℤ) : Type 0 where
  pub found : place_in known (label_of f next j) ≡ Some (place (target next j))
  pub far : distance known next (label_of f next j) ≡ j
  pub near : IsSigned16 j

back : (a b : ℕ) (j : ℤ) → pos a +ℤ j ≡ pos b → pos b -ℤ pos a ≡ j
back a b j h = omega (arith, ints)

met_of : (f : List ℕ → ℕ) (known : List (ℕ × ℕ)) (next : ℕ) (j : ℤ) → target next j ≡ pos (place (target next j)) → place_in known (label_of f next j) ≡ Some (place (target next j)) → IsSigned16 j → IsMet f known next j
met_of f known next j spot found near = record {
  found = found;
  far = ap (distance_to next) found ∙ back next (place (target next j)) j spot;
  near = near;
}

near_is : (j : ℤ) → IsSigned16 j → is_near j ≡ true
near_is (pos n) h = lt-ltb n (2 ^ 15) h.sfits
near_is (negsuc n) h = lt-ltb n (2 ^ 15) h.sfits

each_far : (f : List ℕ → ℕ) (known : List (ℕ × ℕ)) (next : ℕ) (js : List ℤ) → Each (IsMet f known next) js → map (distance known next) (map (label_of f next) js) ≡ js
each_far f known next [] h = refl
each_far f known next (j ∷ js) h = ap (λ (k : ℤ). k ∷ map (distance known next) (map (label_of f next) js)) (h.0.far) ∙ ap (λ (ks : List ℤ). j ∷ ks) (each_far f known next js h.1)

instr_by : (f : List ℕ → ℕ) (known : List (ℕ × ℕ)) (pc next op : ℕ) (i : Imm) → HasForm (record { op = op; imm = i }) → Each (IsMet f known next) (offsets_of i)
    → instr_in known next (line_of f (statement_of (placed_so pc op next i))) ≡ Some (record { op = op; imm = i })
instr_by f known pc next op (imm.Jump j) form h =
    ap (λ (k : ℕ). Some (record { op = k; imm = imm.Jump (distance known next (label_of f next j)) })) (jump_is op j (row_of op) refl form)
    ∙ ap (λ (k : ℤ). Some (record { op = op; imm = imm.Jump k })) (h.0.far)
instr_by f known pc next op (imm.Jumps js) form h =
    ap (λ (k : ℕ). Some (record { op = k; imm = imm.Jumps (map (distance known next) (map f (map (λ (j : ℤ). label_name (place (target next j))) js))) })) (table_is op js (row_of op) refl form)
    ∙ ap (λ (ks : List ℕ). Some (record { op = op; imm = imm.Jumps (map (distance known next) ks) })) (map_twice (λ (j : ℤ). label_name (place (target next j))) f js)
    ∙ ap (λ (ks : List ℤ). Some (record { op = op; imm = imm.Jumps ks })) (each_far f known next js h)
instr_by f known pc next op i form h = refl

instr_is : (f : List ℕ → ℕ) (known : List (ℕ × ℕ)) (p : Placed) → HasForm p.instr → Each (IsMet f known p.next) (offsets_of p.instr.imm)
    → instr_in known p.next (line_of f (statement_of p)) ≡ Some p.instr
instr_is f known p form h = instr_by f known p.pc p.next p.instr.op p.instr.imm form h

-- ---- label lines take nothing

-- the symbol of a place that has a label
abbrev mark : (List ℕ → ℕ) → List ℕ → ℕ → List (ℕ × ℕ)
mark f ts t = if is_in ts t then (f (label_name t), t) ∷ [] else []

-- the symbol table of the lines
abbrev pub marks : (List ℕ → ℕ) → List ℕ → ℕ → List Placed → List (ℕ × ℕ)
marks f ts end [] = mark f ts end
marks f ts end (p ∷ ps) = mark f ts p.pc ++ marks f ts end ps

same_place : (at : ℕ) → at + 0 ≡ at
same_place at = omega arith

abbrev labels_by : (List ℕ → ℕ) → Bool → ℕ → List Line
labels_by f b t = map (line_of f) (if b then Label (label_name t) ∷ [] else [])

symbols_label : (f : List ℕ → ℕ) (b : Bool) (at : ℕ) (ls : List Line) → symbols at (labels_by f b at ++ ls) ≡ (if b then (f (label_name at), at) ∷ [] else []) ++ symbols at ls
symbols_label f true at ls = ap (λ (n : ℕ). (f (label_name at), at) ∷ symbols n ls) (same_place at)
symbols_label f false at ls = refl

bytes_label : (f : List ℕ → ℕ) (known : List (ℕ × ℕ)) (b : Bool) (t at : ℕ) (ls : List Line) → bytes_from known at (labels_by f b t ++ ls) ≡ bytes_from known at ls
bytes_label f known true t at ls = ap (λ (n : ℕ). bytes_from known n ls) (same_place at)
bytes_label f known false t at ls = refl

branches_label : (f : List ℕ → ℕ) (known : List (ℕ × ℕ)) (b : Bool) (t at : ℕ) (ls : List Line) → branches known at (labels_by f b t ++ ls) ≡ branches known at ls
branches_label f known true t at ls = ap (λ (n : ℕ). branches known n ls) (same_place at)
branches_label f known false t at ls = refl

names_label : (f : List ℕ → ℕ) (b : Bool) (t : ℕ) (ls : List Line) → flat_map named_by (labels_by f b t ++ ls) ≡ flat_map named_by ls
names_label f true t ls = refl
names_label f false t ls = refl

-- ---- all lines

-- where an instruction's line ends
ends_at : (f : List ℕ → ℕ) (at : ℕ) (p : Placed) → IsLink at p → at + line_size (line_of f (statement_of p)) ≡ p.next
ends_at f at p h = ap (λ (n : ℕ). at + n) (size_is f p) ∙ sym h.long

pub symbols_are : (f : List ℕ → ℕ) (ts : List ℕ) (at end : ℕ) (ps : List Placed) → IsChain at end ps → symbols at (lines_by f ts end ps) ≡ marks f ts end ps
symbols_are f ts at end [] h =
    ap (λ (n : ℕ). symbols n (lines_by f ts end [])) h
    ∙ ap (symbols end) (sym (append-nil (labels_by f (is_in ts end) end)))
    ∙ symbols_label f (is_in ts end) end []
    ∙ append-nil (mark f ts end)
symbols_are f ts at end (p ∷ ps) h =
    let l = line_of f (statement_of p) in
    let ls = lines_by f ts end ps in
    ap (λ (n : ℕ). symbols n (lines_by f ts end (p ∷ ps))) (sym (h.0.here))
    ∙ symbols_label f (is_in ts p.pc) p.pc (l ∷ ls)
    ∙ ap (λ (xs : List (ℕ × ℕ)). mark f ts p.pc ++ (xs ++ symbols (p.pc + line_size l) ls)) (symbol_is f p.pc p)
    ∙ ap (λ (n : ℕ). mark f ts p.pc ++ symbols (n + line_size l) ls) (h.0.here)
    ∙ ap (λ (n : ℕ). mark f ts p.pc ++ symbols n ls) (ends_at f at p h.0)
    ∙ ap (λ (xs : List (ℕ × ℕ)). mark f ts p.pc ++ xs) (symbols_are f ts p.next end ps h.1)

-- an instruction whose labels a table has
pub record IsSet (f : List ℕ → ℕ) (known : List (ℕ × ℕ)) (p : Placed) : Type 0 where
  pub form : HasForm p.instr
  pub met : Each (IsMet f known p.next) (offsets_of p.instr.imm)

pub bytes_are : (f : List ℕ → ℕ) (ts : List ℕ) (known : List (ℕ × ℕ)) (at end : ℕ) (ps : List Placed) → IsChain at end ps → Each (IsSet f known) ps → bytes_from known at (lines_by f ts end ps) ≡ flat_map bytes_at ps
bytes_are f ts known at end [] h g =
    ap (bytes_from known at) (sym (append-nil (labels_by f (is_in ts end) end)))
    ∙ bytes_label f known (is_in ts end) end at []
bytes_are f ts known at end (p ∷ ps) h g =
    let l = line_of f (statement_of p) in
    let ls = lines_by f ts end ps in
    bytes_label f known (is_in ts p.pc) p.pc at (l ∷ ls)
    ∙ ap (λ (n : ℕ). bytes_of (instr_in known n l) ++ bytes_from known n ls) (ends_at f at p h.0)
    ∙ ap (λ (o : Option Instr). bytes_of o ++ bytes_from known p.next ls) (instr_is f known p (g.0.form) (g.0.met))
    ∙ ap (λ (xs : List ℕ). bytes_at p ++ xs) (bytes_are f ts known p.next end ps h.1 g.1)

abbrev IsFound : List (ℕ × ℕ) → ℕ → Type 0
IsFound known k = is_none (place_in known k) ≡ false

each_found : (f : List ℕ → ℕ) (ts : List ℕ) (known : List (ℕ × ℕ)) (end : ℕ) (ps : List Placed) → Each (IsSet f known) ps → Each (IsFound known) (flat_map named_by (lines_by f ts end ps))
each_found f ts known end [] g =
    subst (Each (IsFound known)) (sym (ap (flat_map named_by) (sym (append-nil (labels_by f (is_in ts end) end))) ∙ names_label f (is_in ts end) end [])) tt
each_found f ts known end (p ∷ ps) g =
    let l = line_of f (statement_of p) in
    let ls = lines_by f ts end ps in
    let here : Each (IsFound known) (named_by l) =
    subst (Each (IsFound known)) (sym (named_is f p))
    (each_map (IsFound known) (label_of f p.next) (offsets_of p.instr.imm)
    (each_weaker (IsMet f known p.next) (λ j. IsFound known (label_of f p.next j)) (λ j m. ap is_none m.found) (offsets_of p.instr.imm) (g.0.met))) in
    subst (Each (IsFound known)) (sym (names_label f (is_in ts p.pc) p.pc (l ∷ ls)))
    (each_append (IsFound known) (named_by l) (flat_map named_by ls) here (each_found f ts known end ps g.1))

abbrev IsNear : ℕ × ℤ → Type 0
IsNear b = not (is_near b.1) ≡ false

near_met : (f : List ℕ → ℕ) (known : List (ℕ × ℕ)) (next : ℕ) (j : ℤ) → IsMet f known next j → IsNear (label_of f next j, distance known next (label_of f next j))
near_met f known next j m = ap (λ (k : ℤ). not (is_near k)) m.far ∙ ap not (near_is j m.near)

each_near : (f : List ℕ → ℕ) (ts : List ℕ) (known : List (ℕ × ℕ)) (at end : ℕ) (ps : List Placed) → IsChain at end ps → Each (IsSet f known) ps → Each IsNear (branches known at (lines_by f ts end ps))
each_near f ts known at end [] h g =
    subst (Each IsNear) (sym (ap (branches known at) (sym (append-nil (labels_by f (is_in ts end) end))) ∙ branches_label f known (is_in ts end) end at [])) tt
each_near f ts known at end (p ∷ ps) h g =
    let l = line_of f (statement_of p) in
    let ls = lines_by f ts end ps in
    let pair : ℕ → ℕ × ℤ = λ k. (k, distance known p.next k) in
    let here : Each IsNear (map pair (named_by l)) =
    each_map IsNear pair (named_by l)
    (subst (Each (λ k. IsNear (k, distance known p.next k))) (sym (named_is f p))
    (each_map (λ k. IsNear (k, distance known p.next k)) (label_of f p.next) (offsets_of p.instr.imm)
    (each_weaker (IsMet f known p.next) (λ j. IsNear (label_of f p.next j, distance known p.next (label_of f p.next j))) (near_met f known p.next) (offsets_of p.instr.imm) (g.0.met)))) in
    subst (Each IsNear)
    (sym (branches_label f known (is_in ts p.pc) p.pc at (l ∷ ls)
    ∙ ap (λ (n : ℕ). map (λ k. (k, distance known n k)) (named_by l) ++ branches known n ls) (ends_at f at p h.0)))
    (each_append IsNear (map pair (named_by l)) (branches known p.next ls) here (each_near f ts known p.next end ps h.1 g.1))

-- ---- the place of each label

-- different places up to the end have different numbers
pub record IsApart (f : List ℕ → ℕ) (ts : List ℕ) (end : ℕ) : Type 0 where
  pub apart : (t u : ℕ) → t ≤ end → u ≤ end → is_in ts t ≡ true → f (label_name t) ≡ f (label_name u) → t ≡ u

link_rises : (at : ℕ) (p : Placed) → IsLink at p → p.pc < p.next
link_rises at p h = omega (arith, h.long, h.here)

pub chain_rises : (at end : ℕ) (ps : List Placed) → IsChain at end ps → at ≤ end
chain_rises at end [] h = omega arith
chain_rises at end (p ∷ ps) h = let more = chain_rises p.next end ps h.1 in let up = link_rises at p h.0 in omega (arith, more, up, h.0.here)

found_first : (f : List ℕ → ℕ) (ts : List ℕ) (t : ℕ) (rest : List (ℕ × ℕ)) → is_in ts t ≡ true → place_in (mark f ts t ++ rest) (f (label_name t)) ≡ Some t
found_first f ts t rest h = by (is_in ts t) h
  where
    by : (b : Bool) → b ≡ true → place_in ((if b then (f (label_name t), t) ∷ [] else []) ++ rest) (f (label_name t)) ≡ Some t
    by true is = rw (eq-eqb (f (label_name t)) (f (label_name t)) refl) refl
    by false is = absurd cc

passed_by : (f : List ℕ → ℕ) (ts : List ℕ) (end t u : ℕ) (rest : List (ℕ × ℕ)) → IsApart f ts end → t ≤ end → u ≤ end → is_in ts t ≡ true → (u ≡ t → ⊥)
    → place_in (mark f ts u ++ rest) (f (label_name t)) ≡ place_in rest (f (label_name t))
passed_by f ts end t u rest a low high h other = by (is_in ts u)
  where
    by : (b : Bool) → place_in ((if b then (f (label_name u), u) ∷ [] else []) ++ rest) (f (label_name t)) ≡ place_in rest (f (label_name t))
    by true = rw (ne_eqb (f (label_name u)) (f (label_name t)) (λ e. other (sym (a.apart t u low high h (sym e))))) refl
    by false = refl

pub place_of : (f : List ℕ → ℕ) (ts : List ℕ) (at end t : ℕ) (ps : List Placed) → IsApart f ts end → IsChain at end ps → t ≤ end → is_in ts t ≡ true → stands_in (map place_at ps) end t ≡ true
    → place_in (marks f ts end ps) (f (label_name t)) ≡ Some t
place_of f ts at end t [] a h low listed stands =
    let last : t ≡ end = eqb-true t end stands in
    ap (λ (n : ℕ). place_in (mark f ts n) (f (label_name t))) (sym last)
    ∙ ap (λ (xs : List (ℕ × ℕ)). place_in xs (f (label_name t))) (sym (append-nil (mark f ts t)))
    ∙ found_first f ts t [] listed
place_of f ts at end t (p ∷ ps) a h low listed stands = by (p.pc == t) refl (place_of f ts p.next end t ps a h.1 low listed)
  where
    by : (b : Bool) → (p.pc == t) ≡ b → (stands_in (map place_at ps) end t ≡ true → place_in (marks f ts end ps) (f (label_name t)) ≡ Some t)
        → place_in (mark f ts p.pc ++ marks f ts end ps) (f (label_name t)) ≡ Some t
    by true is ih =
        let same : p.pc ≡ t = eqb-true p.pc t is in
        ap (λ (n : ℕ). place_in (mark f ts n ++ marks f ts end ps) (f (label_name t))) same ∙ found_first f ts t (marks f ts end ps) listed
    by false is ih =
        let rest : stands_in (map place_at ps) end t ≡ true = rw is at stands in
        let more = chain_rises p.next end ps h.1 in
        let up = link_rises at p h.0 in
        passed_by f ts end t p.pc (marks f ts end ps) a low (omega (arith, more, up)) listed (λ e. eqb-false p.pc t is e) ∙ ih rest

-- no label of a place from here on stands in the table
abbrev Clean : (List ℕ → ℕ) → List ℕ → ℕ → ℕ → List (ℕ × ℕ) → Type 0
Clean f ts at end seen = (t : ℕ) → at ≤ t → t ≤ end → is_in ts t ≡ true → place_in seen (f (label_name t)) ≡ None

none_pushed : (seen : List (ℕ × ℕ)) (k m n : ℕ) → (m == k) ≡ false → place_in seen k ≡ None → place_in (seen ++ (m, n) ∷ []) k ≡ None
none_pushed [] k m n other h = rw other refl
none_pushed (s ∷ seen) k m n other h = by (s.0 == k) refl (none_pushed seen k m n other)
  where
    by : (b : Bool) → (s.0 == k) ≡ b → (place_in seen k ≡ None → place_in (seen ++ (m, n) ∷ []) k ≡ None) → place_in ((s ∷ seen) ++ (m, n) ∷ []) k ≡ None
    by true is ih = let clash : Some s.1 ≡ None = rw is at h in absurd cc
    by false is ih = let rest : place_in seen k ≡ None = rw is at h in rw is (ih rest)

clean_more : (f : List ℕ → ℕ) (ts : List ℕ) (at next end : ℕ) (seen : List (ℕ × ℕ)) → IsApart f ts end → at < next → at ≤ end → is_in ts at ≡ true → Clean f ts at end seen
    → Clean f ts next end (seen ++ (f (label_name at), at) ∷ [])
clean_more f ts at next end seen a low high listed clean t l h is =
    let other : (f (label_name at) == f (label_name t)) ≡ false = ne_eqb (f (label_name at)) (f (label_name t)) (λ e. absurd (omega (arith, a.apart at t high h listed e))) in
    none_pushed seen (f (label_name t)) (f (label_name at)) at other (clean t (omega arith) h is)

again_by : (f : List ℕ → ℕ) (ts : List ℕ) (at next end : ℕ) (seen rest : List (ℕ × ℕ)) (b : Bool) → is_in ts at ≡ b → IsApart f ts end → at < next → at ≤ end → Clean f ts at end seen
    → ((more : List (ℕ × ℕ)) → Clean f ts next end more → first_again more rest ≡ None) → first_again seen ((if b then (f (label_name at), at) ∷ [] else []) ++ rest) ≡ None
again_by f ts at next end seen rest true is a low high clean ih =
    let first : is_some (place_in seen (f (label_name at))) ≡ false = ap is_some (clean at (omega arith) high is) in
    rw first (ih (seen ++ (f (label_name at), at) ∷ []) (clean_more f ts at next end seen a low high is clean))
again_by f ts at next end seen rest false is a low high clean ih = ih seen (λ t l h listed. clean t (omega arith) h listed)

pub none_again : (f : List ℕ → ℕ) (ts : List ℕ) (at end : ℕ) (ps : List Placed) (seen : List (ℕ × ℕ)) → IsApart f ts end → IsChain at end ps → Clean f ts at end seen → first_again seen (marks f ts end ps) ≡ None
none_again f ts at end [] seen a h clean =
    ap (first_again seen) (sym (append-nil (mark f ts end)))
    ∙ again_by f ts end (suc end) end seen [] (is_in ts end) refl a (omega arith) (omega arith) (λ t l low listed. clean t (omega arith) low listed) (λ more c. refl)
none_again f ts at end (p ∷ ps) seen a h clean =
    let more = chain_rises p.next end ps h.1 in
    let up = link_rises at p h.0 in
    again_by f ts p.pc p.next end seen (marks f ts end ps) (is_in ts p.pc) refl a up (omega (arith, more, up))
    (λ t l low listed. clean t (omega (arith, l, h.0.here)) low listed) (λ xs c. none_again f ts p.next end ps xs a h.1 c)

-- ---- the code

pub each_low : (at end : ℕ) (ps : List Placed) → IsChain at end ps → Each (λ (s : ℕ). s ≤ end) (map place_at ps)
each_low at end [] h = tt
each_low at end (p ∷ ps) h =
    let more = chain_rises p.next end ps h.1 in
    let up = link_rises at p h.0 in
    (omega (arith, more, up), each_low p.next end ps h.1)

pub low_of : (starts : List ℕ) (end t : ℕ) → Each (λ (s : ℕ). s ≤ end) starts → stands_in starts end t ≡ true → t ≤ end
low_of [] end t h e = omega (arith, eqb-true t end e)
low_of (s ∷ ss) end t h e = by (s == t) refl (low_of ss end t h.1)
  where
    by : (b : Bool) → (s == t) ≡ b → (stands_in ss end t ≡ true → t ≤ end) → t ≤ end
    by true is ih = omega (arith, eqb-true s t is, h.0)
    by false is ih = let rest : stands_in ss end t ≡ true = rw is at e in ih rest

set_of : (f : List ℕ → ℕ) (ts : List ℕ) (at end : ℕ) (ps : List Placed) (p : Placed) → IsApart f ts end → IsChain at end ps → IsGood ts (map place_at ps) end p → IsSet f (marks f ts end ps) p
set_of f ts at end ps p a h g = record {
  form = g.form;
  met = each_weaker (Reaches ts (map place_at ps) end p.next) (IsMet f (marks f ts end ps) p.next)
      (λ j r. met_of f (marks f ts end ps) p.next j r.spot
      (place_of f ts at end (place (target p.next j)) ps a h (low_of (map place_at ps) end (place (target p.next j)) (each_low at end ps h) r.stands) r.listed r.stands)
      r.near) (offsets_of p.instr.imm) g.reaches;
}

-- the lines of instructions become their bytes again
pub assembled_lines : (f : List ℕ → ℕ) (ts : List ℕ) (end : ℕ) (ps : List Placed) → IsApart f ts end → IsChain 1 end ps → Each (IsGood ts (map place_at ps) end) ps
    → assembled (lines_by f ts end ps) ≡ Ok (10 ∷ flat_map bytes_at ps)
unfolding assembled
assembled_lines f ts end ps a h good =
    let ls = lines_by f ts end ps in
    let known = marks f ts end ps in
    let table_is = symbols_are f ts 1 end ps h in
    let set = each_weaker (IsGood ts (map place_at ps) end) (IsSet f known) (λ p g. set_of f ts 1 end ps p a h g) ps good in
    let once : twice ls ≡ None = ap (first_again []) table_is ∙ none_again f ts 1 end ps [] a h (λ t l low listed. refl) in
    let there : missing ls ≡ None =
    ap (λ (xs : List (ℕ × ℕ)). find (λ k. is_none (place_in xs k)) (flat_map named_by ls)) table_is
    ∙ none_found (λ k. is_none (place_in known k)) (flat_map named_by ls) (each_found f ts known end ps set) in
    let near : far ls ≡ None =
    ap (λ (xs : List (ℕ × ℕ)). find (λ (b : ℕ × ℤ). not (is_near b.1)) (branches xs 1 ls)) table_is
    ∙ none_found (λ (b : ℕ × ℤ). not (is_near b.1)) (branches known 1 ls) (each_near f ts known 1 end ps h set) in
    ap (code_unless_twice ls) once
    ∙ ap (code_unless_missing ls) there
    ∙ ap (code_unless_far ls) near
    ∙ ap (λ (xs : List (ℕ × ℕ)). let r : Result (List ℕ) AsmFault = Ok (10 ∷ bytes_from xs 1 ls) in r) table_is
    ∙ ap (λ (bs : List ℕ). let r : Result (List ℕ) AsmFault = Ok (10 ∷ bs) in r) (bytes_are f ts known 1 end ps h set)
