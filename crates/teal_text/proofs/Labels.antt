-- The law of labels: each printed statement can be read back, and the statements with their labels by number are assembled to the program.
use Rattle.std.proofs.Common.{◌≡◌, ℕ, ℤ, ◌+◌, ◌%◌, ◌^◌, ◌<◌, ◌≤◌, List, [], ◌∷◌, ◌++◌, length, map, Bool, true, false, Some, None, Option, Result, Ok, refl, arith, ap, sym, subst, ◌∙◌, IsTrue, All}
use Rattle.std.specs.Prelude.{◌==◌, ◌&&◌, if◌then◌else◌, nat_le}
use Rattle.std.specs.List.{flat_map, list_all}
use Rattle.std.specs.Fmt.{decimal}
use Rattle.std.proofs.lemmas.Fmt.{decimal_by_steps, decimal_injective}
use Rattle.std.proofs.lemmas.Bool.{and_from, eqb-true, le-leb}
use Rattle.std.proofs.lemmas.List.{append_cancel_left, length-map}
use Rattle.std.proofs.lemmas.List.Folds.{list_all-append}
use Rattle.std.proofs.lemmas.List.Elements.{All-nil, All-cons}
use Rattle.avm_ops.specs.declared.rows.Row.{Row}
use Rattle.avm_ops.specs.declared.rows.Format.{Format}
use Rattle.avm_ops.specs.declared.rows.Format.TheVariants as format
use Rattle.avm_ops.specs.declared.instr.Imm.{Imm}
use Rattle.avm_ops.specs.declared.instr.Imm.TheVariants as imm
use Rattle.avm_ops.specs.Table.{row_of}
use Rattle.avm_ops.specs.Immediate.{IsOf}
use Rattle.avm_ops.specs.Code.{AreBytes, HasForm, HasFormOf}
use Rattle.avm_run.specs.Bytes.{offsets_of, place, target}
use Rattle.avm_run.specs.Form.{IsWellFormed}
use Rattle.avm_asm.specs.declared.line.AsmFault.{AsmFault}
use Rattle.avm_asm.specs.Assembled.{assembled}
use Rattle.teal_line.specs.declared.statement.Statement.{Statement}
use Rattle.teal_line.specs.declared.statement.Statement.TheVariants.{Label}
use Rattle.teal_line.specs.Operands.{is_digit, is_label_byte, is_some_label}
use Rattle.teal_line.specs.Printing.{IsStatement}
use Rattle.teal_text.specs.Numbering.{names_of, number_of, numbered}
use Rattle.teal_text.specs.Printing.{Placed, instructions, label_at, label_name, places_of, statement_of, statements_of, targets}
use Rattle.teal_text.proofs.LawChain.{Each, IsChain, each_both, each_append, each_back, each_flat_map, each_front, each_map, each_of_flat_map, each_of_map, each_weaker, IsGood, Reaches, each_good, is_in, place_at, sound}
use Rattle.teal_text.proofs.LawNumbers.{Names, all_known, knows, names_in, numbered_is, numbers_apart}
use Rattle.teal_text.proofs.LawLines.{IsApart, assembled_lines, each_low, lines_are, low_of, placed_so}

-- ---- label names

abbrev AreLabelBytes : List ℕ → Type 0
AreLabelBytes bs = list_all is_label_byte bs ≡ true

digit_is : (n : ℕ) → n < 10 → is_label_byte (48 + n) ≡ true
digit_is n h = let is : is_digit (48 + n) ≡ true = and_from (nat_le 48 (48 + n)) (nat_le (48 + n) 57) (le-leb 48 (48 + n) (omega arith)) (le-leb (48 + n) 57 (omega arith)) in rw is refl

digits_are : (n : ℕ) → n < 2 ^ 64 → AreLabelBytes (decimal n)
digits_are n h = decimal_by_steps (λ n ds. AreLabelBytes ds) (λ n low. and_from (is_label_byte (48 + n)) true (digit_is n low) refl)
    (λ n ds low ih. list_all-append is_label_byte ds ((48 + n % 10) ∷ [])
    ∙ and_from (list_all is_label_byte ds) (is_label_byte (48 + n % 10) && true) ih (and_from (is_label_byte (48 + n % 10)) true (digit_is (n % 10) (omega arith)) refl)) n h

label_is : (t : ℕ) → t < 2 ^ 64 → IsTrue (is_some_label (label_name t))
label_is t h = digits_are t h

labels_apart : (t u : ℕ) → t < 2 ^ 64 → u < 2 ^ 64 → label_name t ≡ label_name u → t ≡ u
labels_apart t u h g e = decimal_injective t u h g (append_cancel_left (97 ∷ 116 ∷ []) (decimal t) (decimal u) e)

-- ---- each statement can be read back

-- a place below 2 ^ 64
abbrev IsShort : ℕ → Type 0
IsShort t = t < 2 ^ 64

each_to_all : {A : Type 0} (P : A → Type 0) (xs : List A) → Each P xs → All P xs
each_to_all P [] h = All-nil P
each_to_all P (x ∷ xs) h = All-cons P x xs h.0 (each_to_all P xs h.1)

few_of : (g : Format) (js : List ℤ) → IsOf g (imm.Jumps js) → length js < 256
few_of format.Jumps js h = h.0
few_of g js h = absurd h

few_by : (row : Option Row) (js : List ℤ) → HasFormOf row (imm.Jumps js) → length js < 256
few_by None js h = absurd h
few_by (Some row) js h = few_of row.format js h

abbrev IsLabel : List ℕ → Type 0
IsLabel name = IsTrue (is_some_label name)

statement_is : (pc next op : ℕ) (i : Imm) → HasForm (record { op = op; imm = i }) → Each (λ j. IsShort (place (target next j))) (offsets_of i) → IsStatement (statement_of (placed_so pc op next i))
statement_is pc next op (imm.Jump j) form h = label_is (place (target next j)) h.0
statement_is pc next op (imm.Jumps js) form h =
    let name : ℤ → List ℕ = λ j. label_name (place (target next j)) in (
      each_to_all IsLabel (map name js) (each_map IsLabel name js (each_weaker (λ j. IsShort (place (target next j))) (λ j. IsLabel (name j)) (λ j low. label_is (place (target next j)) low) js h)),
      omega (arith, length-map js name, few_by (row_of op) js form),
    )
statement_is pc next op i form h = (form, tt)

label_holds : (ts : List ℕ) (t : ℕ) → IsShort t → Each IsStatement (label_at ts t)
label_holds ts t h = by (is_in ts t)
  where
    by : (b : Bool) → Each IsStatement (if b then Label (label_name t) ∷ [] else [])
    by true = (label_is t h, tt)
    by false = tt

statement_holds : (ts : List ℕ) (at end : ℕ) (ps : List Placed) → IsShort end → IsChain at end ps → (p : Placed) → IsGood ts (map place_at ps) end p → p.pc ≤ end → Each IsStatement (label_at ts p.pc ++ statement_of p ∷ [])
statement_holds ts at end ps short h p good low =
    let js = offsets_of p.instr.imm in
    let below : Each (λ j. IsShort (place (target p.next j))) js =
    each_weaker (Reaches ts (map place_at ps) end p.next) (λ j. IsShort (place (target p.next j)))
    (λ j r. let there = low_of (map place_at ps) end (place (target p.next j)) (each_low at end ps h) r.stands in omega (arith, there)) js good.reaches in
    each_append IsStatement (label_at ts p.pc) (statement_of p ∷ []) (label_holds ts p.pc (omega arith)) (statement_is p.pc p.next p.instr.op p.instr.imm good.form below, tt)

-- each statement of a program that memory holds can be read back
pub statements_hold : (code : List ℕ) → AreBytes code → IsWellFormed code → length code < 2 ^ 64 → All IsStatement (statements_of code)
statements_hold code h w short =
    let s = sound code h w in
    let ps = instructions code in
    let ts = targets ps in
    let end = length code in
    let low = each_of_map (λ (n : ℕ). n ≤ end) place_at ps (each_low 1 end ps s.walk.chain) in
    let both = each_both (IsGood ts (map place_at ps) end) (λ p. p.pc ≤ end) ps (each_good code s) low in
    let piece : Placed → List Statement = λ p. label_at ts p.pc ++ statement_of p ∷ [] in
    each_to_all IsStatement (statements_of code)
    (each_append IsStatement (flat_map piece ps) (label_at ts end)
    (each_flat_map IsStatement piece ps (each_weaker (λ p. IsGood ts (map place_at ps) end p × (p.pc ≤ end)) (λ p. Each IsStatement (piece p)) (λ p g. statement_holds ts 1 end ps short s.walk.chain p g.0 g.1) ps both))
    (label_holds ts end short))

-- ---- the statements are assembled to the program

names_by : (pc next op : ℕ) (i : Imm) → names_of (statement_of (placed_so pc op next i)) ≡ map label_name (places_of (placed_so pc op next i))
names_by pc next op (imm.Jump j) = refl
names_by pc next op (imm.Jumps js) = thrice js
  where
    thrice : (js : List ℤ) → map (λ j. label_name (place (target next j))) js ≡ map label_name (map place (map (target next) js))
    thrice [] = refl
    thrice (j ∷ js) = ap (λ (xs : Names). label_name (place (target next j)) ∷ xs) (thrice js)
names_by pc next op i = refl

names_are : (p : Placed) → names_of (statement_of p) ≡ map label_name (places_of p)
names_are p = names_by p.pc p.next p.instr.op p.instr.imm

in_each : (P : ℕ → Type 0) (ts : List ℕ) (t : ℕ) → Each P ts → is_in ts t ≡ true → P t
in_each P [] t h e = absurd cc
in_each P (u ∷ ts) t h e = by (u == t) refl (in_each P ts t h.1)
  where
    by : (b : Bool) → (u == t) ≡ b → (is_in ts t ≡ true → P t) → P t
    by true is ih = subst P (eqb-true u t is) h.0
    by false is ih = let rest : is_in ts t ≡ true = rw is at e in ih rest

abbrev all_names : List ℕ → Names
all_names code = names_in [] (statements_of code)

known_targets : (code : List ℕ) → Each (λ t. knows (all_names code) (label_name t) ≡ true) (targets (instructions code))
known_targets code =
    let ps = instructions code in
    let ts = targets ps in
    let final = all_names code in
    let Known : Statement → Type 0 = λ s. Each (λ n. knows final n ≡ true) (names_of s) in
    let Listed : ℕ → Type 0 = λ t. knows final (label_name t) ≡ true in
    let piece : Placed → List Statement = λ p. label_at ts p.pc ++ statement_of p ∷ [] in
    let pieces = each_of_flat_map Known piece ps (each_front Known (flat_map piece ps) (label_at ts (length code)) (all_known (statements_of code))) in
    each_flat_map Listed places_of ps
    (each_weaker (λ p. Each Known (piece p)) (λ p. Each Listed (places_of p))
    (λ p k. each_of_map (λ n. knows final n ≡ true) label_name (places_of p)
    (subst (Each (λ n. knows final n ≡ true)) (names_are p) (each_back Known (label_at ts p.pc) (statement_of p ∷ []) k).0)) ps pieces)

-- the labels of a program that memory holds have different numbers
numbers_are_apart : (code : List ℕ) → length code < 2 ^ 64 → IsApart (number_of (all_names code)) (targets (instructions code)) (length code)
numbers_are_apart code short = record {
  apart = λ t u low high h e.
      labels_apart t u (omega arith) (omega arith)
      (numbers_apart (all_names code) (label_name t) (label_name u)
      (in_each (λ n. knows (all_names code) (label_name n) ≡ true) (targets (instructions code)) t (known_targets code) h) e);
}

-- the statements of a program that memory holds, with their labels by number, are assembled to it
pub assembles_back : (code : List ℕ) → AreBytes code → IsWellFormed code → length code < 2 ^ 64 → assembled (numbered [] (statements_of code)) ≡ Ok code
assembles_back code h w short =
    let s = sound code h w in
    let ps = instructions code in
    let ts = targets ps in
    let end = length code in
    let f = number_of (all_names code) in
    ap assembled (numbered_is (statements_of code) ∙ lines_are f ts end ps)
    ∙ assembled_lines f ts end ps (numbers_are_apart code short) s.walk.chain (each_good code s)
    ∙ ap (λ (bs : List ℕ). let r : Result (List ℕ) AsmFault = Ok (10 ∷ bs) in r) s.walk.bytes
    ∙ ap (λ (bs : List ℕ). let r : Result (List ℕ) AsmFault = Ok bs in r) (sym s.version)
