-- What words say has the form of its instruction.
use Rattle.std.proofs.Common.{◌≡◌, ℕ, ℤ, zero, suc, ◌<◌, ◌^◌, Bool, true, false, not, List, [], ◌∷◌, length, map, ◌||◌, Option, Some, None, Ok, Err, refl, arith, ap, sym, subst, IsTrue}
use Rattle.std.specs.Prelude.{◌==◌, nat_lt, if◌then◌else◌, pos, neg_ℤ, option_map, bytes_eq, IfOk}
use Rattle.std.specs.List.{All, list_all, list_any}
use Rattle.std.specs.Int.RustNames.{FitsSigned}
use Rattle.std.specs.Int.{w8}
use Rattle.std.proofs.lemmas.Bool.Decides.{nat_tests}
use Rattle.std.proofs.lemmas.Bool.{eq-eqb, or_left, or_right}
use Rattle.std.proofs.lemmas.List.Elements.{All-cons, All-nil}
use Rattle.std.proofs.lemmas.List.Sums.{AllPass-from_list_all}
use Rattle.avm_ops.specs.declared.instr.Imm.{Imm}
use Rattle.avm_ops.specs.declared.instr.Imm.TheVariants as imm
use Rattle.avm_ops.specs.declared.rows.Row.{Row}
use Rattle.avm_ops.specs.declared.rows.Fields.{Fields}
use Rattle.avm_ops.specs.declared.rows.Fields.TheVariants as fields
use Rattle.avm_ops.specs.declared.rows.Format.{Format}
use Rattle.avm_ops.specs.declared.rows.Format.TheVariants as format
use Rattle.avm_ops.specs.Code.{HasForm}
use Rattle.avm_ops.specs.Immediate.{IsOf, is_field}
use Rattle.avm_ops.specs.Table.{row_of}
use Rattle.avm_asm.specs.declared.line.TableKind.{TableKind}
use Rattle.avm_asm.specs.Listing.{IsNoBranch}
use Rattle.teal_line.specs.declared.statement.Statement.{Statement}
use Rattle.teal_line.specs.declared.statement.Statement.TheVariants.{Op, Label, Jump, Table}
use Rattle.teal_line.specs.declared.statement.Flaw.{Flaw}
use Rattle.teal_line.specs.declared.statement.Flaw.TheVariants as flaw
use Rattle.teal_line.specs.Mnemonics.{opcode_named, field_named, field_names, number_in}
use Rattle.teal_line.specs.Operands.{is_some_label, number_said, signed_said, below, decimal_value, whole_value, behind_0x}
use Rattle.teal_line.specs.Reading.{Says, jump_kind, table_kind, Said, said_as, then_said, or_flaw, number, bytes, one, two, none, each, named_first, label_word, imm_said, labels_said, statement_in, by_row, by_opcode, before_colon, label_line, by_first, says}
use Rattle.teal_line.specs.Printing.{IsStatement}
use Rattle.teal_line.specs.Counted.{IsCounted, IsCountedStatement}

-- ---- what a success shows of its parts

abbrev failed : {A : Type 0} → Flaw → Said A
failed e = Err e

abbrev given : {A : Type 0} → A → Said A
given x = Ok x

no_success : {A : Type 0} (e : Flaw) (x : A) → failed e ≡ given x → ⊥
no_success e x h = cc

abbrev value_or : {A : Type 0} → A → Said A → A
value_or d (Ok x) = x
value_or d (Err e) = d

same_value : {A : Type 0} (x y : A) → given x ≡ given y → x ≡ y
same_value x y h = ap (value_or x) h

record AsParts {A B : Type 0} (f : A → B) (r : Said A) (y : B) : Type 0 where
  value : A
  read : r ≡ Ok value
  is : f value ≡ y

as_parts : {A B : Type 0} (f : A → B) (r : Said A) (y : B) → said_as f r ≡ Ok y → AsParts f r y
as_parts f (Err e) y h = absurd (no_success e y h)
as_parts f (Ok x) y h = record { value = x; read = refl; is = same_value (f x) y h }

record ThenParts {A B : Type 0} (f : A → Said B) (r : Said A) (y : B) : Type 0 where
  value : A
  read : r ≡ Ok value
  is : f value ≡ Ok y

then_parts : {A B : Type 0} (f : A → Said B) (r : Said A) (y : B) → then_said f r ≡ Ok y → ThenParts f r y
then_parts f (Err e) y h = absurd (no_success e y h)
then_parts f (Ok x) y h = record { value = x; read = refl; is = h }

flaw_parts : {A : Type 0} (e : Flaw) (o : Option A) (x : A) → or_flaw e o ≡ Ok x → o ≡ Some x
flaw_parts e None x h = absurd (no_success e x h)
flaw_parts e (Some y) x h = ap Some (same_value y x h)

record OneParts {A : Type 0} (f : List ℕ → Said A) (y : A) : Type 0 where
  word : List ℕ
  is : f word ≡ Ok y

one_parts : {A : Type 0} (f : List ℕ → Said A) (ws : List (List ℕ)) (y : A) → one f ws ≡ Ok y → OneParts f y
one_parts f [] y h = absurd (no_success flaw.Count y h)
one_parts f (w ∷ []) y h = record { word = w; is = h }
one_parts f (w ∷ v ∷ ws) y h = absurd (no_success flaw.Count y h)

record TwoParts {A : Type 0} (f : List ℕ → List ℕ → Said A) (y : A) : Type 0 where
  first : List ℕ
  second : List ℕ
  is : f first second ≡ Ok y

two_parts : {A : Type 0} (f : List ℕ → List ℕ → Said A) (ws : List (List ℕ)) (y : A) → two f ws ≡ Ok y → TwoParts f y
two_parts f [] y h = absurd (no_success flaw.Count y h)
two_parts f (w ∷ []) y h = absurd (no_success flaw.Count y h)
two_parts f (w ∷ v ∷ []) y h = record { first = w; second = v; is = h }
two_parts f (w ∷ v ∷ u ∷ ws) y h = absurd (no_success flaw.Count y h)

none_parts : {A : Type 0} (x y : A) (ws : List (List ℕ)) → none x ws ≡ Ok y → x ≡ y
none_parts x y [] h = same_value x y h
none_parts x y (w ∷ ws) h = absurd (no_success flaw.Count y h)

record NamedParts {A B : Type 0} (known : List ℕ → Option A) (f : A → List (List ℕ) → Said B) (y : B) : Type 0 where
  word : List ℕ
  rest : List (List ℕ)
  value : A
  read : known word ≡ Some value
  is : f value rest ≡ Ok y

named_parts : {A B : Type 0} (known : List ℕ → Option A) (f : A → List (List ℕ) → Said B) (ws : List (List ℕ)) (y : B) → named_first known f ws ≡ Ok y → NamedParts known f y
named_parts known f [] y h = absurd (no_success flaw.Count y h)
named_parts known f (w ∷ ws) y h =
    let p = then_parts (λ x. f x ws) (or_flaw flaw.Word (known w)) y h in
    record { word = w; rest = ws; value = p.value; read = flaw_parts flaw.Word (known w) p.value p.read; is = p.is }

-- ---- operands

below_small : (bound n : ℕ) (o : Option ℕ) → below bound o ≡ Some n → n < bound
below_small bound n None h = absurd (cc h)
below_small bound n (Some m) h = grind (arith, nat_tests)

number_small : (bound n : ℕ) (w : List ℕ) → number bound w ≡ Ok n → n < bound
number_small bound n w h = below_small bound n (whole_value (behind_0x w) w) (flaw_parts flaw.Number (number_said bound w) n h)

abbrev negated : ℕ → ℤ
negated n = neg_ℤ (pos n)

negated_fits : (n : ℕ) → n < 129 → FitsSigned w8 (negated n)
negated_fits zero h = record { sfits = omega arith }
negated_fits (suc n) h = record { sfits = omega arith }

pos_fits : (n : ℕ) → n < 128 → FitsSigned w8 (pos n)
pos_fits n h = record { sfits = omega arith }

abbrev some_or : ℤ → Option ℤ → ℤ
some_or d None = d
some_or d (Some z) = z

some_value : (d y z : ℤ) → Some y ≡ Some z → y ≡ z
some_value d y z h = ap (some_or d) h

mapped : (f : ℕ → ℤ) (bound : ℕ) (o : Option ℕ) (z : ℤ) → ((n : ℕ) → n < bound → FitsSigned w8 (f n)) → option_map f (below bound o) ≡ Some z → FitsSigned w8 z
mapped f bound o z g h = by (below bound o) refl h
  where
    by : (p : Option ℕ) → below bound o ≡ p → option_map f p ≡ Some z → FitsSigned w8 z
    by None e h = absurd (cc h)
    by (Some n) e h = subst (FitsSigned w8) (some_value (pos 0) (f n) z h) (g n (below_small bound n o e))

signed_fits : (w : List ℕ) (z : ℤ) → signed_said w ≡ Some z → FitsSigned w8 z
signed_fits [] z h = absurd (cc h)
signed_fits (b ∷ bs) z h = by (b == 45) h
  where
    by : (t : Bool) → (if t then option_map negated (below 129 (decimal_value bs)) else option_map pos (number_said 128 (b ∷ bs))) ≡ Some z → FitsSigned w8 z
    by true h = mapped negated 129 (decimal_value bs) z negated_fits h
    by false h = mapped pos 128 (whole_value (behind_0x (b ∷ bs)) (b ∷ bs)) z pos_fits h

all_said : {A : Type 0} (f : List ℕ → Said A) (P : A → Type 0) → ((w : List ℕ) (x : A) → f w ≡ Ok x → P x) → (ws : List (List ℕ)) (xs : List A) → each f ws ≡ Ok xs → All P xs
all_said f P g [] xs h = subst (All P) (same_value [] xs h) (All-nil P)
all_said f P g (w ∷ ws) xs h =
    let p = then_parts (λ x. said_as (λ ys. x ∷ ys) (each f ws)) (f w) xs h in
    let q = as_parts (λ ys. p.value ∷ ys) (each f ws) xs p.is in
    subst (All P) q.is (All-cons P p.value q.value (g w p.value p.read) (all_said f P g ws q.value q.read))

abbrev nat_or : ℕ → Option ℕ → ℕ
nat_or d None = d
nat_or d (Some n) = n

key_in : (es : List (ℕ × List ℕ)) (w : List ℕ) (n : ℕ) → number_in es w ≡ Some n → list_any (λ k. n == k) (map (λ e. e.0) es) ≡ true
key_in [] w n h = absurd (cc h)
key_in (e ∷ es) w n h = by (key_in es w n) (bytes_eq e.1 w) h
  where
    by : (number_in es w ≡ Some n → list_any (λ k. n == k) (map (λ e. e.0) es) ≡ true) → (t : Bool) → (if t then Some e.0 else number_in es w) ≡ Some n
        → ((n == e.0) || list_any (λ k. n == k) (map (λ e. e.0) es)) ≡ true
    by ih true h = or_left (n == e.0) (list_any (λ k. n == k) (map (λ e. e.0) es)) (eq-eqb n e.0 (sym (ap (nat_or n) h)))
    by ih false h = or_right (n == e.0) (list_any (λ k. n == k) (map (λ e. e.0) es)) (ih h)

field_known : (fs : Fields) (w : List ℕ) (n : ℕ) → field_named fs w ≡ Some n → IsTrue (is_field fs n)
field_known fields.Transaction w n h = key_in (field_names fields.Transaction) w n h
field_known fields.Global w n h = key_in (field_names fields.Global) w n h
field_known fields.Array w n h = key_in (field_names fields.Array) w n h

-- ---- immediates

imm_form : (f : Format) (ws : List (List ℕ)) (i : Imm) → imm_said f ws ≡ Ok i → IsCounted i → IsOf f i
imm_form format.Nothing ws i h c = subst (IsOf format.Nothing) (none_parts imm.Nothing i ws h) tt
imm_form format.Byte ws i h c =
    let p = one_parts (λ w. said_as imm.Byte (number 256 w)) ws i h in
    let q = as_parts imm.Byte (number 256 p.word) i p.is in
    subst (IsOf format.Byte) q.is (number_small 256 q.value p.word q.read)
imm_form format.Two ws i h c =
    let p = two_parts (λ v w. then_said (λ a. said_as (imm.Two a) (number 256 w)) (number 256 v)) ws i h in
    let q = then_parts (λ a. said_as (imm.Two a) (number 256 p.second)) (number 256 p.first) i p.is in
    let r = as_parts (imm.Two q.value) (number 256 p.second) i q.is in
    subst (IsOf format.Two) r.is (number_small 256 q.value p.first q.read, number_small 256 r.value p.second r.read)
imm_form format.Signed ws i h c =
    let p = one_parts (λ w. said_as imm.Signed (or_flaw flaw.Number (signed_said w))) ws i h in
    let q = as_parts imm.Signed (or_flaw flaw.Number (signed_said p.word)) i p.is in
    subst (IsOf format.Signed) q.is (signed_fits p.word q.value (flaw_parts flaw.Number (signed_said p.word) q.value q.read))
imm_form format.Int ws i h c =
    let p = one_parts (λ w. said_as imm.Int (number (2 ^ 64) w)) ws i h in
    let q = as_parts imm.Int (number (2 ^ 64) p.word) i p.is in
    subst (IsOf format.Int) q.is (number_small (2 ^ 64) q.value p.word q.read)
imm_form format.Ints ws i h c =
    let q = as_parts imm.Ints (each (number (2 ^ 64)) ws) i h in
    let n = subst IsCounted (sym q.is) c in
    subst (IsOf format.Ints) q.is (n, all_said (number (2 ^ 64)) (λ n. n < 2 ^ 64) (λ w n r. number_small (2 ^ 64) n w r) ws q.value q.read)
imm_form format.Bytes ws i h c =
    let p = one_parts (λ w. said_as imm.Bytes (bytes w)) ws i h in
    let q = as_parts imm.Bytes (bytes p.word) i p.is in
    let n = subst IsCounted (sym q.is) c in
    subst (IsOf format.Bytes) q.is n
imm_form format.Blobs ws i h c =
    let q = as_parts imm.Blobs (each bytes ws) i h in
    let n = subst IsCounted (sym q.is) c in
    subst (IsOf format.Blobs) q.is n
imm_form (format.Field fs) ws i h c =
    let p = named_parts (field_named fs) (λ n rest. none (imm.Byte n) rest) ws i h in
    subst (IsOf (format.Field fs)) (none_parts (imm.Byte p.value) i p.rest p.is) (field_known fs p.word p.value p.read)
imm_form (format.FieldAndByte fs) ws i h c =
    let p = named_parts (field_named fs) (λ n rest. one (λ w. said_as (imm.Two n) (number 256 w)) rest) ws i h in
    let o = one_parts (λ w. said_as (imm.Two p.value) (number 256 w)) p.rest i p.is in
    let q = as_parts (imm.Two p.value) (number 256 o.word) i o.is in
    subst (IsOf (format.FieldAndByte fs)) q.is (field_known fs p.word p.value p.read, number_small 256 q.value o.word q.read)
imm_form format.Jump ws i h c = absurd (no_success flaw.Word i h)
imm_form format.Jumps ws i h c = absurd (no_success flaw.Word i h)

no_branch : (f : Format) (ws : List (List ℕ)) (i : Imm) → imm_said f ws ≡ Ok i → IsOf f i → IsNoBranch i
no_branch format.Jump ws i h o = absurd (no_success flaw.Word i h)
no_branch format.Jumps ws i h o = absurd (no_success flaw.Word i h)
no_branch format.Nothing ws imm.Nothing h o = tt
no_branch format.Byte ws (imm.Byte b) h o = tt
no_branch format.Two ws (imm.Two a b) h o = tt
no_branch format.Signed ws (imm.Signed z) h o = tt
no_branch format.Int ws (imm.Int n) h o = tt
no_branch format.Ints ws (imm.Ints ns) h o = tt
no_branch format.Bytes ws (imm.Bytes b) h o = tt
no_branch format.Blobs ws (imm.Blobs bs) h o = tt
no_branch (format.Field fs) ws (imm.Byte b) h o = tt
no_branch (format.FieldAndByte fs) ws (imm.Two a b) h o = tt
no_branch f ws i h o = absurd o

-- ---- statements

abbrev op_of : ℕ → Imm → Statement
op_of op i = Op (record { op = op; imm = i })

operation_form : (op : ℕ) (row : Row) (f : Format) (ws : List (List ℕ)) (s : Statement) → row_of op ≡ Some row → row.format ≡ f
    → said_as (op_of op) (imm_said f ws) ≡ Ok s → IsCountedStatement s → IsStatement s
operation_form op row f ws s e g h c =
    let q = as_parts (op_of op) (imm_said f ws) s h in
    let n = subst IsCountedStatement (sym q.is) c in
    let o : IsOf f q.value = imm_form f ws q.value q.read n in
    let form : HasForm (record { op = op; imm = q.value }) = rw e (rw g o) in
    subst IsStatement q.is (form, no_branch f ws q.value q.read o)

abbrev list_or : Option (List ℕ) → List ℕ
list_or None = []
list_or (Some x) = x

label_word_parts : (w name : List ℕ) → label_word w ≡ Some name → IsTrue (is_some_label name)
label_word_parts w name h = by (is_some_label w) refl h
  where
    by : (t : Bool) → is_some_label w ≡ t → (if t then Some w else None) ≡ Some name → IsTrue (is_some_label name)
    by true e h = subst (λ n. IsTrue (is_some_label n)) (ap list_or h) e
    by false e h = absurd (cc h)

labels_form : (kind : TableKind) (ws : List (List ℕ)) (s : Statement) → labels_said (Table kind) ws ≡ Ok s → IsStatement s
labels_form kind ws s h = by (list_all is_some_label ws) (nat_lt 255 (length ws)) refl refl h
  where
    by : (t n : Bool) → list_all is_some_label ws ≡ t → nat_lt 255 (length ws) ≡ n
        → (if not t then Err flaw.Word else if n then Err flaw.Count else Ok (Table kind ws)) ≡ Ok s → IsStatement s
    by false n e g h = absurd (no_success flaw.Word s h)
    by true true e g h = absurd (no_success flaw.Count s h)
    by true false e g h =
        let few : length ws < 256 = grind (arith, nat_tests) in
        subst IsStatement (same_value (Table kind ws) s h) (AllPass-from_list_all is_some_label ws e, few)

statement_form : (op : ℕ) (row : Row) (f : Format) (ws : List (List ℕ)) (s : Statement) → row_of op ≡ Some row → row.format ≡ f
    → statement_in op f ws ≡ Ok s → IsCountedStatement s → IsStatement s
statement_form op row format.Jump ws s e g h c =
    let p = named_parts label_word (λ name rest. none (Jump (jump_kind op) name) rest) ws s h in
    subst IsStatement (none_parts (Jump (jump_kind op) p.value) s p.rest p.is) (label_word_parts p.word p.value p.read)
statement_form op row format.Jumps ws s e g h c = labels_form (table_kind op) ws s h
statement_form op row f ws s e g h c = operation_form op row f ws s e g h c

row_form : (op : ℕ) (row : Option Row) (ws : List (List ℕ)) (s : Statement) → row_of op ≡ row → by_row op row ws ≡ Ok s → IsCountedStatement s → IsStatement s
row_form op None ws s e h c = absurd (no_success flaw.Word s h)
row_form op (Some row) ws s e h c = statement_form op row row.format ws s e refl h c

opcode_form : (op : Option ℕ) (ws : List (List ℕ)) (s : Statement) → by_opcode op ws ≡ Ok s → IsCountedStatement s → IsStatement s
opcode_form None ws s h c = absurd (no_success flaw.Word s h)
opcode_form (Some op) ws s h c = row_form op (row_of op) ws s refl h c

label_form : (name : List ℕ) (ws : List (List ℕ)) (s : Statement) → label_line name ws ≡ Ok s → IsStatement s
label_form name ws s h = by (is_some_label name) refl h
  where
    by : (t : Bool) → is_some_label name ≡ t → (if t then none (Label name) ws else Err flaw.Word) ≡ Ok s → IsStatement s
    by true e h = subst IsStatement (none_parts (Label name) s ws h) e
    by false e h = absurd (no_success flaw.Word s h)

first_form : (o : Option (List ℕ)) (w : List ℕ) (ws : List (List ℕ)) (s : Statement) → by_first o w ws ≡ Ok s → IsCountedStatement s → IsStatement s
first_form (Some name) w ws s h c = label_form name ws s h
first_form None w ws s h c = opcode_form (opcode_named w) ws s h c

-- what words say can be printed and assembled
pub said_form : (w : List ℕ) (ws : List (List ℕ)) (s : Statement) → says w ws ≡ Ok s → IsCountedStatement s → IsStatement s
unfolding says
said_form w ws s h c = first_form (before_colon w) w ws s h c

pub form_of : (w : List ℕ) (ws : List (List ℕ)) (r : Said Statement) → Says r (says w ws) → IfOk r IsCountedStatement → IfOk r IsStatement
form_of w ws (Ok s) h c = said_form w ws s h c
form_of w ws (Err e) h c = tt
