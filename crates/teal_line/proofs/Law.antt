-- What is printed for a statement is read as that statement.
use Rattle.std.proofs.Common.{◌≡◌, ℕ, ℤ, ◌≤◌, ◌<◌, ◌^◌, Bool, true, false, ◌&&◌, not, List, [], ◌∷◌, ◌++◌, length, map, Option, Some, None, Ok, Err, refl, arith, ap, sym, ◌∙◌}
use Rattle.std.specs.Prelude.{◌≢◌, ◌==◌, nat_lt, if◌then◌else◌, bytes_eq, codes}
use Rattle.std.specs.List.{All, list_all, join_with_byte}
use Rattle.std.specs.Fmt.{decimal}
use Rattle.std.proofs.lemmas.Bool.Decides.{nat_tests}
use Rattle.std.proofs.lemmas.Bool.{and_parts, and_from}
use Rattle.std.proofs.lemmas.List.Elements.{All-head, All-tail, All-cons, All-nil, All-append}
use Rattle.std.proofs.lemmas.List.Sums.{list_all-from_AllPass}
use Rattle.avm_ops.specs.declared.instr.Imm.{Imm}
use Rattle.avm_ops.specs.declared.instr.Imm.TheVariants as imm
use Rattle.avm_ops.specs.declared.rows.Row.{Row}
use Rattle.avm_ops.specs.declared.rows.Format.{Format}
use Rattle.avm_ops.specs.declared.rows.Format.TheVariants as format
use Rattle.avm_ops.specs.Code.{AreBytes, HasFormOf}
use Rattle.avm_ops.specs.Immediate.{IsOf}
use Rattle.avm_ops.specs.Table.{table, row_of}
use Rattle.avm_asm.specs.declared.line.JumpKind.{JumpKind}
use Rattle.avm_asm.specs.declared.line.JumpKind.TheVariants.{Bnz, Bz, B, Callsub}
use Rattle.avm_asm.specs.declared.line.TableKind.{TableKind}
use Rattle.avm_asm.specs.declared.line.TableKind.TheVariants.{Switch, Match}
use Rattle.avm_asm.specs.Listing.{jump_opcode, table_opcode, IsNoBranch}
use Rattle.teal_line.specs.declared.statement.Statement.{Statement}
use Rattle.teal_line.specs.declared.statement.Statement.TheVariants.{Op, Label, Jump, Table}
use Rattle.teal_line.specs.declared.statement.Flaw.TheVariants as flaw
use Rattle.teal_line.specs.Mnemonics.{name_of, field_name}
use Rattle.teal_line.specs.Operands.{is_some_label, is_label_byte, is_between, signed_word, bytes_word}
use Rattle.teal_line.specs.Words.{words_of, is_comment}
use Rattle.teal_line.specs.Reading.{jump_kind, table_kind, Said, said_as, then_said, or_flaw, number, bytes, one, none, each, imm_said, statement_in, by_row, by_opcode, before_colon, by_first, says}
use Rattle.teal_line.specs.Printing.{imm_words_in, imm_words_by, statement_words, statement_text, IsStatement}
use Rattle.teal_line.specs.ReadsBack.{HasBytes, IsOfBytes, IsPrintable, ReadsBack}
use Rattle.teal_line.proofs.Joined.{is_word, is_plain, are_words, words_joined}
use Rattle.teal_line.proofs.Numerals.{number_read, signed_read, bytes_read}
use Rattle.teal_line.proofs.Printed.{decimal_is_word, signed_is_word, bytes_is_word, label_is_word, label_line_is_word}
use Rattle.teal_line.proofs.Named.{HasName, named, field_read}

-- ---- immediates

number_said_so : (bound n : ℕ) → n < bound → bound ≤ 2 ^ 64 → number bound (decimal n) ≡ Ok n
number_said_so bound n h g = ap (or_flaw flaw.Number) (number_read bound n h (omega arith))

signed_said_so : (i : ℤ) → IsOf format.Signed (imm.Signed i) → imm_said format.Signed (signed_word i ∷ []) ≡ Ok (imm.Signed i)
signed_said_so i h = ap (λ o. said_as imm.Signed (or_flaw flaw.Number o)) (signed_read i h)

bytes_said_so : (b : List ℕ) → AreBytes b → bytes (bytes_word b) ≡ Ok b
bytes_said_so b h = ap (or_flaw flaw.Bytes) (bytes_read b h)

two_said_so : (a b : ℕ) → a < 256 → b < 256 → imm_said format.Two (decimal a ∷ decimal b ∷ []) ≡ Ok (imm.Two a b)
two_said_so a b h g =
    ap (then_said (λ x. said_as (imm.Two x) (number 256 (decimal b)))) (number_said_so 256 a h (omega arith))
    ∙ ap (said_as (imm.Two a)) (number_said_so 256 b g (omega arith))

each_said_so : {A : Type 0} (f : List ℕ → Said A) (print : A → List ℕ) (P : A → Type 0) → ((x : A) → P x → f (print x) ≡ Ok x) → (xs : List A) → All P xs → each f (map print xs) ≡ Ok xs
each_said_so f print P h [] p = refl
each_said_so f print P h (x ∷ xs) p =
    ap (then_said (λ y. said_as (λ ys. y ∷ ys) (each f (map print xs)))) (h x (All-head P x xs p))
    ∙ ap (said_as (λ ys. x ∷ ys)) (each_said_so f print P h xs (All-tail P x xs p))

imm_read : (f : Format) (i : Imm) → IsOf f i → IsNoBranch i → HasBytes i → imm_said f (imm_words_in f i) ≡ Ok i
imm_read format.Nothing imm.Nothing h n b = refl
imm_read format.Byte (imm.Byte x) h n b = ap (said_as imm.Byte) (number_said_so 256 x h (omega arith))
imm_read format.Two (imm.Two x y) h n b = two_said_so x y h.0 h.1
imm_read format.Signed (imm.Signed i) h n b = signed_said_so i h
imm_read format.Int (imm.Int x) h n b = ap (said_as imm.Int) (number_said_so (2 ^ 64) x h (omega arith))
imm_read format.Ints (imm.Ints xs) h n b = ap (said_as imm.Ints) (each_said_so (number (2 ^ 64)) decimal (λ x. x < 2 ^ 64) (λ x p. number_said_so (2 ^ 64) x p (omega arith)) xs h.1)
imm_read format.Bytes (imm.Bytes x) h n b = ap (said_as imm.Bytes) (bytes_said_so x b)
imm_read format.Blobs (imm.Blobs xs) h n b = ap (said_as imm.Blobs) (each_said_so bytes bytes_word AreBytes bytes_said_so xs b)
imm_read (format.Field fs) (imm.Byte x) h n b = ap (λ o. then_said (λ y. none (imm.Byte y) []) (or_flaw flaw.Word o)) (field_read fs x h).0
imm_read (format.FieldAndByte fs) (imm.Two x y) h n b =
    ap (λ o. then_said (λ z. one (λ w. said_as (imm.Two z) (number 256 w)) (decimal y ∷ [])) (or_flaw flaw.Word o)) (field_read fs x h.0).0
    ∙ ap (said_as (imm.Two x)) (number_said_so 256 y h.1 (omega arith))
imm_read format.Jump (imm.Jump j) h n b = absurd n
imm_read format.Jumps (imm.Jumps js) h n b = absurd n
imm_read f i h n b = absurd h

map_words : {A : Type 0} (print : A → List ℕ) (P : A → Type 0) → ((x : A) → P x → is_word (print x) ≡ true) → (xs : List A) → All P xs → are_words (map print xs) ≡ true
map_words print P h [] p = refl
map_words print P h (x ∷ xs) p = and_from (is_word (print x)) (are_words (map print xs)) (h x (All-head P x xs p)) (map_words print P h xs (All-tail P x xs p))

one_word : (w : List ℕ) → is_word w ≡ true → are_words (w ∷ []) ≡ true
one_word w h = and_from (is_word w) true h refl

two_words : (v w : List ℕ) → is_word v ≡ true → is_word w ≡ true → are_words (v ∷ w ∷ []) ≡ true
two_words v w h g = and_from (is_word v) (are_words (w ∷ [])) h (one_word w g)

imm_is_words : (f : Format) (i : Imm) → IsOf f i → IsNoBranch i → HasBytes i → are_words (imm_words_in f i) ≡ true
imm_is_words format.Nothing imm.Nothing h n b = refl
imm_is_words format.Byte (imm.Byte x) h n b = one_word (decimal x) (decimal_is_word x (omega arith))
imm_is_words format.Two (imm.Two x y) h n b = let p = h.0 in let q = h.1 in two_words (decimal x) (decimal y) (decimal_is_word x (omega (arith, p))) (decimal_is_word y (omega (arith, q)))
imm_is_words format.Signed (imm.Signed i) h n b = one_word (signed_word i) (signed_is_word i h)
imm_is_words format.Int (imm.Int x) h n b = one_word (decimal x) (decimal_is_word x h)
imm_is_words format.Ints (imm.Ints xs) h n b = map_words decimal (λ x. x < 2 ^ 64) decimal_is_word xs h.1
imm_is_words format.Bytes (imm.Bytes x) h n b = one_word (bytes_word x) (bytes_is_word x b)
imm_is_words format.Blobs (imm.Blobs xs) h n b = map_words bytes_word AreBytes bytes_is_word xs b
imm_is_words (format.Field fs) (imm.Byte x) h n b = one_word (field_name fs x) (field_read fs x h).1
imm_is_words (format.FieldAndByte fs) (imm.Two x y) h n b = let q = h.1 in two_words (field_name fs x) (decimal y) (field_read fs x h.0).1 (decimal_is_word y (omega (arith, q)))
imm_is_words format.Jump (imm.Jump j) h n b = absurd n
imm_is_words format.Jumps (imm.Jumps js) h n b = absurd n
imm_is_words f i h n b = absurd h

-- ---- statements

abbrev op_of : ℕ → Imm → Statement
op_of op i = Op (record { op = op; imm = i })

no_jump : (i : Imm) → IsOf format.Jump i → IsNoBranch i → ⊥
no_jump (imm.Jump j) h n = n
no_jump i h n = h

no_jumps : (i : Imm) → IsOf format.Jumps i → IsNoBranch i → ⊥
no_jumps (imm.Jumps js) h n = n
no_jumps i h n = h

-- a form without branches
in_form : (op : ℕ) (f : Format) (i : Imm) → IsOf f i → IsNoBranch i → HasBytes i → statement_in op f (imm_words_in f i) ≡ Ok (Op (record { op = op; imm = i }))
in_form op format.Jump i h n b = absurd (no_jump i h n)
in_form op format.Jumps i h n b = absurd (no_jumps i h n)
in_form op f i h n b = ap (said_as (op_of op)) (imm_read f i h n b)

-- what a named instruction says
named_says : (op : ℕ) (row : Row) (ws : List (List ℕ)) → row_of op ≡ Some row → HasName op → says (name_of op) ws ≡ statement_in op row.format ws
unfolding says
named_says op row ws r h =
    ap (λ o. by_first o (name_of op) ws) h.no_label
    ∙ ap (λ o. by_opcode o ws) h.read
    ∙ ap (λ o. by_row op o ws) r

named_no_pragma : (op : ℕ) → HasName op → name_of op ≢ codes "#pragma"
named_no_pragma op h e = cc (sym h.no_pragma ∙ ap (λ w. bytes_eq w (codes "#pragma")) e)

-- ---- the printed line

visible_is_printable : (b : ℕ) → is_between 33 126 b ≡ true → IsPrintable b
visible_is_printable b h = grind (arith, nat_tests)

plain_is_printable : (w : List ℕ) → is_plain w ≡ true → All IsPrintable w
plain_is_printable [] h = All-nil IsPrintable
plain_is_printable (b ∷ bs) h =
    let p = and_parts (is_between 33 126 b) (not (is_comment (b ∷ bs)) && is_plain bs) h in
    let q = and_parts (not (is_comment (b ∷ bs))) (is_plain bs) p.1 in
    All-cons IsPrintable b bs (visible_is_printable b p.0) (plain_is_printable bs q.1)

word_is_printable : (w : List ℕ) → is_word w ≡ true → All IsPrintable w
word_is_printable [] h = All-nil IsPrintable
word_is_printable (b ∷ bs) h = plain_is_printable (b ∷ bs) (and_parts (not (b == 34)) (is_plain (b ∷ bs)) h).1

words_are_printable : (ws : List (List ℕ)) → are_words ws ≡ true → All IsPrintable (join_with_byte 32 ws)
words_are_printable [] h = All-nil IsPrintable
words_are_printable (w ∷ []) h = word_is_printable w (and_parts (is_word w) true h).0
words_are_printable (w ∷ v ∷ ws) h =
    let q = and_parts (is_word w) (are_words (v ∷ ws)) h in
    let rest = join_with_byte 32 (v ∷ ws) in
    All-append IsPrintable w (32 ∷ rest) (word_is_printable w q.0) (All-cons IsPrintable 32 rest (omega arith, omega arith) (words_are_printable (v ∷ ws) q.1))

-- words that say a statement
read_back : (s : Statement) (w : List ℕ) (ws : List (List ℕ)) → statement_words s ≡ w ∷ ws → are_words (w ∷ ws) ≡ true → says w ws ≡ Ok s → w ≢ codes "#pragma" → ReadsBack s
unfolding statement_text
read_back s w ws e words value no_pragma =
    record {
      first = w;
      rest = ws;
      words = ap (λ v. words_of (join_with_byte 32 v)) e ∙ words_joined (w ∷ ws) words;
      value = value;
      printable = rw e (words_are_printable (w ∷ ws) words);
      no_pragma = no_pragma;
    }

op_reads_back : (op : ℕ) (i : Imm) (row : Option Row) → row_of op ≡ row → HasFormOf row i → IsNoBranch i → HasBytes i → ReadsBack (Op (record { op = op; imm = i }))
op_reads_back op i None e h n b = absurd h
op_reads_back op i (Some row) e h n b =
    let name = named op row e in
    let ws = imm_words_in row.format i in
    read_back (Op (record { op = op; imm = i })) (name_of op) ws
    (ap (λ r. name_of op ∷ imm_words_by r i) e)
    (and_from (is_word (name_of op)) (are_words ws) name.word (imm_is_words row.format i h n b))
    (named_says op row ws e name ∙ in_form op row.format i h n b)
    (named_no_pragma op name)

colon_cut : (name : List ℕ) → before_colon (name ++ 58 ∷ []) ≡ Some name
colon_cut [] = refl
colon_cut (b ∷ []) = refl
colon_cut (b ∷ c ∷ bs) = let e : before_colon (c ∷ (bs ++ 58 ∷ [])) ≡ Some (c ∷ bs) = colon_cut (c ∷ bs) in rw e refl

label_says : (name : List ℕ) → is_some_label name ≡ true → says (name ++ 58 ∷ []) [] ≡ Ok (Label name)
unfolding says
label_says name h =
    ap (λ o. by_first o (name ++ 58 ∷ []) []) (colon_cut name)
    ∙ ap (λ (t : Bool). if t then none (Label name) [] else Err flaw.Word) h

first_or : List ℕ → ℕ
first_or [] = 0
first_or (b ∷ bs) = b

label_no_pragma : (name : List ℕ) → is_some_label name ≡ true → name ++ 58 ∷ [] ≢ codes "#pragma"
unfolding first_or
label_no_pragma [] h e = cc h
label_no_pragma (b ∷ bs) h e =
    let p = and_parts (is_label_byte b) (list_all is_label_byte bs) h in
    let f : b ≡ 35 = ap first_or e in
    let l : is_label_byte 35 ≡ true = ap is_label_byte (sym f) ∙ p.0 in
    cc l

label_reads_back : (name : List ℕ) → is_some_label name ≡ true → ReadsBack (Label name)
label_reads_back name h =
    read_back (Label name) (name ++ 58 ∷ []) [] refl
    (and_from (is_word (name ++ 58 ∷ [])) true (label_line_is_word name h) refl)
    (label_says name h) (label_no_pragma name h)

-- the name of a branch says it
pub record IsNamed (op : ℕ) (f : Format) : Type 0 where
  pub name : HasName op
  pub value : (ws : List (List ℕ)) → says (name_of op) ws ≡ statement_in op f ws

jump_named : (kind : JumpKind) → IsNamed (jump_opcode kind) format.Jump
unfolding row_of table
jump_named Bnz = let n = named 0x40 _ refl in record { name = n; value = λ ws. named_says 0x40 _ ws refl n }
jump_named Bz = let n = named 0x41 _ refl in record { name = n; value = λ ws. named_says 0x41 _ ws refl n }
jump_named B = let n = named 0x42 _ refl in record { name = n; value = λ ws. named_says 0x42 _ ws refl n }
jump_named Callsub = let n = named 0x88 _ refl in record { name = n; value = λ ws. named_says 0x88 _ ws refl n }

table_named : (kind : TableKind) → IsNamed (table_opcode kind) format.Jumps
unfolding row_of table
table_named Switch = let n = named 0x8d _ refl in record { name = n; value = λ ws. named_says 0x8d _ ws refl n }
table_named Match = let n = named 0x8e _ refl in record { name = n; value = λ ws. named_says 0x8e _ ws refl n }

jump_kind_back : (kind : JumpKind) → jump_kind (jump_opcode kind) ≡ kind
jump_kind_back Bnz = refl
jump_kind_back Bz = refl
jump_kind_back B = refl
jump_kind_back Callsub = refl

table_kind_back : (kind : TableKind) → table_kind (table_opcode kind) ≡ kind
table_kind_back Switch = refl
table_kind_back Match = refl

jump_form : (kind : JumpKind) (name : List ℕ) → is_some_label name ≡ true → statement_in (jump_opcode kind) format.Jump (name ∷ []) ≡ Ok (Jump kind name)
jump_form kind name h =
    ap (λ (t : Bool). then_said (λ x. none (Jump (jump_kind (jump_opcode kind)) x) []) (or_flaw flaw.Word (if t then Some name else None))) h
    ∙ ap (λ k. Ok (Jump k name)) (jump_kind_back kind)

jump_reads_back : (kind : JumpKind) (name : List ℕ) → is_some_label name ≡ true → ReadsBack (Jump kind name)
jump_reads_back kind name h =
    let n = jump_named kind in
    read_back (Jump kind name) (name_of (jump_opcode kind)) (name ∷ []) refl
    (two_words (name_of (jump_opcode kind)) name n.name.word (label_is_word name h))
    (n.value (name ∷ []) ∙ jump_form kind name h)
    (named_no_pragma (jump_opcode kind) n.name)

table_form : (kind : TableKind) (names : List (List ℕ)) → list_all is_some_label names ≡ true → length names < 256 → statement_in (table_opcode kind) format.Jumps names ≡ Ok (Table kind names)
table_form kind names h l =
    let few : nat_lt 255 (length names) ≡ false = grind (arith, nat_tests) in
    ap (λ (t : Bool). if not t then Err flaw.Word else if nat_lt 255 (length names) then Err flaw.Count else Ok (Table (table_kind (table_opcode kind)) names)) h
    ∙ ap (λ (t : Bool). if t then Err flaw.Count else Ok (Table (table_kind (table_opcode kind)) names)) few
    ∙ ap (λ k. Ok (Table k names)) (table_kind_back kind)

labels_are_words : (names : List (List ℕ)) → list_all is_some_label names ≡ true → are_words names ≡ true
labels_are_words [] h = refl
labels_are_words (n ∷ ns) h =
    let p = and_parts (is_some_label n) (list_all is_some_label ns) h in
    and_from (is_word n) (are_words ns) (label_is_word n p.0) (labels_are_words ns p.1)

table_reads_back : (kind : TableKind) (names : List (List ℕ)) → list_all is_some_label names ≡ true → length names < 256 → ReadsBack (Table kind names)
table_reads_back kind names h l =
    let n = table_named kind in
    read_back (Table kind names) (name_of (table_opcode kind)) names refl
    (and_from (is_word (name_of (table_opcode kind))) (are_words names) n.name.word (labels_are_words names h))
    (n.value names ∙ table_form kind names h l)
    (named_no_pragma (table_opcode kind) n.name)

pub reads_back : (s : Statement) → IsStatement s → IsOfBytes s → ReadsBack s
reads_back (Op i) h b = op_reads_back i.op i.imm (row_of i.op) refl h.0 h.1 b
reads_back (Label name) h b = label_reads_back name h
reads_back (Jump kind name) h b = jump_reads_back kind name h
reads_back (Table kind names) h b = table_reads_back kind names (list_all-from_AllPass is_some_label names h.0) h.1
