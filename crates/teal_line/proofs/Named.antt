-- Each opcode and each field is read by its name.
use Rattle.std.proofs.Common.{◌≡◌, ℕ, Bool, true, false, ◌&&◌, ◌||◌, not, List, [], ◌∷◌, Option, Some, None, refl, ap, sym, ◌∙◌, IsTrue}
use Rattle.std.specs.Prelude.{◌==◌, if◌then◌else◌, bytes_eq, codes, is_none}
use Rattle.std.specs.List.{list_all, list_any}
use Rattle.std.proofs.lemmas.Bool.{and_parts, eqb-true}
use Rattle.avm_ops.specs.declared.rows.Row.{Row}
use Rattle.avm_ops.specs.declared.rows.Fields.{Fields}
use Rattle.avm_ops.specs.declared.rows.Fields.TheVariants as fields
use Rattle.avm_ops.specs.Immediate.{is_field, numbers_of}
use Rattle.avm_ops.specs.Table.{table, row_in, row_of}
use Rattle.teal_line.specs.Mnemonics.{mnemonics, name_of, opcode_named, field_name, field_named}
use Rattle.teal_line.specs.Reading.{before_colon}
use Rattle.teal_line.proofs.Joined.{is_word}

abbrev is_some_of : Option ℕ → ℕ → Bool
is_some_of None n = false
is_some_of (Some k) n = k == n

some_of : (o : Option ℕ) (n : ℕ) → is_some_of o n ≡ true → o ≡ Some n
some_of None n h = absurd (cc h)
some_of (Some k) n h = ap Some (eqb-true k n h)

none_of : (o : Option (List ℕ)) → is_none o ≡ true → o ≡ None
none_of None h = refl
none_of (Some x) h = absurd (cc h)

not_true : (b : Bool) → not b ≡ true → b ≡ false
not_true true h = sym h
not_true false h = refl

-- what a name has to meet
abbrev is_name : ℕ → List ℕ → Bool
is_name op name =
    is_some_of (opcode_named name) op && (is_word name && (is_none (before_colon name) && not (bytes_eq name (codes "#pragma"))))

abbrev has_name : ℕ → Bool
has_name op = is_name op (name_of op)

all_have_names : list_all (λ e. has_name e.0) table ≡ true
unfolding table name_of opcode_named mnemonics
all_have_names = refl

-- what each entry of a table meets, its opcode meets
by_entry : (test : ℕ → Bool) (es : List (ℕ × Row)) (op : ℕ) (row : Row) → list_all (λ e. test e.0) es ≡ true → row_in es op ≡ Some row → test op ≡ true
by_entry test [] op row h e = absurd (cc e)
by_entry test (x ∷ es) op row h e = by_test (and_parts (test x.0) (list_all (λ e. test e.0) es) h) (λ g. by_entry test es op row g) (op == x.0) refl e
  where
    by_test : (test x.0 ≡ true) × (list_all (λ e. test e.0) es ≡ true) → (list_all (λ e. test e.0) es ≡ true → row_in es op ≡ Some row → test op ≡ true)
        → (b : Bool) → (op == x.0) ≡ b → (if b then Some x.1 else row_in es op) ≡ Some row → test op ≡ true
    by_test p ih true is e = ap test (eqb-true op x.0 is) ∙ p.0
    by_test p ih false is e = ih p.1 e

-- the name of an opcode is read as it, is a word, no label, and no pragma
pub record HasName (op : ℕ) : Type 0 where
  pub read : opcode_named (name_of op) ≡ Some op
  pub word : is_word (name_of op) ≡ true
  pub no_label : before_colon (name_of op) ≡ None
  pub no_pragma : bytes_eq (name_of op) (codes "#pragma") ≡ false

name_parts : (op : ℕ) → has_name op ≡ true → HasName op
name_parts op h =
    let name = name_of op in
    let p = and_parts (is_some_of (opcode_named name) op) (is_word name && (is_none (before_colon name) && not (bytes_eq name (codes "#pragma")))) h in
    let q = and_parts (is_word name) (is_none (before_colon name) && not (bytes_eq name (codes "#pragma"))) p.1 in
    let r = and_parts (is_none (before_colon name)) (not (bytes_eq name (codes "#pragma"))) q.1 in
    record {
      read = some_of (opcode_named name) op p.0;
      word = q.0;
      no_label = none_of (before_colon name) r.0;
      no_pragma = not_true (bytes_eq name (codes "#pragma")) r.1;
    }

pub named : (op : ℕ) (row : Row) → row_of op ≡ Some row → HasName op
unfolding row_of
named op row h = name_parts op (by_entry has_name table op row all_have_names h)

-- fields

abbrev is_read_field : Fields → ℕ → Bool
is_read_field fs n = is_some_of (field_named fs (field_name fs n)) n && is_word (field_name fs n)

all_fields_read : (fs : Fields) → list_all (is_read_field fs) (numbers_of fs) ≡ true
all_fields_read fields.Transaction = refl
all_fields_read fields.Global = refl
all_fields_read fields.Array = refl

by_member : (test : ℕ → Bool) (ns : List ℕ) (n : ℕ) → list_all test ns ≡ true → list_any (λ k. n == k) ns ≡ true → test n ≡ true
by_member test [] n h e = absurd (cc e)
by_member test (k ∷ ks) n h e = by_test (and_parts (test k) (list_all test ks) h) (by_member test ks n) (n == k) refl e
  where
    by_test : (test k ≡ true) × (list_all test ks ≡ true) → (list_all test ks ≡ true → list_any (λ j. n == j) ks ≡ true → test n ≡ true)
        → (b : Bool) → (n == k) ≡ b → (b || list_any (λ j. n == j) ks) ≡ true → test n ≡ true
    by_test p ih true is e = ap test (eqb-true n k is) ∙ p.0
    by_test p ih false is e = ih p.1 e

pub field_read : (fs : Fields) (n : ℕ) → IsTrue (is_field fs n) → (field_named fs (field_name fs n) ≡ Some n) × (is_word (field_name fs n) ≡ true)
field_read fs n h =
    let t = by_member (is_read_field fs) (numbers_of fs) n (all_fields_read fs) h in
    let p = and_parts (is_some_of (field_named fs (field_name fs n)) n) (is_word (field_name fs n)) t in
    (some_of (field_named fs (field_name fs n)) n p.0, p.1)
