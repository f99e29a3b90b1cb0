-- What is spelled is read as it was, whatever follows.
use Rattle.std.proofs.Common.{◌≡◌, ℕ, ℤ, ◌+◌, ◌<◌, ◌≤◌, ◌^◌, List, [], ◌∷◌, ◌++◌, length, take, drop, Some, None, Option, Result, Ok, refl, arith, ap, sym, ◌∙◌, append_assoc, length-append, IsTrue, All, Fits}
use Rattle.std.proofs.lemmas.Bool.Decides.{nat_tests}
use Rattle.std.proofs.lemmas.List.Elements.{All-head, All-tail}
use Rattle.std.proofs.lemmas.List.{take-append-le, take_all}
use Rattle.std.proofs.lemmas.Nat.{from_be_bytes-to_be_bytes_2}
use Rattle.std.proofs.Math.Facts.{to_z-of_z, Fits-of_z}
use Rattle.std.specs.List.{flat_map}
use Rattle.std.specs.Int.{w16, cast_signed, cast_unsigned, from_be_bytes, to_be_bytes}
use Rattle.avm_ops.specs.declared.rows.Fields.{Fields}
use Rattle.avm_ops.specs.declared.rows.Format.{Format}
use Rattle.avm_ops.specs.declared.rows.Format.TheVariants as format
use Rattle.avm_ops.specs.declared.rows.Row.{Row}
use Rattle.avm_ops.specs.declared.instr.Instr.{Instr}
use Rattle.avm_ops.specs.declared.instr.DecodeFault.{DecodeFault}
use Rattle.avm_ops.specs.declared.instr.Imm.{Imm}
use Rattle.avm_ops.specs.declared.instr.Imm.TheVariants.{Nothing, Byte, Two, Signed, Int, Ints, Bytes, Blobs, Jump, Jumps}
use Rattle.avm_ops.specs.Varint.{number_at, number_bytes}
use Rattle.avm_ops.specs.Immediate.{Read, behind, then_read, read_as, each_in, byte_in, bytes_in, sized_in, jump_in, field_in, is_field, imm_in, imm_bytes, sized_bytes, jump_bytes, IsOf, IsSigned16, IsCountable}
use Rattle.avm_ops.specs.Table.{row_of}
use Rattle.avm_ops.specs.Code.{decoded, decoded_row, placed, HasForm, HasFormOf, instr_bytes}
use Rattle.avm_ops.proofs.Spelling.{number_read}

drop_prefix : (xs ys : List ℕ) → drop (length xs) (xs ++ ys) ≡ ys
drop_prefix [] ys = refl
drop_prefix (x ∷ xs) ys = drop_prefix xs ys

abbrev ok : {A : Type 0} → A → ℕ → Read A
ok x k = Ok (x, k)

-- one reading behind another reads what is spelled one behind the other
then_is_read : {A B : Type 0} (one : List ℕ → Read A) (next : A → List ℕ → Read B) (xs ys rest : List ℕ) (a : A) (b : B)
    → one (xs ++ (ys ++ rest)) ≡ Ok (a, length xs) → next a (ys ++ rest) ≡ Ok (b, length ys)
    → then_read next ((xs ++ ys) ++ rest) (one ((xs ++ ys) ++ rest)) ≡ Ok (b, length (xs ++ ys))
then_is_read {A = A} {B = B} one next xs ys rest a b h g =
    ap (λ s. then_read next s (one s)) (append_assoc xs ys rest)
    ∙ ap (then_read next (xs ++ (ys ++ rest))) h
    ∙ ap (λ t. behind (length xs) (next a t)) (drop_prefix xs (ys ++ rest))
    ∙ ap (behind (length xs)) g
    ∙ ap (λ k. ok b k) (sym (length-append xs ys))

each_is_read : {A : Type 0} (one : List ℕ → Read A) (spell : A → List ℕ) (P : A → Type 0) → ((x : A) (rest : List ℕ) → P x → one (spell x ++ rest) ≡ Ok (x, length (spell x)))
    → (xs : List A) (rest : List ℕ) → All P xs → each_in one (length xs) (flat_map spell xs ++ rest) ≡ Ok (xs, length (flat_map spell xs))
each_is_read one spell P h [] rest p = refl
each_is_read one spell P h (x ∷ xs) rest p =
    then_is_read one (λ y cs. read_as (λ ys. y ∷ ys) (each_in one (length xs) cs)) (spell x) (flat_map spell xs) rest x (x ∷ xs)
    (h x (flat_map spell xs ++ rest) (All-head P x xs p))
    (ap (read_as (λ ys. x ∷ ys)) (each_is_read one spell P h xs rest (All-tail P x xs p)))

bytes_read : (b rest : List ℕ) → bytes_in (length b) (b ++ rest) ≡ Ok (b, length b)
bytes_read b rest =
    let l : length (b ++ rest) ≡ length b + length rest = length-append b rest in
    let t : take (length b) (b ++ rest) ≡ b = take-append-le (length b) b rest (omega arith) ∙ take_all (length b) b (omega arith) in
    let n : length b ≤ length (b ++ rest) = omega (arith, l) in
    grind (arith, nat_tests, t, n)

sized_read : (b rest : List ℕ) → IsCountable b → sized_in (sized_bytes b ++ rest) ≡ Ok (b, length (sized_bytes b))
sized_read b rest h = then_is_read number_at bytes_in (number_bytes (length b)) b rest (length b) b (number_read (length b) (b ++ rest) h) (bytes_read b rest)

jump_read : (j : ℤ) (rest : List ℕ) → IsSigned16 j → jump_in (jump_bytes j ++ rest) ≡ Ok (j, length (jump_bytes j))
jump_read j rest h =
    let f : Fits w16 (cast_unsigned w16 j) = Fits-of_z h in
    let e : from_be_bytes w16 (to_be_bytes w16 (cast_unsigned w16 j)) ≡ cast_unsigned w16 j = from_be_bytes-to_be_bytes_2 (cast_unsigned w16 j) (omega (arith, f)) in
    ap (λ k. ok k 2) (ap (cast_signed w16) e ∙ to_z-of_z h)

field_read : (fs : Fields) (b : ℕ) (rest : List ℕ) → IsTrue (is_field fs b) → field_in fs (b ∷ rest) ≡ Ok (b, 1)
field_read fs b rest h = rw h refl

imm_read : (f : Format) (imm : Imm) (rest : List ℕ) → IsOf f imm → imm_in f (imm_bytes imm ++ rest) ≡ Ok (imm, length (imm_bytes imm))
imm_read format.Nothing Nothing rest h = refl
imm_read format.Byte (Byte b) rest h = refl
imm_read format.Two (Two a b) rest h = refl
imm_read format.Signed (Signed i) rest h = ap (λ k. ok (Signed k) 1) (to_z-of_z h)
imm_read format.Int (Int n) rest h = ap (read_as Int) (number_read n rest h)
imm_read format.Ints (Ints ns) rest h =
    ap (read_as Ints) (then_is_read number_at (each_in number_at) (number_bytes (length ns)) (flat_map number_bytes ns) rest (length ns) ns
    (number_read (length ns) (flat_map number_bytes ns ++ rest) h.0)
    (each_is_read number_at number_bytes (λ n. n < 2 ^ 64) number_read ns rest h.1))
imm_read format.Bytes (Bytes b) rest h = ap (read_as Bytes) (sized_read b rest h)
imm_read format.Blobs (Blobs bs) rest h =
    ap (read_as Blobs) (then_is_read number_at (each_in sized_in) (number_bytes (length bs)) (flat_map sized_bytes bs) rest (length bs) bs
    (number_read (length bs) (flat_map sized_bytes bs ++ rest) h.0)
    (each_is_read sized_in sized_bytes IsCountable sized_read bs rest h.1))
imm_read format.Jump (Jump j) rest h = ap (read_as Jump) (jump_read j rest h)
imm_read format.Jumps (Jumps js) rest h =
    ap (read_as Jumps) (then_is_read byte_in (each_in jump_in) (length js ∷ []) (flat_map jump_bytes js) rest (length js) js
    refl
    (each_is_read jump_in jump_bytes IsSigned16 jump_read js rest h.1))
imm_read (format.Field fs) (Byte b) rest h = ap (read_as Byte) (field_read fs b rest h)
imm_read (format.FieldAndByte fs) (Two a b) rest h =
    then_is_read (field_in fs) (λ x cs. read_as (Two x) (byte_in cs)) (a ∷ []) (b ∷ []) rest a (Two a b) (field_read fs a (b ∷ rest) h.0) refl
imm_read f imm rest h = absurd h

row_read : (op pc : ℕ) (imm : Imm) (row : Option Row) (rest : List ℕ) → HasFormOf row imm → decoded_row pc op (imm_bytes imm ++ rest) row ≡ Ok (record { op = op; imm = imm }, pc + 1 + length (imm_bytes imm))
row_read op pc imm None rest h = absurd h
row_read op pc imm (Some row) rest h = ap (placed pc op) (imm_read row.format imm rest h)

pub instr_read : (i : Instr) (pc : ℕ) (rest : List ℕ) → HasForm i → decoded pc (instr_bytes i ++ rest) ≡ Ok (i, pc + length (instr_bytes i))
instr_read i pc rest h =
    let e : pc + 1 + length (imm_bytes i.imm) ≡ pc + length (instr_bytes i) = omega arith in
    row_read i.op pc i.imm (row_of i.op) rest h ∙ ap (λ (k : ℕ). let r : Result (Instr × ℕ) DecodeFault = Ok (i, k) in r) e
