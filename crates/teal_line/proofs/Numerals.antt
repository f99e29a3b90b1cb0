-- Printed numbers and byte strings are read as they were.
use Rattle.std.proofs.Common.{◌≡◌, ℕ, ℤ, zero, suc, ◌+◌, ◌*◌, ◌/◌, ◌%◌, ◌^◌, ◌≤◌, ◌<◌, true, false, ◌&&◌, List, [], ◌∷◌, ◌++◌, length, get_or, Some, None, refl, arith, ap, sym, ◌∙◌, append_assoc, append-nil, add-one}
use Rattle.std.specs.Prelude.{◌==◌, pos, negsuc, neg_ℤ, option_and_then, option_map}
use Rattle.std.specs.List.{list_all}
use Rattle.std.specs.Fmt.{decimal}
use Rattle.std.specs.Int.RustNames.{FitsSigned}
use Rattle.std.specs.Int.{w8}
use Rattle.std.proofs.lemmas.Bool.Decides.{nat_tests}
use Rattle.std.proofs.lemmas.Bool.{and_parts, and_right, and_from}
use Rattle.std.proofs.lemmas.List.Folds.{list_all-append}
use Rattle.std.proofs.lemmas.Fmt.{decimal_by_steps, decimal_digit as decimal_of_digit, decimal_nonempty, first_decimal}
use Rattle.hex.proofs.HexLemmas.{decode_of-encode_lower}
use Rattle.avm_ops.specs.Code.{AreBytes}
use Rattle.teal_line.specs.Operands.{is_digit, behind_0x, decimal_digit, value_in, some_value, is_padded, decimal_value, whole_value, below, number_said, signed_said, digits_said, bytes_said, signed_word, bytes_word}

digit_value : (n : ℕ) → n < 10 → decimal_digit (48 + n) ≡ Some n
digit_value n h = grind (arith, nat_tests)

value_one : (v n : ℕ) (acc : List ℕ) → n < 10 → value_in 10 decimal_digit v ((48 + n) ∷ acc) ≡ value_in 10 decimal_digit (v * 10 + n) acc
value_one v n acc h = ap (λ o. option_and_then (λ d. value_in 10 decimal_digit (v * 10 + d) acc) o) (digit_value n h)

abbrev Reads : ℕ → List ℕ → Type 0
Reads n ds = (acc : List ℕ) → value_in 10 decimal_digit 0 (ds ++ acc) ≡ value_in 10 decimal_digit n acc

reads_one : (n : ℕ) → n < 10 → Reads n ((48 + n) ∷ [])
reads_one n h acc = let e : 0 * 10 + n ≡ n = omega arith in value_one 0 n acc h ∙ ap (λ k. value_in 10 decimal_digit k acc) e

reads_more : (n : ℕ) (ds : List ℕ) → 10 ≤ n → Reads (n / 10) ds → Reads n (ds ++ ((48 + n % 10) ∷ []))
reads_more n ds h r acc =
    let e : n / 10 * 10 + n % 10 ≡ n = omega arith in
    ap (value_in 10 decimal_digit 0) (append_assoc ds ((48 + n % 10) ∷ []) acc)
    ∙ r ((48 + n % 10) ∷ acc)
    ∙ value_one (n / 10) (n % 10) acc (omega arith)
    ∙ ap (λ k. value_in 10 decimal_digit k acc) e

value_decimal : (n : ℕ) → n < 2 ^ 64 → value_in 10 decimal_digit 0 (decimal n) ≡ Some n
value_decimal n h = ap (value_in 10 decimal_digit 0) (sym (append-nil (decimal n))) ∙ decimal_by_steps Reads reads_one reads_more n h []

digit_is : (n : ℕ) → n < 10 → is_digit (48 + n) ≡ true
digit_is n h = grind (arith, nat_tests)

abbrev AreDigits : ℕ → List ℕ → Type 0
AreDigits n ds = list_all is_digit ds ≡ true

digits_one : (n : ℕ) → n < 10 → AreDigits n ((48 + n) ∷ [])
digits_one n h = and_from (is_digit (48 + n)) true (digit_is n h) refl

digits_more : (n : ℕ) (ds : List ℕ) → 10 ≤ n → AreDigits (n / 10) ds → AreDigits n (ds ++ ((48 + n % 10) ∷ []))
digits_more n ds h r =
    list_all-append is_digit ds ((48 + n % 10) ∷ [])
    ∙ and_from (list_all is_digit ds) (list_all is_digit ((48 + n % 10) ∷ [])) r (digits_one (n % 10) (omega arith))

pub decimal_digits : (n : ℕ) → n < 2 ^ 64 → list_all is_digit (decimal n) ≡ true
decimal_digits n h = decimal_by_steps AreDigits digits_one digits_more n h

value_some : (w : List ℕ) → 0 < length w → some_value 10 decimal_digit w ≡ value_in 10 decimal_digit 0 w
value_some [] h = absurd (omega arith)
value_some (b ∷ bs) h = refl

padded_not : (w : List ℕ) → 48 < get_or w 0 0 → is_padded w ≡ false
padded_not [] h = refl
padded_not (b ∷ []) h = refl
padded_not (b ∷ c ∷ bs) h = grind (arith, nat_tests)

decimal_not_padded : (n : ℕ) → n < 2 ^ 64 → is_padded (decimal n) ≡ false
decimal_not_padded zero h = ap is_padded (decimal_of_digit 0 (omega arith))
decimal_not_padded (suc n) h = padded_not (decimal (suc n)) (first_decimal (suc n) (omega arith) h)

decimal_read : (n : ℕ) → n < 2 ^ 64 → decimal_value (decimal n) ≡ Some n
decimal_read n h =
    let p = decimal_not_padded n h in
    rw p (value_some (decimal n) (decimal_nonempty n h) ∙ value_decimal n h)

digit_no_x : (a b : ℕ) → is_digit b ≡ true → ((a == 48) && (b == 120)) ≡ false
digit_no_x a b h = let e : (b == 120) ≡ false = grind (arith, nat_tests) in rw e (and_right (a == 48) false refl)

digits_no_prefix : (w : List ℕ) → list_all is_digit w ≡ true → behind_0x w ≡ None
digits_no_prefix [] h = refl
digits_no_prefix (a ∷ []) h = refl
digits_no_prefix (a ∷ b ∷ bs) h =
    let p = and_parts (is_digit a) (is_digit b && list_all is_digit bs) h in
    let q = and_parts (is_digit b) (list_all is_digit bs) p.1 in
    let e = digit_no_x a b q.0 in
    rw e refl

below_is : (bound n : ℕ) → n < bound → below bound (Some n) ≡ Some n
below_is bound n h = grind (arith, nat_tests)

pub number_read : (bound n : ℕ) → n < bound → n < 2 ^ 64 → number_said bound (decimal n) ≡ Some n
number_read bound n h g =
    ap (λ o. below bound (whole_value o (decimal n))) (digits_no_prefix (decimal n) (decimal_digits n g))
    ∙ ap (below bound) (decimal_read n g)
    ∙ below_is bound n h

digit_no_minus : (b : ℕ) → is_digit b ≡ true → (b == 45) ≡ false
digit_no_minus b h = grind (arith, nat_tests)

signed_digits : (w : List ℕ) → 0 < length w → list_all is_digit w ≡ true → signed_said w ≡ option_map pos (number_said 128 w)
signed_digits [] l h = absurd (omega arith)
signed_digits (b ∷ bs) l h =
    let p = and_parts (is_digit b) (list_all is_digit bs) h in
    let e = digit_no_minus b p.0 in
    rw e refl

pub signed_read : (z : ℤ) → FitsSigned w8 z → signed_said (signed_word z) ≡ Some z
signed_read (pos n) h =
    let s : n < 128 = omega (arith, h.sfits) in
    let g : n < 2 ^ 64 = omega arith in
    signed_digits (decimal n) (decimal_nonempty n g) (decimal_digits n g)
    ∙ ap (option_map pos) (number_read 128 n s g)
signed_read (negsuc n) h =
    let s : n < 128 = omega (arith, h.sfits) in
    let g : n + 1 < 2 ^ 64 = omega arith in
    ap (λ o. option_map (λ k. neg_ℤ (pos k)) (below 129 o)) (decimal_read (n + 1) g)
    ∙ ap (option_map (λ k. neg_ℤ (pos k))) (below_is 129 (n + 1) (omega arith))
    ∙ ap (λ k. Some (neg_ℤ (pos k))) (add-one n)

pub bytes_read : (b : List ℕ) → AreBytes b → bytes_said (bytes_word b) ≡ Some b
unfolding bytes_said
bytes_read b h = ap digits_said (decode_of-encode_lower b h)
