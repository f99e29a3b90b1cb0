-- Printed numbers, byte strings and labels are words of visible bytes.
use Rattle.std.proofs.Common.{◌≡◌, ℕ, ℤ, suc, ◌+◌, ◌/◌, ◌%◌, ◌^◌, ◌<◌, Bool, true, false, ◌&&◌, not, List, [], ◌∷◌, ◌++◌, length, Some, refl, arith, ap, sym, ◌∙◌}
use Rattle.std.specs.Prelude.{◌==◌, pos, negsuc, slice_index}
use Rattle.std.specs.List.{list_all}
use Rattle.std.specs.Fmt.{decimal}
use Rattle.std.specs.Int.RustNames.{FitsSigned}
use Rattle.std.specs.Int.{w8}
use Rattle.std.proofs.lemmas.Bool.Decides.{nat_tests}
use Rattle.std.proofs.lemmas.Bool.{and_parts, and_left, and_from}
use Rattle.std.proofs.lemmas.List.Folds.{list_all-append}
use Rattle.std.proofs.lemmas.Fmt.{decimal_nonempty}
use Rattle.hex.specs.Hex.{encode_lower, encode_with, lower_digits, hex_digit_value}
use Rattle.hex.proofs.HexLemmas.{IsDigits-lower_digits}
use Rattle.avm_ops.specs.Code.{AreBytes}
use Rattle.teal_line.specs.Operands.{is_between, is_digit, is_label_byte, is_some_label, signed_word, bytes_word}
use Rattle.teal_line.specs.Words.{is_comment}
use Rattle.teal_line.proofs.Joined.{is_plain, is_word}
use Rattle.teal_line.proofs.Numerals.{decimal_digits}

-- visible, no quote and no slash
abbrev pub is_simple : ℕ → Bool
is_simple b = is_between 33 126 b && (not (b == 34) && not (b == 47))

abbrev pub are_simple : List ℕ → Bool
are_simple bs = list_all is_simple bs

-- a test that each element of another test passes
pub all_weaker : (p q : ℕ → Bool) → ((b : ℕ) → p b ≡ true → q b ≡ true) → (bs : List ℕ) → list_all p bs ≡ true → list_all q bs ≡ true
all_weaker p q f [] h = refl
all_weaker p q f (b ∷ bs) h =
    let s = and_parts (p b) (list_all p bs) h in
    and_from (q b) (list_all q bs) (f b s.0) (all_weaker p q f bs s.1)

no_comment : (b : ℕ) (bs : List ℕ) → (b == 47) ≡ false → is_comment (b ∷ bs) ≡ false
no_comment b [] h = refl
no_comment b (c ∷ cs) h = and_left (b == 47) (c == 47) h

not_false : (b : Bool) → b ≡ false → not b ≡ true
not_false b h = ap not h

not_true : (b : Bool) → not b ≡ true → b ≡ false
not_true true h = sym h
not_true false h = refl

simple_is_plain : (w : List ℕ) → are_simple w ≡ true → is_plain w ≡ true
simple_is_plain [] h = refl
simple_is_plain (b ∷ bs) h =
    let p = and_parts (is_simple b) (are_simple bs) h in
    let q = and_parts (is_between 33 126 b) (not (b == 34) && not (b == 47)) p.0 in
    let r = and_parts (not (b == 34)) (not (b == 47)) q.1 in
    and_from (is_between 33 126 b) (not (is_comment (b ∷ bs)) && is_plain bs) q.0
    (and_from (not (is_comment (b ∷ bs))) (is_plain bs) (not_false (is_comment (b ∷ bs)) (no_comment b bs (not_true (b == 47) r.1))) (simple_is_plain bs p.1))

pub simple_is_word : (w : List ℕ) → 0 < length w → are_simple w ≡ true → is_word w ≡ true
simple_is_word [] l h = absurd (omega arith)
simple_is_word (b ∷ bs) l h =
    let p = and_parts (is_simple b) (are_simple bs) h in
    let q = and_parts (is_between 33 126 b) (not (b == 34) && not (b == 47)) p.0 in
    let r = and_parts (not (b == 34)) (not (b == 47)) q.1 in
    and_from (not (b == 34)) (is_plain (b ∷ bs)) r.0 (simple_is_plain (b ∷ bs) h)

digit_is_simple : (b : ℕ) → is_digit b ≡ true → is_simple b ≡ true
digit_is_simple b h = grind (arith, nat_tests)

label_byte_is_simple : (b : ℕ) → is_label_byte b ≡ true → is_simple b ≡ true
label_byte_is_simple b h = grind (arith, nat_tests)

hex_is_simple : (c d : ℕ) → hex_digit_value c ≡ Some d → is_simple c ≡ true
hex_is_simple c d h = grind (arith, nat_tests)

pub decimal_is_word : (n : ℕ) → n < 2 ^ 64 → is_word (decimal n) ≡ true
decimal_is_word n h = simple_is_word (decimal n) (decimal_nonempty n h) (all_weaker is_digit is_simple digit_is_simple (decimal n) (decimal_digits n h))

pub signed_is_word : (z : ℤ) → FitsSigned w8 z → is_word (signed_word z) ≡ true
signed_is_word (pos n) h = decimal_is_word n (omega (arith, h.sfits))
signed_is_word (negsuc n) h =
    let g : n + 1 < 2 ^ 64 = omega (arith, h.sfits) in
    simple_is_word (45 ∷ decimal (n + 1)) (omega arith) (all_weaker is_digit is_simple digit_is_simple (decimal (n + 1)) (decimal_digits (n + 1) g))

hex_simple : (b : List ℕ) → AreBytes b → are_simple (encode_lower b) ≡ true
unfolding encode_with
hex_simple [] h = refl
hex_simple (b ∷ bs) h =
    let fits : b < 256 = h 0 in
    let high = hex_is_simple (slice_index lower_digits (b / 16)) (b / 16) (IsDigits-lower_digits (b / 16) (omega arith)) in
    let low = hex_is_simple (slice_index lower_digits (b % 16)) (b % 16) (IsDigits-lower_digits (b % 16) (omega arith)) in
    and_from (is_simple (slice_index lower_digits (b / 16))) (is_simple (slice_index lower_digits (b % 16)) && are_simple (encode_lower bs)) high
    (and_from (is_simple (slice_index lower_digits (b % 16))) (are_simple (encode_lower bs)) low (hex_simple bs (λ k. h (suc k))))

pub bytes_is_word : (b : List ℕ) → AreBytes b → is_word (bytes_word b) ≡ true
bytes_is_word b h = simple_is_word (bytes_word b) (omega arith) (hex_simple b h)

label_parts : (name : List ℕ) → is_some_label name ≡ true → (0 < length name) × (list_all is_label_byte name ≡ true)
label_parts [] h = absurd (cc h)
label_parts (b ∷ bs) h = (omega arith, h)

label_simple : (name : List ℕ) → is_some_label name ≡ true → are_simple name ≡ true
label_simple name h = all_weaker is_label_byte is_simple label_byte_is_simple name (label_parts name h).1

pub label_is_word : (name : List ℕ) → is_some_label name ≡ true → is_word name ≡ true
label_is_word name h = simple_is_word name (label_parts name h).0 (label_simple name h)

pub label_line_is_word : (name : List ℕ) → is_some_label name ≡ true → is_word (name ++ 58 ∷ []) ≡ true
label_line_is_word name h =
    simple_is_word (name ++ 58 ∷ []) (some name)
    (list_all-append is_simple name (58 ∷ []) ∙ and_from (are_simple name) true (label_simple name h) refl)
  where
    some : (w : List ℕ) → 0 < length (w ++ 58 ∷ [])
    some [] = omega arith
    some (b ∷ bs) = omega arith
