-- What the value rows compute on numbers and bytes (AVM specification, "Arithmetic and Logic Operations", "Byte Array Manipulation").
use Rattle.std.specs.Prelude.{ℕ, zero, suc, ◌+◌, ◌-◌, ◌*◌, ◌/◌, ◌%◌, ◌^◌, ◌==◌, ◌||◌, ◌&&◌, nat_lt, nat_le, Bool, if◌then◌else◌, List, ◌++◌, length, take, drop, slice_index, slice_set, Option, Some, None, bit_and, bit_or, bit_xor}
use Rattle.std.specs.List.{slice_range}
use Rattle.std.specs.Int.{bit_at}
use Rattle.std.specs.Int.Digits.{number_from_digits}
use Rattle.avm_ops.specs.declared.rows.Arithmetic.{Arithmetic}
use Rattle.avm_ops.specs.declared.rows.Arithmetic.TheVariants.{Add, Subtract, Multiply, Divide, Modulo, Power, ShiftLeft, ShiftRight, BitOr, BitAnd, BitXor}
use Rattle.avm_ops.specs.declared.rows.Comparison.{Comparison}
use Rattle.avm_ops.specs.declared.rows.Comparison.TheVariants.{Less, Greater, LessOrEqual, GreaterOrEqual, Both, Either}
use Rattle.avm_ops.specs.declared.rows.Unary.{Unary}
use Rattle.avm_ops.specs.declared.rows.Unary.TheVariants.{Not, BitNot, SquareRoot}

-- 1 for true and 0 for false
abbrev pub truth : Bool → ℕ
truth b = if b then 1 else 0

-- a number, where it is below 2 ^ 64
abbrev pub fitting : ℕ → Option ℕ
fitting n = if nat_lt n (2 ^ 64) then Some n else None

-- that, where the test holds
abbrev pub provided : {A : Type 0} → Bool → A → Option A
provided test x = if test then Some x else None

abbrev pub arithmetic : Arithmetic → ℕ → ℕ → Option ℕ
arithmetic Add a b = fitting (a + b)
arithmetic Subtract a b = provided (nat_le b a) (a - b)
arithmetic Multiply a b = fitting (a * b)
arithmetic Divide a b = provided (nat_lt 0 b) (a / b)
arithmetic Modulo a b = provided (nat_lt 0 b) (a % b)
arithmetic Power a b = if (a == 0) && (b == 0) then None else fitting (a ^ b)
arithmetic ShiftLeft a b = provided (nat_lt b 64) (a * 2 ^ b % 2 ^ 64)
arithmetic ShiftRight a b = provided (nat_lt b 64) (a / 2 ^ b)
arithmetic BitOr a b = Some (bit_or a b)
arithmetic BitAnd a b = Some (bit_and a b)
arithmetic BitXor a b = Some (bit_xor a b)

abbrev pub comparison : Comparison → ℕ → ℕ → Bool
comparison Less a b = nat_lt a b
comparison Greater a b = nat_lt b a
comparison LessOrEqual a b = nat_le a b
comparison GreaterOrEqual a b = nat_le b a
comparison Both a b = nat_lt 0 a && nat_lt 0 b
comparison Either a b = nat_lt 0 a || nat_lt 0 b

-- the greatest r with r * r ≤ n
unfoldable pub square_root : ℕ → ℕ
square_root zero = 0
square_root (suc n) = let r = square_root n in if nat_le ((r + 1) * (r + 1)) (suc n) then r + 1 else r

abbrev pub unary : Unary → ℕ → ℕ
unary Not a = truth (a == 0)
unary BitNot a = 2 ^ 64 - 1 - a
unary SquareRoot a = square_root a

-- a number of two words
abbrev pub wide : ℕ → ℕ → ℕ
wide high low = high * 2 ^ 64 + low

abbrev pub high_word : ℕ → ℕ
high_word n = n / 2 ^ 64

abbrev pub low_word : ℕ → ℕ
low_word n = n % 2 ^ 64

-- the number that bytes write, the high byte first
abbrev pub big_endian : List ℕ → ℕ
big_endian b = number_from_digits 256 b

-- how many of so many binary digits a number has: the greatest k + 1 with 2 ^ k ≤ n, or 0
abbrev pub digits_up_to : ℕ → ℕ → ℕ
digits_up_to zero n = 0
digits_up_to (suc k) n = if nat_le (2 ^ k) n then suc k else digits_up_to k n

-- how many binary digits a number has: none for 0
unfoldable pub bit_length : ℕ → ℕ
bit_length n = digits_up_to n n

-- a number with bit k set to j, which is 0 or 1; bit 0 is the lowest
abbrev pub with_bit : ℕ → ℕ → ℕ → ℕ
with_bit n k j = n - bit_at n k * 2 ^ k + j * 2 ^ k

-- bit i of bytes, of which bit 0 is the highest of the first byte
abbrev pub bit_of_bytes : List ℕ → ℕ → ℕ
bit_of_bytes b i = bit_at (slice_index b (i / 8)) (7 - i % 8)

-- bytes with that bit set to j
abbrev pub bytes_with_bit : List ℕ → ℕ → ℕ → List ℕ
bytes_with_bit b i j = slice_set b (i / 8) (with_bit (slice_index b (i / 8)) (7 - i % 8) j)

-- the bytes from one place up to another
abbrev pub part_of : List ℕ → ℕ → ℕ → Option (List ℕ)
part_of b start end = provided (nat_le start end && nat_le end (length b)) (slice_range b start end)

-- bytes with others written over them from a place on
abbrev pub written_over : List ℕ → ℕ → List ℕ → Option (List ℕ)
written_over b at part = provided (nat_le (at + length part) (length b)) (take at b ++ part ++ drop (at + length part) b)
