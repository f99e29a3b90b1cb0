-- Numbers of so many bytes, and bytes by their count.
use Rattle.std.proofs.Common.{◌≡◌, ◌∙◌, ℕ, zero, suc, ◌+◌, ◌*◌, ◌%◌, ◌^◌, ◌<◌, ◌≤◌, Bool, true, false, cond, ltb, eqb, List, [], ◌∷◌, ◌++◌, length, get_or, take, drop, Option, Some, None, Result, Ok, Err, refl, sym, ap, subst, append_assoc, arith}
use Rattle.std.specs.Int.{Width, w8, w16, w32, w64, byte_len, from_be_bytes, to_be_bytes}
use Rattle.std.proofs.lemmas.Bool.{ltb-true, ltb-false, lt-ltb, le-ltb, eqb-true, eq-eqb}
use Rattle.std.proofs.lemmas.List.{take_at, drop_at, take-append-drop, length-append, length-take, get_or-take, get_or_past}
use Rattle.std.proofs.lemmas.Nat.{be_bytes_2, be_bytes_4, be_bytes_8, from_be_bytes-to_be_bytes_2, from_be_bytes-to_be_bytes_4, from_be_bytes-to_be_bytes_8}
use Rattle.arc4_types.specs.declared.abi_fault.AbiFault.{AbiFault}
use Rattle.arc4_types.specs.declared.abi_fault.AbiFault.TheVariants as fault
use Rattle.arc4_types.specs.Types.{width_of}
use Rattle.arc4_types.specs.Reading.{◌>>=◌, mapped, taken, number_at, text_at}
use Rattle.arc4_types.proofs.Steps.{Bound, bind_ok, ok_is, done, mapped_ok, if_err, IsBytes, bytes_behind, bytes_in_front}

pub record IsWide (w : Width) : Type 0 where
  pub len : (n : ℕ) → length (to_be_bytes w n) ≡ byte_len w
  pub back : (bs : List ℕ) → length bs ≡ byte_len w → IsBytes bs → to_be_bytes w (from_be_bytes w bs) ≡ bs
  pub again : (n : ℕ) → n < 256 ^ byte_len w → from_be_bytes w (to_be_bytes w n) ≡ n
  pub below : (bs : List ℕ) → IsBytes bs → from_be_bytes w bs < 256 ^ byte_len w

one_byte : (bs : List ℕ) → length bs ≡ 1 → IsBytes bs → to_be_bytes w8 (from_be_bytes w8 bs) ≡ bs
one_byte [] l h = absurd (omega arith)
one_byte (b ∷ []) l h = let f = h 0 in let e : b % 256 ≡ b = omega (arith, f) in ap (λ x. x ∷ []) e
one_byte (b ∷ c ∷ bs) l h = absurd (omega arith)

pub wide8 : IsWide w8
wide8 = record {
  len = λ n. refl;
  back = one_byte;
  again = λ n h. omega arith;
  below = λ bs h. omega (arith, h 0);
}

pub wide16 : IsWide w16
wide16 = record {
  len = λ n. refl;
  back = λ bs l h. be_bytes_2 bs _ l h refl;
  again = λ n h. from_be_bytes-to_be_bytes_2 n h;
  below = λ bs h. omega (arith, h 0, h 1);
}

pub wide32 : IsWide w32
wide32 = record {
  len = λ n. refl;
  back = λ bs l h. be_bytes_4 bs _ l h refl;
  again = λ n h. from_be_bytes-to_be_bytes_4 n h;
  below = λ bs h. omega (arith, h 0, h 1, h 2, h 3);
}

pub wide64 : IsWide w64
wide64 = record {
  len = λ n. refl;
  back = λ bs l h. be_bytes_8 bs _ l h refl;
  again = λ n h. from_be_bytes-to_be_bytes_8 n h;
  below = λ bs h. omega (arith, h 0, h 1, h 2, h 3, h 4, h 5, h 6, h 7);
}

wide_if : (b : Bool) (v w : Width) → IsWide v → IsWide w → IsWide (cond b v w)
wide_if true v w p q = p
wide_if false v w p q = q

pub wide : (bits : ℕ) → IsWide (width_of bits)
wide bits = wide_if (eqb bits 8) w8 _ wide8 (wide_if (eqb bits 16) w16 _ wide16 (wide_if (eqb bits 32) w32 w64 wide32 wide64))

-- what was taken from the front
pub record Front (bs b rest : List ℕ) (n : ℕ) : Type 0 where
  pub parts : bs ≡ b ++ rest
  pub count : length b ≡ n

pub taken_takes : (n : ℕ) (bs b rest : List ℕ) → taken n bs ≡ Ok (b, rest) → Front bs b rest n
taken_takes n bs b rest e =
    let g = if_err (ltb (length bs) n) fault.Length (done (take n bs, drop n bs)) (b, rest) e in
    let l : n ≤ length bs = ltb-false (length bs) n g.0 in
    let p : (take n bs, drop n bs) ≡ (b, rest) = ok_is (take n bs, drop n bs) (b, rest) g.1 in
    subst (λ (x : List ℕ × List ℕ). Front bs x.0 x.1 n) p (record { parts = sym (take-append-drop n bs); count = omega (arith, length-take n bs) })

pub taken_again : (n : ℕ) (b rest : List ℕ) → length b ≡ n → taken n (b ++ rest) ≡ Ok (b, rest)
taken_again n b rest l =
    let t : ltb (length (b ++ rest)) n ≡ false = le-ltb (length (b ++ rest)) n (omega (arith, length-append b rest)) in
    rw (t, take_at b rest n l, drop_at b rest n l) refl

-- what a number was taken from
pub record Digits (w : Width) (bs rest : List ℕ) (n : ℕ) : Type 0 where
  pub parts : bs ≡ to_be_bytes w n ++ rest
  pub small : n < 256 ^ byte_len w
  pub fits : IsBytes rest

pub number_takes : (w : Width) → IsWide w → (bs : List ℕ) (n : ℕ) (rest : List ℕ) → IsBytes bs → number_at w bs ≡ Ok (n, rest) → Digits w bs rest n
number_takes w wide bs n rest h e =
    let m = mapped_ok (from_be_bytes w) (taken (byte_len w) bs) (n, rest) e in
    let f = taken_takes (byte_len w) bs m.got rest m.read in
    let i : IsBytes (m.got ++ rest) = subst IsBytes f.parts h in
    let front : IsBytes m.got = bytes_in_front m.got rest i in
    let d : to_be_bytes w n ≡ m.got = ap (to_be_bytes w) (sym m.is) ∙ wide.back m.got f.count front in
    let s : from_be_bytes w m.got < 256 ^ byte_len w = wide.below m.got front in
    record { parts = f.parts ∙ ap (λ (x : List ℕ). x ++ rest) (sym d); small = subst (λ x. x < 256 ^ byte_len w) m.is s; fits = bytes_behind m.got rest i }

pub number_again : (w : Width) → IsWide w → (n : ℕ) (rest : List ℕ) → n < 256 ^ byte_len w → number_at w (to_be_bytes w n ++ rest) ≡ Ok (n, rest)
number_again w wide n rest h =
    ap (mapped (from_be_bytes w)) (taken_again (byte_len w) (to_be_bytes w n) rest (wide.len n)) ∙ ap (λ x. Ok (x, rest)) (wide.again n h)

-- a text behind its count
pub record Counted (bs b rest : List ℕ) : Type 0 where
  pub parts : bs ≡ (to_be_bytes w16 (length b) ++ b) ++ rest
  pub small : length b < 65536

pub text_takes : (bs b rest : List ℕ) → IsBytes bs → text_at bs ≡ Ok (b, rest) → Counted bs b rest
text_takes bs b rest h e =
    let t = bind_ok (number_at w16 bs) (λ n. taken n.0 n.1) (b, rest) e in
    let n = t.got in
    let d = number_takes w16 wide16 bs n.0 n.1 h t.first in
    let f = taken_takes n.0 n.1 b rest t.then in
    let p : bs ≡ to_be_bytes w16 (length b) ++ (b ++ rest) = d.parts ∙ ap (λ (x : List ℕ). to_be_bytes w16 n.0 ++ x) f.parts ∙ ap (λ k. to_be_bytes w16 k ++ (b ++ rest)) (sym f.count) in
    let s = d.small in
    record { parts = p ∙ sym (append_assoc (to_be_bytes w16 (length b)) b rest); small = let c = f.count in omega (arith, c, s) }

pub text_again : (b rest : List ℕ) → length b < 65536 → text_at ((to_be_bytes w16 (length b) ++ b) ++ rest) ≡ Ok (b, rest)
text_again b rest h =
    ap text_at (append_assoc (to_be_bytes w16 (length b)) b rest) ∙ ap (λ r. r >>= λ n. taken n.0 n.1) (number_again w16 wide16 (length b) (b ++ rest) h) ∙ taken_again (length b) b rest refl
