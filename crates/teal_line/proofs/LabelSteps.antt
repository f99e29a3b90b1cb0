-- Labels: their bytes, and the colon behind them.
use Rattle.std.proofs.Common.{◌≡◌, ℕ, zero, suc, ◌-◌, ◌<◌, Bool, true, false, List, [], ◌∷◌, length, take, get_or, map, Option, Some, None, refl, arith, ap, sym, ◌∙◌, IsTrue, ◌≢◌}
use Rattle.std.specs.Prelude.{◌==◌, if◌then◌else◌, IsAscii}
use Rattle.std.specs.Str.{IsUtf8}
use Rattle.std.specs.List.{list_all}
use Rattle.std.proofs.lemmas.Bool.Decides.{nat_tests}
use Rattle.std.proofs.lemmas.Bool.{and_parts, eq-eqb, ne_eqb}
use Rattle.std.proofs.lemmas.Str.{IsUtf8-from_ascii}
use Rattle.std.proofs.lemmas.Str.Ascii.{IsAscii-nil, IsAscii-cons}
use Rattle.teal_line.specs.Operands.{is_label_byte, is_some_label}
use Rattle.teal_line.specs.Reading.{before_colon}

label_byte_low : (b : ℕ) → is_label_byte b ≡ true → b < 128
label_byte_low b h = grind (arith, nat_tests)

bytes_ascii : (w : List ℕ) → list_all is_label_byte w ≡ true → IsAscii w
bytes_ascii [] h = IsAscii-nil
bytes_ascii (b ∷ bs) h =
    let p = and_parts (is_label_byte b) (list_all is_label_byte bs) h in
    IsAscii-cons b bs (label_byte_low b p.0) (bytes_ascii bs p.1)

label_bytes : (w : List ℕ) → is_some_label w ≡ true → list_all is_label_byte w ≡ true
label_bytes [] h = refl
label_bytes (b ∷ bs) h = h

-- a label is text
pub label_utf8 : (w : List ℕ) → IsTrue (is_some_label w) → IsUtf8 w
label_utf8 w h = IsUtf8-from_ascii w (bytes_ascii w (label_bytes w h))

-- each of some labels is one
pub label_at : {A : Type 0} (f : A → List ℕ) (xs : List A) (i : ℕ) (d : A) → IsTrue (list_all is_some_label (map f xs)) → i < length xs → IsTrue (is_some_label (f (get_or xs i d)))
label_at f [] i d h l = absurd (omega arith)
label_at f (x ∷ xs) zero d h l = (and_parts (is_some_label (f x)) (list_all is_some_label (map f xs)) h).0
label_at f (x ∷ xs) (suc i) d h l = label_at f xs i d (and_parts (is_some_label (f x)) (list_all is_some_label (map f xs)) h).1 (omega arith)

abbrev with_first : ℕ → Option (List ℕ) → Option (List ℕ)
with_first b o = elim o [ None ↦ None | Some name ↦ Some (b ∷ name) ]

-- the name before a colon goes by the last byte
pub colon_last : (w : List ℕ) → 0 < length w → before_colon w ≡ (if get_or w (length w - 1) 0 == 58 then Some (take (length w - 1) w) else None)
colon_last [] h = absurd (omega arith)
colon_last (b ∷ []) h = refl
colon_last (b ∷ c ∷ bs) h =
    let e : length (b ∷ c ∷ bs) - 1 ≡ suc (length (c ∷ bs) - 1) = omega arith in
    ap (with_first b) (colon_last (c ∷ bs) (omega arith))
    ∙ by (get_or (c ∷ bs) (length (c ∷ bs) - 1) 0 == 58) (take (length (c ∷ bs) - 1) (c ∷ bs))
    ∙ ap (λ k. if get_or (b ∷ c ∷ bs) k 0 == 58 then Some (take k (b ∷ c ∷ bs)) else None) (sym e)
  where
    by : (t : Bool) (name : List ℕ) → with_first b (if t then Some name else None) ≡ (if t then Some (b ∷ name) else None)
    by true name = refl
    by false name = refl

pub colon_is : (w : List ℕ) → 0 < length w → get_or w (length w - 1) 0 ≡ 58 → before_colon w ≡ Some (take (length w - 1) w)
colon_is w h e = let t = eq-eqb (get_or w (length w - 1) 0) 58 e in colon_last w h ∙ rw t refl

pub colon_not : (w : List ℕ) → 0 < length w → get_or w (length w - 1) 0 ≢ 58 → before_colon w ≡ None
colon_not w h e = let t = ne_eqb (get_or w (length w - 1) 0) 58 e in colon_last w h ∙ rw t refl
