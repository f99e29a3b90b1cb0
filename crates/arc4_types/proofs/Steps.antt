-- Steps that read, one after the other.
use Rattle.std.proofs.Common.{◌≡◌, ◌∙◌, ℕ, zero, suc, ◌+◌, ◌<◌, Bool, true, false, cond, List, [], ◌∷◌, ◌++◌, length, get_or, take, drop, Option, Some, None, Result, Ok, Err, refl, sym, ap, subst, arith}
use Rattle.std.specs.Prelude.{option_map, option_and_then}
use Rattle.arc4_types.specs.declared.abi_fault.AbiFault.{AbiFault}
use Rattle.arc4_types.specs.Reading.{◌>>=◌, mapped}

abbrev pub done : {A : Type 0} → A → Result A AbiFault
done x = Ok x

pub ok_is : {A : Type 0} (x y : A) → done x ≡ done y → x ≡ y
ok_is x y e = cc

-- a step that did not fail, and what came behind it
pub record Bound (A B : Type 0) (r : Result A AbiFault) (f : A → Result B AbiFault) (y : B) : Type 0 where
  pub got : A
  pub first : r ≡ Ok got
  pub then : f got ≡ Ok y

pub bind_ok : {A B : Type 0} (r : Result A AbiFault) (f : A → Result B AbiFault) (y : B) → (r >>= f) ≡ Ok y → Bound A B r f y
bind_ok (Ok x) f y e = record { got = x; first = refl; then = e }
bind_ok (Err d) f y e = absurd cc

-- what was made of something that was read
pub record Made (A B : Type 0) (f : A → B) (r : Result (A × List ℕ) AbiFault) (y : B × List ℕ) : Type 0 where
  pub got : A
  pub read : r ≡ Ok (got, y.1)
  pub is : f got ≡ y.0

pub mapped_ok : {A B : Type 0} (f : A → B) (r : Result (A × List ℕ) AbiFault) (y : B × List ℕ) → mapped f r ≡ Ok y → Made A B f r y
mapped_ok {A} {B} f (Ok x) y e =
    let p : (f x.0, x.1) ≡ y = ok_is (f x.0, x.1) y e in
    record { got = x.0; read = ap (λ (t : B × List ℕ). Ok (x.0, t.1)) p; is = ap (λ (t : B × List ℕ). t.0) p }
mapped_ok f (Err d) y e = absurd cc

pub if_err : {A : Type 0} (b : Bool) (d : AbiFault) (r : Result A AbiFault) (y : A) → cond b (Err d) r ≡ Ok y → (b ≡ false) × (r ≡ Ok y)
if_err true d r y e = absurd cc
if_err false d r y e = (refl, e)

pub else_err : {A : Type 0} (b : Bool) (d : AbiFault) (r : Result A AbiFault) (y : A) → cond b r (Err d) ≡ Ok y → (b ≡ true) × (r ≡ Ok y)
else_err true d r y e = (refl, e)
else_err false d r y e = absurd cc

-- the same for answers that may be none
pub record Chained (A B : Type 0) (o : Option A) (f : A → Option B) (y : B) : Type 0 where
  pub got : A
  pub first : o ≡ Some got
  pub then : f got ≡ Some y

pub then_some : {A B : Type 0} (o : Option A) (f : A → Option B) (y : B) → option_and_then f o ≡ Some y → Chained A B o f y
then_some None f y e = absurd cc
then_some (Some x) f y e = record { got = x; first = refl; then = e }

pub record Mapped (A B : Type 0) (o : Option A) (f : A → B) (y : B) : Type 0 where
  pub got : A
  pub first : o ≡ Some got
  pub is : f got ≡ y

pub map_some : {A B : Type 0} (o : Option A) (f : A → B) (y : B) → option_map f o ≡ Some y → Mapped A B o f y
map_some None f y e = absurd cc
map_some (Some x) f y e = record { got = x; first = refl; is = cc }

pub if_some : {A : Type 0} (b : Bool) (o : Option A) (y : A) → cond b o None ≡ Some y → (b ≡ true) × (o ≡ Some y)
if_some true o y e = (refl, e)
if_some false o y e = absurd cc

-- bytes are below 256
abbrev pub IsBytes : List ℕ → Type 0
IsBytes bs = (i : ℕ) → get_or bs i 0 < 256

pub bytes_behind : (b rest : List ℕ) → IsBytes (b ++ rest) → IsBytes rest
bytes_behind [] rest h = h
bytes_behind (x ∷ b) rest h = bytes_behind b rest (λ i. h (suc i))

pub bytes_in_front : (b rest : List ℕ) → IsBytes (b ++ rest) → IsBytes b
bytes_in_front [] rest h i = omega arith
bytes_in_front (x ∷ b) rest h zero = h 0
bytes_in_front (x ∷ b) rest h (suc i) = bytes_in_front b rest (λ k. h (suc k)) i
