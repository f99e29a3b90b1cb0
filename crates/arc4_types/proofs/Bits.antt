-- A byte of bools is read as those bools, and what is read of a byte is packed into it again.
use Rattle.std.proofs.Common.{◌≡◌, ◌∙◌, ℕ, zero, suc, ◌+◌, ◌-◌, ◌*◌, ◌/◌, ◌^◌, ◌<◌, ◌≤◌, Bool, true, false, cond, leb, eqb, List, [], ◌∷◌, ◌++◌, length, drop, map, Option, Some, None, Result, Ok, Err, refl, sym, ap, subst, arith, inl, inr, ◌⊎◌}
use Rattle.std.proofs.Math.Nat.{pow-succ'}
use Rattle.std.proofs.Math.Pow.{pow_pos}
use Rattle.std.proofs.lemmas.Bool.{le-leb, lt-leb, leb-true, leb-false, eqb-true, cases_Bool}
use Rattle.arc4_types.specs.declared.abi_fault.AbiFault.{AbiFault}
use Rattle.arc4_types.specs.declared.abi_fault.AbiFault.TheVariants as fault
use Rattle.arc4_types.specs.Values.{Val, number, truth, bytes, parts}
use Rattle.arc4_types.specs.Encoding.{packed_from, packed, flags_of, flag_in, with_flag}
use Rattle.arc4_types.specs.Reading.{◌>>=◌, unpacked, octet_at}
use Rattle.arc4_types.proofs.Steps.{bind_ok, ok_is, done, else_err, map_some, IsBytes}

half : (m : ℕ) → 2 ^ suc m / 2 ≡ 2 ^ m
half m = let p : 2 ^ suc m ≡ 2 * 2 ^ m = pow-succ' 2 m in omega (arith, p)

with_bit : (w y limit : ℕ) (b : Bool) → y < w → limit ≡ 2 * w → cond b w 0 + y < limit
with_bit w y limit true h e = omega arith
with_bit w y limit false h e = omega arith

packed_below : (m : ℕ) (bs : List Bool) → length bs ≤ suc m → packed_from (2 ^ m) bs < 2 ^ suc m
packed_below m [] h = pow_pos (suc m)
packed_below zero (b ∷ []) h = with_bit 1 0 2 b (omega arith) refl
packed_below zero (b ∷ c ∷ bs) h = absurd (omega arith)
packed_below (suc m) (b ∷ bs) h =
    let r : packed_from (2 ^ m) bs < 2 ^ suc m = packed_below m bs (omega arith) in
    let s : packed_from (2 ^ suc m / 2) bs < 2 ^ suc m = rw (half m) r in
    with_bit (2 ^ suc m) (packed_from (2 ^ suc m / 2) bs) (2 ^ suc (suc m)) b s (pow-succ' 2 (suc m))

unpack_step : (w y k : ℕ) (b : Bool) (bs : List Bool) → y < w → unpacked (w / 2) k y ≡ Ok bs → unpacked w (suc k) (cond b w 0 + y) ≡ Ok (b ∷ bs)
unpack_step w y k true bs h e =
    let t : leb w (w + y) ≡ true = le-leb w (w + y) (omega arith) in
    let d : w + y - w ≡ y = omega arith in
    rw (t, d, e) refl
unpack_step w y k false bs h e =
    let z : 0 + y ≡ y = omega arith in
    let t : leb w y ≡ false = lt-leb w y h in
    rw (z, t, e) refl

unpack_packed : (m : ℕ) (bs : List Bool) → length bs ≤ suc m → unpacked (2 ^ m) (length bs) (packed_from (2 ^ m) bs) ≡ Ok bs
unpack_packed m [] h = refl
unpack_packed zero (b ∷ []) h = unpack_step 1 0 0 b [] (omega arith) refl
unpack_packed zero (b ∷ c ∷ bs) h = absurd (omega arith)
unpack_packed (suc m) (b ∷ bs) h =
    let l : packed_from (2 ^ suc m / 2) bs < 2 ^ suc m = rw (half m) (packed_below m bs (omega arith)) in
    let r : unpacked (2 ^ suc m / 2) (length bs) (packed_from (2 ^ suc m / 2) bs) ≡ Ok bs = rw (half m) (unpack_packed m bs (omega arith)) in
    unpack_step (2 ^ suc m) (packed_from (2 ^ suc m / 2) bs) (length bs) b bs l r

-- a byte that was read as bools
pub record Packs (w k x : ℕ) (bs : List Bool) : Type 0 where
  pub value : packed_from w bs ≡ x
  pub count : length bs ≡ k

with_first : (w k x : ℕ) (b : Bool) (r : Result (List Bool) AbiFault) (bs : List Bool) → ((cs : List Bool) → r ≡ Ok cs → Packs (w / 2) k (x - cond b w 0) cs) → cond b w 0 ≤ x
    → (r >>= λ cs. Ok (b ∷ cs)) ≡ Ok bs → Packs w (suc k) x bs
with_first w k x b r bs ih le e =
    let t = bind_ok r (λ cs. done (b ∷ cs)) bs e in
    let p = ih t.got t.first in
    let q : b ∷ t.got ≡ bs = ok_is (b ∷ t.got) bs t.then in
    subst (λ (z : List Bool). Packs w (suc k) x z) q (record { value = let v = p.value in omega arith; count = ap suc p.count })

packs_at : (w k x : ℕ) (bs : List Bool) (t : Bool) → leb w x ≡ t
    → ((y : ℕ) (cs : List Bool) → unpacked (w / 2) k y ≡ Ok cs → y < w → Packs (w / 2) k y cs)
    → x < 2 * w
    → cond t (unpacked (w / 2) k (x - w) >>= λ cs. Ok (true ∷ cs)) (unpacked (w / 2) k x >>= λ cs. Ok (false ∷ cs)) ≡ Ok bs → Packs w (suc k) x bs
packs_at w k x bs true e ih h u =
    let l : w ≤ x = leb-true w x e in
    with_first w k x true (unpacked (w / 2) k (x - w)) bs (λ cs q. ih (x - w) cs q (omega arith)) l u
packs_at w k x bs false e ih h u =
    let l : x < w = leb-false w x e in
    let z : x - 0 ≡ x = omega arith in
    with_first w k x false (unpacked (w / 2) k x) bs (λ cs q. rw z (ih x cs q l)) (omega arith) u

packs_none : (w x : ℕ) (bs : List Bool) → unpacked w 0 x ≡ Ok bs → Packs w 0 x bs
packs_none w x bs e =
    let g = else_err (eqb x 0) fault.Bit (done []) bs e in
    let z : x ≡ 0 = eqb-true x 0 g.0 in
    let n : [] ≡ bs = ok_is [] bs g.1 in
    subst (λ (y : List Bool). Packs w 0 x y) n (record { value = sym z; count = refl })

pub packs : (m k x : ℕ) (bs : List Bool) → k ≤ suc m → x < 2 ^ suc m → unpacked (2 ^ m) k x ≡ Ok bs → Packs (2 ^ m) k x bs
packs m zero x bs h l e = packs_none (2 ^ m) x bs e
packs zero (suc zero) x bs h l e =
    packs_at 1 0 x bs (leb 1 x) refl (λ y cs q lt. packs_none (1 / 2) y cs q) l e
packs zero (suc (suc k)) x bs h l e = absurd (omega arith)
packs (suc m) (suc k) x bs h l e =
    let p : 2 ^ suc (suc m) ≡ 2 * 2 ^ suc m = pow-succ' 2 (suc m) in
    packs_at (2 ^ suc m) k x bs (leb (2 ^ suc m) x) refl
    (λ y cs q lt. subst (λ (w : ℕ). Packs w k y cs) (sym (half m)) (packs m k y cs (omega arith) lt (subst (λ (w : ℕ). unpacked w k y ≡ Ok cs) (half m) q)))
    (omega (arith, p)) e

pub octet_again : (bs : List Bool) (rest : List ℕ) → length bs ≤ 8 → octet_at (length bs) (packed bs ∷ rest) ≡ Ok (bs, rest)
octet_again bs rest h = let e : unpacked 128 (length bs) (packed_from 128 bs) ≡ Ok bs = unpack_packed 7 bs h in rw e refl

-- the byte of bools that were read
pub record OctetTaken (k : ℕ) (bs : List ℕ) (flags : List Bool) (rest : List ℕ) : Type 0 where
  pub count : length flags ≡ k
  pub parts : bs ≡ packed flags ∷ rest

pub octet_takes : (k : ℕ) (bs : List ℕ) (flags : List Bool) (rest : List ℕ) → k ≤ 8 → IsBytes bs → octet_at k bs ≡ Ok (flags, rest) → OctetTaken k bs flags rest
octet_takes k [] flags rest h fits e = absurd cc
octet_takes k (b ∷ bs) flags rest h fits e =
    let t = bind_ok (unpacked 128 k b) (λ fs. done (fs, bs)) (flags, rest) e in
    let q : (t.got, bs) ≡ (flags, rest) = ok_is (t.got, bs) (flags, rest) t.then in
    let p : Packs 128 k b t.got = packs 7 k b t.got h (fits 0) t.first in
    subst (λ (y : List Bool × List ℕ). OctetTaken k (b ∷ bs) y.0 y.1) q (record { count = p.count; parts = ap (λ (x : ℕ). x ∷ bs) (sym p.value) })

-- values that are bools
pub record AreFlags (k : ℕ) (vs : List Val) (bs : List Bool) : Type 0 where
  pub count : length bs ≡ k
  pub are : vs ≡ map truth bs ++ drop k vs

with_flag_some : (v : Val) (o : Option (List Bool)) (k : ℕ) (vs : List Val) (bs : List Bool) → ((cs : List Bool) → o ≡ Some cs → AreFlags k vs cs) → with_flag (flag_in v) o ≡ Some bs → AreFlags (suc k) (v ∷ vs) bs
with_flag_some (number n) o k vs bs ih e = absurd cc
with_flag_some (bytes b) o k vs bs ih e = absurd cc
with_flag_some (parts ws) o k vs bs ih e = absurd cc
with_flag_some (truth b) o k vs bs ih e =
    let t = map_some o (λ cs. b ∷ cs) bs e in
    let f = ih t.got t.first in
    subst (λ (z : List Bool). AreFlags (suc k) (truth b ∷ vs) z) t.is (record { count = ap suc f.count; are = ap (λ ws. truth b ∷ ws) f.are })

pub flags_are : (k : ℕ) (vs : List Val) (bs : List Bool) → flags_of k vs ≡ Some bs → AreFlags k vs bs
flags_are zero vs [] e = record { count = refl; are = refl }
flags_are zero vs (b ∷ bs) e = absurd cc
flags_are (suc k) [] bs e = absurd cc
flags_are (suc k) (v ∷ vs) bs e = with_flag_some v (flags_of k vs) k vs bs (λ cs q. flags_are k vs cs q) e

pub flags_of-truths : (bs : List Bool) (vs : List Val) → flags_of (length bs) (map truth bs ++ vs) ≡ Some bs
flags_of-truths [] vs = refl
flags_of-truths (b ∷ bs) vs = rw (flags_of-truths bs vs) refl

pub drop-truths : (bs : List Bool) (vs : List Val) → drop (length bs) (map truth bs ++ vs) ≡ vs
drop-truths [] vs = refl
drop-truths (b ∷ bs) vs = drop-truths bs vs
