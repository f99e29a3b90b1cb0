-- Bools packed one after the other.
use Rattle.std.proofs.Common.{◌≡◌, ◌∙◌, ℕ, zero, suc, ◌+◌, ◌/◌, ◌<◌, ◌≤◌, Bool, true, false, cond, List, [], ◌∷◌, length, drop, get_or, map, Option, Some, None, refl, sym, ap, subst, arith, drop-cons, add_assoc}
use Rattle.std.specs.Prelude.{option_map}
use Rattle.arc4_types.specs.declared.abi_value.AbiValue.{AbiValue}
use Rattle.arc4_types.specs.Values.{Val, value_of}
use Rattle.arc4_types.specs.Encoding.{packed_from, packed, flags_of, flag_in, with_flag}

-- the bools from a value on, with what was packed before
abbrev pub packed_after : ℕ → ℕ → List AbiValue → Option ℕ
packed_after byte w vs = option_map (λ bs. byte + packed_from w bs) (flags_of (length vs) (map value_of vs))

regroup : (byte w : ℕ) (b : Bool) (o : Option (List Bool)) → option_map (λ bs. byte + packed_from w bs) (option_map (λ bs. b ∷ bs) o) ≡ option_map (λ bs. byte + cond b w 0 + packed_from (w / 2) bs) o
regroup byte w b None = refl
regroup byte w b (Some bs) = ap (λ n. Some n) (sym (add_assoc byte (cond b w 0) (packed_from (w / 2) bs)))

from_value : (vs : List AbiValue) (i : ℕ) (v : AbiValue) → i < length vs → v ≡ get_or vs i v → drop i vs ≡ v ∷ drop (i + 1) vs
from_value vs i v h e =
    let s : suc i ≡ i + 1 = omega arith in
    drop-cons vs i v h ∙ ap (λ u. u ∷ drop (suc i) vs) (sym e) ∙ ap (λ k. v ∷ drop k vs) s

pub packed_more : (vs : List AbiValue) (i byte w more : ℕ) (v : AbiValue) (b : Bool) (t : Option ℕ) → i < length vs → v ≡ get_or vs i v → flag_in (value_of v) ≡ Some b → more ≡ byte + cond b w 0
    → packed_after byte w (drop i vs) ≡ t → packed_after more (w / 2) (drop (i + 1) vs) ≡ t
packed_more vs i byte w more v b t h e f m p =
    let a : packed_after byte w (v ∷ drop (i + 1) vs) ≡ t = subst (λ us. packed_after byte w us ≡ t) (from_value vs i v h e) p in
    let c : option_map (λ bs. byte + packed_from w bs) (with_flag (Some b) (flags_of (length (drop (i + 1) vs)) (map value_of (drop (i + 1) vs)))) ≡ t
    = subst (λ o. option_map (λ bs. byte + packed_from w bs) (with_flag o (flags_of (length (drop (i + 1) vs)) (map value_of (drop (i + 1) vs)))) ≡ t) f a in
    ap (λ n. packed_after n (w / 2) (drop (i + 1) vs)) m ∙ sym (regroup byte w b (flags_of (length (drop (i + 1) vs)) (map value_of (drop (i + 1) vs)))) ∙ c

pub packed_not : (vs : List AbiValue) (i byte w : ℕ) (v : AbiValue) (t : Option ℕ) → i < length vs → v ≡ get_or vs i v → flag_in (value_of v) ≡ None → packed_after byte w (drop i vs) ≡ t → None ≡ t
packed_not vs i byte w v t h e f p =
    let a : packed_after byte w (v ∷ drop (i + 1) vs) ≡ t = subst (λ us. packed_after byte w us ≡ t) (from_value vs i v h e) p in
    subst (λ o. option_map (λ bs. byte + packed_from w bs) (with_flag o (flags_of (length (drop (i + 1) vs)) (map value_of (drop (i + 1) vs)))) ≡ t) f a

past_values : (vs : List AbiValue) (i : ℕ) → length vs ≤ i → drop i vs ≡ []
past_values [] zero h = refl
past_values [] (suc i) h = refl
past_values (v ∷ vs) zero h = absurd (omega arith)
past_values (v ∷ vs) (suc i) h = past_values vs i (omega arith)

pub packed_all : (vs : List AbiValue) (i byte w : ℕ) (t : Option ℕ) → length vs ≤ i → packed_after byte w (drop i vs) ≡ t → Some byte ≡ t
packed_all vs i byte w t h p =
    let a : packed_after byte w [] ≡ t = subst (λ us. packed_after byte w us ≡ t) (past_values vs i h) p in
    let z : byte ≡ byte + 0 = omega arith in
    ap (λ n. Some n) z ∙ a
