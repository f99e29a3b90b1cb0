-- The bools of a byte one after the other.
use Rattle.std.proofs.Common.{◌≡◌, ◌∙◌, ℕ, zero, suc, ◌+◌, ◌-◌, ◌/◌, ◌<◌, ◌≤◌, Bool, true, false, cond, leb, eqb, List, [], ◌∷◌, ◌++◌, length, map, Result, Ok, Err, refl, sym, ap, subst, arith, append_assoc}
use Rattle.std.proofs.lemmas.List.{append-nil, map-append}
use Rattle.std.proofs.lemmas.Bool.{le-leb, lt-leb, ne_eqb, cases_lt}
use Rattle.std.specs.Prelude.{◌⊎◌}
use Rattle.std.proofs.Common.{inl, inr}
use Rattle.arc4_types.specs.declared.abi_fault.AbiFault.{AbiFault}
use Rattle.arc4_types.specs.declared.abi_fault.AbiFault.TheVariants as fault
use Rattle.arc4_types.specs.declared.entry.Entry.{Entry}
use Rattle.arc4_types.specs.Values.{truth}
use Rattle.arc4_types.specs.Reading.{◌>>=◌, Told, told, flags_told, unpacked}
use Rattle.arc4_types.specs.Views.{all_told, flags_behind, told_of}

behind_first : (front : List Told) (b : Bool) (r : Result (List Bool) AbiFault) → flags_behind front (r >>= λ bs. Ok (b ∷ bs)) ≡ flags_behind (front ++ told (truth b) ∷ []) r
behind_first front b (Ok bs) = ap (λ (ts : List Told). Ok ts) (sym (append_assoc front (told (truth b) ∷ []) (flags_told bs)))
behind_first front b (Err e) = refl

unpack_at : (w k x : ℕ) (b : Bool) → b ≡ leb w x → unpacked w (suc k) x ≡ (unpacked (w / 2) k (cond b (x - w) x) >>= λ bs. Ok (b ∷ bs))
unpack_at w k x true e = rw (← e) refl
unpack_at w k x false e = rw (← e) refl

pub flag_more : (entries more : List Entry) (e : Entry) (w n i x y : ℕ) (b : Bool) (total : Result (List Told) AbiFault) → i < n → told_of e ≡ told (truth b) → b ≡ leb w x → y ≡ cond b (x - w) x → more ≡ entries ++ e ∷ []
    → flags_behind (all_told entries) (unpacked w (n - i) x) ≡ total → flags_behind (all_told more) (unpacked (w / 2) (n - (i + 1)) y) ≡ total
flag_more entries more e w n i x y b total h t f r m p =
    let s : n - i ≡ suc (n - (i + 1)) = omega arith in
    let k = n - (i + 1) in
    let a : all_told more ≡ all_told entries ++ told (truth b) ∷ [] = ap all_told m ∙ map-append told_of entries (e ∷ []) ∙ ap (λ z. all_told entries ++ z ∷ []) t in
    ap (λ z. flags_behind z (unpacked (w / 2) k y)) a ∙ ap (λ z. flags_behind (all_told entries ++ told (truth b) ∷ []) (unpacked (w / 2) k z)) r
    ∙ sym (behind_first (all_told entries) b (unpacked (w / 2) k (cond b (x - w) x))) ∙ ap (flags_behind (all_told entries)) (sym (unpack_at w k x b f)) ∙ ap (λ z. flags_behind (all_told entries) (unpacked w z x)) (sym s) ∙ p

pub flags_done : (entries : List Entry) (w n i : ℕ) (total : Result (List Told) AbiFault) → n ≤ i → flags_behind (all_told entries) (unpacked w (n - i) 0) ≡ total → total ≡ Ok (all_told entries)
flags_done entries w n i total h p =
    let s : n - i ≡ 0 = omega arith in
    sym p ∙ ap (λ z. flags_behind (all_told entries) (unpacked w z 0)) s ∙ ap (λ (ts : List Told). Ok ts) (append-nil (all_told entries))

pub flags_left : (entries : List Entry) (w n i x : ℕ) (total : Result (List Told) AbiFault) → n ≤ i → (x ≡ 0 → ⊥) → flags_behind (all_told entries) (unpacked w (n - i) x) ≡ total → total ≡ Err fault.Bit
flags_left entries w n i x total h z p =
    let s : n - i ≡ 0 = omega arith in
    sym p ∙ ap (λ k. flags_behind (all_told entries) (unpacked w k x)) s ∙ ap (λ b. flags_behind (all_told entries) (cond b (Ok []) (Err fault.Bit))) (ne_eqb x 0 z)

-- a byte that is neither 80 nor 00 is no bool
pub no_flag : (b : ℕ) → (b ≡ 128 → ⊥) → (b ≡ 0 → ⊥) → unpacked 128 1 b ≡ Err fault.Bit
no_flag b h z =
    elim (cases_lt b 128) [
      | inl l ↦ rw (lt-leb 128 b l, ne_eqb b 0 z) refl
      | inr l ↦ rw (le-leb 128 b l, ne_eqb (b - 128) 0 (λ e. h (omega arith))) refl
    ]
