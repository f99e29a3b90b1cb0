-- Bytes that pairs of hexadecimal digits write, one behind another.
use Rattle.std.proofs.Common.{◌≡◌, ℕ, ◌≤◌, ◌+◌, ◌-◌, ◌*◌, length, get_or, take, drop, List, [], ◌∷◌, ◌++◌, Option, Some, None, refl, sym, ap, ◌∙◌, append_assoc, arith}
use Rattle.std.proofs.lemmas.List.{take_all}
use Rattle.puya_base.specs.declared.source.Place.{Place}
use Rattle.puya_base.specs.declared.source.Rule.TheVariants as rule
use Rattle.py_lexer.specs.Numbers.{digit_value}
use Rattle.call_rules.specs.declared.arguments.Known.{Known}
use Rattle.call_rules.specs.declared.arguments.Known.TheVariants.{Value as value_at, Literal as literal_at}
use Rattle.meaning_rules.specs.Meanings.{breaks}
use Rattle.call_rules.specs.Calls.{with_pair, hex_bytes, call_hex}
use Rattle.call_rules.specs.Hexes.{pair_of, pair, hex_known}

-- the bytes so far, and those behind them
abbrev pub with_front : List ℕ → Option (List ℕ) → Option (List ℕ)
with_front bs None = None
with_front bs (Some cs) = Some (bs ++ cs)

pairs-some : (x y : Option ℕ) (b : ℕ) (front : List ℕ) (bs : Option (List ℕ)) → pair_of x y ≡ Some b → with_front front (with_pair x y bs) ≡ with_front (front ++ b ∷ []) bs
pairs-some None y b front bs e = cc
pairs-some (Some h) None b front bs e = cc
pairs-some (Some h) (Some l) b front None e = refl
pairs-some (Some h) (Some l) b front (Some bs) e =
    let same : h * 16 + l ≡ b = cc in
    ap (λ c. Some (front ++ c ∷ bs)) same ∙ ap Some (sym (append_assoc front (b ∷ []) bs))

two_and_behind : (xs : List ℕ) → 2 ≤ length xs → xs ≡ get_or xs 0 0 ∷ get_or xs 1 0 ∷ take (length xs - 2) (drop 2 xs)
two_and_behind [] h = absurd (omega arith)
two_and_behind (x ∷ []) h = absurd (omega arith)
two_and_behind (x ∷ y ∷ xs) h = ap (λ z. x ∷ y ∷ z) (sym (take_all (length (x ∷ y ∷ xs) - 2) xs (omega arith)))

-- a pair, and then what is behind it
pub next_pair : (front next rest : List ℕ) (b : ℕ) (whole : Option (List ℕ)) → 2 ≤ length rest → pair (get_or rest 0 0) (get_or rest 1 0) ≡ Some b → next ≡ front ++ b ∷ []
    → with_front front (hex_bytes rest) ≡ whole → with_front next (hex_bytes (take (length rest - 2) (drop 2 rest))) ≡ whole
next_pair front next rest b whole low n f w =
    let more = take (length rest - 2) (drop 2 rest) in
    let h = digit_value (get_or rest 0 0) in
    let l = digit_value (get_or rest 1 0) in
    ap (λ z. with_front z (hex_bytes more)) f ∙ sym (ap (λ r. with_front front (hex_bytes r)) (two_and_behind rest low) ∙ pairs-some h l b front (hex_bytes more) n) ∙ w

pub call_hex-one : (p : Place) (ks : List Known) (k : Known) → ks ≡ k ∷ [] → call_hex p ks ≡ hex_known p k
call_hex-one p ks (value_at i t) e = ap (call_hex p) e
call_hex-one p ks (literal_at i q l) e = ap (call_hex p) e

pub call_hex-at : (p : Place) (ks : List Known) (k : Known) → length ks ≡ 1 → k ≡ get_or ks 0 k → call_hex p ks ≡ hex_known p k
call_hex-at p [] k h e = absurd (omega arith)
call_hex-at p (value_at i t ∷ []) k h e = ap (hex_known p) (sym e)
call_hex-at p (literal_at i q l ∷ []) k h e = ap (hex_known p) (sym e)
call_hex-at p (x ∷ y ∷ ks) k h e = absurd (omega arith)

pub call_hex-other : (p : Place) (ks : List Known) → (length ks ≡ 1 → ⊥) → call_hex p ks ≡ breaks rule.P15 p
call_hex-other p [] n = refl
call_hex-other p (k ∷ []) n = absurd (n refl)
call_hex-other p (value_at i t ∷ m ∷ ks) n = refl
call_hex-other p (literal_at i q l ∷ m ∷ ks) n = refl

pub ruleset called = (call_hex-one, call_hex-at, call_hex-other)
