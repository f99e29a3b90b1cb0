-- A quoted text, byte by byte.
use Rattle.std.proofs.Common.{◌≡◌, ℕ, suc, ◌+◌, ◌-◌, ◌<◌, Bool, true, false, List, [], ◌∷◌, ◌++◌, length, drop, get_or, Option, Some, None, refl, arith, ap, sym, ◌∙◌, drop-cons, append_assoc, length-drop, ◌≢◌}
use Rattle.std.proofs.lemmas.Bool.{eqb-true, ne_eqb}
use Rattle.std.proofs.lemmas.List.{drop-drop}
use Rattle.std.specs.Prelude.{◌==◌, if◌then◌else◌, option_map}
use Rattle.hex.specs.Hex.{hex_digit_value}
use Rattle.teal_line.specs.Operands.{unquoted, escaped, hex_escaped, ended, byte_then, escaped_byte, pair_value, behind_bytes, escape_at, byte_at}

-- what stands behind a byte that was read so
abbrev rest_by : List ℕ → Option (ℕ × ℕ) → Option (List ℕ)
rest_by bs None = None
rest_by bs (Some p) = byte_then (Some p.1) (unquoted (drop p.0 bs))

by_escape : (o : Option ℕ) (bs cs : List ℕ) (n : ℕ) → drop n bs ≡ cs → byte_then o (unquoted cs) ≡ rest_by bs (behind_bytes n o)
by_escape None bs cs n e = refl
by_escape (Some b) bs cs n e = ap (λ r. byte_then (Some b) (unquoted r)) (sym e)

at_escape : (bs : List ℕ) → escaped bs ≡ rest_by (92 ∷ bs) (escape_at bs)
at_escape [] = refl
at_escape (b ∷ []) = by (b == 120)
  where
    by : (t : Bool) → (if t then hex_escaped [] else byte_then (escaped_byte b) (unquoted [])) ≡ rest_by (92 ∷ b ∷ []) (if t then None else behind_bytes 2 (escaped_byte b))
    by true = refl
    by false = by_escape (escaped_byte b) (92 ∷ b ∷ []) [] 2 refl
at_escape (b ∷ h ∷ []) = by (b == 120)
  where
    by : (t : Bool) → (if t then hex_escaped (h ∷ []) else byte_then (escaped_byte b) (unquoted (h ∷ []))) ≡ rest_by (92 ∷ b ∷ h ∷ []) (if t then None else behind_bytes 2 (escaped_byte b))
    by true = refl
    by false = by_escape (escaped_byte b) (92 ∷ b ∷ h ∷ []) (h ∷ []) 2 refl
at_escape (b ∷ h ∷ l ∷ bs) = by (b == 120)
  where
    by : (t : Bool) → (if t then hex_escaped (h ∷ l ∷ bs) else byte_then (escaped_byte b) (unquoted (h ∷ l ∷ bs)))
        ≡ rest_by (92 ∷ b ∷ h ∷ l ∷ bs) (if t then behind_bytes 4 (pair_value (hex_digit_value h) (hex_digit_value l)) else behind_bytes 2 (escaped_byte b))
    by true = by_escape (pair_value (hex_digit_value h) (hex_digit_value l)) (92 ∷ b ∷ h ∷ l ∷ bs) bs 4 refl
    by false = by_escape (escaped_byte b) (92 ∷ b ∷ h ∷ l ∷ bs) (h ∷ l ∷ bs) 2 refl

-- a byte that is no closing quote
pub no_quote : (b : ℕ) (bs : List ℕ) → (b == 34) ≡ false → unquoted (b ∷ bs) ≡ rest_by (b ∷ bs) (byte_at (b ∷ bs))
no_quote b bs h = by (b == 92) refl
  where
    by : (t : Bool) → (b == 92) ≡ t → (if b == 34 then ended bs else if t then escaped bs else byte_then (Some b) (unquoted bs)) ≡ rest_by (b ∷ bs) (if t then escape_at bs else Some (1, b))
    by false g = rw h refl
    by true g =
        let same : 92 ≡ b = sym (eqb-true b 92 g) in
        rw h (at_escape bs ∙ ap (λ (x : ℕ). rest_by (x ∷ bs) (escape_at bs)) same)

no_quote_at : (text : List ℕ) (at : ℕ) → at < length text → get_or text at 0 ≢ 34 → unquoted (drop at text) ≡ rest_by (drop at text) (byte_at (drop at text))
no_quote_at text at h other =
    let d : drop at text ≡ get_or text at 0 ∷ drop (suc at) text = drop-cons text at 0 h in
    rw d (no_quote (get_or text at 0) (drop (suc at) text) (ne_eqb (get_or text at 0) 34 other))

joined : (bytes : List ℕ) (b : ℕ) (o : Option (List ℕ)) → option_map (λ rest. bytes ++ rest) (byte_then (Some b) o) ≡ option_map (λ rest. (bytes ++ b ∷ []) ++ rest) o
joined bytes b None = refl
joined bytes b (Some rest) = ap Some (sym (append_assoc bytes (b ∷ []) rest))

-- one more byte
pub quoted_more : (bytes text : List ℕ) (at count b : ℕ) → at < length text → get_or text at 0 ≢ 34 → byte_at (drop at text) ≡ Some (count, b)
    → option_map (λ rest. (bytes ++ b ∷ []) ++ rest) (unquoted (drop (at + count) text)) ≡ option_map (λ rest. bytes ++ rest) (unquoted (drop at text))
quoted_more bytes text at count b h other is =
    sym (joined bytes b (unquoted (drop (at + count) text)))
    ∙ ap (λ r. option_map (λ rest. bytes ++ rest) (byte_then (Some b) (unquoted r))) (sym (drop-drop count at text))
    ∙ ap (λ o. option_map (λ rest. bytes ++ rest) (rest_by (drop at text) o)) (sym is)
    ∙ ap (option_map (λ rest. bytes ++ rest)) (sym (no_quote_at text at h other))

-- no byte there
pub quoted_stop : (bytes text : List ℕ) (at : ℕ) → at < length text → get_or text at 0 ≢ 34 → byte_at (drop at text) ≡ None
    → option_map (λ rest. bytes ++ rest) (unquoted (drop at text)) ≡ None
quoted_stop bytes text at h other is =
    ap (option_map (λ rest. bytes ++ rest)) (no_quote_at text at h other ∙ ap (rest_by (drop at text)) is)

ended_not : (bs : List ℕ) → 0 < length bs → ended bs ≡ None
ended_not [] h = absurd (omega arith)
ended_not (b ∷ bs) h = refl

-- something stands behind the closing quote
pub quoted_glued : (bytes text : List ℕ) (at : ℕ) → at < length text → get_or text at 0 ≡ 34 → at + 1 ≢ length text
    → option_map (λ rest. bytes ++ rest) (unquoted (drop at text)) ≡ None
quoted_glued bytes text at h quote more =
    let d : drop at text ≡ get_or text at 0 ∷ drop (suc at) text = drop-cons text at 0 h in
    let l : length (drop (suc at) text) ≡ length text - suc at = length-drop (suc at) text in
    rw (d, quote, ended_not (drop (suc at) text) (omega (arith, l))) refl
