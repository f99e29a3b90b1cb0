-- Steps over a literal's text.
use Rattle.std.proofs.Common.{◌≡◌, ℕ, zero, suc, ◌+◌, ◌-◌, ◌≤◌, Bool, false, List, [], ◌∷◌, ◌++◌, length, drop, Option, Some, None, refl, ◌∙◌, ap, arith}
use Rattle.py_lexer.specs.Literals.{one_more, character_at, character_len, character_bytes, flaw_from, read_from}
use Rattle.py_lexer.specs.declared.literals.Character.{Character}

-- a length, counted from so many bytes further ahead
abbrev pub ahead : ℕ → Option ℕ → Option ℕ
ahead n None = None
ahead n (Some m) = Some (n + m)

pub ahead_none : (o : Option ℕ) → ahead 0 o ≡ o
ahead_none None = refl
ahead_none (Some m) = ap Some (omega arith)

pub ahead_more : (n : ℕ) (o : Option ℕ) → ahead n (one_more o) ≡ ahead (n + 1) o
ahead_more n None = refl
ahead_more n (Some m) = ap Some (omega arith)

flaw_skips : (bytes : Bool) (left : ℕ) (z : List ℕ) → left ≤ length z → flaw_from bytes left z ≡ left + flaw_from bytes 0 (drop left z)
flaw_skips bytes zero z h = omega arith
flaw_skips bytes (suc left) [] h = absurd (omega arith)
flaw_skips bytes (suc left) (b ∷ z) h = let e = flaw_skips bytes left z (omega arith) in omega arith

read_skips : (bytes : Bool) (left : ℕ) (z : List ℕ) → read_from bytes left z ≡ read_from bytes 0 (drop left z)
read_skips bytes zero z = refl
read_skips bytes (suc left) [] = refl
read_skips bytes (suc left) (b ∷ z) = read_skips bytes left z

flaw_by : (bytes : Bool) (b : ℕ) (z : List ℕ) (n : ℕ) → 1 ≤ n → n ≤ suc (length z) → suc (flaw_from bytes (n - 1) z) ≡ n + flaw_from bytes 0 (drop n (b ∷ z))
flaw_by bytes b z zero h k = absurd (omega arith)
flaw_by bytes b z (suc m) h k =
    let e : suc m - 1 ≡ m = omega arith in
    let f = flaw_skips bytes m z (omega arith) in
    ap (λ q. suc (flaw_from bytes q z)) e ∙ omega arith

read_by : (bytes : Bool) (b : ℕ) (z : List ℕ) (n : ℕ) → 1 ≤ n → read_from bytes (n - 1) z ≡ read_from bytes 0 (drop n (b ∷ z))
read_by bytes b z zero h = absurd (omega arith)
read_by bytes b z (suc m) h = let e : suc m - 1 ≡ m = omega arith in ap (λ q. read_from bytes q z) e ∙ read_skips bytes m z

-- where a character stands, the flaw stands behind it
pub flaw_on : (bytes : Bool) (z : List ℕ) (u : Character) → character_at bytes z ≡ Some u → 1 ≤ character_len u → character_len u ≤ length z
    → flaw_from bytes 0 z ≡ character_len u + flaw_from bytes 0 (drop (character_len u) z)
flaw_on bytes [] u is h k = absurd (omega arith)
flaw_on bytes (b ∷ z) u is h k = ap (λ o. elim o [ None ↦ 0 | Some v ↦ suc (flaw_from bytes (character_len v - 1) z) ]) is ∙ flaw_by bytes b z (character_len u) h k

-- where a character stands, what is read begins with it
pub read_on : (bytes : Bool) (z : List ℕ) (u : Character) → character_at bytes z ≡ Some u → 1 ≤ character_len u
    → read_from bytes 0 z ≡ (character_bytes u ++ (read_from bytes 0 (drop (character_len u) z)).0, (read_from bytes 0 (drop (character_len u) z)).1)
read_on bytes [] u is h = absurd cc
read_on bytes (b ∷ z) u is h =
    ap (λ o. elim o [ None ↦ ([], false) | Some v ↦ (character_bytes v ++ (read_from bytes (character_len v - 1) z).0, (read_from bytes (character_len v - 1) z).1) ]) is
    ∙ ap (λ r. (character_bytes u ++ r.0, r.1)) (read_by bytes b z (character_len u) h)
