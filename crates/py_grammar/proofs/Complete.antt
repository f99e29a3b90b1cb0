-- The parser of a rule takes all that the rule derives.
use Rattle.std.proofs.Common.{◌≡◌, ℕ, zero, suc, ◌+◌, ◌≤◌, Bool, true, false, cond, not, ◌||◌, ◌&&◌, List, [], ◌∷◌, ◌++◌, length, Some, None, refl, sym as flip, ◌∙◌, ap, arith, append_assoc, length-append}
use Rattle.py_grammar.specs.declared.symbol.Sym.{Sym}
use Rattle.py_grammar.specs.declared.symbol.Sym.TheVariants as sym
use Rattle.py_grammar.specs.declared.symbol.Symbol.{Symbol}
use Rattle.py_grammar.specs.Codes.{Code, Value}
use Rattle.py_grammar.specs.Parts.{Part}
use Rattle.py_grammar.specs.Rules.{Rule, part, ◌~◌, ◌∣◌, maybe, many, listed, before, ◌⇒◌, same, has, apart}
use Rattle.py_grammar.specs.Sets.{begins, goes_on, null, first, on, is_plain}
use Rattle.py_grammar.specs.Ahead.{ahead}
use Rattle.py_grammar.specs.Derives.{Derives, DerivesMany, DerivesListed, a_symbol, a_part, in_turn, the_first, the_second, absent, present, repeated, in_a_list, alone, with_more, made_of, none_left, one_more, the_last, last_comma, more_listed}
use Rattle.py_grammar.specs.Parser.{took, stuck, Parser, and_then, ◌>>=◌, pure, ◌<$>◌, peek, expect, either, turns, commas, items, fit_for, parse, parsers}
use Rattle.py_grammar.proofs.Outcomes.{eq_same}
use Rattle.py_grammar.proofs.Sets.{plain, not_null, begun, gone, or_left, or_right, or_true, and_left, and_right, not_true, no_both, has_left, has_right, not_left, not_right, has_within, not_within, not_apart}

-- ---- what a rule derives begins with one of its kinds, or is nothing

pub data Start {A : Code} (r : Rule A) (u : List Symbol) : Type 0 where
  begins_with : 1 ≤ length u → ((i : List Symbol) → has (peek (u ++ i)) (first r) ≡ true) → Start r u
  nothing : u ≡ [] → null r ≡ true → Start r u

abbrev peek_split : (u v i : List Symbol) (ks : List Sym) → has (peek (u ++ (v ++ i))) ks ≡ true → has (peek ((u ++ v) ++ i)) ks ≡ true
peek_split u v i ks e = ap (λ l. has (peek l) ks) (append_assoc u v i) ∙ e

start_pair : {A B : Code} (r : Rule A) (s : Rule B) (u v : List Symbol) → Start r u → Start s v → Start (r ~ s) (u ++ v)
start_pair r s u v (begins_with l f) b = begins_with (omega (arith, length-append u v)) (λ i. peek_split u v i (first r ++ cond (null r) (first s) []) (has_left (peek (u ++ (v ++ i))) (first r) (cond (null r) (first s) []) (f (v ++ i))))
start_pair r s u v (nothing eu nr) (begins_with l g) =
    begins_with (omega (arith, length-append u v)) (λ i. ap (λ w. has (peek ((w ++ v) ++ i)) (first r ++ cond (null r) (first s) [])) eu
    ∙ ap (λ b. has (peek (v ++ i)) (first r ++ cond b (first s) [])) nr ∙ has_right (peek (v ++ i)) (first r) (first s) (g i))
start_pair r s u v (nothing eu nr) (nothing ev ns) = nothing (ap (λ w. w ++ v) eu ∙ ev) (ap (λ b. b && null s) nr ∙ ns)

start_sure : {A : Code} (r : Rule A) (u : List Symbol) → null r ≡ false → Start r u → (1 ≤ length u) × ((i : List Symbol) → has (peek (u ++ i)) (first r) ≡ true)
start_sure r u n (begins_with l f) = (l, f)
start_sure r u n (nothing eu nr) = absurd (no_both (null r) nr n)

start_left : {A : Code} (r s : Rule A) (u : List Symbol) → Start r u → Start (r ∣ s) u
start_left r s u (begins_with l f) = begins_with l (λ i. has_left (peek (u ++ i)) (first r) (first s) (f i))
start_left r s u (nothing eu nr) = nothing eu (ap (λ b. b || null s) nr)

start_right : {A : Code} (r s : Rule A) (u : List Symbol) → Start s u → Start (r ∣ s) u
start_right r s u (begins_with l f) = begins_with l (λ i. has_right (peek (u ++ i)) (first r) (first s) (f i))
start_right r s u (nothing eu ns) = nothing eu (or_true (null r) (null s) ns)

start_maybe : {A : Code} (r : Rule A) (u : List Symbol) → Start r u → Start (maybe r) u
start_maybe r u (begins_with l f) = begins_with l f
start_maybe r u (nothing eu nr) = nothing eu refl

start_made : {A B : Code} (r : Rule A) (f : Value A → Value B) (u : List Symbol) → Start r u → Start (r ⇒ f) u
start_made r f u (begins_with l g) = begins_with l g
start_made r f u (nothing eu nr) = nothing eu nr

start_part : (m : Part) (u : List Symbol) → Start (ahead m) u → Start (part m) u
start_part m u (begins_with l f) = begins_with l (λ i. has_within (peek (u ++ i)) (first (ahead m)) (begins m) (begun m) (f i))
start_part m u (nothing eu nr) = absurd (no_both (null (ahead m)) nr (not_null m))

start_alone : {A B : Code} (fit : Value A → Bool) (r : Rule A) (k : Sym) (s : Rule B) (u : List Symbol) → Start r u → Start (before fit r k s) u
start_alone fit r k s u (begins_with l f) = begins_with l f
start_alone fit r k s u (nothing eu nr) = nothing eu nr

more_symbols : {A : Code} (r : Rule A) (u v : List Symbol) → (1 ≤ length u) × ((i : List Symbol) → has (peek (u ++ i)) (first r) ≡ true) → (1 ≤ length (u ++ v)) × ((i : List Symbol) → has (peek ((u ++ v) ++ i)) (first r) ≡ true)
more_symbols r u v b = (omega (arith, length-append u v, b.0), λ i. peek_split u v i (first r) (b.1 (v ++ i)))

-- ---- what a plain rule is made of

module _ {A B : Code} (r : Rule A) (s : Rule B) where
  pub plain_pair : is_plain (r ~ s) ≡ true → (apart (on r) (first s) ≡ true) × (is_plain r ≡ true) × (is_plain s ≡ true)
  plain_pair e = let b = and_right (apart (on r) (first s)) (is_plain r && is_plain s) e in (and_left (apart (on r) (first s)) (is_plain r && is_plain s) e, and_left (is_plain r) (is_plain s) b, and_right (is_plain r) (is_plain s) b)

  pub plain_before : (fit : Value A → Bool) (k : Sym) → is_plain (before fit r k s) ≡ true → (has k (on r) ≡ false) × (null r ≡ false) × (is_plain r ≡ true) × (is_plain s ≡ true)
  plain_before fit k e =
      let b = and_right (not (has k (on r))) (not (null r) && (is_plain r && is_plain s)) e in
      let c = and_right (not (null r)) (is_plain r && is_plain s) b in
      (not_true (has k (on r)) (and_left (not (has k (on r))) (not (null r) && (is_plain r && is_plain s)) e), not_true (null r) (and_left (not (null r)) (is_plain r && is_plain s) b), and_left (is_plain r) (is_plain s) c, and_right (is_plain r) (is_plain s) c)

module _ {A : Code} (r s : Rule A) where
  pub plain_either : is_plain (r ∣ s) ≡ true → (apart (first r) (first s) ≡ true) × (null r ≡ false) × (null s ≡ false) × (is_plain r ≡ true) × (is_plain s ≡ true)
  plain_either e =
      let b = and_right (apart (first r) (first s)) (not (null r) && (not (null s) && (is_plain r && is_plain s))) e in
      let c = and_right (not (null r)) (not (null s) && (is_plain r && is_plain s)) b in
      let d = and_right (not (null s)) (is_plain r && is_plain s) c in
      (and_left (apart (first r) (first s)) (not (null r) && (not (null s) && (is_plain r && is_plain s))) e, not_true (null r) (and_left (not (null r)) (not (null s) && (is_plain r && is_plain s)) b), not_true (null s) (and_left (not (null s)) (is_plain r && is_plain s) c), and_left (is_plain r) (is_plain s) d, and_right (is_plain r) (is_plain s) d)

module _ {A : Code} (r : Rule A) where
  pub plain_maybe : is_plain (maybe r) ≡ true → (null r ≡ false) × (is_plain r ≡ true)
  plain_maybe e = (not_true (null r) (and_left (not (null r)) (is_plain r) e), and_right (not (null r)) (is_plain r) e)

  pub plain_many : is_plain (many r) ≡ true → (apart (on r) (first r) ≡ true) × (null r ≡ false) × (is_plain r ≡ true)
  plain_many e =
      let b = and_right (apart (on r) (first r)) (not (null r) && is_plain r) e in
      (and_left (apart (on r) (first r)) (not (null r) && is_plain r) e, not_true (null r) (and_left (not (null r)) (is_plain r) b), and_right (not (null r)) (is_plain r) b)

  pub plain_listed : is_plain (listed r) ≡ true → (has sym.Comma (on r) ≡ false) × (null r ≡ false) × (is_plain r ≡ true)
  plain_listed e =
      let b = and_right (not (has sym.Comma (on r))) (not (null r) && is_plain r) e in
      (not_true (has sym.Comma (on r)) (and_left (not (has sym.Comma (on r))) (not (null r) && is_plain r) e), not_true (null r) (and_left (not (null r)) (is_plain r) b), and_right (not (null r)) (is_plain r) b)

-- ---- starts of derivations

start : {A : Code} {r : Rule A} {x : Value A} {u : List Symbol} → Derives ahead A r x u → is_plain r ≡ true → Start r u
start (a_symbol t k e) p = begins_with (omega arith) (λ i. ap (λ b. b || false) (eq_same t.sym k e))
start (a_part m x u d) p = start_part m u (start d (plain m))
start (in_turn r s x y u v d d') p = let b = plain_pair r s p in start_pair r s u v (start d b.1) (start d' b.2)
start (the_first r s x u d) p = start_left r s u (start d (plain_either r s p).3)
start (the_second r s x u d) p = start_right r s u (start d (plain_either r s p).4)
start (absent r) p = nothing refl refl
start (present r x u d) p = start_maybe r u (start d (plain_maybe r p).1)
start (repeated r _ _ (none_left _)) p = nothing refl refl
start (repeated r _ _ (one_more _ x xs u v d ds)) p = let b = plain_many r p in let c = more_symbols r u v (start_sure r u b.1 (start d b.2)) in begins_with c.0 c.1
start (in_a_list r _ _ _ (the_last _ x u d)) p = let b = plain_listed r p in let c = start_sure r u b.1 (start d b.2) in begins_with c.0 c.1
start (in_a_list r _ _ _ (last_comma _ x u t d e)) p = let b = plain_listed r p in let c = more_symbols r u (t ∷ []) (start_sure r u b.1 (start d b.2)) in begins_with c.0 c.1
start (in_a_list r _ _ _ (more_listed _ x xs c u v t d e ds)) p = let b = plain_listed r p in let c = more_symbols r u (t ∷ v) (start_sure r u b.1 (start d b.2)) in begins_with c.0 c.1
start (alone fit r k s x u d) p = start_alone fit r k s u (start d (plain_before r s fit k p).2)
start (with_more fit r k s x y t u v d f e d') p = let b = plain_before r s fit k p in let c = more_symbols r u (t ∷ v) (start_sure r u b.1 (start d b.2)) in begins_with c.0 c.1
start (made_of r f x u d) p = start_made r f u (start d p)

-- ---- how deep a derivation is

mutual
  pub height : {A : Code} {r : Rule A} {x : Value A} {u : List Symbol} → Derives ahead A r x u → ℕ
  height (a_symbol t k e) = 0
  height (a_part m x u d) = suc (height d)
  height (in_turn r s x y u v d d') = height d + height d'
  height (the_first r s x u d) = height d
  height (the_second r s x u d) = height d
  height (absent r) = 0
  height (present r x u d) = height d
  height (repeated r xs u ds) = height_many ds
  height (in_a_list r xs c u ds) = height_listed ds
  height (alone fit r k s x u d) = height d
  height (with_more fit r k s x y t u v d f e d') = height d + height d'
  height (made_of r f x u d) = height d

  height_many : {A : Code} {r : Rule A} {xs : List (Value A)} {u : List Symbol} → DerivesMany ahead A r xs u → ℕ
  height_many (none_left r) = 1
  height_many (one_more r x xs u v d ds) = suc (height d + height_many ds)

  height_listed : {A : Code} {r : Rule A} {xs : List (Value A)} {c : Bool} {u : List Symbol} → DerivesListed ahead A r xs c u → ℕ
  height_listed (the_last r x u d) = suc (height d)
  height_listed (last_comma r x u t d e) = suc (height d)
  height_listed (more_listed r x xs c u v t d e ds) = suc (height d + height_listed ds)

-- ---- what follows

follows : {B : Code} (s : Rule B) (ks : List Sym) (v i : List Symbol) → Start s v → apart ks (first s) ≡ true → has (peek i) (on s ++ cond (null s) ks []) ≡ false → has (peek (v ++ i)) ks ≡ false
follows s ks v i (begins_with l g) a h = not_apart (peek (v ++ i)) ks (first s) a (g i)
follows s ks v i (nothing ev ns) a h = ap (λ w. has (peek (w ++ i)) ks) ev ∙ not_right (peek i) (on s) ks (flip (ap (λ b. has (peek i) (on s ++ cond b ks [])) ns) ∙ h)

not_fit : (b : Bool) (s k : Sym) → same s k ≡ false → has s (fit_for b k) ≡ false
not_fit true s k e = ap (λ b. b || false) e
not_fit false s k e = refl

is_fit : (b : Bool) (s k : Sym) → b ≡ true → s ≡ k → has s (fit_for b k) ≡ true
is_fit true s k e h = ap (λ b. b || false) (eq_same s k h)
is_fit false s k e h = absurd cc

expected : (k : Sym) (t : Symbol) (i : List Symbol) → t.sym ≡ k → expect k (t ∷ i) ≡ took t i
expected k t i e = ap (λ b. cond b (took t i) (stuck (t ∷ i))) (eq_same t.sym k e)

chosen_first : {A : Type 0} (ks : List Sym) (p q : Parser A) (i : List Symbol) → has (peek i) ks ≡ true → either ks p q i ≡ p i
chosen_first ks p q i e = ap (λ b. cond b (p i) (q i)) e

chosen_second : {A : Type 0} (ks : List Sym) (p q : Parser A) (i : List Symbol) → has (peek i) ks ≡ false → either ks p q i ≡ q i
chosen_second ks p q i e = ap (λ b. cond b (p i) (q i)) e

a_comma : (t : Symbol) → t.sym ≡ sym.Comma → has t.sym commas ≡ true
a_comma t e = ap (λ b. b || false) (eq_same t.sym sym.Comma e)

no_comma : (s : Sym) (ks : List Sym) → has s (sym.Comma ∷ ks) ≡ false → has s commas ≡ false
no_comma s ks e = ap (λ b. b || false) (or_left (same s sym.Comma) (has s ks) e)

kind_not : (t : Symbol) (k : Sym) (ks : List Sym) → t.sym ≡ k → has k ks ≡ false → has t.sym ks ≡ false
kind_not t k ks e h = ap (λ s. has s ks) e ∙ h

many_follows : {A : Code} {r : Rule A} {xs : List (Value A)} {v : List Symbol} → DerivesMany ahead A r xs v → is_plain (many r) ≡ true → (i : List Symbol) → has (peek i) (first r ++ on r) ≡ false → has (peek (v ++ i)) (on r) ≡ false
many_follows (none_left r) p i h = not_right (peek i) (first r) (on r) h
many_follows (one_more r x xs u v d ds) p i h =
    let b = plain_many r p in
    let c = more_symbols r u v (start_sure r u b.1 (start d b.2)) in
    not_apart (peek ((u ++ v) ++ i)) (on r) (first r) b.0 (c.1 i)

listed_starts : {A : Code} {r : Rule A} {xs : List (Value A)} {c : Bool} {v : List Symbol} → DerivesListed ahead A r xs c v → is_plain (listed r) ≡ true → (i : List Symbol) → has (peek (v ++ i)) (first r) ≡ true
listed_starts (the_last r x u d) p i = let b = plain_listed r p in (start_sure r u b.1 (start d b.2)).1 i
listed_starts (last_comma r x u t d e) p i = let b = plain_listed r p in (more_symbols r u (t ∷ []) (start_sure r u b.1 (start d b.2))).1 i
listed_starts (more_listed r x xs c u v t d e ds) p i = let b = plain_listed r p in (more_symbols r u (t ∷ v) (start_sure r u b.1 (start d b.2))).1 i

-- ---- all that is derived is taken

mutual
  unfolding parse parsers turns items height height_many height_listed

  pub complete : {A : Code} {r : Rule A} {x : Value A} {u : List Symbol} (d : Derives ahead A r x u) → is_plain r ≡ true → (n : ℕ) → height d ≤ n → (i : List Symbol) → has (peek i) (on r) ≡ false → parse (parsers n) n r (u ++ i) ≡ took x i
  complete (a_symbol t k e) p n le i h = expected k t i e
  complete (a_part m x u d) p zero le i h = absurd (omega arith)
  complete (a_part m x u d) p (suc n) le i h = complete d (plain m) n (omega arith) i (not_within (peek i) (on (ahead m)) (goes_on m) (gone m) h)
  complete (in_turn r s x y u v d d') p n le i h =
      let b = plain_pair r s p in
      let f : has (peek (v ++ i)) (on r) ≡ false = follows s (on r) v i (start d' b.2) b.0 h in
      ap (parse (parsers n) n r >>= (λ x. (λ y. (x, y)) <$> parse (parsers n) n s)) (append_assoc u v i)
      ∙ ap (λ o. and_then o (λ x. (λ y. (x, y)) <$> parse (parsers n) n s)) (complete d b.1 n (omega arith) (v ++ i) f)
      ∙ ap (λ o. and_then o (λ y. pure (x, y))) (complete d' b.2 n (omega arith) i (not_left (peek i) (on s) (cond (null s) (on r) []) h))
  complete (the_first r s x u d) p n le i h =
      let b = plain_either r s p in
      chosen_first (first r) (parse (parsers n) n r) (parse (parsers n) n s) (u ++ i) ((start_sure r u b.1 (start d b.3)).1 i) ∙ complete d b.3 n le i (not_left (peek i) (on r) (on s) h)
  complete (the_second r s x u d) p n le i h =
      let b = plain_either r s p in
      chosen_second (first r) (parse (parsers n) n r) (parse (parsers n) n s) (u ++ i) (not_apart (peek (u ++ i)) (first r) (first s) b.0 ((start_sure s u b.2 (start d b.4)).1 i))
      ∙ complete d b.4 n le i (not_right (peek i) (on r) (on s) h)
  complete (absent r) p n le i h = chosen_second (first r) ((λ x. Some x) <$> parse (parsers n) n r) (pure None) i (not_left (peek i) (first r) (on r) h)
  complete (present r x u d) p n le i h =
      let b = plain_maybe r p in
      chosen_first (first r) ((λ x. Some x) <$> parse (parsers n) n r) (pure None) (u ++ i) ((start_sure r u b.0 (start d b.1)).1 i)
      ∙ ap (λ o. and_then o (λ x. pure (Some x))) (complete d b.1 n le i (not_right (peek i) (first r) (on r) h))
  complete (repeated r xs u ds) p n le i h = complete_many ds p n n le le i h
  complete (in_a_list r xs c u ds) p n le i h = complete_listed ds p n n le le i h
  complete (alone fit r k s x u d) p n le i h =
      let b = plain_before r s fit k p in
      let out : has (peek i) (on r ++ on s) ≡ false = or_right (same (peek i) k) (has (peek i) (on r ++ on s)) h in
      ap (λ o. and_then o (λ x. either (fit_for (fit x) k) (expect k >>= (λ t. (λ y. (x, Some y)) <$> parse (parsers n) n s)) (pure (x, None)))) (complete d b.2 n le i (not_left (peek i) (on r) (on s) out))
      ∙ chosen_second (fit_for (fit x) k) (expect k >>= (λ t. (λ y. (x, Some y)) <$> parse (parsers n) n s)) (pure (x, None)) i (not_fit (fit x) (peek i) k (or_left (same (peek i) k) (has (peek i) (on r ++ on s)) h))
  complete (with_more fit r k s x y t u v d f e d') p n le i h =
      let b = plain_before r s fit k p in
      let out : has (peek i) (on r ++ on s) ≡ false = or_right (same (peek i) k) (has (peek i) (on r ++ on s)) h in
      ap (parse (parsers n) n r >>= (λ x. either (fit_for (fit x) k) (expect k >>= (λ t. (λ y. (x, Some y)) <$> parse (parsers n) n s)) (pure (x, None)))) (append_assoc u (t ∷ v) i)
      ∙ ap (λ o. and_then o (λ x. either (fit_for (fit x) k) (expect k >>= (λ t. (λ y. (x, Some y)) <$> parse (parsers n) n s)) (pure (x, None)))) (complete d b.2 n (omega arith) (t ∷ (v ++ i)) (kind_not t k (on r) e b.0))
      ∙ chosen_first (fit_for (fit x) k) (expect k >>= (λ t. (λ y. (x, Some y)) <$> parse (parsers n) n s)) (pure (x, None)) (t ∷ (v ++ i)) (is_fit (fit x) t.sym k f e)
      ∙ ap (λ o. and_then o (λ t. (λ y. (x, Some y)) <$> parse (parsers n) n s)) (expected k t (v ++ i) e)
      ∙ ap (λ o. and_then o (λ y. pure (x, Some y))) (complete d' b.3 n (omega arith) i (not_right (peek i) (on r) (on s) out))
  complete (made_of r f x u d) p n le i h = ap (λ o. and_then o (λ x. pure (f x))) (complete d p n le i h)

  complete_many : {A : Code} {r : Rule A} {xs : List (Value A)} {u : List Symbol} (ds : DerivesMany ahead A r xs u) → is_plain (many r) ≡ true → (n c : ℕ) → height_many ds ≤ n → height_many ds ≤ c → (i : List Symbol) → has (peek i) (first r ++ on r) ≡ false → turns (first r) (parse (parsers n) n r) c (u ++ i) ≡ took xs i
  complete_many (none_left r) p n zero le lc i h = absurd (omega arith)
  complete_many (none_left r) p n (suc c) le lc i h = chosen_second (first r) (parse (parsers n) n r >>= (λ x. (λ xs. x ∷ xs) <$> turns (first r) (parse (parsers n) n r) c)) (pure []) i (not_left (peek i) (first r) (on r) h)
  complete_many (one_more r x xs u v d ds) p n zero le lc i h = absurd (omega arith)
  complete_many (one_more r x xs u v d ds) p n (suc c) le lc i h =
      let b = plain_many r p in
      chosen_first (first r) (parse (parsers n) n r >>= (λ x. (λ xs. x ∷ xs) <$> turns (first r) (parse (parsers n) n r) c)) (pure []) ((u ++ v) ++ i) ((more_symbols r u v (start_sure r u b.1 (start d b.2))).1 i)
      ∙ ap (parse (parsers n) n r >>= (λ x. (λ xs. x ∷ xs) <$> turns (first r) (parse (parsers n) n r) c)) (append_assoc u v i)
      ∙ ap (λ o. and_then o (λ x. (λ xs. x ∷ xs) <$> turns (first r) (parse (parsers n) n r) c)) (complete d b.2 n (omega arith) (v ++ i) (many_follows ds p i h))
      ∙ ap (λ o. and_then o (λ xs. pure (x ∷ xs))) (complete_many ds p n c (omega arith) (omega arith) i h)

  complete_listed : {A : Code} {r : Rule A} {xs : List (Value A)} {c : Bool} {u : List Symbol} (ds : DerivesListed ahead A r xs c u) → is_plain (listed r) ≡ true → (n j : ℕ) → height_listed ds ≤ n → height_listed ds ≤ j → (i : List Symbol) → has (peek i) (sym.Comma ∷ first r ++ on r) ≡ false → items (first r) (parse (parsers n) n r) j (u ++ i) ≡ took (xs, c) i
  complete_listed (the_last r x u d) p n zero le lj i h = absurd (omega arith)
  complete_listed (the_last r x u d) p n (suc j) le lj i h =
      let b = plain_listed r p in
      let q : Parser _ = parse (parsers n) n r in
      let out : has (peek i) (first r ++ on r) ≡ false = or_right (same (peek i) sym.Comma) (has (peek i) (first r ++ on r)) h in
      ap (λ o. and_then o (λ x. either commas (expect sym.Comma >>= (λ t. either (first r) ((λ l. (x ∷ l.0, l.1)) <$> items (first r) q j) (pure (x ∷ [], true)))) (pure (x ∷ [], false)))) (complete d b.2 n (omega arith) i (not_right (peek i) (first r) (on r) out))
      ∙ chosen_second commas (expect sym.Comma >>= (λ t. either (first r) ((λ l. (x ∷ l.0, l.1)) <$> items (first r) q j) (pure (x ∷ [], true)))) (pure (x ∷ [], false)) i (no_comma (peek i) (first r ++ on r) h)
  complete_listed (last_comma r x u t d e) p n zero le lj i h = absurd (omega arith)
  complete_listed (last_comma r x u t d e) p n (suc j) le lj i h =
      let b = plain_listed r p in
      let q : Parser _ = parse (parsers n) n r in
      let out : has (peek i) (first r ++ on r) ≡ false = or_right (same (peek i) sym.Comma) (has (peek i) (first r ++ on r)) h in
      ap (q >>= (λ x. either commas (expect sym.Comma >>= (λ t. either (first r) ((λ l. (x ∷ l.0, l.1)) <$> items (first r) q j) (pure (x ∷ [], true)))) (pure (x ∷ [], false)))) (append_assoc u (t ∷ []) i)
      ∙ ap (λ o. and_then o (λ x. either commas (expect sym.Comma >>= (λ t. either (first r) ((λ l. (x ∷ l.0, l.1)) <$> items (first r) q j) (pure (x ∷ [], true)))) (pure (x ∷ [], false)))) (complete d b.2 n (omega arith) (t ∷ i) (kind_not t sym.Comma (on r) e b.0))
      ∙ chosen_first commas (expect sym.Comma >>= (λ t. either (first r) ((λ l. (x ∷ l.0, l.1)) <$> items (first r) q j) (pure (x ∷ [], true)))) (pure (x ∷ [], false)) (t ∷ i) (a_comma t e)
      ∙ ap (λ o. and_then o (λ t. either (first r) ((λ l. (x ∷ l.0, l.1)) <$> items (first r) q j) (pure (x ∷ [], true)))) (expected sym.Comma t i e)
      ∙ chosen_second (first r) ((λ l. (x ∷ l.0, l.1)) <$> items (first r) q j) (pure (x ∷ [], true)) i (not_left (peek i) (first r) (on r) out)
  complete_listed (more_listed r x xs c u v t d e ds) p n zero le lj i h = absurd (omega arith)
  complete_listed (more_listed r x xs c u v t d e ds) p n (suc j) le lj i h =
      let b = plain_listed r p in
      let q : Parser _ = parse (parsers n) n r in
      ap (q >>= (λ x. either commas (expect sym.Comma >>= (λ t. either (first r) ((λ l. (x ∷ l.0, l.1)) <$> items (first r) q j) (pure (x ∷ [], true)))) (pure (x ∷ [], false)))) (append_assoc u (t ∷ v) i)
      ∙ ap (λ o. and_then o (λ x. either commas (expect sym.Comma >>= (λ t. either (first r) ((λ l. (x ∷ l.0, l.1)) <$> items (first r) q j) (pure (x ∷ [], true)))) (pure (x ∷ [], false)))) (complete d b.2 n (omega arith) (t ∷ (v ++ i)) (kind_not t sym.Comma (on r) e b.0))
      ∙ chosen_first commas (expect sym.Comma >>= (λ t. either (first r) ((λ l. (x ∷ l.0, l.1)) <$> items (first r) q j) (pure (x ∷ [], true)))) (pure (x ∷ [], false)) (t ∷ (v ++ i)) (a_comma t e)
      ∙ ap (λ o. and_then o (λ t. either (first r) ((λ l. (x ∷ l.0, l.1)) <$> items (first r) q j) (pure (x ∷ [], true)))) (expected sym.Comma t (v ++ i) e)
      ∙ chosen_first (first r) ((λ l. (x ∷ l.0, l.1)) <$> items (first r) q j) (pure (x ∷ [], true)) (v ++ i) (listed_starts ds p i)
      ∙ ap (λ o. and_then o (λ l. pure (x ∷ l.0, l.1))) (complete_listed ds p n j (omega arith) (omega arith) i h)
