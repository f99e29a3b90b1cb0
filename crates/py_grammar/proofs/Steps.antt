-- The number of steps suffices.
use Rattle.std.proofs.Common.{◌≡◌, ℕ, zero, suc, ◌+◌, ◌*◌, ◌≤◌, ◌<◌, Bool, true, false, cond, ◌||◌, ◌&&◌, List, [], ◌∷◌, length, Option, Some, None, refl, sym as flip, subst, arith}
use Rattle.py_grammar.specs.declared.symbol.Sym.{Sym}
use Rattle.py_grammar.specs.declared.symbol.Sym.TheVariants as sym
use Rattle.py_grammar.specs.declared.symbol.Symbol.{Symbol}
use Rattle.py_grammar.specs.Codes.{Code, Value}
use Rattle.py_grammar.specs.Parts.{Part}
use Rattle.py_grammar.specs.Rules.{Rule, one, part, ◌~◌, ◌∣◌, maybe, many, listed, before, ◌⇒◌, same, has}
use Rattle.py_grammar.specs.Sets.{null, first, is_plain}
use Rattle.py_grammar.specs.Grammar.{rule}
use Rattle.py_grammar.specs.Ahead.{ahead}
use Rattle.py_grammar.specs.Parser.{Outcome, took, stuck, spent, Parser, and_then, ◌>>=◌, pure, ◌<$>◌, peek, take_symbol, expect, either, turns, commas, items, fit_for, parse, parsers}
use Rattle.py_grammar.proofs.Sets.{plain, not_null, and_left, and_right}
use Rattle.py_grammar.proofs.Complete.{plain_pair, plain_before, plain_either, plain_maybe, plain_many, plain_listed}

-- ---- which parts may follow one another with no symbol between

-- a part begins only with parts of a smaller number
pub rank : Part → ℕ
rank Part.Module = 4
rank Part.Item = 3
rank Part.Member = 3
rank Part.Func = 2
rank Part.Block = 19
rank Part.Stmt = 19
rank Part.Simple = 18
rank Part.Subscript = 18
rank Part.Exprs = 17
rank Part.Argument = 17
rank Part.Expr = 16
rank Part.Or = 15
rank Part.And = 14
rank Part.Not = 13
rank Part.Cmp = 12
rank Part.BitOr = 11
rank Part.BitXor = 10
rank Part.BitAnd = 9
rank Part.Shift = 8
rank Part.Sum = 7
rank Part.Term = 6
rank Part.Unary = 5
rank Part.Power = 4
rank Part.Post = 3
rank Part.TypeArgument = 3
rank _ = 2

pub under : ℕ → ℕ → Bool
under m zero = false
under zero (suc n) = true
under (suc m) (suc n) = under m n

under_less : (m n : ℕ) → under m n ≡ true → m < n
unfolding under
under_less m zero e = absurd cc
under_less zero (suc n) e = omega arith
under_less (suc m) (suc n) e = let h = under_less m n e in omega (arith, h)

-- the rule begins only with parts whose number is below n
abbrev pub low : ℕ → {A : Code} → Rule A → Bool
low n (one k) = true
low n (part m) = under (rank m) n
low n (r ~ s) = low n r && cond (null r) (low n s) true
low n (r ∣ s) = low n r && low n s
low n (maybe r) = low n r
low n (many r) = under 0 n && low n r
low n (listed r) = under 0 n && low n r
low n (before fit r k s) = low n r
low n (r ⇒ f) = low n r

pub low_part : (m : Part) → low (rank m) (ahead m) ≡ true
unfolding rule ahead under rank
low_part Part.Module = refl
low_part _ = refl

small : (m : Part) → under (rank m) 32 ≡ true
unfolding under rank
small Part.Module = refl
small _ = refl

and_both : (a b : Bool) → a ≡ true → b ≡ true → a && b ≡ true
and_both true b e f = f
and_both false b e f = absurd cc

cond_true : (a b : Bool) → b ≡ true → cond a b true ≡ true
cond_true true b e = e
cond_true false b e = refl

low_any : {A : Code} (r : Rule A) → low 32 r ≡ true
unfolding under
low_any (one k) = refl
low_any (part m) = small m
low_any (r ~ s) = and_both (low 32 r) (cond (null r) (low 32 s) true) (low_any r) (cond_true (null r) (low 32 s) (low_any s))
low_any (r ∣ s) = and_both (low 32 r) (low 32 s) (low_any r) (low_any s)
low_any (maybe r) = low_any r
low_any (many r) = low_any r
low_any (listed r) = low_any r
low_any (before fit r k s) = low_any r
low_any (r ⇒ f) = low_any r

-- ---- outcomes that are not for want of steps

-- at least one symbol is taken, or maybe none
abbrev taken : Bool → ℕ
taken may_be_none = cond may_be_none 0 1

abbrev pub Runs : {A : Type 0} → Bool → List Symbol → Outcome A → Type 0
Runs b ts (took x rest) = length rest + taken b ≤ length ts
Runs b ts (stuck rest) = Unit {0}
Runs b ts spent = ⊥

taken_most : (b : Bool) → taken b ≤ 1
taken_most true = omega arith
taken_most false = omega arith

taken_both : (b c : Bool) → taken (b && c) ≤ taken b + taken c
taken_both true c = omega arith
taken_both false c = omega arith

taken_left : (b c : Bool) → taken (b || c) ≤ taken b
taken_left true c = omega arith
taken_left false c = taken_most c

taken_right : (b c : Bool) → taken (b || c) ≤ taken c
taken_right true c = omega arith
taken_right false c = omega arith

weaker : {A : Type 0} (b c : Bool) (ts : List Symbol) (o : Outcome A) → taken c ≤ taken b → Runs b ts o → Runs c ts o
weaker b c ts (took x rest) le h = omega (arith, le, h)
weaker b c ts (stuck rest) le h = tt
weaker b c ts spent le h = h

then_runs : {A B : Type 0} (b c : Bool) (ts : List Symbol) (o : Outcome A) (f : A → Parser B) → Runs b ts o → ((x : A) (mid : List Symbol) → length mid + taken b ≤ length ts → Runs c mid (f x mid)) → Runs (b && c) ts (and_then o f)
then_runs {B = B} b c ts (took x mid) f h g = after (f x mid) (g x mid h)
  where
    after : (o : Outcome B) → Runs c mid o → Runs (b && c) ts o
    after (took y rest) k = omega (arith, h, k, taken_both b c)
    after (stuck rest) k = tt
    after spent k = k
then_runs b c ts (stuck rest) f h g = tt
then_runs b c ts spent f h g = h

map_runs : {A B : Type 0} (b : Bool) (ts : List Symbol) (o : Outcome A) (f : A → B) → Runs b ts o → Runs b ts (and_then o (λ x. pure (f x)))
map_runs b ts (took x rest) f h = h
map_runs b ts (stuck rest) f h = tt
map_runs b ts spent f h = h

either_runs : {A : Type 0} (c : Bool) (ks : List Sym) (p q : Parser A) (ts : List Symbol) → Runs c ts (p ts) → Runs c ts (q ts) → Runs c ts (either ks p q ts)
either_runs c ks p q ts a b = by_cases (has (peek ts) ks)
  where
    by_cases : (d : Bool) → Runs c ts (cond d (p ts) (q ts))
    by_cases true = a
    by_cases false = b

pure_runs : {A : Type 0} (x : A) (ts : List Symbol) → Runs true ts (pure x ts)
pure_runs x ts = omega arith

pub expect_runs : (k : Sym) (ts : List Symbol) → Runs false ts (expect k ts)
expect_runs k ts = by_cases ts (same (peek ts) k)
  where
    by_cases : (ts : List Symbol) (b : Bool) → Runs false ts (cond b (take_symbol ts) (stuck ts))
    by_cases [] true = tt
    by_cases (t ∷ ts) true = omega arith
    by_cases ts false = tt

-- ---- with enough steps no outcome is for want of them

module _ (f : ℕ) (parts : (m : Part) (ts : List Symbol) → 32 * length ts + suc (rank m) ≤ f → Runs false ts (parsers f m ts)) where
  turns_run : {A : Type 0} (ks : List Sym) (p : Parser A) (n : ℕ) → ((ts : List Symbol) → 32 * length ts + n ≤ f → Runs false ts (p ts)) → (c : ℕ) (ts : List Symbol) → length ts + 1 ≤ c → 32 * length ts + n ≤ f → Runs true ts (turns ks p c ts)
  unfolding turns
  turns_run ks p n each zero ts lc le = absurd (omega (arith, lc))
  turns_run {A = A} ks p n each (suc c) ts lc le =
      either_runs true ks (p >>= (λ x. (λ xs. x ∷ xs) <$> turns ks p c)) (pure []) ts
      (weaker false true ts _ (omega arith)
      (then_runs false true ts (p ts) (λ x. (λ xs. x ∷ xs) <$> turns ks p c) (each ts le)
      (λ x mid h. map_runs true mid (turns ks p c mid) (λ xs. x ∷ xs) (turns_run ks p n each c mid (omega (arith, lc, h)) (omega (arith, le, h))))))
      (pure_runs {A = List A} [] ts)

  items_run : {A : Type 0} (ks : List Sym) (p : Parser A) (n : ℕ) → ((ts : List Symbol) → 32 * length ts + n ≤ f → Runs false ts (p ts)) → (c : ℕ) (ts : List Symbol) → length ts + 1 ≤ c → 32 * length ts + n ≤ f → Runs false ts (items ks p c ts)
  unfolding items
  items_run ks p n each zero ts lc le = absurd (omega (arith, lc))
  items_run {A = A} ks p n each (suc c) ts lc le =
      let others : A → Parser (List A × Bool) = λ x. (λ l. (x ∷ l.0, l.1)) <$> items ks p c in
      let last : A → Parser (List A × Bool) = λ x. pure (x ∷ [], true) in
      let sole : A → Parser (List A × Bool) = λ x. pure (x ∷ [], false) in
      let more : A → Symbol → Parser (List A × Bool) = λ x t. either ks (others x) (last x) in
      then_runs false true ts (p ts) (λ x. either commas (expect sym.Comma >>= more x) (sole x)) (each ts le)
      (λ x mid h. either_runs true commas (expect sym.Comma >>= more x) (sole x) mid
      (weaker false true mid ((expect sym.Comma >>= more x) mid) (omega arith)
      (then_runs false true mid (expect sym.Comma mid) (more x) (expect_runs sym.Comma mid)
      (λ t rest k. either_runs true ks (others x) (last x) rest
      (weaker false true rest (others x rest) (omega arith) (map_runs false rest (items ks p c rest) (λ l. (x ∷ l.0, l.1)) (items_run ks p n each c rest (omega (arith, lc, h, k)) (omega (arith, le, h, k)))))
      (pure_runs {A = List A × Bool} (x ∷ [], true) rest))))
      (pure_runs {A = List A × Bool} (x ∷ [], false) mid))

  one_first : (n : ℕ) → under 0 n ≡ true → 1 ≤ n
  one_first n e = under_less 0 n e

  -- a rule behind another, which took a symbol or maybe none
  behind : {A : Code} (s : Rule A) (n : ℕ) (ts : List Symbol) → 32 * length ts + n ≤ f → (mid : List Symbol) → ((n : ℕ) → low n s ≡ true → 32 * length mid + n ≤ f → Runs (null s) mid (parse (parsers f) f s mid))
      → (c : Bool) → length mid + taken c ≤ length ts → cond c (low n s) true ≡ true → Runs (null s) mid (parse (parsers f) f s mid)
  behind s n ts le mid each true h l = each n l (omega (arith, le, h))
  behind s n ts le mid each false h l = each 32 (low_any s) (omega (arith, le, h))

  pub rule_runs : {A : Code} (r : Rule A) (n : ℕ) → low n r ≡ true → is_plain r ≡ true → (ts : List Symbol) → 32 * length ts + n ≤ f → Runs (null r) ts (parse (parsers f) f r ts)
  unfolding parse
  rule_runs (one k) n l p ts le = expect_runs k ts
  rule_runs (part m) n l p ts le = parts m ts (let h = under_less (rank m) n l in omega (arith, le, h))
  rule_runs (r ~ s) n l p ts le =
      let b = plain_pair r s p in
      let lr : low n r ≡ true = and_left (low n r) (cond (null r) (low n s) true) l in
      let ls : cond (null r) (low n s) true ≡ true = and_right (low n r) (cond (null r) (low n s) true) l in
      then_runs (null r) (null s) ts (parse (parsers f) f r ts) (λ x. (λ y. (x, y)) <$> parse (parsers f) f s) (rule_runs r n lr b.1 ts le)
      (λ x mid h. map_runs (null s) mid (parse (parsers f) f s mid) (λ y. (x, y)) (behind s n ts le mid (λ n l le. rule_runs s n l b.2 mid le) (null r) h ls))
  rule_runs (r ∣ s) n l p ts le =
      let b = plain_either r s p in
      either_runs (null r || null s) (first r) (parse (parsers f) f r) (parse (parsers f) f s) ts
      (weaker (null r) (null r || null s) ts (parse (parsers f) f r ts) (taken_left (null r) (null s)) (rule_runs r n (and_left (low n r) (low n s) l) b.3 ts le))
      (weaker (null s) (null r || null s) ts (parse (parsers f) f s ts) (taken_right (null r) (null s)) (rule_runs s n (and_right (low n r) (low n s) l) b.4 ts le))
  rule_runs (maybe {A = A} r) n l p ts le =
      let b = plain_maybe r p in
      either_runs true (first r) ((λ x. Some x) <$> parse (parsers f) f r) (pure None) ts
      (weaker (null r) true ts _ (omega arith) (map_runs (null r) ts (parse (parsers f) f r ts) (λ x. Some x) (rule_runs r n l b.1 ts le)))
      (pure_runs {A = Option (Value A)} None ts)
  rule_runs (many r) n l p ts le =
      let b = plain_many r p in
      let h = one_first n (and_left (under 0 n) (low n r) l) in
      turns_run (first r) (parse (parsers f) f r) n (λ ts le. subst (λ c. Runs c ts (parse (parsers f) f r ts)) b.1 (rule_runs r n (and_right (under 0 n) (low n r) l) b.2 ts le)) f ts (omega (arith, le, h)) le
  rule_runs (listed r) n l p ts le =
      let b = plain_listed r p in
      let h = one_first n (and_left (under 0 n) (low n r) l) in
      subst (λ c. Runs c ts (items (first r) (parse (parsers f) f r) f ts)) (flip b.1)
      (items_run (first r) (parse (parsers f) f r) n (λ ts le. subst (λ c. Runs c ts (parse (parsers f) f r ts)) b.1 (rule_runs r n (and_right (under 0 n) (low n r) l) b.2 ts le)) f ts (omega (arith, le, h)) le)
  rule_runs (before {A = A} {B = B} fit r k s) n l p ts le =
      let b = plain_before r s fit k p in
      let more : Value A → Symbol → Parser (Value A × Option (Value B)) = λ x t. (λ y. (x, Some y)) <$> parse (parsers f) f s in
      let sole : Value A → Parser (Value A × Option (Value B)) = λ x. pure (x, None) in
      subst (λ c. Runs c ts (parse (parsers f) f (before fit r k s) ts)) (flip b.1)
      (then_runs false true ts (parse (parsers f) f r ts) (λ x. either (fit_for (fit x) k) (expect k >>= more x) (sole x)) (subst (λ c. Runs c ts (parse (parsers f) f r ts)) b.1 (rule_runs r n l b.2 ts le))
      (λ x mid h. either_runs true (fit_for (fit x) k) (expect k >>= more x) (sole x) mid
      (weaker false true mid ((expect k >>= more x) mid) (omega arith)
      (then_runs false true mid (expect k mid) (more x) (expect_runs k mid)
      (λ t rest i. weaker (null s) true rest (more x t rest) (omega arith) (map_runs (null s) rest (parse (parsers f) f s rest) (λ y. (x, Some y)) (rule_runs s 32 (low_any s) b.3 rest (omega (arith, le, h, i)))))))
      (pure_runs {A = Value A × Option (Value B)} (x, None) mid)))
  rule_runs (r ⇒ g) n l p ts le = map_runs (null r) ts (parse (parsers f) f r ts) g (rule_runs r n l p ts le)

-- no parser of a part wants more steps
pub part_runs : (f : ℕ) (m : Part) (ts : List Symbol) → 32 * length ts + suc (rank m) ≤ f → Runs false ts (parsers f m ts)
unfolding parsers
part_runs zero m ts le = absurd (omega arith)
part_runs (suc f) m ts le = subst (λ c. Runs c ts (parse (parsers f) f (ahead m) ts)) (not_null m) (rule_runs f (part_runs f) (ahead m) (rank m) (low_part m) (plain m) ts (omega (arith, le)))

-- and no parser of a rule
pub runs : {A : Code} (r : Rule A) → is_plain r ≡ true → (f : ℕ) (ts : List Symbol) → 32 * length ts + 32 ≤ f → Runs (null r) ts (parse (parsers f) f r ts)
runs r p f ts le = rule_runs f (part_runs f) r 32 (low_any r) p ts le

pub small_rank : (m : Part) → rank m < 32
small_rank m = under_less (rank m) 32 (small m)
