-- With as many steps as suffice the outcome is the same as with any more, so the parser of a rule is made of those of its parts.
use Rattle.std.proofs.Common.{◌≡◌, ℕ, suc, ◌+◌, ◌*◌, ◌≤◌, ◌<◌, Bool, true, false, cond, map, List, [], ◌∷◌, ◌++◌, length, Option, Some, None, refl, sym as flip, ◌∙◌, ap, subst, arith, append_assoc, append-nil}
use Rattle.py_grammar.specs.declared.symbol.Sym.{Sym}
use Rattle.py_grammar.specs.declared.symbol.Sym.TheVariants as sym
use Rattle.py_grammar.specs.declared.symbol.Symbol.{Symbol}
use Rattle.py_grammar.specs.Codes.{Code, Value}
use Rattle.py_grammar.specs.Parts.{Part, Made}
use Rattle.py_grammar.specs.Rules.{Rule, one, part, ◌~◌, ◌∣◌, maybe, many, listed, before, ◌⇒◌, has}
use Rattle.py_grammar.specs.Sets.{null, first, is_plain}
use Rattle.py_grammar.specs.Ahead.{ahead}
use Rattle.py_grammar.specs.Derives.{Derives, DerivesMany}
use Rattle.py_grammar.specs.Parser.{Outcome, took, stuck, spent, Parser, and_then, ◌>>=◌, pure, ◌<$>◌, peek, expect, either, turns, commas, items, fit_for, parse, parsers}
use Rattle.py_grammar.specs.Flow.{enough, full, run, again, gather, listing, follow}
use Rattle.py_grammar.proofs.Outcomes.{Judge}
use Rattle.py_grammar.proofs.Good.{good, rule_good, turns_good, items_good, DListed}
use Rattle.py_grammar.proofs.Sets.{plain}
use Rattle.py_grammar.proofs.Complete.{plain_pair, plain_before, plain_either, plain_maybe, plain_many, plain_listed}
use Rattle.py_grammar.proofs.Steps.{Runs, rank, low_part, small_rank, part_runs, runs, rule_runs, expect_runs}

-- an outcome that was not for want of steps is the second parser's too
judged : {A : Type 0} (D : A → List Symbol → Type 0) (q : Parser A) (b : Bool) (ts : List Symbol) (o : Outcome A) → Judge D q ts o → Runs b ts o → q ts ≡ o
judged D q b ts (took x rest) j h = ap q j.whole ∙ j.local rest refl
judged D q b ts (stuck rest) j h = ap q j.whole ∙ j.local rest refl
judged D q b ts spent j h = absurd h

-- with more steps the outcome is the same
pub rule_more : {A : Code} (r : Rule A) → is_plain r ≡ true → (n n' : ℕ) (ts : List Symbol) → 32 * length ts + 32 ≤ n → n ≤ n' → parse (parsers n') n' r ts ≡ parse (parsers n) n r ts
rule_more r p n n' ts enough le = judged (Derives ahead _ r) (parse (parsers n') n' r) (null r) ts (parse (parsers n) n r ts) (rule_good (parsers n) (parsers n') n n' le (good n n' le) r ts) (runs r p n ts enough)

pub part_more : (m : Part) (n n' : ℕ) (ts : List Symbol) → 32 * length ts + suc (rank m) ≤ n → n ≤ n' → parsers n' m ts ≡ parsers n m ts
part_more m n n' ts enough le = judged (Derives ahead (Made m) (part m)) (parsers n' m) false ts (parsers n m ts) (good n n' le m ts) (part_runs n m ts enough)

-- the parser of a rule is its parser with any number of steps that suffices
pub run_is : {A : Code} (r : Rule A) → is_plain r ≡ true → (n : ℕ) (ts : List Symbol) → 32 * length ts + 32 ≤ n → parse (parsers n) n r ts ≡ run r ts
unfolding enough run
run_is r p n ts le = rule_more r p (32 * (length ts + 1)) n ts (omega arith) (omega (arith, le))

-- ---- compositions

and_then_twice : {A B C : Type 0} (o : Outcome A) (f : A → Parser B) (g : B → Parser C) → and_then (and_then o f) g ≡ and_then o (λ x i. and_then (f x i) g)
and_then_twice (took x i) f g = refl
and_then_twice (stuck i) f g = refl
and_then_twice spent f g = refl

and_then_pure : {A : Type 0} (o : Outcome A) → and_then o pure ≡ o
and_then_pure (took x i) = refl
and_then_pure (stuck i) = refl
and_then_pure spent = refl

-- the same continuation wherever the outcome leaves symbols of a list
then_same : {A B : Type 0} (b : Bool) (ts : List Symbol) (o : Outcome A) (f g : A → Parser B) → Runs b ts o → ((x : A) (mid : List Symbol) → length mid + cond b 0 1 ≤ length ts → f x mid ≡ g x mid) → and_then o f ≡ and_then o g
then_same b ts (took x mid) f g h e = e x mid h
then_same b ts (stuck rest) f g h e = refl
then_same b ts spent f g h e = refl

either_same : {A : Type 0} (ks : List Sym) (p q p' q' : Parser A) (ts : List Symbol) → p ts ≡ p' ts → q ts ≡ q' ts → either ks p q ts ≡ either ks p' q' ts
either_same {A = A} ks p q p' q' ts e f = by_cases (has (peek ts) ks)
  where
    by_cases : (b : Bool) → cond b (p ts) (q ts) ≡ cond b (p' ts) (q' ts)
    by_cases true = e
    by_cases false = f

either_then : {A B : Type 0} (ks : List Sym) (p q : Parser A) (f : A → Parser B) (ts : List Symbol) → and_then (either ks p q ts) f ≡ either ks (p >>= f) (q >>= f) ts
either_then ks p q f ts = by_cases (has (peek ts) ks)
  where
    by_cases : (b : Bool) → and_then (cond b (p ts) (q ts)) f ≡ cond b (and_then (p ts) f) (and_then (q ts) f)
    by_cases true = refl
    by_cases false = refl

less_or_same : (b : Bool) (m n : ℕ) → m + cond b 0 1 ≤ n → m ≤ n
less_or_same true m n h = omega (arith, h)
less_or_same false m n h = omega (arith, h)

-- the parsers of the parts of a rule
module _ {A : Code} (r : Rule A) (p : is_plain r ≡ true) (ts : List Symbol) where
  run_runs : Runs (null r) ts (run r ts)
  unfolding enough run
  run_runs = runs r p (32 * (length ts + 1)) ts (omega arith)

  -- the rest of the symbols is parsed alike with the steps that suffice for all of them
  rest_is : {B : Code} (s : Rule B) → is_plain s ≡ true → (b : Bool) (mid : List Symbol) → length mid + cond b 0 1 ≤ length ts → parse (parsers (enough (length ts))) (enough (length ts)) s mid ≡ run s mid
  unfolding enough
  rest_is s ps b mid h = let le = less_or_same b (length mid) (length ts) h in run_is s ps (32 * (length ts + 1)) mid (omega (arith, le))

-- a pair
pair_is : {A B : Code} (r : Rule A) (s : Rule B) → is_plain (r ~ s) ≡ true → (ts : List Symbol) → run (r ~ s) ts ≡ (run r >>= (λ x. (λ y. (x, y)) <$> run s)) ts
unfolding run parse
pair_is r s p ts =
    let b = plain_pair r s p in
    then_same (null r) ts (run r ts) (λ x. (λ y. (x, y)) <$> parse (parsers (enough (length ts))) (enough (length ts)) s) (λ x. (λ y. (x, y)) <$> run s) (run_runs r b.1 ts) (λ x mid h. ap (λ o. and_then o (λ y. pure (x, y))) (rest_is r b.1 ts s b.2 (null r) mid h))

before_is : {A B : Code} (fit : Value A → Bool) (r : Rule A) (k : Sym) (s : Rule B) → is_plain (before fit r k s) ≡ true → (ts : List Symbol) → run (before fit r k s) ts ≡ (run r >>= (λ x. either (fit_for (fit x) k) (expect k >>= (λ t. (λ y. (x, Some y)) <$> run s)) (pure (x, None)))) ts
unfolding run parse
before_is {A = A} {B = B} fit r k s p ts =
    let b = plain_before r s fit k p in
    let more : Value A → Symbol → Parser (Value A × Option (Value B)) = λ x t. (λ y. (x, Some y)) <$> parse (parsers (enough (length ts))) (enough (length ts)) s in
    let more' : Value A → Symbol → Parser (Value A × Option (Value B)) = λ x t. (λ y. (x, Some y)) <$> run s in
    then_same (null r) ts (run r ts) (λ x. either (fit_for (fit x) k) (expect k >>= more x) (pure (x, None))) (λ x. either (fit_for (fit x) k) (expect k >>= more' x) (pure (x, None))) (run_runs r b.2 ts)
    (λ x mid h. either_same (fit_for (fit x) k) (expect k >>= more x) (pure (x, None)) (expect k >>= more' x) (pure (x, None)) mid
    (then_same false mid (expect k mid) (more x) (more' x) (expect_runs k mid)
    (λ t rest i. ap (λ o. and_then o (λ y. pure (x, Some y))) (rest_is r b.2 ts s b.3 true rest (shorter (null r) (length rest) (length mid) (length ts) h i))))
    refl)
  where
    shorter : (b : Bool) (l m n : ℕ) → m + cond b 0 1 ≤ n → l + 1 ≤ m → l + 0 ≤ n
    shorter b l m n h i = let h' = less_or_same b m n h in omega (arith, h', i)

-- ---- repetitions

module _ {A : Code} (r : Rule A) (p : is_plain r ≡ true) (none : null r ≡ false) (ts : List Symbol) where
  -- one turn takes a symbol
  turn_runs : Runs false ts (run r ts)
  turn_runs = subst (λ b. Runs b ts (run r ts)) none (run_runs r p ts)

  module _ (mid : List Symbol) (shorter : length mid + 1 ≤ length ts) where
    judged_turns : is_plain (many r) ≡ true → turns (first r) (parse (parsers (32 * (length ts + 1))) (32 * (length ts + 1)) r) (32 * length ts + 31) mid ≡ run (many r) mid
    unfolding enough run parse
    judged_turns pm =
        let m : ℕ = 32 * (length mid + 1) in
        let n : ℕ = 32 * (length ts + 1) in
        judged (DerivesMany ahead A r) (turns (first r) (parse (parsers n) n r) (32 * length ts + 31)) true mid (turns (first r) (parse (parsers m) m r) m mid)
        (turns_good r (first r) (parse (parsers m) m r) (parse (parsers n) n r) (rule_good (parsers m) (parsers n) m n (omega (arith, shorter)) (good m n (omega (arith, shorter))) r) m (32 * length ts + 31) (omega (arith, shorter)) mid)
        (runs (many r) pm m mid (omega arith))

    judged_items : is_plain (listed r) ≡ true → items (first r) (parse (parsers (32 * (length ts + 1))) (32 * (length ts + 1)) r) (32 * length ts + 31) mid ≡ run (listed r) mid
    unfolding enough run parse
    judged_items pm =
        let m : ℕ = 32 * (length mid + 1) in
        let n : ℕ = 32 * (length ts + 1) in
        judged (DListed r) (items (first r) (parse (parsers n) n r) (32 * length ts + 31)) (null r) mid (items (first r) (parse (parsers m) m r) m mid)
        (items_good r (first r) (parse (parsers m) m r) (parse (parsers n) n r) (rule_good (parsers m) (parsers n) m n (omega (arith, shorter)) (good m n (omega (arith, shorter))) r) m (32 * length ts + 31) (omega (arith, shorter)) mid)
        (runs (listed r) pm m mid (omega arith))

one_less : (n : ℕ) → 32 * (n + 1) ≡ suc (32 * n + 31)
one_less n = omega arith

-- a repetition is one turn and the rest
pub many_is : {A : Code} (r : Rule A) → is_plain (many r) ≡ true → (ts : List Symbol) → run (many r) ts ≡ either (first r) (run r >>= (λ x. (λ xs. x ∷ xs) <$> run (many r))) (pure []) ts
unfolding enough run parse turns
many_is r p ts =
    let b = plain_many r p in
    let q : Parser (Value _) = parse (parsers (32 * (length ts + 1))) (32 * (length ts + 1)) r in
    ap (λ n. turns (first r) q n ts) (one_less (length ts))
    ∙ either_same (first r) (q >>= (λ x. (λ xs. x ∷ xs) <$> turns (first r) q (32 * length ts + 31))) (pure []) (run r >>= (λ x. (λ xs. x ∷ xs) <$> run (many r))) (pure []) ts
    (then_same false ts (run r ts) (λ x. (λ xs. x ∷ xs) <$> turns (first r) q (32 * length ts + 31)) (λ x. (λ xs. x ∷ xs) <$> run (many r)) (turn_runs r b.2 b.1 ts)
    (λ x mid h. ap (λ o. and_then o (λ xs. pure (x ∷ xs))) (judged_turns r b.2 b.1 ts mid h p)))
    refl

-- values with commas are the first one and the rest
pub listed_is : {A : Code} (r : Rule A) → is_plain (listed r) ≡ true → (ts : List Symbol)
    → run (listed r) ts ≡ (run r >>= (λ x. either commas (expect sym.Comma >>= (λ t. either (first r) ((λ l. (x ∷ l.0, l.1)) <$> run (listed r)) (pure (x ∷ [], true)))) (pure (x ∷ [], false)))) ts
unfolding enough run parse items
listed_is {A = A} r p ts =
    let b = plain_listed r p in
    let q : Parser (Value A) = parse (parsers (32 * (length ts + 1))) (32 * (length ts + 1)) r in
    let others : Value A → Parser (List (Value A) × Bool) = λ x. (λ l. (x ∷ l.0, l.1)) <$> items (first r) q (32 * length ts + 31) in
    let others' : Value A → Parser (List (Value A) × Bool) = λ x. (λ l. (x ∷ l.0, l.1)) <$> run (listed r) in
    let more : Value A → Symbol → Parser (List (Value A) × Bool) = λ x t. either (first r) (others x) (pure (x ∷ [], true)) in
    let more' : Value A → Symbol → Parser (List (Value A) × Bool) = λ x t. either (first r) (others' x) (pure (x ∷ [], true)) in
    ap (λ n. items (first r) q n ts) (one_less (length ts))
    ∙ then_same false ts (run r ts) (λ x. either commas (expect sym.Comma >>= more x) (pure (x ∷ [], false))) (λ x. either commas (expect sym.Comma >>= more' x) (pure (x ∷ [], false))) (turn_runs r b.2 b.1 ts)
    (λ x mid h. either_same commas (expect sym.Comma >>= more x) (pure (x ∷ [], false)) (expect sym.Comma >>= more' x) (pure (x ∷ [], false)) mid
    (then_same false mid (expect sym.Comma mid) (more x) (more' x) (expect_runs sym.Comma mid)
    (λ t rest i. either_same (first r) (others x) (pure (x ∷ [], true)) (others' x) (pure (x ∷ [], true)) rest
    (ap (λ o. and_then o (λ l. pure (x ∷ l.0, l.1))) (judged_items r b.2 b.1 ts rest (omega (arith, h, i)) p))
    refl))
    refl)

-- ---- a rule and what follows it

pub follow_is : {A : Code} {B : Type 0} (r : Rule A) (f : Value A → Parser B) → is_plain r ≡ true → (ts : List Symbol) → follow r f ts ≡ and_then (run r ts) f
unfolding run parse full again listing
follow_is (one k) f p ts = refl
follow_is (part m) f p ts = refl
follow_is (r ~ s) f p ts =
    let b = plain_pair r s p in
    follow_is r (λ x. follow s (λ y. f (x, y))) b.1 ts
    ∙ then_same (null r) ts (run r ts) (λ x. follow s (λ y. f (x, y))) (λ x. run s >>= (λ y. f (x, y))) (run_runs r b.1 ts) (λ x mid h. follow_is s (λ y. f (x, y)) b.2 mid)
    ∙ then_same (null r) ts (run r ts) (λ x. run s >>= (λ y. f (x, y))) (λ x mid. and_then (and_then (run s mid) (λ y. pure (x, y))) f) (run_runs r b.1 ts) (λ x mid h. flip (and_then_twice (run s mid) (λ y. pure (x, y)) f))
    ∙ flip (and_then_twice (run r ts) (λ x. (λ y. (x, y)) <$> run s) f)
    ∙ ap (λ o. and_then o f) (flip (pair_is r s p ts))
follow_is (r ∣ s) f p ts =
    let b = plain_either r s p in
    either_same (first r) (follow r f) (follow s f) (run r >>= f) (run s >>= f) ts (follow_is r f b.3 ts) (follow_is s f b.4 ts)
    ∙ flip (either_then (first r) (run r) (run s) f ts)
follow_is (maybe r) f p ts =
    let b = plain_maybe r p in
    either_same (first r) (follow r (λ x. f (Some x))) (f None) (run r >>= (λ x. f (Some x))) (f None) ts (follow_is r (λ x. f (Some x)) b.1 ts) refl
    ∙ either_same (first r) (run r >>= (λ x. f (Some x))) (f None) (((λ x. Some x) <$> run r) >>= f) (pure None >>= f) ts (flip (and_then_twice (run r ts) (λ x. pure (Some x)) f)) refl
    ∙ flip (either_then (first r) ((λ x. Some x) <$> run r) (pure None) f ts)
follow_is (many r) f p ts = ap (λ o. and_then o f) (and_then_pure (run (many r) ts))
follow_is (listed r) f p ts = ap (λ o. and_then o f) (and_then_pure (run (listed r) ts))
follow_is (r ⇒ g) f p ts = follow_is r (λ x. f (g x)) p ts ∙ flip (and_then_twice (run r ts) (λ x. pure (g x)) f)
follow_is {A = _} {B = C} (before {A = A} {B = B} fit r k s) f p ts =
    let b = plain_before r s fit k p in
    let more : Value A → Symbol → Parser (Value A × Option (Value B)) = λ x t. (λ y. (x, Some y)) <$> run s in
    let all : Value A → Parser (Value A × Option (Value B)) = λ x. either (fit_for (fit x) k) (expect k >>= more x) (pure (x, None)) in
    let more' : Value A → Symbol → Parser C = λ x t. follow s (λ y. f (x, Some y)) in
    let all' : Value A → Parser C = λ x. either (fit_for (fit x) k) (expect k >>= more' x) (f (x, None)) in
    follow_is r all' b.2 ts
    ∙ then_same (null r) ts (run r ts) all' (λ x. all x >>= f) (run_runs r b.2 ts)
    (λ x mid h.
    either_same (fit_for (fit x) k) (expect k >>= more' x) (f (x, None)) ((expect k >>= more x) >>= f) (pure (x, None) >>= f) mid
    (then_same false mid (expect k mid) (more' x) (λ t. more x t >>= f) (expect_runs k mid) (λ t rest i. follow_is s (λ y. f (x, Some y)) b.3 rest ∙ flip (and_then_twice (run s rest) (λ y. pure (x, Some y)) f))
    ∙ flip (and_then_twice (expect k mid) (more x) f))
    refl
    ∙ flip (either_then (fit_for (fit x) k) (expect k >>= more x) (pure (x, None)) f mid))
    ∙ flip (and_then_twice (run r ts) all f)
    ∙ ap (λ o. and_then o f) (flip (before_is fit r k s p ts))

-- the parser of a part is that of its rule
pub full_is : (m : Part) (ts : List Symbol) → full m ts ≡ follow (ahead m) pure ts
unfolding enough full run parsers
full_is m ts =
    let n : ℕ = 32 * length ts + 31 in
    let low : rank m < 32 = small_rank m in
    ap (λ n. parsers n m ts) (one_less (length ts))
    ∙ flip (judged (Derives ahead _ (ahead m)) (parse (parsers (32 * (length ts + 1))) (32 * (length ts + 1)) (ahead m)) (null (ahead m)) ts (parse (parsers n) n (ahead m) ts)
    (rule_good (parsers n) (parsers (32 * (length ts + 1))) n (32 * (length ts + 1)) (omega arith) (good n (32 * (length ts + 1)) (omega arith)) (ahead m) ts)
    (rule_runs n (part_runs n) (ahead m) (rank m) (low_part m) (plain m) ts (omega (arith, low))))
    ∙ flip (and_then_pure (run (ahead m) ts))
    ∙ flip (follow_is (ahead m) pure (plain m) ts)

pub again_is : {A : Code} (r : Rule A) → is_plain (many r) ≡ true → (xs : List (Value A)) (ts : List Symbol) → again r xs ts ≡ either (first r) (follow r (λ x. again r (xs ++ x ∷ []))) (pure xs) ts
unfolding again
again_is {A = A} r p xs ts =
    let b = plain_many r p in
    let others : Value A → Parser (List (Value A)) = λ x. (λ ys. x ∷ ys) <$> run (many r) in
    let back : List (Value A) → Parser (List (Value A)) = λ ys. pure (xs ++ ys) in
    ap (λ o. and_then o back) (many_is r p ts)
    ∙ either_then (first r) (run r >>= others) (pure []) back ts
    ∙ either_same (first r) ((run r >>= others) >>= back) (pure [] >>= back) (follow r (λ x. again r (xs ++ x ∷ []))) (pure xs) ts
    (and_then_twice (run r ts) others back
    ∙ then_same false ts (run r ts) (λ x. others x >>= back) (λ x. again r (xs ++ x ∷ [])) (turn_runs r b.2 b.1 ts)
    (λ x mid h. and_then_twice (run (many r) mid) (λ ys. pure (x ∷ ys)) back ∙ then_same true mid (run (many r) mid) (λ ys. pure (xs ++ (x ∷ ys))) (λ ys. pure ((xs ++ x ∷ []) ++ ys)) (run_runs (many r) p mid) (λ ys rest i. ap (λ l. took l rest) (flip (append_assoc xs (x ∷ []) ys))))
    ∙ flip (follow_is r (λ x. again r (xs ++ x ∷ [])) b.2 ts))
    (ap (λ l. took l ts) (append-nil xs))

pub gather_is : {A : Code} {B : Type 0} (f : Value A → B) (r : Rule A) → is_plain (many r) ≡ true → (ys : List B) (ts : List Symbol) → gather f r ys ts ≡ either (first r) (follow r (λ x. gather f r (ys ++ f x ∷ []))) (pure ys) ts
unfolding gather
gather_is {A = A} {B = B} f r p ys ts =
    let b = plain_many r p in
    let others : Value A → Parser (List (Value A)) = λ x. (λ xs. x ∷ xs) <$> run (many r) in
    let back : List (Value A) → Parser (List B) = λ xs. pure (ys ++ map f xs) in
    ap (λ o. and_then o back) (many_is r p ts)
    ∙ either_then (first r) (run r >>= others) (pure []) back ts
    ∙ either_same (first r) ((run r >>= others) >>= back) (pure [] >>= back) (follow r (λ x. gather f r (ys ++ f x ∷ []))) (pure ys) ts
    (and_then_twice (run r ts) others back
    ∙ then_same false ts (run r ts) (λ x. others x >>= back) (λ x. gather f r (ys ++ f x ∷ [])) (turn_runs r b.2 b.1 ts)
    (λ x mid h. and_then_twice (run (many r) mid) (λ xs. pure (x ∷ xs)) back ∙ then_same true mid (run (many r) mid) (λ xs. pure (ys ++ (f x ∷ map f xs))) (λ xs. pure ((ys ++ f x ∷ []) ++ map f xs)) (run_runs (many r) p mid) (λ xs rest i. ap (λ l. took l rest) (flip (append_assoc ys (f x ∷ []) (map f xs)))))
    ∙ flip (follow_is r (λ x. gather f r (ys ++ f x ∷ [])) b.2 ts))
    (ap (λ l. took l ts) (append-nil ys))

pub listing_is : {A : Code} (r : Rule A) → is_plain (listed r) ≡ true → (xs : List (Value A)) (ts : List Symbol)
    → listing r xs ts ≡ follow r (λ x. either commas (expect sym.Comma >>= (λ t. either (first r) (listing r (xs ++ x ∷ [])) (pure (xs ++ x ∷ [], true)))) (pure (xs ++ x ∷ [], false))) ts
unfolding listing
listing_is {A = A} r p xs ts =
    let b = plain_listed r p in
    let others : Value A → Parser (List (Value A) × Bool) = λ x. (λ l. (x ∷ l.0, l.1)) <$> run (listed r) in
    let more : Value A → Symbol → Parser (List (Value A) × Bool) = λ x t. either (first r) (others x) (pure (x ∷ [], true)) in
    let all : Value A → Parser (List (Value A) × Bool) = λ x. either commas (expect sym.Comma >>= more x) (pure (x ∷ [], false)) in
    let back : List (Value A) × Bool → Parser (List (Value A) × Bool) = λ l. pure (xs ++ l.0, l.1) in
    let more' : Value A → Symbol → Parser (List (Value A) × Bool) = λ x t. either (first r) (listing r (xs ++ x ∷ [])) (pure (xs ++ x ∷ [], true)) in
    let all' : Value A → Parser (List (Value A) × Bool) = λ x. either commas (expect sym.Comma >>= more' x) (pure (xs ++ x ∷ [], false)) in
    ap (λ o. and_then o back) (listed_is r p ts)
    ∙ and_then_twice (run r ts) all back
    ∙ then_same false ts (run r ts) (λ x. all x >>= back) all' (turn_runs r b.2 b.1 ts)
    (λ x mid h.
    either_then commas (expect sym.Comma >>= more x) (pure (x ∷ [], false)) back mid
    ∙ either_same commas ((expect sym.Comma >>= more x) >>= back) (pure (x ∷ [], false) >>= back) (expect sym.Comma >>= more' x) (pure (xs ++ x ∷ [], false)) mid
    (and_then_twice (expect sym.Comma mid) (more x) back
    ∙ then_same false mid (expect sym.Comma mid) (λ t. more x t >>= back) (more' x) (expect_runs sym.Comma mid)
    (λ t rest i.
    either_then (first r) (others x) (pure (x ∷ [], true)) back rest
    ∙ either_same (first r) (others x >>= back) (pure (x ∷ [], true) >>= back) (listing r (xs ++ x ∷ [])) (pure (xs ++ x ∷ [], true)) rest
    (and_then_twice (run (listed r) rest) (λ l. pure (x ∷ l.0, l.1)) back
    ∙ then_same (null r) rest (run (listed r) rest) (λ l. pure (xs ++ (x ∷ l.0), l.1)) (λ l. pure ((xs ++ x ∷ []) ++ l.0, l.1)) (run_runs (listed r) p rest) (λ l end j. ap (λ k. took (k, l.1) end) (flip (append_assoc xs (x ∷ []) l.0))))
    refl))
    refl)
    ∙ flip (follow_is r all' b.2 ts)
