-- The parser of a rule takes what the rule derives, and fails at a symbol with which nothing goes on.
use Rattle.std.proofs.Common.{◌≡◌, ℕ, zero, suc, ◌≤◌, Bool, true, false, cond, List, [], ◌∷◌, ◌++◌, Option, Some, None, refl, sym as flip, subst, arith, append-nil}
use Rattle.py_grammar.specs.declared.symbol.Sym.{Sym}
use Rattle.py_grammar.specs.declared.symbol.Sym.TheVariants as sym
use Rattle.py_grammar.specs.declared.symbol.Symbol.{Symbol}
use Rattle.py_grammar.specs.Codes.{Code, Value}
use Rattle.py_grammar.specs.Parts.{Part, Made}
use Rattle.py_grammar.specs.Rules.{Rule, one, part, ◌~◌, ◌∣◌, maybe, many, listed, before, ◌⇒◌, has}
use Rattle.py_grammar.specs.Sets.{first}
use Rattle.py_grammar.specs.Grammar.{rule}
use Rattle.py_grammar.specs.Ahead.{ahead}
use Rattle.py_grammar.specs.Derives.{Derives, DerivesMany, DerivesListed, a_symbol, a_part, in_turn, the_first, the_second, absent, present, repeated, in_a_list, alone, with_more, made_of, none_left, one_more, the_last, last_comma, more_listed}
use Rattle.py_grammar.specs.Parser.{Parser, ◌>>=◌, pure, ◌<$>◌, peek, expect, either, turns, commas, items, fit_for, Parsers, parse, parsers}
use Rattle.py_grammar.proofs.Outcomes.{Judge, then_good, map_good, read_as, either_good, pure_good, One, one_symbol, expect_good, sample, sample_sym}

-- something that a rule derives
pub record Sample (A : Code) (r : Rule A) : Type 0 where
  pub value : Value A
  pub symbols : List Symbol
  pub derived : Derives ahead A r value symbols

pub data Found (A : Code) (r : Rule A) : Type 0 where
  missing : Found A r
  found : Sample A r → Found A r

abbrev in_a_pair : {A B : Code} (r : Rule A) (s : Rule B) → Found A r → Found B s → Found (Code.Pair A B) (r ~ s)
in_a_pair r s (found a) (found b) = found (record { value = (a.value, b.value); symbols = a.symbols ++ b.symbols; derived = in_turn r s a.value b.value a.symbols b.symbols a.derived b.derived })
in_a_pair r s _ _ = missing

abbrev in_either : {A : Code} (r s : Rule A) → Found A s → Found A r → Found A (r ∣ s)
in_either r s (found a) _ = found (record { value = a.value; symbols = a.symbols; derived = the_second r s a.value a.symbols a.derived })
in_either r s missing (found a) = found (record { value = a.value; symbols = a.symbols; derived = the_first r s a.value a.symbols a.derived })
in_either r s missing missing = missing

abbrev in_list : {A : Code} (r : Rule A) → Found A r → Found (Code.Pair (Code.ListOf A) Code.Flag) (listed r)
in_list r (found a) = found (record { value = (a.value ∷ [], false); symbols = a.symbols; derived = in_a_list r (a.value ∷ []) false a.symbols (the_last r a.value a.symbols a.derived) })
in_list r missing = missing

abbrev by_itself : {A B : Code} (fit : Value A → Bool) (r : Rule A) (k : Sym) (s : Rule B) → Found A r → Found (Code.Pair A (Code.OptionOf B)) (before fit r k s)
by_itself fit r k s (found a) = found (record { value = (a.value, None); symbols = a.symbols; derived = alone fit r k s a.value a.symbols a.derived })
by_itself fit r k s missing = missing

abbrev in_making : {A B : Code} (r : Rule A) (f : Value A → Value B) → Found A r → Found B (r ⇒ f)
in_making r f (found a) = found (record { value = f a.value; symbols = a.symbols; derived = made_of r f a.value a.symbols a.derived })
in_making r f missing = missing

abbrev in_part : (m : Part) → Found (Made m) (ahead m) → Found (Made m) (part m)
in_part m (found a) = found (record { value = a.value; symbols = a.symbols; derived = a_part m a.value a.symbols a.derived })
in_part m missing = missing

-- the last alternative that ends
find : ((m : Part) → Found (Made m) (part m)) → {A : Code} (r : Rule A) → Found A r
find parts (one k) = found (record { value = sample k; symbols = sample k ∷ []; derived = a_symbol (sample k) k (sample_sym k) })
find parts (part m) = parts m
find parts (r ~ s) = in_a_pair r s (find parts r) (find parts s)
find parts (r ∣ s) = in_either r s (find parts s) (find parts r)
find parts (maybe r) = found (record { value = None; symbols = []; derived = absent r })
find parts (many r) = found (record { value = []; symbols = []; derived = repeated r [] [] (none_left r) })
find parts (listed r) = in_list r (find parts r)
find parts (before fit r k s) = by_itself fit r k s (find parts r)
find parts (r ⇒ f) = in_making r f (find parts r)

finds : ℕ → (m : Part) → Found (Made m) (part m)
finds zero m = missing
finds (suc n) m = in_part m (find (finds n) (ahead m))

abbrev is_found : {A : Code} {r : Rule A} → Found A r → Bool
is_found (found a) = true
is_found missing = false

the_found : {A : Code} {r : Rule A} (x : Found A r) → is_found x ≡ true → Sample A r
the_found (found a) e = a
the_found missing e = absurd cc

all_found : (m : Part) → is_found (finds 24 m) ≡ true
unfolding rule ahead finds find
all_found Part.Module = refl
all_found _ = refl

-- every part derives something
a_phrase : (m : Part) → Sample (Made m) (part m)
a_phrase m = the_found (finds 24 m) (all_found m)

abbrev of_sum : {A B : Code} (r : Rule A) (s : Rule B) → Sample A r → Sample B s → Sample (Code.Pair A B) (r ~ s)
of_sum r s a b = record { value = (a.value, b.value); symbols = a.symbols ++ b.symbols; derived = in_turn r s a.value b.value a.symbols b.symbols a.derived b.derived }

-- and so does every rule
sample_of : {A : Code} (r : Rule A) → Sample A r
sample_of (one k) = record { value = sample k; symbols = sample k ∷ []; derived = a_symbol (sample k) k (sample_sym k) }
sample_of (part m) = a_phrase m
sample_of (r ~ s) = of_sum r s (sample_of r) (sample_of s)
sample_of (r ∣ s) = let a = sample_of r in record { value = a.value; symbols = a.symbols; derived = the_first r s a.value a.symbols a.derived }
sample_of (maybe r) = record { value = None; symbols = []; derived = absent r }
sample_of (many r) = record { value = []; symbols = []; derived = repeated r [] [] (none_left r) }
sample_of (listed r) = let a = sample_of r in record { value = (a.value ∷ [], false); symbols = a.symbols; derived = in_a_list r (a.value ∷ []) false a.symbols (the_last r a.value a.symbols a.derived) }
sample_of (before fit r k s) = let a = sample_of r in record { value = (a.value, None); symbols = a.symbols; derived = alone fit r k s a.value a.symbols a.derived }
sample_of (r ⇒ f) = let a = sample_of r in record { value = f a.value; symbols = a.symbols; derived = made_of r f a.value a.symbols a.derived }

abbrev pub DListed : {A : Code} → Rule A → List (Value A) × Bool → List Symbol → Type 0
DListed r p u = DerivesListed ahead _ r p.0 p.1 u

fit_only : (b : Bool) (k s : Sym) → has s (fit_for b k) ≡ true → b ≡ true
fit_only true k s e = refl
fit_only false k s e = absurd cc

module _ {A : Code} (r : Rule A) (ks : List Sym) (p q : Parser (Value A)) (each : (ts : List Symbol) → Judge (Derives ahead A r) q ts (p ts)) where
  turns_by : (n n' : ℕ) → ((ts : List Symbol) → Judge (DerivesMany ahead A r) (turns ks q n') ts (turns ks p n ts)) → (ts : List Symbol) (b : Bool)
      → Judge (DerivesMany ahead A r) (cond b (q >>= (λ x. (λ xs. x ∷ xs) <$> turns ks q n')) (pure [])) ts (cond b ((p >>= (λ x. (λ xs. x ∷ xs) <$> turns ks p n)) ts) (pure [] ts))
  turns_by n n' others ts true =
      then_good (Derives ahead A r) p q (DerivesMany ahead A r) (λ x. (λ xs. x ∷ xs) <$> turns ks p n) (λ x. (λ xs. x ∷ xs) <$> turns ks q n')
      (λ x u d. (x ∷ [], [], one_more r x [] u [] d (none_left r)))
      (λ x u mid d. map_good (DerivesMany ahead A r) (turns ks q n') (λ xs v. DerivesMany ahead A r xs (u ++ v)) (λ xs. x ∷ xs) (λ xs v ds. one_more r x xs u v d ds) mid (turns ks p n mid) (others mid))
      ts (p ts) (each ts)
  turns_by n n' others ts false = pure_good (DerivesMany ahead A r) ts [] (none_left r)

  pub turns_good : (n n' : ℕ) → n ≤ n' → (ts : List Symbol) → Judge (DerivesMany ahead A r) (turns ks q n') ts (turns ks p n ts)
  unfolding turns
  turns_good zero n' le ts = tt
  turns_good (suc n) zero le ts = absurd (omega arith)
  turns_good (suc n) (suc n') le ts =
      either_good (DerivesMany ahead A r) ks (q >>= (λ x. (λ xs. x ∷ xs) <$> turns ks q n')) (pure []) ts (has (peek ts) ks) refl _
      (turns_by n n' (turns_good n n' (omega arith)) ts (has (peek ts) ks))

  abbrev after_comma : (Parser (List (Value A) × Bool)) → Value A → Parser (List (Value A) × Bool)
  after_comma others x = either ks ((λ l. (x ∷ l.0, l.1)) <$> others) (pure (x ∷ [], true))

  module _ (others others' : Parser (List (Value A) × Bool)) (good : (ts : List Symbol) → Judge (DListed r) others' ts (others ts)) (x : Value A) (u : List Symbol) (d : Derives ahead A r x u) where
    comma_by : (t : Symbol) (w : List Symbol) → One sym.Comma t w → (mid : List Symbol) (b : Bool)
        → Judge (λ l v. DListed r l (u ++ (w ++ v))) (cond b ((λ l. (x ∷ l.0, l.1)) <$> others') (pure (x ∷ [], true))) mid (cond b (((λ l. (x ∷ l.0, l.1)) <$> others) mid) (pure (x ∷ [], true) mid))
    comma_by _ _ (one_symbol t e) mid true =
        map_good (DListed r) others' (λ l v. DListed r l (u ++ (t ∷ v))) (λ l. (x ∷ l.0, l.1)) (λ l v ds. more_listed r x l.0 l.1 u v t d e ds) mid (others mid) (good mid)
    comma_by _ _ (one_symbol t e) mid false = pure_good (λ l v. DListed r l (u ++ (t ∷ v))) mid (x ∷ [], true) (last_comma r x u t d e)

    comma_ends : (t : Symbol) (w : List Symbol) → One sym.Comma t w → (l : List (Value A) × Bool) × (v : List Symbol) × DListed r l (u ++ (w ++ v))
    comma_ends _ _ (one_symbol t e) = ((x ∷ [], true), [], last_comma r x u t d e)

    the_last_nil : DListed r (x ∷ [], false) (u ++ [])
    the_last_nil = subst (λ l. DerivesListed ahead A r (x ∷ []) false l) (flip (append-nil u)) (the_last r x u d)

    item_by : (mid : List Symbol) (b : Bool)
        → Judge (λ l v. DListed r l (u ++ v)) (cond b (expect sym.Comma >>= (λ t. after_comma others' x)) (pure (x ∷ [], false))) mid (cond b ((expect sym.Comma >>= (λ t. after_comma others x)) mid) (pure (x ∷ [], false) mid))
    item_by mid true =
        then_good (One sym.Comma) (expect sym.Comma) (expect sym.Comma) (λ l v. DListed r l (u ++ v)) (λ t. after_comma others x) (λ t. after_comma others' x)
        comma_ends
        (λ t w rest o. either_good (λ l v. DListed r l (u ++ (w ++ v))) ks ((λ l. (x ∷ l.0, l.1)) <$> others') (pure (x ∷ [], true)) rest (has (peek rest) ks) refl _ (comma_by t w o rest (has (peek rest) ks)))
        mid (expect sym.Comma mid) (expect_good sym.Comma mid)
    item_by mid false = pure_good (λ l v. DListed r l (u ++ v)) mid (x ∷ [], false) the_last_nil

  pub items_good : (n n' : ℕ) → n ≤ n' → (ts : List Symbol) → Judge (DListed r) (items ks q n') ts (items ks p n ts)
  unfolding items
  items_good zero n' le ts = tt
  items_good (suc n) zero le ts = absurd (omega arith)
  items_good (suc n) (suc n') le ts =
      then_good (Derives ahead A r) p q (DListed r) (λ x. either commas (expect sym.Comma >>= (λ t. after_comma (items ks p n) x)) (pure (x ∷ [], false))) (λ x. either commas (expect sym.Comma >>= (λ t. after_comma (items ks q n') x)) (pure (x ∷ [], false)))
      (λ x u d. ((x ∷ [], false), [], the_last_nil (items ks p n) (items ks q n') (items_good n n' (omega arith)) x u d))
      (λ x u mid d. either_good (λ l v. DListed r l (u ++ v)) commas (expect sym.Comma >>= (λ t. after_comma (items ks q n') x)) (pure (x ∷ [], false)) mid (has (peek mid) commas) refl _
      (item_by (items ks p n) (items ks q n') (items_good n n' (omega arith)) x u d mid (has (peek mid) commas)))
      ts (p ts) (each ts)

module _ (e e' : Parsers) (n n' : ℕ) (le : n ≤ n') (parts : (m : Part) (ts : List Symbol) → Judge (Derives ahead (Made m) (part m)) (e' m) ts (e m ts)) where
  either_by : {A : Type 0} (D : A → List Symbol → Type 0) (p q p' q' : Parser A) (ts : List Symbol) → Judge D p' ts (p ts) → Judge D q' ts (q ts) → (b : Bool) → Judge D (cond b p' q') ts (cond b (p ts) (q ts))
  either_by D p q p' q' ts a b true = a
  either_by D p q p' q' ts a b false = b

  module _ {A B : Code} (fit : Value A → Bool) (r : Rule A) (k : Sym) (s : Rule B) (gs : (ts : List Symbol) → Judge (Derives ahead B s) (parse e' n' s) ts (parse e n s ts)) (x : Value A) (u : List Symbol) (d : Derives ahead A r x u) where
    more_by : (t : Symbol) (w : List Symbol) → One k t w → fit x ≡ true → (mid : List Symbol)
        → Judge (λ y v. Derives ahead (Code.Pair A (Code.OptionOf B)) (before fit r k s) y (u ++ (w ++ v))) ((λ y. (x, Some y)) <$> parse e' n' s) mid (((λ y. (x, Some y)) <$> parse e n s) mid)
    more_by _ _ (one_symbol t h) f mid =
        map_good (Derives ahead B s) (parse e' n' s) (λ y v. Derives ahead (Code.Pair A (Code.OptionOf B)) (before fit r k s) y (u ++ (t ∷ v))) (λ y. (x, Some y)) (λ y v dy. with_more fit r k s x y t u v d f h dy) mid (parse e n s mid) (gs mid)

    more_ends : (t : Symbol) (w : List Symbol) → One k t w → fit x ≡ true → (y : Value A × Option (Value B)) × (v : List Symbol) × Derives ahead (Code.Pair A (Code.OptionOf B)) (before fit r k s) y (u ++ (w ++ v))
    more_ends _ _ (one_symbol t h) f = let a = sample_of s in ((x, Some a.value), a.symbols, with_more fit r k s x a.value t u a.symbols d f h a.derived)

    alone_nil : Derives ahead (Code.Pair A (Code.OptionOf B)) (before fit r k s) (x, None) (u ++ [])
    alone_nil = subst (λ l. Derives ahead (Code.Pair A (Code.OptionOf B)) (before fit r k s) (x, None) l) (flip (append-nil u)) (alone fit r k s x u d)

    before_by : (mid : List Symbol) (b : Bool) → has (peek mid) (fit_for (fit x) k) ≡ b
        → Judge (λ y v. Derives ahead (Code.Pair A (Code.OptionOf B)) (before fit r k s) y (u ++ v)) (cond b (expect k >>= (λ t. (λ y. (x, Some y)) <$> parse e' n' s)) (pure (x, None))) mid (cond b ((expect k >>= (λ t. (λ y. (x, Some y)) <$> parse e n s)) mid) (pure (x, None) mid))
    before_by mid true h =
        let f : fit x ≡ true = fit_only (fit x) k (peek mid) h in
        then_good (One k) (expect k) (expect k) (λ y v. Derives ahead (Code.Pair A (Code.OptionOf B)) (before fit r k s) y (u ++ v)) (λ t. (λ y. (x, Some y)) <$> parse e n s) (λ t. (λ y. (x, Some y)) <$> parse e' n' s)
        (λ t w o. more_ends t w o f) (λ t w rest o. more_by t w o f rest) mid (expect k mid) (expect_good k mid)
    before_by mid false h = pure_good (λ y v. Derives ahead (Code.Pair A (Code.OptionOf B)) (before fit r k s) y (u ++ v)) mid (x, None) alone_nil

  is_symbol : (k : Sym) (t : Symbol) (u : List Symbol) → One k t u → Derives ahead Code.Symbol (one k) t u
  is_symbol k _ _ (one_symbol t h) = a_symbol t k h

  pub rule_good : {A : Code} (r : Rule A) (ts : List Symbol) → Judge (Derives ahead A r) (parse e' n' r) ts (parse e n r ts)
  unfolding parse
  rule_good (one k) ts = read_as (One k) (Derives ahead Code.Symbol (one k)) (expect k) (is_symbol k) ts (expect k ts) (expect_good k ts)
  rule_good (part m) ts = parts m ts
  rule_good (r ~ s) ts =
      then_good (Derives ahead _ r) (parse e n r) (parse e' n' r) (Derives ahead _ (r ~ s)) (λ x. (λ y. (x, y)) <$> parse e n s) (λ x. (λ y. (x, y)) <$> parse e' n' s)
      (λ x u d. let b = sample_of s in ((x, b.value), b.symbols, in_turn r s x b.value u b.symbols d b.derived))
      (λ x u mid d. map_good (Derives ahead _ s) (parse e' n' s) (λ y v. Derives ahead _ (r ~ s) y (u ++ v)) (λ y. (x, y)) (λ y v dy. in_turn r s x y u v d dy) mid (parse e n s mid) (rule_good s mid))
      ts (parse e n r ts) (rule_good r ts)
  rule_good (r ∣ s) ts =
      either_good (Derives ahead _ (r ∣ s)) (first r) (parse e' n' r) (parse e' n' s) ts (has (peek ts) (first r)) refl _
      (either_by (Derives ahead _ (r ∣ s)) (parse e n r) (parse e n s) (parse e' n' r) (parse e' n' s) ts
      (read_as (Derives ahead _ r) (Derives ahead _ (r ∣ s)) (parse e' n' r) (λ x u d. the_first r s x u d) ts (parse e n r ts) (rule_good r ts))
      (read_as (Derives ahead _ s) (Derives ahead _ (r ∣ s)) (parse e' n' s) (λ x u d. the_second r s x u d) ts (parse e n s ts) (rule_good s ts))
      (has (peek ts) (first r)))
  rule_good (maybe r) ts =
      either_good (Derives ahead _ (maybe r)) (first r) ((λ x. Some x) <$> parse e' n' r) (pure None) ts (has (peek ts) (first r)) refl _
      (either_by (Derives ahead _ (maybe r)) ((λ x. Some x) <$> parse e n r) (pure None) ((λ x. Some x) <$> parse e' n' r) (pure None) ts
      (map_good (Derives ahead _ r) (parse e' n' r) (Derives ahead _ (maybe r)) (λ x. Some x) (λ x u d. present r x u d) ts (parse e n r ts) (rule_good r ts))
      (pure_good (Derives ahead _ (maybe r)) ts None (absent r))
      (has (peek ts) (first r)))
  rule_good (many r) ts =
      read_as (DerivesMany ahead _ r) (Derives ahead _ (many r)) (turns (first r) (parse e' n' r) n') (λ xs u d. repeated r xs u d) ts (turns (first r) (parse e n r) n ts)
      (turns_good r (first r) (parse e n r) (parse e' n' r) (rule_good r) n n' le ts)
  rule_good (listed r) ts =
      read_as (DListed r) (Derives ahead _ (listed r)) (items (first r) (parse e' n' r) n') (λ l u d. in_a_list r l.0 l.1 u d) ts (items (first r) (parse e n r) n ts)
      (items_good r (first r) (parse e n r) (parse e' n' r) (rule_good r) n n' le ts)
  rule_good (before fit r k s) ts =
      then_good (Derives ahead _ r) (parse e n r) (parse e' n' r) (Derives ahead _ (before fit r k s))
      (λ x. either (fit_for (fit x) k) (expect k >>= (λ t. (λ y. (x, Some y)) <$> parse e n s)) (pure (x, None)))
      (λ x. either (fit_for (fit x) k) (expect k >>= (λ t. (λ y. (x, Some y)) <$> parse e' n' s)) (pure (x, None)))
      (λ x u d. ((x, None), [], alone_nil fit r k s (rule_good s) x u d))
      (λ x u mid d. either_good (λ y v. Derives ahead _ (before fit r k s) y (u ++ v)) (fit_for (fit x) k) (expect k >>= (λ t. (λ y. (x, Some y)) <$> parse e' n' s)) (pure (x, None)) mid (has (peek mid) (fit_for (fit x) k)) refl _
      (before_by fit r k s (rule_good s) x u d mid (has (peek mid) (fit_for (fit x) k)) refl))
      ts (parse e n r ts) (rule_good r ts)
  rule_good (r ⇒ f) ts = map_good (Derives ahead _ r) (parse e' n' r) (Derives ahead _ (r ⇒ f)) f (λ x u d. made_of r f x u d) ts (parse e n r ts) (rule_good r ts)

-- what the parser of a part takes is derived; where it fails, what came before can go on, and nothing goes on from there; and a
-- larger bound changes neither
pub good : (n n' : ℕ) → n ≤ n' → (m : Part) (ts : List Symbol) → Judge (Derives ahead (Made m) (part m)) (parsers n' m) ts (parsers n m ts)
unfolding parsers
good zero n' le m ts = tt
good (suc n) zero le m ts = absurd (omega arith)
good (suc n) (suc n') le m ts =
    read_as (Derives ahead (Made m) (ahead m)) (Derives ahead (Made m) (part m)) (parse (parsers n') n' (ahead m)) (λ x u d. a_part m x u d) ts (parse (parsers n) n (ahead m) ts)
    (rule_good (parsers n) (parsers n') n n' (omega arith) (good n n' (omega arith)) (ahead m) ts)
