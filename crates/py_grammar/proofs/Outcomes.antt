-- Parsers of one symbol of look-ahead, whatever the grammar: what holds of the parts holds of the whole.
use Rattle.std.proofs.Common.{◌≡◌, Bool, true, false, cond, List, [], ◌∷◌, ◌++◌, None, refl, sym as flip, ◌∙◌, ap, subst, rules, append_assoc}
use denote.Enum.Bare.{same_true, true_same}
use Rattle.py_grammar.specs.contracts.symbol.Sym.{the_type}
use Rattle.py_grammar.specs.declared.symbol.Sym.{Sym}
use Rattle.py_grammar.specs.declared.symbol.Symbol.{Symbol}
use Rattle.py_grammar.specs.Rules.{same, has}
use Rattle.py_grammar.specs.Parser.{Outcome, took, stuck, spent, Parser, and_then, ◌>>=◌, pure, ◌<$>◌, first_of, sym_of, peek, take_symbol, expect, either}

-- the value derives the symbols up to rest, and a second parser takes it too, whatever follows the first symbol of rest
pub record Takes {A : Type 0} (D : A → List Symbol → Type 0) (q : Parser A) (ts : List Symbol) (x : A) (rest : List Symbol) : Type 0 where
  pub used : List Symbol
  pub whole : ts ≡ used ++ rest
  pub derives : D x used
  pub local : (other : List Symbol) → first_of rest ≡ first_of other → q (used ++ other) ≡ took x other

-- the symbols before rest can go on to something that is derived, and the second parser fails there too, whatever follows the
-- first symbol of rest
pub record Fails {A : Type 0} (D : A → List Symbol → Type 0) (q : Parser A) (ts : List Symbol) (rest : List Symbol) : Type 0 where
  pub seen : List Symbol
  pub whole : ts ≡ seen ++ rest
  pub more : List Symbol
  pub value : A
  pub viable : D value (seen ++ more)
  pub local : (other : List Symbol) → first_of rest ≡ first_of other → q (seen ++ other) ≡ stuck other

abbrev pub Judge : {A : Type 0} → (A → List Symbol → Type 0) → Parser A → List Symbol → Outcome A → Type 0
Judge D q ts (took x rest) = Takes D q ts x rest
Judge D q ts (stuck rest) = Fails D q ts rest
Judge D q ts spent = Unit {0}

same_first : (s r o : List Symbol) → first_of r ≡ first_of o → first_of (s ++ r) ≡ first_of (s ++ o)
same_first [] r o h = h
same_first (t ∷ s) r o h = refl

pub same_peek : (s r o : List Symbol) → first_of r ≡ first_of o → peek (s ++ r) ≡ peek (s ++ o)
same_peek s r o h = ap sym_of (same_first s r o h)

module _ {A B : Type 0} (D1 : A → List Symbol → Type 0) (p q : Parser A) (D : B → List Symbol → Type 0) (f g : A → Parser B)
    (ends : (x : A) (u : List Symbol) → D1 x u → (y : B) × (w : List Symbol) × D y (u ++ w))
    (goes : (x : A) (u mid : List Symbol) → D1 x u → Judge (λ y v. D y (u ++ v)) (g x) mid (f x mid)) where
  after : (ts mid : List Symbol) (x : A) → (t : Takes D1 q ts x mid) → (o : Outcome B) → Judge (λ y v. D y (t.used ++ v)) (g x) mid o → Judge D (q >>= g) ts o
  after ts mid x t (took y rest) j = record {
    used = t.used ++ j.used;
    whole = t.whole ∙ ap (λ l. t.used ++ l) j.whole ∙ flip (append_assoc t.used j.used rest);
    derives = j.derives;
    local = λ other h.
        ap (λ l. and_then (q l) g) (append_assoc t.used j.used other)
        ∙ ap (λ o. and_then o g) (t.local (j.used ++ other) (ap first_of j.whole ∙ same_first j.used rest other h))
        ∙ j.local other h;
  }
  after ts mid x t (stuck rest) j = record {
    seen = t.used ++ j.seen;
    whole = t.whole ∙ ap (λ l. t.used ++ l) j.whole ∙ flip (append_assoc t.used j.seen rest);
    more = j.more;
    value = j.value;
    viable = subst (λ l. D j.value l) (flip (append_assoc t.used j.seen j.more)) j.viable;
    local = λ other h.
        ap (λ l. and_then (q l) g) (append_assoc t.used j.seen other)
        ∙ ap (λ o. and_then o g) (t.local (j.seen ++ other) (ap first_of j.whole ∙ same_first j.seen rest other h))
        ∙ j.local other h;
  }
  after ts mid x t spent j = tt

  pub then_good : (ts : List Symbol) (o : Outcome A) → Judge D1 q ts o → Judge D (q >>= g) ts (and_then o f)
  then_good ts (took x mid) t = after ts mid x t (f x mid) (goes x t.used mid t.derives)
  then_good ts (stuck rest) j =
      let go = ends j.value (j.seen ++ j.more) j.viable in
      record {
        seen = j.seen;
        whole = j.whole;
        more = j.more ++ go.1;
        value = go.0;
        viable = subst (λ l. D go.0 l) (append_assoc j.seen j.more go.1) go.2;
        local = λ other h. ap (λ o. and_then o g) (j.local other h);
      }
  then_good ts spent j = tt

module _ {A B : Type 0} (D1 : A → List Symbol → Type 0) (q : Parser A) (D : B → List Symbol → Type 0) (f : A → B) (derived : (x : A) (u : List Symbol) → D1 x u → D (f x) u) where
  pub map_good : (ts : List Symbol) (o : Outcome A) → Judge D1 q ts o → Judge D (f <$> q) ts (and_then o (λ x. pure (f x)))
  map_good ts (took x rest) j = record {
    used = j.used;
    whole = j.whole;
    derives = derived x j.used j.derives;
    local = λ other h. ap (λ o. and_then o (λ x. pure (f x))) (j.local other h);
  }
  map_good ts (stuck rest) j = record {
    seen = j.seen;
    whole = j.whole;
    more = j.more;
    value = f j.value;
    viable = derived j.value _ j.viable;
    local = λ other h. ap (λ o. and_then o (λ x. pure (f x))) (j.local other h);
  }
  map_good ts spent j = tt

module _ {A : Type 0} (D1 D : A → List Symbol → Type 0) (q : Parser A) (derived : (x : A) (u : List Symbol) → D1 x u → D x u) where
  -- the same parser, of another relation
  pub read_as : (ts : List Symbol) (o : Outcome A) → Judge D1 q ts o → Judge D q ts o
  read_as ts (took x rest) j = record { used = j.used; whole = j.whole; derives = derived x j.used j.derives; local = j.local }
  read_as ts (stuck rest) j = record { seen = j.seen; whole = j.whole; more = j.more; value = j.value; viable = derived j.value _ j.viable; local = j.local }
  read_as ts spent j = tt

module _ {A : Type 0} (D : A → List Symbol → Type 0) (ks : List Sym) (p q : Parser A) where
  -- the next symbol settles which parser goes on
  pub either_good : (ts : List Symbol) (b : Bool) → has (peek ts) ks ≡ b → (o : Outcome A) → Judge D (cond b p q) ts o → Judge D (either ks p q) ts o
  either_good ts b e (took x rest) j = record {
    used = j.used;
    whole = j.whole;
    derives = j.derives;
    local = λ other h. settle b (j.used ++ other) (ap (λ s. has s ks) (flip (ap peek j.whole ∙ same_peek j.used rest other h)) ∙ e) ∙ j.local other h;
  }
    where
      settle : (b : Bool) (i : List Symbol) → has (peek i) ks ≡ b → either ks p q i ≡ cond b p q i
      settle true i e = ap (λ c. cond c (p i) (q i)) e
      settle false i e = ap (λ c. cond c (p i) (q i)) e
  either_good ts b e (stuck rest) j = record {
    seen = j.seen;
    whole = j.whole;
    more = j.more;
    value = j.value;
    viable = j.viable;
    local = λ other h. settle b (j.seen ++ other) (ap (λ s. has s ks) (flip (ap peek j.whole ∙ same_peek j.seen rest other h)) ∙ e) ∙ j.local other h;
  }
    where
      settle : (b : Bool) (i : List Symbol) → has (peek i) ks ≡ b → either ks p q i ≡ cond b p q i
      settle true i e = ap (λ c. cond c (p i) (q i)) e
      settle false i e = ap (λ c. cond c (p i) (q i)) e
  either_good ts b e spent j = tt

pub pure_good : {A : Type 0} (D : A → List Symbol → Type 0) (ts : List Symbol) (x : A) → D x [] → Judge D (pure x) ts (took x ts)
pure_good D ts x d = record { used = []; whole = refl; derives = d; local = λ other h. refl }

-- the list is one symbol, which is of this kind
pub data One (k : Sym) : Symbol → List Symbol → Type 0 where
  one_symbol : (t : Symbol) → t.sym ≡ k → One k t (t ∷ [])

pub same_eq : (a b : Sym) → same a b ≡ true → a ≡ b
same_eq a b e = same_true the_type (search rules) a b e

pub eq_same : (a b : Sym) → a ≡ b → same a b ≡ true
eq_same a b e = true_same the_type a b e

-- some symbol of the kind
pub sample : Sym → Symbol
sample k = record { sym = k; place = record { line = 0; col = 0 }; text = [] }

pub sample_sym : (k : Sym) → (sample k).sym ≡ k
unfolding sample
sample_sym k = refl

none_left : (k : Sym) (other : List Symbol) → first_of [] ≡ first_of other → expect k other ≡ stuck other
none_left k [] h = at_none (same (sym_of None) k)
  where
    at_none : (b : Bool) → cond b (take_symbol []) (stuck []) ≡ stuck []
    at_none true = refl
    at_none false = refl
none_left k (t ∷ ts) h = absurd cc

module _ (k : Sym) where
  guard : (i : List Symbol) (b : Bool) → same (peek i) k ≡ b → Judge (One k) (expect k) i (cond b (take_symbol i) (stuck i))
  guard [] true e = record { seen = []; whole = refl; more = sample k ∷ []; value = sample k; viable = one_symbol (sample k) (sample_sym k); local = λ other h. none_left k other h }
  guard (t ∷ ts) true e = record {
    used = t ∷ [];
    whole = refl;
    derives = one_symbol t (same_eq t.sym k e);
    local = λ other h. ap (λ b. cond b (took t other) (stuck (t ∷ other))) e;
  }
  guard i false e = record {
    seen = [];
    whole = refl;
    more = sample k ∷ [];
    value = sample k;
    viable = one_symbol (sample k) (sample_sym k);
    local = λ other h. ap (λ b. cond b (take_symbol other) (stuck other)) (ap (λ o. same (sym_of o) k) (flip h) ∙ e);
  }

  pub expect_good : (ts : List Symbol) → Judge (One k) (expect k) ts (expect k ts)
  expect_good ts = guard ts (same (peek ts) k) refl
