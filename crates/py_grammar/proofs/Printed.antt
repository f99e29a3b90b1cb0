-- The form with look-ahead derives what the printed form derives, and nothing else.
use Rattle.std.proofs.Common.{◌≡◌, Bool, true, false, List, [], ◌∷◌, ◌++◌, Option, Some, None, refl, sym as flip, ◌∙◌, ap, subst, append-nil}
use Rattle.py_grammar.specs.declared.symbol.Sym.TheVariants as sym
use Rattle.py_grammar.specs.declared.symbol.Symbol.{Symbol}
use denote.Hole.Carrier.{out}
use Rattle.py_grammar.specs.declared.expression.Tree.{Tree, out-Tree}
use Rattle.py_grammar.specs.declared.expression.Tree.TheVariants as tree
use Rattle.py_grammar.specs.declared.expression.Arg.{Arg}
use Rattle.py_grammar.specs.declared.expression.Arg.TheVariants as arg
use Rattle.py_grammar.specs.declared.expression.Exprs.{Exprs}
use Rattle.py_grammar.specs.declared.expression.BinaryOp.{BinaryOp}
use Rattle.py_grammar.specs.Codes.{Code, Value}
use Rattle.py_grammar.specs.Parts.{Part, Made}
use Rattle.py_grammar.specs.Rules.{Rule, Table, one, part, ◌~◌, ◌∣◌, maybe, many, listed, before, ◌⇒◌}
use Rattle.py_grammar.specs.Trees.{word, place_of, as_name, is_name, argument, keyed, exprs_of, grouped, applied, raised, compared, chosen, is_single, single_in, subscript, head_of}
use Rattle.py_grammar.specs.Grammar.{rule, with_operators, suffix}
use Rattle.py_grammar.specs.Ahead.{ahead}
use Rattle.py_grammar.specs.Derives.{Derives, DerivesMany, DerivesListed, a_symbol, a_part, in_turn, the_first, the_second, absent, present, repeated, in_a_list, alone, with_more, made_of, none_left, one_more, the_last, last_comma, more_listed}
use Rattle.py_grammar.proofs.Shapes.{OneOf, former, latter, MayBe, nothing, something, Behind, bare, followed, MadeOf, Shape, shape, recast}

-- ---- a name alone

-- a tree that is a name is derived by one symbol
pub record IsWord (x : Tree) (u : List Symbol) : Type 0 where
  pub symbol : Symbol
  pub kind : symbol.sym ≡ sym.Name
  pub same_tree : x ≡ tree.Name (word symbol)
  pub alone : u ≡ symbol ∷ []

abbrev pub Bare : Tree → List Symbol → Type 0
Bare x u = is_name x ≡ true → IsWord x u

-- a tree of another variant
other : (x y : Tree) (u : List Symbol) → x ≡ y → is_name y ≡ false → Bare x u
other x y u e f h = absurd (clash (is_name y) (flip (ap is_name e) ∙ h) f)
  where
    clash : (b : Bool) → b ≡ true → b ≡ false → ⊥
    clash b p q = cc

same_bare : (x y : Tree) (u v : List Symbol) → x ≡ y → u ≡ v → Bare y v → Bare x u
same_bare x y u v e f b h = let w = b (flip (ap is_name e) ∙ h) in record { symbol = w.symbol; kind = w.kind; same_tree = e ∙ w.same_tree; alone = f ∙ w.alone }

binary_no_name : (x : Tree) (ps : List (BinaryOp × Tree)) → is_name x ≡ false → is_name (grouped x ps) ≡ false
unfolding as_name out-Tree out
binary_no_name x [] e = e
binary_no_name x (p ∷ ps) e = binary_no_name (tree.Binary (place_of x) p.0 x p.1) ps refl

-- a rule that derives names only by one symbol
abbrev IsBare : Rule Code.Tree → Type 0
IsBare r = (x : Tree) (u : List Symbol) → Derives rule Code.Tree r x u → Bare x u

-- operators with two operands
module _ (r : Rule Code.Tree) (o : Rule Code.BinaryOp) (operand : IsBare r) where
  grouped_bare : (x : Tree) (ps : List (BinaryOp × Tree)) (u v : List Symbol) → Derives rule Code.Tree r x u → DerivesMany rule (Code.Pair Code.BinaryOp Code.Tree) (o ~ r) ps v → Bare (grouped x ps) (u ++ v)
  unfolding as_name out-Tree out
  grouped_bare x _ u _ d (none_left _) = same_bare x x (u ++ []) u refl (append-nil u) (operand x u d)
  grouped_bare x _ u _ d (one_more _ p ps v w e es) = other (grouped x (p ∷ ps)) (grouped x (p ∷ ps)) (u ++ (v ++ w)) refl (binary_no_name (tree.Binary (place_of x) p.0 x p.1) ps refl)

  operators_bare : IsBare (with_operators r o)
  operators_bare x u d =
      let m = shape d in
      let p = shape m.derived in
      same_bare x (grouped m.from.0 m.from.1) u (p.left ++ p.right) m.made p.whole (grouped_bare m.from.0 m.from.1 p.left p.right p.former (shape p.latter))

-- a rule that makes other trees
made_bare : {A : Code} (r : Rule A) (f : Value A → Tree) → ((p : Value A) → is_name (f p) ≡ false) → IsBare (r ⇒ f)
made_bare r f none x u d = let m = shape d in other x (f m.from) u m.made (none m.from)

either_bare : (r s : Rule Code.Tree) → IsBare r → IsBare s → IsBare (r ∣ s)
either_bare r s a b x u d = pick (shape d)
  where
    pick : OneOf rule r s x u → Bare x u
    pick (former e) = a x u e
    pick (latter e) = b x u e

-- a rule, and maybe more behind it that makes another tree
module _ {A : Code} (r : Rule Code.Tree) (s : Rule A) (f : Tree → Option (Value A) → Tree) (operand : IsBare r) (same_tree : (x : Tree) → f x None ≡ x) (none : (x : Tree) (y : Value A) → is_name (f x (Some y)) ≡ false) where
  maybe_bare : IsBare (r ~ maybe s ⇒ (λ p. f p.0 p.1))
  maybe_bare x u d =
      let m = shape d in
      let p = shape m.derived in
      pick m.from.0 m.from.1 p.left p.right m.made p.whole p.former (shape p.latter)
    where
      pick : (y : Tree) (z : Option (Value A)) (v w : List Symbol) → x ≡ f y z → u ≡ v ++ w → Derives rule Code.Tree r y v → MayBe rule s z w → Bare x u
      pick y z v w e at d (nothing ez ew) = same_bare x y u v (e ∙ ap (f y) ez ∙ same_tree y) (at ∙ ap (λ l. v ++ l) ew ∙ append-nil v) (operand y v d)
      pick y z v w e at d (something q ez dq) = other x (f y (Some q)) u (e ∙ ap (f y) ez) (none y q)

atom_bare : IsBare (part Part.Atom)
unfolding rule as_name out-Tree out
atom_bare x u d =
    either_bare _ _ (λ x u d. let m = shape d in let t = shape m.derived in λ e. record { symbol = m.from; kind = t.kind; same_tree = m.made; alone = t.alone })
    (either_bare _ _ (made_bare _ _ (λ p. refl))
    (either_bare _ _ (made_bare _ _ (λ p. refl))
    (either_bare _ _ (made_bare _ _ (λ p. refl))
    (either_bare _ _ (made_bare _ _ (λ p. refl))
    (either_bare _ _ (made_bare _ _ (λ p. refl))
    (either_bare _ _ (made_bare _ _ (λ p. refl))
    (made_bare _ _ (λ p. refl))))))))
    x u (shape d)

power_bare : IsBare (part Part.Post) → IsBare (part Part.Power)
unfolding rule as_name out-Tree out
power_bare b x u d = maybe_bare (part Part.Post) (one sym.Power ~ part Part.Unary) raised b (λ x. refl) (λ x y. refl) x u (shape d)

unary_bare : IsBare (part Part.Power) → IsBare (part Part.Unary)
unfolding rule as_name out-Tree out
unary_bare b x u d =
    either_bare _ _ (made_bare _ _ (λ p. refl)) (either_bare _ _ (made_bare _ _ (λ p. refl)) (either_bare _ _ (made_bare _ _ (λ p. refl)) b)) x u (shape d)

not_bare : IsBare (part Part.Cmp) → IsBare (part Part.Not)
unfolding rule as_name out-Tree out
not_bare b x u d = either_bare _ _ (made_bare _ _ (λ p. refl)) b x u (shape d)

cmp_bare : IsBare (part Part.BitOr) → IsBare (part Part.Cmp)
unfolding rule as_name out-Tree out
cmp_bare b x u d = maybe_bare (part Part.BitOr) _ compared b (λ x. refl) (λ x y. refl) x u (shape d)

choose_bare : IsBare (part Part.Or) → IsBare (part Part.Expr)
unfolding rule as_name out-Tree out
choose_bare b x u d = maybe_bare (part Part.Or) _ chosen b (λ x. refl) (λ x y. refl) x u (shape d)

-- what stands behind an atom makes no name
abbrev Maker : Code
Maker = Code.Arrow Code.Tree Code.Tree

abbrev MakesNone : Rule Maker → Type 0
MakesNone r = (h : Tree → Tree) (u : List Symbol) → Derives rule Maker r h u → (x : Tree) → is_name (h x) ≡ false

maker : {A : Code} (r : Rule A) (f : Value A → Tree → Tree) → ((p : Value A) (x : Tree) → is_name (f p x) ≡ false) → MakesNone (r ⇒ f)
maker r f none h u d x = let m = shape d in ap (λ q. is_name (q x)) m.made ∙ none m.from x

either_maker : (r s : Rule Maker) → MakesNone r → MakesNone s → MakesNone (r ∣ s)
either_maker r s a b h u d x = pick (shape d)
  where
    pick : OneOf rule r s h u → is_name (h x) ≡ false
    pick (former e) = a h u e x
    pick (latter e) = b h u e x

subscript_none : MakesNone (part Part.Subscript)
unfolding rule as_name out-Tree out
subscript_none h u d x = either_maker _ _ (maker _ _ (λ p x. refl)) (maker _ _ (λ p x. refl)) h u (shape d) x

bracketed_none : MakesNone (one sym.LBracket ~ part Part.Subscript ~ one sym.RBracket ⇒ (λ p. p.1.0))
bracketed_none h u d x = let m = shape d in let p = shape m.derived in let q = shape p.latter in ap (λ f. is_name (f x)) m.made ∙ subscript_none m.from.1.0 q.left q.former x

suffix_none : MakesNone suffix
unfolding as_name out-Tree out
suffix_none h u d x = either_maker _ _ (maker _ _ (λ p x. refl)) (either_maker _ _ (maker _ _ (λ p x. refl)) bracketed_none) h u d x

applied_none : (fs : List (Tree → Tree)) (v : List Symbol) → DerivesMany rule Maker suffix fs v → (x : Tree) → is_name x ≡ false → is_name (applied x fs) ≡ false
applied_none _ _ (none_left _) x e = e
applied_none _ _ (one_more _ f fs v w d ds) x e = applied_none fs w ds (f x) (suffix_none f v d x)

applied_bare : (x : Tree) (fs : List (Tree → Tree)) (u v : List Symbol) → Bare x u → DerivesMany rule Maker suffix fs v → Bare (applied x fs) (u ++ v)
applied_bare x _ u _ b (none_left _) = same_bare x x (u ++ []) u refl (append-nil u) b
applied_bare x _ u _ b (one_more _ f fs v w d ds) = other (applied (f x) fs) (applied (f x) fs) (u ++ (v ++ w)) refl (applied_none fs w ds (f x) (suffix_none f v d x))

post_bare : IsBare (part Part.Post)
unfolding rule
post_bare x u d =
    let m = shape (shape d) in
    let p = shape m.derived in
    same_bare x (applied m.from.0 m.from.1) u (p.left ++ p.right) m.made p.whole (applied_bare m.from.0 m.from.1 p.left p.right (atom_bare m.from.0 p.left p.former) (shape p.latter))

expr_bare : IsBare (part Part.Expr)
unfolding rule
expr_bare =
    let unary : IsBare (part Part.Unary) = unary_bare (power_bare post_bare) in
    let term : IsBare (part Part.Term) = λ x u d. operators_bare (part Part.Unary) _ unary x u (shape d) in
    let sum : IsBare (part Part.Sum) = λ x u d. operators_bare (part Part.Term) _ term x u (shape d) in
    let shift : IsBare (part Part.Shift) = λ x u d. operators_bare (part Part.Sum) _ sum x u (shape d) in
    let band : IsBare (part Part.BitAnd) = λ x u d. operators_bare (part Part.Shift) _ shift x u (shape d) in
    let xor : IsBare (part Part.BitXor) = λ x u d. operators_bare (part Part.BitAnd) _ band x u (shape d) in
    let bor : IsBare (part Part.BitOr) = λ x u d. operators_bare (part Part.BitXor) _ xor x u (shape d) in
    let not_ : IsBare (part Part.Not) = not_bare (cmp_bare bor) in
    let and_ : IsBare (part Part.And) = λ x u d. operators_bare (part Part.Not) _ not_ x u (shape d) in
    let or_ : IsBare (part Part.Or) = λ x u d. operators_bare (part Part.And) _ and_ x u (shape d) in
    choose_bare or_

-- ---- arguments

-- a name is an expression
module _ (t : Symbol) (e : t.sym ≡ sym.Name) where
  abbrev Reads : Rule Code.Tree → Type 0
  Reads r = Derives ahead Code.Tree r (tree.Name (word t)) (t ∷ [])

  operand : {A : Code} (r : Rule Code.Tree) (s : Rule A) (f : Tree × List (Value A) → Tree) → f (tree.Name (word t), []) ≡ tree.Name (word t) → Reads r → Reads (r ~ many s ⇒ f)
  operand r s f at d = subst (λ x. Derives ahead Code.Tree (r ~ many s ⇒ f) x (t ∷ [])) at (made_of (r ~ many s) f (tree.Name (word t), []) (t ∷ []) (in_turn r (many s) (tree.Name (word t)) [] (t ∷ []) [] d (repeated s [] [] (none_left s))))

  without : {A : Code} (r : Rule Code.Tree) (s : Rule A) (f : Tree × Option (Value A) → Tree) → f (tree.Name (word t), None) ≡ tree.Name (word t) → Reads r → Reads (r ~ maybe s ⇒ f)
  without r s f at d = subst (λ x. Derives ahead Code.Tree (r ~ maybe s ⇒ f) x (t ∷ [])) at (made_of (r ~ maybe s) f (tree.Name (word t), None) (t ∷ []) (in_turn r (maybe s) (tree.Name (word t)) None (t ∷ []) [] d (absent s)))

  name_expr : Reads (part Part.Expr)
  unfolding rule ahead
  name_expr =
      let x : Tree = tree.Name (word t) in
      let u : List Symbol = t ∷ [] in
      let atom : Reads (part Part.Atom) = a_part Part.Atom x u (the_first _ _ x u (made_of (one sym.Name) _ t u (a_symbol t sym.Name e))) in
      let post : Reads (part Part.Post) = a_part Part.Post x u (operand _ _ _ refl atom) in
      let power : Reads (part Part.Power) = a_part Part.Power x u (without _ _ _ refl post) in
      let unary : Reads (part Part.Unary) = a_part Part.Unary x u (the_second _ _ x u (the_second _ _ x u (the_second _ _ x u power))) in
      let term : Reads (part Part.Term) = a_part Part.Term x u (operand _ _ _ refl unary) in
      let sum : Reads (part Part.Sum) = a_part Part.Sum x u (operand _ _ _ refl term) in
      let shift : Reads (part Part.Shift) = a_part Part.Shift x u (operand _ _ _ refl sum) in
      let band : Reads (part Part.BitAnd) = a_part Part.BitAnd x u (operand _ _ _ refl shift) in
      let xor : Reads (part Part.BitXor) = a_part Part.BitXor x u (operand _ _ _ refl band) in
      let bor : Reads (part Part.BitOr) = a_part Part.BitOr x u (operand _ _ _ refl xor) in
      let cmp : Reads (part Part.Cmp) = a_part Part.Cmp x u (without _ _ _ refl bor) in
      let not_ : Reads (part Part.Not) = a_part Part.Not x u (the_second _ _ x u cmp) in
      let and_ : Reads (part Part.And) = a_part Part.And x u (operand _ _ _ refl not_) in
      let or_ : Reads (part Part.Or) = a_part Part.Or x u (operand _ _ _ refl and_) in
      a_part Part.Expr x u (without _ _ _ refl or_)

module _ (y : Arg) (u : List Symbol) where
  keyed_ahead : MadeOf ahead Code.Arg (one sym.Name ~ one sym.Assign ~ part Part.Expr) (λ p. arg.Keyed (word p.0) p.1.1) y u
      → ((t : Symbol) → t.sym ≡ sym.Name → Derives ahead Code.Tree (part Part.Expr) (tree.Name (word t)) (t ∷ []))
      → Derives ahead Code.Arg (before is_name (part Part.Expr) sym.Assign (part Part.Expr) ⇒ argument) y u
  unfolding as_name out-Tree out
  keyed_ahead m name =
      let p = shape m.derived in
      let q = shape p.latter in
      let t = shape p.former in
      let s = shape q.former in
      subst (λ z. Derives ahead Code.Arg (before is_name (part Part.Expr) sym.Assign (part Part.Expr) ⇒ argument) z u) (flip m.made)
      (subst (λ w. Derives ahead Code.Arg (before is_name (part Part.Expr) sym.Assign (part Part.Expr) ⇒ argument) (arg.Keyed (word m.from.0) m.from.1.1) w)
      (flip (p.whole ∙ ap (λ l. l ++ p.right) t.alone ∙ ap (λ l. m.from.0 ∷ l) (q.whole ∙ ap (λ l. l ++ q.right) s.alone)))
      (made_of (before is_name (part Part.Expr) sym.Assign (part Part.Expr)) argument (tree.Name (word m.from.0), Some m.from.1.1) (m.from.0 ∷ (m.from.1.0 ∷ q.right))
      (with_more is_name (part Part.Expr) sym.Assign (part Part.Expr) (tree.Name (word m.from.0)) m.from.1.1 m.from.1.0 (m.from.0 ∷ []) q.right (name m.from.0 t.kind) refl s.kind q.latter)))

  plain_ahead : MadeOf ahead Code.Arg (part Part.Expr) (λ x. arg.Plain x) y u → Derives ahead Code.Arg (before is_name (part Part.Expr) sym.Assign (part Part.Expr) ⇒ argument) y u
  plain_ahead m =
      subst (λ z. Derives ahead Code.Arg (before is_name (part Part.Expr) sym.Assign (part Part.Expr) ⇒ argument) z u) (flip m.made)
      (made_of (before is_name (part Part.Expr) sym.Assign (part Part.Expr)) argument (m.from, None) u (alone is_name (part Part.Expr) sym.Assign (part Part.Expr) m.from u m.derived))

argument_ahead : (y : Arg) (u : List Symbol) → Derives ahead Code.Arg (rule Part.Argument) y u → Derives ahead Code.Arg (ahead Part.Argument) y u
unfolding rule ahead
argument_ahead y u d = pick (shape d)
  where
    pick : Shape ahead (rule Part.Argument) y u → Derives ahead Code.Arg (ahead Part.Argument) y u
    pick (former e) = keyed_ahead y u (shape e) (λ t k. name_expr t k)
    pick (latter e) = plain_ahead y u (shape e)

argument_printed : (y : Arg) (u : List Symbol) → Derives rule Code.Arg (ahead Part.Argument) y u → Derives rule Code.Arg (rule Part.Argument) y u
unfolding rule ahead as_name out-Tree out
argument_printed y u d = let m = shape d in pick m.from.0 m.from.1 m.made (shape m.derived)
  where
    pick : (x : Tree) (z : Option Tree) → y ≡ argument (x, z) → Behind rule is_name (part Part.Expr) sym.Assign (part Part.Expr) (x, z) u → Derives rule Code.Arg (rule Part.Argument) y u
    pick x z e (bare ez dx) =
        subst (λ q. Derives rule Code.Arg (rule Part.Argument) q u) (flip (e ∙ ap (λ z. keyed x z (as_name x)) ez))
        (the_second _ _ (arg.Plain x) u (made_of (part Part.Expr) (λ x. arg.Plain x) x u dx))
    pick x z e (followed b t v w ez at dx f k db) =
        let n = expr_bare x v dx f in
        subst (λ q. Derives rule Code.Arg (rule Part.Argument) q u) (flip (e ∙ ap (λ z. keyed x z (as_name x)) ez ∙ ap (λ x. keyed x (Some b) (as_name x)) n.same_tree))
        (subst (λ l. Derives rule Code.Arg (rule Part.Argument) (arg.Keyed (word n.symbol) b) l) (flip (at ∙ ap (λ l. l ++ (t ∷ w)) n.alone))
        (the_first _ _ (arg.Keyed (word n.symbol) b) (n.symbol ∷ (t ∷ w)) (made_of (one sym.Name ~ one sym.Assign ~ part Part.Expr) (λ p. arg.Keyed (word p.0) p.1.1) (n.symbol, (t, b)) (n.symbol ∷ (t ∷ w))
        (in_turn (one sym.Name) (one sym.Assign ~ part Part.Expr) n.symbol (t, b) (n.symbol ∷ []) (t ∷ w) (a_symbol n.symbol sym.Name n.kind)
        (in_turn (one sym.Assign) (part Part.Expr) t b (t ∷ []) w (a_symbol t sym.Assign k) db)))))

-- ---- subscripts

abbrev Between : Table → Rule (Code.OptionOf Code.Tree) → Rule (Code.OptionOf Code.Tree) → (Tree → Tree) → List Symbol → Type 0
Between g r s f u = MadeOf g Maker (r ~ one sym.Colon ~ s) (λ p x. tree.Slice (place_of x) x p.0 p.1.1) f u

-- one expression with no comma
alone_in : (g : Table) (x : Tree) (u : List Symbol) → Derives g Code.Tree (part Part.Expr) x u → ((y : Exprs) (v : List Symbol) → Derives g Code.Exprs (rule Part.Exprs) y v → Derives g Code.Exprs (part Part.Exprs) y v) → Derives g Code.Exprs (part Part.Exprs) (exprs_of (x ∷ [], false)) u
unfolding rule
alone_in g x u d by = by (exprs_of (x ∷ [], false)) u (made_of (listed (part Part.Expr)) exprs_of (x ∷ [], false) u (in_a_list (part Part.Expr) (x ∷ []) false u (the_last (part Part.Expr) x u d)))

pub record IsAlone (xs : List Tree) (u : List Symbol) : Type 0 where
  pub tree : Tree
  pub only : xs ≡ tree ∷ []
  pub derived : Derives rule Code.Tree (part Part.Expr) tree u

single_listed : (xs : List Tree) (c : Bool) (u : List Symbol) → DerivesListed rule Code.Tree (part Part.Expr) xs c u → single_in xs c ≡ true → IsAlone xs u
single_listed _ _ _ (the_last _ x u d) e = record { tree = x; only = refl; derived = d }
single_listed _ _ _ (last_comma _ x u t d k) e = absurd cc
single_listed _ _ _ (more_listed _ x _ _ u _ t d k (the_last _ y v d')) e = absurd cc
single_listed _ _ _ (more_listed _ x _ _ u _ t d k (last_comma _ y v t' d' k')) e = absurd cc
single_listed _ _ _ (more_listed _ x _ _ u _ t d k (more_listed _ y ys c v w t' d' k' ds)) e = absurd cc

single_exprs : (e : Exprs) (u : List Symbol) → Derives rule Code.Exprs (part Part.Exprs) e u → is_single e ≡ true → IsAlone e.items u
unfolding rule
single_exprs e u d h =
    let m = shape (shape d) in
    let a = single_listed m.from.0 m.from.1 u (shape m.derived) (flip (ap is_single m.made) ∙ h) in
    record { tree = a.tree; only = ap (λ e. e.items) m.made ∙ a.only; derived = a.derived }

abbrev colon_rule : Rule Maker
colon_rule = one sym.Colon ~ maybe (part Part.Expr) ⇒ (λ p x. tree.Slice (place_of x) x None p.1)

abbrev behind_rule : Rule (Code.Pair Code.Exprs (Code.OptionOf (Code.OptionOf Code.Tree)))
behind_rule = before is_single (part Part.Exprs) sym.Colon (maybe (part Part.Expr))

module _ (f : Tree → Tree) (u : List Symbol) where
  index_ahead : MadeOf ahead Maker (part Part.Exprs) (λ e x. tree.Index (place_of x) x e.items e.comma) f u → Derives ahead Maker (ahead Part.Subscript) f u
  unfolding ahead
  index_ahead m =
      subst (λ g. Derives ahead Maker (ahead Part.Subscript) g u) (flip m.made)
      (the_second colon_rule (behind_rule ⇒ (λ p x. subscript p.0 p.1 x)) (λ x. tree.Index (place_of x) x m.from.items m.from.comma) u
      (made_of behind_rule (λ p x. subscript p.0 p.1 x) (m.from, None) u (alone is_single (part Part.Exprs) sym.Colon (maybe (part Part.Expr)) m.from u m.derived)))

  slice_ahead : (a b : Option Tree) (t : Symbol) (v w : List Symbol) → t.sym ≡ sym.Colon → MayBe ahead (part Part.Expr) a v → Derives ahead (Code.OptionOf Code.Tree) (maybe (part Part.Expr)) b w → Derives ahead Maker (ahead Part.Subscript) (λ x. tree.Slice (place_of x) x a b) (v ++ (t ∷ w))
  unfolding ahead
  slice_ahead a b t v w k (nothing ea ev) d =
      subst (λ a. Derives ahead Maker (ahead Part.Subscript) (λ x. tree.Slice (place_of x) x a b) (v ++ (t ∷ w))) (flip ea)
      (subst (λ v. Derives ahead Maker (ahead Part.Subscript) (λ x. tree.Slice (place_of x) x None b) (v ++ (t ∷ w))) (flip ev)
      (the_first colon_rule (behind_rule ⇒ (λ p x. subscript p.0 p.1 x)) (λ x. tree.Slice (place_of x) x None b) (t ∷ w)
      (made_of (one sym.Colon ~ maybe (part Part.Expr)) (λ p x. tree.Slice (place_of x) x None p.1) (t, b) (t ∷ w) (in_turn (one sym.Colon) (maybe (part Part.Expr)) t b (t ∷ []) w (a_symbol t sym.Colon k) d))))
  slice_ahead a b t v w k (something y ea dy) d =
      subst (λ a. Derives ahead Maker (ahead Part.Subscript) (λ x. tree.Slice (place_of x) x a b) (v ++ (t ∷ w))) (flip ea)
      (the_second colon_rule (behind_rule ⇒ (λ p x. subscript p.0 p.1 x)) (λ x. tree.Slice (place_of x) x (Some y) b) (v ++ (t ∷ w))
      (made_of behind_rule (λ p x. subscript p.0 p.1 x) (exprs_of (y ∷ [], false), Some b) (v ++ (t ∷ w))
      (with_more is_single (part Part.Exprs) sym.Colon (maybe (part Part.Expr)) (exprs_of (y ∷ [], false)) b t v w (alone_in ahead y v dy (λ y v d. a_part Part.Exprs y v d)) refl k d)))

  between_ahead : Between ahead (maybe (part Part.Expr)) (maybe (part Part.Expr)) f u → Derives ahead Maker (ahead Part.Subscript) f u
  between_ahead m =
      let p = shape m.derived in
      let q = shape p.latter in
      let s = shape q.former in
      subst (λ g. Derives ahead Maker (ahead Part.Subscript) g u) (flip m.made)
      (subst (λ l. Derives ahead Maker (ahead Part.Subscript) (λ x. tree.Slice (place_of x) x m.from.0 m.from.1.1) l) (flip (p.whole ∙ ap (λ l. p.left ++ l) (q.whole ∙ ap (λ l. l ++ q.right) s.alone)))
      (slice_ahead m.from.0 m.from.1.1 m.from.1.0 p.left q.right s.kind (shape p.former) q.latter))

subscript_ahead : (f : Tree → Tree) (u : List Symbol) → Derives ahead Maker (rule Part.Subscript) f u → Derives ahead Maker (ahead Part.Subscript) f u
unfolding rule
subscript_ahead f u d = pick (shape d)
  where
    pick : Shape ahead (rule Part.Subscript) f u → Derives ahead Maker (ahead Part.Subscript) f u
    pick (former e) = index_ahead f u (shape e)
    pick (latter e) = between_ahead f u (shape e)

module _ (f : Tree → Tree) (u : List Symbol) where
  slice_printed : (a b : Option Tree) (t : Symbol) (v w : List Symbol) → t.sym ≡ sym.Colon → Derives rule (Code.OptionOf Code.Tree) (maybe (part Part.Expr)) a v → Derives rule (Code.OptionOf Code.Tree) (maybe (part Part.Expr)) b w → Derives rule Maker (rule Part.Subscript) (λ x. tree.Slice (place_of x) x a b) (v ++ (t ∷ w))
  unfolding rule
  slice_printed a b t v w k da db =
      the_second (part Part.Exprs ⇒ (λ e x. tree.Index (place_of x) x e.items e.comma)) _ (λ x. tree.Slice (place_of x) x a b) (v ++ (t ∷ w))
      (made_of (maybe (part Part.Expr) ~ one sym.Colon ~ maybe (part Part.Expr)) (λ p x. tree.Slice (place_of x) x p.0 p.1.1) (a, (t, b)) (v ++ (t ∷ w))
      (in_turn (maybe (part Part.Expr)) (one sym.Colon ~ maybe (part Part.Expr)) a (t, b) v (t ∷ w) da
      (in_turn (one sym.Colon) (maybe (part Part.Expr)) t b (t ∷ []) w (a_symbol t sym.Colon k) db)))

  colon_printed : MadeOf rule Maker (one sym.Colon ~ maybe (part Part.Expr)) (λ p x. tree.Slice (place_of x) x None p.1) f u → Derives rule Maker (rule Part.Subscript) f u
  colon_printed m =
      let p = shape m.derived in
      let s = shape p.former in
      subst (λ g. Derives rule Maker (rule Part.Subscript) g u) (flip m.made)
      (subst (λ l. Derives rule Maker (rule Part.Subscript) (λ x. tree.Slice (place_of x) x None m.from.1) l) (flip (p.whole ∙ ap (λ l. l ++ p.right) s.alone))
      (slice_printed None m.from.1 m.from.0 [] p.right s.kind (absent (part Part.Expr)) p.latter))

  behind_printed : (e : Exprs) (z : Option (Option Tree)) → f ≡ (λ x. subscript e z x) → Behind rule is_single (part Part.Exprs) sym.Colon (maybe (part Part.Expr)) (e, z) u → Derives rule Maker (rule Part.Subscript) f u
  unfolding rule
  behind_printed e z at (bare ez d) =
      subst (λ g. Derives rule Maker (rule Part.Subscript) g u) (flip (at ∙ ap (λ z x. subscript e z x) ez))
      (the_first _ _ (λ x. tree.Index (place_of x) x e.items e.comma) u (made_of (part Part.Exprs) (λ e x. tree.Index (place_of x) x e.items e.comma) e u d))
  behind_printed e z at (followed b t v w ez whole d single k db) =
      let a = single_exprs e v d single in
      subst (λ g. Derives rule Maker (rule Part.Subscript) g u) (flip (at ∙ ap (λ z x. subscript e z x) ez ∙ ap (λ l x. tree.Slice (place_of x) x (head_of l) b) a.only))
      (subst (λ l. Derives rule Maker (rule Part.Subscript) (λ x. tree.Slice (place_of x) x (Some a.tree) b) l) (flip whole)
      (slice_printed (Some a.tree) b t v w k (present (part Part.Expr) a.tree v a.derived) db))

subscript_printed : (f : Tree → Tree) (u : List Symbol) → Derives rule Maker (ahead Part.Subscript) f u → Derives rule Maker (rule Part.Subscript) f u
unfolding ahead
subscript_printed f u d = pick (shape d)
  where
    pick : Shape rule (ahead Part.Subscript) f u → Derives rule Maker (rule Part.Subscript) f u
    pick (former e) = colon_printed f u (shape e)
    pick (latter e) = let m = shape e in behind_printed f u m.from.0 m.from.1 m.made (shape m.derived)

-- ---- both forms

to_ahead : (m : Part) (x : Value (Made m)) (u : List Symbol) → Derives ahead (Made m) (rule m) x u → Derives ahead (Made m) (ahead m) x u
unfolding ahead
to_ahead Part.Argument x u d = argument_ahead x u d
to_ahead Part.Subscript x u d = subscript_ahead x u d
to_ahead _ x u d = d

to_printed : (m : Part) (x : Value (Made m)) (u : List Symbol) → Derives rule (Made m) (ahead m) x u → Derives rule (Made m) (rule m) x u
unfolding ahead
to_printed Part.Argument x u d = argument_printed x u d
to_printed Part.Subscript x u d = subscript_printed x u d
to_printed _ x u d = d

-- the form with look-ahead derives what the printed form derives
pub ahead_of : {A : Code} {r : Rule A} {x : Value A} {u : List Symbol} → Derives rule A r x u → Derives ahead A r x u
ahead_of d = recast rule ahead to_ahead d

-- and nothing else
pub printed_of : {A : Code} {r : Rule A} {x : Value A} {u : List Symbol} → Derives ahead A r x u → Derives rule A r x u
printed_of d = recast ahead rule to_printed d
