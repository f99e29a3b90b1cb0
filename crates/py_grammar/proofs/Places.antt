-- What a part makes stands at its first symbol.
use Rattle.std.proofs.Common.{◌≡◌, Bool, true, List, [], ◌∷◌, ◌++◌, Option, Some, None, refl, sym as flip, ◌∙◌, ap}
use denote.Hole.Carrier.{out}
use Rattle.puya_base.specs.declared.source.Place.{Place}
use Rattle.py_grammar.specs.declared.symbol.Sym.{Sym}
use Rattle.py_grammar.specs.declared.symbol.Sym.TheVariants as sym
use Rattle.py_grammar.specs.declared.symbol.Symbol.{Symbol}
use Rattle.py_grammar.specs.declared.word.Word.{Word}
use Rattle.py_grammar.specs.declared.type_tree.TypeTree.{out-TypeTree}
use Rattle.py_grammar.specs.declared.type_tree.TypeArg.{TypeArg, out-TypeArg}
use Rattle.py_grammar.specs.declared.expression.Tree.{Tree, out-Tree}
use Rattle.py_grammar.specs.declared.expression.Tree.TheVariants as tree
use Rattle.py_grammar.specs.declared.expression.Arg.{out-Arg}
use Rattle.py_grammar.specs.declared.expression.Exprs.{Exprs}
use Rattle.py_grammar.specs.declared.expression.BinaryOp.{BinaryOp}
use Rattle.py_grammar.specs.declared.expression.CompareOp.{CompareOp}
use Rattle.py_grammar.specs.declared.statement.Simple.{Simple}
use Rattle.py_grammar.specs.declared.statement.Stmt.{out-Stmt}
use Rattle.py_grammar.specs.declared.module.Item.{Item}
use Rattle.py_grammar.specs.Codes.{Code, Value}
use Rattle.py_grammar.specs.Parts.{Part, Made}
use Rattle.py_grammar.specs.Rules.{Rule, one, part, ◌~◌, ◌∣◌, maybe, many, listed, ◌⇒◌}
use Rattle.py_grammar.specs.Trees.{Dotted, named, words, place_of, grouped, compared, raised, chosen, applied, opt_map, head_of, first_place, valued}
use Rattle.py_grammar.specs.Grammar.{rule, with_operators, suffix, assignment, names, strings, dotted}
use Rattle.py_grammar.specs.Parser.{first_of}
use Rattle.py_grammar.specs.Derives.{Derives, DerivesMany, DerivesListed, none_left, one_more, the_last, last_comma, more_listed}
use Rattle.py_grammar.specs.Places.{has_place, place_in, type_place, type_arg_place, arg_place, exprs_place, simple_place, stmt_place, member_place, item_place}
use Rattle.py_grammar.proofs.Shapes.{OneOf, former, latter, MayBe, nothing, something, Shape, shape}

-- the first of the symbols stands at this place
pub record Headed (place : Option Place) (u : List Symbol) : Type 0 where
  pub first : Symbol
  pub rest : List Symbol
  pub whole : u ≡ first ∷ rest
  pub at : place ≡ Some first.place

abbrev pub Heads : (A : Code) (r : Rule A) → (Value A → Option Place) → Type 0
Heads A r f = (x : Value A) (u : List Symbol) → Derives rule A r x u → Headed (f x) u

moved : (p q : Option Place) (u v : List Symbol) → p ≡ q → u ≡ v → Headed q v → Headed p u
moved p q u v e f h = record { first = h.first; rest = h.rest; whole = f ∙ h.whole; at = e ∙ h.at }

longer : (p : Option Place) (u v : List Symbol) → Headed p u → Headed p (u ++ v)
longer p u v h = record { first = h.first; rest = h.rest ++ v; whole = ap (λ l. l ++ v) h.whole; at = h.at }

head_one : (k : Sym) → Heads Code.Symbol (one k) (λ t. Some t.place)
head_one k t u d = let s = shape d in record { first = t; rest = []; whole = s.alone; at = refl }

head_pair : {A B : Code} (r : Rule A) (s : Rule B) (f : Value A → Option Place) → Heads A r f → Heads (Code.Pair A B) (r ~ s) (λ p. f p.0)
head_pair r s f h x u d = let p = shape d in moved (f x.0) (f x.0) u (p.left ++ p.right) refl p.whole (longer (f x.0) p.left p.right (h x.0 p.left p.former))

module _ (B : Code) (g : Value B → Option Place) where
  head_made : {A : Code} (r : Rule A) (m : Value A → Value B) (f : Value A → Option Place) → Heads A r f → ((p : Value A) → g (m p) ≡ f p) → Heads B (r ⇒ m) g
  head_made r m f h e x u d = let s = shape d in moved (g x) (f s.from) u u (ap g s.made ∙ e s.from) refl (h s.from u s.derived)

  head_either : (r s : Rule B) → Heads B r g → Heads B s g → Heads B (r ∣ s) g
  head_either r s a b x u d = pick (shape d)
    where
      pick : OneOf rule r s x u → Headed (g x) u
      pick (former e) = a x u e
      pick (latter e) = b x u e

  -- a symbol, and what stands behind it
  head_symbol : {A : Code} (k : Sym) (s : Rule A) (m : Symbol × Value A → Value B) → ((p : Symbol × Value A) → g (m p) ≡ Some p.0.place) → Heads B (one k ~ s ⇒ m) g
  head_symbol k s m e = head_made (one k ~ s) m (λ p. Some p.0.place) (head_pair (one k) s (λ t. Some t.place) (head_one k)) e

  -- a symbol alone
  head_alone : (k : Sym) (m : Symbol → Value B) → ((t : Symbol) → g (m t) ≡ Some t.place) → Heads B (one k ⇒ m) g
  head_alone k m e = head_made (one k) m (λ t. Some t.place) (head_one k) e

-- ---- expressions

abbrev at_place : Tree → Option Place
at_place x = Some (place_of x)

grouped_place : (x : Tree) (ps : List (BinaryOp × Tree)) → place_of (grouped x ps) ≡ place_of x
unfolding place_of out-Tree out
grouped_place x [] = refl
grouped_place x (p ∷ ps) = grouped_place (tree.Binary (place_of x) p.0 x p.1) ps

head_operators : (r : Rule Code.Tree) (o : Rule Code.BinaryOp) → Heads Code.Tree r at_place → Heads Code.Tree (with_operators r o) at_place
head_operators r o h = head_made Code.Tree at_place (r ~ many (o ~ r)) (λ p. grouped p.0 p.1) (λ p. at_place p.0) (head_pair r (many (o ~ r)) at_place h) (λ p. ap (λ q. Some q) (grouped_place p.0 p.1))

abbrev Maker : Code
Maker = Code.Arrow Code.Tree Code.Tree

abbrev Keeps : Rule Maker → Type 0
Keeps r = (h : Tree → Tree) (u : List Symbol) → Derives rule Maker r h u → (x : Tree) → place_of (h x) ≡ place_of x

keeps_made : {A : Code} (r : Rule A) (f : Value A → Tree → Tree) → ((p : Value A) (x : Tree) → place_of (f p x) ≡ place_of x) → Keeps (r ⇒ f)
keeps_made r f same h u d x = let m = shape d in ap (λ q. place_of (q x)) m.made ∙ same m.from x

keeps_either : (r s : Rule Maker) → Keeps r → Keeps s → Keeps (r ∣ s)
keeps_either r s a b h u d x = pick (shape d)
  where
    pick : OneOf rule r s h u → place_of (h x) ≡ place_of x
    pick (former e) = a h u e x
    pick (latter e) = b h u e x

subscript_keeps : Keeps (part Part.Subscript)
unfolding rule place_of out-Tree out
subscript_keeps h u d x = keeps_either _ _ (keeps_made _ _ (λ p x. refl)) (keeps_made _ _ (λ p x. refl)) h u (shape d) x

bracketed_keeps : Keeps (one sym.LBracket ~ part Part.Subscript ~ one sym.RBracket ⇒ (λ p. p.1.0))
bracketed_keeps h u d x = let m = shape d in let p = shape m.derived in let q = shape p.latter in ap (λ f. place_of (f x)) m.made ∙ subscript_keeps m.from.1.0 q.left q.former x

suffix_keeps : Keeps suffix
unfolding place_of out-Tree out
suffix_keeps h u d x = keeps_either _ _ (keeps_made _ _ (λ p x. refl)) (keeps_either _ _ (keeps_made _ _ (λ p x. refl)) bracketed_keeps) h u d x

applied_place : (fs : List (Tree → Tree)) (v : List Symbol) → DerivesMany rule Maker suffix fs v → (x : Tree) → place_of (applied x fs) ≡ place_of x
applied_place _ _ (none_left _) x = refl
applied_place _ _ (one_more _ f fs v w d ds) x = applied_place fs w ds (f x) ∙ suffix_keeps f v d x

-- rules that make trees
tree_either : (r s : Rule Code.Tree) → Heads Code.Tree r at_place → Heads Code.Tree s at_place → Heads Code.Tree (r ∣ s) at_place
tree_either = head_either Code.Tree at_place

tree_symbol : {A : Code} (k : Sym) (s : Rule A) (m : Symbol × Value A → Tree) → ((p : Symbol × Value A) → at_place (m p) ≡ Some p.0.place) → Heads Code.Tree (one k ~ s ⇒ m) at_place
tree_symbol k s m e = head_symbol Code.Tree at_place k s m e

tree_alone : (k : Sym) (m : Symbol → Tree) → ((t : Symbol) → at_place (m t) ≡ Some t.place) → Heads Code.Tree (one k ⇒ m) at_place
tree_alone k m e = head_alone Code.Tree at_place k m e

head_atom : Heads Code.Tree (part Part.Atom) at_place
unfolding rule place_of out-Tree out
head_atom x u d =
    tree_either _ _ (tree_alone sym.Name _ (λ p. refl))
    (tree_either _ _ (tree_alone sym.Number _ (λ p. refl))
    (tree_either _ _ (tree_symbol sym.Str _ _ (λ p. refl))
    (tree_either _ _ (tree_symbol sym.Bytes _ _ (λ p. refl))
    (tree_either _ _ (tree_alone sym.True _ (λ p. refl))
    (tree_either _ _ (tree_alone sym.False _ (λ p. refl))
    (tree_either _ _ (tree_symbol sym.LParen _ _ (λ p. refl))
    (tree_symbol sym.LBracket _ _ (λ p. refl))))))))
    x u (shape d)

head_post : Heads Code.Tree (part Part.Post) at_place
unfolding rule
head_post x u d =
    let m = shape (shape d) in
    let p = shape m.derived in
    moved (at_place x) (at_place m.from.0) u (p.left ++ p.right) (ap at_place m.made ∙ ap (λ q. Some q) (applied_place m.from.1 p.right (shape p.latter) m.from.0)) p.whole
    (longer (at_place m.from.0) p.left p.right (head_atom m.from.0 p.left p.former))

-- an expression, and maybe more behind it
head_maybe : {A : Code} (r : Rule Code.Tree) (s : Rule A) (f : Tree → Option (Value A) → Tree) → Heads Code.Tree r at_place → ((x : Tree) (z : Option (Value A)) → place_of (f x z) ≡ place_of x) → Heads Code.Tree (r ~ maybe s ⇒ (λ p. f p.0 p.1)) at_place
head_maybe r s f h e = head_made Code.Tree at_place (r ~ maybe s) (λ p. f p.0 p.1) (λ p. at_place p.0) (head_pair r (maybe s) at_place h) (λ p. ap (λ q. Some q) (e p.0 p.1))

raised_place : (x : Tree) (z : Option (Symbol × Tree)) → place_of (raised x z) ≡ place_of x
unfolding place_of out-Tree out
raised_place x None = refl
raised_place x (Some p) = refl

compared_place : (x : Tree) (z : Option (CompareOp × Tree)) → place_of (compared x z) ≡ place_of x
unfolding place_of out-Tree out
compared_place x None = refl
compared_place x (Some p) = refl

chosen_place : (x : Tree) (z : Option (Symbol × (Tree × (Symbol × Tree)))) → place_of (chosen x z) ≡ place_of x
unfolding place_of out-Tree out
chosen_place x None = refl
chosen_place x (Some p) = refl

head_power : Heads Code.Tree (part Part.Power) at_place
unfolding rule
head_power x u d = head_maybe (part Part.Post) _ raised head_post raised_place x u (shape d)

head_unary : Heads Code.Tree (part Part.Unary) at_place
unfolding rule place_of out-Tree out
head_unary x u d = tree_either _ _ (tree_symbol sym.Plus _ _ (λ p. refl)) (tree_either _ _ (tree_symbol sym.Minus _ _ (λ p. refl)) (tree_either _ _ (tree_symbol sym.Tilde _ _ (λ p. refl)) head_power)) x u (shape d)

head_term : Heads Code.Tree (part Part.Term) at_place
unfolding rule
head_term x u d = head_operators (part Part.Unary) _ head_unary x u (shape d)

head_sum : Heads Code.Tree (part Part.Sum) at_place
unfolding rule
head_sum x u d = head_operators (part Part.Term) _ head_term x u (shape d)

head_shift : Heads Code.Tree (part Part.Shift) at_place
unfolding rule
head_shift x u d = head_operators (part Part.Sum) _ head_sum x u (shape d)

head_band : Heads Code.Tree (part Part.BitAnd) at_place
unfolding rule
head_band x u d = head_operators (part Part.Shift) _ head_shift x u (shape d)

head_xor : Heads Code.Tree (part Part.BitXor) at_place
unfolding rule
head_xor x u d = head_operators (part Part.BitAnd) _ head_band x u (shape d)

head_bor : Heads Code.Tree (part Part.BitOr) at_place
unfolding rule
head_bor x u d = head_operators (part Part.BitXor) _ head_xor x u (shape d)

head_cmp : Heads Code.Tree (part Part.Cmp) at_place
unfolding rule
head_cmp x u d = head_maybe (part Part.BitOr) _ compared head_bor compared_place x u (shape d)

head_not : Heads Code.Tree (part Part.Not) at_place
unfolding rule place_of out-Tree out
head_not x u d = tree_either _ _ (tree_symbol sym.Not _ _ (λ p. refl)) head_cmp x u (shape d)

head_and : Heads Code.Tree (part Part.And) at_place
unfolding rule
head_and x u d = head_operators (part Part.Not) _ head_not x u (shape d)

head_or : Heads Code.Tree (part Part.Or) at_place
unfolding rule
head_or x u d = head_operators (part Part.And) _ head_and x u (shape d)

head_expr : Heads Code.Tree (part Part.Expr) at_place
unfolding rule
head_expr x u d = head_maybe (part Part.Or) _ chosen head_or chosen_place x u (shape d)

listed_place : (xs : List Tree) (c : Bool) (u : List Symbol) → DerivesListed rule Code.Tree (part Part.Expr) xs c u → Headed (opt_map place_of (head_of xs)) u
listed_place _ _ _ (the_last _ x u d) = head_expr x u d
listed_place _ _ _ (last_comma _ x u t d e) = longer (at_place x) u (t ∷ []) (head_expr x u d)
listed_place _ _ _ (more_listed _ x xs c u v t d e ds) = longer (at_place x) u (t ∷ v) (head_expr x u d)

head_exprs : Heads Code.Exprs (part Part.Exprs) exprs_place
unfolding rule
head_exprs x u d = let m = shape (shape d) in moved (exprs_place x) (opt_map place_of (head_of m.from.0)) u u (ap exprs_place m.made) refl (listed_place m.from.0 m.from.1 u (shape m.derived))

head_argument : Heads Code.Arg (part Part.Argument) (λ a. Some (arg_place a))
unfolding rule arg_place out-Arg out
head_argument x u d =
    head_either Code.Arg (λ a. Some (arg_place a)) _ _ (head_symbol Code.Arg (λ a. Some (arg_place a)) sym.Name _ _ (λ p. refl)) (head_made Code.Arg (λ a. Some (arg_place a)) (part Part.Expr) _ at_place head_expr (λ p. refl)) x u (shape d)

-- ---- types

head_dotted : Heads (Code.Pair Code.Symbol (Code.ListOf (Code.Pair Code.Symbol Code.Symbol))) dotted (λ p. Some p.0.place)
head_dotted = head_pair (one sym.Name) (many (one sym.Dot ~ one sym.Name)) (λ t. Some t.place) (head_one sym.Name)

named_place : (w : Dotted) (z : Option (Symbol × ((List TypeArg × Bool) × Symbol))) → type_place (named w z) ≡ w.0.place
unfolding type_place out-TypeTree out
named_place w None = refl
named_place w (Some p) = refl

head_annotation : Heads Code.TypeTree (part Part.Annotation) (λ t. Some (type_place t))
unfolding rule type_place out-TypeTree out
head_annotation x u d =
    head_either Code.TypeTree (λ t. Some (type_place t)) _ _ (head_alone Code.TypeTree (λ t. Some (type_place t)) sym.None _ (λ t. refl))
    (head_made Code.TypeTree (λ t. Some (type_place t)) _ _ (λ p. Some p.0.0.place) (head_pair dotted (maybe (one sym.LBracket ~ listed (part Part.TypeArgument) ~ one sym.RBracket)) (λ p. Some p.0.place) head_dotted) (λ p. ap (λ q. Some q) (named_place p.0 p.1))) x u (shape d)

head_type_argument : Heads Code.TypeArg (part Part.TypeArgument) (λ t. Some (type_arg_place t))
unfolding rule type_arg_place out-TypeArg out
head_type_argument x u d =
    head_either Code.TypeArg (λ t. Some (type_arg_place t)) _ _ (head_made Code.TypeArg (λ t. Some (type_arg_place t)) (part Part.Annotation) _ (λ t. Some (type_place t)) head_annotation (λ p. refl))
    (head_alone Code.TypeArg (λ t. Some (type_arg_place t)) sym.Number _ (λ t. refl)) x u (shape d)

-- ---- statements

abbrev Assigner : Code
Assigner = Code.Arrow Code.Exprs Code.Simple

abbrev KeepsExprs : Rule Assigner → Type 0
KeepsExprs r = (h : Exprs → Simple) (u : List Symbol) → Derives rule Assigner r h u → (e : Exprs) → simple_place (h e) ≡ exprs_place e

exprs_made : {A : Code} (r : Rule A) (f : Value A → Exprs → Simple) → ((p : Value A) (e : Exprs) → simple_place (f p e) ≡ exprs_place e) → KeepsExprs (r ⇒ f)
exprs_made r f same h u d e = let m = shape d in ap (λ q. simple_place (q e)) m.made ∙ same m.from e

exprs_either : (r s : Rule Assigner) → KeepsExprs r → KeepsExprs s → KeepsExprs (r ∣ s)
exprs_either r s a b h u d e = pick (shape d)
  where
    pick : OneOf rule r s h u → simple_place (h e) ≡ exprs_place e
    pick (former c) = a h u c e
    pick (latter c) = b h u c e

assignment_keeps : KeepsExprs assignment
assignment_keeps h u d e = exprs_either _ _ (exprs_made _ _ (λ p e. refl)) (exprs_either _ _ (exprs_made _ _ (λ p e. refl)) (exprs_made _ _ (λ p e. refl))) h u d e

head_valued : Heads Code.Simple (part Part.Exprs ~ maybe assignment ⇒ (λ p. valued p.0 p.1)) simple_place
head_valued x u d =
    let m = shape d in
    let p = shape m.derived in
    moved (simple_place x) (exprs_place m.from.0) u (p.left ++ p.right) (ap simple_place m.made ∙ pick m.from.1 p.right m.from.0 (shape p.latter)) p.whole (longer (exprs_place m.from.0) p.left p.right (head_exprs m.from.0 p.left p.former))
  where
    pick : (z : Option (Exprs → Simple)) (v : List Symbol) (e : Exprs) → MayBe rule assignment z v → simple_place (valued e z) ≡ exprs_place e
    pick z v e (nothing ez ev) = ap (λ z. simple_place (valued e z)) ez
    pick z v e (something f ez df) = ap (λ z. simple_place (valued e z)) ez ∙ assignment_keeps f v df e

simple_either : (r s : Rule Code.Simple) → Heads Code.Simple r simple_place → Heads Code.Simple s simple_place → Heads Code.Simple (r ∣ s) simple_place
simple_either = head_either Code.Simple simple_place

head_simple : Heads Code.Simple (part Part.Simple) simple_place
unfolding rule
head_simple x u d =
    simple_either _ _ (head_alone Code.Simple simple_place sym.Pass _ (λ t. refl))
    (simple_either _ _ (head_alone Code.Simple simple_place sym.Break _ (λ t. refl))
    (simple_either _ _ (head_alone Code.Simple simple_place sym.Continue _ (λ t. refl))
    (simple_either _ _ (head_symbol Code.Simple simple_place sym.Return _ _ (λ p. refl))
    (simple_either _ _ (head_symbol Code.Simple simple_place sym.Assert _ _ (λ p. refl))
    (simple_either _ _ (head_symbol Code.Simple simple_place sym.Del _ _ (λ p. refl))
    head_valued)))))
    x u (shape d)

head_stmt : Heads Code.Stmt (part Part.Stmt) stmt_place
unfolding rule stmt_place out-Stmt out
head_stmt x u d =
    head_either Code.Stmt stmt_place _ _ (head_made Code.Stmt stmt_place _ _ (λ p. simple_place p.0) (head_pair (part Part.Simple) (one sym.Newline) simple_place head_simple) (λ p. refl))
    (head_either Code.Stmt stmt_place _ _ (head_symbol Code.Stmt stmt_place sym.If _ _ (λ p. refl))
    (head_either Code.Stmt stmt_place _ _ (head_symbol Code.Stmt stmt_place sym.While _ _ (λ p. refl))
    (head_symbol Code.Stmt stmt_place sym.For _ _ (λ p. refl))))
    x u (shape d)

-- ---- functions, classes and modules

head_param : Heads Code.Param (part Part.Param) (λ p. Some p.name.place)
unfolding rule
head_param x u d = head_symbol Code.Param (λ p. Some p.name.place) sym.Name _ _ (λ p. refl) x u (shape d)

-- decorators, or the word that stands behind none
decorated : {r : Rule (Code.Pair Code.Tree Code.Symbol)} (d : Place) (ds : List (Symbol × (Tree × Symbol))) (v w : List Symbol) → DerivesMany rule (Code.Pair Code.Symbol (Code.Pair Code.Tree Code.Symbol)) (one sym.At ~ r) ds v → Headed (Some d) w → Headed (Some (first_place d ds)) (v ++ w)
decorated d _ _ w (none_left _) h = h
decorated {r = r} d _ _ w (one_more _ p ps v v' e es) h =
    let f = head_pair (one sym.At) r (λ t. Some t.place) (head_one sym.At) p v e in
    longer (Some p.0.place) (v ++ v') w (longer (Some p.0.place) v v' f)

head_decorated : {A : Code} (r : Rule (Code.Pair Code.Tree Code.Symbol)) (s : Rule A) → Heads (Code.Pair (Code.ListOf (Code.Pair Code.Symbol (Code.Pair Code.Tree Code.Symbol))) (Code.Pair Code.Symbol A)) (many (one sym.At ~ r) ~ one sym.Def ~ s) (λ p. Some (first_place p.1.0.place p.0))
head_decorated r s x u d =
    let p = shape d in
    let f = head_pair (one sym.Def) s (λ t. Some t.place) (head_one sym.Def) x.1 p.right p.latter in
    let at : Option Place = Some (first_place x.1.0.place x.0) in
    moved at at u (p.left ++ p.right) refl p.whole (decorated x.1.0.place x.0 p.left p.right (shape p.former) f)

head_func : Heads Code.Func (part Part.Func) (λ f. Some f.place)
unfolding rule
head_func x u d = head_made Code.Func (λ f. Some f.place) _ _ (λ p. Some (first_place p.1.0.place p.0)) (head_decorated (part Part.Post ~ one sym.Newline) (one sym.Name ~ one sym.LParen ~ maybe (listed (part Part.Param)) ~ one sym.RParen ~ maybe (one sym.Arrow ~ part Part.Annotation) ~ one sym.Colon ~ part Part.Block)) (λ p. refl) x u (shape d)

head_class : Heads Code.Class (part Part.Class) (λ c. Some c.place)
unfolding rule
head_class x u d = head_symbol Code.Class (λ c. Some c.place) sym.Class _ _ (λ p. refl) x u (shape d)

head_strings : Heads (Code.Pair Code.Symbol (Code.ListOf Code.Symbol)) strings (λ p. Some p.0.place)
head_strings = head_pair (one sym.Str) (many (one sym.Str)) (λ t. Some t.place) (head_one sym.Str)

abbrev at_member : Value Code.Member → Option Place
at_member m = Some (member_place m)

head_member : Heads Code.Member (part Part.Member) at_member
unfolding rule
head_member x u d =
    head_either Code.Member at_member _ _ (head_made Code.Member at_member _ _ (λ p. Some p.0.0.place) (head_pair strings (one sym.Newline) (λ p. Some p.0.place) head_strings) (λ p. refl))
    (head_either Code.Member at_member _ _ (head_symbol Code.Member at_member sym.Pass _ _ (λ p. refl))
    (head_either Code.Member at_member _ _ (head_symbol Code.Member at_member sym.Name _ _ (λ p. refl))
    (head_made Code.Member at_member (part Part.Func) _ (λ f. Some f.place) head_func (λ f. refl))))
    x u (shape d)

abbrev at_item : Item → Option Place
at_item i = Some (item_place i)

abbrev Namer : Code
Namer = Code.Arrow Code.Symbol (Code.Arrow (Code.ListOf Code.Word) Code.Item)

names_place : (f : Symbol → List Word → Item) (u : List Symbol) → Derives rule Namer names f u → (t : Symbol) (w : List Word) → item_place (f t w) ≡ t.place
names_place f u d t w = pick (shape d)
  where
    made : {A : Code} (r : Rule A) (m : Value A → Symbol → List Word → Item) → ((p : Value A) → item_place (m p t w) ≡ t.place) → Derives rule Namer (r ⇒ m) f u → item_place (f t w) ≡ t.place
    made r m same e = let s = shape e in ap (λ q. item_place (q t w)) s.made ∙ same s.from

    pick : Shape rule names f u → item_place (f t w) ≡ t.place
    pick (former e) = made _ _ (λ p. refl) e
    pick (latter e) = made _ _ (λ p. refl) e

head_from : {A : Code} (r : Rule A) → Heads Code.Item (one sym.From ~ dotted ~ one sym.Import ~ names ~ r ⇒ (λ p. p.1.1.1.0 p.0 (words p.1.0))) at_item
head_from r x u d =
    let m = shape d in
    let p = shape m.derived in
    let q = shape p.latter in
    let i = shape q.latter in
    let n = shape i.latter in
    moved (at_item x) (Some m.from.0.place) u (p.left ++ p.right) (ap at_item m.made ∙ ap (λ q. Some q) (names_place m.from.1.1.1.0 n.left n.former m.from.0 (words m.from.1.0))) p.whole
    (longer (Some m.from.0.place) p.left p.right (head_one sym.From m.from.0 p.left p.former))

head_import : Heads Code.Item (part Part.Import) at_item
unfolding rule
head_import x u d = head_either Code.Item at_item _ _ (head_symbol Code.Item at_item sym.Import _ _ (λ p. refl)) (head_from _) x u (shape d)

head_const : Heads Code.Item (part Part.Const) at_item
unfolding rule
head_const x u d = head_symbol Code.Item at_item sym.Name _ _ (λ p. refl) x u (shape d)

head_item : Heads Code.Item (part Part.Item) at_item
unfolding rule
head_item x u d =
    head_either Code.Item at_item _ _ (head_made Code.Item at_item _ _ (λ p. Some p.0.0.place) (head_pair strings (one sym.Newline) (λ p. Some p.0.place) head_strings) (λ p. refl))
    (head_either Code.Item at_item _ _ head_import
    (head_either Code.Item at_item _ _ head_const
    (head_either Code.Item at_item _ _ (head_made Code.Item at_item (part Part.Func) _ (λ f. Some f.place) head_func (λ f. refl))
    (head_made Code.Item at_item (part Part.Class) _ (λ c. Some c.place) head_class (λ c. refl)))))
    x u (shape d)

-- ---- every part

at_first : {p : Option Place} (u : List Symbol) → Headed p u → p ≡ opt_map (λ t. t.place) (first_of u)
at_first u h = h.at ∙ flip (ap (λ l. opt_map (λ t. t.place) (first_of l)) h.whole)

-- the place of what a part makes, if it has one, is that of the first symbol
pub stands_first : (n : Part) (x : Value (Made n)) (u : List Symbol) → has_place n ≡ true → Derives rule (Made n) (part n) x u → place_in n x ≡ opt_map (λ t. t.place) (first_of u)
stands_first Part.Module x u e d = absurd cc
stands_first Part.Block x u e d = absurd cc
stands_first Part.Subscript x u e d = absurd cc
stands_first Part.Item x u e d = at_first u (head_item x u d)
stands_first Part.Import x u e d = at_first u (head_import x u d)
stands_first Part.Const x u e d = at_first u (head_const x u d)
stands_first Part.Class x u e d = at_first u (head_class x u d)
stands_first Part.Member x u e d = at_first u (head_member x u d)
stands_first Part.Func x u e d = at_first u (head_func x u d)
stands_first Part.Param x u e d = at_first u (head_param x u d)
stands_first Part.Annotation x u e d = at_first u (head_annotation x u d)
stands_first Part.TypeArgument x u e d = at_first u (head_type_argument x u d)
stands_first Part.Stmt x u e d = at_first u (head_stmt x u d)
stands_first Part.Simple x u e d = at_first u (head_simple x u d)
stands_first Part.Exprs x u e d = at_first u (head_exprs x u d)
stands_first Part.Argument x u e d = at_first u (head_argument x u d)
stands_first Part.Expr x u e d = at_first u (head_expr x u d)
stands_first Part.Or x u e d = at_first u (head_or x u d)
stands_first Part.And x u e d = at_first u (head_and x u d)
stands_first Part.Not x u e d = at_first u (head_not x u d)
stands_first Part.Cmp x u e d = at_first u (head_cmp x u d)
stands_first Part.BitOr x u e d = at_first u (head_bor x u d)
stands_first Part.BitXor x u e d = at_first u (head_xor x u d)
stands_first Part.BitAnd x u e d = at_first u (head_band x u d)
stands_first Part.Shift x u e d = at_first u (head_shift x u d)
stands_first Part.Sum x u e d = at_first u (head_sum x u d)
stands_first Part.Term x u e d = at_first u (head_term x u d)
stands_first Part.Unary x u e d = at_first u (head_unary x u d)
stands_first Part.Power x u e d = at_first u (head_power x u d)
stands_first Part.Post x u e d = at_first u (head_post x u d)
stands_first Part.Atom x u e d = at_first u (head_atom x u d)
