-- What a derivation of each form of rule is made of.
use Rattle.std.proofs.Common.{◌≡◌, Bool, true, List, [], ◌∷◌, ◌++◌, Option, Some, None, refl}
use Rattle.py_grammar.specs.declared.symbol.Sym.{Sym}
use Rattle.py_grammar.specs.declared.symbol.Symbol.{Symbol}
use Rattle.py_grammar.specs.Codes.{Code, Value}
use Rattle.py_grammar.specs.Parts.{Part, Made}
use Rattle.py_grammar.specs.Rules.{Rule, Table, one, part, ◌~◌, ◌∣◌, maybe, many, listed, before, ◌⇒◌}
use Rattle.py_grammar.specs.Derives.{Derives, DerivesMany, DerivesListed, a_symbol, a_part, in_turn, the_first, the_second, absent, present, repeated, in_a_list, alone, with_more, made_of, none_left, one_more, the_last, last_comma, more_listed}

pub record InTurn (g : Table) {A B : Code} (r : Rule A) (s : Rule B) (p : Value A × Value B) (w : List Symbol) : Type 0 where
  pub left : List Symbol
  pub right : List Symbol
  pub whole : w ≡ left ++ right
  pub former : Derives g A r p.0 left
  pub latter : Derives g B s p.1 right

pub data OneOf (g : Table) {A : Code} (r s : Rule A) (x : Value A) (u : List Symbol) : Type 0 where
  former : Derives g A r x u → OneOf g r s x u
  latter : Derives g A s x u → OneOf g r s x u

pub data MayBe (g : Table) {A : Code} (r : Rule A) (x : Option (Value A)) (u : List Symbol) : Type 0 where
  nothing : x ≡ None → u ≡ [] → MayBe g r x u
  something : (y : Value A) → x ≡ Some y → Derives g A r y u → MayBe g r x u

pub data Behind (g : Table) {A B : Code} (fit : Value A → Bool) (r : Rule A) (k : Sym) (s : Rule B) (p : Value A × Option (Value B)) (w : List Symbol) : Type 0 where
  bare : p.1 ≡ None → Derives g A r p.0 w → Behind g fit r k s p w
  followed : (y : Value B) (t : Symbol) (u v : List Symbol) → p.1 ≡ Some y → w ≡ u ++ (t ∷ v) → Derives g A r p.0 u → fit p.0 ≡ true → t.sym ≡ k → Derives g B s y v → Behind g fit r k s p w

pub record MadeOf (g : Table) {A : Code} (B : Code) (r : Rule A) (f : Value A → Value B) (y : Value B) (u : List Symbol) : Type 0 where
  pub from : Value A
  pub made : y ≡ f from
  pub derived : Derives g A r from u

pub record IsOne (k : Sym) (t : Symbol) (u : List Symbol) : Type 0 where
  pub kind : t.sym ≡ k
  pub alone : u ≡ t ∷ []

abbrev pub Shape : (g : Table) {A : Code} (r : Rule A) → Value A → List Symbol → Type 0
Shape g (one k) x u = IsOne k x u
Shape g (part m) x u = Derives g (Made m) (g m) x u
Shape g (r ~ s) x u = InTurn g r s x u
Shape g (r ∣ s) x u = OneOf g r s x u
Shape g (maybe r) x u = MayBe g r x u
Shape g (many r) x u = DerivesMany g _ r x u
Shape g (listed r) x u = DerivesListed g _ r x.0 x.1 u
Shape g (r ⇒ f) x u = MadeOf g _ r f x u
Shape g (before fit r k s) x u = Behind g fit r k s x u

pub shape : {g : Table} {A : Code} {r : Rule A} {x : Value A} {u : List Symbol} → Derives g A r x u → Shape g r x u
shape (a_symbol t k e) = record { kind = e; alone = refl }
shape (a_part n x u d) = d
shape (in_turn r s x y u v d d') = record { left = u; right = v; whole = refl; former = d; latter = d' }
shape (the_first r s x u d) = former d
shape (the_second r s x u d) = latter d
shape (absent r) = nothing refl refl
shape (present r x u d) = something x refl d
shape (repeated r xs u ds) = ds
shape (in_a_list r xs c u ds) = ds
shape (made_of r f x u d) = record { from = x; made = refl; derived = d }
shape (alone fit r k s x u d) = bare refl d
shape (with_more fit r k s x y t u v d f e d') = followed y t u v refl refl d f e d'

-- what no rule of a part but those that differ derives otherwise, both tables derive
module _ (g h : Table) (each : (m : Part) (x : Value (Made m)) (u : List Symbol) → Derives h (Made m) (g m) x u → Derives h (Made m) (h m) x u) where
  mutual
    pub recast : {A : Code} {r : Rule A} {x : Value A} {u : List Symbol} → Derives g A r x u → Derives h A r x u
    recast (a_symbol t k e) = a_symbol t k e
    recast (a_part m x u d) = a_part m x u (each m x u (recast d))
    recast (in_turn r s x y u v d d') = in_turn r s x y u v (recast d) (recast d')
    recast (the_first r s x u d) = the_first r s x u (recast d)
    recast (the_second r s x u d) = the_second r s x u (recast d)
    recast (absent r) = absent r
    recast (present r x u d) = present r x u (recast d)
    recast (repeated r xs u ds) = repeated r xs u (recast_many ds)
    recast (in_a_list r xs c u ds) = in_a_list r xs c u (recast_listed ds)
    recast (made_of r f x u d) = made_of r f x u (recast d)
    recast (alone fit r k s x u d) = alone fit r k s x u (recast d)
    recast (with_more fit r k s x y t u v d f e d') = with_more fit r k s x y t u v (recast d) f e (recast d')

    recast_many : {A : Code} {r : Rule A} {xs : List (Value A)} {u : List Symbol} → DerivesMany g A r xs u → DerivesMany h A r xs u
    recast_many (none_left r) = none_left r
    recast_many (one_more r x xs u v d ds) = one_more r x xs u v (recast d) (recast_many ds)

    recast_listed : {A : Code} {r : Rule A} {xs : List (Value A)} {c : Bool} {u : List Symbol} → DerivesListed g A r xs c u → DerivesListed h A r xs c u
    recast_listed (the_last r x u d) = the_last r x u (recast d)
    recast_listed (last_comma r x u t d e) = last_comma r x u t (recast d) e
    recast_listed (more_listed r x xs c u v t d e ds) = more_listed r x xs c u v t (recast d) e (recast_listed ds)
