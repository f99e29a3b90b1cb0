-- End stands last in what a module derives, and only there.
use Rattle.std.proofs.Common.{◌≡◌, ℕ, Bool, true, false, not, ◌&&◌, cond, List, [], ◌∷◌, ◌++◌, refl, sym as flip, ◌∙◌, ap, subst}
use Rattle.std.specs.Str.{bytes_eq}
use Rattle.py_lexer.specs.declared.token.TokenKind.{TokenKind}
use Rattle.py_lexer.specs.declared.token.TokenKind.TheVariants as kind
use Rattle.py_lexer.specs.declared.token.Token.{Token}
use Rattle.py_lexer.specs.Spans.{EndsOnce as TokensEnd}
use Rattle.py_grammar.specs.declared.symbol.Sym.{Sym}
use Rattle.py_grammar.specs.declared.symbol.Sym.TheVariants as sym
use Rattle.py_grammar.specs.declared.symbol.Symbol.{Symbol}
use Rattle.py_grammar.specs.declared.module.Module.{Module}
use Rattle.py_grammar.specs.Codes.{Code, Value}
use Rattle.py_grammar.specs.Parts.{Part}
use Rattle.py_grammar.specs.Rules.{Rule, one, part, ◌~◌, ◌∣◌, maybe, many, listed, before, ◌⇒◌, same}
use Rattle.py_grammar.specs.Grammar.{rule}
use Rattle.py_grammar.specs.Derives.{Derives, DerivesMany, DerivesListed, a_symbol, a_part, in_turn, the_first, the_second, absent, present, repeated, in_a_list, alone, with_more, made_of, none_left, one_more, the_last, last_comma, more_listed}
use Rattle.py_grammar.specs.Symbols.{listed_as, keywords, marks, sym_of_token, symbol_of, symbols, text_of}
use Rattle.py_grammar.specs.Whole.{IsModule, EndsOnce}
use Rattle.py_grammar.proofs.Outcomes.{eq_same}
use Rattle.py_grammar.proofs.Sets.{and_left, and_right, not_true}
use Rattle.py_grammar.proofs.Shapes.{shape}

is_module : Part → Bool
is_module Part.Module = true
is_module _ = false

-- no End stands in the rule
abbrev endless : {A : Code} → Rule A → Bool
endless (one k) = not (same k sym.End)
endless (part m) = not (is_module m)
endless (r ~ s) = endless r && endless s
endless (r ∣ s) = endless r && endless s
endless (maybe r) = endless r
endless (many r) = endless r
endless (listed r) = endless r
endless (before fit r k s) = endless r && (not (same k sym.End) && endless s)
endless (r ⇒ f) = endless r

endless_part : (m : Part) → not (is_module m) ≡ true → endless (rule m) ≡ true
unfolding rule is_module
endless_part Part.Module e = absurd cc
endless_part _ e = refl

pub without : List Symbol → Bool
without [] = true
without (t ∷ ts) = not (same t.sym sym.End) && without ts

both : (a b : Bool) → a ≡ true → b ≡ true → a && b ≡ true
both true b e f = f
both false b e f = absurd cc

without_both : (u v : List Symbol) → without u ≡ true → without v ≡ true → without (u ++ v) ≡ true
unfolding without
without_both [] v e f = f
without_both (t ∷ u) v e f = both (not (same t.sym sym.End)) (without (u ++ v)) (and_left (not (same t.sym sym.End)) (without u) e) (without_both u v (and_right (not (same t.sym sym.End)) (without u) e) f)

without_one : (t : Symbol) (k : Sym) (v : List Symbol) → t.sym ≡ k → not (same k sym.End) ≡ true → without v ≡ true → without (t ∷ v) ≡ true
unfolding without
without_one t k v e n f = both (not (same t.sym sym.End)) (without v) (ap (λ s. not (same s sym.End)) e ∙ n) f

mutual
  unfolding without

  derived_without : {A : Code} {r : Rule A} {x : Value A} {u : List Symbol} → Derives rule A r x u → endless r ≡ true → without u ≡ true
  derived_without (a_symbol t k e) h = without_one t k [] e h refl
  derived_without (a_part m x u d) h = derived_without d (endless_part m h)
  derived_without (in_turn r s x y u v d d') h = without_both u v (derived_without d (and_left (endless r) (endless s) h)) (derived_without d' (and_right (endless r) (endless s) h))
  derived_without (the_first r s x u d) h = derived_without d (and_left (endless r) (endless s) h)
  derived_without (the_second r s x u d) h = derived_without d (and_right (endless r) (endless s) h)
  derived_without (absent r) h = refl
  derived_without (present r x u d) h = derived_without d h
  derived_without (repeated r xs u ds) h = many_without ds h
  derived_without (in_a_list r xs c u ds) h = listed_without ds h
  derived_without (made_of r f x u d) h = derived_without d h
  derived_without (alone fit r k s x u d) h = derived_without d (and_left (endless r) (not (same k sym.End) && endless s) h)
  derived_without (with_more fit r k s x y t u v d f e d') h =
      let b = and_right (endless r) (not (same k sym.End) && endless s) h in
      without_both u (t ∷ v) (derived_without d (and_left (endless r) (not (same k sym.End) && endless s) h)) (without_one t k v e (and_left (not (same k sym.End)) (endless s) b) (derived_without d' (and_right (not (same k sym.End)) (endless s) b)))

  many_without : {A : Code} {r : Rule A} {xs : List (Value A)} {u : List Symbol} → DerivesMany rule A r xs u → endless r ≡ true → without u ≡ true
  many_without (none_left r) h = refl
  many_without (one_more r x xs u v d ds) h = without_both u v (derived_without d h) (many_without ds h)

  listed_without : {A : Code} {r : Rule A} {xs : List (Value A)} {c : Bool} {u : List Symbol} → DerivesListed rule A r xs c u → endless r ≡ true → without u ≡ true
  listed_without (the_last r x u d) h = derived_without d h
  listed_without (last_comma r x u t d e) h = without_both u (t ∷ []) (derived_without d h) (without_one t sym.Comma [] e refl refl)
  listed_without (more_listed r x xs c u v t d e ds) h = without_both u (t ∷ v) (derived_without d h) (without_one t sym.Comma v e refl (listed_without ds h))

-- what stands before the End of a module, and that End
pub record Ended (ts : List Symbol) : Type 0 where
  pub items : List Symbol
  pub last : Symbol
  pub whole : ts ≡ items ++ (last ∷ [])
  pub end : last.sym ≡ sym.End
  pub none : without items ≡ true

pub module_ended : (m : Module) (ts : List Symbol) → IsModule m ts → Ended ts
unfolding rule is_module
module_ended m ts d =
    let a = shape (shape d) in
    let p = shape a.derived in
    let t = shape p.latter in
    record { items = p.left; last = a.from.1; whole = p.whole ∙ ap (λ l. p.left ++ l) t.alone; end = t.kind; none = derived_without p.former refl }

no_end : (t : Symbol) → not (same t.sym sym.End) ≡ true → t.sym ≡ sym.End → ⊥
no_end t e h = clash (same t.sym sym.End) (eq_same t.sym sym.End h) (not_true (same t.sym sym.End) e)
  where
    clash : (b : Bool) → b ≡ true → b ≡ false → ⊥
    clash b p q = cc

ends_once : (u : List Symbol) (t : Symbol) → without u ≡ true → t.sym ≡ sym.End → EndsOnce (u ++ (t ∷ []))
unfolding without
ends_once [] t e h = h
ends_once (s ∷ []) t e h = (no_end s (and_left (not (same s.sym sym.End)) true e), h)
ends_once (s ∷ r ∷ u) t e h = (no_end s (and_left (not (same s.sym sym.End)) (without (r ∷ u)) e), ends_once (r ∷ u) t (and_right (not (same s.sym sym.End)) (without (r ∷ u)) e) h)

-- the symbols of a module end once
pub module_ends : (m : Module) (ts : List Symbol) → IsModule m ts → EndsOnce ts
module_ends m ts d = let a = module_ended m ts d in subst EndsOnce (flip a.whole) (ends_once a.items a.last a.none a.end)

-- what ends once does not go on behind an End
pub nothing_behind : (u : List Symbol) (t : Symbol) (rest : List Symbol) → EndsOnce (u ++ (t ∷ rest)) → t.sym ≡ sym.End → rest ≡ []
nothing_behind [] t [] e h = refl
nothing_behind [] t (s ∷ rest) e h = absurd (e.0 h)
nothing_behind (s ∷ []) t rest e h = nothing_behind [] t rest e.1 h
nothing_behind (s ∷ r ∷ u) t rest e h = nothing_behind (r ∷ u) t rest e.1 h

-- ---- the symbols of tokens

-- no row gives End
ends_none : List (List ℕ × Sym) → Bool
ends_none [] = true
ends_none (r ∷ rs) = not (same r.1 sym.End) && ends_none rs

listed_none : (rs : List (List ℕ × Sym)) (text : List ℕ) → ends_none rs ≡ true → not (same (listed_as sym.Reserved rs text) sym.End) ≡ true
unfolding ends_none
listed_none [] text e = refl
listed_none (r ∷ rs) text e = pick (bytes_eq r.0 text) (listed_none rs text (and_right (not (same r.1 sym.End)) (ends_none rs) e))
  where
    pick : (b : Bool) → not (same (listed_as sym.Reserved rs text) sym.End) ≡ true → not (same (cond b r.1 (listed_as sym.Reserved rs text)) sym.End) ≡ true
    pick true h = and_left (not (same r.1 sym.End)) (ends_none rs) e
    pick false h = h

kind_none : (k : TokenKind) (text : List ℕ) → (k ≡ kind.End → ⊥) → not (same (sym_of_token k text) sym.End) ≡ true
unfolding ends_none keywords marks
kind_none kind.Name text h = refl
kind_none kind.Keyword text h = listed_none keywords text refl
kind_none kind.Number text h = refl
kind_none kind.Str text h = refl
kind_none kind.BytesLit text h = refl
kind_none kind.Mark text h = listed_none marks text refl
kind_none kind.Newline text h = refl
kind_none kind.Indent text h = refl
kind_none kind.Dedent text h = refl
kind_none kind.End text h = absurd (h refl)

kind_end : (k : TokenKind) (text : List ℕ) → k ≡ kind.End → sym_of_token k text ≡ sym.End
kind_end k text e = ap (λ k. sym_of_token k text) e

-- the symbols of tokens end as the tokens do
pub symbols_end : (source : List ℕ) (tokens : List Token) → TokensEnd tokens → EndsOnce (symbols source tokens)
symbols_end source [] e = e
symbols_end source (t ∷ []) e = kind_end t.kind (text_of source t) e
symbols_end source (t ∷ u ∷ ts) e = (no_end (symbol_of source t) (kind_none t.kind (text_of source t) e.0), symbols_end source (u ∷ ts) e.1)
