-- What is told of an expression, part after part.
use Rattle.std.proofs.Common.{◌≡◌, ◌++◌, ℕ, ◌+◌, ◌<◌, ◌≤◌, List, length, drop, map, arith, Option, refl, sym, ap, ◌∙◌, append_assoc, append-nil}
use Rattle.std.proofs.lemmas.List.{at_drop_more}
use Rattle.puya_base.specs.declared.source.Place.{Place}
use Rattle.path_rules.specs.declared.note.Note.{Note}
use Rattle.py_grammar.specs.declared.word.Word.{Word}
use Rattle.call_rules.specs.declared.arguments.Known.{Known}
use Rattle.source_names.specs.Source.{Args, Ex, call}
use Rattle.meaning_rules.specs.declared.meaning.Hope.TheVariants as hope
use Rattle.meaning_rules.specs.declared.meaning.Meaning.{Meaning}
use Rattle.meaning_rules.specs.declared.meaning.Meaning.TheVariants as meaning
use Rattle.meaning_rules.specs.declared.meaning.Typed.{Typed}
use Rattle.meaning_rules.specs.declared.operand.Operand.{Operand}
use Rattle.meaning_rules.specs.declared.operand.End.{End}
use Rattle.meaning_rules.specs.declared.scope.Scope.{Scope}
use Rattle.meaning_rules.specs.Meanings.{Judged, Operated, after, freely, operand, says, settled, value}
use Rattle.meaning_rules.specs.Operations.{Ended, based, index_when, member_of_value, member_when, judge_index, judge_member, judge_slice, slice_when}
use Rattle.call_rules.specs.Calls as calls
use Rattle.expression_check.specs.Expressions.{arguments, judge}
use Rattle.expression_check.proofs.Depths.{greatest}

five : (into a b c d e : List Note) → (((((into ++ a) ++ b) ++ c) ++ d) ++ e) ≡ into ++ (((a ++ b) ++ (c ++ d)) ++ e)
five into a b c d e =
    ap (λ z. z ++ e)
    (append_assoc ((into ++ a) ++ b) c d
    ∙ ap (λ z. z ++ (c ++ d)) (append_assoc into a b)
    ∙ append_assoc into (a ++ b) (c ++ d))
    ∙ append_assoc into ((a ++ b) ++ (c ++ d)) e

chain : (into i j k l a b c d e : List Note) → i ≡ into ++ a → j ≡ i ++ b → k ≡ j ++ c → l ≡ k ++ d → l ++ e ≡ into ++ (((a ++ b) ++ (c ++ d)) ++ e)
chain into i j k l a b c d e p q r s =
    ap (λ z. z ++ e) (s ∙ ap (λ z. z ++ d) (r ∙ ap (λ z. z ++ c) (q ∙ ap (λ z. z ++ b) p))) ∙ five into a b c d e

pub index_told : (p at : Place) (o : Operated) (j : Judged) (into i1 i2 i3 i4 : List Note) (u : Operand) (base : Option Typed) (m : Meaning) (index : Operand)
    → u ≡ o.operand → base ≡ (settled hope.Free u).typed → m ≡ j.meaning → index ≡ (operand at m).operand
    → i1 ≡ into ++ o.notes → i2 ≡ i1 ++ (settled hope.Free u).notes → i3 ≡ i2 ++ j.notes → i4 ≡ i3 ++ (operand at m).notes
    → i4 ++ (index_when p at base index).notes ≡ into ++ (judge_index p at o j).notes
index_told p at o j into i1 i2 i3 i4 u base m index eu eb em ei t1 t2 t3 t4 =
    chain into i1 i2 i3 i4 o.notes (settled hope.Free u).notes j.notes (operand at m).notes (index_when p at base index).notes t1 t2 t3 t4
    ∙ ap (λ (x : Operand). into ++ (((o.notes ++ (settled hope.Free u).notes) ++ (j.notes ++ (operand at m).notes)) ++ (index_when p at base x).notes)) ei
    ∙ ap (λ (b : Option Typed). into ++ (((o.notes ++ (settled hope.Free u).notes) ++ (j.notes ++ (operand at m).notes)) ++ (index_when p at b (operand at m).operand).notes)) eb
    ∙ ap (λ (n : Meaning). into ++ (((o.notes ++ (settled hope.Free u).notes) ++ (j.notes ++ (operand at n).notes)) ++ (index_when p at (settled hope.Free u).typed (operand at n).operand).notes)) em
    ∙ ap (λ (v : Operand). into ++ (((o.notes ++ (settled hope.Free v).notes) ++ (j.notes ++ (operand at j.meaning).notes)) ++ (index_when p at (settled hope.Free v).typed (operand at j.meaning).operand).notes)) eu

pub slice_told : (p : Place) (o : Operated) (x y : Ended) (into i1 i2 i3 i4 : List Note) (u : Operand) (base : Option Typed) (start stop : End)
    → u ≡ o.operand → base ≡ (settled hope.Free u).typed → start ≡ x.end → stop ≡ y.end
    → i1 ≡ into ++ o.notes → i2 ≡ i1 ++ (settled hope.Free u).notes → i3 ≡ i2 ++ x.notes → i4 ≡ i3 ++ y.notes
    → i4 ++ (slice_when p base start stop).notes ≡ into ++ (judge_slice p (based o) x y).notes
slice_told p o x y into i1 i2 i3 i4 u base start stop eu eb es ez t1 t2 t3 t4 =
    chain into i1 i2 i3 i4 o.notes (settled hope.Free u).notes x.notes y.notes (slice_when p base start stop).notes t1 t2 t3 t4
    ∙ ap (λ (b : Option Typed). into ++ (((o.notes ++ (settled hope.Free u).notes) ++ (x.notes ++ y.notes)) ++ (slice_when p b start stop).notes)) eb
    ∙ ap (λ (a : End). into ++ (((o.notes ++ (settled hope.Free u).notes) ++ (x.notes ++ y.notes)) ++ (slice_when p (settled hope.Free u).typed a stop).notes)) es
    ∙ ap (λ (z : End). into ++ (((o.notes ++ (settled hope.Free u).notes) ++ (x.notes ++ y.notes)) ++ (slice_when p (settled hope.Free u).typed x.end z).notes)) ez
    ∙ ap (λ (v : Operand). into ++ (((o.notes ++ (settled hope.Free v).notes) ++ (x.notes ++ y.notes)) ++ (slice_when p (settled hope.Free v).typed x.end y.end).notes)) eu

-- what a call means, from what is called and what is known of its arguments
pub call_says : (s : Scope) (p : Place) (f : Ex) (as_ : Args) (m : Meaning) (callee : calls.Callee) (known : Option (List Known))
    → m ≡ (judge s freely f).meaning → callee ≡ calls.callee s.functions m → known ≡ (arguments s callee 0 calls.nothing_used as_).known
    → (calls.applied_when p callee known).meaning ≡ (judge s freely (call p f as_)).meaning
call_says s p f as_ m callee known em ec ek =
    ap (λ (k : Option (List Known)). (calls.applied_when p callee k).meaning) ek
    ∙ ap (λ (c : calls.Callee). (calls.applied_when p c (arguments s c 0 calls.nothing_used as_).known).meaning) (ec ∙ ap (calls.callee s.functions) em)

before : (ns o s w : List Note) → ns ++ ((o ++ s) ++ w) ≡ ((ns ++ o) ++ s) ++ w
before ns o s w = sym (ap (λ z. z ++ w) (append_assoc ns o s) ∙ append_assoc ns (o ++ s) w)

value_behind : (p q : Place) (w : Word) (ns : List Note) (m : Meaning)
    → after ns (member_of_value p w (value hope.Free q (says m))) ≡ member_of_value p w (value hope.Free q (record { notes = ns; meaning = m }))
value_behind p q w ns m =
    let v = settled hope.Free (operand q m).operand in
    let j = member_when p w v.typed in
    ap (λ (z : List Note). record { notes = z; meaning = j.meaning }) (before ns (operand q m).notes v.notes j.notes)

-- a member of what means this, behind what was told before
member_by : (s : Scope) (p q : Place) (w : Word) (ns : List Note) (m : Meaning)
    → after ns (judge_member s p q w (says m)) ≡ judge_member s p q w (record { notes = ns; meaning = m })
member_by s p q w ns (meaning.Thing t) = refl
member_by s p q w ns (meaning.Value t) = value_behind p q w ns (meaning.Value t)
member_by s p q w ns (meaning.Literal r l) = value_behind p q w ns (meaning.Literal r l)
member_by s p q w ns (meaning.Range r) = value_behind p q w ns (meaning.Range r)
member_by s p q w ns meaning.Unknown = ap (λ (z : List Note). record { notes = z; meaning = meaning.Unknown }) (append-nil ns)

pub member_told : (s : Scope) (p q at : Place) (w : Word) (j : Judged) (m : Meaning) (into more : List Note) → at ≡ q → m ≡ j.meaning → more ≡ into ++ j.notes
    → more ++ (judge_member s p at w (says m)).notes ≡ into ++ (judge_member s p q w j).notes
member_told s p q at w j m into more ea em told =
    ap (λ z. z ++ (judge_member s p at w (says m)).notes) told
    ∙ append_assoc into j.notes (judge_member s p at w (says m)).notes
    ∙ ap (λ (r : Place). into ++ (j.notes ++ (judge_member s p r w (says m)).notes)) ea
    ∙ ap (λ (n : Meaning). into ++ (j.notes ++ (judge_member s p q w (says n)).notes)) em
    ∙ ap (λ (k : Judged). into ++ k.notes) (member_by s p q w j.notes j.meaning)

pub member_says : (s : Scope) (p q at : Place) (w : Word) (j : Judged) (m : Meaning) → at ≡ q → m ≡ j.meaning
    → (judge_member s p at w (says m)).meaning ≡ (judge_member s p q w j).meaning
member_says s p q at w j m ea em =
    ap (λ (r : Place). (judge_member s p r w (says m)).meaning) ea
    ∙ ap (λ (n : Meaning). (judge_member s p q w (says n)).meaning) em
    ∙ ap (λ (k : Judged). k.meaning) (member_by s p q w j.notes j.meaning)

-- the deepest of those behind
pub deep_behind : {A : Type 0} (f : A → ℕ) (xs : List A) (n d : ℕ) (x : A) → n < length xs → greatest (map f (drop n xs)) ≤ d → greatest (map f (drop (n + 1) xs)) ≤ d
deep_behind f xs n d x low h = omega (arith, h, at_drop_more (λ ys. greatest (map f ys)) xs n x low)
