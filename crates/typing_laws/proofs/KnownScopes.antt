-- The scopes of a module and of its classes, where each name means something and no rule is broken.
use Rattle.std.proofs.Common.{◌≡◌, ℕ, zero, suc, ◌+◌, ◌<◌, ◌≤◌, arith, length-append, Bool, true, false, List, [], ◌∷◌, ◌++◌, map, length, Option, Some, None, refl, ap, subst}
use Rattle.std.specs.Prelude.{if◌then◌else◌, slice_get}
use Rattle.std.proofs.lemmas.Option.{none-some, same_Some}
use Rattle.py_grammar.specs.declared.word.Word.{Word}
use Rattle.py_grammar.specs.declared.module.Import.{Import}
use Rattle.py_grammar.specs.declared.module.Func.{Func}
use Rattle.py_grammar.specs.declared.module.Class.{Class}
use Rattle.py_grammar.specs.declared.module.Item.{Item}
use Rattle.py_grammar.specs.declared.module.Item.TheVariants as item
use Rattle.algopy_library.specs.declared.row.Row.{Row}
use Rattle.algopy_library.specs.declared.row.Row.TheVariants as row
use Rattle.source_names.specs.declared.named.Thing.{Thing}
use Rattle.source_names.specs.declared.named.Thing.TheVariants as thing
use Rattle.source_names.specs.declared.named.Entry.{Entry}
use Rattle.source_headers.specs.Modules.{Package, algopy, algopy_arc4, typing, another, package_of, row_in, row_thing, all_imported, module_thing, module_entry, entries_from, entries, constants, signatures, all_item_faults}
use Rattle.source_headers.specs.Classes.{functions, is_program, methods_from, class_signatures}
use Rattle.meaning_rules.specs.declared.scope.Scope.{Scope}
use Rattle.meaning_rules.specs.declared.scope.Method.{Method}
use Rattle.expression_check.specs.Sights.{method_of}
use Rattle.type_check.specs.Whole.{module_functions, module_scope, class_scope}
use Rattle.typing_laws.specs.Naming.{EntriesKnown}
use Rattle.typing_laws.proofs.Known.{KnownThing, KnownNames}
use Rattle.typing_laws.proofs.KnownHeaders.{AllFine, signatures_append, module_signatures, own_signatures, constants_known}

-- ---- entries: functions and constants are numbered in reading order

-- so many functions and so many constants there are
abbrev Ranged : ℕ → ℕ → Thing → Type 0
Ranged n m (thing.Function i) = i < n
Ranged n m (thing.Method i) = ⊥
Ranged n m (thing.Constant i) = i < m
Ranged n m _ = Unit {0}

abbrev AllRanged : ℕ → ℕ → List Entry → Type 0
AllRanged n m [] = Unit {0}
AllRanged n m (e ∷ es) = Ranged n m e.thing × AllRanged n m es

row_ranged : (n m : ℕ) (o : Option Row) → Ranged n m (row_thing o)
row_ranged n m None = tt
row_ranged n m (Some row.LeftOut) = tt
row_ranged n m (Some _) = tt

package_ranged : (n m : ℕ) (p : Package) → Ranged n m (module_thing p)
package_ranged n m algopy = tt
package_ranged n m algopy_arc4 = tt
package_ranged n m typing = tt
package_ranged n m another = tt

ranged_append : (n m : ℕ) (a b : List Entry) → AllRanged n m a → AllRanged n m b → AllRanged n m (a ++ b)
ranged_append n m [] b g h = h
ranged_append n m (e ∷ es) b g h = (g.0, ranged_append n m es b g.1 h)

imported_ranged : (n m : ℕ) (p : Package) (ns : List Import) → AllRanged n m (all_imported p ns)
imported_ranged n m p [] = tt
imported_ranged n m p (i ∷ is) = (row_ranged n m (row_in p i.name.name), imported_ranged n m p is)

module_ranged : (n m : ℕ) (ws : List Word) (a : Option Word) → AllRanged n m (module_entry ws a)
module_ranged n m ws (Some v) = (package_ranged n m (package_of ws), tt)
module_ranged n m [] None = tt
module_ranged n m (w ∷ ws) None = (package_ranged n m (package_of (w ∷ ws)), tt)

from_ranged : (es : List Entry) (n m c f k : ℕ) (is : List Item) → f + length (signatures es is) ≡ n → c + length (constants is) ≡ m → AllRanged n m (entries_from c f k is)
from_ranged es n m c f k [] g h = tt
from_ranged es n m c f k (item.Text p ls ∷ is) g h = from_ranged es n m c f k is g h
from_ranged es n m c f k (item.Import p ws a ∷ is) g h = ranged_append n m (module_entry ws a) (entries_from c f k is) (module_ranged n m ws a) (from_ranged es n m c f k is g h)
from_ranged es n m c f k (item.From p ws ns ∷ is) g h = ranged_append n m (all_imported (package_of ws) ns) (entries_from c f k is) (imported_ranged n m (package_of ws) ns) (from_ranged es n m c f k is g h)
from_ranged es n m c f k (item.FromParen p ws ns b ∷ is) g h = ranged_append n m (all_imported (package_of ws) ns) (entries_from c f k is) (imported_ranged n m (package_of ws) ns) (from_ranged es n m c f k is g h)
from_ranged es n m c f k (item.Const w v ∷ is) g h = (omega (arith, h), from_ranged es n m (suc c) f k is g (omega (arith, h)))
from_ranged es n m c f k (item.Func d ∷ is) g h = (omega (arith, g), from_ranged es n m c (suc f) k is (omega (arith, g)) h)
from_ranged es n m c f k (item.Class d ∷ is) g h = (tt, from_ranged es n m c f (suc k) is g h)

ranged_at : (n m : ℕ) (es : List Entry) → AllRanged n m es → (i : ℕ) (e : Entry) → slice_get es i ≡ Some e → Ranged n m e.thing
ranged_at n m [] h i e a = absurd (none-some e a)
ranged_at n m (d ∷ es) h zero e a = subst (λ (z : Entry). Ranged n m z.thing) (same_Some d e a) h.0
ranged_at n m (d ∷ es) h (suc i) e a = ranged_at n m es h.1 i e a

thing_known : (s : Scope) (n m : ℕ) (t : Thing) → n ≤ length s.functions → m ≤ length s.constants → Ranged n m t → (t ≡ thing.Unknown → ⊥) → KnownThing s t
thing_known s n m (thing.Function i) g h r k = omega (arith, g, r)
thing_known s n m (thing.Method i) g h r k = absurd r
thing_known s n m (thing.Constant i) g h r k = omega (arith, h, r)
thing_known s n m thing.Unknown g h r k = k refl
thing_known s n m _ g h r k = tt

-- the names of the module in a scope that has its functions and its constants
entries_known : (s : Scope) (is : List Item) → s.entries ≡ entries is → s.constants ≡ constants is → length (signatures (entries is) is) ≤ length s.functions → EntriesKnown (entries is)
    → (i : ℕ) (e : Entry) → slice_get s.entries i ≡ Some e → KnownThing s e.thing
entries_known s is a b g k i e h =
    let n = length (signatures (entries is) is) in
    let m = length (constants is) in
    let same = ap length b in
    let at = subst (λ z. slice_get z i ≡ Some e) a h in
    thing_known s n m e.thing g (omega (arith, same)) (ranged_at n m (entries is) (from_ranged (entries is) n m 0 0 0 is (omega arith) (omega arith)) i e at) (k i e at)

-- ---- methods

methods_by : (name : List ℕ) (n k : ℕ) (ms : List (List ℕ × ℕ)) (i : ℕ) (m : Method) (b : Bool) → slice_get (map method_of (if b then ms else (name, n) ∷ ms)) i ≡ Some m
    → ((j : ℕ) → slice_get (map method_of ms) j ≡ Some m → m.function < suc n + k) → m.function < n + suc k
methods_by name n k ms i m true e h = let r = h i e in omega (arith, r)
methods_by name n k ms zero m false e h =
    let same : n ≡ m.function = ap (λ (z : Method). z.function) (same_Some (method_of (name, n)) m e) in
    omega (arith, same)
methods_by name n k ms (suc i) m false e h = let r = h i e in omega (arith, r)

methods_known : (n : ℕ) (fs : List Func) (i : ℕ) (m : Method) → slice_get (map method_of (methods_from n fs)) i ≡ Some m → m.function < n + length fs
methods_known n [] i m e = absurd (none-some m e)
methods_known n (f ∷ fs) i m e = methods_by f.name.name n (length fs) (methods_from (suc n) fs) i m (is_program f) e (λ j h. methods_known (suc n) fs j m h)

own_length : (es : List Entry) (fs : List Func) → length (class_signatures es fs) ≡ length fs
own_length es [] = refl
own_length es (f ∷ fs) = ap suc (own_length es fs)

-- ---- scopes

pub module_known : (is : List Item) → EntriesKnown (entries is) → all_item_faults (entries is) is ≡ [] → AllFine (entries is) false (module_functions is) → KnownNames (module_scope is)
module_known is k h g = record {
  entries = entries_known (module_scope is) is refl refl (omega arith) k;
  constants = constants_known (entries is) is h;
  functions = module_signatures (entries is) is k g;
  methods = λ i m e. absurd (none-some m e);
}

pub class_known : (is : List Item) (c : Class) (f : Func) → EntriesKnown (entries is) → all_item_faults (entries is) is ≡ [] → AllFine (entries is) false (module_functions is) → AllFine (entries is) true (functions c.members)
    → KnownNames (class_scope is c f)
class_known is c f k h g d =
    let ours = signatures (entries is) is in
    let own = class_signatures (entries is) (functions c.members) in
    let long = length-append ours own in
    let count = own_length (entries is) (functions c.members) in
    record {
      entries = entries_known (class_scope is c f) is refl refl (omega (arith, long)) k;
      constants = constants_known (entries is) is h;
      functions = signatures_append ours own (module_signatures (entries is) is k g) (own_signatures (entries is) (functions c.members) k d);
      methods = λ i m e. let r = methods_known (length ours) (functions c.members) i m e in omega (arith, r, long, count);
    }
