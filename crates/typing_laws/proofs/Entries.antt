-- The names and the constants of a module are good: no name stands for a member of the library alone, and each constant is short.
use Rattle.std.proofs.Common.{◌≡◌, ℕ, zero, suc, ◌≤◌, length, Bool, true, false, List, [], ◌∷◌, ◌++◌, Option, Some, None, refl, subst, leb-true}
use Rattle.std.specs.Prelude.{if◌then◌else◌}
use Rattle.std.proofs.lemmas.Option.{none-some}
use Rattle.py_grammar.specs.declared.word.Word.{Word}
use Rattle.py_grammar.specs.declared.module.Import.{Import}
use Rattle.py_grammar.specs.declared.module.Item.{Item}
use Rattle.py_grammar.specs.declared.module.Item.TheVariants as item
use Rattle.py_grammar.specs.declared.module.ConstValue.{ConstValue}
use Rattle.py_grammar.specs.declared.module.ConstValue.TheVariants as value
use Rattle.algopy_library.specs.declared.row.Row.{Row}
use Rattle.algopy_library.specs.declared.row.Row.TheVariants as row
use Rattle.source_names.specs.declared.constant.Constant.{Constant}
use Rattle.source_names.specs.declared.constant.Constant.TheVariants as constant
use Rattle.source_names.specs.declared.named.Entry.{Entry}
use Rattle.source_names.specs.Literals.{is_short, joined}
use Rattle.source_headers.specs.Modules.{Package, algopy, algopy_arc4, typing, another, package_of, row_in, row_thing, all_imported, module_thing, module_entry, constant_of, entries_from, entries, constants}
use Rattle.typing_laws.proofs.Good.{GoodThing, GoodEntries, GoodConstants, ShortConstant}

row_good : (o : Option Row) → GoodThing (row_thing o)
row_good None = tt
row_good (Some row.LeftOut) = tt
row_good (Some _) = tt

package_good : (p : Package) → GoodThing (module_thing p)
package_good algopy = tt
package_good algopy_arc4 = tt
package_good typing = tt
package_good another = tt

entries_append : (a b : List Entry) → GoodEntries a → GoodEntries b → GoodEntries (a ++ b)
entries_append [] b g h = h
entries_append (e ∷ es) b g h = (g.0, entries_append es b g.1 h)

imported_good : (p : Package) (ns : List Import) → GoodEntries (all_imported p ns)
imported_good p [] = tt
imported_good p (n ∷ ns) = (row_good (row_in p n.name.name), imported_good p ns)

module_good : (ws : List Word) (a : Option Word) → GoodEntries (module_entry ws a)
module_good ws (Some v) = (package_good (package_of ws), tt)
module_good [] None = tt
module_good (w ∷ ws) None = (package_good (package_of (w ∷ ws)), tt)

from_good : (c f k : ℕ) (is : List Item) → GoodEntries (entries_from c f k is)
from_good c f k [] = tt
from_good c f k (item.Text p ls ∷ is) = from_good c f k is
from_good c f k (item.Import p ws a ∷ is) = entries_append (module_entry ws a) (entries_from c f k is) (module_good ws a) (from_good c f k is)
from_good c f k (item.From p ws ns ∷ is) = entries_append (all_imported (package_of ws) ns) (entries_from c f k is) (imported_good (package_of ws) ns) (from_good c f k is)
from_good c f k (item.FromParen p ws ns b ∷ is) = entries_append (all_imported (package_of ws) ns) (entries_from c f k is) (imported_good (package_of ws) ns) (from_good c f k is)
from_good c f k (item.Const w v ∷ is) = (tt, from_good (suc c) f k is)
from_good c f k (item.Func d ∷ is) = (tt, from_good c (suc f) k is)
from_good c f k (item.Class d ∷ is) = (tt, from_good c f (suc k) is)

pub entries_good : (is : List Item) → GoodEntries (entries is)
entries_good is = from_good 0 0 0 is

-- ---- constants

short_by : (b : List ℕ) (c : Constant) (s : Bool) → is_short b ≡ s → (length b ≤ 4096 → ShortConstant c) → ShortConstant (if s then c else constant.Unknown)
short_by b c true e h = h (leb-true (length b) 4096 e)
short_by b c false e h = tt

one_short : (v : ConstValue) → ShortConstant (constant_of v)
one_short (value.Number l) = tt
one_short (value.Text p ls) = short_by (joined ls) (constant.Text (joined ls)) (is_short (joined ls)) refl (λ h. h)
one_short (value.Bytes p ls) = short_by (joined ls) (constant.Bytes (joined ls)) (is_short (joined ls)) refl (λ h. h)
one_short (value.Flag p b) = tt

abbrev EachShort : List Constant → Type 0
EachShort [] = Unit {0}
EachShort (c ∷ cs) = ShortConstant c × EachShort cs

each_short : (is : List Item) → EachShort (constants is)
each_short [] = tt
each_short (item.Const w v ∷ is) = (one_short v, each_short is)
each_short (item.Text p ls ∷ is) = each_short is
each_short (item.Import p ws a ∷ is) = each_short is
each_short (item.From p ws ns ∷ is) = each_short is
each_short (item.FromParen p ws ns b ∷ is) = each_short is
each_short (item.Func d ∷ is) = each_short is
each_short (item.Class d ∷ is) = each_short is

good_at : (cs : List Constant) → EachShort cs → GoodConstants cs
good_at [] h i c e = absurd (none-some c e)
good_at (d ∷ cs) h zero c e = let same : d ≡ c = cc in subst ShortConstant same h.0
good_at (d ∷ cs) h (suc i) c e = good_at cs h.1 i c e

pub constants_good : (is : List Item) → GoodConstants (constants is)
constants_good is = good_at (constants is) (each_short is)
