-- What a module defines (Python reference 7.11, 9.2): imports, constants, functions, classes; P08 to P11, and P14 on a constant's literal.
use Rattle.std.specs.Prelude.{ℕ, suc, Bool, true, false, if◌then◌else◌, List, [], ◌∷◌, ◌++◌, bytes_eq, codes, Option, Some, None}
use Rattle.puya_base.specs.declared.source.Place.{Place}
use Rattle.puya_base.specs.declared.source.Rule.TheVariants as rule
use Rattle.puya_base.specs.declared.source.Refusal.{Refusal}
use Rattle.py_grammar.specs.declared.word.Word.{Word}
use Rattle.py_grammar.specs.declared.module.Import.{Import}
use Rattle.py_grammar.specs.declared.module.Item.{Item}
use Rattle.py_grammar.specs.declared.module.Item.TheVariants as item
use Rattle.py_grammar.specs.declared.module.ConstValue.{ConstValue}
use Rattle.py_grammar.specs.declared.module.ConstValue.TheVariants as value
use Rattle.algopy_library.specs.declared.row.Row.{Row}
use Rattle.algopy_library.specs.declared.row.Row.TheVariants as row
use Rattle.algopy_library.specs.Packages.{package_named, typing_named}
use Rattle.source_names.specs.declared.constant.Constant.{Constant}
use Rattle.source_names.specs.declared.constant.Constant.TheVariants as constant
use Rattle.source_names.specs.declared.named.Thing.{Thing}
use Rattle.source_names.specs.declared.named.Thing.TheVariants as thing
use Rattle.source_names.specs.declared.named.Entry.{Entry}
use Rattle.source_names.specs.declared.signature.Signature.{Signature}
use Rattle.source_names.specs.Literals.{number_of, joined, is_short}
use Rattle.source_names.specs.Faults.{breaks}
use Rattle.source_headers.specs.Headers.{twice, signature, signature_faults, decorators}

-- ---- imports

-- which names a module's import takes
pub data Package : Type 0 where
  algopy : Package
  algopy_arc4 : Package
  typing : Package
  another : Package

abbrev pub package_when : Bool → Bool → Package
package_when true b = algopy
package_when false true = typing
package_when false false = another

abbrev pub package_of : List Word → Package
package_of [] = another
package_of (w ∷ []) = package_when (bytes_eq w.name (codes "algopy")) (bytes_eq w.name (codes "typing"))
package_of (w ∷ v ∷ []) = if bytes_eq w.name (codes "algopy") then (if bytes_eq v.name (codes "arc4") then algopy_arc4 else another) else another
package_of (w ∷ v ∷ u ∷ ws) = another

abbrev pub row_in : Package → List ℕ → Option Row
row_in algopy n = package_named n
row_in algopy_arc4 n = None
row_in typing n = typing_named n
row_in another n = None

abbrev pub row_thing : Option Row → Thing
row_thing (Some row.LeftOut) = thing.Unknown
row_thing (Some r) = thing.Library r
row_thing None = thing.Unknown

abbrev pub known_as : Word → Option Word → Word
known_as w None = w
known_as w (Some v) = v

abbrev pub entry : Word → Thing → Entry
entry w t = record { name = w.name; place = w.place; thing = t }

abbrev pub imported : Package → Import → Entry
imported p i = entry (known_as i.name i.known_as) (row_thing (row_in p i.name.name))

abbrev pub all_imported : Package → List Import → List Entry
all_imported p [] = []
all_imported p (i ∷ is) = imported p i ∷ all_imported p is

-- `import typing` is the one import of a module as a whole
abbrev pub module_thing : Package → Thing
module_thing typing = thing.Library row.Typing
module_thing _ = thing.Unknown

abbrev pub module_entry : List Word → Option Word → List Entry
module_entry ws (Some v) = entry v (module_thing (package_of ws)) ∷ []
module_entry [] None = []
module_entry (w ∷ ws) None = entry w (module_thing (package_of (w ∷ ws))) ∷ []

abbrev pub name_faults : Place → Option Row → List Refusal
name_faults p (Some row.LeftOut) = breaks rule.P08 p
name_faults p (Some r) = []
name_faults p None = breaks rule.P09 p

abbrev pub algopy_faults : List Import → List Refusal
algopy_faults [] = []
algopy_faults (i ∷ is) = name_faults i.name.place (package_named i.name.name) ++ algopy_faults is

abbrev pub is_known : Option Row → Bool
is_known None = false
is_known (Some r) = true

abbrev pub all_of_typing : List Import → Bool
all_of_typing [] = true
all_of_typing (i ∷ is) = if is_known (typing_named i.name.name) then all_of_typing is else false

-- P08 and P09 on the names of `algopy`, P11 on an import of anything else
abbrev pub import_faults : Place → Package → List Import → List Refusal
import_faults p algopy is = algopy_faults is
import_faults p algopy_arc4 is = []
import_faults p typing is = if all_of_typing is then [] else breaks rule.P11 p
import_faults p another is = breaks rule.P11 p

abbrev pub module_faults : Place → Package → List Refusal
module_faults p typing = []
module_faults p _ = breaks rule.P11 p

-- ---- constants

abbrev pub short_or : List ℕ → Constant → Constant
short_or b c = if is_short b then c else constant.Unknown

abbrev pub constant_of : ConstValue → Constant
constant_of (value.Number l) = constant.Number (number_of l)
constant_of (value.Text p ls) = short_or (joined ls) (constant.Text (joined ls))
constant_of (value.Bytes p ls) = short_or (joined ls) (constant.Bytes (joined ls))
constant_of (value.Flag p b) = constant.Flag b

abbrev pub long_fault : Place → List ℕ → List Refusal
long_fault p b = if is_short b then [] else breaks rule.P14 p

-- P14 on a literal of over 4096 bytes
abbrev pub constant_faults : ConstValue → List Refusal
constant_faults (value.Number l) = []
constant_faults (value.Text p ls) = long_fault p (joined ls)
constant_faults (value.Bytes p ls) = long_fault p (joined ls)
constant_faults (value.Flag p b) = []

-- ---- the module's names; constants, functions and classes are numbered in reading order

abbrev pub entries_from : ℕ → ℕ → ℕ → List Item → List Entry
entries_from c f k [] = []
entries_from c f k (item.Text p ls ∷ is) = entries_from c f k is
entries_from c f k (item.Import p ws a ∷ is) = module_entry ws a ++ entries_from c f k is
entries_from c f k (item.From p ws ns ∷ is) = all_imported (package_of ws) ns ++ entries_from c f k is
entries_from c f k (item.FromParen p ws ns b ∷ is) = all_imported (package_of ws) ns ++ entries_from c f k is
entries_from c f k (item.Const w v ∷ is) = entry w (thing.Constant c) ∷ entries_from (suc c) f k is
entries_from c f k (item.Func d ∷ is) = entry d.name (thing.Function f) ∷ entries_from c (suc f) k is
entries_from c f k (item.Class d ∷ is) = entry d.name (thing.Class k) ∷ entries_from c f (suc k) is

abbrev pub entries : List Item → List Entry
entries is = entries_from 0 0 0 is

abbrev pub constants : List Item → List Constant
constants [] = []
constants (item.Const w v ∷ is) = constant_of v ∷ constants is
constants (_ ∷ is) = constants is

abbrev pub signatures : List Entry → List Item → List Signature
signatures es [] = []
signatures es (item.Func f ∷ is) = signature es false f ∷ signatures es is
signatures es (_ ∷ is) = signatures es is

abbrev pub entry_words : List Entry → List Word
entry_words [] = []
entry_words (e ∷ es) = (record { name = e.name; place = e.place }) ∷ entry_words es

abbrev pub item_faults : List Entry → Item → List Refusal
item_faults es (item.Text p ls) = []
item_faults es (item.Import p ws a) = module_faults p (package_of ws)
item_faults es (item.From p ws ns) = import_faults p (package_of ws) ns
item_faults es (item.FromParen p ws ns b) = import_faults p (package_of ws) ns
item_faults es (item.Const w v) = constant_faults v
item_faults es (item.Func f) = decorators es f.def f.decorators ++ signature_faults es false f
item_faults es (item.Class c) = []

abbrev pub all_item_faults : List Entry → List Item → List Refusal
all_item_faults es [] = []
all_item_faults es (i ∷ is) = item_faults es i ++ all_item_faults es is

-- the rules on names that a module breaks, its classes and the bodies of its functions aside
abbrev pub names_faults : List Item → List Refusal
names_faults is = twice [] (entry_words (entries is)) ++ all_item_faults (entries is) is
