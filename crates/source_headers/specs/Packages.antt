-- The packages that imports name, and what a line of a module defines, with the numbers that constants, functions and classes have behind it.
use Rattle.std.specs.Prelude.{ℕ, suc, List, if◌then◌else◌, Option, Some, None}
use Rattle.py_grammar.specs.declared.module.Item.{Item}
use Rattle.py_grammar.specs.declared.module.Item.TheVariants as item
use Rattle.source_names.specs.declared.constant.Constant.{Constant}
use Rattle.source_names.specs.declared.constant.Constant.TheVariants as constant
use Rattle.source_names.specs.Literals.{is_short}
use Rattle.source_headers.specs.declared.modules.Package.{Package}
use Rattle.source_headers.specs.declared.modules.Package.TheVariants as kind
use Rattle.source_headers.specs.Modules as modules

abbrev pub meant : Package → modules.Package
meant kind.Algopy = modules.algopy
meant kind.AlgopyArc4 = modules.algopy_arc4
meant kind.Typing = modules.typing
meant kind.Another = modules.another

abbrev pub constants_behind : ℕ → Item → ℕ
constants_behind c (item.Const w v) = suc c
constants_behind c _ = c

abbrev pub functions_behind : ℕ → Item → ℕ
functions_behind f (item.Func d) = suc f
functions_behind f _ = f

abbrev pub classes_behind : ℕ → Item → ℕ
classes_behind k (item.Class d) = suc k
classes_behind k _ = k

-- the bytes of a literal that is not too long
abbrev pub short_joined : List ℕ → Option (List ℕ)
short_joined b = if is_short b then Some b else None

abbrev pub text_of : Option (List ℕ) → Constant
text_of (Some b) = constant.Text b
text_of None = constant.Unknown

abbrev pub bytes_of : Option (List ℕ) → Constant
bytes_of (Some b) = constant.Bytes b
bytes_of None = constant.Unknown
