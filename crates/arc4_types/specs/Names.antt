-- The names of types, and the signature of a method (ARC-4, "Types", "Method Signature").
use Rattle.std.specs.Prelude.{ℕ, List, [], ◌∷◌, ◌++◌, map, codes, Option, Some, None}
use Rattle.std.specs.Borrow.{Bor}
use Rattle.std.specs.Fmt.{decimal}
use Rattle.arc4_types.specs.declared.abi.Abi.{Abi}
use Rattle.arc4_types.specs.declared.abi.Abi.TheOpen.{Abi-F}
use Rattle.arc4_types.specs.declared.abi.Abi.TheFolds.{fold-Abi}

-- each of these behind a comma
abbrev pub more_names : List (List ℕ) → List ℕ
more_names [] = []
more_names (n ∷ ns) = codes "," ++ (n ++ more_names ns)

-- these with commas between them
abbrev pub with_commas : List (List ℕ) → List ℕ
with_commas [] = []
with_commas (n ∷ ns) = n ++ more_names ns

-- these with commas between them, in brackets
abbrev pub bracketed : List (List ℕ) → List ℕ
bracketed ns = codes "(" ++ (with_commas ns ++ codes ")")

-- the name of a type, from those of its parts
abbrev pub name_of : Abi-F (List ℕ) → List ℕ
name_of (Abi-F.Uint bits) = codes "uint" ++ decimal bits
name_of Abi-F.Byte = codes "byte"
name_of Abi-F.Bool = codes "bool"
name_of Abi-F.Text = codes "string"
name_of Abi-F.Address = codes "address"
name_of (Abi-F.Array item) = item ++ codes "[]"
name_of (Abi-F.Fixed item count) = item ++ (codes "[" ++ (decimal count ++ codes "]"))
name_of (Abi-F.Tuple parts) = bracketed parts

abbrev pub type_name : Abi → List ℕ
type_name = fold-Abi (List ℕ) name_of

abbrev pub list_of_names : List Abi → List ℕ
list_of_names types = bracketed (map type_name types)

abbrev pub result_name : Option (Bor Abi) → List ℕ
result_name None = codes "void"
result_name (Some ty) = type_name ty.now

abbrev pub signature_of : List ℕ → List Abi → Option (Bor Abi) → List ℕ
signature_of name args returned = name ++ (list_of_names args ++ result_name returned)
