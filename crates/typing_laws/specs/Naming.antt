-- Modules in which each name means something: none is brought in from a package that is not built yet, and each type and each base is written with a name,
-- as in every tree that tokens derive.
use Rattle.std.specs.Prelude.{ℕ, ◌≡◌, Bool, true, false, ◌&&◌, List, [], ◌∷◌, Option, Some, None, slice_get}
use Rattle.py_grammar.specs.declared.word.Word.{Word}
use Rattle.py_grammar.specs.declared.type_tree.TypeTree.{TypeTree}
use Rattle.py_grammar.specs.declared.type_tree.TypeArg.TheOpen.{TypeTree-F, TypeArg-F}
use Rattle.py_grammar.specs.declared.type_tree.TypeArg.TheFolds.{fold-TypeTree}
use Rattle.py_grammar.specs.declared.module.Param.{Param}
use Rattle.py_grammar.specs.declared.module.Func.{Func}
use Rattle.py_grammar.specs.declared.module.Member.{Member}
use Rattle.py_grammar.specs.declared.module.Member.TheVariants as member
use Rattle.py_grammar.specs.declared.module.Item.{Item}
use Rattle.py_grammar.specs.declared.module.Item.TheVariants as item
use Rattle.py_grammar.specs.declared.module.Module.{Module}
use Rattle.source_names.specs.declared.named.Entry.{Entry}
use Rattle.source_names.specs.declared.named.Thing.TheVariants as thing
use Rattle.source_headers.specs.Modules.{entries}
use Rattle.statement_check.specs.Lines.{Line, annotate, St, line, if_else, while_do, for_in, Sts, no_stmts, a_stmt, Branches, otherwise, a_branch, block_of}

abbrev pub has_word : List Word → Bool
has_word [] = false
has_word (w ∷ ws) = true

abbrev pub all_named : List Bool → Bool
all_named [] = true
all_named (b ∷ bs) = b && all_named bs

abbrev pub named_layer : TypeTree-F Bool Bool → Bool
named_layer (TypeTree-F.None p) = true
named_layer (TypeTree-F.Named p ws) = has_word ws
named_layer (TypeTree-F.Of p ws as_ c) = has_word ws && all_named as_

abbrev pub named_argument : TypeArg-F Bool Bool → Bool
named_argument (TypeArg-F.Type b) = b
named_argument (TypeArg-F.Number n) = true

-- each type in it has a name
abbrev pub is_named_type : TypeTree → Bool
is_named_type = fold-TypeTree Bool Bool named_argument named_layer

abbrev pub is_named_line : Line → Bool
is_named_line (annotate t a e) = is_named_type a
is_named_line _ = true

abbrev mutual
  pub is_named : St → Bool
  is_named (line l) = is_named_line l
  is_named (if_else p bs) = are_named_branches bs
  is_named (while_do p e b) = are_named b
  is_named (for_in p w e b) = are_named b

  pub are_named : Sts → Bool
  are_named no_stmts = true
  are_named (a_stmt s ss) = is_named s && are_named ss

  pub are_named_branches : Branches → Bool
  are_named_branches (otherwise b) = are_named b
  are_named_branches (a_branch e b bs) = are_named b && are_named_branches bs

abbrev pub is_named_annotation : Option TypeTree → Bool
is_named_annotation None = true
is_named_annotation (Some t) = is_named_type t

abbrev pub are_named_params : List Param → Bool
are_named_params [] = true
are_named_params (p ∷ ps) = is_named_annotation p.annotation && are_named_params ps

abbrev pub is_named_function : Func → Bool
is_named_function f = are_named_params f.params && (is_named_annotation f.result && are_named (block_of f.body))

abbrev pub are_named_members : List Member → Bool
are_named_members [] = true
are_named_members (member.Func f ∷ ms) = is_named_function f && are_named_members ms
are_named_members (_ ∷ ms) = are_named_members ms

abbrev pub are_named_items : List Item → Bool
are_named_items [] = true
are_named_items (item.Func f ∷ is) = is_named_function f && are_named_items is
are_named_items (item.Class c ∷ is) = has_word c.base && (are_named_members c.members && are_named_items is)
are_named_items (_ ∷ is) = are_named_items is

-- no name of the module is unknown
abbrev pub EntriesKnown : List Entry → Type 0
EntriesKnown es = (i : ℕ) (e : Entry) → slice_get es i ≡ Some e → e.thing ≡ thing.Unknown → ⊥

pub record MeansSomething (m : Module) : Type 0 where
  pub entries : EntriesKnown (entries m.items)
  pub named : are_named_items m.items ≡ true
