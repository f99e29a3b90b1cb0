-- What a source is compiled to.
use Rattle.std.specs.Prelude.{◌≡◌, ℕ, ◌⊎◌, List, [], ◌∷◌, Option, None, Some, Result, Ok, Err}
use Rattle.puya_base.specs.declared.source.Refusal.{Refusal}
use Rattle.py_grammar.specs.declared.module.Module.{Module}
use Rattle.path_rules.specs.Rules.{IsFirst}
use Rattle.type_check.specs.Whole.{IsBrokenIn}
use Rattle.compiler.specs.declared.build.Build.{Build}
use Rattle.compiler.specs.declared.build.CompileFault.{CompileFault}
use Rattle.compiler.specs.declared.build.CompileFault.TheVariants as fault
use Rattle.compiler.specs.Form.{Form, form_of}
use Rattle.compiler.specs.Programs.{Serves, IsClear}
use Rattle.compiler.specs.Source.{HasTree, IsUnbuilt, IsUnread}

-- the tree breaks none of the rules on names, types and paths
abbrev pub KeepsRules : Module → Type 0
KeepsRules m = IsFirst (IsBrokenIn m) None

-- the first of the rules on names, types and paths that a source breaks
pub record BreaksRule (source : List ℕ) (refusal : Refusal) : Type 0 where
  pub tree : Module
  pub tree_is : HasTree source tree
  pub first : IsFirst (IsBrokenIn tree) (Some refusal)

-- the first rule that a source breaks
abbrev pub IsBroken : List ℕ → Refusal → Type 0
IsBroken source refusal = IsUnread source refusal ⊎ BreaksRule source refusal

-- whether a tree keeps the rules on names, types and paths, or the first that it breaks
abbrev pub IsKept : Module → Result (Unit {0}) CompileFault → Type 0
IsKept m (Ok u) = KeepsRules m
IsKept m (Err (fault.Refused refusal)) = IsFirst (IsBrokenIn m) (Some refusal)
IsKept m (Err fault.NotBuilt) = ⊥
IsKept m (Err fault.Memory) = Unit {0}

-- a source that breaks no rule, whose tree is of the form
pub record HasForm (source : List ℕ) (f : Form) : Type 0 where
  pub tree : Module
  pub tree_is : HasTree source tree
  pub keeps : KeepsRules tree
  pub form_is : form_of tree ≡ Some f

-- a source that breaks no rule, whose tree is of another form
pub record HasOtherForm (source : List ℕ) : Type 0 where
  pub tree : Module
  pub tree_is : HasTree source tree
  pub keeps : KeepsRules tree
  pub form_is : form_of tree ≡ None

-- a source that is not compiled yet: it uses a form that is not built, or breaks no rule and is not of the form
abbrev pub IsNotBuilt : List ℕ → Type 0
IsNotBuilt source = IsUnbuilt source ⊎ HasOtherForm source

-- the programs of a contract do what its source says
pub record IsBuilt (f : Form) (build : Build) : Type 0 where
  pub name : build.name ≡ f.name
  pub approval : Serves f.sum build.approval
  pub clear : IsClear build.clear
  pub description : build.arc56 ≡ None

-- one build for each contract, in reading order
abbrev pub AreBuilt : Form → List Build → Type 0
AreBuilt f [] = ⊥
AreBuilt f (b ∷ []) = IsBuilt f b
AreBuilt f (b ∷ c ∷ bs) = ⊥

-- what is answered to a tree
abbrev pub IsBuiltFrom : Module → Result (List Build) CompileFault → Type 0
IsBuiltFrom m (Ok builds) = (f : Form) × (form_of m ≡ Some f) × AreBuilt f builds
IsBuiltFrom m (Err (fault.Refused refusal)) = ⊥
IsBuiltFrom m (Err fault.NotBuilt) = form_of m ≡ None
IsBuiltFrom m (Err fault.Memory) = Unit {0}

-- what is answered to a source: its programs, or the first rule that it breaks, or that its form is not compiled yet
abbrev pub IsCompiled : List ℕ → Result (List Build) CompileFault → Type 0
IsCompiled source (Ok builds) = (f : Form) × HasForm source f × AreBuilt f builds
IsCompiled source (Err (fault.Refused refusal)) = IsBroken source refusal
IsCompiled source (Err fault.NotBuilt) = IsNotBuilt source
IsCompiled source (Err fault.Memory) = Unit {0}
