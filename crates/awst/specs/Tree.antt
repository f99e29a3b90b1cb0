-- Typed trees as plain data, with few forms: each node has its place, its type and its amounts.
use Rattle.std.specs.Prelude.{ℕ, List, [], ◌∷◌, Option}
use Rattle.puya_base.specs.declared.source.Place.{Place}
use Rattle.awst.specs.declared.primitive.Primitive.{Primitive}
use Rattle.awst.specs.Types.{ValueType}
use Rattle.awst.specs.Values.{Val}
use Rattle.awst.specs.Table.{Own}

-- what is done with the values of the parts
pub data Operation : Type 0 where
  -- an operator or a form of the library
  by : Primitive → Operation
  -- a tuple of the parts
  pack : Operation
  -- a part of a tuple, from 0
  part : ℕ → Operation
  -- an element of an array
  element : Operation

pub record Node : Type 0 where
  pub place : Place
  pub ty : ValueType
  pub own : Own

mutual
  pub data Ex : Type 0 where
    ex : Node → Form → Ex

  pub data Form : Type 0 where
    constant : Val → Form
    variable : ℕ → Form
    -- the parts, from left to right, and then the operation
    strict : Operation → Exs → Form
    -- `and`, `or`
    both : Ex → Ex → Form
    one_of : Ex → Ex → Form
    -- a condition, the value where it holds, the value where it does not
    choose : Ex → Ex → Ex → Form
    -- a function, the parts in reading order, the parameter of each
    call : ℕ → Exs → List ℕ → Form

  pub data Exs : Type 0 where
    no_exprs : Exs
    an_expr : Ex → Exs → Exs

-- where an assignment puts a value
pub data Destination : Type 0 where
  to_variable : ℕ → Destination

pub record Head : Type 0 where
  pub place : Place
  pub own : Own

mutual
  pub data St : Type 0 where
    st : Head → Deed → St

  pub data Deed : Type 0 where
    -- to one destination, or the parts of a tuple to several
    assign : List Destination → Ex → Deed
    effect : Ex → Deed
    assert : Ex → Deed
    branch : Ex → Sts → Sts → Deed
    loop : Ex → Sts → Deed
    -- the variable, the start, the stop, the step, the body
    count : ℕ → Option Ex → Ex → ℕ → Sts → Deed
    each : ℕ → Ex → Sts → Deed
    break : Deed
    continue : Deed
    give_back : Option Ex → Deed
    reject : Deed
    -- the arm of the first literal that equals the value, or else the rest
    pick : Ex → Picks → Sts → Deed

  pub data Picks : Type 0 where
    no_picks : Picks
    a_pick : List ℕ → Sts → Picks → Picks

  pub data Sts : Type 0 where
    no_stmts : Sts
    a_stmt : St → Sts → Sts

abbrev pub node_of : Ex → Node
node_of (ex node form) = node

abbrev pub exs_of : List Ex → Exs
exs_of [] = no_exprs
exs_of (e ∷ es) = an_expr e (exs_of es)

abbrev pub sts_of : List St → Sts
sts_of [] = no_stmts
sts_of (s ∷ ss) = a_stmt s (sts_of ss)
