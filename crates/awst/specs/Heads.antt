-- The amounts of the nodes that depend on one number of scalars and on nothing else.
use Rattle.std.specs.Prelude.{ℕ}
use Rattle.awst.specs.declared.node_amounts.HeadKind.{HeadKind}
use Rattle.awst.specs.declared.node_amounts.HeadKind.TheVariants as head
use Rattle.awst.specs.Table.{Own, own_local, own_tuple, own_item, own_choice, own_call, own_assign, own_effect, own_assert, own_if, own_while, own_range, own_each, own_leave, own_return, own_fail}

abbrev pub own_head : HeadKind → ℕ → Own
own_head head.Local s = own_local s
own_head head.Tuple s = own_tuple s
own_head head.Item s = own_item s
own_head head.Choice s = own_choice s
own_head head.Call s = own_call s
own_head head.Assign s = own_assign s
own_head head.Effect s = own_effect s
own_head head.Assert s = own_assert
own_head head.If s = own_if s
own_head head.While s = own_while s
own_head head.Range s = own_range s
own_head head.Each s = own_each s
own_head head.Leave s = own_leave s
own_head head.Return s = own_return s
own_head head.Fail s = own_fail
