use Rattle.std.proofs.Common.{length, ap, bit_and, ◌&&◌, ◌∙◌, sym}
use Rattle.std.proofs.lemmas.List.{with_items_is}
use Rattle.bit_lanes.proofs.BitLaws.{and_agrees}
use Rattle.bit_lanes.proofs.RowLaws.{same_lengths, row_after, length_after, set_after, changed_after}
use Rattle.bit_lanes.proofs.row.BitRow.and_with.Goals as goal

pub combine-requires : goal.combine-requires
combine-requires c =
    ap length c.deref.ensures.value ∙ same_lengths c.self.inside.bits c.other.inside.bits c.self.inside.lanes.items c.other.inside.lanes.items c.args.self.now c.args.other.now
    c.self.invariant c.other.invariant c.self.view_is c.other.view_is c.requires ∙ sym (ap length c.deref_mut.ensures.value)

pub invariant_of-self : goal.invariant_of-self
invariant_of-self c = row_after (bit_and) (λ x y. x && y) and_agrees c.self.inside.bits c.other.inside.bits c.self.inside.lanes.items c.other.inside.lanes.items
    c.deref_mut.result.now c.deref.result.now c.combine.new.into _ c.combine.result c.args.self.now c.args.other.now
    c.combine.ensures c.deref_mut.ensures.value c.deref.ensures.value
    (with_items_is c.self.inside.lanes c.combine.new.into (c.combine.ensures.long ∙ c.deref_mut.ensures.len)) c.self.invariant c.other.invariant c.self.view_is c.other.view_is c.requires

pub returns-clause-set : goal.returns-clause-set
returns-clause-set c = set_after (bit_and) (λ x y. x && y) and_agrees c.self.inside.bits c.other.inside.bits c.self.inside.lanes.items c.other.inside.lanes.items
    c.deref_mut.result.now c.deref.result.now c.combine.new.into _ c.combine.result c.args.self.now c.args.other.now
    c.combine.ensures c.deref_mut.ensures.value c.deref.ensures.value
    (with_items_is c.self.inside.lanes c.combine.new.into (c.combine.ensures.long ∙ c.deref_mut.ensures.len)) c.self.invariant c.other.invariant c.self.view_is c.other.view_is c.requires

pub returns-clause-shrank : goal.returns-clause-shrank
returns-clause-shrank c = changed_after (bit_and) (λ x y. x && y) and_agrees c.self.inside.bits c.other.inside.bits c.self.inside.lanes.items c.other.inside.lanes.items
    c.deref_mut.result.now c.deref.result.now c.combine.new.into _ c.combine.result c.args.self.now c.args.other.now
    c.combine.ensures c.deref_mut.ensures.value c.deref.ensures.value
    (with_items_is c.self.inside.lanes c.combine.new.into (c.combine.ensures.long ∙ c.deref_mut.ensures.len)) c.self.invariant c.other.invariant c.self.view_is c.other.view_is c.requires

pub returns-clause-bound : goal.returns-clause-bound
returns-clause-bound c = length_after (bit_and) (λ x y. x && y) and_agrees c.self.inside.bits c.other.inside.bits c.self.inside.lanes.items c.other.inside.lanes.items
    c.deref_mut.result.now c.deref.result.now c.combine.new.into _ c.combine.result c.args.self.now c.args.other.now
    c.combine.ensures c.deref_mut.ensures.value c.deref.ensures.value
    (with_items_is c.self.inside.lanes c.combine.new.into (c.combine.ensures.long ∙ c.deref_mut.ensures.len)) c.self.invariant c.other.invariant c.self.view_is c.other.view_is c.requires
