use Rattle.std.proofs.Common.{length, ap, ◌&&◌, not, ◌∙◌, sym}
use Rattle.std.proofs.lemmas.List.{with_items_is}
use Rattle.bit_lanes.specs.Lanes.{without}
use Rattle.bit_lanes.proofs.BitLaws.{without_agrees}
use Rattle.bit_lanes.proofs.RowLaws.{same_lengths, row_after, length_after, set_after}
use Rattle.bit_lanes.proofs.row.BitRow.and_not.Goals as goal

pub combine-changed-requires : goal.combine-changed-requires
combine-changed-requires c =
    ap length c.deref.ensures.value ∙ same_lengths c.self.inside.bits c.other.inside.bits c.self.inside.lanes.items c.other.inside.lanes.items c.args.self.now c.args.other.now
    c.self.invariant c.other.invariant c.self.view_is c.other.view_is c.requires ∙ sym (ap length c.deref_mut.ensures.value)

pub invariant_of-self : goal.invariant_of-self
invariant_of-self c = row_after (without) (λ x y. x && not y) without_agrees c.self.inside.bits c.other.inside.bits c.self.inside.lanes.items c.other.inside.lanes.items
    c.deref_mut.result.now c.deref.result.now c.combine-changed.new.into _ c.combine-changed.result c.args.self.now c.args.other.now
    c.combine-changed.ensures c.deref_mut.ensures.value c.deref.ensures.value
    (with_items_is c.self.inside.lanes c.combine-changed.new.into (c.combine-changed.ensures.long ∙ c.deref_mut.ensures.len)) c.self.invariant c.other.invariant c.self.view_is c.other.view_is c.requires

pub returns-clause-set : goal.returns-clause-set
returns-clause-set c = set_after (without) (λ x y. x && not y) without_agrees c.self.inside.bits c.other.inside.bits c.self.inside.lanes.items c.other.inside.lanes.items
    c.deref_mut.result.now c.deref.result.now c.combine-changed.new.into _ c.combine-changed.result c.args.self.now c.args.other.now
    c.combine-changed.ensures c.deref_mut.ensures.value c.deref.ensures.value
    (with_items_is c.self.inside.lanes c.combine-changed.new.into (c.combine-changed.ensures.long ∙ c.deref_mut.ensures.len)) c.self.invariant c.other.invariant c.self.view_is c.other.view_is c.requires

pub returns-clause-bound : goal.returns-clause-bound
returns-clause-bound c = length_after (without) (λ x y. x && not y) without_agrees c.self.inside.bits c.other.inside.bits c.self.inside.lanes.items c.other.inside.lanes.items
    c.deref_mut.result.now c.deref.result.now c.combine-changed.new.into _ c.combine-changed.result c.args.self.now c.args.other.now
    c.combine-changed.ensures c.deref_mut.ensures.value c.deref.ensures.value
    (with_items_is c.self.inside.lanes c.combine-changed.new.into (c.combine-changed.ensures.long ∙ c.deref_mut.ensures.len)) c.self.invariant c.other.invariant c.self.view_is c.other.view_is c.requires
