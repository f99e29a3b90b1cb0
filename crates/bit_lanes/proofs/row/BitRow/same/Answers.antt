use Rattle.std.proofs.lemmas.Bool.Decides.{Decides-eqb}
use Rattle.std.proofs.lemmas.Slice.Eq.{slice_eq-Decides}
use Rattle.bit_lanes.proofs.RowLaws.{same_decides}
use Rattle.bit_lanes.proofs.row.BitRow.same.Goals as goal

pub returns : goal.returns
returns c =
    same_decides c.self.inside.bits c.other.inside.bits c.self.inside.lanes.items c.other.inside.lanes.items c.as_slice.result.now c.as_slice-2.result.now
    c.args.self.now c.args.other.now c.eq.result c.self.invariant c.other.invariant c.self.view_is c.other.view_is c.requires c.as_slice.ensures.value c.as_slice-2.ensures.value
    (slice_eq-Decides Decides-eqb c.as_slice.result.now c.as_slice-2.result.now c.eq.result c.eq.ensures)
