use Rattle.std.proofs.Common.{◌≡◌, refl, ap, ◌∙◌, arith, length}
use Rattle.std.proofs.lemmas.Simd.{length-chunk, length-zip2}
use Rattle.std.specs.Simd.Lanes.{chunk}
use Rattle.bit_lanes.proofs.LaneLaws.{combined_group, groups_differ}
use Rattle.bit_lanes.proofs.lanes.combine_group.Goals as goal

pub returns : goal.returns
returns g c =
    let old = c.args.into.now in
    let long : length (chunk c.args.at 4 old) ≡ 4 = length-chunk c.args.at 4 old c.requires.into in
    let even : length c.group-new.result ≡ length (chunk c.args.at 4 old) =
    ap length c.group-new.ensures ∙ length-zip2 g.C.LaneOperation.of_lanes (chunk c.args.at 4 old) (chunk c.args.at 4 c.args.from.now) (omega (arith, length-chunk c.args.at 4 c.args.from.now (omega arith))) in
    let tells = groups_differ c.group-new.result (chunk c.args.at 4 old) even (omega arith) _ refl in
    combined_group g.C.LaneOperation.of_lanes 4 c.args.at old c.args.from.now _ c.group-new.result _ c.requires.into c.requires.from c.group-new.ensures refl tells.0 tells.1
