use Rattle.std.proofs.Common.{refl}
use Rattle.source_headers.specs.Classes.{member_faults, all_member_faults}
use Rattle.source_headers.proofs.Behind.{told_behind}
use Rattle.source_headers.proofs.classes.all_member_faults.Goals as goal

pub loop-rest-preserved : goal.loop-rest-preserved
loop-rest-preserved c =
    told_behind (all_member_faults c.args.names.now) (member_faults c.args.names.now c.member-item.result) c.loop-rest.rest.now c.member-item.result
    c.loop-rest.into c.member_faults.new.into _ c.member-item.is c.in-len1-up.len_at_least (λ ys. refl) c.in_ok-member_faults.ensures c.loop-rest.invariant
