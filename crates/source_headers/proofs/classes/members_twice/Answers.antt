use Rattle.source_headers.proofs.ClassLines.{member_behind}
use Rattle.source_headers.proofs.classes.members_twice.Goals as goal

pub loop-rest-preserved : goal.loop-rest-preserved
loop-rest-preserved c =
    member_behind c.loop-rest.rest.now c.member-item.result c.loop-rest.into c.note_member.new.into _ c.loop-rest.seen c.note_member.new.seen
    c.member-item.is c.in-len1-up.len_at_least c.in_ok-note_member.ensures.told c.in_ok-note_member.ensures.seen c.loop-rest.invariant
