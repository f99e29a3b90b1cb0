use Rattle.source_names.proofs.Members.{told_next, thing_next}
use Rattle.source_names.proofs.things.members_of.Goals as goal

pub loop-rest-preserved : goal.loop-rest-preserved
loop-rest-preserved c = record {
  told = told_next c.loop-rest.rest.now c.word-item.result c.loop-rest.into c.plain_member.new.into _ c.loop-rest.thing c.in_ok-thing.thing
      c.word-item.is c.in-len1-up.len_at_least c.in_ok-thing.ensures.told c.in_ok-thing.ensures.thing c.loop-rest.invariant.told;
  thing = thing_next c.loop-rest.rest.now c.word-item.result c.loop-rest.thing c.in_ok-thing.thing _
      c.word-item.is c.in-len1-up.len_at_least c.in_ok-thing.ensures.thing c.loop-rest.invariant.thing;
}
