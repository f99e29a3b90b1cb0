use Rattle.source_names.proofs.Behind.{on_ok, if_ok}
use Rattle.source_names.proofs.Members.{told_dotted, thing_dotted}
use Rattle.source_names.proofs.things.dotted.Goals as goal

pub returns-in_ok-thing-in-len1-up-clause-told : goal.returns-in_ok-thing-in-len1-up-clause-told
returns-in_ok-thing-in-len1-up-clause-told c =
    on_ok c.members_of.result
    (told_dotted c.args.names.now c.args.variables.now c.args.words.now c.first-item.result c.args.into.now c.first_name.new.into c.members_of.new.into
    c.in_ok-thing-in-len1-up.thing c.first-item.is c.in-len1-up.len_at_least c.in_ok-thing-in-len1-up.ensures.told c.in_ok-thing-in-len1-up.ensures.thing)
    c.members_of.ensures.told

pub returns-in_ok-thing-in-len1-up-clause-thing : goal.returns-in_ok-thing-in-len1-up-clause-thing
returns-in_ok-thing-in-len1-up-clause-thing c =
    if_ok c.members_of.result
    (λ u. thing_dotted c.args.names.now c.args.variables.now c.args.words.now c.first-item.result c.in_ok-thing-in-len1-up.thing u
    c.first-item.is c.in-len1-up.len_at_least c.in_ok-thing-in-len1-up.ensures.thing)
    c.members_of.ensures.thing
