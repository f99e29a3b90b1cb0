use Rattle.source_headers.proofs.Lines.{entries_behind}
use Rattle.source_headers.proofs.modules.entries.Goals as goal

pub loop-rest-preserved : goal.loop-rest-preserved
loop-rest-preserved c =
    entries_behind c.loop-rest.rest.now c.item-item.result c.loop-rest.list c.add_item.new.into _
    c.loop-rest.counts.constants c.loop-rest.counts.functions c.loop-rest.counts.classes
    c.in_ok-counts.counts.constants c.in_ok-counts.counts.functions c.in_ok-counts.counts.classes
    c.item-item.is c.in-len1-up.len_at_least c.in_ok-add_item.ensures
    c.in_ok-counts.ensures.constants c.in_ok-counts.ensures.functions c.in_ok-counts.ensures.classes c.loop-rest.invariant
