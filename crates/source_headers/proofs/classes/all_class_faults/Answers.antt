use Rattle.source_headers.specs.Classes.{classes, all_class_faults}
use Rattle.source_headers.specs.Bases.{item_told}
use Rattle.source_headers.proofs.Behind.{told_behind}
use Rattle.source_headers.proofs.ClassLines.{item_class}
use Rattle.source_headers.proofs.classes.all_class_faults.Goals as goal

pub loop-rest-preserved : goal.loop-rest-preserved
loop-rest-preserved c =
    told_behind (λ is. all_class_faults c.args.names.now (classes is)) (item_told c.args.names.now c.item-item.result) c.loop-rest.rest.now c.item-item.result
    c.loop-rest.into c.item_class_faults.new.into _ c.item-item.is c.in-len1-up.len_at_least (item_class c.args.names.now c.item-item.result)
    c.in_ok-item_class_faults.ensures c.loop-rest.invariant
