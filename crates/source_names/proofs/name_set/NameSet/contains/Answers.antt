use Rattle.std.proofs.Common.{◌∙◌}
use Rattle.std.specs.Prelude.{string_bytes}
use Rattle.source_names.proofs.Seeing.{variable_is}
use Rattle.source_names.proofs.name_set.NameSet.contains.Goals as goal

pub returns : goal.returns
returns c = c.contains.ensures ∙ variable_is string_bytes c.args.name.now c.self.inside.names.keys c.args.self.now c.self.view_is
