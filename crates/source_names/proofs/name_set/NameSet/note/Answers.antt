use Rattle.std.proofs.Common.{sym, ◌∙◌}
use Rattle.std.specs.Prelude.{string_bytes}
use Rattle.source_names.proofs.Seeing.{seen_is, with_old, inserted_is}
use Rattle.source_names.proofs.name_set.NameSet.note.Goals as goal

pub returns-then-contains-clause-before : goal.returns-then-contains-clause-before
returns-then-contains-clause-before c =
    sym c.if-contains.true ∙ c.contains.ensures ∙ seen_is string_bytes c.args.name.now c.self.inside.names.keys c.args.self.now c.self.view_is

pub returns-then-contains-clause-added : goal.returns-then-contains-clause-added
returns-then-contains-clause-added c =
    with_old c.args.self.now c.args.name.now
    (sym (sym c.if-contains.true ∙ c.contains.ensures ∙ seen_is string_bytes c.args.name.now c.self.inside.names.keys c.args.self.now c.self.view_is))

pub returns-clause-before : goal.returns-clause-before
returns-clause-before c =
    sym c.if-contains.false ∙ c.contains.ensures ∙ seen_is string_bytes c.args.name.now c.self.inside.names.keys c.args.self.now c.self.view_is

pub returns-clause-added : goal.returns-clause-added
returns-clause-added c =
    inserted_is string_bytes c.args.name.now c.self.inside.names.keys c.in_ok-name.name c.insert.new.self.keys c.args.self.now c.self.view_is
    c.in_ok-name.ensures.ok c.in_ok-insert.ensures.keys
