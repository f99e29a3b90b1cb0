use Rattle.std.proofs.Common.{sym, ◌∙◌}
use Rattle.std.specs.Prelude.{string_bytes}
use Rattle.std.specs.HashMap.{get_by_text}
use Rattle.source_names.proofs.Finding.{kept, noted}
use Rattle.source_names.proofs.lookup.note.Goals as goal

pub returns-then-contains_key : goal.returns-then-contains_key
returns-then-contains_key g c = λ n. kept (get_by_text c.args.map.now) c.args.name.now n c.args.value (sym c.contains_key.ensures ∙ c.if-contains_key.true)

pub returns : goal.returns
returns g c = λ n. noted string_bytes c.in_ok-name.name c.args.value c.args.name.now n c.args.map.now.entries c.insert.new.self.entries
    c.in_ok-name.ensures.ok (sym c.contains_key.ensures ∙ c.if-contains_key.false) c.in_ok-insert.ensures.entries
