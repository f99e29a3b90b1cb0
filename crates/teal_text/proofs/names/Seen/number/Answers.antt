use Rattle.std.proofs.Common.{string_bytes, ◌∙◌}
use Rattle.teal_text.proofs.NameNumbers.{found, new}
use Rattle.teal_text.proofs.names.Seen.number.Goals as goal

pub returns-in-Some-clause-number : goal.returns-in-Some-clause-number
returns-in-Some-clause-number c = rw (← c.self.view_is) (found string_bytes c.args.name.now c.self.inside.names.keys c.in-Some.number c.in-Some.ensures.index).0

pub returns-in-Some-clause-seen : goal.returns-in-Some-clause-seen
returns-in-Some-clause-seen c = rw (← c.self.view_is) (found string_bytes c.args.name.now c.self.inside.names.keys c.in-Some.number c.in-Some.ensures.index).1

pub returns-clause-number : goal.returns-clause-number
returns-clause-number c =
    rw (← c.self.view_is)
    (c.len-number.ensures.len
    ∙ (new string_bytes c.args.name.now c.self.inside.names.keys c.in_ok-name.name c.insert.new.self.keys c.in_default.ensures.index c.in_ok-name.ensures.ok c.in_ok-insert.ensures.keys).0)

pub returns-clause-seen : goal.returns-clause-seen
returns-clause-seen c =
    rw (← c.self.view_is)
    (new string_bytes c.args.name.now c.self.inside.names.keys c.in_ok-name.name c.insert.new.self.keys c.in_default.ensures.index c.in_ok-name.ensures.ok c.in_ok-insert.ensures.keys).1
