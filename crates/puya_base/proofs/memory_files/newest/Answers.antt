use Rattle.std.proofs.Common.{Some, reverse, ap, ◌∙◌}
use Rattle.std.specs.Prelude.{option_map}
use Rattle.puya_base.specs.declared.memory_files.Written.{Written}
use Rattle.puya_base.proofs.InMemory.{held_at}
use Rattle.puya_base.proofs.memory_files.newest.Goals as goal

pub returns-in-Some : goal.returns-in-Some
returns-in-Some c =
    ap Some c.as_slice.ensures ∙ ap (option_map (λ (w : Written). w.bytes)) c.in-Some.ensures ∙ held_at (reverse c.args.written.now) c.args.name.now

pub returns-in-None : goal.returns-in-None
returns-in-None c =
    ap (option_map (λ (w : Written). w.bytes)) c.in-None.ensures ∙ held_at (reverse c.args.written.now) c.args.name.now
