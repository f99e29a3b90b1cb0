use Rattle.std.proofs.Common.{sym, subst, List, ℕ, ◌<◌, ◌^◌}
use Rattle.std.specs.List.{All}
use Rattle.avm_asm.proofs.Tables.{low_insert, put_last, put_twice}
use Rattle.avm_asm.proofs.places.Places.add.Goals as goal
use Rattle.avm_asm.proofs.places.Places.add.Goals.{in-Ok-None, in-Ok-Some, in-Err}

AllLow : List (ℕ × ℕ) → Type 0
AllLow es = All (λ (s : ℕ × ℕ). s.1 < 2 ^ 62) es

pub invariant_of-self : goal.invariant_of-self
unfolding AllLow
invariant_of-self c = elim c.match-insert.branch [
  | in-Ok-None w ↦ subst AllLow (sym w.in-Ok-None.ensures.entries) (low_insert _ _ _ c.requires c.self.invariant)
  | in-Ok-Some w ↦ subst AllLow (sym w.in-Ok-Some.ensures.entries) (low_insert _ _ _ c.requires c.self.invariant)
  | in-Err w ↦ subst AllLow (sym w.in-Err.ensures.err) c.self.invariant
]

pub returns : goal.returns
returns c = elim c.match-insert.branch [
  | in-Ok-None w ↦ rw (w.result-is, ← c.self.view_is) (put_last c.args.label c.args.at _ _ w.in-Ok-None.field-0 w.in-Ok-None.ensures.old w.in-Ok-None.field-0-is w.in-Ok-None.ensures.entries)
  | in-Ok-Some w ↦ rw (w.result-is, ← c.self.view_is) (put_twice c.args.label c.args.at w.in-Ok-Some.field-0-0 _ c.insert.new.self.entries w.in-Ok-Some.field-0 w.in-Ok-Some.ensures.old w.in-Ok-Some.field-0-is)
  | in-Err w ↦ rw w.result-is tt
]
