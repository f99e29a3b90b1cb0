-- Notes as plain data: the steps of paths.
use Rattle.std.specs.Prelude.{ℕ, Bool, List, [], ◌∷◌, map, if◌then◌else◌}
use Rattle.puya_base.specs.declared.source.Place.{Place}
use Rattle.puya_base.specs.declared.source.Refusal.{Refusal}
use Rattle.path_rules.specs.declared.note.Note.{Note}
use Rattle.path_rules.specs.declared.note.NoteArm.{NoteArm}
use Rattle.path_rules.specs.declared.note.Note.TheOpen.{Note-F, NoteArm-F}
use Rattle.path_rules.specs.declared.note.Note.TheFolds.{fold-Note, fold-NoteArm}

mutual
  pub data Step : Type 0 where
    broken : Refusal → Step
    read : ℕ → Place → Step
    assign : ℕ → Step
    forget : ℕ → Step
    -- an arm of an `if`, behind its test: whether the test is the literal True, and the body
    arm : Bool → Steps → Step
    -- an `if`: the test of each arm and the arm, and behind them the rest
    choice : Steps → Step
    -- where a loop can end, before a turn
    may_end : Step
    -- a loop: what a turn does
    loop : Steps → Step
    break : Place → Step
    continue : Place → Step
    return : Step

  pub data Steps : Type 0 where
    no_steps : Steps
    a_step : Step → Steps → Steps

abbrev pub one : Step → Steps
one f = a_step f no_steps

abbrev pub before : Steps → Steps → Steps
before no_steps rest = rest
before (a_step f fs) rest = a_step f (before fs rest)

abbrev pub steps_in : List Step → Steps
steps_in [] = no_steps
steps_in (f ∷ fs) = a_step f (steps_in fs)

abbrev pub in_turn : List Steps → Steps
in_turn [] = no_steps
in_turn (fs ∷ gs) = before fs (in_turn gs)

abbrev pub an_arm : Steps → Bool → Steps → Steps
an_arm test always body = before test (one (arm always body))

abbrev pub an_if : List Steps → Steps → Step
an_if arms rest = choice (before (in_turn arms) rest)

abbrev pub an_end : Bool → Steps
an_end ends = if ends then one may_end else no_steps

abbrev pub a_loop : Steps → Bool → Steps → Step
a_loop test ends body = loop (before test (before (an_end ends) body))

-- one note, with the steps of its parts in their places
abbrev pub note_layer : Note-F Step Steps → Step
note_layer (Note-F.Broken r) = broken r
note_layer (Note-F.Read x p) = read x p
note_layer (Note-F.Assign x) = assign x
note_layer (Note-F.Forget x) = forget x
note_layer (Note-F.If arms rest) = an_if arms (steps_in rest)
note_layer (Note-F.Loop test ends body) = a_loop (steps_in test) ends (steps_in body)
note_layer (Note-F.Break p) = break p
note_layer (Note-F.Continue p) = continue p
note_layer Note-F.Return = return

abbrev pub arm_layer : NoteArm-F Step Steps → Steps
arm_layer a = an_arm (steps_in a.test) a.always (steps_in a.body)

abbrev pub step_of : Note → Step
step_of = fold-Note Step Steps note_layer arm_layer

abbrev pub arm_of : NoteArm → Steps
arm_of = fold-NoteArm Step Steps note_layer arm_layer

abbrev pub steps_of : List Note → Steps
steps_of notes = steps_in (map step_of notes)

abbrev pub arms_of : List NoteArm → List Steps
arms_of arms = map arm_of arms
