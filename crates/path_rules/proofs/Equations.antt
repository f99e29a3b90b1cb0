-- The steps of each kind of note.
use Rattle.std.proofs.Common.{◌≡◌, ◌∙◌, ℕ, Bool, List, ap, sym}
use Rattle.puya_base.specs.declared.source.Place.{Place}
use Rattle.puya_base.specs.declared.source.Refusal.{Refusal}
use Rattle.path_rules.specs.declared.note.Note.{Note}
use Rattle.path_rules.specs.declared.note.NoteArm.{NoteArm}
use Rattle.path_rules.specs.declared.note.Note.TheVariants as note
use Rattle.path_rules.specs.declared.note.Note.TheOpen.{Note-F}
use Rattle.path_rules.specs.declared.note.Note.TheFolds.{fold-roll-Note, fold_out-NoteArm}
use Rattle.path_rules.specs.Steps.{Step, broken, read, assign, forget, break, continue, return, Steps, an_arm, an_if, a_loop, note_layer, arm_layer, step_of, arm_of, steps_of, arms_of}

pub step-Broken : (r : Refusal) → step_of (note.Broken r) ≡ broken r
step-Broken r = ap step_of (sym (note.rolls-Broken r)) ∙ fold-roll-Note Step Steps note_layer arm_layer (Note-F.Broken r)

pub step-Read : (x : ℕ) (p : Place) → step_of (note.Read x p) ≡ read x p
step-Read x p = ap step_of (sym (note.rolls-Read x p)) ∙ fold-roll-Note Step Steps note_layer arm_layer (Note-F.Read x p)

pub step-Assign : (x : ℕ) → step_of (note.Assign x) ≡ assign x
step-Assign x = ap step_of (sym (note.rolls-Assign x)) ∙ fold-roll-Note Step Steps note_layer arm_layer (Note-F.Assign x)

pub step-Forget : (x : ℕ) → step_of (note.Forget x) ≡ forget x
step-Forget x = ap step_of (sym (note.rolls-Forget x)) ∙ fold-roll-Note Step Steps note_layer arm_layer (Note-F.Forget x)

pub step-If : (arms : List NoteArm) (rest : List Note) → step_of (note.If arms rest) ≡ an_if (arms_of arms) (steps_of rest)
step-If arms rest = ap step_of (sym (note.rolls-If arms rest)) ∙ fold-roll-Note Step Steps note_layer arm_layer (Note-F.If arms rest)

pub step-Loop : (test : List Note) (ends : Bool) (body : List Note) → step_of (note.Loop test ends body) ≡ a_loop (steps_of test) ends (steps_of body)
step-Loop test ends body = ap step_of (sym (note.rolls-Loop test ends body)) ∙ fold-roll-Note Step Steps note_layer arm_layer (Note-F.Loop test ends body)

pub step-Break : (p : Place) → step_of (note.Break p) ≡ break p
step-Break p = ap step_of (sym (note.rolls-Break p)) ∙ fold-roll-Note Step Steps note_layer arm_layer (Note-F.Break p)

pub step-Continue : (p : Place) → step_of (note.Continue p) ≡ continue p
step-Continue p = ap step_of (sym (note.rolls-Continue p)) ∙ fold-roll-Note Step Steps note_layer arm_layer (Note-F.Continue p)

pub step-Return : step_of note.Return ≡ return
step-Return = ap step_of (sym note.rolls-Return) ∙ fold-roll-Note Step Steps note_layer arm_layer Note-F.Return

pub arm-is : (a : NoteArm) → arm_of a ≡ an_arm (steps_of a.test) a.always (steps_of a.body)
arm-is a = fold_out-NoteArm Step Steps note_layer arm_layer a
