-- The machine (AVM specification, "Execution Model"), over any code: what stands at a place, what comes after it, and where it may branch.
use Rattle.std.specs.Prelude.{ℕ, zero, suc, ◌+◌, ◌-◌, Bool, true, false, not, ◌==◌, nat_lt, nat_le, ◌&&◌, if◌then◌else◌, List, [], ◌∷◌, ◌++◌, length, slice_get, Option, Some, None, option_map}
use Rattle.puya_base.specs.declared.value.Value.{Value}
use Rattle.puya_base.specs.declared.value.Value.TheVariants.{Int}
use Rattle.avm_ops.specs.declared.instr.Instr.{Instr}
use Rattle.avm_ops.specs.declared.instr.Imm.{Imm}
use Rattle.avm_ops.specs.declared.instr.Imm.TheVariants as imm
use Rattle.avm_ops.specs.declared.rows.Row.{Row}
use Rattle.avm_ops.specs.declared.rows.Action.{Action}
use Rattle.avm_ops.specs.declared.rows.Action.TheVariants.{Value as ValueAction, Stack as StackAction, Constant as ConstantAction, Field as FieldAction, Scratch as ScratchAction, Flow as FlowAction, Frame as FrameAction, State as StateAction}
use Rattle.avm_ops.specs.declared.rows.FlowRow.{FlowRow}
use Rattle.avm_ops.specs.declared.rows.FrameRow.{FrameRow}
use Rattle.avm_ops.specs.declared.rows.FrameRow.TheVariants.{CallSub, RetSub, Proto, FrameDig, FrameBury}
use Rattle.avm_ops.specs.Table.{row_of}
use Rattle.avm_ops.specs.Rows.{shape_of, value_row}
use Rattle.avm_state.specs.declared.call.Call.{Call}
use Rattle.avm_state.specs.LedgerState.{LedgerState}
use Rattle.avm_run.specs.declared.frame.Frame.{Frame}
use Rattle.avm_run.specs.declared.state.State.{State}
use Rattle.avm_run.specs.declared.outcome.Outcome.{Outcome}
use Rattle.avm_run.specs.declared.outcome.Outcome.TheVariants.{Approved, Rejected, OverBudget, OverDepth}
use Rattle.avm_run.specs.declared.outcome.Ran.{Ran}
use Rattle.avm_run.specs.Operands.{below, with_top}
use Rattle.avm_run.specs.Stack.{stack_row}
use Rattle.avm_run.specs.Constants.{constant_row}
use Rattle.avm_run.specs.Fields.{field}
use Rattle.avm_run.specs.Scratch.{scratch_row, no_scratch}
use Rattle.avm_run.specs.Storage.{storage_row}
use Rattle.avm_run.specs.declared.flow.Way.{Way}
use Rattle.avm_run.specs.declared.flow.Way.TheVariants.{Fails, On, To, Returns}
use Rattle.avm_run.specs.Flow.{way}
use Rattle.avm_run.specs.Frames.{innermost, outer, frame_dig, frame_bury, declared, returned}

-- an instruction, the place after it, and the places to which it may branch, in the order of its offsets
pub record Standing : Type 0 where
  pub instr : Instr
  pub next : ℕ
  pub targets : List ℕ

-- a program as the machine sees it: its first place, and what stands at a place; at its end nothing does
pub record Code : Type 0 where
  pub first : ℕ
  pub at : ℕ → Option Standing

-- what an instruction does: it fails, leads to a state, or returns from the program with a value
pub data Act : Type 0 where
  Failing : Act
  Giving : State → Act
  Returning : State → Value → Act

abbrev pub giving : Option State → Act
giving None = Failing
giving (Some s) = Giving s

abbrev pub with_stack : State → List Value → State
with_stack s stack = record s { stack = stack }

-- the state after a row that takes operands and pushes results, but for its results, and these
unfoldable pub effect : Action → Instr → Call → State → List Value → Option (State × List Value)
effect (ValueAction row) i call s vs = option_map (λ results. (s, results)) (value_row i vs)
effect (ConstantAction row) i call s vs = option_map (λ p. (record s { blocks = p.0 }, p.1)) (constant_row row i.imm s.blocks)
effect (FieldAction row) i call s vs = option_map (λ v. (s, v ∷ [])) (field row i.imm call vs)
effect (ScratchAction row) i call s vs = option_map (λ p. (record s { scratch = p.0 }, p.1)) (scratch_row row i.imm s.scratch vs)
effect (StateAction row) i call s vs = option_map (λ p. (record s { ledger = p.0 }, p.1)) (storage_row row call s.ledger vs)
effect _ i call s vs = None

-- with its results on the stack
abbrev pub pushed : Option (State × List Value) → Act
pushed None = Failing
pushed (Some p) = Giving (with_stack p.0 (p.0.stack ++ p.1))

-- such a row takes that many operands
unfoldable pub operand_act : ℕ → Action → Instr → Call → State → Act
operand_act n action i call s = pushed (with_top n s.stack (λ vs. effect action i call (with_stack s (below n s.stack)) vs))

-- goes to a target, or on where there is none of that number
abbrev pub going_to : State → Option ℕ → State
going_to s None = s
going_to s (Some place) = record s { pc = place }

abbrev pub going : State → List ℕ → Way → Act
going s targets Fails = Failing
going s targets On = Giving s
going s targets (To i) = Giving (going_to s (slice_get targets i))
going s targets (Returns v) = Returning s v

-- nothing where operands are missing
abbrev pub going_by : State → List ℕ → Option Way → Act
going_by s targets None = Failing
going_by s targets (Some w) = going s targets w

-- a row that takes that many operands and chooses what comes next
unfoldable pub flow_act : ℕ → FlowRow → List ℕ → State → Act
flow_act n row targets s = going_by (with_stack s (below n s.stack)) targets (with_top n s.stack (λ vs. Some (way row vs)))

-- opens a call that returns to the next instruction, with the stack's length as frame pointer
abbrev pub opened : State → ℕ → State
opened s target = record s { pc = target; entering = true; frames = s.frames ++ record { return_to = s.pc; pointer = length s.stack; proto = None } ∷ [] }

-- closes the innermost call
abbrev pub closed : State → Frame → State
closed s f = record s { pc = f.return_to; frames = outer s.frames }

-- the return of the innermost call, with the stack that it leaves
abbrev pub returning : State → Option Frame → Act
returning s None = Failing
returning s (Some f) = giving (option_map (with_stack (closed s f)) (returned f f.proto s.stack))

-- what a call declares, which must have been opened by the instruction before, and needs its arguments
abbrev pub declaring_act : ℕ → ℕ → Bool → State → Act
declaring_act args results entering s =
    if entering && nat_le args (length s.stack) then Giving (record s { frames = declared args results s.frames }) else Failing

-- rows of calls and frames
unfoldable pub frame_act : FrameRow → Imm → List ℕ → Bool → State → Act
frame_act CallSub (imm.Jump j) targets entering s = giving (option_map (opened s) (slice_get targets 0))
frame_act RetSub imm.Nothing targets entering s = returning s (innermost s.frames)
frame_act Proto (imm.Two args results) targets entering s = declaring_act args results entering s
frame_act FrameDig (imm.Signed i) targets entering s = giving (option_map (with_stack s) (frame_dig s.frames i s.stack))
frame_act FrameBury (imm.Signed i) targets entering s = giving (option_map (with_stack s) (frame_bury s.frames i s.stack))
frame_act _ i targets entering s = Failing

-- what a row does to the state in which the next place stands already, with whether the instruction before was a `callsub`
unfoldable pub act : Action → Standing → Call → Bool → State → Act
act (StackAction row) st call entering s = giving (option_map (with_stack s) (stack_row row st.instr.imm s.stack))
act (FlowAction row) st call entering s = flow_act (shape_of st.instr).pops row st.targets s
act (FrameAction row) st call entering s = frame_act row st.instr.imm st.targets entering s
act (ValueAction row) st call entering s = operand_act (shape_of st.instr).pops (ValueAction row) st.instr call s
act (ConstantAction row) st call entering s = operand_act (shape_of st.instr).pops (ConstantAction row) st.instr call s
act (FieldAction row) st call entering s = operand_act (shape_of st.instr).pops (FieldAction row) st.instr call s
act (ScratchAction row) st call entering s = operand_act (shape_of st.instr).pops (ScratchAction row) st.instr call s
act (StateAction row) st call entering s = operand_act (shape_of st.instr).pops (StateAction row) st.instr call s

-- an opcode that has no row fails
abbrev pub act_by : Option Row → Standing → Call → Bool → State → Act
act_by None st call entering s = Failing
act_by (Some row) st call entering s = act row.action st call entering s

-- the state in which an instruction acts: the next place stands, and its cost is spent
abbrev pub begun : Standing → State → State
begun st s = record s { pc = st.next; spent = s.spent + (shape_of st.instr).cost; entering = false }

-- one step: the state after it, or the end of the run
pub data Turn : Type 0 where
  Next : State → Turn
  Stop : Ran → Turn

abbrev pub stop : Outcome → ℕ → ℕ → Turn
stop outcome pc spent = Stop (record { outcome = outcome; pc = pc; spent = spent })

-- the stack is one number that isn't 0
abbrev pub approves : List Value → Bool
approves (Int n ∷ []) = not (n == 0)
approves _ = false

-- a rejected run has no effect on the ledger
abbrev pub decision : LedgerState → List Value → Outcome
decision ledger stack = if approves stack then Approved ledger else Rejected

-- the most values on the stack between instructions
abbrev pub max_depth : ℕ
max_depth = 1000

-- how the run goes on behind the instruction at a place, which leaves so much spent
abbrev pub after : ℕ → ℕ → Act → Turn
after pc spent Failing = stop Rejected pc spent
after pc spent (Returning s v) = stop (decision s.ledger (v ∷ [])) pc spent
after pc spent (Giving s) = if nat_lt max_depth (length s.stack) then stop OverDepth pc spent else Next s

abbrev pub perform : Standing → Call → State → Turn
perform st call s = after s.pc (s.spent + (shape_of st.instr).cost) (act_by (row_of st.instr.op) st call s.entering (begun st s))

-- what stands at the place acts, unless its cost passes what is left; where nothing stands the program is at its end
abbrev pub fetched : Call → State → Option Standing → Turn
fetched call s None = stop (decision s.ledger s.stack) s.pc s.spent
fetched call s (Some st) = if nat_lt call.budget (s.spent + (shape_of st.instr).cost) then stop OverBudget s.pc s.spent else perform st call s

unfoldable pub turn : Code → Call → State → Turn
turn code call s = fetched call s (code.at s.pc)

-- what is left of the run. Each step costs at least 1, so no run needs more steps than its budget and one more
unfoldable pub goes_on : Code → Call → ℕ → Turn → Ran
goes_on code call n (Stop r) = r
goes_on code call zero (Next s) = record { outcome = OverBudget; pc = s.pc; spent = s.spent }
goes_on code call (suc n) (Next s) = goes_on code call n (turn code call s)

-- at the first place, with an empty stack, scratch places of 0, no open call, empty constant blocks, and nothing spent
abbrev pub start : Code → LedgerState → State
start code ledger = record { pc = code.first; spent = 0; entering = false; stack = []; frames = []; scratch = no_scratch; blocks = record { ints = []; blobs = [] }; ledger = ledger }

-- the whole run of a call from a ledger
abbrev pub machine : Code → Call → LedgerState → Ran
machine code call ledger = goes_on code call (call.budget + 1) (Next (start code ledger))
