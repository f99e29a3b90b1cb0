-- Calls of subroutines and their frames (AVM specification, "Subroutines" and "Frame Pointers").
use Rattle.std.specs.Prelude.{ℕ, ℤ, pos, negsuc, suc, ◌+◌, ◌-◌, Bool, true, nat_lt, nat_le, if◌then◌else◌, List, [], ◌∷◌, ◌++◌, length, take, drop, slice_get, slice_set, Option, Some, None, option_map, option_and_then}
use Rattle.puya_base.specs.declared.value.Value.{Value}
use Rattle.avm_run.specs.declared.frame.Proto.{Proto}
use Rattle.avm_run.specs.declared.frame.Frame.{Frame}

-- the open calls, the innermost last
abbrev pub innermost : List Frame → Option Frame
innermost frames = slice_get frames (length frames - 1)

abbrev pub outer : List Frame → List Frame
outer frames = take (length frames - 1) frames

-- a place so far from another, where it isn't below 0
abbrev pub moved : ℕ → ℤ → Option ℕ
moved n (pos k) = Some (n + k)
moved n (negsuc k) = if nat_lt n (suc k) then None else Some (n - suc k)

-- the offset reaches no deeper than the arguments that a proto declares
abbrev pub is_within : Option Proto → ℤ → Bool
is_within None i = true
is_within (Some p) (pos k) = true
is_within (Some p) (negsuc k) = nat_le (suc k) p.args

-- the place on the stack that an offset from the frame pointer names
abbrev pub place_in : Frame → ℤ → Option ℕ
place_in frame i = if is_within frame.proto i then moved frame.pointer i else None

-- a place below that length
abbrev pub within : ℕ → Option ℕ → Option ℕ
within len None = None
within len (Some at) = if nat_lt at len then Some at else None

-- the same in the innermost frame, on a stack of that length; none with no open call, and at or above the top
abbrev pub frame_place : List Frame → ℤ → ℕ → Option ℕ
frame_place frames i len = within len (option_and_then (λ f. place_in f i) (innermost frames))

-- the stack with a copy of the value at an offset on top; fails below place 0, and at or above the top
abbrev pub frame_dig : List Frame → ℤ → List Value → Option (List Value)
frame_dig frames i stack = option_and_then (λ at. option_map (λ v. stack ++ v ∷ []) (slice_get stack at)) (frame_place frames i (length stack))

-- a value put at an offset
abbrev pub frame_set : List Frame → ℤ → List Value → Value → Option (List Value)
frame_set frames i stack v = option_map (λ at. slice_set stack at v) (frame_place frames i (length stack))

-- the top leaves, and stands at an offset in what is left
abbrev pub frame_bury : List Frame → ℤ → List Value → Option (List Value)
frame_bury frames i stack = option_and_then (frame_set frames i (take (length stack - 1) stack)) (slice_get stack (length stack - 1))

-- a frame with the arguments and results that it declares
abbrev pub with_proto : Frame → ℕ → ℕ → Frame
with_proto f args results = record f { proto = Some (record { args = args; results = results }) }

-- the innermost call with what it declares
abbrev pub declaring : ℕ → ℕ → List Frame → Option Frame → List Frame
declaring args results frames None = frames
declaring args results frames (Some f) = slice_set frames (length frames - 1) (with_proto f args results)

abbrev pub declared : ℕ → ℕ → List Frame → List Frame
declared args results frames = declaring args results frames (innermost frames)

-- the results that stand at the pointer moved down over the arguments, and all above dropped; fails where results are missing
abbrev pub moved_down : ℕ → Proto → List Value → Option (List Value)
moved_down pointer p stack =
    if nat_lt (length stack) (pointer + p.results) then None else Some (take (pointer - p.args) stack ++ take p.results (drop pointer stack))

-- the stack after a return: as it is without a proto
abbrev pub returned : Frame → Option Proto → List Value → Option (List Value)
returned frame None stack = Some stack
returned frame (Some p) stack = moved_down frame.pointer p stack
