-- What the program answers, and why.
use Rattle.std.specs.Prelude.{◌≡◌, ℕ, ◌⊎◌, List, ◌++◌, codes, Option}
use Rattle.puya_base.specs.declared.faults.FileFault.TheVariants as fault
use Rattle.puya_base.specs.Files.{Held, Told, ToldBytes, IsFront}
use Rattle.puya_base.specs.Causes.{Rose}
use Rattle.puya_tool.specs.declared.status.Status.{Status}
use Rattle.puya_tool.specs.declared.status.Status.TheVariants as status
use Rattle.puya_tool.specs.declared.answer.Answer.{Answer}
use Rattle.puya_tool.specs.declared.answer.Answer.TheVariants.{Unread, Unwritten}
use Rattle.puya_tool.specs.Words.{command_of}
use Rattle.puya_tool.specs.Text.{answer_text, answer_status}
use Rattle.puya_tool.specs.Commands.{IsDue}

-- a failed read and a failed write come only where the count of the files' faults rose
abbrev pub AnswersBy : ℕ → ℕ → Answer → Type 0
AnswersBy before now (Unread name fault.Failed) = Rose before now
AnswersBy before now (Unread name fault.Memory) = ⊥
AnswersBy before now (Unwritten name) = Rose before now
AnswersBy before now _ = Unit {0}

-- the text went out whole and the status is the one that was due, or a front of it did and the sink failed, or the sink had no memory and took nothing
abbrev pub Prints : Option (List ℕ) → Option (List ℕ) → ℕ → ℕ → List ℕ → Status → Status → Type 0
Prints old new before now text due end =
    ((end ≡ due) × ToldBytes old new (λ o n. n ≡ o ++ text))
    ⊎ (((end ≡ status.WriteFault) × Rose before now × ToldBytes old new (λ o n. (part : List ℕ) × IsFront part text × (n ≡ o ++ part)))
    ⊎ ((end ≡ status.Memory) × ToldBytes old new (λ o n. n ≡ o)))

-- an answer that is due was printed, or memory ran out and nothing else changed
abbrev pub EndsDue : Option Held → Option Held → List (List ℕ) → ℕ → ℕ → Option (List ℕ) → Option (List ℕ) → ℕ → ℕ → Status → Type 0
EndsDue held held_now words before now old new put_before put_now end =
    ((answer : Answer) × Told held held_now (λ h k. IsDue h k (command_of words) answer) × AnswersBy before now answer
    × Prints old new put_before put_now (answer_text answer) (answer_status answer) end)
    ⊎ ((held_now ≡ held) × Prints old new put_before put_now (codes "out of memory\n") status.Memory end)
