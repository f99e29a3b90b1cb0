-- What is printed, and the status that goes with it.
use Rattle.std.specs.Prelude.{ℕ, List, [], ◌∷◌, ◌++◌, codes}
use Rattle.std.specs.Fmt.{decimal, signed_decimal}
use Rattle.puya_base.specs.declared.source.Rule.{Rule}
use Rattle.puya_base.specs.declared.source.Rule.TheVariants as rule
use Rattle.puya_base.specs.declared.source.Refusal.{Refusal}
use Rattle.puya_base.specs.declared.faults.FileFault.{FileFault}
use Rattle.puya_base.specs.declared.faults.FileFault.TheVariants as file
use Rattle.avm_run.specs.declared.outcome.Outcome.{Outcome}
use Rattle.avm_run.specs.declared.outcome.Outcome.TheVariants as outcome
use Rattle.avm_run.specs.declared.program.ProgramFault.{ProgramFault}
use Rattle.avm_run.specs.declared.program.ProgramFault.TheVariants as program
use Rattle.avm_asm.specs.declared.line.AsmFault.{AsmFault}
use Rattle.avm_asm.specs.declared.line.AsmFault.TheVariants as asm
use Rattle.teal_text.specs.declared.fault.TealFault.{TealFault}
use Rattle.teal_text.specs.declared.fault.TealFault.TheVariants as teal
use Rattle.call_file.specs.declared.fault.CallFault.{CallFault}
use Rattle.call_file.specs.declared.fault.CallFault.TheVariants as call
use Rattle.outcome_text.specs.Text.{text_of}
use Rattle.puya_tool.specs.declared.status.Status.{Status}
use Rattle.puya_tool.specs.declared.status.Status.TheVariants as status
use Rattle.puya_tool.specs.declared.answer.Answer.{Answer}
use Rattle.puya_tool.specs.declared.answer.Answer.TheVariants.{WordsUnknown, Unread, Refused, NotBuilt, BadCall, NotProgram, NotTeal, NotAssembled, Unwritten, Stopped, Assembled, Listed}

abbrev pub file_fault_text : FileFault → List ℕ
file_fault_text file.Missing = codes "missing"
file_fault_text file.TooLong = codes "too long"
file_fault_text file.Failed = codes "read failed"
file_fault_text file.Memory = []

unfoldable pub call_fault_text : CallFault → List ℕ
call_fault_text call.Json = codes "json"
call_fault_text (call.Missing field) = codes "missing " ++ field
call_fault_text (call.Bad field) = codes "bad " ++ field
call_fault_text call.Memory = []

unfoldable pub program_fault_text : ProgramFault → List ℕ
program_fault_text (program.Version b) = codes "version " ++ decimal b
program_fault_text (program.Cut p) = codes "cut at " ++ decimal p
program_fault_text (program.Outside p b) = codes "outside at " ++ (decimal p ++ (codes ": " ++ decimal b))
program_fault_text (program.Overlong p) = codes "overlong at " ++ decimal p
program_fault_text (program.Target p t) = codes "target at " ++ (decimal p ++ (codes ": " ++ signed_decimal t))
program_fault_text program.Memory = []

-- a line and what is wrong there
abbrev pub line_text : ℕ → List ℕ → List ℕ
line_text n word = decimal n ++ (codes ": " ++ word)

unfoldable pub teal_fault_text : TealFault → List ℕ
teal_fault_text (teal.NotAscii n) = line_text n (codes "not ascii")
teal_fault_text (teal.Pragma n) = line_text n (codes "pragma")
teal_fault_text (teal.Word n) = line_text n (codes "word")
teal_fault_text (teal.Count n) = line_text n (codes "count")
teal_fault_text (teal.Number n) = line_text n (codes "number")
teal_fault_text (teal.Bytes n) = line_text n (codes "bytes")
teal_fault_text teal.Memory = []

-- a label by its number, and what is wrong with it
abbrev pub label_text : ℕ → List ℕ → List ℕ
label_text k what = codes "label " ++ (decimal k ++ what)

unfoldable pub asm_fault_text : AsmFault → List ℕ
asm_fault_text (asm.NoLabel k) = label_text k (codes " missing")
asm_fault_text (asm.TwiceLabel k) = label_text k (codes " twice")
asm_fault_text (asm.Far k d) = label_text k (codes " far")
asm_fault_text asm.Memory = []

-- a rule by its number and its word
unfoldable pub rule_text : Rule → List ℕ
rule_text rule.P01 = codes "P01 text"
rule_text rule.P02 = codes "P02 tab"
rule_text rule.P03 = codes "P03 indentation"
rule_text rule.P04 = codes "P04 token"
rule_text rule.P05 = codes "P05 number"
rule_text rule.P06 = codes "P06 nesting"
rule_text rule.P07 = codes "P07 syntax"
rule_text rule.P08 = codes "P08 left out"
rule_text rule.P09 = codes "P09 unknown name"
rule_text rule.P10 = codes "P10 defined twice"
rule_text rule.P11 = codes "P11 import"
rule_text rule.P12 = codes "P12 contract"
rule_text rule.P13 = codes "P13 annotation"
rule_text rule.P14 = codes "P14 type"
rule_text rule.P15 = codes "P15 arguments"
rule_text rule.P16 = codes "P16 target"
rule_text rule.P17 = codes "P17 unassigned"
rule_text rule.P18 = codes "P18 no return"
rule_text rule.P19 = codes "P19 loop word"
rule_text rule.P20 = codes "P20 ARC-4 literal"
rule_text rule.P21 = codes "P21 storage"
rule_text rule.P22 = codes "P22 decorator"
rule_text rule.P23 = codes "P23 selector twice"
rule_text rule.P24 = codes "P24 places"
rule_text rule.P25 = codes "P25 copy"

-- a broken rule behind its line and its column
unfoldable pub refusal_text : Refusal → List ℕ
refusal_text r = decimal r.place.line ++ (codes ":" ++ (decimal r.place.col ++ (codes ": " ++ rule_text r.rule)))

-- a line that begins with a name
abbrev pub named_line : List ℕ → List ℕ → List ℕ → List ℕ
named_line name mark text = name ++ (mark ++ (text ++ codes "\n"))

-- what is printed
unfoldable pub answer_text : Answer → List ℕ
answer_text WordsUnknown = codes "words not understood\n"
answer_text (Unread name f) = named_line name (codes ": ") (file_fault_text f)
answer_text (Refused name r) = named_line name (codes ":") (refusal_text r)
answer_text (NotBuilt name) = named_line name (codes ": ") (codes "not built")
answer_text (BadCall name f) = named_line name (codes ": ") (call_fault_text f)
answer_text (NotProgram name f) = named_line name (codes ": ") (program_fault_text f)
answer_text (NotTeal name f) = named_line name (codes ":") (teal_fault_text f)
answer_text (NotAssembled name f) = named_line name (codes ": ") (asm_fault_text f)
answer_text (Unwritten name) = named_line name (codes ": ") (codes "write failed")
answer_text (Stopped ran) = text_of ran
answer_text (Assembled name n) = named_line name (codes " ") (decimal n ++ codes " bytes")
answer_text (Listed text) = text

abbrev pub outcome_status : Outcome → Status
outcome_status (outcome.Approved ledger) = status.Done
outcome_status outcome.Rejected = status.Rejected
outcome_status outcome.OverBudget = status.Stopped
outcome_status outcome.OverDepth = status.Stopped

abbrev pub answer_status : Answer → Status
answer_status WordsUnknown = status.Words
answer_status (Unread name f) = status.ReadFault
answer_status (Refused name r) = status.Source
answer_status (NotBuilt name) = status.Source
answer_status (BadCall name f) = status.CallFile
answer_status (NotProgram name f) = status.Program
answer_status (NotTeal name f) = status.Program
answer_status (NotAssembled name f) = status.Program
answer_status (Unwritten name) = status.WriteFault
answer_status (Stopped ran) = outcome_status ran.outcome
answer_status (Assembled name n) = status.Done
answer_status (Listed text) = status.Done
