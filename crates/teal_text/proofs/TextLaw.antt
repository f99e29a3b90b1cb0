-- The printed text of a program is read as lines that are assembled to it.
use Rattle.std.proofs.Common.{◌≡◌, ℕ, suc, ◌<◌, ◌^◌, List, [], ◌∷◌, length, Ok, ap, arith}
use Rattle.std.specs.List.{All}
use Rattle.avm_asm.specs.declared.line.Line.{Line}
use Rattle.avm_asm.specs.Assembled.{assembled}
use Rattle.avm_ops.specs.Code.{AreBytes}
use Rattle.avm_run.specs.Form.{IsWellFormed}
use Rattle.teal_line.specs.declared.statement.Statement.{Statement}
use Rattle.teal_line.specs.Printing.{IsStatement}
use Rattle.teal_line.specs.ReadsBack.{IsOfBytes, ReadsBack}
use Rattle.teal_line.proofs.Law.{reads_back}
use Rattle.teal_text.specs.Numbering.{numbered}
use Rattle.teal_text.specs.Printing.{statements_of, text_of}
use Rattle.teal_text.specs.Reading.{lines_by, read_of}
use Rattle.teal_text.proofs.LawChain.{Each}
use Rattle.teal_text.proofs.Labels.{assembles_back, statements_hold}
use Rattle.teal_text.proofs.TextBytes.{statements_of_bytes}
use Rattle.teal_text.proofs.TextLines.{text_back}

each_back : (ss : List Statement) → All IsStatement ss → Each IsOfBytes ss → Each ReadsBack ss
each_back [] h b = tt
each_back (s ∷ ss) h b = (reads_back s (h 0 s (omega arith)) b.0, each_back ss (λ k d l. h (suc k) d (omega arith)) b.1)

read_lines : (code : List ℕ) → Each ReadsBack (statements_of code) → read_of (text_of code) ≡ Ok (numbered [] (statements_of code))
unfolding read_of text_of
read_lines code h = ap lines_by (text_back (statements_of code) h)

pub read_back : (code : List ℕ) → AreBytes code → IsWellFormed code → length code < 2 ^ 64 → (ls : List Line) × (read_of (text_of code) ≡ Ok ls) × (assembled ls ≡ Ok code)
read_back code b w l = (
  numbered [] (statements_of code),
  read_lines code (each_back (statements_of code) (statements_hold code b w l) (statements_of_bytes code b w)),
  assembles_back code b w l,
)
