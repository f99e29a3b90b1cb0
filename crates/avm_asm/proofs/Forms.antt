-- What lines become has the form of its row, and as many bytes as the line takes.
use Rattle.std.proofs.Common.{◌≡◌, ℕ, ℤ, ◌+◌, ◌<◌, List, [], ◌∷◌, length, map, refl, arith, length-append, FitsSigned}
use Rattle.std.specs.List.{All}
use Rattle.std.specs.Int.{w16}
use Rattle.std.proofs.lemmas.List.{length-map}
use Rattle.avm_ops.specs.declared.instr.Imm.TheVariants as imm
use Rattle.avm_ops.specs.Code.{HasForm}
use Rattle.avm_ops.specs.Immediate.{IsSigned16}
use Rattle.avm_ops.specs.Table.{row_of, table}
use Rattle.avm_asm.specs.declared.line.Line.{Line}
use Rattle.avm_asm.specs.declared.line.Line.TheVariants.{Op, Label, Jump, Table}
use Rattle.avm_asm.specs.declared.line.JumpKind.{JumpKind}
use Rattle.avm_asm.specs.declared.line.JumpKind.TheVariants.{Bnz, Bz, B, Callsub}
use Rattle.avm_asm.specs.declared.line.TableKind.{TableKind}
use Rattle.avm_asm.specs.declared.line.TableKind.TheVariants.{Switch, Match}
use Rattle.avm_asm.specs.Listing.{jump_opcode, table_opcode, line_size, lines_size, instr_in, bytes_of, bytes_from, distance}
use Rattle.avm_asm.proofs.Lengths.{length-jumps}

pub jump_has_form : (kind : JumpKind) (j : ℤ) → FitsSigned w16 j → HasForm (record { op = jump_opcode kind; imm = imm.Jump j })
unfolding row_of table
jump_has_form Bnz j h = h
jump_has_form Bz j h = h
jump_has_form B j h = h
jump_has_form Callsub j h = h

pub table_has_form : (kind : TableKind) (js : List ℤ) → length js < 256 → All IsSigned16 js → HasForm (record { op = table_opcode kind; imm = imm.Jumps js })
unfolding row_of table
table_has_form Switch js h all = (h, all)
table_has_form Match js h all = (h, all)

pub line_length : (t : List (ℕ × ℕ)) (end : ℕ) (l : Line) → length (bytes_of (instr_in t end l)) ≡ line_size l
line_length t end (Op i) = refl
line_length t end (Label k) = refl
line_length t end (Jump kind k) = refl
line_length t end (Table kind ks) = omega (arith, length-jumps (map (distance t end) ks), length-map ks (distance t end))

pub bytes_length : (t : List (ℕ × ℕ)) (at : ℕ) (ls : List Line) → length (bytes_from t at ls) ≡ lines_size ls
bytes_length t at [] = refl
bytes_length t at (l ∷ ls) =
    let a = length-append (bytes_of (instr_in t (at + line_size l) l)) (bytes_from t (at + line_size l) ls) in
    let b = line_length t (at + line_size l) l in
    let c = bytes_length t (at + line_size l) ls in
    omega (arith, a, b, c)
