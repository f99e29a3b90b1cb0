-- The program that is built is well formed.
use Rattle.std.proofs.Common.{◌≡◌, ◌≢◌, ℕ, zero, suc, ◌+◌, ◌-◌, ◌^◌, ◌<◌, ◌≤◌, List, [], ◌∷◌, ◌++◌, length, drop, Ok, Err, refl, ap, sym, ◌∙◌, arith, add-one, length-append, append_assoc}
use Rattle.std.proofs.lemmas.List.{append-nil}
use Rattle.std.proofs.Math.Seq.{drop-append_seam}
use Rattle.avm_ops.specs.declared.instr.Instr.{Instr}
use Rattle.avm_ops.specs.Table.{row_of, table}
use Rattle.avm_ops.specs.Code.{decoded, decoded_at, instr_bytes, HasForm}
use Rattle.avm_ops.proofs.Reading.{instr_read}
use Rattle.avm_run.specs.declared.outline.Outline.{Outline}
use Rattle.avm_run.specs.Form.{IsWellFormed, before, checked, judged_at, no_outline, outline, outline_at, AnswersAs}
use Rattle.avm_run.specs.declared.program.ProgramFault.{ProgramFault}
use Rattle.avm_run.specs.declared.program.ProgramFault.TheVariants as faults
use Rattle.avm_run.proofs.Outlines.{outline_more, outline_end}
use Rattle.compiler.specs.declared.form.Operator.{Operator}
use Rattle.compiler.specs.declared.form.Operator.TheVariants.{Plus, Times}
use Rattle.compiler.specs.declared.form.Sum.{Sum}
use Rattle.compiler.specs.Programs.{opcode, plain, program_of, push}

pub push_form : (n : ℕ) → n < 2 ^ 64 → HasForm (push n)
unfolding row_of table
push_form n h = h

pub op_form : (o : Operator) → HasForm (plain (opcode o))
unfolding row_of table
op_form Plus = tt
op_form Times = tt

pub return_form : HasForm (plain 67)
unfolding row_of table
return_form = tt

inside_at : (front rest : List ℕ) (i : Instr) (code : List ℕ) (pc : ℕ) → code ≡ front ++ (instr_bytes i ++ rest) → pc ≡ length front → pc < length code
inside_at front rest i code pc is at = omega (arith, ap length is, length-append front (instr_bytes i ++ rest), length-append (instr_bytes i) rest)

-- the instruction that stands at a place of the code
pub read_at : (front rest : List ℕ) (i : Instr) (code : List ℕ) (pc : ℕ) → HasForm i → code ≡ front ++ (instr_bytes i ++ rest) → pc ≡ length front
    → decoded_at code pc ≡ Ok (i, pc + length (instr_bytes i))
read_at front rest i code pc form is at =
    let there : drop pc code ≡ instr_bytes i ++ rest = rw (is, at) (drop-append_seam front (instr_bytes i ++ rest)) in
    ap (decoded pc) there ∙ instr_read i pc rest form

-- where the four instructions stand
pub record Parts (code : List ℕ) (i j k r : Instr) : Type 0 where
  pub at1 : code ≡ (10 ∷ []) ++ (instr_bytes i ++ (instr_bytes j ++ (instr_bytes k ++ instr_bytes r)))
  pub at2 : code ≡ (10 ∷ instr_bytes i) ++ (instr_bytes j ++ (instr_bytes k ++ instr_bytes r))
  pub at3 : code ≡ ((10 ∷ instr_bytes i) ++ instr_bytes j) ++ (instr_bytes k ++ instr_bytes r)
  pub at4 : code ≡ (((10 ∷ instr_bytes i) ++ instr_bytes j) ++ instr_bytes k) ++ (instr_bytes r ++ [])
  pub p2 : 1 + length (instr_bytes i) ≡ length (10 ∷ instr_bytes i)
  pub p3 : 1 + length (instr_bytes i) + length (instr_bytes j) ≡ length ((10 ∷ instr_bytes i) ++ instr_bytes j)
  pub p4 : 1 + length (instr_bytes i) + length (instr_bytes j) + length (instr_bytes k) ≡ length (((10 ∷ instr_bytes i) ++ instr_bytes j) ++ instr_bytes k)
  pub whole : 1 + length (instr_bytes i) + length (instr_bytes j) + length (instr_bytes k) + length (instr_bytes r) ≡ length code

pub parts : (code : List ℕ) (i j k r : Instr) → code ≡ 10 ∷ (instr_bytes i ++ (instr_bytes j ++ (instr_bytes k ++ instr_bytes r))) → Parts code i j k r
parts code i j k r is =
    let first = instr_bytes i in
    let second = instr_bytes j in
    let third = instr_bytes k in
    let fourth = instr_bytes r in
    let at3 : code ≡ ((10 ∷ first) ++ second) ++ (third ++ fourth) = is ∙ sym (append_assoc (10 ∷ first) second (third ++ fourth)) in
    let at4 : code ≡ (((10 ∷ first) ++ second) ++ third) ++ (fourth ++ []) = at3 ∙ sym (append_assoc ((10 ∷ first) ++ second) third fourth) ∙ ap (λ (t : List ℕ). (((10 ∷ first) ++ second) ++ third) ++ t) (sym (append-nil fourth)) in
    let p3 : 1 + length first + length second ≡ length ((10 ∷ first) ++ second) = omega (arith, length-append (10 ∷ first) second) in
    let p4 : 1 + length first + length second + length third ≡ length (((10 ∷ first) ++ second) ++ third) = omega (arith, p3, length-append ((10 ∷ first) ++ second) third) in
    record {
      at1 = is;
      at2 = is;
      at3 = at3;
      at4 = at4;
      p2 = omega arith;
      p3 = p3;
      p4 = p4;
      whole = omega (arith, p4, ap length at4, length-append (((10 ∷ first) ++ second) ++ third) (fourth ++ []), length-append fourth []);
    }

outlined : (code : List ℕ) (i j k r : Instr) (n : ℕ) → Parts code i j k r → HasForm i → HasForm j → HasForm k → HasForm r → length code ≡ n + 1 → 1 ≤ length (instr_bytes i)
    → outline n code 1 ≡ before (outline_at 1 i (1 + length (instr_bytes i))) (before (outline_at (1 + length (instr_bytes i)) j (1 + length (instr_bytes i) + length (instr_bytes j))) (before (outline_at (1 + length (instr_bytes i) + length (instr_bytes j)) k (1 + length (instr_bytes i) + length (instr_bytes j) + length (instr_bytes k))) (before (outline_at (1 + length (instr_bytes i) + length (instr_bytes j) + length (instr_bytes k)) r (1 + length (instr_bytes i) + length (instr_bytes j) + length (instr_bytes k) + length (instr_bytes r))) (Ok no_outline))))
outlined code i j k r n p fi fj fk fr long some =
    let a = length (instr_bytes i) in
    let b = length (instr_bytes j) in
    let c = length (instr_bytes k) in
    let d = length (instr_bytes r) in
    let rest1 = instr_bytes j ++ (instr_bytes k ++ instr_bytes r) in
    outline_more n code 1 (1 + a) i (inside_at (10 ∷ []) rest1 i code 1 p.at1 refl) (omega (arith, long)) (read_at (10 ∷ []) rest1 i code 1 fi p.at1 refl)
    ∙ ap (before (outline_at 1 i (1 + a))) (outline_more (n - 1) code (1 + a) (1 + a + b) j (inside_at (10 ∷ instr_bytes i) (instr_bytes k ++ instr_bytes r) j code (1 + a) p.at2 p.p2) (omega (arith, long)) (read_at (10 ∷ instr_bytes i) (instr_bytes k ++ instr_bytes r) j code (1 + a) fj p.at2 p.p2)
    ∙ ap (before (outline_at (1 + a) j (1 + a + b))) (outline_more (n - 1 - 1) code (1 + a + b) (1 + a + b + c) k (inside_at ((10 ∷ instr_bytes i) ++ instr_bytes j) (instr_bytes r) k code (1 + a + b) p.at3 p.p3) (omega (arith, long)) (read_at ((10 ∷ instr_bytes i) ++ instr_bytes j) (instr_bytes r) k code (1 + a + b) fk p.at3 p.p3)
    ∙ ap (before (outline_at (1 + a + b) k (1 + a + b + c))) (outline_more (n - 1 - 1 - 1) code (1 + a + b + c) (1 + a + b + c + d) r (inside_at (((10 ∷ instr_bytes i) ++ instr_bytes j) ++ instr_bytes k) [] r code (1 + a + b + c) p.at4 p.p4) (omega (arith, long)) (read_at (((10 ∷ instr_bytes i) ++ instr_bytes j) ++ instr_bytes k) [] r code (1 + a + b + c) fr p.at4 p.p4)
    ∙ ap (before (outline_at (1 + a + b + c) r (1 + a + b + c + d))) (outline_end (n - 1 - 1 - 1 - 1) code (1 + a + b + c + d) p.whole))))

accepted : (code : List ℕ) (n m : ℕ) (o : Operator) → m < 2 ^ 64 → n < 2 ^ 64 → code ≡ 10 ∷ (instr_bytes (push m) ++ (instr_bytes (push n) ++ (instr_bytes (plain (opcode o)) ++ instr_bytes (plain 67)))) → (turns : ℕ) → length code ≡ turns + 1
    → judged_at (length code) (outline turns code 1) ≡ Ok tt
accepted code n m o hm hn is turns long =
    ap (judged_at (length code)) (outlined code (push m) (push n) (plain (opcode o)) (plain 67) turns (parts code (push m) (push n) (plain (opcode o)) (plain 67) is) (push_form m hm) (push_form n hn) (op_form o) return_form long (omega arith))

pub well_formed : (s : Sum) → s.left < 2 ^ 64 → s.right < 2 ^ 64 → IsWellFormed (program_of s)
unfolding program_of checked
well_formed s ha hb = accepted (program_of s) s.right s.left s.operator ha hb refl _ (sym (add-one _))

-- no fault but want of memory comes on a well-formed program
pub never_refused : (f : ProgramFault) (code : List ℕ) → AnswersAs {A = List ℕ} (λ p. tt) (Err f) (checked code) → IsWellFormed code → f ≢ faults.Memory → ⊥
never_refused (faults.Version b) code h w n = cc
never_refused (faults.Cut p) code h w n = cc
never_refused (faults.Outside p b) code h w n = cc
never_refused (faults.Overlong p) code h w n = cc
never_refused (faults.Target p t) code h w n = cc
never_refused faults.Memory code h w n = n refl
