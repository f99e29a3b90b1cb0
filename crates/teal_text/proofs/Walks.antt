-- Walks over the instructions of a program.
use Rattle.std.proofs.Common.{◌≡◌, ℕ, zero, suc, ◌-◌, ◌<◌, ◌≤◌, List, [], ◌∷◌, ◌++◌, length, Bool, true, false, Ok, refl, sym, ap, ◌∙◌, arith, append_assoc}
use Rattle.std.specs.Prelude.{map, ◌==◌, ◌||◌, if◌then◌else◌}
use Rattle.std.specs.List.{flat_map, list_any}
use Rattle.std.proofs.lemmas.Bool.Decides.{nat_tests}
use Rattle.std.proofs.lemmas.List.Folds.{list_any-append}
use Rattle.std.proofs.lemmas.List.{append-nil, drop_all}
use Rattle.std.proofs.lemmas.Grind.{flat_map-append}
use Rattle.avm_ops.specs.declared.instr.Instr.{Instr}
use Rattle.avm_ops.specs.Code.{decoded_at}
use Rattle.avm_run.specs.Bytes.{place, targets_of}
use Rattle.teal_line.specs.declared.statement.Statement.{Statement}
use Rattle.teal_line.specs.declared.statement.Statement.TheVariants.{Label}
use Rattle.teal_line.specs.Printing.{statement_text}
use Rattle.teal_text.specs.Printing.{Placed, label_name, placed_from, instructions, targets, text_of, statement_of, label_at, line_of, version_line}
use Rattle.teal_text.specs.Pieces.{with_place, with_places, lines_text, placed_text, body_text}

end_by : (n : ℕ) (code : List ℕ) (pc : ℕ) (b : Bool) → (pc == length code) ≡ b → length code ≤ pc → placed_from (suc n) code pc ≡ []
unfolding placed_from
end_by n code pc true e h = rw e refl
end_by n code pc false e h = rw (e, drop_all pc code h) refl

pub placed_end : (n : ℕ) (code : List ℕ) (pc : ℕ) → length code ≤ pc → placed_from n code pc ≡ []
unfolding placed_from
placed_end zero code pc h = refl
placed_end (suc n) code pc h = end_by n code pc (pc == length code) refl h

pub placed_more : (n : ℕ) (code : List ℕ) (pc next : ℕ) (i : Instr) → pc < length code → length code - pc ≤ n → decoded_at code pc ≡ Ok (i, next)
    → placed_from n code pc ≡ record { pc = pc; instr = i; next = next } ∷ placed_from (n - 1) code next
unfolding placed_from
placed_more zero code pc next i h f d = absurd (omega arith)
placed_more (suc n) code pc next i h f d =
    let e : suc n - 1 ≡ n = omega arith in
    let no : (pc == length code) ≡ false = grind (arith, nat_tests) in
    rw (e, no, d) refl

-- so many more instructions are enough, and the places so far with those of the rest are those of the whole
pub record ToGather (code : List ℕ) (pc : ℕ) (so_far : List ℕ) : Type 0 where
  pub turns : ℕ
  pub enough : length code - pc ≤ turns
  pub same : with_places so_far (targets (placed_from turns code pc)) ≡ with_places [] (targets (instructions code))

pub gather_all : (code : List ℕ) → ToGather code 1 []
gather_all code = record { turns = length code - 1; enough = omega arith; same = refl }

with_append : (seen ps qs : List ℕ) → with_places seen (ps ++ qs) ≡ with_places (with_places seen ps) qs
with_append seen [] qs = refl
with_append seen (p ∷ ps) qs = with_append (with_place seen p) ps qs

pub gather_more : (code : List ℕ) (pc next : ℕ) (i : Instr) (so_far new : List ℕ) → ToGather code pc so_far → pc < length code → decoded_at code pc ≡ Ok (i, next) → pc < next
    → new ≡ with_places so_far (map place (targets_of next i.imm)) → ToGather code next new
gather_more code pc next i so_far new left h d low is = record {
  turns = left.turns - 1;
  enough = omega (arith, left.enough);
  same =
      ap (λ (s : List ℕ). with_places s (targets (placed_from (left.turns - 1) code next))) is
      ∙ sym (with_append so_far (map place (targets_of next i.imm)) (targets (placed_from (left.turns - 1) code next)))
      ∙ ap (λ (ps : List Placed). with_places so_far (targets ps)) (sym (placed_more left.turns code pc next i h left.enough d))
      ∙ left.same;
}

pub gathered : (code : List ℕ) (pc : ℕ) (so_far : List ℕ) → ToGather code pc so_far → length code ≤ pc → so_far ≡ with_places [] (targets (instructions code))
gathered code pc so_far left h = sym (ap (λ (ps : List Placed). with_places so_far (targets ps)) (placed_end left.turns code pc h)) ∙ left.same

-- the text so far, and then that of the rest, is that of the whole behind what stood before
pub record ToPrint (ts code before : List ℕ) (pc : ℕ) (so_far : List ℕ) : Type 0 where
  pub turns : ℕ
  pub enough : length code - pc ≤ turns
  pub same : so_far ++ body_text ts (placed_from turns code pc) ≡ before ++ body_text ts (instructions code)

pub print_all : (ts code before : List ℕ) → ToPrint ts code before 1 before
print_all ts code before = record { turns = length code - 1; enough = omega arith; same = refl }

pub print_more : (ts code before : List ℕ) (pc next : ℕ) (i : Instr) (so_far new : List ℕ) → ToPrint ts code before pc so_far → pc < length code → decoded_at code pc ≡ Ok (i, next) → pc < next
    → new ≡ so_far ++ placed_text ts (record { pc = pc; instr = i; next = next }) → ToPrint ts code before next new
print_more ts code before pc next i so_far new left h d low is = record {
  turns = left.turns - 1;
  enough = omega (arith, left.enough);
  same =
      ap (λ (s : List ℕ). s ++ body_text ts (placed_from (left.turns - 1) code next)) is
      ∙ append_assoc so_far (placed_text ts (record { pc = pc; instr = i; next = next })) (body_text ts (placed_from (left.turns - 1) code next))
      ∙ ap (λ (ps : List Placed). so_far ++ body_text ts ps) (sym (placed_more left.turns code pc next i h left.enough d))
      ∙ left.same;
}

pub printed : (ts code before : List ℕ) (pc : ℕ) (so_far : List ℕ) → ToPrint ts code before pc so_far → length code ≤ pc → so_far ≡ before ++ body_text ts (instructions code)
printed ts code before pc so_far left h =
    sym (append-nil so_far) ∙ sym (ap (λ (ps : List Placed). so_far ++ body_text ts ps) (placed_end left.turns code pc h)) ∙ left.same

or-false : (b : Bool) → (b || false) ≡ b
or-false true = refl
or-false false = refl

or_assoc : (a b c : Bool) → ((a || b) || c) ≡ (a || (b || c))
or_assoc true b c = refl
or_assoc false b c = refl

or_twice : (a b : Bool) → (a || b) ≡ ((a || b) || a)
or_twice true b = refl
or_twice false b = sym (or-false b)

-- the places of a set are those that were put into it
same_place : (t p x : ℕ) (b : Bool) → (x == p) ≡ b → (t == x) ≡ true → (t == p) ≡ b
same_place t p x b e h = let same : t ≡ x = grind (arith, nat_tests) in rw same e

or_step : (p x t : ℕ) (seen : List ℕ) (b v : Bool) → (x == p) ≡ b → (t == x) ≡ v → list_any (λ t. t == x) (t ∷ seen) ≡ true
    → (list_any (λ t. t == x) seen ≡ true → list_any (λ t. t == p) seen ≡ (list_any (λ t. t == p) seen || b)) → list_any (λ t. t == p) (t ∷ seen) ≡ (list_any (λ t. t == p) (t ∷ seen) || b)
or_step p x t seen b true e f h more = let g : (t == p) ≡ b = same_place t p x b e f in rw g (or_twice b (list_any (λ t. t == p) seen))
or_step p x t seen b false e f h more =
    ap (λ v. (t == p) || v) (more (sym (ap (λ v. v || list_any (λ t. t == x) seen) f) ∙ h)) ∙ sym (or_assoc (t == p) (list_any (λ t. t == p) seen) b)

or_same : (p x : ℕ) (seen : List ℕ) (b : Bool) → (x == p) ≡ b → list_any (λ t. t == x) seen ≡ true → list_any (λ t. t == p) seen ≡ (list_any (λ t. t == p) seen || b)
or_same p x [] b e h = cc
or_same p x (t ∷ seen) b e h = or_step p x t seen b (t == x) e refl h (or_same p x seen b e)

one_place : (p x : ℕ) (seen : List ℕ) (v : Bool) → list_any (λ t. t == x) seen ≡ v → list_any (λ t. t == p) (with_place seen x) ≡ (list_any (λ t. t == p) seen || (x == p))
one_place p x seen true h = rw h (or_same p x seen (x == p) refl h)
one_place p x seen false h = rw h (list_any-append (λ t. t == p) seen (x ∷ []) ∙ ap (λ v. list_any (λ t. t == p) seen || v) (or-false (x == p)))

among_both : (p : ℕ) (seen ts : List ℕ) → list_any (λ t. t == p) (with_places seen ts) ≡ (list_any (λ t. t == p) seen || list_any (λ t. t == p) ts)
among_both p seen [] = sym (or-false (list_any (λ t. t == p) seen))
among_both p seen (x ∷ ts) =
    among_both p (with_place seen x) ts
    ∙ ap (λ v. v || list_any (λ t. t == p) ts) (one_place p x seen (list_any (λ t. t == x) seen) refl)
    ∙ or_assoc (list_any (λ t. t == p) seen) (x == p) (list_any (λ t. t == p) ts)

label_same : (ts : List ℕ) (p : ℕ) → label_at (with_places [] ts) p ≡ label_at ts p
label_same ts p = ap (λ v. if v then Label (label_name p) ∷ [] else []) (among_both p [] ts)

body_same : (ts : List ℕ) (ps : List Placed) → body_text (with_places [] ts) ps ≡ body_text ts ps
body_same ts [] = refl
body_same ts (p ∷ ps) = ap (λ (ls : List Statement). lines_text (ls ++ statement_of p ∷ []) ++ body_text (with_places [] ts) ps) (label_same ts p.pc) ∙ ap (λ (t : List ℕ). placed_text ts p ++ t) (body_same ts ps)

body_lines : (ts : List ℕ) (ps : List Placed) → body_text ts ps ≡ lines_text (flat_map (λ p. label_at ts p.pc ++ statement_of p ∷ []) ps)
body_lines ts [] = refl
body_lines ts (p ∷ ps) =
    ap (λ (t : List ℕ). placed_text ts p ++ t) (body_lines ts ps)
    ∙ sym (flat_map-append (λ (s : Statement). line_of (statement_text s)) (label_at ts p.pc ++ statement_of p ∷ []) (flat_map (λ p. label_at ts p.pc ++ statement_of p ∷ []) ps))

-- the version line, the lines of the instructions and the label at the end are the whole text
pub whole_text : (code set first body all : List ℕ) → set ≡ with_places [] (targets (instructions code)) → first ≡ line_of version_line
    → body ≡ first ++ body_text set (instructions code) → all ≡ body ++ lines_text (label_at set (length code)) → all ≡ text_of code
unfolding text_of
whole_text code set first body all s f b a =
    let ts = targets (instructions code) in
    let ps = instructions code in
    a
    ∙ ap (λ (t : List ℕ). t ++ lines_text (label_at set (length code))) (b ∙ ap (λ (t : List ℕ). t ++ body_text set ps) f)
    ∙ append_assoc (line_of version_line) (body_text set ps) (lines_text (label_at set (length code)))
    ∙ ap (λ (z : List ℕ). line_of version_line ++ (body_text z ps ++ lines_text (label_at z (length code)))) s
    ∙ ap (λ (t : List ℕ). line_of version_line ++ (t ++ lines_text (label_at (with_places [] ts) (length code)))) (body_same ts ps ∙ body_lines ts ps)
    ∙ ap (λ (ls : List Statement). line_of version_line ++ (lines_text (flat_map (λ p. label_at ts p.pc ++ statement_of p ∷ []) ps) ++ lines_text ls)) (label_same ts (length code))
    ∙ ap (λ (t : List ℕ). line_of version_line ++ t) (sym (flat_map-append (λ (s : Statement). line_of (statement_text s)) (flat_map (λ p. label_at ts p.pc ++ statement_of p ∷ []) ps) (label_at ts (length code))))
