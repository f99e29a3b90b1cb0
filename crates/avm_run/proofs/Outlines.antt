-- Outlines of code, instruction by instruction.
use Rattle.std.proofs.Common.{◌≡◌, ◌≢◌, ℕ, zero, suc, ◌+◌, ◌-◌, ◌<◌, ◌≤◌, List, [], ◌∷◌, ◌++◌, length, get_or, Bool, true, false, Ok, Err, Result, refl, sym, ap, ◌∙◌, subst, arith, append_assoc, length-append, eq-eqb}
use Rattle.std.specs.Prelude.{nat_eq, nat_lt, slice_index}
use Rattle.std.specs.List.{list_any}
use Rattle.std.specs.List.Sorted.{IsBinarySearchResult}
use Rattle.std.specs.Ordering.{nat_cmp}
use Rattle.std.proofs.lemmas.Bool.Decides.{nat_tests}
use Rattle.std.proofs.lemmas.List.{append-nil, get_or_append_left, get_or_push}
use Rattle.std.proofs.lemmas.List.Folds.{list_any_at}
use Rattle.std.proofs.lemmas.List.Sorted.{searched}
use Rattle.avm_ops.specs.declared.instr.Instr.{Instr}
use Rattle.avm_ops.specs.declared.instr.DecodeFault.{DecodeFault}
use Rattle.avm_ops.specs.declared.instr.DecodeFault.TheVariants.{Cut, Outside, Overlong, Memory}
use Rattle.avm_ops.specs.Code.{decoded_at, Reads}
use Rattle.avm_run.specs.declared.program.ProgramFault.{ProgramFault}
use Rattle.avm_run.specs.declared.outline.Branch.{Branch}
use Rattle.avm_run.specs.declared.outline.Outline.{Outline}
use Rattle.avm_run.specs.Form.{AnswersAs, Rises, as_fault, before, branches_at, joined, no_outline, outline, outline_at}

pub same_outline : (a b : Outline) → a.starts ≡ b.starts → a.branches ≡ b.branches → a ≡ b
same_outline a b p q = λ i. record { starts = p i; branches = q i }

pub outline_end : (n : ℕ) (code : List ℕ) (pc : ℕ) → pc ≡ length code → outline n code pc ≡ Ok no_outline
unfolding outline
outline_end zero code pc e = refl
outline_end (suc n) code pc e = grind (arith, nat_tests)

pub outline_more : (n : ℕ) (code : List ℕ) (pc next : ℕ) (i : Instr) → pc < length code → length code - pc ≤ n → decoded_at code pc ≡ Ok (i, next)
    → outline n code pc ≡ before (outline_at pc i next) (outline (n - 1) code next)
unfolding outline
outline_more zero code pc next i h f d = absurd (omega arith)
outline_more (suc n) code pc next i h f d = let e : suc n - 1 ≡ n = omega arith in rw e (grind (arith, nat_tests))

pub outline_fault : (n : ℕ) (code : List ℕ) (pc : ℕ) (f : DecodeFault) → pc < length code → length code - pc ≤ n → decoded_at code pc ≡ Err f → outline n code pc ≡ Err (as_fault f)
unfolding outline
outline_fault zero code pc f h g d = absurd (omega arith)
outline_fault (suc n) code pc f h g d = grind (arith, nat_tests)

before_before : (a b : Outline) (r : Result Outline ProgramFault) → before a (before b r) ≡ before (joined a b) r
before_before a b (Err f) = refl
before_before a b (Ok o) = ap Ok (same_outline _ _ (sym (append_assoc a.starts b.starts o.starts)) (sym (append_assoc a.branches b.branches o.branches)))

pub before_nothing : (r : Result Outline ProgramFault) → before no_outline r ≡ r
before_nothing (Err f) = refl
before_nothing (Ok o) = refl

pub before_end : (a : Outline) → before a (Ok no_outline) ≡ Ok a
before_end a = ap Ok (same_outline _ _ (append-nil a.starts) (append-nil a.branches))

-- so many more instructions are enough, and the outline so far before the rest is that of the whole; the starts so far rise, and stand before the place
pub record Left (code : List ℕ) (pc : ℕ) (so_far : Outline) : Type 0 where
  pub turns : ℕ
  pub inside : pc ≤ length code
  pub enough : length code - pc ≤ turns
  pub same : before so_far (outline turns code pc) ≡ outline (length code - 1) code 1
  pub rises : Rises so_far.starts
  pub passed : (k : ℕ) → k < length so_far.starts → slice_index so_far.starts k < pc

pub nothing_left : (code : List ℕ) → 1 ≤ length code → Left code 1 no_outline
nothing_left code h = record {
  turns = length code - 1;
  inside = h;
  enough = omega arith;
  same = before_nothing (outline (length code - 1) code 1);
  rises = λ i j a b. absurd (omega arith);
  passed = λ k a. absurd (omega arith);
}

earlier : (xs : List ℕ) (y i j : ℕ) → Rises xs → i ≤ j → j < length xs → slice_index (xs ++ y ∷ []) i ≤ slice_index (xs ++ y ∷ []) j
earlier xs y i j r h b =
    let a1 = get_or_append_left xs (y ∷ []) 0 i (omega arith) in
    let a2 = get_or_append_left xs (y ∷ []) 0 j b in
    let e = r i j h b in
    omega (arith, a1, a2, e)

later : (xs : List ℕ) (y i j : ℕ) → ((k : ℕ) → k < length xs → slice_index xs k < y) → i < length xs → j ≡ length xs → slice_index (xs ++ y ∷ []) i ≤ slice_index (xs ++ y ∷ []) j
later xs y i j low h e =
    let a1 = get_or_append_left xs (y ∷ []) 0 i h in
    let a2 = get_or_push xs y 0 j (sym e) in
    let lower = low i h in
    omega (arith, a1, a2, lower)

at_last : (xs : List ℕ) (y i j : ℕ) (b : Bool) → nat_lt i (length xs) ≡ b → ((k : ℕ) → k < length xs → slice_index xs k < y) → i ≤ j → j ≡ length xs → slice_index (xs ++ y ∷ []) i ≤ slice_index (xs ++ y ∷ []) j
at_last xs y i j true is low h e = later xs y i j low (grind (arith, nat_tests)) e
at_last xs y i j false is low h e = let same : i ≡ j = grind (arith, nat_tests) in omega (arith, ap (slice_index (xs ++ y ∷ [])) same)

at_place : (xs : List ℕ) (y i j : ℕ) (b : Bool) → nat_lt j (length xs) ≡ b → Rises xs → ((k : ℕ) → k < length xs → slice_index xs k < y) → i ≤ j → j < length xs + 1 → slice_index (xs ++ y ∷ []) i ≤ slice_index (xs ++ y ∷ []) j
at_place xs y i j true is r low h b = earlier xs y i j r h (grind (arith, nat_tests))
at_place xs y i j false is r low h b = at_last xs y i j (nat_lt i (length xs)) refl low h (grind (arith, nat_tests))

rises_push : (xs : List ℕ) (y : ℕ) → Rises xs → ((k : ℕ) → k < length xs → slice_index xs k < y) → Rises (xs ++ y ∷ [])
rises_push xs y r low = λ i j h b. at_place xs y i j (nat_lt j (length xs)) refl r low h (omega (arith, length-append xs (y ∷ [])))

passed_by : (xs : List ℕ) (y next k : ℕ) (b : Bool) → nat_lt k (length xs) ≡ b → y < next → ((i : ℕ) → i < length xs → slice_index xs i < y) → k < length xs + 1 → slice_index (xs ++ y ∷ []) k < next
passed_by xs y next k true is h low b =
    let inside : k < length xs = grind (arith, nat_tests) in
    let a1 = get_or_append_left xs (y ∷ []) 0 k inside in
    let lower = low k inside in
    omega (arith, a1, lower)
passed_by xs y next k false is h low b =
    let last : k ≡ length xs = grind (arith, nat_tests) in
    let a1 = get_or_push xs y 0 k (sym last) in
    omega (arith, a1)

-- one instruction more
pub one_more : (code : List ℕ) (pc next : ℕ) (i : Instr) (so_far new : Outline) → Left code pc so_far → pc < length code → decoded_at code pc ≡ Ok (i, next) → pc < next → next ≤ length code
    → new.starts ≡ so_far.starts ++ pc ∷ [] → new.branches ≡ so_far.branches ++ branches_at pc i next → Left code next new
one_more code pc next i so_far new left h d low high s b =
    let is : joined so_far (outline_at pc i next) ≡ new = same_outline _ _ (sym s) (sym b) in
    let rest = outline_more left.turns code pc next i h left.enough d in
    record {
      turns = left.turns - 1;
      inside = high;
      enough = omega (arith, left.enough);
      same =
          ap (λ (o : Outline). before o (outline (left.turns - 1) code next)) (sym is)
          ∙ sym (before_before so_far (outline_at pc i next) (outline (left.turns - 1) code next))
          ∙ ap (before so_far) (sym rest)
          ∙ left.same;
      rises = subst Rises (sym s) (rises_push so_far.starts pc left.rises left.passed);
      passed = λ k q.
          subst (λ (xs : List ℕ). slice_index xs k < next) (sym s)
          (passed_by so_far.starts pc next k (nat_lt k (length so_far.starts)) refl low left.passed (omega (arith, q, ap length s, length-append so_far.starts (pc ∷ []))));
    }

-- the first bytes that are no instruction
pub refused : (f : DecodeFault) (code : List ℕ) (pc : ℕ) (so_far : Outline) → Left code pc so_far → pc < length code → Reads (Err f) (decoded_at code pc) → AnswersAs (λ (o : Outline). o) (Err (as_fault f)) (outline (length code - 1) code 1)
refused (Cut p) code pc so_far left h d = sym left.same ∙ ap (before so_far) (outline_fault left.turns code pc (Cut p) h left.enough d)
refused (Outside p b) code pc so_far left h d = sym left.same ∙ ap (before so_far) (outline_fault left.turns code pc (Outside p b) h left.enough d)
refused (Overlong p) code pc so_far left h d = sym left.same ∙ ap (before so_far) (outline_fault left.turns code pc (Overlong p) h left.enough d)
refused Memory code pc so_far left h d = tt

-- nothing is left
pub whole : (code : List ℕ) (pc : ℕ) (so_far : Outline) → Left code pc so_far → length code ≤ pc → outline (length code - 1) code 1 ≡ Ok so_far
whole code pc so_far left h = sym left.same ∙ ap (before so_far) (outline_end left.turns code pc (omega (arith, left.inside))) ∙ before_end so_far

beside : (xs : List ℕ) (x i k : ℕ) (b : Bool) → nat_lt k i ≡ b → ((j : ℕ) → j < i → get_or xs j 0 < x) → ((j : ℕ) → i ≤ j → j < length xs → x < get_or xs j 0) → k < length xs → slice_index xs k ≡ x → ⊥
beside xs x i k true is low high l e = let below = low k (grind (arith, nat_tests)) in omega (arith, below, e)
beside xs x i k false is low high l e = let above = high k (grind (arith, nat_tests)) l in omega (arith, above, e)

none_is : (xs : List ℕ) (x : ℕ) → ((k : ℕ) → k < length xs → slice_index xs k ≢ x) → list_any (λ s. nat_eq s x) xs ≡ false
none_is [] x h = refl
none_is (y ∷ ys) x h =
    let first : nat_eq y x ≡ false = let no : y ≢ x = h 0 (omega arith) in grind (arith, nat_tests) in
    let rest = none_is ys x (λ k l. h (suc k) (omega arith)) in
    rw (first, rest) refl

-- what a binary search says of numbers that rise
pub is_listed : (xs : List ℕ) (x i : ℕ) → Rises xs → IsBinarySearchResult (λ y. nat_cmp y x) xs (Ok i) → list_any (λ s. nat_eq s x) xs ≡ true
is_listed xs x i r is =
    let found = searched xs x (Ok i) is r in
    list_any_at (λ s. nat_eq s x) xs i 0 found.0 (eq-eqb _ _ found.1)

pub is_not_listed : (xs : List ℕ) (x i : ℕ) → Rises xs → IsBinarySearchResult (λ y. nat_cmp y x) xs (Err i) → list_any (λ s. nat_eq s x) xs ≡ false
is_not_listed xs x i r is =
    let gap = searched xs x (Err i) is r in
    none_is xs x (λ k l e. beside xs x i k (nat_lt k i) refl (gap.1) (gap.2) l e)
