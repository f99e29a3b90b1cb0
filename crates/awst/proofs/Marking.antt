-- Rows of marks: marks for nothing, one after another, and of one number.
use Rattle.std.proofs.Common.{◌≡◌, ℕ, zero, suc, ◌+◌, ◌<◌, ◌≤◌, ◌∙◌, Bool, true, false, ◌||◌, List, [], ◌∷◌, length, set, get_or, drop, eqb, refl, sym, ap, add-one, drop-cons, arith}
use Rattle.std.proofs.lemmas.Bool.{eq-eqb, ne_eqb}
use Rattle.std.proofs.lemmas.List.{drop_all, get_or_default}
use Rattle.awst.specs.Marks.{marked_from, marked, marked_sum}
use Rattle.awst.specs.Plain.{Statement, PlainArm, PlainPick, assigned_in, assigned_in_arms, assigned_in_picks}

-- marks for nothing
pub marked_none_from : (x : ℕ) (marks : List Bool) → marked_from x (λ y. false) marks ≡ marks
marked_none_from x [] = refl
marked_none_from x (true ∷ marks) = ap (λ l. true ∷ l) (marked_none_from (x + 1) marks)
marked_none_from x (false ∷ marks) = ap (λ l. false ∷ l) (marked_none_from (x + 1) marks)

pub marked_none : (marks : List Bool) → marks ≡ marked (λ y. false) marks
marked_none marks = sym (marked_none_from 0 marks)

-- marks for some numbers, and then for others
pub marked_both_from : (x : ℕ) (f g : ℕ → Bool) (marks : List Bool) → marked_from x g (marked_from x f marks) ≡ marked_from x (λ y. f y || g y) marks
marked_both_from x f g [] = refl
marked_both_from x f g (true ∷ marks) = ap (λ l. true ∷ l) (marked_both_from (x + 1) f g marks)
marked_both_from x f g (false ∷ marks) = ap (λ l. (f x || g x) ∷ l) (marked_both_from (x + 1) f g marks)

pub marked_both : (f g : ℕ → Bool) (marks : List Bool) → marked g (marked f marks) ≡ marked (λ y. f y || g y) marks
marked_both f g marks = marked_both_from 0 f g marks

pub length-marked_from : (x : ℕ) (f : ℕ → Bool) (marks : List Bool) → length (marked_from x f marks) ≡ length marks
length-marked_from x f [] = refl
length-marked_from x f (mark ∷ marks) = ap suc (length-marked_from (x + 1) f marks)

-- a number before the row
before_row : (x k : ℕ) (marks : List Bool) → x < k → marked_from k (λ y. eqb x y) marks ≡ marks
before_row x k [] h = refl
before_row x k (true ∷ marks) h = ap (λ l. true ∷ l) (before_row x (k + 1) marks (omega arith))
before_row x k (false ∷ marks) h =
    ap (λ b. b ∷ marked_from (k + 1) (λ y. eqb x y) marks) (ne_eqb x k (λ e. omega arith)) ∙ ap (λ l. false ∷ l) (before_row x (k + 1) marks (omega arith))

-- a number in the row, and one behind it
one_in_row : (x k i : ℕ) (marks : List Bool) → x ≡ k + i → i < length marks → set marks i true ≡ marked_from k (λ y. eqb x y) marks
one_in_row x k i [] e h = absurd (omega arith)
one_in_row x k zero (true ∷ marks) e h = ap (λ l. true ∷ l) (sym (before_row x (k + 1) marks (omega arith)))
one_in_row x k zero (false ∷ marks) e h =
    ap (λ l. true ∷ l) (sym (before_row x (k + 1) marks (omega arith))) ∙ ap (λ b. b ∷ marked_from (k + 1) (λ y. eqb x y) marks) (sym (eq-eqb x k (omega arith)))
one_in_row x k (suc i) (true ∷ marks) e h = ap (λ l. true ∷ l) (one_in_row x (k + 1) i marks (omega arith) (omega arith))
one_in_row x k (suc i) (false ∷ marks) e h =
    ap (λ l. false ∷ l) (one_in_row x (k + 1) i marks (omega arith) (omega arith)) ∙ ap (λ b. b ∷ marked_from (k + 1) (λ y. eqb x y) marks) (sym (ne_eqb x k (λ d. omega arith)))

behind_row : (x k : ℕ) (marks : List Bool) → k + length marks ≤ x → marks ≡ marked_from k (λ y. eqb x y) marks
behind_row x k [] h = refl
behind_row x k (true ∷ marks) h = ap (λ l. true ∷ l) (behind_row x (k + 1) marks (omega arith))
behind_row x k (false ∷ marks) h =
    ap (λ l. false ∷ l) (behind_row x (k + 1) marks (omega arith)) ∙ ap (λ b. b ∷ marked_from (k + 1) (λ y. eqb x y) marks) (sym (ne_eqb x k (λ e. omega arith)))

pub marked_one : (x : ℕ) (marks : List Bool) → x < length marks → set marks x true ≡ marked (λ y. eqb x y) marks
marked_one x marks h = one_in_row x 0 x marks (omega arith) h

pub marked_outside : (x : ℕ) (marks : List Bool) → length marks ≤ x → marks ≡ marked (λ y. eqb x y) marks
marked_outside x marks h = behind_row x 0 marks (omega arith)

-- numbers that pass alike
marked_same_from : (x : ℕ) (f g : ℕ → Bool) (marks : List Bool) → ((y : ℕ) → f y ≡ g y) → marked_from x f marks ≡ marked_from x g marks
marked_same_from x f g [] e = refl
marked_same_from x f g (mark ∷ marks) e = ap (λ b. (mark || b) ∷ marked_from (x + 1) f marks) (e x) ∙ ap (λ l. (mark || g x) ∷ l) (marked_same_from (x + 1) f g marks e)

pub marked_same : (f g : ℕ → Bool) (marks : List Bool) → ((y : ℕ) → f y ≡ g y) → marked f marks ≡ marked g marks
marked_same f g marks e = marked_same_from 0 f g marks e

or_comm : (a b : Bool) → (a || b) ≡ (b || a)
or_comm true true = refl
or_comm true false = refl
or_comm false true = refl
or_comm false false = refl

-- the later marks said first
pub marked_before : (f g : ℕ → Bool) (marks : List Bool) → marked f (marked g marks) ≡ marked (λ y. f y || g y) marks
marked_before f g marks = marked_both g f marks ∙ marked_same (λ y. g y || f y) (λ y. f y || g y) marks (λ y. or_comm (g y) (f y))

or_assoc : (a b c : Bool) → ((a || b) || c) ≡ (a || (b || c))
or_assoc true b c = refl
or_assoc false b c = refl

-- one more of a list
pub next_item : {X : Type 0} (xs : List X) (i : ℕ) (x : X) → i < length xs → x ≡ get_or xs i x → drop i xs ≡ x ∷ drop (i + 1) xs
next_item xs i x h e = drop-cons xs i x h ∙ ap (λ y. y ∷ drop (suc i) xs) (sym e) ∙ ap (λ n. x ∷ drop n xs) (sym (add-one i))

-- marks for a list of things, one thing after the other
pub marked_next : {X : Type 0} (f : List X → ℕ → Bool) (one : X → ℕ → Bool) (xs : List X) (i : ℕ) (x : X) (marks more whole : List Bool) →
    ((ys : List X) → f (x ∷ ys) ≡ λ y. one x y || f ys y) → i < length xs → x ≡ get_or xs i x → more ≡ marked (one x) marks →
    marked (f (drop i xs)) marks ≡ whole → marked (f (drop (i + 1) xs)) more ≡ whole
marked_next f one xs i x marks more whole by_step h e m w =
    ap (marked (f (drop (i + 1) xs))) m
    ∙ marked_both (one x) (f (drop (i + 1) xs)) marks
    ∙ ap (λ g. marked g marks) (sym (by_step (drop (i + 1) xs)))
    ∙ ap (λ l. marked (f l) marks) (sym (next_item xs i x h e))
    ∙ w

-- nothing is left
pub marked_end : {X : Type 0} (f : List X → ℕ → Bool) (xs : List X) (i : ℕ) (marks whole : List Bool) →
    (f [] ≡ λ y. false) → length xs ≤ i → marked (f (drop i xs)) marks ≡ whole → marks ≡ whole
marked_end f xs i marks whole none h w = marked_none marks ∙ ap (λ g. marked g marks) (sym none) ∙ ap (λ l. marked (f l) marks) (sym (drop_all i xs h)) ∙ w

pub arms_then : (arms : List PlainArm) (rest : List Statement) (x : ℕ) → (assigned_in_arms arms [] x || assigned_in rest x) ≡ assigned_in_arms arms rest x
arms_then [] rest x = refl
arms_then (arm ∷ arms) rest x = or_assoc (assigned_in arm.body x) (assigned_in_arms arms [] x) (assigned_in rest x) ∙ ap (λ b. assigned_in arm.body x || b) (arms_then arms rest x)

pub picks_then : (picks : List PlainPick) (rest : List Statement) (x : ℕ) → (assigned_in_picks picks [] x || assigned_in rest x) ≡ assigned_in_picks picks rest x
picks_then [] rest x = refl
picks_then (p ∷ ps) rest x = or_assoc (assigned_in p.body x) (assigned_in_picks ps [] x) (assigned_in rest x) ∙ ap (λ b. assigned_in p.body x || b) (picks_then ps rest x)

-- marks for arms and then for the rest
pub marked_arms : (arms : List PlainArm) (rest : List Statement) (marks mid more : List Bool) → mid ≡ marked (assigned_in_arms arms []) marks → more ≡ marked (assigned_in rest) mid → more ≡ marked (assigned_in_arms arms rest) marks
marked_arms arms rest marks mid more e m =
    m ∙ ap (marked (assigned_in rest)) e ∙ marked_both (assigned_in_arms arms []) (assigned_in rest) marks
    ∙ marked_same (λ y. assigned_in_arms arms [] y || assigned_in rest y) (assigned_in_arms arms rest) marks (arms_then arms rest)

pub marked_picks : (picks : List PlainPick) (rest : List Statement) (marks mid more : List Bool) → mid ≡ marked (assigned_in_picks picks []) marks → more ≡ marked (assigned_in rest) mid → more ≡ marked (assigned_in_picks picks rest) marks
marked_picks picks rest marks mid more e m =
    m ∙ ap (marked (assigned_in rest)) e ∙ marked_both (assigned_in_picks picks []) (assigned_in rest) marks
    ∙ marked_same (λ y. assigned_in_picks picks [] y || assigned_in rest y) (assigned_in_picks picks rest) marks (picks_then picks rest)

no_sizes : (marks : List Bool) → marked_sum marks [] ≡ 0
no_sizes [] = refl
no_sizes (mark ∷ marks) = refl

pub marked_sum_end : (marks : List Bool) (sizes : List ℕ) (i : ℕ) → length sizes ≤ i → marked_sum (drop i marks) (drop i sizes) ≡ 0
marked_sum_end marks sizes i h = ap (marked_sum (drop i marks)) (drop_all i sizes h) ∙ no_sizes (drop i marks)

-- an element read at another default
pub read_again : {X : Type 0} (xs : List X) (i : ℕ) (d : X) → i < length xs → get_or xs i d ≡ get_or xs i (get_or xs i d)
read_again xs i d h = get_or_default xs i d (get_or xs i d) h

-- the same where the step holds number by number
pub marked_next_at : {X : Type 0} (f : List X → ℕ → Bool) (one : X → ℕ → Bool) (xs : List X) (i : ℕ) (x : X) (marks more whole : List Bool) →
    ((ys : List X) (y : ℕ) → f (x ∷ ys) y ≡ (one x y || f ys y)) → i < length xs → x ≡ get_or xs i x → more ≡ marked (one x) marks →
    marked (f (drop i xs)) marks ≡ whole → marked (f (drop (i + 1) xs)) more ≡ whole
marked_next_at f one xs i x marks more whole by_step h e m w =
    ap (marked (f (drop (i + 1) xs))) m
    ∙ marked_both (one x) (f (drop (i + 1) xs)) marks
    ∙ sym (marked_same (f (x ∷ drop (i + 1) xs)) (λ y. one x y || f (drop (i + 1) xs) y) marks (by_step (drop (i + 1) xs)))
    ∙ ap (λ l. marked (f l) marks) (sym (next_item xs i x h e))
    ∙ w
