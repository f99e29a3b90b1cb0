-- Labels by number: in the end each name has one number, and different names have different ones.
use Rattle.std.proofs.Common.{◌≡◌, ℕ, zero, suc, List, [], ◌∷◌, ◌++◌, map, Bool, true, false, refl, arith, ap, sym, ◌∙◌}
use Rattle.std.specs.Prelude.{bytes_eq, if◌then◌else◌}
use Rattle.std.specs.List.{list_any}
use Rattle.std.proofs.lemmas.Slice.Eq.{bytes_eq-Decides}
use Rattle.std.proofs.lemmas.Bool.{or_right}
use Rattle.avm_asm.specs.declared.line.Line.{Line}
use Rattle.avm_asm.specs.declared.line.Line.TheVariants as line
use Rattle.teal_line.specs.declared.statement.Statement.{Statement}
use Rattle.teal_line.specs.declared.statement.Statement.TheVariants.{Op, Label, Jump, Table}
use Rattle.teal_text.specs.Numbering.{number_of, with_name, with_names, numbers_of, names_of, line_by, numbered}
use Rattle.teal_text.proofs.LawChain.{Each}

abbrev pub Names : Type 0
Names = List (List ℕ)

-- a name was seen
abbrev pub knows : Names → List ℕ → Bool
knows seen name = list_any (λ n. bytes_eq n name) seen

-- a statement as a line, by some numbering
abbrev pub line_of : (List ℕ → ℕ) → Statement → Line
line_of f (Op i) = line.Op i
line_of f (Label name) = line.Label (f name)
line_of f (Jump kind name) = line.Jump kind (f name)
line_of f (Table kind names) = line.Table kind (map f names)

-- all names of statements, in the order of their numbers
abbrev pub names_in : Names → List Statement → Names
names_in seen [] = seen
names_in seen (s ∷ ss) = names_in (with_names seen (names_of s)) ss

bytes_same : (a : List ℕ) → bytes_eq a a ≡ true
bytes_same a = (bytes_eq-Decides a a).1 refl

-- ---- what was seen keeps its number

record Grows (xs ys : Names) : Type 0 where
  kept : (n : List ℕ) → knows xs n ≡ true → number_of ys n ≡ number_of xs n
  seen : (n : List ℕ) → knows xs n ≡ true → knows ys n ≡ true

grows_same : (xs : Names) → Grows xs xs
grows_same xs = record { kept = λ n h. refl; seen = λ n h. h }

grows_then : (xs ys zs : Names) → Grows xs ys → Grows ys zs → Grows xs zs
grows_then xs ys zs g h = record { kept = λ n k. h.kept n (g.seen n k) ∙ g.kept n k; seen = λ n k. h.seen n (g.seen n k) }

kept_push : (xs : Names) (m n : List ℕ) → knows xs n ≡ true → number_of (xs ++ m ∷ []) n ≡ number_of xs n
kept_push [] m n h = absurd cc
kept_push (x ∷ xs) m n h = by (bytes_eq x n) refl (kept_push xs m n)
  where
    by : (b : Bool) → bytes_eq x n ≡ b → (knows xs n ≡ true → number_of (xs ++ m ∷ []) n ≡ number_of xs n) → number_of ((x ∷ xs) ++ m ∷ []) n ≡ number_of (x ∷ xs) n
    by true is ih = rw is refl
    by false is ih = let rest : knows xs n ≡ true = rw is at h in rw is (ap suc (ih rest))

seen_push : (xs : Names) (m n : List ℕ) → knows xs n ≡ true → knows (xs ++ m ∷ []) n ≡ true
seen_push [] m n h = absurd cc
seen_push (x ∷ xs) m n h = by (bytes_eq x n) refl (seen_push xs m n)
  where
    by : (b : Bool) → bytes_eq x n ≡ b → (knows xs n ≡ true → knows (xs ++ m ∷ []) n ≡ true) → knows ((x ∷ xs) ++ m ∷ []) n ≡ true
    by true is ih = rw is refl
    by false is ih = let rest : knows xs n ≡ true = rw is at h in rw is (ih rest)

known_push : (xs : Names) (n : List ℕ) → knows (xs ++ n ∷ []) n ≡ true
known_push [] n = rw (bytes_same n) refl
known_push (x ∷ xs) n = or_right (bytes_eq x n) (knows (xs ++ n ∷ []) n) (known_push xs n)

number_push : (xs : Names) (n : List ℕ) → number_of (xs ++ n ∷ []) n ≡ number_of xs n
number_push [] n = rw (bytes_same n) refl
number_push (x ∷ xs) n = by (bytes_eq x n) refl (number_push xs n)
  where
    by : (b : Bool) → bytes_eq x n ≡ b → number_of (xs ++ n ∷ []) n ≡ number_of xs n → number_of ((x ∷ xs) ++ n ∷ []) n ≡ number_of (x ∷ xs) n
    by true is ih = rw is refl
    by false is ih = rw is (ap suc ih)

grows_name : (xs : Names) (m : List ℕ) → Grows xs (with_name xs m)
grows_name xs m = by (knows xs m) refl
  where
    by : (b : Bool) → knows xs m ≡ b → Grows xs (if b then xs else xs ++ m ∷ [])
    by true is = grows_same xs
    by false is = record { kept = kept_push xs m; seen = seen_push xs m }

known_name : (xs : Names) (m : List ℕ) → knows (with_name xs m) m ≡ true
known_name xs m = by (knows xs m) refl
  where
    by : (b : Bool) → knows xs m ≡ b → knows (if b then xs else xs ++ m ∷ []) m ≡ true
    by true is = is
    by false is = known_push xs m

number_name : (xs : Names) (m : List ℕ) → number_of (with_name xs m) m ≡ number_of xs m
number_name xs m = by (knows xs m) refl
  where
    by : (b : Bool) → knows xs m ≡ b → number_of (if b then xs else xs ++ m ∷ []) m ≡ number_of xs m
    by true is = refl
    by false is = number_push xs m

grows_names : (xs : Names) (ns : Names) → Grows xs (with_names xs ns)
grows_names xs [] = grows_same xs
grows_names xs (n ∷ ns) = grows_then xs (with_name xs n) (with_names (with_name xs n) ns) (grows_name xs n) (grows_names (with_name xs n) ns)

grows_all : (xs : Names) (ss : List Statement) → Grows xs (names_in xs ss)
grows_all xs [] = grows_same xs
grows_all xs (s ∷ ss) =
    let ys = with_names xs (names_of s) in
    grows_then xs ys (names_in ys ss) (grows_names xs (names_of s)) (grows_all ys ss)

-- ---- the numbers, by the names in the end

same_numbers : (xs ns final : Names) → Grows (with_names xs ns) final → numbers_of xs ns ≡ map (number_of final) ns
same_numbers xs [] final g = refl
same_numbers xs (n ∷ ns) final g =
    let ys = with_name xs n in
    let later = grows_then ys (with_names ys ns) final (grows_names ys ns) g in
    let first : number_of xs n ≡ number_of final n = sym (number_name xs n) ∙ sym (later.kept n (known_name xs n)) in
    ap (λ (k : ℕ). k ∷ numbers_of ys ns) first ∙ ap (λ (ks : List ℕ). number_of final n ∷ ks) (same_numbers ys ns final g)

same_number : (xs final : Names) (n : List ℕ) → Grows (with_name xs n) final → number_of xs n ≡ number_of final n
same_number xs final n g = sym (number_name xs n) ∙ sym (g.kept n (known_name xs n))

same_line : (xs : Names) (s : Statement) (final : Names) → Grows (with_names xs (names_of s)) final → line_by xs s ≡ line_of (number_of final) s
same_line xs (Op i) final g = refl
same_line xs (Label n) final g = ap line.Label (same_number xs final n g)
same_line xs (Jump kind n) final g = ap (line.Jump kind) (same_number xs final n g)
same_line xs (Table kind ns) final g = ap (line.Table kind) (same_numbers xs ns final g)

same_lines : (xs : Names) (ss : List Statement) (final : Names) → Grows (names_in xs ss) final → numbered xs ss ≡ map (line_of (number_of final)) ss
unfolding numbered
same_lines xs [] final g = refl
same_lines xs (s ∷ ss) final g =
    let ys = with_names xs (names_of s) in
    ap (λ (l : Line). l ∷ numbered ys ss) (same_line xs s final (grows_then ys (names_in ys ss) final (grows_all ys ss) g))
    ∙ ap (λ (ls : List Line). line_of (number_of final) s ∷ ls) (same_lines ys ss final g)

-- each label goes by its number among all names
pub numbered_is : (ss : List Statement) → numbered [] ss ≡ map (line_of (number_of (names_in [] ss))) ss
numbered_is ss = same_lines [] ss (names_in [] ss) (grows_same (names_in [] ss))

-- ---- each name is among them

known_names : (xs ns final : Names) → Grows (with_names xs ns) final → Each (λ n. knows final n ≡ true) ns
known_names xs [] final g = tt
known_names xs (n ∷ ns) final g =
    let ys = with_name xs n in
    ((grows_then ys (with_names ys ns) final (grows_names ys ns) g).seen n (known_name xs n), known_names ys ns final g)

known_all : (xs : Names) (ss : List Statement) (final : Names) → Grows (names_in xs ss) final → Each (λ s. Each (λ n. knows final n ≡ true) (names_of s)) ss
known_all xs [] final g = tt
known_all xs (s ∷ ss) final g =
    let ys = with_names xs (names_of s) in
    (known_names xs (names_of s) final (grows_then ys (names_in ys ss) final (grows_all ys ss) g), known_all ys ss final g)

pub all_known : (ss : List Statement) → Each (λ s. Each (λ n. knows (names_in [] ss) n ≡ true) (names_of s)) ss
all_known ss = known_all [] ss (names_in [] ss) (grows_same (names_in [] ss))

-- different names have different numbers
pub numbers_apart : (xs : Names) (a b : List ℕ) → knows xs a ≡ true → number_of xs a ≡ number_of xs b → a ≡ b
numbers_apart [] a b h e = absurd cc
numbers_apart (x ∷ xs) a b h e = by (bytes_eq x a) (bytes_eq x b) refl refl (numbers_apart xs a b)
  where
    by : (p q : Bool) → bytes_eq x a ≡ p → bytes_eq x b ≡ q → (knows xs a ≡ true → number_of xs a ≡ number_of xs b → a ≡ b) → a ≡ b
    by true true f g ih = sym ((bytes_eq-Decides x a).0 f) ∙ (bytes_eq-Decides x b).0 g
    by true false f g ih = let clash : zero ≡ suc (number_of xs b) = rw (f, g) at e in absurd (omega arith)
    by false true f g ih = let clash : suc (number_of xs a) ≡ zero = rw (f, g) at e in absurd (omega arith)
    by false false f g ih =
        let same : suc (number_of xs a) ≡ suc (number_of xs b) = rw (f, g) at e in
        let rest : knows xs a ≡ true = rw f at h in
        ih rest (omega arith)
