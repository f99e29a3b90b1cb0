-- Literals side by side, one after the other.
use Rattle.std.proofs.Common.{◌≡◌, ℕ, ◌-◌, ◌≤◌, List, ◌++◌, length, take, drop, get_or, sym, ap, ◌∙◌, append_assoc}
use Rattle.py_lexer.specs.Literals.{literal_value}
use Rattle.py_grammar.specs.declared.word.Literal.{Literal}
use Rattle.source_names.specs.Literals.{joined}
use Rattle.source_names.proofs.Behind.{first_and_behind}

pub joined_next : (xs : List Literal) (l : Literal) (bytes more all : List ℕ) → l ≡ get_or xs 0 l → 1 ≤ length xs → more ≡ bytes ++ (literal_value l.text).0
    → bytes ++ joined xs ≡ all → more ++ joined (take (length xs - 1) (drop 1 xs)) ≡ all
joined_next xs l bytes more all is low d h =
    let ys = take (length xs - 1) (drop 1 xs) in
    ap (λ z. z ++ joined ys) d
    ∙ append_assoc bytes (literal_value l.text).0 (joined ys)
    ∙ ap (λ zs. bytes ++ joined zs) (sym (first_and_behind xs l is low))
    ∙ h
