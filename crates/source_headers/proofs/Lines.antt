-- The names of a module's lines, one line after the other.
use Rattle.std.proofs.Common.{◌≡◌, ℕ, ◌-◌, ◌≤◌, length, take, drop, get_or, List, [], ◌∷◌, ◌++◌, refl, sym, ap, ◌∙◌, append_assoc, append-nil}
use Rattle.py_grammar.specs.declared.module.Item.{Item}
use Rattle.py_grammar.specs.declared.module.Item.TheVariants as item
use Rattle.source_names.specs.declared.named.Entry.{Entry}
use Rattle.source_headers.specs.Modules.{entries_from, module_entry, all_imported, package_of, constants, signatures}
use Rattle.source_headers.specs.Packages.{constants_behind, functions_behind, classes_behind}
use Rattle.source_headers.proofs.Behind.{first_and_behind}

first_entries : (c f k : ℕ) (i : Item) (is : List Item)
    → entries_from c f k (i ∷ []) ++ entries_from (constants_behind c i) (functions_behind f i) (classes_behind k i) is ≡ entries_from c f k (i ∷ is)
first_entries c f k (item.Text p ls) is = refl
first_entries c f k (item.Import p ws a) is = ap (λ z. z ++ entries_from c f k is) (append-nil (module_entry ws a))
first_entries c f k (item.From p ws ns) is = ap (λ z. z ++ entries_from c f k is) (append-nil (all_imported (package_of ws) ns))
first_entries c f k (item.FromParen p ws ns b) is = ap (λ z. z ++ entries_from c f k is) (append-nil (all_imported (package_of ws) ns))
first_entries c f k (item.Const w v) is = refl
first_entries c f k (item.Func d) is = refl
first_entries c f k (item.Class d) is = refl

-- what a line defines, and then what the lines behind it do
told_entries : (es : List Entry) (c f k : ℕ) (i : Item) (is : List Item)
    → (es ++ entries_from c f k (i ∷ [])) ++ entries_from (constants_behind c i) (functions_behind f i) (classes_behind k i) is ≡ es ++ entries_from c f k (i ∷ is)
told_entries es c f k i is =
    append_assoc es (entries_from c f k (i ∷ [])) (entries_from (constants_behind c i) (functions_behind f i) (classes_behind k i) is)
    ∙ ap (λ z. es ++ z) (first_entries c f k i is)

pub entries_behind : (xs : List Item) (i : Item) (es more all : List Entry) (c f k c' f' k' : ℕ) → i ≡ get_or xs 0 i → 1 ≤ length xs
    → more ≡ es ++ entries_from c f k (i ∷ []) → c' ≡ constants_behind c i → f' ≡ functions_behind f i → k' ≡ classes_behind k i
    → es ++ entries_from c f k xs ≡ all → more ++ entries_from c' f' k' (take (length xs - 1) (drop 1 xs)) ≡ all
entries_behind xs i es more all c f k c' f' k' is low d p q r h =
    let ys = take (length xs - 1) (drop 1 xs) in
    ap (λ z. z ++ entries_from c' f' k' ys) d
    ∙ ap (λ n. (es ++ entries_from c f k (i ∷ [])) ++ entries_from n f' k' ys) p
    ∙ ap (λ n. (es ++ entries_from c f k (i ∷ [])) ++ entries_from (constants_behind c i) n k' ys) q
    ∙ ap (λ n. (es ++ entries_from c f k (i ∷ [])) ++ entries_from (constants_behind c i) (functions_behind f i) n ys) r
    ∙ told_entries es c f k i ys
    ∙ ap (λ zs. es ++ entries_from c f k zs) (sym (first_and_behind xs i is low))
    ∙ h

pub first_constants : (i : Item) (is : List Item) → constants (i ∷ []) ++ constants is ≡ constants (i ∷ is)
first_constants (item.Text p ls) is = refl
first_constants (item.Import p ws a) is = refl
first_constants (item.From p ws ns) is = refl
first_constants (item.FromParen p ws ns b) is = refl
first_constants (item.Const w v) is = refl
first_constants (item.Func d) is = refl
first_constants (item.Class d) is = refl

pub first_signatures : (es : List Entry) (i : Item) (is : List Item) → signatures es (i ∷ []) ++ signatures es is ≡ signatures es (i ∷ is)
first_signatures es (item.Text p ls) is = refl
first_signatures es (item.Import p ws a) is = refl
first_signatures es (item.From p ws ns) is = refl
first_signatures es (item.FromParen p ws ns b) is = refl
first_signatures es (item.Const w v) is = refl
first_signatures es (item.Func d) is = refl
first_signatures es (item.Class d) is = refl
