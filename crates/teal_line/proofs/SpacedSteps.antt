-- Words with a space before each.
use Rattle.std.proofs.Common.{◌≡◌, ℕ, ℤ, ◌+◌, ◌<◌, List, [], ◌∷◌, ◌++◌, length, map, take, get_or, refl, ap, sym, ◌∙◌, append_assoc, append-nil, add-one, Some}
use Rattle.std.specs.Prelude.{pos, negsuc}
use Rattle.std.specs.List.{join_with_byte}
use Rattle.std.specs.Fmt.{signed_decimal, decimal}
use Rattle.std.proofs.lemmas.List.{take_more, map-append}
use Rattle.avm_ops.specs.declared.instr.Imm.{Imm}
use Rattle.avm_ops.specs.declared.instr.Imm.TheVariants as imm
use Rattle.avm_ops.specs.declared.rows.Fields.{Fields}
use Rattle.avm_ops.specs.declared.rows.Format.{Format}
use Rattle.avm_ops.specs.declared.rows.Format.TheVariants as format
use Rattle.teal_line.specs.Operands.{signed_word}
use Rattle.avm_ops.specs.declared.instr.Instr.{Instr}
use Rattle.avm_ops.specs.declared.rows.Row.{Row}
use Rattle.avm_ops.specs.Table.{row_of}
use Rattle.avm_asm.specs.declared.line.TableKind.{TableKind}
use Rattle.avm_asm.specs.Listing.{table_opcode}
use Rattle.teal_line.specs.Mnemonics.{name_of}
use Rattle.teal_line.specs.declared.statement.Statement.TheVariants.{Op, Table}
use Rattle.teal_line.specs.Printing.{spaced, imm_words, imm_words_in, imm_words_by, statement_text}

pub spaced_join : (w : List ℕ) (ws : List (List ℕ)) → join_with_byte 32 (w ∷ ws) ≡ w ++ spaced ws
spaced_join w [] = sym (append-nil w)
spaced_join w (v ∷ ws) = ap (λ r. w ++ 32 ∷ r) (spaced_join v ws)

spaced_one_more : (ws : List (List ℕ)) (w : List ℕ) → spaced (ws ++ w ∷ []) ≡ spaced ws ++ 32 ∷ w
spaced_one_more [] w = ap (λ r. 32 ∷ r) (append-nil w)
spaced_one_more (v ∷ ws) w = ap (λ r. 32 ∷ (v ++ r)) (spaced_one_more ws w) ∙ ap (λ r. 32 ∷ r) (sym (append_assoc v (spaced ws) (32 ∷ w)))

-- one word more of a list
pub spaced_more : {A : Type 0} (f : A → List ℕ) (xs : List A) (i : ℕ) (d : A) → i < length xs → spaced (map f (take (i + 1) xs)) ≡ spaced (map f (take i xs)) ++ 32 ∷ f (get_or xs i d)
spaced_more f xs i d h =
    ap (λ ys. spaced (map f ys)) (take_more xs i d h)
    ∙ ap spaced (map-append f (take i xs) (get_or xs i d ∷ []))
    ∙ spaced_one_more (map f (take i xs)) (f (get_or xs i d))

pub signed_is : (z : ℤ) → signed_decimal z ≡ signed_word z
signed_is (pos n) = refl
signed_is (negsuc n) = ap (λ k. 45 ∷ decimal k) (sym (add-one n))

pub no_field : (f : Format) (i : Imm) → ((fs : Fields) → f ≡ format.Field fs → ⊥) → ((fs : Fields) → f ≡ format.FieldAndByte fs → ⊥) → imm_words_in f i ≡ imm_words i
no_field (format.Field fs) i h g = absurd (h fs refl)
no_field (format.FieldAndByte fs) i h g = absurd (g fs refl)
no_field f i h g = refl

pub no_byte : (fs : Fields) (i : Imm) → ((b : ℕ) → i ≡ imm.Byte b → ⊥) → imm_words_in (format.Field fs) i ≡ imm_words i
no_byte fs (imm.Byte b) h = absurd (h b refl)
no_byte fs i h = refl

pub no_two : (fs : Fields) (i : Imm) → ((a b : ℕ) → i ≡ imm.Two a b → ⊥) → imm_words_in (format.FieldAndByte fs) i ≡ imm_words i
no_two fs (imm.Two a b) h = absurd (h a b refl)
no_two fs i h = refl

-- one word more is appended
pub spaced_step : {A : Type 0} (f : A → List ℕ) (old now next : List ℕ) (xs : List A) (i : ℕ) (d : A) → i < length xs
    → now ≡ old ++ spaced (map f (take i xs)) → next ≡ now ++ spaced (f (get_or xs i d) ∷ []) → next ≡ old ++ spaced (map f (take (i + 1) xs))
spaced_step f old now next xs i d h e g =
    g
    ∙ ap (λ s. s ++ spaced (f (get_or xs i d) ∷ [])) e
    ∙ append_assoc old (spaced (map f (take i xs))) (spaced (f (get_or xs i d) ∷ []))
    ∙ ap (λ r. old ++ (spaced (map f (take i xs)) ++ 32 ∷ r)) (append-nil (f (get_or xs i d)))
    ∙ ap (λ r. old ++ r) (sym (spaced_more f xs i d h))

map_same : (xs : List (List ℕ)) → map (λ x. x) xs ≡ xs
map_same [] = refl
map_same (x ∷ xs) = ap (λ r. x ∷ r) (map_same xs)

pub spaced_name : (old now next : List ℕ) (xs : List (List ℕ)) (i : ℕ) (d : List ℕ) → i < length xs
    → now ≡ old ++ spaced (take i xs) → next ≡ now ++ spaced (get_or xs i d ∷ []) → next ≡ old ++ spaced (take (i + 1) xs)
spaced_name old now next xs i d h e g =
    spaced_step (λ x. x) old now next xs i d h (e ∙ ap (λ ws. old ++ spaced ws) (sym (map_same (take i xs)))) g
    ∙ ap (λ ws. old ++ spaced ws) (map_same (take (i + 1) xs))

pub operation_text : (i : Instr) (row : Row) → row_of i.op ≡ Some row → name_of i.op ++ spaced (imm_words_in row.format i.imm) ≡ statement_text (Op i)
unfolding statement_text
operation_text i row e =
    sym (spaced_join (name_of i.op) (imm_words_in row.format i.imm))
    ∙ ap (λ o. join_with_byte 32 (name_of i.op ∷ imm_words_by o i.imm)) (sym e)

pub table_text : (kind : TableKind) (names : List (List ℕ)) → name_of (table_opcode kind) ++ spaced names ≡ statement_text (Table kind names)
unfolding statement_text
table_text kind names = sym (spaced_join (name_of (table_opcode kind)) names)

-- two texts are appended
pub appended : (old first between second next whole : List ℕ) → between ≡ old ++ first → next ≡ between ++ second → first ++ second ≡ whole → next ≡ old ++ whole
appended old first between second next whole e g h = g ∙ ap (λ s. s ++ second) e ∙ append_assoc old first second ∙ ap (λ r. old ++ r) h
