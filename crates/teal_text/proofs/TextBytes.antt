-- The byte strings among a program's immediates are of bytes.
use Rattle.std.proofs.Common.{◌≡◌, ℕ, ◌+◌, ◌<◌, List, [], ◌∷◌, ◌++◌, length, Bool, true, false, refl, sym, arith, subst}
use Rattle.std.specs.Prelude.{nat_lt, slice_index, if◌then◌else◌}
use Rattle.std.specs.List.{All, flat_map}
use Rattle.std.proofs.lemmas.Bool.Decides.{nat_tests}
use Rattle.std.proofs.lemmas.List.{get_or_append_left, get_or-append-add, get_or-drop, get_or_past}
use Rattle.std.proofs.lemmas.List.Elements.{All-nil, All-cons}
use Rattle.avm_ops.specs.declared.instr.Imm.{Imm}
use Rattle.avm_ops.specs.declared.instr.Imm.TheVariants as imm
use Rattle.avm_ops.specs.Immediate.{imm_bytes, sized_bytes}
use Rattle.avm_ops.specs.Varint.{number_bytes}
use Rattle.avm_ops.specs.Code.{AreBytes}
use Rattle.avm_run.specs.Form.{IsWellFormed}
use Rattle.teal_line.specs.declared.statement.Statement.{Statement}
use Rattle.teal_line.specs.declared.statement.Statement.TheVariants.{Label}
use Rattle.teal_line.specs.ReadsBack.{HasBytes, IsOfBytes}
use Rattle.teal_text.specs.Printing.{Placed, instructions, label_at, label_name, statement_by, statement_of, statements_of, targets}
use Rattle.teal_text.proofs.LawChain.{Each, bytes_at, each_append, each_flat_map, each_weaker, is_in, sound}

front_by : (xs ys : List ℕ) (k : ℕ) (b : Bool) → nat_lt k (length xs) ≡ b → AreBytes (xs ++ ys) → slice_index xs k < 256
front_by xs ys k true is h = let low = h k in let at = get_or_append_left xs ys 0 k (grind (arith, nat_tests)) in omega (arith, low, at)
front_by xs ys k false is h = let at = get_or_past xs k 0 (grind (arith, nat_tests)) in omega (arith, at)

bytes_front : (xs ys : List ℕ) → AreBytes (xs ++ ys) → AreBytes xs
bytes_front xs ys h = λ k. front_by xs ys k (nat_lt k (length xs)) refl h

bytes_back : (xs ys : List ℕ) → AreBytes (xs ++ ys) → AreBytes ys
bytes_back xs ys h = λ k. let low = h (length xs + k) in let at = get_or-append-add xs ys k 0 in omega (arith, low, at)

sized_are : (bs : List (List ℕ)) → AreBytes (flat_map sized_bytes bs) → All AreBytes bs
sized_are [] h = All-nil AreBytes
sized_are (b ∷ bs) h =
    All-cons AreBytes b bs (bytes_back (number_bytes (length b)) b (bytes_front (sized_bytes b) (flat_map sized_bytes bs) h)) (sized_are bs (bytes_back (sized_bytes b) (flat_map sized_bytes bs) h))

imm_has_bytes : (i : Imm) → AreBytes (imm_bytes i) → HasBytes i
imm_has_bytes (imm.Bytes b) h = bytes_back (number_bytes (length b)) b h
imm_has_bytes (imm.Blobs bs) h = sized_are bs (bytes_back (number_bytes (length bs)) (flat_map sized_bytes bs) h)
imm_has_bytes i h = tt

statement_by_of : (i : Imm) (p : Placed) → p.instr.imm ≡ i → HasBytes i → IsOfBytes (statement_by i p)
statement_by_of (imm.Jump j) p e h = tt
statement_by_of (imm.Jumps js) p e h = tt
statement_by_of i p e h = subst HasBytes (sym e) h

placed_of : (p : Placed) → AreBytes (bytes_at p) → IsOfBytes (statement_of p)
placed_of p h = statement_by_of p.instr.imm p refl (imm_has_bytes p.instr.imm (bytes_back (p.instr.op ∷ []) (imm_bytes p.instr.imm) h))

each_of : (ps : List Placed) → AreBytes (flat_map bytes_at ps) → Each (λ p. IsOfBytes (statement_of p)) ps
each_of [] h = tt
each_of (p ∷ ps) h = (placed_of p (bytes_front (bytes_at p) (flat_map bytes_at ps) h), each_of ps (bytes_back (bytes_at p) (flat_map bytes_at ps) h))

label_of : (ts : List ℕ) (t : ℕ) → Each IsOfBytes (label_at ts t)
label_of ts t = by (is_in ts t)
  where
    by : (b : Bool) → Each IsOfBytes (if b then Label (label_name t) ∷ [] else [])
    by true = (tt, tt)
    by false = tt

pub statements_of_bytes : (code : List ℕ) → AreBytes code → IsWellFormed code → Each IsOfBytes (statements_of code)
statements_of_bytes code h w =
    let s = sound code h w in
    let ps = instructions code in
    let ts = targets ps in
    let piece : Placed → List Statement = λ p. label_at ts p.pc ++ statement_of p ∷ [] in
    let all : AreBytes (flat_map bytes_at ps) = subst AreBytes (sym s.walk.bytes) (λ k. let at = get_or-drop 1 code k 0 in let low = h (1 + k) in omega (arith, at, low)) in
    each_append IsOfBytes (flat_map piece ps) (label_at ts (length code))
    (each_flat_map IsOfBytes piece ps
    (each_weaker (λ p. IsOfBytes (statement_of p)) (λ p. Each IsOfBytes (piece p)) (λ p b. each_append IsOfBytes (label_at ts p.pc) (statement_of p ∷ []) (label_of ts p.pc) (b, tt)) ps (each_of ps all)))
    (label_of ts (length code))
