-- What waits in the parts of an expression, counted with counts that stand still.
use Rattle.std.proofs.Common.{◌≡◌, ℕ, ◌+◌, ◌∙◌, max, sym, ap, arith}
use Rattle.awst.specs.Capped.{capped}
use Rattle.awst.specs.Tree.{Ex, Exs, no_exprs, an_expr}
use Rattle.awst.specs.Places.{wait, parts_wait, scalars_of}
use Rattle.awst.proofs.Capped.{capped_max}

-- the values that wait before may be counted so too
pub held_capped : (own h k : ℕ) (es : Exs) → capped h ≡ capped k → capped (parts_wait own h es) ≡ capped (parts_wait own k es)
held_capped own h k no_exprs e = omega (arith, e)
held_capped own h k (an_expr x es) e =
    capped_max (h + wait x) (parts_wait own (h + scalars_of x) es)
    ∙ (let p : capped (h + wait x) ≡ capped (k + wait x) = omega (arith, e) in
    let q : capped (h + scalars_of x) ≡ capped (k + scalars_of x) = omega (arith, e) in
    ap (λ a. max a (capped (parts_wait own (h + scalars_of x) es))) p ∙ ap (λ b. max (capped (k + wait x)) b) (held_capped own (h + scalars_of x) (k + scalars_of x) es q))
    ∙ sym (capped_max (k + wait x) (parts_wait own (k + scalars_of x) es))

-- one part further
pub next_part : (own most held : ℕ) (x : Ex) (es : Exs) →
    capped (max (max most (capped (held + capped (wait x)))) (parts_wait own (capped (held + capped (scalars_of x))) es)) ≡ capped (max most (parts_wait own held (an_expr x es)))
next_part own most held x es =
    let h = held_capped own (capped (held + capped (scalars_of x))) (held + scalars_of x) es (omega arith) in
    let a = parts_wait own (capped (held + capped (scalars_of x))) es in
    let b = parts_wait own (held + scalars_of x) es in
    let f : capped (max (max most (capped (held + capped (wait x)))) a) ≡ capped (max (max most (held + wait x)) b) = omega (arith, h) in
    f ∙ ap capped (omega arith)
