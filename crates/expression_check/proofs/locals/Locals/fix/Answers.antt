use Rattle.std.proofs.Common.{sym, ap, ◌∙◌, arith, length, get_or}
use Rattle.meaning_rules.specs.Operations.{local_from}
use Rattle.source_names.specs.Things.{names_variable}
use Rattle.expression_check.specs.Variables.{fixed, local_names}
use Rattle.expression_check.proofs.Variables.{names_kept, number_kept, set_is_fixed, stays_fixed}
use Rattle.expression_check.proofs.locals.Locals.fix.Goals as goal
use Rattle.expression_check.proofs.locals.Locals.fix.Goals.{in-Fixed+in-Some+in-Tuple-1, in-Fixed+in-Some+in-Scalar-1, in-Fixed+in-None-1, in-Unseen-1}

pub invariant_of-self-then-is_unseen-4 : goal.invariant_of-self-then-is_unseen-4
invariant_of-self-then-is_unseen-4 c =
    let ls = c.self.inside.list.items in
    let is = set_is_fixed ls c.args.number c.args.ty c.index_mut.result.now c.index.result.now (omega (arith, c.if-at-len.true, c.len.ensures)) c.index_mut.ensures.value c.index.ensures (sym c.is_unseen.ensures ∙ c.if-is_unseen.true) in (
      (λ n. c.self.invariant.0 n ∙ sym (number_kept ls c.args.number c.args.ty n) ∙ ap (local_from 0 n) (sym is)),
      (λ n. c.self.invariant.1 n ∙ sym (names_kept ls c.args.number c.args.ty n) ∙ ap (λ xs. names_variable (local_names xs) n) (sym is)),
    )

-- src/locals.rt:94:5
pub returns-then-is_unseen : goal.returns-then-is_unseen
returns-then-is_unseen c =
    let is = set_is_fixed c.self.inside.list.items c.args.number c.args.ty c.index_mut.result.now c.index.result.now (omega (arith, c.if-at-len.true, c.len.ensures)) c.index_mut.ensures.value c.index.ensures (sym c.is_unseen.ensures ∙ c.if-is_unseen.true)
    ∙ ap (λ xs. fixed xs c.args.number c.args.ty) c.self.view_is in
    elim c.match-index_mut.branch [ in-Fixed+in-Some+in-Tuple-1 w ↦ w.self-is ∙ is | in-Fixed+in-Some+in-Scalar-1 w ↦ w.self-is ∙ is | in-Fixed+in-None-1 w ↦ w.self-is ∙ is | in-Unseen-1 w ↦ w.self-is ∙ is ]

-- src/locals.rt:94:5
pub returns-else-is_unseen : goal.returns-else-is_unseen
returns-else-is_unseen c =
    stays_fixed c.args.self.now c.args.number c.args.ty c.index.result.now
    (omega (arith, c.if-at-len.true, c.len.ensures, ap length c.self.view_is))
    (c.index.ensures ∙ ap (λ xs. get_or xs c.args.number c.index.result.now) c.self.view_is)
    (sym c.is_unseen.ensures ∙ c.if-is_unseen.false)
