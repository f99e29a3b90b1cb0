use Rattle.std.proofs.Common.{rules, ◌≡◌, ◌++◌, map, ap, ◌∙◌, subst, arith, IfOk, OnOk, ℕ, ◌≤◌, ◌<◌, length, List, false, ◌+◌, append_assoc}
use Rattle.std.specs.Prelude.{option_map}
use Rattle.puya_base.specs.declared.source.Place.{Place}
use Rattle.path_rules.specs.declared.note.Note.{Note}
use Rattle.source_names.specs.Source as source
use Rattle.call_rules.specs.Callees as callees
use Rattle.meaning_rules.specs.declared.meaning.Context.{Context}
use Rattle.meaning_rules.specs.declared.meaning.Meaning.{Meaning}
use Rattle.meaning_rules.specs.Meanings as meanings
use Rattle.meaning_rules.specs.Operations as operations
use Rattle.expression_check.specs.Bindings.{end_in_context}
use Rattle.expression_check.specs.Expressions as spec
use Rattle.expression_check.specs.Gathered.{Gathers}
use Rattle.expression_check.specs.Sights.{seen_by, when_known}
use Rattle.expression_check.proofs.Shapes.{begins_at, end_is, place_listed, several}
use Rattle.expression_check.proofs.Depths.{arg_depth, args_depth}
use Rattle.expression_check.proofs.Told.{call_says, deep_behind, index_told, member_says, member_told, slice_told}
use Rattle.expression_check.proofs.Walks.{all_gathered, all_parts_told, next_argument_known, next_argument_told}
use Rattle.expression_check.proofs.judging.+judge.Goals as goal

pub judge_arguments-loop-arg-preserved : goal.judge_arguments-loop-arg-preserved
judge_arguments-loop-arg-preserved t c =
    let s = seen_by c.args.view.now in
    let callee = callees.meant c.args.view.now.sight.now.functions c.args.callee in
    let low : c.loop-arg.arg-index < length c.args.args.now = omega (arith, c.loop-arg-test.true, c.loop-arg.auto.arg-index-end) in
    record {
      count = ap (λ (k : ℕ). k + 1) c.loop-arg.invariant.count;
      deep = deep_behind arg_depth c.args.args.now c.loop-arg.arg-index (args_depth c.args.args.now) c.arg-item.result low c.loop-arg.invariant.deep;
      told = next_argument_told s callee c.args.args.now c.loop-arg.i c.loop-arg.arg-index c.loop-arg.bound.used c.arg-item.result low c.arg-item.is
          c.in_ok-bound.bound.used c.loop-arg.into c.judge_argument.new.into _ c.in_ok-bound.ensures.used c.in_ok-bound.ensures.told c.loop-arg.invariant.told;
      known = next_argument_known s callee c.args.args.now c.loop-arg.i c.loop-arg.arg-index c.loop-arg.bound.used c.arg-item.result low c.arg-item.is
          c.in_ok-bound.bound.used c.loop-arg.bound.complete c.in_ok-bound.bound.complete c.loop-arg.bound.known.items c.in_ok-bound.bound.known.items _
          c.in_ok-bound.ensures.used c.in_ok-bound.ensures.complete c.in_ok-bound.ensures.known c.loop-arg.invariant.known;
    }

pub judge_call-returns-clause-meaning : goal.judge_call-returns-clause-meaning
judge_call-returns-clause-meaning t c =
    subst (λ (m : Meaning). IfOk c.applied_when.result (λ n. n ≡ m))
    (call_says (seen_by c.args.view.now) c.args.place (source.tree_of c.args.of.now) (source.args_of (map source.arg_of c.args.args.now)) c.in_ok-meaning.meaning
    (callees.meant c.args.view.now.sight.now.functions c.called-callee.result) (when_known c.in_ok-bound.bound.complete c.in_ok-bound.bound.known.items)
    (c.in_ok-meaning.ensures.meaning ∙ ap (λ (k : Context). (spec.judge (seen_by c.args.view.now) k (source.tree_of c.args.of.now)).meaning) c.freely.ensures) (c.called-callee.ensures c.args.view.now.sight.now.functions) c.in_ok-bound.ensures.known)
    c.applied_when.ensures.meaning

pub judge_index-returns-clause-told : goal.judge_index-returns-clause-told
judge_index-returns-clause-told t c =
    let s = seen_by c.args.view.now in
    let e = source.tree_of c.args.of.now in
    let b = meanings.operand_of (source.place_of e) (spec.judge s meanings.freely e) in
    let xs = map source.tree_of c.args.items.now in
    let at = c.listed_place-at.result in
    let i = source.listed c.args.place xs c.args.comma in
    let j = spec.judge s (meanings.context false (operations.index_hope b.operand)) i in
    let operand : c.in_ok-operand.operand ≡ b.operand = c.in_ok-operand.ensures.operand ∙ ap (λ (k : Context). (meanings.operand_of (source.place_of e) (spec.judge s k e)).operand) c.freely.ensures in
    let told_first : c.judge_operand.new.into ≡ c.args.into.now ++ b.notes = c.in_ok-operand.ensures.told ∙ ap (λ (k : Context). c.args.into.now ++ (meanings.operand_of (source.place_of e) (spec.judge s k e)).notes) c.freely.ensures in
    let here : at ≡ source.first_place c.args.place xs = c.listed_place-at.ensures in
    let told : c.judge_listed.new.into ≡ c.settled.new.into ++ j.notes = search rules in
    let says : c.in_ok-meaning.meaning ≡ j.meaning = search rules in
    subst (λ (ns : List Note). OnOk c.index_when.result (c.index_when.new.into ≡ ns))
    (index_told c.args.place at b j c.args.into.now c.judge_operand.new.into c.settled.new.into c.judge_listed.new.into c.as_operand.new.into c.in_ok-operand.operand c.in_ok-base.base c.in_ok-meaning.meaning c.in_ok-index.index
    operand c.in_ok-base.ensures.typed says c.in_ok-index.ensures.operand
    told_first c.in_ok-base.ensures.told told c.in_ok-index.ensures.told
    ∙ ap (λ (q : Place). c.args.into.now ++ (operations.judge_index c.args.place q b j).notes) (here ∙ place_listed c.args.place xs c.args.comma))
    c.index_when.ensures.told

pub judge_index-returns-clause-meaning : goal.judge_index-returns-clause-meaning
judge_index-returns-clause-meaning t c =
    let s = seen_by c.args.view.now in
    let e = source.tree_of c.args.of.now in
    let b = meanings.operand_of (source.place_of e) (spec.judge s meanings.freely e) in
    let xs = map source.tree_of c.args.items.now in
    let i = source.listed c.args.place xs c.args.comma in
    let j = spec.judge s (meanings.context false (operations.index_hope b.operand)) i in
    let ok : IfOk c.index_when.result (λ m. m ≡ (operations.judge_index c.args.place (source.first_place c.args.place xs) b j).meaning) = search rules in
    subst (λ (q : Place). IfOk c.index_when.result (λ m. m ≡ (operations.judge_index c.args.place q b j).meaning)) (place_listed c.args.place xs c.args.comma) ok

pub judge_paren-returns-clause-meaning : goal.judge_paren-returns-clause-meaning
judge_paren-returns-clause-meaning t c =
    c.at_meaning.ensures ∙ ap (spec.at_meaning c.args.place) c.in_ok-meaning.ensures.meaning
    ∙ begins_at (seen_by c.args.view.now) c.args.context.now c.args.place (map source.tree_of c.args.items.now) c.args.comma

pub judge_slice-returns-clause-told : goal.judge_slice-returns-clause-told
judge_slice-returns-clause-told t c =
    let s = seen_by c.args.view.now in
    let e = source.tree_of c.args.of.now in
    let o = meanings.operand_of (source.place_of e) (spec.judge s meanings.freely e) in
    let b = operations.based o in
    let h = operations.index_hope o.operand in
    let a = source.maybe_of (option_map source.tree_of c.args.start.now) in
    let z = source.maybe_of (option_map source.tree_of c.args.stop.now) in
    let operand : c.in_ok-operand.operand ≡ o.operand = c.in_ok-operand.ensures.operand ∙ ap (λ (k : Context). (meanings.operand_of (source.place_of e) (spec.judge s k e)).operand) c.freely.ensures in
    let told_first : c.judge_operand.new.into ≡ c.args.into.now ++ o.notes = c.in_ok-operand.ensures.told ∙ ap (λ (k : Context). c.args.into.now ++ (meanings.operand_of (source.place_of e) (spec.judge s k e)).notes) c.freely.ensures in
    let told_start : c.judge_end.new.into ≡ c.settled.new.into ++ (end_in_context s (operations.is_bytes b.typed) (meanings.context false h) a).notes = search rules in
    let told_stop : c.judge_end-2.new.into ≡ c.judge_end.new.into ++ (end_in_context s (operations.is_bytes b.typed) (meanings.context false h) z).notes = search rules in
    let start : c.in_ok-start.start ≡ (end_in_context s (operations.is_bytes b.typed) (meanings.context false h) a).end = search rules in
    let stop : c.in_ok-stop.stop ≡ (end_in_context s (operations.is_bytes b.typed) (meanings.context false h) z).end = search rules in
    subst (λ (ns : List Note). OnOk c.slice_when.result (c.slice_when.new.into ≡ ns))
    (slice_told c.args.place o (end_in_context s (operations.is_bytes b.typed) (meanings.context false h) a) (end_in_context s (operations.is_bytes b.typed) (meanings.context false h) z)
    c.args.into.now c.judge_operand.new.into c.settled.new.into c.judge_end.new.into c.judge_end-2.new.into c.in_ok-operand.operand c.in_ok-base.base c.in_ok-start.start c.in_ok-stop.stop
    operand c.in_ok-base.ensures.typed start stop told_first c.in_ok-base.ensures.told told_start told_stop
    ∙ ap (λ (x : operations.Ended). c.args.into.now ++ (operations.judge_slice c.args.place b x (end_in_context s (operations.is_bytes b.typed) (meanings.context false h) z)).notes) (end_is s (operations.is_bytes b.typed) h a)
    ∙ ap (λ (y : operations.Ended). c.args.into.now ++ (operations.judge_slice c.args.place b (spec.end s (operations.is_bytes b.typed) h a) y).notes) (end_is s (operations.is_bytes b.typed) h z))
    c.slice_when.ensures.told

pub judge_slice-returns-clause-meaning : goal.judge_slice-returns-clause-meaning
judge_slice-returns-clause-meaning t c =
    let s = seen_by c.args.view.now in
    let e = source.tree_of c.args.of.now in
    let o = meanings.operand_of (source.place_of e) (spec.judge s meanings.freely e) in
    let b = operations.based o in
    let h = operations.index_hope o.operand in
    let a = source.maybe_of (option_map source.tree_of c.args.start.now) in
    let z = source.maybe_of (option_map source.tree_of c.args.stop.now) in
    let ok : IfOk c.slice_when.result (λ m. m ≡ (operations.judge_slice c.args.place b (end_in_context s (operations.is_bytes b.typed) (meanings.context false h) a) (end_in_context s (operations.is_bytes b.typed) (meanings.context false h) z)).meaning) = search rules in
    subst (λ (x : operations.Ended). IfOk c.slice_when.result (λ m. m ≡ (operations.judge_slice c.args.place b x (spec.end s (operations.is_bytes b.typed) h z)).meaning)) (end_is s (operations.is_bytes b.typed) h a)
    (subst (λ (y : operations.Ended). IfOk c.slice_when.result (λ m. m ≡ (operations.judge_slice c.args.place b (end_in_context s (operations.is_bytes b.typed) (meanings.context false h) a) y).meaning)) (end_is s (operations.is_bytes b.typed) h z) ok)

pub judge_tuple-returns-clause-told : goal.judge_tuple-returns-clause-told
judge_tuple-returns-clause-told t c =
    let s = seen_by c.args.view.now in
    let whole = spec.parts s c.args.context.now 0 (source.exs_of (map source.tree_of c.args.items.now)) in
    let high : length c.args.items.now ≤ c.loop-item.item-index = omega (arith, c.loop-item-test.false, c.loop-item.auto.item-index-end) in
    let all : Gathers c.loop-item.parts whole.typed = all_gathered s c.args.context.now c.args.items.now c.loop-item.i c.loop-item.item-index c.loop-item.parts whole.typed high c.loop-item.invariant.types c.loop-item.invariant.exprs in
    let told : c.loop-item.into ≡ c.args.into.now ++ whole.notes = all_parts_told s c.args.context.now c.args.items.now c.loop-item.i c.loop-item.item-index c.loop-item.into _ high c.loop-item.invariant.told in
    let ok = subst (λ (ns : List Note). OnOk c.tuple_when.result (c.tuple_when.new.into ≡ ns ++ (operations.tuple_when c.args.place whole.typed).notes)) told (c.tuple_when.ensures.told whole.typed all) in
    subst (λ (ns : List Note). OnOk c.tuple_when.result (c.tuple_when.new.into ≡ ns)) (append_assoc c.args.into.now whole.notes (operations.tuple_when c.args.place whole.typed).notes) ok

pub judge_member-returns-clause-told : goal.judge_member-returns-clause-told
judge_member-returns-clause-told t c =
    let s = seen_by c.args.view.now in
    let e = source.tree_of c.args.of.now in
    let j = spec.judge s meanings.freely e in
    let says : c.in_ok-meaning.meaning ≡ j.meaning = c.in_ok-meaning.ensures.meaning ∙ ap (λ (k : Context). (spec.judge s k e).meaning) c.freely.ensures in
    let told : c.judge.new.into ≡ c.args.into.now ++ j.notes = c.in_ok-meaning.ensures.told ∙ ap (λ (k : Context). c.args.into.now ++ (spec.judge s k e).notes) c.freely.ensures in
    subst (λ (ns : List Note). OnOk c.member_says_of.result (c.member_says_of.new.into ≡ ns))
    (member_told s c.args.place (source.place_of e) c.place_of.result c.args.word.now j c.in_ok-meaning.meaning c.args.into.now c.judge.new.into c.place_of.ensures says told)
    (c.member_says_of.ensures.told c.args.view.now.locals.now)

pub judge_member-returns-clause-meaning : goal.judge_member-returns-clause-meaning
judge_member-returns-clause-meaning t c =
    let s = seen_by c.args.view.now in
    let e = source.tree_of c.args.of.now in
    let j = spec.judge s meanings.freely e in
    let says : c.in_ok-meaning.meaning ≡ j.meaning = c.in_ok-meaning.ensures.meaning ∙ ap (λ (k : Context). (spec.judge s k e).meaning) c.freely.ensures in
    subst (λ (m : Meaning). IfOk c.member_says_of.result (λ n. n ≡ m))
    (member_says s c.args.place (source.place_of e) c.place_of.result c.args.word.now j c.in_ok-meaning.meaning c.place_of.ensures says)
    (c.member_says_of.ensures.meaning c.args.view.now.locals.now)

pub judge_listed-returns-in-len2-up-clause-told : goal.judge_listed-returns-in-len2-up-clause-told
judge_listed-returns-in-len2-up-clause-told t c =
    let many : length c.args.items.now ≡ 1 → ⊥ = λ e. omega (arith, e, c.in-len2-up.len_at_least) in
    subst (λ (e : source.Ex). OnOk c.judge_tuple-in-len2-up.result (c.judge_tuple-in-len2-up.new.into ≡ c.args.into.now ++ (spec.judge (seen_by c.args.view.now) c.args.context.now e).notes))
    (several source.tree_of c.args.place c.args.items.now c.args.comma many) c.judge_tuple-in-len2-up.ensures.told

pub judge_listed-returns-in-len2-up-clause-meaning : goal.judge_listed-returns-in-len2-up-clause-meaning
judge_listed-returns-in-len2-up-clause-meaning t c =
    let many : length c.args.items.now ≡ 1 → ⊥ = λ e. omega (arith, e, c.in-len2-up.len_at_least) in
    subst (λ (e : source.Ex). IfOk c.judge_tuple-in-len2-up.result (λ m. m ≡ (spec.judge (seen_by c.args.view.now) c.args.context.now e).meaning))
    (several source.tree_of c.args.place c.args.items.now c.args.comma many) c.judge_tuple-in-len2-up.ensures.meaning
