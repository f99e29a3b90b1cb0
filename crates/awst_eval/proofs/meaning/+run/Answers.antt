use Rattle.std.proofs.Common.{rules, ◌≡◌, ◌≤◌, ◌<◌, ◌+◌, ◌-◌, ◌^◌, ◌++◌, ℕ, suc, arith, refl, sym, ap, subst, ◌∙◌, List, map, length, drop, replicate}
use Rattle.std.specs.Prelude.{slice_set}
use Rattle.std.proofs.lemmas.List.{take_all, length-drop}
use Rattle.runs.specs.Steps.{bind, give, tick, pay}
use Rattle.awst.specs.Values.{Val, number, string, nothing}
use Rattle.awst.specs.Table.{own_range, own_each}
use Rattle.awst.specs.Functions.{function_of, body_of}
use Rattle.awst.specs.Meaning.{Env, value_of, optional_value, number_in, items_of, all_do, turns, turn_while, turn_of_range, turn_of_items, returned, need_at, called}
use Rattle.awst.specs.Plain.{tree_of, optional_tree, all_plain, statement_of}
use Rattle.awst_eval.specs.Shown.{meant, all_meant}
use Rattle.awst_eval.specs.Ended.{Ends}
use Rattle.awst_eval.specs.Worlds.{world_of}
use Rattle.awst_eval.specs.Flows.{flow_of}
use Rattle.awst_eval.specs.Frames.{program_at, setting_at, setting_of, variables_of, inner_of}
use Rattle.awst_eval.proofs.Turning.{while_on, range_on, range_capped, first_byte}
use Rattle.awst_eval.proofs.Parts.{meant-Number}
use Rattle.awst_eval.proofs.Flowing.{turned_again}
use Rattle.awst_eval.proofs.Stopping.{behind, paid_first, by_two}
use Rattle.awst_eval.proofs.Depths.{called_lower}
use Rattle.awst_eval.proofs.Functions.{found, missing, used_for}
use Rattle.awst_eval.proofs.Opening.{opened_gives, opened_stops}
use Rattle.awst_eval.proofs.meaning.+run.Goals as goal

pub loops::while_turns-loop-condition-preserved : goal.loops::while_turns-loop-condition-preserved
unfolding Ends
loops::while_turns-loop-condition-preserved t c =
    let f = λ (variables : Env). value_of (setting_of c.args.frame.now) c.args.line variables (tree_of c.args.c.now) in
    let body = all_do (setting_of c.args.frame.now) c.args.frame.now.clock (all_plain (variables_of c.args.frame.now) c.args.inner (map statement_of c.args.body.now)) in
    let more : c.loop-condition.left ≡ suc (c.loop-condition.left - 1) = omega arith in
    c.loop-condition.invariant
    ∙ while_on c.loop-condition.left c.args.price f body (all_meant c.loop-condition.env) (meant c.in_ok-condition.condition) (flow_of (all_meant c.turn.new.env) c.in_ok-flow.flow) (world_of c.loop-condition.world) (world_of c.value.new.world) (world_of c.turn.new.world) c.in_ok-condition.ensures (cc) c.in_ok-flow.ensures
    ∙ turned_again (turns c.loop-condition.left c.args.price (turn_while f) body tt) c.in_ok-flow.flow (all_meant c.turn.new.env) (world_of c.turn.new.world) (cc)
    ∙ ap (λ n. turns n c.args.price (turn_while f) body tt (all_meant c.turn.new.env) (world_of c.turn.new.world)) more

pub loops::range_turns-loop-item-preserved : goal.loops::range_turns-loop-item-preserved
unfolding Ends
loops::range_turns-loop-item-preserved t c =
    let body = all_do (setting_of c.args.frame.now) c.args.frame.now.clock (all_plain (variables_of c.args.frame.now) c.args.inner (map statement_of c.args.body.now)) in
    let test = turn_of_range c.args.items.now.x c.args.items.now.step c.args.stop in
    let more : c.loop-item.left ≡ suc (c.loop-item.left - 1) = omega arith in
    let below : c.loop-item.item < c.args.stop = omega arith in
    let fits : c.args.stop ≤ 2 ^ 64 - 1 = omega arith in
    c.loop-item.invariant
    ∙ range_on c.loop-item.left c.args.price c.args.items.now.x c.args.items.now.step c.args.stop c.loop-item.item body (all_meant c.loop-item.env) (flow_of (all_meant c.turn.new.env) c.in_ok-flow.flow) (world_of c.loop-item.world) (world_of c.turn.new.world) below
    (ap (λ (e : Env). tick (pay c.args.price (body e)) (world_of c.loop-item.world)) (sym (c.put.ensures ∙ ap (λ v. slice_set (all_meant c.loop-item.env) c.args.items.now.x v) (meant-Number c.loop-item.item))) ∙ c.in_ok-flow.ensures)
    ∙ turned_again (turns c.loop-item.left c.args.price test body (c.loop-item.item + c.args.items.now.step)) c.in_ok-flow.flow (all_meant c.turn.new.env) (world_of c.turn.new.world) (cc)
    ∙ sym (range_capped c.loop-item.left c.args.price c.args.items.now.x c.args.items.now.step c.args.stop (c.loop-item.item + c.args.items.now.step) body (all_meant c.turn.new.env) (world_of c.turn.new.world) fits)
    ∙ ap (λ n. turns c.loop-item.left c.args.price test body n (all_meant c.turn.new.env) (world_of c.turn.new.world)) (sym c.saturating_add-item.ensures)
    ∙ ap (λ n. turns n c.args.price test body c.saturating_add-item.result (all_meant c.turn.new.env) (world_of c.turn.new.world)) more

pub loops::byte_turns-loop-items-preserved : goal.loops::byte_turns-loop-items-preserved
unfolding Ends
loops::byte_turns-loop-items-preserved t c =
    let body = all_do (setting_of c.args.frame.now) c.args.frame.now.clock (all_plain (variables_of c.args.frame.now) c.args.inner (map statement_of c.args.body.now)) in
    let more : c.loop-items.left ≡ suc (c.loop-items.left - 1) = omega arith in
    let rest = drop 1 c.loop-items.items.now in
    let shorter : length rest ≤ length c.loop-items.items.now - 1 = simp length-drop (omega arith) in
    c.loop-items.invariant
    ∙ first_byte c.loop-items.left c.args.price c.args.x _ c.loop-items.items.now body (all_meant c.loop-items.env) (flow_of (all_meant c.turn.new.env) c.in_ok-flow.flow) (world_of c.loop-items.world) (world_of c.turn.new.world) refl c.in-len1-up.len_at_least
    (ap (λ (e : Env). tick (pay c.args.price (body e)) (world_of c.loop-items.world)) (sym (c.put.ensures ∙ ap (λ v. slice_set (all_meant c.loop-items.env) c.args.x v) c.in_ok-byte.ensures)) ∙ c.in_ok-flow.ensures)
    ∙ turned_again (turns c.loop-items.left c.args.price (turn_of_items c.args.x) body (items_of (string rest))) c.in_ok-flow.flow (all_meant c.turn.new.env) (world_of c.turn.new.world) (cc)
    ∙ ap (λ n. turns n c.args.price (turn_of_items c.args.x) body (items_of (string rest)) (all_meant c.turn.new.env) (world_of c.turn.new.world)) more
    ∙ ap (λ (bytes : List ℕ). turns (suc (c.loop-items.left - 1)) c.args.price (turn_of_items c.args.x) body (items_of (string bytes)) (all_meant c.turn.new.env) (world_of c.turn.new.world)) (sym (take_all (length c.loop-items.items.now - 1) rest shorter))

pub calls::numbered-open_function-requires : goal.calls::numbered-open_function-requires
calls::numbered-open_function-requires t c = omega (arith, called_lower c.args.clock c.args.f c.args.contract.now.funcs c.in-Some.func.now (sym c.in-Some.ensures.value))

pub calls::numbered-returns-in-None : goal.calls::numbered-returns-in-None
calls::numbered-returns-in-None t c =
    missing meant c.args.contract.now c.args.call.now (called (program_at c.args.contract.now c.args.call.now) c.args.clock) c.args.clock c.args.f (all_meant c.args.args) (world_of c.args.world.now) (sym c.in-None.ensures.value)

pub calls::numbered-returns-in-Some : goal.calls::numbered-returns-in-Some
calls::numbered-returns-in-Some t c =
    found meant c.open_function.result c.args.contract.now c.args.call.now (called (program_at c.args.contract.now c.args.call.now) c.args.clock) c.args.clock c.args.f c.in-Some.func.now (all_meant c.args.args) (world_of c.args.world.now) (world_of c.open_function.new.world) (sym c.in-Some.ensures.value) c.open_function.ensures

pub calls::called-returns : goal.calls::called-returns
calls::called-returns t c =
    used_for meant c.numbered.result (program_at c.args.contract.now c.args.call.now) c.args.clock c.args.f (all_meant c.args.args) (world_of c.args.world.now) (world_of c.tick-is_begun.new.self) (world_of c.numbered.new.world) c.if-clock-eq0.false c.if-not-is_begun.ensures c.numbered.ensures

pub calls::open_function-returns : goal.calls::open_function-returns
unfolding Ends program_at setting_at
calls::open_function-returns t c =
    opened_gives (need_at (program_at c.args.frame.now.contract.now c.args.frame.now.call.now)) (suc c.args.f) c.opened_as.result (pay (function_of c.args.frame.now.func.now).price (bind (all_do (setting_of c.args.frame.now) c.args.frame.now.clock (body_of c.args.frame.now.func.now) (all_meant c.args.args ++ replicate (length c.args.frame.now.func.now.locals) nothing)) (λ flow. give (returned flow)))) (meant c.in_ok-v.v) c.in_ok-before.before (world_of c.args.world.now) (world_of c.open.new.world) (world_of c.function_value.new.world) (world_of c.close.new.self)
    c.opened_as.ensures c.in_ok-before.ensures.now c.in_ok-before.ensures.before c.in_ok-v.ensures c.close.ensures

pub calls::open_function-returns-in_err-v : goal.calls::open_function-returns-in_err-v
unfolding program_at setting_at
calls::open_function-returns-in_err-v t c =
    opened_stops meant meant c.in_err-v.field-0.0 c.from_residual-in_err-v.result (need_at (program_at c.args.frame.now.contract.now c.args.frame.now.call.now)) (suc c.args.f) c.opened_as.result (pay (function_of c.args.frame.now.func.now).price (bind (all_do (setting_of c.args.frame.now) c.args.frame.now.clock (body_of c.args.frame.now.func.now) (all_meant c.args.args ++ replicate (length c.args.frame.now.func.now.locals) nothing)) (λ flow. give (returned flow)))) (world_of c.args.world.now) (world_of c.open.new.world) (world_of c.function_value.new.world)
    c.opened_as.ensures c.in_ok-before.ensures.now c.in_err-v.ensures (search rules)

pub loops::each_item-returns : goal.loops::each_item-returns
loops::each_item-returns t c =
    let next = λ (inner price : ℕ) (v : Val). turns (suc c.args.frame.now.clock) price (turn_of_items c.args.x) (all_do (setting_of c.args.frame.now) c.args.frame.now.clock (all_plain (variables_of c.args.frame.now) inner (map statement_of c.args.body.now))) (items_of v) (all_meant c.args.env.now) in
    let known = flow_of (all_meant c.item_turns.new.env) in
    behind meant known c.in_ok-items.items c.item_turns.result (value_of (setting_of c.args.frame.now) c.args.line (all_meant c.args.env.now) (tree_of c.args.e.now) (world_of c.args.world.now)) (next c.args.inner (own_each c.args.inner).price) (world_of c.value.new.world) (world_of c.item_turns.new.world) c.in_ok-items.ensures
    (by_two known c.item_turns.result (λ (inner price : ℕ). next inner price (meant c.in_ok-items.items)) c.args.inner c.args.inner c.in_ok-price.price (own_each c.args.inner).price (world_of c.value.new.world) (world_of c.item_turns.new.world)
    refl c.in_ok-price.ensures c.item_turns.ensures)

pub loops::each_done-returns : goal.loops::each_done-returns
loops::each_done-returns t c =
    let known = flow_of (all_meant c.each_item.new.env) in
    let run = λ (inner : ℕ). bind (value_of (setting_of c.args.frame.now) c.args.s.now.place.line (all_meant c.args.env.now) (tree_of c.args.e.now)) (λ v. turns (suc c.args.frame.now.clock) (own_each inner).price (turn_of_items c.args.x) (all_do (setting_of c.args.frame.now) c.args.frame.now.clock (all_plain (variables_of c.args.frame.now) inner (map statement_of c.args.body.now))) (items_of v) (all_meant c.args.env.now)) in
    by_two known c.each_item.result (λ (inner price : ℕ). pay price (run inner)) c.in_ok-inner.inner (inner_of c.args.frame.now c.args.s.now) (own_each c.in_ok-inner.inner).price (own_each (inner_of c.args.frame.now c.args.s.now)).price (world_of c.args.world.now) (world_of c.each_item.new.world)
    c.in_ok-inner.ensures (ap (λ (k : ℕ). (own_each k).price) c.in_ok-inner.ensures)
    (paid_first known c.each_item.result (run c.in_ok-inner.inner) (own_each c.in_ok-inner.inner).price (own_each c.in_ok-inner.inner).price (world_of c.args.world.now) (world_of c.pay_head.new.world) (world_of c.each_item.new.world)
    refl c.in_ok-pay_head.ensures (search rules))

pub loops::range_done-returns : goal.loops::range_done-returns
loops::range_done-returns t c =
    let known = flow_of (all_meant c.range_turns.new.env) in
    let last = λ (inner price from to : ℕ). turns (suc c.args.frame.now.clock) price (turn_of_range c.args.x c.args.step to) (all_do (setting_of c.args.frame.now) c.args.frame.now.clock (all_plain (variables_of c.args.frame.now) inner (map statement_of c.args.body.now))) from (all_meant c.args.env.now) in
    let start = λ (v : Val). optional_value (setting_of c.args.frame.now) c.args.s.now.place.line (all_meant c.args.env.now) v (optional_tree c.args.start.now) in
    let counted = λ (v : Val). bind (value_of (setting_of c.args.frame.now) c.args.s.now.place.line (all_meant c.args.env.now) (tree_of c.args.stop.now)) (λ u. last (inner_of c.args.frame.now c.args.s.now) (own_range (inner_of c.args.frame.now c.args.s.now)).price (number_in v) (number_in u)) in
    let price = c.in_ok-price.ensures ∙ ap (λ (k : ℕ). (own_range k).price) c.in_ok-inner.ensures in
    let from = number_in (meant c.in_ok-first.first) in
    let to = number_in (meant c.in_ok-last.last) in
    paid_first known c.range_turns.result (bind (start (number 0)) counted) (own_range (inner_of c.args.frame.now c.args.s.now)).price c.in_ok-price.price (world_of c.args.world.now) (world_of c.pay.new.self) (world_of c.range_turns.new.world) price c.in_ok-pay.ensures
    (subst (λ (v : Val). Ends known c.range_turns.result (bind (start v) counted (world_of c.pay.new.self)) (world_of c.range_turns.new.world)) c.zero.ensures
    (behind meant known c.in_ok-first.first c.range_turns.result (start (meant c.zero.result) (world_of c.pay.new.self)) counted (world_of c.optional_value.new.world) (world_of c.range_turns.new.world) c.in_ok-first.ensures
    (behind meant known c.in_ok-last.last c.range_turns.result (value_of (setting_of c.args.frame.now) c.args.s.now.place.line (all_meant c.args.env.now) (tree_of c.args.stop.now) (world_of c.optional_value.new.world)) (λ u. last (inner_of c.args.frame.now c.args.s.now) (own_range (inner_of c.args.frame.now c.args.s.now)).price from (number_in u)) (world_of c.value.new.world) (world_of c.range_turns.new.world) c.in_ok-last.ensures
    (by_two known c.range_turns.result (λ (inner price : ℕ). last inner price from to) c.in_ok-inner.inner (inner_of c.args.frame.now c.args.s.now) c.in_ok-price.price (own_range (inner_of c.args.frame.now c.args.s.now)).price (world_of c.value.new.world) (world_of c.range_turns.new.world) c.in_ok-inner.ensures price
    (by_two known c.range_turns.result (λ (i j : ℕ). last c.in_ok-inner.inner c.in_ok-price.price i j) c.number_of-from.result from c.number_of-to.result to (world_of c.value.new.world) (world_of c.range_turns.new.world) c.number_of-from.ensures c.number_of-to.ensures (search rules))))))
