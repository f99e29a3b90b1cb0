use Rattle.std.proofs.Common.{◌≡◌, ◌∙◌, ℕ, suc, ◌+◌, ◌≤◌, [], ◌∷◌, ◌++◌, length, map, drop, arith, refl, ap}
use Rattle.std.proofs.lemmas.List.{nil_from_length, map-append}
use Rattle.std.specs.Vec.Iter.{into_iter_items}
use Rattle.arc4_types.specs.Values.{value_of}
use Rattle.std.proofs.lemmas.Result.{err_from_is_err_and}
use Rattle.arc4_types.specs.Types.{type_of}
use Rattle.arc4_types.specs.Groups.{groups, part_of, row_of}
use Rattle.arc4_types.specs.Reading.{reading, head_at, tails_at}
use Rattle.arc4_types.specs.Views.{told_of, all_told, readers}
use Rattle.arc4_types.proofs.Told.{head_more, head_fails, told_covers, row_splits, fixed_reading, tuple_reading, array_reading, array_fails, tails_more, tails_fail, tails_done}
use Rattle.arc4_types.proofs.decoding.+read.Goals as goal

pub read-returns-in_ok-count-in-Array : goal.read-returns-in_ok-count-in-Array
read-returns-in_ok-count-in-Array t c =
    rw (array_reading c.args.ty.now c.in-Array.item c.from_ref.result.now c.in_ok-count-in-Array.count c.from.result c.args.from.now c.short.new.self c.in-Array.is (cc) (cc) (cc c.in_ok-count-in-Array.ensures) (cc)) c.read_row.ensures

pub read-returns-in-Fixed : goal.read-returns-in-Fixed
read-returns-in-Fixed t c =
    rw (fixed_reading c.args.ty.now c.in-Fixed.item c.from_ref-in-Fixed.result.now c.in-Fixed.count c.args.from.now c.in-Fixed.is (cc)) c.read_row-in-Fixed.ensures

pub read-returns-in-Tuple : goal.read-returns-in-Tuple
read-returns-in-Tuple t c =
    rw (tuple_reading c.args.ty.now c.in-Tuple.types c.as_slice.result.now c.len.result c.args.from.now c.in-Tuple.is (cc) (cc)) c.read_row-in-Tuple.ensures

pub read_row-returns : goal.read_row-returns
read_row-returns t c =
    rw (row_splits (row_of c.args.types.now c.args.count) c.left-whole.result (all_told c.in_ok-entries.entries.items) c.args.from.now c.read_head.new.from c.in_ok-entries.ensures.told c.left-whole.ensures) c.read_tails.ensures

pub read_head-loop-i-preserved : goal.read_head-loop-i-preserved
read_head-loop-i-preserved t c =
    let k = told_covers (row_of c.args.types.now c.args.count) c.loop-i.i c.bools_from.result c.max-covers.result c.type_at.result.now c.type_at.ensures c.bools_from.ensures.value c.max-covers.ensures in (
      omega (arith, c.bools_from.ensures.within, c.max-covers.ensures),
      omega (arith, k, c.in_ok-read_part.ensures.count, c.loop-i.invariant.1),
      head_more (row_of c.args.types.now c.args.count) c.loop-i.i c.bools_from.result (c.loop-i.i + c.max-covers.result) c.max-covers.result c.type_at.result.now (all_told c.loop-i.entries.items) (all_told c.read_part.new.entries.items) c.loop-i.from c.read_part.new.from
          (head_at (groups 0 (map (part_of reading) (row_of c.args.types.now c.args.count))) c.args.from.now)
          c.type_at.ensures c.bools_from.ensures.value c.max-covers.ensures refl c.in_ok-read_part.ensures.told c.loop-i.invariant.2,
    )

pub read_tails-returns : goal.read_tails-returns
read_tails-returns t c =
    let n : length (into_iter_items c.loop-entry.entry-iterator) ≡ 0 = omega (arith, c.in-None.ensures.steps.0, c.loop-entry.invariant.1) in
    let e : all_told (into_iter_items c.loop-entry.entry-iterator) ≡ [] = ap all_told (nil_from_length (into_iter_items c.loop-entry.entry-iterator) n) in
    tails_done (drop c.loop-entry.i (readers (row_of c.args.types.now c.args.count))) c.args.whole c.loop-entry.values (all_told (into_iter_items c.loop-entry.entry-iterator)) c.loop-entry.from
    (tails_at c.args.whole (readers (row_of c.args.types.now c.args.count)) (all_told c.args.entries.items) c.args.from.now) e c.loop-entry.invariant.2

pub read_tails-loop-entry-preserved : goal.read_tails-loop-entry-preserved
read_tails-loop-entry-preserved t c =
    let s = c.in-Some.ensures.steps in
    let n : length (into_iter_items c.loop-entry.entry-iterator) ≡ suc (length (into_iter_items c.next.new.self)) = ap length s.0 in
    let m : map value_of c.push.new.self ≡ map value_of c.loop-entry.values ++ value_of c.in_ok-value.value ∷ [] = ap (map value_of) c.in_ok-push.ensures.ok ∙ map-append value_of c.loop-entry.values (c.in_ok-value.value ∷ []) in (
      omega (arith, n, c.loop-entry.invariant.0),
      omega (arith, n, s.1, c.loop-entry.invariant.1),
      tails_more (row_of c.args.types.now c.args.count) c.loop-entry.i c.args.whole c.type_at.result.now (told_of c.in-Some.entry) (map value_of c.loop-entry.values) (map value_of c.push.new.self) (value_of c.in_ok-value.value)
          (all_told (into_iter_items c.loop-entry.entry-iterator)) (all_told (into_iter_items c.next.new.self)) c.loop-entry.from c.read_tail.new.from
          (tails_at c.args.whole (readers (row_of c.args.types.now c.args.count)) (all_told c.args.entries.items) c.args.from.now)
          c.type_at.ensures (ap all_told s.0) m c.in_ok-value.ensures c.loop-entry.invariant.2,
    )

pub read_tails-returns-in_err-value : goal.read_tails-returns-in_err-value
read_tails-returns-in_err-value t c =
    let p = err_from_is_err_and c.from_residual.result c.from_residual.ensures.1 in
    let s = c.in-Some.ensures.steps in
    rw (p.1, p.2) (tails_fail (row_of c.args.types.now c.args.count) c.loop-entry.i c.args.whole c.type_at.result.now c.in_err-value.field-0.0 (told_of c.in-Some.entry) (map value_of c.loop-entry.values)
    (all_told (into_iter_items c.loop-entry.entry-iterator)) (all_told (into_iter_items c.next.new.self)) c.loop-entry.from
    (tails_at c.args.whole (readers (row_of c.args.types.now c.args.count)) (all_told c.args.entries.items) c.args.from.now)
    c.type_at.ensures (ap all_told s.0) c.in_err-value.ensures c.loop-entry.invariant.2)

pub read_head-returns-in_err-read_part-clause-told : goal.read_head-returns-in_err-read_part-clause-told
read_head-returns-in_err-read_part-clause-told t c =
    let p = err_from_is_err_and c.from_residual.result c.from_residual.ensures.1 in
    rw (p.1, p.2) (head_fails (row_of c.args.types.now c.args.count) c.loop-i.i c.bools_from.result c.max-covers.result c.type_at.result.now c.in_err-read_part.field-0.0 (all_told c.loop-i.entries.items) c.loop-i.from
    (head_at (groups 0 (map (part_of reading) (row_of c.args.types.now c.args.count))) c.args.from.now)
    c.type_at.ensures c.bools_from.ensures.value c.max-covers.ensures c.in_err-read_part.ensures.told c.loop-i.invariant.2)
