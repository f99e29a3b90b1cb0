use Rattle.std.proofs.Common.{◌≡◌, ◌++◌, cond, ltb, Some, None, List, [], ◌∷◌, length, map, arith, sym}
use Rattle.std.specs.Int.{w16, to_be_bytes}
use Rattle.arc4_types.specs.Types.{type_of}
use Rattle.arc4_types.specs.Values.{value_of}
use Rattle.arc4_types.specs.Groups.{part_of, row_of}
use Rattle.arc4_types.specs.Encoding.{coding, row_coding, tuple_coding, array_coding}
use Rattle.arc4_types.proofs.Coding.{along, fixed_row, tuple_row, array_row, tuple_parts, array_some_at, array_none, row_none}
use Rattle.arc4_types.proofs.encoding.+code.Goals as goal

pub coded-returns-in-Fixed : goal.coded-returns-in-Fixed
coded-returns-in-Fixed t c =
    along c.coded_tuple.result (tuple_coding (map (part_of coding) (row_of c.from_ref-in-Fixed.result.now c.in-Fixed.count)) (value_of c.args.value.now)) (coding (type_of c.args.ty.now) (value_of c.args.value.now))
    (fixed_row c.args.ty.now c.in-Fixed.item c.from_ref-in-Fixed.result.now c.in-Fixed.count (value_of c.args.value.now) c.in-Fixed.is (cc))
    c.coded_tuple.ensures

pub coded-returns-in-Tuple : goal.coded-returns-in-Tuple
coded-returns-in-Tuple t c =
    along c.coded_tuple-in-Tuple.result (tuple_coding (map (part_of coding) (row_of c.as_slice.result.now c.len.result)) (value_of c.args.value.now)) (coding (type_of c.args.ty.now) (value_of c.args.value.now))
    (tuple_row c.args.ty.now c.in-Tuple.types c.as_slice.result.now c.len.result (value_of c.args.value.now) c.in-Tuple.is (cc) (cc))
    c.coded_tuple-in-Tuple.ensures

pub coded_row-returns-then-values-count : goal.coded_row-returns-then-values-count
coded_row-returns-then-values-count t c = row_none (row_of c.args.types.now c.args.count) c.args.values.now c.args.count c.requires c.if-values-count.true

pub coded_tuple-returns-in-Parts : goal.coded_tuple-returns-in-Parts
coded_tuple-returns-in-Parts t c =
    along c.coded_row.result (row_coding (map (part_of coding) (row_of c.args.types.now c.args.count)) (map value_of c.as_slice.result.now)) (tuple_coding (map (part_of coding) (row_of c.args.types.now c.args.count)) (value_of c.args.value.now))
    (let e : c.args.value.now ≡ c.args.value.now = cc in
    let q = tuple_parts (map (part_of coding) (row_of c.args.types.now c.args.count)) c.args.value.now c.as_slice.result.now (cc) in q)
    c.coded_row.ensures

pub coded_array-returns-in-Some : goal.coded_array-returns-in-Some
coded_array-returns-in-Some t c one e =
    along c.counted.result (cond (ltb c.len-in-Some.result 65536) (Some (to_be_bytes w16 c.len-in-Some.result ++ c.as_slice-in-Some.result.now)) None) (array_coding (part_of coding one) (value_of c.args.value.now))
    (array_some_at one c.args.types.now c.args.value.now c.as_slice.result.now c.in-Some.bytes c.as_slice-in-Some.result.now c.len-in-Some.result c.len.result (cc) e (cc) (cc) (cc) (cc (c.in_ok-bytes.ensures, c.in-Some.is)))
    c.counted.ensures

pub coded_array-returns-in-None : goal.coded_array-returns-in-None
coded_array-returns-in-None t c one e =
    array_none one c.args.types.now c.args.value.now c.as_slice.result.now c.len.result (cc) e (cc) (cc (c.in_ok-bytes.ensures, c.in-None.is))

pub coded-returns-else-is_byte : goal.coded-returns-else-is_byte
coded-returns-else-is_byte t c =
    along c.coded_array.result (array_coding (part_of coding c.in-Array.item) (value_of c.args.value.now)) (coding (type_of c.args.ty.now) (value_of c.args.value.now))
    (array_row c.args.ty.now c.in-Array.item (value_of c.args.value.now) c.in-Array.is (cc))
    (c.coded_array.ensures c.in-Array.item (cc))
