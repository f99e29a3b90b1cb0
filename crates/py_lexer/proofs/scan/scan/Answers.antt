use Rattle.std.proofs.Common.{◌≡◌, ◌-◌, length, take, drop, sym, ◌∙◌, ap, arith, length-drop}
use Rattle.std.proofs.Math.Seq.{take-length}
use Rattle.std.proofs.lemmas.Result.{err_from_is_err_and}
use Rattle.py_lexer.specs.Layout.{at_first}
use Rattle.py_lexer.specs.Scan.{scanned, first_spot}
use Rattle.py_lexer.proofs.ScanLaws.{rest_gives, turn_stops, turn_on, taken_len}
use Rattle.py_lexer.proofs.scan.scan.Goals as goal

pub loop-spot-init : goal.loop-spot-init
unfolding scanned
loop-spot-init c =
    let e : c.in_ok-layout.layout ≡ at_first = cc (c.in_ok-layout.ensures) in
    record {
      same = ap (λ q. rest_gives (first_spot c.args.begin) q (drop c.args.begin c.args.source.now)) e;
      within = c.requires.begin;
      line = omega arith;
      column = omega arith;
    }

pub returns-in_err-take : goal.returns-in_err-take
returns-in_err-take c =
    let source = c.args.source.now in
    let at = c.loop-spot.spot.at in
    let z = take (length source - at) (drop at source) in
    let whole : z ≡ drop at source = ap (λ q. take q (drop at source)) (sym (length-drop at source)) ∙ take-length (drop at source) in
    let p = c.piece_at-piece.result in
    let same = ap (λ q. rest_gives c.loop-spot.spot c.loop-spot.layout q) whole ∙ c.loop-spot.invariant.same in
    let e = err_from_is_err_and c.from_residual-in_err-take.result c.from_residual-in_err-take.ensures.1 in
    rw (e.1, e.2) (turn_stops c.loop-spot.spot c.loop-spot.layout c.take.new.self z p c.spaces_len.result c.in_err-take.field-0.0 (scanned c.args.begin source) (omega (arith, length-drop at source, ap length whole)) c.piece_at-piece.ensures.value
    c.piece_at-piece.ensures.within.0 c.spaces_len.ensures.value c.in_err-take.ensures same)

pub loop-spot-preserved : goal.loop-spot-preserved
loop-spot-preserved c =
    let source = c.args.source.now in
    let at = c.loop-spot.spot.at in
    let z = take (length source - at) (drop at source) in
    let whole : z ≡ drop at source = ap (λ q. take q (drop at source)) (sym (length-drop at source)) ∙ take-length (drop at source) in
    let p = c.piece_at-piece.result in
    let within = c.piece_at-piece.ensures.within in
    let same = ap (λ q. rest_gives c.loop-spot.spot c.loop-spot.layout q) whole ∙ c.loop-spot.invariant.same in
    let short = taken_len p.len z within.1 in
    record {
      same = turn_on source at c.loop-spot.spot.place c.place_after.result c.loop-spot.layout c.take.new.self z p c.spaces_len.result (scanned c.args.begin source) whole (omega (arith, length-drop at source, ap length whole)) c.piece_at-piece.ensures.value within.0 within.1
          c.spaces_len.ensures.value c.place_after.ensures.value c.in_ok-take.ensures same;
      within = omega (arith, within.1, length-drop at source, ap length whole);
      line = omega (arith, short, c.place_after.ensures.line_bound);
      column = omega (arith, short, c.place_after.ensures.column_bound);
    }
