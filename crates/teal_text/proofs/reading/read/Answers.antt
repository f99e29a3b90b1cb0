use Rattle.std.proofs.Common.{[], ◌+◌, length, drop, length-drop, ap, arith}
use Rattle.teal_text.specs.Reading.{lines_of}
use Rattle.teal_text.proofs.TextSteps.{read_all, read_more, read_fault, read_whole, read_unversioned, line_more, line_last, read_passed}
use Rattle.teal_text.proofs.reading.read.Goals as goal

pub loop-end-init : goal.loop-end-init
loop-end-init c = record { reads = rw (c.new.ensures, c.new-2.ensures) (read_all c.args.text.now); counted = omega arith }

pub loop-end-preserved : goal.loop-end-preserved
loop-end-preserved c =
    let e = c.in_ok-read_line.ensures in
    let b = c.text_behind-rest.ensures in
    record {
      reads =
          read_more _ c.line_at.result.now _ (lines_of c.text_behind-rest.result.now) c.loop-end.reading.number c.read_line.new.reading.number c.loop-end.reading.versioned
          c.read_line.new.reading.versioned c.loop-end.reading.names c.read_line.new.reading.names c.loop-end.reading.lines c.read_line.new.reading.lines c.loop-end.invariant.reads
          (rw (c.line_at.ensures, b) (line_more c.loop-end.rest.now c.in-Some.end c.in-Some.ensures.place))
          e.adds e.number e.versioned e.room e.lines;
      counted = omega (arith, e.number, ap length b, length-drop (c.in-Some.end + 1) c.loop-end.rest.now, c.in-Some.ensures.within, c.loop-end.invariant.counted);
    }

pub returns-in_err-read_line-clause-due : goal.returns-in_err-read_line-clause-due
returns-in_err-read_line-clause-due c =
    let f = c.from_residual.ensures in
    read_passed _ c.in_err-read_line.field-0.0 _ f.0 f.1
    (read_fault c.args.text.now c.line_at.result.now _ (lines_of (drop (c.in-Some.end + 1) c.loop-end.rest.now)) c.loop-end.reading.number c.loop-end.reading.versioned
    c.loop-end.reading.names c.loop-end.reading.lines c.in_err-read_line.field-0.0 c.loop-end.invariant.reads
    (rw c.line_at.ensures (line_more c.loop-end.rest.now c.in-Some.end c.in-Some.ensures.place)) c.in_err-read_line.ensures.err)

pub returns-in_err-read_line-2-clause-due : goal.returns-in_err-read_line-2-clause-due
returns-in_err-read_line-2-clause-due c =
    let f = c.from_residual-in_err-read_line-2.ensures in
    read_passed _ c.in_err-read_line-2.field-0.0 _ f.0 f.1
    (read_fault c.args.text.now c.loop-end.rest.now _ [] c.loop-end.reading.number c.loop-end.reading.versioned
    c.loop-end.reading.names c.loop-end.reading.lines c.in_err-read_line-2.field-0.0 c.loop-end.invariant.reads
    (line_last c.loop-end.rest.now c.in_default.ensures.place) c.in_err-read_line-2.ensures.err)

pub returns-then-reading-clause-due : goal.returns-then-reading-clause-due
returns-then-reading-clause-due c =
    let e = c.in_ok-read_line-2.ensures in
    read_whole _ c.read_line-2.new.reading.number c.read_line-2.new.reading.versioned c.read_line-2.new.reading.names c.read_line-2.new.reading.lines
    (read_more _ c.loop-end.rest.now _ [] c.loop-end.reading.number c.read_line-2.new.reading.number c.loop-end.reading.versioned
    c.read_line-2.new.reading.versioned c.loop-end.reading.names c.read_line-2.new.reading.names c.loop-end.reading.lines c.read_line-2.new.reading.lines c.loop-end.invariant.reads
    (line_last c.loop-end.rest.now c.in_default.ensures.place)
    e.adds e.number e.versioned e.room e.lines)
    c.if-reading.true

pub returns-else-reading-clause-due : goal.returns-else-reading-clause-due
returns-else-reading-clause-due c =
    let e = c.in_ok-read_line-2.ensures in
    read_unversioned _ c.read_line-2.new.reading.number c.read_line-2.new.reading.versioned c.read_line-2.new.reading.names c.read_line-2.new.reading.lines
    (read_more _ c.loop-end.rest.now _ [] c.loop-end.reading.number c.read_line-2.new.reading.number c.loop-end.reading.versioned
    c.read_line-2.new.reading.versioned c.loop-end.reading.names c.read_line-2.new.reading.names c.loop-end.reading.lines c.read_line-2.new.reading.lines c.loop-end.invariant.reads
    (line_last c.loop-end.rest.now c.in_default.ensures.place)
    e.adds e.number e.versioned e.room e.lines)
    c.if-reading.false
