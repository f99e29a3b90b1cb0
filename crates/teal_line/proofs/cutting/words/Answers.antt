use Rattle.std.proofs.Common.{◌≡◌, ◌+◌, ◌-◌, [], ◌∷◌, ◌++◌, length, take, drop, map, sym, ap, ◌∙◌, arith, length-drop}
use Rattle.std.proofs.Math.Seq.{take-length}
use Rattle.std.proofs.lemmas.List.{map-append}
use Rattle.teal_line.specs.Words.{words_of}
use Rattle.teal_line.proofs.WordSteps.{blank_step, comment_end, word_step, word_progress, words_end}
use Rattle.teal_line.proofs.cutting.words.Goals as goal

pub loop-at-preserved-then-is_blank : goal.loop-at-preserved-then-is_blank
loop-at-preserved-then-is_blank c =
    record {
      same = blank_step (map (λ w. w.now) c.loop-at.words) c.args.line.now c.loop-at.at c.loop-at-test.true (sym c.is_blank.ensures ∙ c.if-is_blank.true) c.loop-at.invariant.same;
      within = omega arith;
    }

pub returns-then-is_comment : goal.returns-then-is_comment
returns-then-is_comment c =
    let line = c.args.line.now in
    let at = c.loop-at.at in
    let whole : take (length line - at) (drop at line) ≡ drop at line = ap (λ q. take q (drop at line)) (sym (length-drop at line)) ∙ take-length (drop at line) in
    comment_end (map (λ w. w.now) c.loop-at.words) line at c.loop-at-test.true (sym c.is_blank.ensures ∙ c.if-is_blank.false) (sym (rw whole at c.is_comment.ensures) ∙ c.if-is_comment.true) c.loop-at.invariant.same

pub loop-at-preserved : goal.loop-at-preserved
loop-at-preserved c =
    let line = c.args.line.now in
    let at = c.loop-at.at in
    let n = c.word_length.result in
    let words = map (λ w. w.now) c.loop-at.words in
    let whole : take (length line - at) (drop at line) ≡ drop at line = ap (λ q. take q (drop at line)) (sym (length-drop at line)) ∙ take-length (drop at line) in
    let within = rw whole at c.word_length.ensures.within in
    let back : at + n - at ≡ n = omega arith in
    let pushed : map (λ w. w.now) c.push.new.self ≡ words ++ take n (drop at line) ∷ [] =
    ap (map (λ w. w.now)) c.in_ok-push.ensures.ok ∙ map-append (λ w. w.now) c.loop-at.words _ ∙ ap (λ k. words ++ take k (drop at line) ∷ []) back in
    record {
      same = ap (λ ws. ws ++ words_of (drop (at + n) line)) pushed
          ∙ word_step words line at n c.loop-at-test.true (sym c.is_blank.ensures ∙ c.if-is_blank.false) (sym (rw whole at c.is_comment.ensures) ∙ c.if-is_comment.false) (rw whole at c.word_length.ensures.value) c.loop-at.invariant.same;
      within = omega (arith, within, length-drop at line);
    }

pub loop-at-smaller : goal.loop-at-smaller
loop-at-smaller c =
    let line = c.args.line.now in
    let at = c.loop-at.at in
    let whole : take (length line - at) (drop at line) ≡ drop at line = ap (λ q. take q (drop at line)) (sym (length-drop at line)) ∙ take-length (drop at line) in
    let p = word_progress line at c.word_length.result c.loop-at-test.true (sym c.is_blank.ensures ∙ c.if-is_blank.false) (sym (rw whole at c.is_comment.ensures) ∙ c.if-is_comment.false) (rw whole at c.word_length.ensures.value) in
    omega (arith, p)

pub returns : goal.returns
returns c = words_end (map (λ w. w.now) c.loop-at.words) c.args.line.now c.loop-at.at c.loop-at-test.false c.loop-at.invariant.same
