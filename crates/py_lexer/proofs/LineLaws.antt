-- All pieces: what the layout makes of them one by one is what their logical lines give.
use Rattle.std.proofs.Common.{◌≡◌, ℕ, ◌+◌, ◌-◌, Bool, true, false, cond, List, [], ◌∷◌, ◌++◌, length, refl, sym, ◌∙◌, ap, arith, append_assoc, append-nil, length-append}
use Rattle.std.specs.Prelude.{Result, Ok, Err, ◌==◌, ◌&&◌, replicate}
use Rattle.std.proofs.lemmas.Bool.Decides.{nat_tests}
use Rattle.py_lexer.specs.declared.token.TokenKind.TheVariants.{Newline, Dedent, End}
use Rattle.py_lexer.specs.declared.token.Token.{Token}
use Rattle.py_lexer.specs.declared.pieces.What.{What}
use Rattle.py_lexer.specs.declared.pieces.What.TheVariants.{Blanks, Skip, LineEnd, Open, Close, Word, Flawed, Wrong}
use Rattle.py_lexer.specs.declared.layout.Stop.{Stop}
use Rattle.py_lexer.specs.declared.layout.Stop.TheVariants.{Broken}
use Rattle.py_lexer.specs.declared.layout.Spot.{Spot}
use Rattle.py_lexer.specs.declared.layout.Layout.{Layout}
use Rattle.py_lexer.specs.Layout.{change_at, token_at, and_then, with_token, at_line, at_first, after_piece, finished}
use Rattle.py_lexer.specs.Scan.{Placed, run}
use Rattle.py_lexer.specs.Lines.{Fault, Before, nothing, extend, behind, Line, ends, put, lines_from, is_token, kind_of, shift, broken_at, or_else, broken_in, tokens_at, tokens_in, newline, open_columns, with_front, unless, laid_from, laid}
use Rattle.py_lexer.proofs.LineSteps.{layout_of, unless_broken, Sane, step, zero_words, at_piece}

-- what a scan that stops at the first of some faults answers
abbrev pub first_of : Result (List Token) (List Fault) → Result (List Token) Stop
first_of (Ok ts) = Ok ts
first_of (Err []) = Ok []
first_of (Err (f ∷ fs)) = Err (Broken f.rule f.at)

fronts : (t u : List Token) (r : Result (List Token) (List Fault)) → with_front t (with_front u r) ≡ with_front (t ++ u) r
fronts t u (Ok ts) = ap Ok (sym (append_assoc t u ts))
fronts t u (Err fs) = refl

front_unless : (t : List Token) (fs : List Fault) (r : Result (List Token) (List Fault)) → with_front t (unless fs r) ≡ unless fs (with_front t r)
front_unless t [] r = refl
front_unless t (f ∷ fs) r = refl

-- ---- a piece put before a line

put_clean : (c : List ℕ) (f : Bool) (b : Before) (p : Placed) (l : Line) (ls : List Line) (end : Spot) → broken_at c f b p ≡ []
    → laid_from c f b (put p (l ∷ ls)) end ≡ with_front (tokens_at c b p) (laid_from c f (extend b p) (l ∷ ls) end)
put_clean c f b p l ls end e =
    let rest = laid_from (open_columns c (behind (extend b p) l.pieces)) (f && (behind (extend b p) l.pieces).words == 0) nothing ls end in
    let line = tokens_in c (extend b p) l.pieces in
    let close = newline (behind (extend b p) l.pieces) l.end l.ending in
    let broken = broken_in c f (extend b p) l.pieces in
    ap (λ q. unless (or_else q broken) (with_front ((tokens_at c b p ++ line) ++ close) rest)) e
    ∙ ap (λ q. unless broken (with_front q rest)) (append_assoc (tokens_at c b p) line close)
    ∙ ap (λ q. unless broken q) (sym (fronts (tokens_at c b p) (line ++ close) rest))
    ∙ sym (front_unless (tokens_at c b p) broken (with_front (line ++ close) rest))

put_broken : (c : List ℕ) (f : Bool) (b : Before) (p : Placed) (l : Line) (ls : List Line) (end : Spot) (t : List Token) (x : Fault) (xs : List Fault) → broken_at c f b p ≡ x ∷ xs
    → first_of (with_front t (laid_from c f b (put p (l ∷ ls)) end)) ≡ Err (Broken x.rule x.at)
put_broken c f b p l ls end t x xs e =
    ap (λ q. first_of (with_front t (unless (or_else q (broken_in c f (extend b p) l.pieces))
    (with_front ((tokens_at c b p ++ tokens_in c (extend b p) l.pieces) ++ newline (behind (extend b p) l.pieces) l.end l.ending)
    (laid_from (open_columns c (behind (extend b p) l.pieces)) (f && (behind (extend b p) l.pieces).words == 0) nothing ls end))))) e

-- ---- there is a line

lines_some : (b : Before) (ps : List Placed) (end : Spot) → (l : Line) × (ls : List Line) × (lines_from b ps end ≡ l ∷ ls)
lines_some b [] end = (record { pieces = []; end = end; ending = 0 }, [], refl)
lines_some b (p ∷ ps) end = by (ends b p) (lines_some (extend b p) ps end)
  where
    by : (q : Bool) → (l : Line) × (ls : List Line) × (lines_from (extend b p) ps end ≡ l ∷ ls)
        → (l : Line) × (ls : List Line) × (cond q (record { pieces = []; end = p.spot; ending = p.piece.len } ∷ lines_from nothing ps end) (put p (lines_from (extend b p) ps end)) ≡ l ∷ ls)
    by true i = (record { pieces = []; end = p.spot; ending = p.piece.len }, lines_from nothing ps end, refl)
    by false i = (record i.0 { pieces = p ∷ i.0.pieces }, i.1, ap (put p) i.2)

-- ---- what stands before the next piece agrees with the tokens

not_empty : (t : List Token) (x : Token) → (length (t ++ x ∷ []) == 0) ≡ false
not_empty t x = let e = length-append t (x ∷ []) in grind (arith, nat_tests, e)

sane_by : (k : Bool) (f : Bool) (w : ℕ) (t more : List Token) → (w ≡ 0 → (length t == 0) ≡ f) → cond k (w + 1) w ≡ 0 → (length (t ++ cond k more []) == 0) ≡ f
sane_by true f w t more h e = absurd (omega arith)
sane_by false f w t more h e = ap (λ q. length q == 0) (append-nil t) ∙ h e

sane_more : (f : Bool) (b : Before) (t : List Token) (p : Placed) (c : List ℕ) → Sane f b t → Sane f (extend b p) (t ++ tokens_at c b p)
sane_more f b t p c h = record {
  first = sane_by (is_token p.piece.what) f b.words t (cond (b.words == 0) (shift (change_at c b.column) p.spot) [] ++ token_at (kind_of p.piece.what) p.spot p.piece.len ∷ []) h.first;
  fresh = λ e. absurd cc;
}

sane_line : (q f : Bool) (t : List Token) (x : Token) → (q ≡ true → (length t == 0) ≡ f) → (length (t ++ cond q [] (x ∷ [])) == 0) ≡ f && q
sane_line true true t x h = ap (λ q. length q == 0) (append-nil t) ∙ h refl
sane_line true false t x h = ap (λ q. length q == 0) (append-nil t) ∙ h refl
sane_line false true t x h = not_empty t x
sane_line false false t x h = not_empty t x

sane_new : (f : Bool) (b : Before) (t : List Token) (s : Spot) (n : ℕ) → Sane f b t → Sane (f && b.words == 0) nothing (t ++ newline b s n)
sane_new f b t s n h = record {
  first = λ e. sane_line (b.words == 0) f t (token_at Newline s n) (λ z. h.first (zero_words b.words z));
  fresh = λ e. refl;
}

-- ---- the ends of lines and of the source

ended_by : (q : Bool) (l : Layout) (s : Spot) (n : ℕ) → cond q l (with_token (token_at Newline s n) l) ≡ record l { tokens = l.tokens ++ cond q [] (token_at Newline s n ∷ []) }
ended_by true l s n = ap (λ q. record l { tokens = q }) (sym (append-nil l.tokens))
ended_by false l s n = refl

finish : (c : List ℕ) (f : Bool) (b : Before) (t : List Token) (end : Spot) → finished end (layout_of c b t) ≡ t ++ (newline b end 0 ++ (replicate (length (open_columns c b) - 1) (token_at Dedent end 0) ++ token_at End end 0 ∷ []))
unfolding finished
finish c f b t end =
    let close = replicate (length (open_columns c b) - 1) (token_at Dedent end 0) ++ token_at End end 0 ∷ [] in
    ap (λ q. q.tokens ++ close) (ended_by (b.words == 0) (layout_of c b t) end 0) ∙ append_assoc t (newline b end 0) close

line_end_by : (d : ℕ) (m l : Layout) → (d == 0) ≡ true → cond (d == 0) m l ≡ m
line_end_by d m l e = ap (λ q. cond q m l) e

new_line : (what : What) (f : Bool) (spot : Spot) (n spaces : ℕ) (t : List Token) (c : List ℕ) (b : Before) → ends b (at_piece spot what n spaces) ≡ true
    → after_piece spot (record { what = what; len = n }) spaces (layout_of c b t) ≡ Ok (layout_of (open_columns c b) nothing (t ++ newline b spot n))
unfolding after_piece
new_line Blanks f spot n spaces t c b e = absurd cc
new_line Skip f spot n spaces t c b e = absurd cc
new_line Open f spot n spaces t c b e = absurd cc
new_line Close f spot n spaces t c b e = absurd cc
new_line (Word kind) f spot n spaces t c b e = absurd cc
new_line (Flawed kind flaw) f spot n spaces t c b e = absurd cc
new_line (Wrong rule) f spot n spaces t c b e = absurd cc
new_line LineEnd f spot n spaces t c b e =
    ap Ok (line_end_by b.depth _ _ e ∙ ap at_line (ended_by (b.words == 0) (record (layout_of c b t) { fresh = false }) spot n))
    ∙ ap (λ q. Ok (record (layout_of (open_columns c b) nothing (t ++ newline b spot n)) { depth = q })) (zero_words b.depth e)

-- ---- all pieces

piece_gives : (p : Placed) (ps : List Placed) (c : List ℕ) (f : Bool) (b : Before) (t : List Token) (end : Spot) (fs : List Fault) → broken_at c f b p ≡ fs
    → (run end ps (layout_of c (extend b p) (t ++ tokens_at c b p)) ≡ first_of (with_front (t ++ tokens_at c b p) (laid_from c f (extend b p) (lines_from (extend b p) ps end) end)))
    → and_then (unless_broken fs (Ok (layout_of c (extend b p) (t ++ tokens_at c b p)))) (run end ps) ≡ first_of (with_front t (laid_from c f b (put p (lines_from (extend b p) ps end)) end))
piece_gives p ps c f b t end [] is ih =
    let some = lines_some (extend b p) ps end in
    let more = tokens_at c b p in
    ih ∙ ap first_of (sym (fronts t more (laid_from c f (extend b p) (lines_from (extend b p) ps end) end)))
    ∙ ap (λ q. first_of (with_front t (with_front more (laid_from c f (extend b p) q end)))) some.2
    ∙ ap (λ q. first_of (with_front t q)) (sym (put_clean c f b p some.0 some.1 end is))
    ∙ ap (λ q. first_of (with_front t (laid_from c f b (put p q) end))) (sym some.2)
piece_gives p ps c f b t end (x ∷ xs) is ih =
    let some = lines_some (extend b p) ps end in
    sym (put_broken c f b p some.0 some.1 end t x xs is) ∙ ap (λ q. first_of (with_front t (laid_from c f b (put p q) end))) (sym some.2)

pub lines_give : (ps : List Placed) (c : List ℕ) (f : Bool) (b : Before) (t : List Token) (end : Spot) → Sane f b t
    → run end ps (layout_of c b t) ≡ first_of (with_front t (laid_from c f b (lines_from b ps end) end))
lines_give [] c f b t end h = ap Ok (finish c f b t end)
lines_give (p ∷ ps) c f b t end h = by (λ c' f' b' t' h'. lines_give ps c' f' b' t' end h') (ends b p) refl
  where
    by : ((c' : List ℕ) (f' : Bool) (b' : Before) (t' : List Token) → Sane f' b' t' → run end ps (layout_of c' b' t') ≡ first_of (with_front t' (laid_from c' f' b' (lines_from b' ps end) end)))
        → (q : Bool) → ends b p ≡ q → and_then (after_piece p.spot p.piece p.spaces (layout_of c b t)) (run end ps)
        ≡ first_of (with_front t (laid_from c f b (cond q (record { pieces = []; end = p.spot; ending = p.piece.len } ∷ lines_from nothing ps end) (put p (lines_from (extend b p) ps end))) end))
    by ih true e =
        let close = newline b p.spot p.piece.len in
        ap (λ q. and_then q (run end ps)) (new_line p.piece.what f p.spot p.piece.len p.spaces t c b e)
        ∙ ih (open_columns c b) (f && b.words == 0) nothing (t ++ close) (sane_new f b t p.spot p.piece.len h)
        ∙ ap first_of (sym (fronts t close (laid_from (open_columns c b) (f && b.words == 0) nothing (lines_from nothing ps end) end)))
    by ih false e =
        ap (λ q. and_then q (run end ps)) (step f p t c b h e)
        ∙ piece_gives p ps c f b t end (broken_at c f b p) refl (ih c f (extend b p) (t ++ tokens_at c b p) (sane_more f b t p c h))

front_none : (r : Result (List Token) (List Fault)) → with_front [] r ≡ r
front_none (Ok ts) = refl
front_none (Err fs) = refl

-- what the pieces of a whole source give
pub source_gives : (ps : List Placed) (end : Spot) → run end ps at_first ≡ first_of (laid ps end)
source_gives ps end =
    lines_give ps (0 ∷ []) true nothing [] end (record { first = λ e. refl; fresh = λ e. refl }) ∙ ap first_of (front_none (laid ps end))
