-- The tokens of a source stand in order, and End stands last and only there.
use Rattle.std.proofs.Common.{◌≡◌, ℕ, zero, suc, ◌+◌, ◌-◌, ◌≤◌, Bool, true, false, cond, List, [], ◌∷◌, ◌++◌, length, take, drop, refl, sym, ap, subst, arith, length-take, length-drop}
use Rattle.std.specs.Prelude.{Result, Ok, Err, ◌==◌, ◌&&◌, replicate}
use Rattle.py_lexer.specs.declared.token.TokenKind.{TokenKind}
use Rattle.py_lexer.specs.declared.token.TokenKind.TheVariants.{Newline, Indent, Dedent, End}
use Rattle.py_lexer.specs.declared.token.Token.{Token}
use Rattle.py_lexer.specs.declared.layout.Change.{Change}
use Rattle.py_lexer.specs.declared.layout.Change.TheVariants.{Same, Opens, Closes, Astray}
use Rattle.py_lexer.specs.declared.layout.Spot.{Spot}
use Rattle.py_lexer.specs.Bytes.{Text, first_bad, order_mark_len}
use Rattle.py_lexer.specs.Pieces.{piece_at}
use Rattle.py_lexer.specs.Layout.{change_at, token_at}
use Rattle.py_lexer.specs.Scan.{Placed, behind_text, first_spot, pieces_from}
use Rattle.py_lexer.specs.Lines.{Fault, Before, nothing, extend, behind, Line, is_token, kind_of, ends, put, lines_from, broken_in, shift, tokens_at, tokens_in, newline, open_columns, with_front, unless, laid_from, laid}
use Rattle.py_lexer.specs.Tokens.{text_rule, with_text, read_from, read}
use Rattle.py_lexer.specs.Spans.{InOrder, EndsOnce}
use Rattle.py_lexer.specs.declared.pieces.What.{What}
use Rattle.py_lexer.specs.declared.pieces.What.TheVariants.{Blanks, Skip, LineEnd, Open, Close, Word, Flawed, Wrong}
use Rattle.py_lexer.proofs.Lengths.{within}
use Rattle.py_lexer.proofs.FirstFault.{IsFair, Ascending, AllAscend, lines_ascend, all_of}
use Rattle.py_lexer.proofs.PiecesStand.{stand}

-- ---- lists of tokens

lower : (n m e : ℕ) (ts : List Token) → m ≤ n → InOrder n e ts → InOrder m e ts
lower n m e [] h k = omega arith
lower n m e (t ∷ ts) h k = (omega (arith, k.0), k.1, k.2)

join : (n m e : ℕ) (ts us : List Token) → InOrder n m ts → InOrder m e us → InOrder n e (ts ++ us)
join n m e [] us h k = lower m n e us h k
join n m e (t ∷ ts) us h k = (h.0, h.1, join t.end m e ts us h.2 k)

empties : (k : ℕ) (kind : TokenKind) (s : Spot) → InOrder s.at (s.at + 0) (replicate k (token_at kind s 0))
empties zero kind s = omega arith
empties (suc k) kind s = (omega arith, omega arith, lower s.at (s.at + 0) (s.at + 0) (replicate k (token_at kind s 0)) (omega arith) (empties k kind s))

one : (kind : TokenKind) (s : Spot) (n : ℕ) → InOrder s.at (s.at + n) (token_at kind s n ∷ [])
one kind s n = (omega arith, omega arith, omega arith)

shift_order : (v : Change) (s : Spot) → InOrder s.at (s.at + 0) (shift v s)
shift_order Same s = omega arith
shift_order Opens s = one Indent s 0
shift_order (Closes n) s = empties n Dedent s
shift_order Astray s = omega arith

cond_order : (q : Bool) (n m : ℕ) (ts : List Token) → n ≤ m → InOrder n m ts → InOrder n m (cond q ts [])
cond_order true n m ts h k = k
cond_order false n m ts h k = h

-- ---- pieces and lines

-- pieces stand one behind the other between two bytes
abbrev Firm : ℕ → List Placed → ℕ → Type 0
Firm n [] e = n ≤ e
Firm n (p ∷ ps) e = (n ≤ p.spot.at) × Firm (p.spot.at + p.piece.len) ps e

firm_to : (n : ℕ) (ps : List Placed) (e f : ℕ) → e ≤ f → Firm n ps e → Firm n ps f
firm_to n [] e f h k = omega arith
firm_to n (p ∷ ps) e f h k = (k.0, firm_to (p.spot.at + p.piece.len) ps e f h k.1)

taken : (n : ℕ) (z : Text) → n ≤ length z → length (take n z) ≡ n
taken n z h = omega (arith, length-take n z)

firm : (left : ℕ) (s : Spot) (z : Text) → left ≤ length z → Firm s.at (pieces_from left s z) (s.at + (length z - left))
firm left s [] h = omega arith
firm (suc left) s (b ∷ z) h = firm_to s.at (pieces_from left s z) _ _ (omega arith) (firm left s z (omega arith))
firm zero s (b ∷ z) h =
    let n = (piece_at (b ∷ z)).len in
    let w : n ≤ length (b ∷ z) = within (b ∷ z) (omega arith) in
    let s' = behind_text s (take n (b ∷ z)) in
    let at : s.at + n ≡ s'.at = ap (λ q. s.at + q) (sym (taken n (b ∷ z) w)) in
    (omega arith, subst (λ q. Firm q (pieces_from (n - 1) s' z) (s.at + (length (b ∷ z) - 0))) (sym at) (firm_to s'.at (pieces_from (n - 1) s' z) _ _ (omega (arith, at, w)) (firm (n - 1) s' z (omega (arith, w)))))

abbrev LinesFirm : ℕ → List Line → ℕ → Type 0
LinesFirm n [] e = n ≤ e
LinesFirm n (l ∷ ls) e = Firm n l.pieces l.end.at × LinesFirm (l.end.at + l.ending) ls e

put_firm : (n : ℕ) (p : Placed) (ls : List Line) (e : ℕ) → n ≤ p.spot.at → LinesFirm (p.spot.at + p.piece.len) ls e → LinesFirm n (put p ls) e
put_firm n p [] e h k = omega arith
put_firm n p (l ∷ ls) e h k = ((h, k.0), k.1)

lines_firm : (b : Before) (ps : List Placed) (end : Spot) (n : ℕ) → Firm n ps end.at → LinesFirm n (lines_from b ps end) end.at
lines_firm b [] end n h = (h, omega arith)
lines_firm b (p ∷ ps) end n h = by (ends b p) (lines_firm nothing ps end (p.spot.at + p.piece.len) h.1) (lines_firm (extend b p) ps end (p.spot.at + p.piece.len) h.1)
  where
    by : (q : Bool) → LinesFirm (p.spot.at + p.piece.len) (lines_from nothing ps end) end.at → LinesFirm (p.spot.at + p.piece.len) (lines_from (extend b p) ps end) end.at
        → LinesFirm n (cond q (record { pieces = []; end = p.spot; ending = p.piece.len } ∷ lines_from nothing ps end) (put p (lines_from (extend b p) ps end))) end.at
    by true new same = (h.0, new)
    by false new same = put_firm n p (lines_from (extend b p) ps end) end.at h.0 same

piece_order : (c : List ℕ) (b : Before) (p : Placed) → InOrder p.spot.at (p.spot.at + p.piece.len) (tokens_at c b p)
piece_order c b p =
    let token = token_at (kind_of p.piece.what) p.spot p.piece.len ∷ [] in
    let front = cond (b.words == 0) (shift (change_at c b.column) p.spot) [] in
    cond_order (is_token p.piece.what) p.spot.at (p.spot.at + p.piece.len) (front ++ token) (omega arith)
    (join p.spot.at (p.spot.at + 0) (p.spot.at + p.piece.len) front token
    (cond_order (b.words == 0) p.spot.at (p.spot.at + 0) (shift (change_at c b.column) p.spot) (omega arith) (shift_order (change_at c b.column) p.spot))
    (lower p.spot.at (p.spot.at + 0) (p.spot.at + p.piece.len) token (omega arith) (one (kind_of p.piece.what) p.spot p.piece.len)))

line_order : (c : List ℕ) (b : Before) (ps : List Placed) (n e : ℕ) → Firm n ps e → InOrder n e (tokens_in c b ps)
line_order c b [] n e h = h
line_order c b (p ∷ ps) n e h =
    join n (p.spot.at + p.piece.len) e (tokens_at c b p) (tokens_in c (extend b p) ps)
    (lower p.spot.at n (p.spot.at + p.piece.len) (tokens_at c b p) h.0 (piece_order c b p)) (line_order c (extend b p) ps (p.spot.at + p.piece.len) e h.1)

newline_by : (q : Bool) (s : Spot) (n : ℕ) → InOrder s.at (s.at + n) (cond q [] (token_at Newline s n ∷ []))
newline_by true s n = omega arith
newline_by false s n = one Newline s n

-- ---- End

-- tokens of which none is End
abbrev NoEnds : List Token → Type 0
NoEnds [] = Unit {0}
NoEnds (t ∷ ts) = (t.kind ≡ End → ⊥) × NoEnds ts

no_ends_join : (ts us : List Token) → NoEnds ts → NoEnds us → NoEnds (ts ++ us)
no_ends_join [] us h k = k
no_ends_join (t ∷ ts) us h k = (h.0, no_ends_join ts us h.1 k)

no_ends_cond : (q : Bool) (ts us : List Token) → NoEnds ts → NoEnds us → NoEnds (cond q ts us)
no_ends_cond true ts us h k = h
no_ends_cond false ts us h k = k

dedents : (n : ℕ) (s : Spot) → NoEnds (replicate n (token_at Dedent s 0))
dedents zero s = tt
dedents (suc n) s = (λ e. cc, dedents n s)

shift_no_ends : (v : Change) (s : Spot) → NoEnds (shift v s)
shift_no_ends Same s = tt
shift_no_ends Opens s = (λ e. cc, tt)
shift_no_ends (Closes n) s = dedents n s
shift_no_ends Astray s = tt

plain : (what : What) → IsFair what → kind_of what ≡ End → ⊥
plain Blanks h e = cc
plain Skip h e = cc
plain LineEnd h e = cc
plain Open h e = cc
plain Close h e = cc
plain (Word kind) h e = h e
plain (Flawed kind flaw) h e = h.1 e
plain (Wrong rule) h e = cc

line_no_ends : (c : List ℕ) (b : Before) (ps : List Placed) (n : ℕ) → Ascending n ps → NoEnds (tokens_in c b ps)
line_no_ends c b [] n h = tt
line_no_ends c b (p ∷ ps) n h =
    no_ends_join (tokens_at c b p) (tokens_in c (extend b p) ps)
    (no_ends_cond (is_token p.piece.what) _ [] (no_ends_join (cond (b.words == 0) (shift (change_at c b.column) p.spot) []) (token_at (kind_of p.piece.what) p.spot p.piece.len ∷ [])
    (no_ends_cond (b.words == 0) (shift (change_at c b.column) p.spot) [] (shift_no_ends (change_at c b.column) p.spot) tt) (plain p.piece.what h.1, tt)) tt)
    (line_no_ends c (extend b p) ps (p.spot.at + p.spaces) h.2)

before_end : (t : Token) (ts : List Token) → (t.kind ≡ End → ⊥) → EndsOnce ts → EndsOnce (t ∷ ts)
before_end t [] h k = absurd k
before_end t (u ∷ ts) h k = (h, k)

front_ends : (ts us : List Token) → NoEnds ts → EndsOnce us → EndsOnce (ts ++ us)
front_ends [] us h k = k
front_ends (t ∷ ts) us h k = before_end t (ts ++ us) h.0 (front_ends ts us h.1 k)

abbrev Ends : Result (List Token) (List Fault) → Type 0
Ends (Ok ts) = EndsOnce ts
Ends (Err fs) = Unit {0}

with_front_ends : (ts : List Token) (r : Result (List Token) (List Fault)) → NoEnds ts → Ends r → Ends (with_front ts r)
with_front_ends ts (Ok us) h k = front_ends ts us h k
with_front_ends ts (Err fs) h k = tt

unless_ends : (fs : List Fault) (r : Result (List Token) (List Fault)) → Ends r → Ends (unless fs r)
unless_ends [] r h = h
unless_ends (f ∷ fs) r h = tt

laid_ends : (c : List ℕ) (f : Bool) (ls : List Line) (end : Spot) → AllAscend ls → Ends (laid_from c f nothing ls end)
laid_ends c f [] end h = front_ends (replicate (length c - 1) (token_at Dedent end 0)) (token_at End end 0 ∷ []) (dedents (length c - 1) end) refl
laid_ends c f (l ∷ ls) end h =
    let w = behind nothing l.pieces in
    unless_ends (broken_in c f nothing l.pieces) _
    (with_front_ends (tokens_in c nothing l.pieces ++ newline w l.end l.ending) _
    (no_ends_join (tokens_in c nothing l.pieces) (newline w l.end l.ending) (line_no_ends c nothing l.pieces 0 h.0) (no_ends_cond (w.words == 0) [] (token_at Newline l.end l.ending ∷ []) tt (λ e. cc, tt)))
    (laid_ends (open_columns c w) (f && w.words == 0) ls end h.1))

text_ends : (fs : List Fault) (r : Result (List Token) (List Fault)) → Ends r → Ends (with_text fs r)
text_ends [] r h = h
text_ends (f ∷ fs) (Ok ts) h = tt
text_ends (f ∷ fs) (Err gs) h = tt

read_ends : (begin : ℕ) (source : Text) → Ends (read_from begin source)
unfolding read_from
read_ends begin source =
    let body = drop begin source in
    let s = first_spot begin in
    let end = behind_text s body in
    let pieces = pieces_from 0 s body in
    text_ends (text_rule (begin + first_bad body) (length source)) (laid pieces end)
    (laid_ends (0 ∷ []) true (lines_from nothing pieces end) end (all_of begin (lines_from nothing pieces end) (lines_ascend nothing pieces end begin (stand 0 s body))))

-- End stands last among the tokens of a source, and only there
pub ends_once : (source : Text) (ts : List Token) → read source ≡ Ok ts → EndsOnce ts
ends_once source ts e = subst Ends e (read_ends (order_mark_len source) source)

-- ---- the whole

-- what the tokens of a source are: in order
abbrev pub Stands : ℕ → ℕ → Result (List Token) (List Fault) → Type 0
Stands n e (Ok ts) = InOrder n e ts
Stands n e (Err fs) = Unit {0}

front_stands : (n m e : ℕ) (ts : List Token) (r : Result (List Token) (List Fault)) → InOrder n m ts → Stands m e r → Stands n e (with_front ts r)
front_stands n m e ts (Ok us) h k = join n m e ts us h k
front_stands n m e ts (Err fs) h k = tt

unless_stands : (n e : ℕ) (fs : List Fault) (r : Result (List Token) (List Fault)) → Stands n e r → Stands n e (unless fs r)
unless_stands n e [] r h = h
unless_stands n e (f ∷ fs) r h = tt

laid_stands : (c : List ℕ) (f : Bool) (b : Before) (ls : List Line) (end : Spot) (n : ℕ) → LinesFirm n ls end.at → Stands n end.at (laid_from c f b ls end)
laid_stands c f b [] end n h =
    let close = replicate (length c - 1) (token_at Dedent end 0) in
    let last = lower end.at (end.at + 0) (end.at + 0) (token_at End end 0 ∷ []) (omega arith) (one End end 0) in
    subst (λ q. InOrder n q (close ++ token_at End end 0 ∷ [])) (omega arith) (lower end.at n (end.at + 0) (close ++ token_at End end 0 ∷ []) h (join end.at (end.at + 0) (end.at + 0) close (token_at End end 0 ∷ []) (empties (length c - 1) Dedent end) last))
laid_stands c f b (l ∷ ls) end n h =
    let w = behind b l.pieces in
    unless_stands n end.at (broken_in c f b l.pieces) _
    (front_stands n (l.end.at + l.ending) end.at (tokens_in c b l.pieces ++ newline w l.end l.ending) _
    (join n l.end.at (l.end.at + l.ending) (tokens_in c b l.pieces) (newline w l.end l.ending) (line_order c b l.pieces n l.end.at h.0) (newline_by (w.words == 0) l.end l.ending))
    (laid_stands (open_columns c w) (f && w.words == 0) nothing ls end (l.end.at + l.ending) h.1))

text_stands : (n e : ℕ) (fs : List Fault) (r : Result (List Token) (List Fault)) → Stands n e r → Stands n e (with_text fs r)
text_stands n e [] r h = h
text_stands n e (f ∷ fs) (Ok ts) h = tt
text_stands n e (f ∷ fs) (Err gs) h = tt

read_stands : (begin : ℕ) (source : Text) → begin ≤ length source → Stands begin (length source) (read_from begin source)
unfolding read_from
read_stands begin source h =
    let body = drop begin source in
    let s = first_spot begin in
    let end = behind_text s body in
    let pieces = pieces_from 0 s body in
    let at : end.at ≡ length source = omega (arith, length-drop begin source) in
    let is_firm : Firm begin pieces end.at = firm_to begin pieces (begin + (length body - 0)) end.at (omega arith) (firm 0 s body (omega arith)) in
    subst (λ q. Stands begin q (with_text (text_rule (begin + first_bad body) (length source)) (laid pieces end))) at
    (text_stands begin end.at (text_rule (begin + first_bad body) (length source)) (laid pieces end) (laid_stands (0 ∷ []) true nothing (lines_from nothing pieces end) end begin (lines_firm nothing pieces end begin is_firm)))

-- the tokens of a source stand in order
pub spans : (source : Text) (ts : List Token) → order_mark_len source ≤ length source → read source ≡ Ok ts → InOrder (order_mark_len source) (length source) ts
spans source ts h e = subst (λ q. Stands (order_mark_len source) (length source) q) e (read_stands (order_mark_len source) source h)
