-- Of the rules that are broken at a piece, the one that is listed first is the first by place and number.
use Rattle.std.proofs.Common.{◌≡◌, ℕ, ◌+◌, ◌≤◌, ◌<◌, ◌⊎◌, inl, inr, Bool, true, false, cond, List, [], ◌∷◌, ◌++◌, refl, arith, Option, Some, None}
use Rattle.std.specs.Prelude.{Result, Ok, Err, ◌==◌, ◌&&◌, ◌||◌, nat_le, nat_lt}
use Rattle.std.proofs.lemmas.Bool.{cases_lt}
use Rattle.puya_base.specs.declared.source.Rule.TheVariants.{P03, P06}
use Rattle.py_lexer.specs.declared.token.TokenKind.TheVariants.{End}
use Rattle.py_lexer.specs.declared.token.Token.{Token}
use Rattle.py_lexer.specs.declared.pieces.What.{What}
use Rattle.py_lexer.specs.declared.pieces.What.TheVariants.{Blanks, Skip, LineEnd, Open, Close, Word, Flawed, Wrong}
use Rattle.py_lexer.specs.declared.layout.Spot.{Spot}
use Rattle.py_lexer.specs.Layout.{change_at}
use Rattle.py_lexer.specs.Scan.{Placed}
use Rattle.py_lexer.specs.Lines.{Fault, Before, nothing, is_token, is_open, is_first, goes_astray, too_far_in, extend, indents, behind, Line, ends, put, lines_from, at_tab, wrong_rule, flaw_rule, indentation_rule, nesting_rule, broken_at, or_else, broken_in, tokens_in, newline, open_columns, with_front, unless, laid_from, laid}
use Rattle.py_lexer.specs.Tokens.{number, AtMostAll}

-- a wrong piece breaks P04 or P05, a literal's flaw stands behind its first byte, and no piece is the end of the source
abbrev pub IsFair : What → Type 0
IsFair Blanks = Unit {0}
IsFair Skip = Unit {0}
IsFair LineEnd = Unit {0}
IsFair Open = Unit {0}
IsFair Close = Unit {0}
IsFair (Word kind) = kind ≡ End → ⊥
IsFair (Flawed kind flaw) = (1 ≤ flaw) × (kind ≡ End → ⊥)
IsFair (Wrong rule) = (4 ≤ number rule) × (number rule ≤ 5)

-- each of some faults stands behind a byte, or there with at least a number
abbrev From : ℕ → ℕ → List Fault → Type 0
From at n [] = Unit {0}
From at n (g ∷ gs) = ((at < g.at) ⊎ ((at ≡ g.at) × (n ≤ number g.rule))) × From at n gs

-- a list of faults whose first is the first of them
abbrev pub LeadsOrNone : List Fault → Type 0
LeadsOrNone [] = Unit {0}
LeadsOrNone (f ∷ fs) = AtMostAll f fs

-- each fault of a list is followed by later ones
abbrev Sorted : List Fault → Type 0
Sorted [] = Unit {0}
Sorted (f ∷ fs) = From f.at (number f.rule) fs × Sorted fs

from_least : (f : Fault) (fs : List Fault) → From f.at (number f.rule) fs → AtMostAll f fs
from_least f [] h = tt
from_least f (g ∷ gs) h = (h.0, from_least f gs h.1)

nearer_one : (at n at' n' a m : ℕ) → (at < at') ⊎ ((at ≡ at') × (n ≤ n')) → (at' < a) ⊎ ((at' ≡ a) × (n' ≤ m)) → (at < a) ⊎ ((at ≡ a) × (n ≤ m))
nearer_one at n at' n' a m (inl h) (inl k) = inl (omega arith)
nearer_one at n at' n' a m (inl h) (inr k) = inl (omega (arith, k.0))
nearer_one at n at' n' a m (inr h) (inl k) = inl (omega (arith, h.0))
nearer_one at n at' n' a m (inr h) (inr k) = inr (omega (arith, h.0, k.0), omega (arith, h.1, k.1))

nearer : (at n at' n' : ℕ) (fs : List Fault) → (at < at') ⊎ ((at ≡ at') × (n ≤ n')) → From at' n' fs → From at n fs
nearer at n at' n' [] h k = tt
nearer at n at' n' (f ∷ fs) h k = (nearer_one at n at' n' f.at (number f.rule) h k.0, nearer at n at' n' fs h k.1)

-- ---- the rules at a piece

flaw_from : (what : What) (at : ℕ) → IsFair what → From at 6 (flaw_rule what at)
flaw_from Blanks at h = tt
flaw_from Skip at h = tt
flaw_from LineEnd at h = tt
flaw_from Open at h = tt
flaw_from Close at h = tt
flaw_from (Word kind) at h = tt
flaw_from (Flawed kind flaw) at h = (inl (omega (arith, h.0)), tt)
flaw_from (Wrong rule) at h = tt

flaw_sorted : (what : What) (at : ℕ) → Sorted (flaw_rule what at)
flaw_sorted Blanks at = tt
flaw_sorted Skip at = tt
flaw_sorted LineEnd at = tt
flaw_sorted Open at = tt
flaw_sorted Close at = tt
flaw_sorted (Word kind) at = tt
flaw_sorted (Flawed kind flaw) at = (tt, tt)
flaw_sorted (Wrong rule) at = tt

single : (q : Bool) (f : Fault) (fs : List Fault) → From f.at (number f.rule) fs → Sorted fs → Sorted (cond q (f ∷ []) [] ++ fs)
single true f fs h k = (h, k)
single false f fs h k = k

from_single : (q : Bool) (f : Fault) (fs : List Fault) (n : ℕ) → n ≤ number f.rule → From f.at n fs → From f.at n (cond q (f ∷ []) [] ++ fs)
from_single true f fs n h k = (inr (refl, h), k)
from_single false f fs n h k = k

wrong_from : (what : What) (at : ℕ) (fs : List Fault) → IsFair what → From at 6 fs → From at 4 (wrong_rule what at ++ fs)
wrong_from Blanks at fs h k = nearer at 4 at 6 fs (inr (refl, omega arith)) k
wrong_from Skip at fs h k = nearer at 4 at 6 fs (inr (refl, omega arith)) k
wrong_from LineEnd at fs h k = nearer at 4 at 6 fs (inr (refl, omega arith)) k
wrong_from Open at fs h k = nearer at 4 at 6 fs (inr (refl, omega arith)) k
wrong_from Close at fs h k = nearer at 4 at 6 fs (inr (refl, omega arith)) k
wrong_from (Word kind) at fs h k = nearer at 4 at 6 fs (inr (refl, omega arith)) k
wrong_from (Flawed kind flaw) at fs h k = nearer at 4 at 6 fs (inr (refl, omega arith)) k
wrong_from (Wrong rule) at fs h k = (inr (refl, h.0), nearer at 4 at 6 fs (inr (refl, omega arith)) k)

wrong_sorted : (what : What) (at : ℕ) (fs : List Fault) → IsFair what → From at 6 fs → Sorted fs → Sorted (wrong_rule what at ++ fs)
wrong_sorted Blanks at fs h k s = s
wrong_sorted Skip at fs h k s = s
wrong_sorted LineEnd at fs h k s = s
wrong_sorted Open at fs h k s = s
wrong_sorted Close at fs h k s = s
wrong_sorted (Word kind) at fs h k s = s
wrong_sorted (Flawed kind flaw) at fs h k s = s
wrong_sorted (Wrong rule) at fs h k s = (nearer at (number rule) at 6 fs (inr (refl, omega (arith, h.1))) k, s)

-- a tab that stands at most at a byte
abbrev pub TabBelow : Option ℕ → ℕ → Type 0
TabBelow None n = Unit {0}
TabBelow (Some tab) n = tab ≤ n

at_most : (x at : ℕ) → x ≤ at → (x < at) ⊎ ((x ≡ at) × (2 ≤ 3))
at_most x at h = by (cases_lt x at)
  where
    by : (x < at) ⊎ (at ≤ x) → (x < at) ⊎ ((x ≡ at) × (2 ≤ 3))
    by (inl k) = inl k
    by (inr k) = inr (omega arith, omega arith)

tab_sorted : (q : Bool) (tab : Option ℕ) (at : ℕ) (fs : List Fault) → TabBelow tab at → From at 3 fs → Sorted fs → Sorted (cond q (at_tab tab) [] ++ fs)
tab_sorted false tab at fs h k s = s
tab_sorted true None at fs h k s = s
tab_sorted true (Some tab) at fs h k s = (nearer tab 2 at 3 fs (at_most tab at h) k, s)

piece_sorted : (c : List ℕ) (f : Bool) (b : Before) (p : Placed) → IsFair p.piece.what → TabBelow b.tab p.spot.at → Sorted (broken_at c f b p)
piece_sorted c f b p fair below =
    let at = p.spot.at in
    let flaws = flaw_rule p.piece.what at in
    let f6 = flaw_from p.piece.what at fair in
    let n6 = from_single (is_token p.piece.what && (too_far_in c b || (nat_le 512 b.words || (is_open p.piece.what && nat_le 64 b.depth)))) (record { rule = P06; at = at }) flaws 6 (omega arith) f6 in
    let s6 = single (is_token p.piece.what && (too_far_in c b || (nat_le 512 b.words || (is_open p.piece.what && nat_le 64 b.depth)))) (record { rule = P06; at = at }) flaws f6 (flaw_sorted p.piece.what at) in
    let late = nesting_rule c b p ++ flaws in
    let w4 = wrong_from p.piece.what at late fair n6 in
    let s4 = wrong_sorted p.piece.what at late fair n6 s6 in
    let more = wrong_rule p.piece.what at ++ late in
    let m3 = nearer at 3 at 4 more (inr (refl, omega arith)) w4 in
    let q3 = is_first b p.piece.what && goes_astray f (change_at c b.column) in
    let i3 = from_single q3 (record { rule = P03; at = at }) more 3 (omega arith) m3 in
    let s3 = single q3 (record { rule = P03; at = at }) more m3 s4 in
    tab_sorted (is_first b p.piece.what) b.tab at (indentation_rule c f b p ++ more) below i3 s3

-- ---- lines

-- pieces that stand one behind the other, from a byte on
abbrev pub Ascending : ℕ → List Placed → Type 0
Ascending n [] = Unit {0}
Ascending n (p ∷ ps) = (n ≤ p.spot.at) × IsFair p.piece.what × Ascending (p.spot.at + p.spaces) ps

still_below : (tab : Option ℕ) (n m : ℕ) → n ≤ m → TabBelow tab n → TabBelow tab m
still_below None n m h k = tt
still_below (Some tab) n m h k = omega arith

tab_by : (q r : Bool) (at spaces n : ℕ) (tab : Option ℕ) → TabBelow tab (at + spaces) → TabBelow (cond q (cond r (Some (at + spaces)) None) tab) (at + spaces)
tab_by true true at spaces n tab h = omega arith
tab_by true false at spaces n tab h = tt
tab_by false r at spaces n tab h = h

tab_on : (b : Before) (p : Placed) (n : ℕ) → n ≤ p.spot.at → TabBelow b.tab n → TabBelow (extend b p).tab (p.spot.at + p.spaces)
tab_on b p n h k = tab_by (indents b p) (nat_lt p.spaces p.piece.len) p.spot.at p.spaces p.piece.len b.tab (still_below b.tab n (p.spot.at + p.spaces) (omega arith) k)

leads : (fs : List Fault) → Sorted fs → LeadsOrNone fs
leads [] s = tt
leads (f ∷ fs) s = from_least f fs s.0

or_leads : (fs gs : List Fault) → LeadsOrNone fs → LeadsOrNone gs → LeadsOrNone (or_else fs gs)
or_leads [] gs h k = k
or_leads (f ∷ fs) gs h k = h

line_leads : (c : List ℕ) (f : Bool) (b : Before) (ps : List Placed) (n : ℕ) → TabBelow b.tab n → Ascending n ps → LeadsOrNone (broken_in c f b ps)
line_leads c f b [] n h k = tt
line_leads c f b (p ∷ ps) n h k =
    or_leads (broken_at c f b p) (broken_in c f (extend b p) ps) (leads (broken_at c f b p) (piece_sorted c f b p k.1 (still_below b.tab n p.spot.at k.0 h)))
    (line_leads c f (extend b p) ps (p.spot.at + p.spaces) (tab_on b p n k.0 h) k.2)

abbrev pub AllAscend : List Line → Type 0
AllAscend [] = Unit {0}
AllAscend (l ∷ ls) = Ascending 0 l.pieces × AllAscend ls

-- the first line's pieces stand from a byte on
abbrev pub LinesFrom : ℕ → List Line → Type 0
LinesFrom n [] = Unit {0}
LinesFrom n (l ∷ ls) = Ascending n l.pieces × AllAscend ls

lowered : (n : ℕ) (ps : List Placed) → Ascending n ps → Ascending 0 ps
lowered n [] h = tt
lowered n (p ∷ ps) h = (omega arith, h.1, h.2)

pub all_of : (n : ℕ) (ls : List Line) → LinesFrom n ls → AllAscend ls
all_of n [] h = tt
all_of n (l ∷ ls) h = (lowered n l.pieces h.0, h.1)

put_from : (n : ℕ) (p : Placed) (ls : List Line) → n ≤ p.spot.at → IsFair p.piece.what → LinesFrom (p.spot.at + p.spaces) ls → LinesFrom n (put p ls)
put_from n p [] h fair k = tt
put_from n p (l ∷ ls) h fair k = ((h, fair, k.0), k.1)

pub lines_ascend : (b : Before) (ps : List Placed) (end : Spot) (n : ℕ) → Ascending n ps → LinesFrom n (lines_from b ps end)
lines_ascend b [] end n h = (tt, tt)
lines_ascend b (p ∷ ps) end n h = by (ends b p) (lines_ascend nothing ps end (p.spot.at + p.spaces) h.2) (lines_ascend (extend b p) ps end (p.spot.at + p.spaces) h.2)
  where
    by : (q : Bool) → LinesFrom (p.spot.at + p.spaces) (lines_from nothing ps end) → LinesFrom (p.spot.at + p.spaces) (lines_from (extend b p) ps end)
        → LinesFrom n (cond q (record { pieces = []; end = p.spot; ending = p.piece.len } ∷ lines_from nothing ps end) (put p (lines_from (extend b p) ps end)))
    by true new same = (tt, all_of (p.spot.at + p.spaces) (lines_from nothing ps end) new)
    by false new same = put_from n p (lines_from (extend b p) ps end) h.0 h.1 same

-- tokens, or faults of which the first is the first
abbrev pub LeadsWhereBroken : Result (List Token) (List Fault) → Type 0
LeadsWhereBroken (Ok ts) = Unit {0}
LeadsWhereBroken (Err []) = ⊥
LeadsWhereBroken (Err (f ∷ fs)) = AtMostAll f fs

front_leads : (ts : List Token) (r : Result (List Token) (List Fault)) → LeadsWhereBroken r → LeadsWhereBroken (with_front ts r)
front_leads ts (Ok us) h = tt
front_leads ts (Err []) h = h
front_leads ts (Err (f ∷ fs)) h = h

unless_leads : (fs : List Fault) (r : Result (List Token) (List Fault)) → LeadsOrNone fs → LeadsWhereBroken r → LeadsWhereBroken (unless fs r)
unless_leads [] r h k = k
unless_leads (f ∷ fs) r h k = h

later_lines : (ls : List Line) (c : List ℕ) (f : Bool) (end : Spot) → AllAscend ls → LeadsWhereBroken (laid_from c f nothing ls end)
later_lines [] c f end h = tt
later_lines (l ∷ ls) c f end h =
    unless_leads (broken_in c f nothing l.pieces) _ (line_leads c f nothing l.pieces 0 tt h.0)
    (front_leads (tokens_in c nothing l.pieces ++ newline (behind nothing l.pieces) l.end l.ending) _ (later_lines ls (open_columns c (behind nothing l.pieces)) (f && (behind nothing l.pieces).words == 0) end h.1))

-- of what the lines of pieces break, the first is the first by place and number
pub laid_leads : (ps : List Placed) (end : Spot) (n : ℕ) → Ascending n ps → LeadsWhereBroken (laid ps end)
laid_leads ps end n h = later_lines (lines_from nothing ps end) (0 ∷ []) true end (all_of n (lines_from nothing ps end) (lines_ascend nothing ps end n h))
