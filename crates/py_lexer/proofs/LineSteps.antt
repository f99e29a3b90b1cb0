-- One piece: what the layout makes of it is what the rules and the tokens of its line say.
use Rattle.std.proofs.Common.{◌≡◌, ℕ, ◌+◌, ◌-◌, Bool, true, false, cond, List, [], ◌∷◌, ◌++◌, length, take, refl, sym, ◌∙◌, ap, arith, append_assoc, append-nil, Option, Some, None}
use Rattle.std.specs.Prelude.{Result, Ok, Err, ◌==◌, ◌&&◌, ◌||◌, nat_le, nat_lt}
use Rattle.std.proofs.lemmas.Bool.Decides.{nat_tests}
use Rattle.puya_base.specs.declared.source.Rule.{Rule}
use Rattle.puya_base.specs.declared.source.Rule.TheVariants.{P03, P04, P06}
use Rattle.py_lexer.specs.declared.token.TokenKind.{TokenKind}
use Rattle.py_lexer.specs.declared.token.TokenKind.TheVariants.{Mark}
use Rattle.py_lexer.specs.declared.token.Token.{Token}
use Rattle.py_lexer.specs.declared.pieces.What.{What}
use Rattle.py_lexer.specs.declared.pieces.What.TheVariants.{Blanks, Skip, LineEnd, Open, Close, Word, Flawed, Wrong}
use Rattle.py_lexer.specs.declared.layout.Change.{Change}
use Rattle.py_lexer.specs.declared.layout.Change.TheVariants.{Same, Opens, Closes, Astray}
use Rattle.py_lexer.specs.declared.layout.Stop.{Stop}
use Rattle.py_lexer.specs.declared.layout.Stop.TheVariants.{Broken}
use Rattle.py_lexer.specs.declared.layout.Spot.{Spot}
use Rattle.py_lexer.specs.declared.layout.Layout.{Layout}
use Rattle.py_lexer.specs.Layout.{change_at, token_at, first_tab, and_then, judge_by, change_to, after_change, with_word, after_word, with_bracket, without_bracket, after_piece}
use Rattle.py_lexer.specs.Scan.{Placed}
use Rattle.py_lexer.specs.Lines.{Fault, Before, extend, ends, at_tab, goes_astray, opens, broken_at, shift, tokens_at, columns_by, open_columns}

-- the layout in a line, by the open columns at its begin, what of it is read, and all tokens so far
abbrev pub layout_of : List ℕ → Before → List Token → Layout
layout_of c b t = record { tokens = t; columns = open_columns c b; depth = b.depth; words = b.words; fresh = b.fresh; column = b.column; tab = b.tab }

-- the first of some faults, or a result
abbrev pub unless_broken : List Fault → Result Layout Stop → Result Layout Stop
unless_broken [] r = r
unless_broken (f ∷ fs) r = Err (Broken f.rule f.at)

unless_append : (a b : List Fault) (r : Result Layout Stop) → unless_broken (a ++ b) r ≡ unless_broken a (unless_broken b r)
unless_append [] b r = refl
unless_append (f ∷ a) b r = refl

then_unless : (fs : List Fault) (r : Result Layout Stop) (k : Layout → Result Layout Stop) → and_then (unless_broken fs r) k ≡ unless_broken fs (and_then r k)
then_unless [] r k = refl
then_unless (f ∷ fs) r k = refl

cond_unless : (s : Bool) (at : ℕ) (r : Result Layout Stop) → cond s (Err (Broken P06 at)) r ≡ unless_broken (cond s (record { rule = P06; at = at } ∷ []) []) r
cond_unless true at r = refl
cond_unless false at r = refl

-- the faults of the indentation
abbrev begin_rules : ℕ → Bool → Option ℕ → Change → List Fault
begin_rules at f tab v = at_tab tab ++ cond (goes_astray f v) (record { rule = P03; at = at } ∷ []) []

judge_is : (at : ℕ) (f : Bool) (tab : Option ℕ) (v : Change) (k : Change → Result Layout Stop) → and_then (judge_by at f tab v) k ≡ unless_broken (begin_rules at f tab v) (k v)
judge_is at f (Some tab) v k = refl
judge_is at f None Same k = refl
judge_is at true None Opens k = refl
judge_is at false None Opens k = refl
judge_is at f None (Closes n) k = refl
judge_is at f None Astray k = refl

-- a line before whose next piece stand w tokens and d open brackets
abbrev lay : List Token → List ℕ → ℕ → ℕ → ℕ → Option ℕ → Layout
lay t c w d col tab = record { tokens = t; columns = c; depth = d; words = w; fresh = false; column = col; tab = tab }

inner : (spot : Spot) (kind : TokenKind) (n : ℕ) (t : List Token) (c : List ℕ) (w d col : ℕ) (tab : Option ℕ) (v : Change)
    → and_then (change_to spot (lay t c w d col tab) v) (with_word kind spot n)
    ≡ unless_broken (cond ((opens v && nat_lt 20 (length c)) || nat_le 512 w) (record { rule = P06; at = spot.at } ∷ []) []) (Ok (lay (t ++ (shift v spot ++ token_at kind spot n ∷ [])) (columns_by v c col) (w + 1) d col tab))
inner spot kind n t c w d col tab Same = cond_unless (nat_le 512 w) spot.at _
inner spot kind n t c w d col tab Astray = cond_unless (nat_le 512 w) spot.at _
inner spot kind n t c w d col tab (Closes k) =
    cond_unless (nat_le 512 w) spot.at _
    ∙ ap (λ q. unless_broken (cond (nat_le 512 w) (record { rule = P06; at = spot.at } ∷ []) []) (Ok (lay q (take (length c - k) c) (w + 1) d col tab))) (append_assoc t (shift (Closes k) spot) (token_at kind spot n ∷ []))
inner spot kind n t c w d col tab Opens = by (nat_lt 20 (length c))
  where
    by : (r : Bool) → and_then (cond r (Err (Broken P06 spot.at)) (Ok (lay (t ++ shift Opens spot) (c ++ col ∷ []) w d col tab))) (with_word kind spot n)
        ≡ unless_broken (cond (r || nat_le 512 w) (record { rule = P06; at = spot.at } ∷ []) []) (Ok (lay (t ++ (shift Opens spot ++ token_at kind spot n ∷ [])) (c ++ col ∷ []) (w + 1) d col tab))
    by true = refl
    by false = cond_unless (nat_le 512 w) spot.at _
        ∙ ap (λ q. unless_broken (cond (nat_le 512 w) (record { rule = P06; at = spot.at } ∷ []) []) (Ok (lay q (c ++ col ∷ []) (w + 1) d col tab))) (append_assoc t (shift Opens spot) (token_at kind spot n ∷ []))

-- a token, by whether it is the line's first
word_by : (q f : Bool) (spot : Spot) (kind : TokenKind) (n : ℕ) (t : List Token) (c : List ℕ) (w d col : ℕ) (tab : Option ℕ) → (q ≡ true → (length t == 0) ≡ f)
    → and_then (cond q (after_change spot (lay t (cond q c (columns_by (change_at c col) c col)) w d col tab)) (Ok (lay t (cond q c (columns_by (change_at c col) c col)) w d col tab))) (with_word kind spot n)
    ≡ unless_broken (cond q (begin_rules spot.at f tab (change_at c col)) [])
    (unless_broken (cond ((q && (opens (change_at c col) && nat_lt 20 (length c))) || nat_le 512 w) (record { rule = P06; at = spot.at } ∷ []) [])
    (Ok (lay (t ++ (cond q (shift (change_at c col) spot) [] ++ token_at kind spot n ∷ [])) (columns_by (change_at c col) c col) (w + 1) d col tab)))
word_by false f spot kind n t c w d col tab h = cond_unless (nat_le 512 w) spot.at _
word_by true f spot kind n t c w d col tab h =
    let v = change_at c col in
    let l = lay t c w d col tab in
    ap (λ q. and_then (and_then (judge_by spot.at q tab v) (change_to spot l)) (with_word kind spot n)) (h refl)
    ∙ ap (λ q. and_then q (with_word kind spot n)) (judge_is spot.at f tab v (change_to spot l))
    ∙ then_unless (begin_rules spot.at f tab v) (change_to spot l v) (with_word kind spot n)
    ∙ ap (λ q. unless_broken (begin_rules spot.at f tab v) q) (inner spot kind n t c w d col tab v)

-- the rules at a piece, put together as the layout looks at them
regroup : (q g : Bool) (ts gs nest flaw : List Fault) (r : Result Layout Stop)
    → unless_broken (cond q ts [] ++ (cond (q && g) gs [] ++ (nest ++ flaw))) r ≡ unless_broken (cond q (ts ++ cond g gs []) []) (unless_broken nest (unless_broken flaw r))
regroup false g ts gs nest flaw r = unless_append nest flaw r
regroup true g ts gs nest flaw r =
    unless_append ts (cond g gs [] ++ (nest ++ flaw)) r
    ∙ ap (λ q. unless_broken ts q) (unless_append (cond g gs []) (nest ++ flaw) r ∙ ap (λ q. unless_broken (cond g gs []) q) (unless_append nest flaw r))
    ∙ sym (unless_append ts (cond g gs []) (unless_broken nest (unless_broken flaw r)))

no_bracket : (a s : Bool) (f : Fault) (r : Result Layout Stop) → unless_broken (cond (a || (s || false)) (f ∷ []) []) r ≡ unless_broken (cond (a || s) (f ∷ []) []) r
no_bracket true s f r = refl
no_bracket false true f r = refl
no_bracket false false f r = refl

with_open : (a s u : Bool) (f : Fault) (r : Result Layout Stop) → unless_broken (cond (a || (s || u)) (f ∷ []) []) r ≡ unless_broken (cond (a || s) (f ∷ []) []) (unless_broken (cond u (f ∷ []) []) r)
with_open true s u f r = refl
with_open false true u f r = refl
with_open false false true f r = refl
with_open false false false f r = refl

pub later : (w : ℕ) → (w + 1 == 0) ≡ false
later w = grind (arith, nat_tests)

pub zero_words : (w : ℕ) → (w == 0) ≡ true → w ≡ 0
zero_words w h = grind (arith, nat_tests)

-- what stands before a piece agrees with the tokens so far
pub record Sane (f : Bool) (b : Before) (t : List Token) : Type 0 where
  pub first : b.words ≡ 0 → (length t == 0) ≡ f
  pub fresh : b.fresh ≡ true → b.words ≡ 0

abbrev pub at_piece : Spot → What → ℕ → ℕ → Placed
at_piece spot what n spaces = record { spot = spot; piece = record { what = what; len = n }; spaces = spaces }

-- the columns in the rest of a line behind its first token
settled : (c : List ℕ) (w col : ℕ) → cond (w + 1 == 0) c (columns_by (change_at c col) c col) ≡ columns_by (change_at c col) c col
settled c w col = ap (λ q. cond q c (columns_by (change_at c col) c col)) (later w)

word_step : (f : Bool) (spot : Spot) (kind : TokenKind) (n : ℕ) (t : List Token) (c : List ℕ) (b : Before) → Sane f b t
    → after_word kind spot n (record (layout_of c b t) { fresh = false })
    ≡ unless_broken (cond (b.words == 0) (begin_rules spot.at f b.tab (change_at c b.column)) [])
    (unless_broken (cond (((b.words == 0) && (opens (change_at c b.column) && nat_lt 20 (length c))) || nat_le 512 b.words) (record { rule = P06; at = spot.at } ∷ []) [])
    (Ok (lay (t ++ (cond (b.words == 0) (shift (change_at c b.column) spot) [] ++ token_at kind spot n ∷ [])) (columns_by (change_at c b.column) c b.column) (b.words + 1) b.depth b.column b.tab)))
word_step f spot kind n t c b h = word_by (b.words == 0) f spot kind n t c b.words b.depth b.column b.tab (λ e. h.first (zero_words b.words e))

stop_by : (q f : Bool) (rule : Rule) (at : ℕ) (t : List Token) (c : List ℕ) (w d col : ℕ) (tab : Option ℕ) (r : Result Layout Stop) → (q ≡ true → (length t == 0) ≡ f)
    → cond q (and_then (judge_by at (length t == 0) tab (change_at (cond q c (columns_by (change_at c col) c col)) col)) (λ v. Err (Broken rule at))) (Err (Broken rule at))
    ≡ unless_broken (cond q (at_tab tab) [] ++ (cond (q && goes_astray f (change_at c col)) (record { rule = P03; at = at } ∷ []) [] ++ (record { rule = rule; at = at } ∷ []))) r
stop_by false f rule at t c w d col tab r h = refl
stop_by true f rule at t c w d col tab r h =
    ap (λ q. and_then (judge_by at q tab (change_at c col)) (λ v. Err (Broken rule at))) (h refl)
    ∙ judge_is at f tab (change_at c col) (λ v. Err (Broken rule at))
    ∙ sym (regroup true (goes_astray f (change_at c col)) (at_tab tab) (record { rule = P03; at = at } ∷ []) (record { rule = rule; at = at } ∷ []) [] r
    ∙ refl)

blank_by : (fresh : Bool) (c : List ℕ) (w d col col' : ℕ) (tab tab' : Option ℕ) (t : List Token) → (fresh ≡ true → w ≡ 0)
    → cond fresh (lay t (cond (w == 0) c (columns_by (change_at c col) c col)) w d col' tab') (lay t (cond (w == 0) c (columns_by (change_at c col) c col)) w d col tab)
    ≡ lay t (cond (w == 0) c (columns_by (change_at c (cond fresh col' col)) c (cond fresh col' col))) w d (cond fresh col' col) (cond fresh tab' tab)
blank_by false c w d col col' tab tab' t h = refl
blank_by true c w d col col' tab tab' t h =
    let z : (w == 0) ≡ true = ap (λ q. q == 0) (h refl) in
    ap (λ q. lay t (cond q c (columns_by (change_at c col) c col)) w d col' tab') z ∙ ap (λ q. lay t (cond q c (columns_by (change_at c col') c col')) w d col' tab') (sym z)

open_end : (d : ℕ) (l m : Layout) → (d == 0) ≡ false → cond (d == 0) m l ≡ l
open_end d l m e = ap (λ q. cond q m l) e

abbrev nested : Spot → Fault
nested spot = record { rule = P06; at = spot.at }

abbrev far_in : List ℕ → Before → Bool
far_in c b = b.words == 0 && (opens (change_at c b.column) && nat_lt 20 (length c))

abbrev too_many : Spot → Bool → ℕ → List ℕ → Before → List Fault
too_many spot bracket depth c b = cond (far_in c b || (nat_le 512 b.words || (bracket && nat_le 64 depth))) (nested spot ∷ []) []

abbrev beginning : Bool → Spot → List ℕ → Before → List Fault
beginning f spot c b = cond (b.words == 0) (begin_rules spot.at f b.tab (change_at c b.column)) []

-- the layout behind a token, as its line says
abbrev given : Spot → TokenKind → ℕ → List Token → List ℕ → Before → ℕ → Result Layout Stop
given spot kind n t c b depth =
    Ok (lay (t ++ (cond (b.words == 0) (shift (change_at c b.column) spot) [] ++ token_at kind spot n ∷ [])) (cond (b.words + 1 == 0) c (columns_by (change_at c b.column) c b.column)) (b.words + 1) depth b.column b.tab)

as_given : (spot : Spot) (kind : TokenKind) (n : ℕ) (t : List Token) (c : List ℕ) (b : Before) (depth : ℕ)
    → given spot kind n t c b depth ≡ Ok (lay (t ++ (cond (b.words == 0) (shift (change_at c b.column) spot) [] ++ token_at kind spot n ∷ [])) (columns_by (change_at c b.column) c b.column) (b.words + 1) depth b.column b.tab)
as_given spot kind n t c b depth =
    ap (λ q. Ok (lay (t ++ (cond (b.words == 0) (shift (change_at c b.column) spot) [] ++ token_at kind spot n ∷ [])) q (b.words + 1) depth b.column b.tab)) (settled c b.words b.column)

token_rules : (f : Bool) (spot : Spot) (t : List Token) (c : List ℕ) (b : Before) (nest flaw : List Fault) (r : Result Layout Stop)
    → unless_broken (cond (b.words == 0) (at_tab b.tab) [] ++ (cond (b.words == 0 && goes_astray f (change_at c b.column)) (record { rule = P03; at = spot.at } ∷ []) [] ++ (nest ++ flaw))) r ≡ unless_broken (beginning f spot c b) (unless_broken nest (unless_broken flaw r))
token_rules f spot t c b nest flaw r = regroup (b.words == 0) (goes_astray f (change_at c b.column)) (at_tab b.tab) (record { rule = P03; at = spot.at } ∷ []) nest flaw r

bracketed : (k : Layout → Result Layout Stop) (fs gs : List Fault) (m : Layout) → and_then (unless_broken fs (unless_broken gs (Ok m))) k ≡ unless_broken fs (unless_broken gs (k m))
bracketed k fs gs m = then_unless fs (unless_broken gs (Ok m)) k ∙ ap (λ q. unless_broken fs q) (then_unless gs (Ok m) k)

open_left : (f : Bool) (spot : Spot) (n : ℕ) (t : List Token) (c : List ℕ) (b : Before) → Sane f b t
    → and_then (after_word Mark spot n (record (layout_of c b t) { fresh = false })) (with_bracket spot)
    ≡ unless_broken (beginning f spot c b) (unless_broken (cond (far_in c b || nat_le 512 b.words) (nested spot ∷ []) []) (unless_broken (cond (nat_le 64 b.depth) (nested spot ∷ []) []) (given spot Mark n t c b (b.depth + 1))))
open_left f spot n t c b h =
    ap (λ q. and_then q (with_bracket spot)) (word_step f spot Mark n t c b h) ∙ bracketed (with_bracket spot) (beginning f spot c b) (cond (far_in c b || nat_le 512 b.words) (nested spot ∷ []) []) _
    ∙ ap (λ q. unless_broken (beginning f spot c b) (unless_broken (cond (far_in c b || nat_le 512 b.words) (nested spot ∷ []) []) q)) (cond_unless (nat_le 64 b.depth) spot.at _)
    ∙ ap (λ q. unless_broken (beginning f spot c b) (unless_broken (cond (far_in c b || nat_le 512 b.words) (nested spot ∷ []) []) (unless_broken (cond (nat_le 64 b.depth) (nested spot ∷ []) []) q))) (sym (as_given spot Mark n t c b (b.depth + 1)))

open_right : (f : Bool) (spot : Spot) (n spaces : ℕ) (t : List Token) (c : List ℕ) (b : Before)
    → unless_broken (broken_at c f b (at_piece spot Open n spaces)) (Ok (layout_of c (extend b (at_piece spot Open n spaces)) (t ++ tokens_at c b (at_piece spot Open n spaces))))
    ≡ unless_broken (beginning f spot c b) (unless_broken (cond (far_in c b || nat_le 512 b.words) (nested spot ∷ []) []) (unless_broken (cond (nat_le 64 b.depth) (nested spot ∷ []) []) (given spot Mark n t c b (b.depth + 1))))
open_right f spot n spaces t c b =
    token_rules f spot t c b (too_many spot true b.depth c b) [] (given spot Mark n t c b (b.depth + 1))
    ∙ ap (λ q. unless_broken (beginning f spot c b) q) (with_open (far_in c b) (nat_le 512 b.words) (nat_le 64 b.depth) (nested spot) (given spot Mark n t c b (b.depth + 1)))

-- a piece that ends no line
step_by : (what : What) (f : Bool) (spot : Spot) (n spaces : ℕ) (t : List Token) (c : List ℕ) (b : Before) → Sane f b t → ends b (at_piece spot what n spaces) ≡ false
    → after_piece spot (record { what = what; len = n }) spaces (layout_of c b t)
    ≡ unless_broken (broken_at c f b (at_piece spot what n spaces)) (Ok (layout_of c (extend b (at_piece spot what n spaces)) (t ++ tokens_at c b (at_piece spot what n spaces))))
unfolding after_piece
step_by Blanks f spot n spaces t c b h e =
    ap Ok (blank_by b.fresh c b.words b.depth b.column spaces b.tab (first_tab spot.at spaces n) t h.fresh)
    ∙ ap (λ q. Ok (layout_of c (extend b (at_piece spot Blanks n spaces)) q)) (sym (append-nil t))
step_by Skip f spot n spaces t c b h e = ap (λ q. Ok (layout_of c (extend b (at_piece spot Skip n spaces)) q)) (sym (append-nil t))
step_by LineEnd f spot n spaces t c b h e =
    ap Ok (open_end b.depth _ _ e) ∙ ap (λ q. Ok (layout_of c (extend b (at_piece spot LineEnd n spaces)) q)) (sym (append-nil t))
step_by (Wrong rule) f spot n spaces t c b h e =
    stop_by (b.words == 0) f rule spot.at t c b.words b.depth b.column b.tab (Ok (layout_of c (extend b (at_piece spot (Wrong rule) n spaces)) (t ++ tokens_at c b (at_piece spot (Wrong rule) n spaces)))) (λ z. h.first (zero_words b.words z))
step_by (Word kind) f spot n spaces t c b h e =
    word_step f spot kind n t c b h
    ∙ sym (token_rules f spot t c b (too_many spot false b.depth c b) [] (given spot kind n t c b (b.depth))
    ∙ ap (λ q. unless_broken (beginning f spot c b) q) (no_bracket (far_in c b) (nat_le 512 b.words) (nested spot) (given spot kind n t c b (b.depth)))
    ∙ ap (λ q. unless_broken (beginning f spot c b) (unless_broken (cond (far_in c b || nat_le 512 b.words) (nested spot ∷ []) []) q)) (as_given spot kind n t c b b.depth))
step_by Close f spot n spaces t c b h e =
    ap (λ q. and_then q without_bracket) (word_step f spot Mark n t c b h) ∙ bracketed without_bracket (beginning f spot c b) (cond (far_in c b || nat_le 512 b.words) (nested spot ∷ []) []) _
    ∙ sym (token_rules f spot t c b (too_many spot false b.depth c b) [] (given spot Mark n t c b (b.depth - 1))
    ∙ ap (λ q. unless_broken (beginning f spot c b) q) (no_bracket (far_in c b) (nat_le 512 b.words) (nested spot) (given spot Mark n t c b (b.depth - 1)))
    ∙ ap (λ q. unless_broken (beginning f spot c b) (unless_broken (cond (far_in c b || nat_le 512 b.words) (nested spot ∷ []) []) q)) (as_given spot Mark n t c b (b.depth - 1)))
step_by Open f spot n spaces t c b h e = open_left f spot n t c b h ∙ sym (open_right f spot n spaces t c b)
step_by (Flawed kind flaw) f spot n spaces t c b h e =
    let stop : Layout → Result Layout Stop = λ m. Err (Broken P04 (spot.at + flaw)) in
    ap (λ q. and_then q stop) (word_step f spot kind n t c b h) ∙ bracketed stop (beginning f spot c b) (cond (far_in c b || nat_le 512 b.words) (nested spot ∷ []) []) _
    ∙ sym (token_rules f spot t c b (too_many spot false b.depth c b) (record { rule = P04; at = spot.at + flaw } ∷ []) (given spot kind n t c b (b.depth))
    ∙ ap (λ q. unless_broken (beginning f spot c b) q) (no_bracket (far_in c b) (nat_le 512 b.words) (nested spot) (Err (Broken P04 (spot.at + flaw)))))

-- one piece that ends no line
pub step : (f : Bool) (p : Placed) (t : List Token) (c : List ℕ) (b : Before) → Sane f b t → ends b p ≡ false
    → after_piece p.spot p.piece p.spaces (layout_of c b t) ≡ unless_broken (broken_at c f b p) (Ok (layout_of c (extend b p) (t ++ tokens_at c b p)))
step f p t c b h e = step_by p.piece.what f p.spot p.piece.len p.spaces t c b h e
