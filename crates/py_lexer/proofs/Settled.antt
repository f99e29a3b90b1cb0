-- What the scan and the bytes of a source answer together is its tokens, or the first of its faults.
use Rattle.std.proofs.Common.{◌≡◌, ℕ, ◌+◌, ◌≤◌, ◌<◌, ◌⊎◌, inl, inr, Bool, true, false, cond, List, [], ◌∷◌, length, drop, refl, sym, ◌∙◌, ap, subst, arith}
use Rattle.std.specs.Prelude.{Result, Ok, Err, nat_lt}
use Rattle.std.proofs.lemmas.Bool.{cases_lt}
use Rattle.std.proofs.lemmas.Bool.Decides.{nat_tests}
use Rattle.puya_base.specs.declared.source.Rule.{Rule}
use Rattle.puya_base.specs.declared.source.Rule.TheVariants.{P01, P02, P03, P04, P05, P06, P07, P08, P09, P10, P11, P12, P13, P14, P15, P16, P17, P18, P19, P20, P21, P22, P23, P24, P25}
use Rattle.py_lexer.specs.declared.token.Token.{Token}
use Rattle.py_lexer.specs.declared.layout.Stop.{Stop}
use Rattle.py_lexer.specs.declared.layout.Stop.TheVariants.{Memory, Broken}
use Rattle.py_lexer.specs.Bytes.{Text, first_bad, order_mark_len}
use Rattle.py_lexer.specs.Scan.{behind_text, first_spot, pieces_from, place_of, scanned, earlier}
use Rattle.py_lexer.specs.Lines.{Fault, laid}
use Rattle.py_lexer.specs.Tokens.{number, AtMost, AtMostAll, IsAmong, text_rule, with_text, read_from, read, Refuses}
use Rattle.py_lexer.proofs.LineLaws.{first_of, source_gives}
use Rattle.py_lexer.proofs.FirstFault.{LeadsWhereBroken, laid_leads}
use Rattle.py_lexer.proofs.PiecesStand.{stand}

numbered : (r : Rule) → 1 ≤ number r
numbered P01 = omega arith
numbered P02 = omega arith
numbered P03 = omega arith
numbered P04 = omega arith
numbered P05 = omega arith
numbered P06 = omega arith
numbered P07 = omega arith
numbered P08 = omega arith
numbered P09 = omega arith
numbered P10 = omega arith
numbered P11 = omega arith
numbered P12 = omega arith
numbered P13 = omega arith
numbered P14 = omega arith
numbered P15 = omega arith
numbered P16 = omega arith
numbered P17 = omega arith
numbered P18 = omega arith
numbered P19 = omega arith
numbered P20 = omega arith
numbered P21 = omega arith
numbered P22 = omega arith
numbered P23 = omega arith
numbered P24 = omega arith
numbered P25 = omega arith

itself : (f : Fault) → AtMost f f
itself f = inr (refl, omega arith)

through : (f g h : Fault) → AtMost f g → AtMost g h → AtMost f h
through f g h (inl a) (inl b) = inl (omega arith)
through f g h (inl a) (inr b) = inl (omega (arith, b.0))
through f g h (inr a) (inl b) = inl (omega (arith, a.0))
through f g h (inr a) (inr b) = inr (omega (arith, a.0, b.0), omega (arith, a.1, b.1))

through_all : (f g : Fault) (fs : List Fault) → AtMost f g → AtMostAll g fs → AtMostAll f fs
through_all f g [] h k = tt
through_all f g (x ∷ fs) h k = (through f g x h k.0, through_all f g fs h k.1)

-- a rule and a byte are those of the first of some faults
pub record IsFirst (rule : Rule) (at : ℕ) (r : Result (List Token) (List Fault)) : Type 0 where
  pub faults : List Fault
  pub broken : r ≡ Err faults
  pub fault : Fault
  pub among : IsAmong fault faults
  pub first : AtMostAll fault faults
  pub rule_is : rule ≡ fault.rule
  pub at_is : at ≡ fault.at

-- what is found agrees with what is broken
abbrev pub Settles : Result (List Token) Stop → Result (List Token) (List Fault) → Type 0
Settles (Ok ts) r = r ≡ Ok ts
Settles (Err Memory) r = Unit {0}
Settles (Err (Broken rule at)) r = IsFirst rule at r

text_alone : (q : Bool) (bad : ℕ) (ts : List Token) → Settles (cond q (Err (Broken P01 bad)) (Ok ts)) (with_text (cond q (record { rule = P01; at = bad } ∷ []) []) (Ok ts))
text_alone true bad ts = record {
  faults = record { rule = P01; at = bad } ∷ [];
  broken = refl;
  fault = record { rule = P01; at = bad };
  among = inl refl;
  first = (itself (record { rule = P01; at = bad }), tt);
  rule_is = refl;
  at_is = refl;
}
text_alone false bad ts = refl

before : (x : Fault) (bad : ℕ) → nat_lt x.at bad ≡ true → x.at < bad
before x bad h = grind (arith, nat_tests)

not_before : (at bad n : ℕ) → nat_lt at bad ≡ false → 1 ≤ n → (bad < at) ⊎ ((bad ≡ at) × (1 ≤ n))
not_before at bad n h k = by (cases_lt bad at)
  where
    by : (bad < at) ⊎ (at ≤ bad) → (bad < at) ⊎ ((bad ≡ at) × (1 ≤ n))
    by (inl l) = inl l
    by (inr l) = inr (grind (arith, nat_tests), k)

two : (q r : Bool) (bad : ℕ) (x : Fault) (xs : List Fault) → nat_lt x.at bad ≡ q → AtMostAll x xs
    → Settles (cond q (Err (Broken x.rule x.at)) (cond r (Err (Broken P01 bad)) (Err (Broken x.rule x.at)))) (with_text (cond r (record { rule = P01; at = bad } ∷ []) []) (Err (x ∷ xs)))
two true true bad x xs e h = record {
  faults = record { rule = P01; at = bad } ∷ x ∷ xs;
  broken = refl;
  fault = x;
  among = inr (inl refl);
  first = (inl (before x bad e), (itself x, h));
  rule_is = refl;
  at_is = refl;
}
two false true bad x xs e h =
    let f : Fault = record { rule = P01; at = bad } in
    let k : AtMost f x = not_before x.at bad (number x.rule) e (numbered x.rule) in
    record {
      faults = record { rule = P01; at = bad } ∷ x ∷ xs;
      broken = refl;
      fault = record { rule = P01; at = bad };
      among = inl refl;
      first = (itself f, (k, through_all f x xs k h));
      rule_is = refl;
      at_is = refl;
    }
two true false bad x xs e h = record { faults = x ∷ xs; broken = refl; fault = x; among = inl refl; first = (itself x, h); rule_is = refl; at_is = refl }
two false false bad x xs e h = record { faults = x ∷ xs; broken = refl; fault = x; among = inl refl; first = (itself x, h); rule_is = refl; at_is = refl }

settles : (bad end : ℕ) (r : Result (List Token) (List Fault)) → LeadsWhereBroken r → Settles (earlier bad end (first_of r)) (with_text (text_rule bad end) r)
settles bad end (Ok ts) h = text_alone (nat_lt bad end) bad ts
settles bad end (Err []) h = absurd h
settles bad end (Err (x ∷ xs)) h = two (nat_lt x.at bad) (nat_lt bad end) bad x xs refl h

-- what is found in a source
pub found : (begin : ℕ) (source : Text) → Settles (earlier (begin + first_bad (drop begin source)) (length source) (scanned begin source)) (read_from begin source)
unfolding scanned read_from
found begin source =
    let body = drop begin source in
    let pieces = pieces_from 0 (first_spot begin) body in
    let end = behind_text (first_spot begin) body in
    let bad = begin + first_bad body in
    subst (λ q. Settles (earlier bad (length source) q) (with_text (text_rule bad (length source)) (laid pieces end))) (sym (source_gives pieces end))
    (settles bad (length source) (laid pieces end) (laid_leads pieces end begin (stand 0 (first_spot begin) body)))

-- tokens that are found
pub tokens_found : (begin : ℕ) (source : Text) (ts : List Token) → begin ≡ order_mark_len source → earlier (begin + first_bad (drop begin source)) (length source) (scanned begin source) ≡ Ok ts → read source ≡ Ok ts
tokens_found begin source ts is e = ap (λ q. read_from q source) (sym is) ∙ subst (λ q. Settles q (read_from begin source)) e (found begin source)

-- a fault that is found
pub fault_found : (begin : ℕ) (source : Text) (rule : Rule) (at : ℕ) → begin ≡ order_mark_len source → earlier (begin + first_bad (drop begin source)) (length source) (scanned begin source) ≡ Err (Broken rule at)
    → Refuses source (record { rule = rule; place = place_of begin source at })
fault_found begin source rule at is e =
    let f : IsFirst rule at (read_from begin source) = subst (λ q. Settles q (read_from begin source)) e (found begin source) in
    record {
      faults = f.faults;
      broken = ap (λ q. read_from q source) (sym is) ∙ f.broken;
      fault = f.fault;
      among = f.among;
      first = f.first;
      rule = f.rule_is;
      place = ap (λ q. place_of q source at) is ∙ ap (λ q. place_of (order_mark_len source) source q) f.at_is;
    }
