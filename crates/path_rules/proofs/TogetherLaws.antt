-- Summaries of pieces that make up steps.
use Rattle.std.specs.Prelude.{MatchOption, option_to_list}
use Rattle.std.proofs.Common.{◌≡◌, ℕ, ◌+◌, ◌*◌, ◌<◌, ◌≤◌, length, length-append, arith, Bool, true, false, List, [], ◌∷◌, ◌++◌, reverse, Option, Some, None, refl, sym, ◌∙◌, ap, subst, append_assoc}
use Rattle.std.proofs.lemmas.List.{reverse-append}
use Rattle.std.proofs.lemmas.Bool.{true≢false, false≢true}
use Rattle.path_rules.specs.declared.summary.Summary.{Summary}
use Rattle.path_rules.specs.Steps.{Steps, no_steps, a_step, before}
use Rattle.path_rules.specs.Walks.{Exit, goes, leaves, breaks, continues, Way, out, at, Walks, ended}
use Rattle.path_rules.specs.Summaries.{untouched, endings_from, only_goes, plain, summary_behind, both_or_one}
use Rattle.path_rules.specs.Describes.{has, AreEndings, Ends, Describes, Together, TogetherWith}
use Rattle.path_rules.proofs.EndingLaws.{endings_none, same_exit}
use Rattle.path_rules.proofs.Describing.{describes_behind}

-- ---- lists of steps

pub before-none : (fs : Steps) → before fs no_steps ≡ fs
before-none no_steps = refl
before-none (a_step f fs) = ap (λ g. a_step f g) (before-none fs)

pub before-before : (fs gs hs : Steps) → before (before fs gs) hs ≡ before fs (before gs hs)
before-before no_steps gs hs = refl
before-before (a_step f fs) gs hs = ap (λ g. a_step f g) (before-before fs gs hs)

-- ---- no steps

nothing_more : (x : ℕ) (s : Bool) (w : Way) (t : Bool) → Walks x no_steps s w t → (w ≡ out goes) × (s ≡ t)
nothing_more x _ _ _ (ended s) = (refl, refl)

pub only_has : (e : Exit) → has only_goes e ≡ true → e ≡ goes
only_has goes h = refl
only_has leaves h = absurd (false≢true h)
only_has breaks h = absurd (false≢true h)
only_has continues h = absurd (false≢true h)

none_each : (x : ℕ) (s : Bool) (e : Exit) → has only_goes e ≡ true → Walks x no_steps s (out e) s
none_each x s e h = subst (λ z. Walks x no_steps s (out z) s) (sym (only_has e h)) (ended s)

none_all : (x : ℕ) (s : Bool) (e : Exit) (t : Bool) → Walks x no_steps s (out e) t → has only_goes e ≡ true
none_all x s e t h = same_exit only_goes goes e (sym (nothing_more x s (out e) t h).0) refl

none_from : (x : ℕ) (s : Bool) → AreEndings (Ends x no_steps s) (endings_from s (untouched only_goes))
none_from x true = endings_none (Ends x no_steps true) (λ w h. true≢false (nothing_more x true w false h).1)
none_from x false = record {
  each = λ e h. none_each x false e h;
  all = λ e h. none_all x false e false h;
  first = λ p h. let e = (nothing_more x false (at p) false h).0 in cc;
}

pub describes_nothing : Describes (plain only_goes) no_steps
describes_nothing = record {
  rises = tt;
  others = λ x s. record {
    each = λ e h. (tt, (s, none_each x s e h));
    all = λ e h. none_all x s e h.1.0 h.1.1;
    first = λ p h. h.0;
  };
  effects = none_from;
}

-- ---- pieces

pub together_one : (m : Summary) (fs : Steps) → Together (m ∷ []) fs → Describes m fs
together_one m fs p =
    let e : before p.0 p.1.0 ≡ fs = p.1.1.1.1 in
    let n : no_steps ≡ p.1.0 = p.1.1.1.0 in
    subst (λ g. Describes m g) (sym (before-none p.0) ∙ ap (λ g. before p.0 g) n ∙ e) p.1.1.0

pub together_none : (fs : Steps) → Together [] fs → Describes (plain only_goes) fs
together_none fs e = subst (λ g. Describes (plain only_goes) g) e describes_nothing

both_first : (m n : Summary) (rest : List Summary) (fs : Steps) → Together (m ∷ n ∷ rest) fs → Together (summary_behind m n ∷ rest) fs
both_first m n rest fs p =
    let q = p.1.1.1.0 in
    (before p.0 q.0, (q.1.0, (describes_behind m n p.0 q.0 p.1.1.0 q.1.1.0, (q.1.1.1.0, before-before p.0 q.0 q.1.0 ∙ ap (λ g. before p.0 g) q.1.1.1.1 ∙ p.1.1.1.1))))

pub both_at : (ms : List Summary) (m n : Summary) (rest : List Summary) (fs : Steps) → Together (ms ++ m ∷ n ∷ rest) fs → Together (ms ++ summary_behind m n ∷ rest) fs
both_at [] m n rest fs p = both_first m n rest fs p
both_at (l ∷ ms) m n rest fs p = (p.0, (p.1.0, (p.1.1.0, (both_at ms m n rest p.1.0 p.1.1.1.0, p.1.1.1.1))))

pub with_one_more : (ms : List Summary) (m : Summary) (fs gs : Steps) → Together ms fs → Describes m gs → Together (ms ++ m ∷ []) (before fs gs)
with_one_more [] m fs gs e h = (gs, (no_steps, (h, (refl, before-none gs ∙ ap (λ f. before f gs) e))))
with_one_more (l ∷ ms) m fs gs p h = (p.0, (before p.1.0 gs, (p.1.1.0, (with_one_more ms m p.1.0 gs p.1.1.1.0 h, sym (before-before p.0 p.1.0 gs) ∙ ap (λ f. before f gs) p.1.1.1.1))))

pub none_yet : (fs : Steps) → TogetherWith [] fs fs
none_yet fs = record { so_far = no_steps; together = refl; all_of = refl }

pub one_more : (ms : List Summary) (m : Summary) (gs rest whole : Steps) → TogetherWith ms (before gs rest) whole → Describes m gs → TogetherWith (ms ++ m ∷ []) rest whole
one_more ms m gs rest whole h k = record {
  so_far = before h.so_far gs;
  together = with_one_more ms m h.so_far gs h.together k;
  all_of = before-before h.so_far gs rest ∙ h.all_of;
}

pub all_there : (ms : List Summary) (whole : Steps) → TogetherWith ms no_steps whole → Together ms whole
all_there ms whole h = subst (λ f. Together ms f) (sym (before-none h.so_far) ∙ h.all_of) h.together

pub with_last : (ms : List Summary) (m : Summary) (gs whole : Steps) → TogetherWith ms gs whole → Describes m gs → Together (ms ++ m ∷ []) whole
with_last ms m gs whole h k = subst (λ f. Together (ms ++ m ∷ []) f) h.all_of (with_one_more ms m h.so_far gs h.together k)

-- ---- what halving does

halved_pair : (ps hs : List Summary) (m n : Summary) (fs : Steps) → Together (((ps ++ m ∷ []) ++ n ∷ []) ++ reverse hs) fs → Together (ps ++ reverse (hs ++ summary_behind m n ∷ [])) fs
halved_pair ps hs m n fs h =
    subst (λ l. Together (ps ++ l) fs) (sym (reverse-append hs (summary_behind m n ∷ [])))
    (both_at ps m n (reverse hs) fs (subst (λ l. Together l fs) (append_assoc (ps ++ m ∷ []) (n ∷ []) (reverse hs) ∙ append_assoc ps (m ∷ []) (n ∷ reverse hs)) h))

halved_last : (ps hs : List Summary) (n : Summary) (fs : Steps) → Together (((ps ++ []) ++ n ∷ []) ++ reverse hs) fs → Together (ps ++ reverse (hs ++ n ∷ [])) fs
halved_last ps hs n fs h =
    subst (λ l. Together (ps ++ l) fs) (sym (reverse-append hs (n ∷ [])))
    (subst (λ l. Together l fs) (append_assoc (ps ++ []) (n ∷ []) (reverse hs) ∙ append_assoc ps [] (n ∷ reverse hs)) h)

halved_step : (ps hs : List Summary) (r : Option Summary) (n : Summary) (fs : Steps) → Together (((ps ++ option_to_list r) ++ n ∷ []) ++ reverse hs) fs → Together (ps ++ reverse (hs ++ both_or_one r n ∷ [])) fs
halved_step ps hs None n fs h = halved_last ps hs n fs h
halved_step ps hs (Some m) n fs h = halved_pair ps hs m n fs h

pub halving : (parts mid ps hs into : List Summary) (r : Option Summary) (n : Summary) → parts ≡ mid ++ n ∷ [] → mid ≡ ps ++ option_to_list r → into ≡ hs ++ both_or_one r n ∷ [] → (fs : Steps) → Together (parts ++ reverse hs) fs → Together (ps ++ reverse into) fs
halving parts mid ps hs into r n e f g fs h =
    let is : parts ++ reverse hs ≡ ((ps ++ option_to_list r) ++ n ∷ []) ++ reverse hs = ap (λ l. l ++ reverse hs) (e ∙ ap (λ l. l ++ n ∷ []) f) in
    subst (λ l. Together (ps ++ reverse l) fs) (sym g) (halved_step ps hs r n fs (subst (λ l. Together l fs) is h))

pub halving_counts : (r : Option Summary) (h p q t n : ℕ) → MatchOption r ((q ≡ 0) × (t ≡ 0)) (λ _. t + 1 ≡ q) → q + 1 ≡ p → 2 * h + p ≤ n → (2 * (h + 1) + t ≤ n + 1) × (0 < t → 2 * (h + 1) + t ≤ n)
halving_counts None h p q t n c e f = let z = c.1 in (omega arith, λ (k : 0 < t). omega arith)
halving_counts (Some m) h p q t n c e f = (omega arith, λ (k : 0 < t). omega arith)

-- ---- what is left in the end

pub last_one : (ps : List Summary) (all : Summary) (parts : List Summary) → parts ≡ ps ++ all ∷ [] → length parts ≤ 1 → (fs : Steps) → Together parts fs → Describes all fs
last_one [] all parts e h fs k = together_one all fs (subst (λ l. Together l fs) e k)
last_one (p ∷ ps) all parts e h fs k = absurd (omega (arith, ap length e, length-append ps (all ∷ [])))

pub left_none : (parts : List Summary) → length parts ≡ 0 → (fs : Steps) → Together parts fs → Describes (plain only_goes) fs
left_none [] h fs k = together_none fs k
left_none (p ∷ parts) h fs k = absurd (omega arith)
