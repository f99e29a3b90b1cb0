-- The first broken rule of a function, from its summary and from what is told.
use Rattle.std.proofs.Common.{◌≡◌, ℕ, suc, ◌<◌, ◌≤◌, ◌⊎◌, inl, inr, Bool, true, false, List, [], ◌∷◌, Option, Some, None, refl, sym, subst, arith}
use Rattle.std.specs.Prelude.{◌==◌}
use Rattle.std.proofs.lemmas.Bool.{false≢true, eq-eqb, ne_eqb, cond-true, cond-false, cases_order}
use Rattle.puya_base.specs.declared.source.Place.{Place}
use Rattle.puya_base.specs.declared.source.Refusal.{Refusal}
use Rattle.puya_base.specs.declared.source.Rule.{Rule}
use Rattle.puya_base.specs.declared.source.Rule.TheVariants.{P17, P18}
use Rattle.path_rules.specs.declared.note.Note.{Note}
use Rattle.path_rules.specs.declared.summary.Exits.{Exits}
use Rattle.path_rules.specs.declared.summary.Summary.{Summary}
use Rattle.path_rules.specs.declared.summary.Touched.{Touched}
use Rattle.path_rules.specs.Steps.{Steps, steps_of}
use Rattle.path_rules.specs.Walks.{goes, at, Walks}
use Rattle.path_rules.specs.Rules.{refused, TellAll, IsReadUnassigned, IsEndReached, Breaks, told, unassigned, no_return, IsNotAfter, ComesFirst, IsLeast, IsFirst, IsBroken}
use Rattle.path_rules.specs.Order.{is_before, precedes, earlier_place, earlier_refusal}
use Rattle.path_rules.specs.Summaries.{Rises, effect_in}
use Rattle.path_rules.specs.Describes.{Describes}
use Rattle.path_rules.specs.Told.{told_by_all, first_read, refused_at, where_it_holds}
use Rattle.path_rules.proofs.Firsts.{least_iff, least_either}
use Rattle.path_rules.proofs.EndingLaws.{place_test}
use Rattle.path_rules.proofs.MergeLaws.{absent}
use Rattle.path_rules.proofs.RefusalOrder.{refusal_test}
use Rattle.path_rules.proofs.ToldLaws.{told_is_first}

-- ---- the first read of a list of variables

abbrev FromOn : ℕ → (ℕ → Place → Type 0) → Place → Type 0
FromOn n Q p = (x : ℕ) × (n ≤ x) × Q x p

split_at : (n v x : ℕ) → n ≤ x → n ≤ v → (x ≡ v) ⊎ ((x < v) ⊎ (suc v ≤ x))
split_at n v x h k = elim (cases_order x v) [ inl e ↦ inl e | inr c ↦ elim c [ inl l ↦ inr (inl l) | inr g ↦ inr (inr (omega arith)) ] ]

module _ (o : Exits) (Q : ℕ → Place → Type 0) where
  not_named : (n : ℕ) (ts : List Touched) → Rises n ts → (x : ℕ) → x < n → IsLeast IsNotAfter (Q x) (effect_in o x ts).unassigned.read → (p : Place) → Q x p → ⊥
  not_named n ts r x h k p q = subst (λ e. IsLeast IsNotAfter (Q x) e.unassigned.read) (absent o x n ts h r) k p q

  reads_first : (ts : List Touched) (n : ℕ) → Rises n ts → ((x : ℕ) → n ≤ x → IsLeast IsNotAfter (Q x) (effect_in o x ts).unassigned.read) → (P : Place → Type 0) (first : Option Place) → IsLeast IsNotAfter P first
      → IsLeast IsNotAfter (λ p. P p ⊎ FromOn n Q p) (first_read first ts)
  reads_first [] n r each P first h = least_iff IsNotAfter P (λ p. P p ⊎ FromOn n Q p) (λ p k. inl k) (λ p k. elim k [ inl q ↦ q | inr q ↦ absurd (each q.0 q.1 p q.2) ]) first h
  reads_first (t ∷ ts) n r each P first h =
      let v = t.variable in
      let le = r.0 in
      let here : IsLeast IsNotAfter (Q v) t.effect.unassigned.read = subst (λ e. IsLeast IsNotAfter (Q v) e.unassigned.read) (cond-true (v == v) t.effect (effect_in o v ts) (eq-eqb v v refl)) (each v le) in
      let later = λ (x : ℕ) (k : suc v ≤ x).
      let ne : x ≡ v → ⊥ = λ (e : x ≡ v). omega arith in
      let from : n ≤ x = omega arith in
      subst (λ e. IsLeast IsNotAfter (Q x) e.unassigned.read) (cond-false (x == v) t.effect (effect_in o x ts) (ne_eqb x v ne)) (each x from) in
      let up : v ≤ v = omega arith in
      least_iff IsNotAfter (λ p. (P p ⊎ Q v p) ⊎ FromOn (suc v) Q p) (λ p. P p ⊎ FromOn n Q p)
      (λ p k. elim k [
        | inl a ↦ elim a [ inl q ↦ inl q | inr q ↦ inr (v, le, q) ]
        | inr q ↦ (let g = q.1 in inr (q.0, omega arith, q.2))
      ])
      (λ p k. elim k [
        | inl q ↦ inl (inl q)
        | inr q ↦ elim (split_at n v q.0 q.1 le) [
          | inl e ↦ inl (inr (subst (λ z. Q z p) e q.2))
          | inr c ↦ elim c [ inl l ↦ absurd (not_named v (t ∷ ts) (up, r.1) q.0 l (each q.0 q.1) p q.2) | inr g ↦ inr (q.0, g, q.2) ]
        ]
      ])
      (first_read (earlier_place first t.effect.unassigned.read) ts)
      (reads_first ts (suc v) r.1 later (λ p. P p ⊎ Q v p) (earlier_place first t.effect.unassigned.read)
      (least_either IsNotAfter is_before place_test P (Q v) first t.effect.unassigned.read h here))

pub first_unassigned : (m : Summary) (fs : Steps) → Describes m fs → IsLeast IsNotAfter (IsReadUnassigned fs) (first_read None m.touched)
first_unassigned m fs h =
    let Q : ℕ → Place → Type 0 = λ x p. Walks x fs false (at p) false in
    least_iff IsNotAfter (λ p. ⊥ ⊎ FromOn 0 Q p) (IsReadUnassigned fs)
    (λ p k. elim k [ inl z ↦ absurd z | inr q ↦ (q.0, q.2) ]) (λ p q. inr (q.0, omega arith, q.1)) (first_read None m.touched)
    (reads_first m.others Q m.touched 0 h.rises (λ x _. (h.effects x false).first) (λ p. ⊥) None (λ p z. z))

-- ---- refusals at places

abbrev RefusedBy : Rule → (Place → Type 0) → Refusal → Type 0
RefusedBy rule P r = (p : Place) × P p × (refused rule p ≡ r)

refused_first : (rule : Rule) (P : Place → Type 0) (o : Option Place) → IsLeast IsNotAfter P o → IsFirst (RefusedBy rule P) (refused_at rule o)
refused_first rule P None h = λ r k. h k.0 k.1
refused_first rule P (Some p) h = ((p, h.0, refl), λ r k. subst (λ z. ComesFirst (refused rule p) z) k.2 (record { place = h.1 k.0 k.1; rule = λ _. omega arith }))

abbrev EndAt : Steps → Option Place → Place → Type 0
EndAt fs end p = (end ≡ Some p) × IsEndReached fs

some_same : (q p : Place) → Some q ≡ Some p → q ≡ p
some_same q p e = cc

end_first : (fs : Steps) (end : Option Place) (on : Bool) → (on ≡ true → IsEndReached fs) → (IsEndReached fs → on ≡ true) → IsLeast IsNotAfter (EndAt fs end) (where_it_holds on end)
end_first fs None true to from = λ p k. let e = k.0 in cc
end_first fs None false to from = λ p k. let e = k.0 in cc
end_first fs (Some q) true to from = ((refl, to refl), λ p k. let e : q ≡ p = some_same q p k.0 in subst (λ z. IsNotAfter q z) e (inr (refl, omega arith)))
end_first fs (Some q) false to from = λ p k. false≢true (from k.1)

broken_cases : (fs : Steps) (end : Option Place) (r : Refusal) → Breaks fs end r → (TellAll false fs r ⊎ RefusedBy P17 (IsReadUnassigned fs) r) ⊎ RefusedBy P18 (EndAt fs end) r
broken_cases fs end _ (told r t) = inl (inl t)
broken_cases fs end _ (unassigned p h) = inl (inr (p, h, refl))
broken_cases fs end _ (no_return p e h) = inr (p, (e, h), refl)

pub first_broken : (m : Summary) (fs : Steps) (end : Option Place) → Describes m fs
    → IsFirst (Breaks fs end) (earlier_refusal (earlier_refusal (told_by_all None false fs) (refused_at P17 (first_read None m.touched))) (refused_at P18 (where_it_holds m.others.goes end)))
first_broken m fs end h =
    let reads = RefusedBy P17 (IsReadUnassigned fs) in
    let ends = RefusedBy P18 (EndAt fs end) in
    let told_or_read = earlier_refusal (told_by_all None false fs) (refused_at P17 (first_read None m.touched)) in
    let missing = refused_at P18 (where_it_holds m.others.goes end) in
    least_iff ComesFirst (λ r. (TellAll false fs r ⊎ reads r) ⊎ ends r) (Breaks fs end)
    (λ r k. elim k [
      | inl a ↦ elim a [ inl t ↦ told r t | inr q ↦ subst (λ z. Breaks fs end z) q.2 (unassigned q.0 q.1) ]
      | inr q ↦ subst (λ z. Breaks fs end z) q.2 (no_return q.0 q.1.0 q.1.1)
    ])
    (broken_cases fs end) (earlier_refusal told_or_read missing)
    (least_either ComesFirst precedes refusal_test (λ r. TellAll false fs r ⊎ reads r) ends told_or_read missing
    (least_either ComesFirst precedes refusal_test (TellAll false fs) reads (told_by_all None false fs) (refused_at P17 (first_read None m.touched)) (told_is_first fs)
    (refused_first P17 (IsReadUnassigned fs) (first_read None m.touched) (first_unassigned m fs h)))
    (refused_first P18 (EndAt fs end) (where_it_holds m.others.goes end)
    (end_first fs end m.others.goes
    (λ e. let w = ((h.others 0 false).each goes e).1 in (0, w.0, w.1)) (λ k. (h.others k.0 false).all goes (tt, (k.1, k.2))))))

-- what the calls of `broken` give
pub broken_gives : (notes listed : List Note) (m : Summary) (end : Option Place) (touched : List Touched) (read missing : Option Place) (all unread first unended answer : Option Refusal)
    → listed ≡ notes → Describes m (steps_of listed) → touched ≡ m.touched → read ≡ first_read None touched → missing ≡ where_it_holds m.others.goes end
    → all ≡ told_by_all None false (steps_of listed) → unread ≡ refused_at P17 read → first ≡ earlier_refusal all unread → unended ≡ refused_at P18 missing
    → answer ≡ earlier_refusal first unended → IsFirst (IsBroken notes end) answer
broken_gives notes listed m end touched read missing all unread first unended answer same d t r e a p f q w =
    let whole = earlier_refusal (earlier_refusal (told_by_all None false (steps_of listed)) (refused_at P17 (first_read None m.touched))) (refused_at P18 (where_it_holds m.others.goes end)) in
    let is : answer ≡ whole = cc in
    subst (λ l. IsFirst (IsBroken l end) answer) same (subst (λ z. IsFirst (IsBroken listed end) z) (sym is) (first_broken m (steps_of listed) end d))
