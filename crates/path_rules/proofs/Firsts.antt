-- The least of what two predicates have.
use Rattle.std.proofs.Common.{◌≡◌, ◌⊎◌, inl, inr, Bool, true, false, Option, Some, None, refl}
use Rattle.std.specs.Prelude.{if◌then◌else◌}
use Rattle.path_rules.specs.Rules.{IsLeast}
use Rattle.path_rules.specs.Order.{earlier}

-- the test tells the order
pub record IsTest {A : Type 0} (first : A → A → Type 0) (test : A → A → Bool) : Type 0 where
  pub holds : (a b : A) → test a b ≡ true → first a b
  pub fails : (a b : A) → test a b ≡ false → first b a
  pub through : (a b c : A) → first a b → first b c → first a c

pub least_iff : {A : Type 0} (first : A → A → Type 0) (P Q : A → Type 0) → ((x : A) → P x → Q x) → ((x : A) → Q x → P x) → (a : Option A) → IsLeast first P a → IsLeast first Q a
least_iff first P Q to from None h = λ x q. h x (from x q)
least_iff first P Q to from (Some a) h = (to a h.0, λ x q. h.1 x (from x q))

by_test : {A : Type 0} (first : A → A → Type 0) (test : A → A → Bool) → IsTest first test → (P Q : A → Type 0) (a b : A) → P a → ((x : A) → P x → first a x) → Q b → ((x : A) → Q x → first b x) → (c : Bool) → test b a ≡ c → IsLeast first (λ x. P x ⊎ Q x) (if c then Some b else Some a)
by_test first test o P Q a b p least_p q least_q true e = (inr q, λ x r. elim r [ inl p' ↦ o.through b a x (o.holds b a e) (least_p x p') | inr q' ↦ least_q x q' ])
by_test first test o P Q a b p least_p q least_q false e = (inl p, λ x r. elim r [ inl p' ↦ least_p x p' | inr q' ↦ o.through a b x (o.fails b a e) (least_q x q') ])

pub least_either : {A : Type 0} (first : A → A → Type 0) (test : A → A → Bool) → IsTest first test → (P Q : A → Type 0) (a b : Option A) → IsLeast first P a → IsLeast first Q b → IsLeast first (λ x. P x ⊎ Q x) (earlier test a b)
least_either first test o P Q None None h k = λ x r. elim r [ inl p ↦ h x p | inr q ↦ k x q ]
least_either first test o P Q None (Some b) h k = (inr k.0, λ x r. elim r [ inl p ↦ absurd (h x p) | inr q ↦ k.1 x q ])
least_either first test o P Q (Some a) None h k = (inl h.0, λ x r. elim r [ inl p ↦ h.1 x p | inr q ↦ absurd (k x q) ])
least_either first test o P Q (Some a) (Some b) h k = by_test first test o P Q a b h.0 h.1 k.0 k.1 (test b a) refl
