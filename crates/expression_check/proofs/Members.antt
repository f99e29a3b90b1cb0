-- Members of what is no value.
use Rattle.std.proofs.Common.{◌≡◌, ℕ, List, [], ◌∷◌, map, refl, ap, sym, ◌∙◌}
use Rattle.puya_base.specs.declared.source.Place.{Place}
use Rattle.py_grammar.specs.declared.word.Word.{Word}
use Rattle.algopy_library.specs.declared.member.Member.{Member}
use Rattle.source_names.specs.declared.named.Thing.{Thing}
use Rattle.source_names.specs.declared.named.Thing.TheVariants as thing
use Rattle.source_names.specs.Things.{member_of}
use Rattle.meaning_rules.specs.declared.scope.Local.{Local}
use Rattle.meaning_rules.specs.declared.scope.Scope.{Scope}
use Rattle.meaning_rules.specs.Operations.{found_says, method_pairs, thing_member}
use Rattle.expression_check.specs.declared.sight.Sight.{Sight}
use Rattle.expression_check.specs.Sights.{method_of, seen}

pairs_again : (ms : List (List ℕ × ℕ)) → method_pairs (map method_of ms) ≡ ms
pairs_again [] = refl
pairs_again (m ∷ ms) = ap (λ r. m ∷ r) (pairs_again ms)

beside : (s : Scope) (p : Place) (t : Thing) (w : Word) → ((m : Member) → t ≡ thing.Member m → ⊥) → thing_member s p t w ≡ found_says s.constants p (member_of (method_pairs s.methods) t w)
beside s p (thing.Library r) w other = refl
beside s p (thing.Member m) w other = absurd (other m refl)
beside s p (thing.Constant i) w other = refl
beside s p (thing.Function i) w other = refl
beside s p (thing.Class i) w other = refl
beside s p (thing.Method i) w other = refl
beside s p thing.Myself w other = refl
beside s p thing.Variable w other = refl
beside s p thing.Unknown w other = refl

pub beside_values : (v : Sight) (ls : List Local) (p : Place) (t : Thing) (w : Word) → ((m : Member) → t ≡ thing.Member m → ⊥)
    → found_says v.constants p (member_of v.methods t w) ≡ thing_member (seen v ls) p t w
beside_values v ls p t w other =
    ap (λ ms. found_says v.constants p (member_of ms t w)) (sym (pairs_again v.methods)) ∙ sym (beside (seen v ls) p t w other)
