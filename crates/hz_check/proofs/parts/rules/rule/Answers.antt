use Rattle.std.proofs.Common.{◌≡◌, ℕ, List, map, sym, ap, ◌∙◌}
use Rattle.hz_check_reservations.specs.Shape.{place_of}
use Rattle.hz_check.proofs.Lists.Next.{map-map}
use Rattle.hz_description_model.specs.Reservations.Inside.{unit_numbers}
use Rattle.hz_description_model.specs.Reservations.Sets.{SetKind, Statement}
use Rattle.hz_unitsets.specs.SetRules.{kind_of}
use Rattle.hz_check.proofs.parts.rules.rule.Goals as goal

same_statement : (k : SetKind) (us vs : List ℕ) (ps qs : List (List ℕ)) → us ≡ vs → ps ≡ qs → ◌≡◌ {A = Statement ℕ} (record { kind = k; units = us; patterns = ps }) (record { kind = k; units = vs; patterns = qs })
same_statement k us vs ps qs f g = λ i. record { kind = k; units = f i; patterns = g i }

pub returns : goal.returns
returns c =
    let set = c.args.set.now in
    same_statement (kind_of set.kind) _ _ _ _
    (c.in_ok-units.ensures ∙ ap (λ ps. unit_numbers (map place_of ps)) c.deref.ensures.value)
    (c.in_ok-patterns.ensures
    ∙ (ap (map (λ p. unit_numbers (map place_of p.items))) c.deref-2.ensures.value ∙ sym (map-map unit_numbers (λ p. map place_of p.items) set.patterns.items)))
