use Rattle.std.proofs.Common.{◌≡◌, List, map, sym, ap, ◌∙◌}
use Rattle.hz_mdread.specs.Shape.{description, set_kind}
use Rattle.hz_check.proofs.Lists.Next.{map-map}
use Rattle.hz_description_model.specs.Check.Places.{places_of}
use Rattle.hz_description_model.specs.Reservations.Automata.{UnitPlace}
use Rattle.hz_description_model.specs.Reservations.Sets.{SetKind, Statement}
use Rattle.hz_unitsets.specs.SetRules.{kind_of}
use Rattle.hz_check.proofs.parts.placed_sets.placed_set.Goals as goal

same_statement : (k l : SetKind) (us vs : List UnitPlace) (ps qs : List (List UnitPlace)) → k ≡ l → us ≡ vs → ps ≡ qs → ◌≡◌ {A = Statement UnitPlace} (record { kind = k; units = us; patterns = ps }) (record { kind = l; units = vs; patterns = qs })
same_statement k l us vs ps qs e f g = λ i. record { kind = e i; units = f i; patterns = g i }

pub returns-clause-statement : goal.returns-clause-statement
returns-clause-statement c =
    let set = c.args.set.now in
    let d = description c.args.names.now.desc.now in
    let units = c.in_ok-units.ensures.places ∙ ap (places_of d) c.deref.ensures.value in
    let patterns = c.in_ok-patterns.ensures.places ∙ (ap (map (λ p. places_of d p.items)) c.deref-2.ensures.value ∙ sym (map-map (places_of d) (λ p. p.items) set.patterns.items)) in
    same_statement (kind_of c.kind_of-kind.result) (set_kind set.kind) _ _ _ _ c.kind_of-kind.ensures units patterns
