-- What is put together.
use Rattle.std.proofs.Common.{◌≡◌, ℕ, suc, List, [], ◌∷◌, map, length, refl, ap}
use Rattle.hz_description_model.specs.Check.Places.{Known}
use Rattle.hz_description_model.specs.Check.CheckedParts.{AutomatonParts, ClassParts, BypassParts, automata_from, automata_of, automaton_names, automaton_count, class_parts, bypass_parts, attributes_of}
use Rattle.hz_description_model.specs.Check.CheckedShape.{IsKept}
use Rattle.hz_description_model.specs.Reading.Descriptions.{Description}

length-from : (d : Description) (n : ℕ) (names : List (List ℕ)) → length (automata_from d n names) ≡ length names
length-from d n [] = refl
length-from d n (name ∷ names) = ap suc (length-from d (suc n) names)

-- there are as many automata as names of them
pub length-automata : (d : Description) → length (automata_of d) ≡ automaton_count d
length-automata d = length-from d 0 (automaton_names d)

-- what the parts of a description keep is kept of what they are
pub kept_of : (d : Description) (known : Known) → IsKept (automata_of d) (map (class_parts d known) d.classes) (map (bypass_parts d) d.bypasses) (attributes_of d)
    → (automata : List AutomatonParts) (classes : List ClassParts) (bypasses : List BypassParts) (attributes : List (List ℕ × List (List ℕ)))
    → automata ≡ automata_of d → classes ≡ map (class_parts d known) d.classes → bypasses ≡ map (bypass_parts d) d.bypasses → attributes ≡ attributes_of d
    → IsKept automata classes bypasses attributes
kept_of d known kept automata classes bypasses attributes a c b e = rw (a, c, b, e) kept
