-- Classes with their lists.
use Rattle.std.proofs.Common.{◌≡◌, ℕ, List, [], ◌∷◌, ◌++◌, map, filter, length, take, get_or, ◌+◌, ◌<◌, refl, sym, ap, ◌∙◌, arith}
use Rattle.std.specs.List.{range_with_len}
use Rattle.std.specs.declared.alloc.Global.{Global}
use Rattle.std.specs.declared.vec.Vec.{Vec}
use Rattle.std.proofs.lemmas.List.{length-map, length-take, length_push, map-append}
use Rattle.std.proofs.Math.Path.{fun_ext}
use Rattle.hz_altern.specs.declared.alternative.Alt.{Alt}
use Rattle.hz_altern.specs.Shapes.{alternatives}
use Rattle.hz_mdread.specs.declared.items.ClassItem.{ClassItem as StoredClass}
use Rattle.hz_mdread.specs.Shape.{class_item}
use Rattle.hz_check.specs.Parts.Classes.{lists_in, class_with, classes_with}
use Rattle.hz_check.proofs.Lists.Next.{map-map, taken_more}
use Rattle.hz_description_model.specs.Reservations.Alternatives.{Alternative, alternatives_of}
use Rattle.hz_description_model.specs.Reservations.Automata.{UnitPlace, ascending, listed, cut, inside, is_of, list_in, without_repeats}
use Rattle.hz_description_model.specs.Check.Places.{Known}
use Rattle.hz_description_model.specs.Check.CheckedParts.{ClassParts, automaton_count, class_parts}
use Rattle.hz_description_model.specs.Reading.Descriptions.{Description, ClassItem}
use Rattle.hz_base_model.specs.Pairs.{Pair, grid_eq}
use Rattle.hz_description_model.proofs.Reservations.AscendingLaws.{IsAscending-ascending, ascending_itself}

-- a listed alternative is cut down to the same pairs
cut_listed : (automaton : ℕ) (a : Alternative UnitPlace) → cut automaton (ascending a.pairs) ≡ cut automaton a.pairs
cut_listed automaton a = ap (λ (ps : List (Pair UnitPlace)). map inside (filter (is_of automaton) ps)) (ascending_itself (ascending a.pairs) (IsAscending-ascending a.pairs))

pub list_in-listed : (automaton : ℕ) (alts : List (Alternative UnitPlace)) → list_in automaton (map listed alts) ≡ list_in automaton alts
list_in-listed automaton alts = ap (without_repeats grid_eq)
    (map-map (λ (a : Alternative UnitPlace). cut automaton a.pairs) listed alts ∙ ap (λ (f : Alternative UnitPlace → List (Pair ℕ)). map f alts) (fun_ext (cut_listed automaton)))

lists_in-listed : (automata : ℕ) (alts : List (Alternative UnitPlace)) → lists_in automata (map listed alts) ≡ lists_in automata alts
lists_in-listed automata alts = ap (λ (f : ℕ → List (List (Pair ℕ))). map f (range_with_len 0 automata)) (fun_ext (λ (automaton : ℕ). list_in-listed automaton alts))

-- the classes of a description
pub classes_parts : (d : Description) (known : Known) (automata : ℕ) (classes : List ClassItem) → automaton_count d ≡ automata
    → classes_with automata (map (λ c. map listed (alternatives_of known c.expression)) classes) classes ≡ map (class_parts d known) classes
classes_parts d known automata [] count = refl
classes_parts d known automata (c ∷ classes) count =
    let with_lists : List (List (List (Pair ℕ))) → ClassParts = λ lists. record { name = c.name; line = c.line; latency = c.latency; condition = c.condition; lists = lists } in
    ap (λ (lists : List (List (List (Pair ℕ)))). with_lists lists ∷ classes_with automata (map (λ c. map listed (alternatives_of known c.expression)) classes) classes)
    (lists_in-listed automata (alternatives_of known c.expression) ∙ ap (λ (n : ℕ). lists_in n (alternatives_of known c.expression)) (sym count))
    ∙ ap (λ (parts : List ClassParts). class_parts d known c ∷ parts) (classes_parts d known automata classes count)

-- a class more
pub with_push : (automata : ℕ) (alts : List (List (Alternative UnitPlace))) (classes : List ClassItem) (a : List (Alternative UnitPlace)) (c : ClassItem) → length alts ≡ length classes
    → classes_with automata (alts ++ a ∷ []) (classes ++ c ∷ []) ≡ classes_with automata alts classes ++ class_with automata a c ∷ []
with_push automata [] [] a c same = refl
with_push automata [] (k ∷ classes) a c same = absurd (omega (arith, same))
with_push automata (x ∷ alts) [] a c same = absurd (omega (arith, same))
with_push automata (x ∷ alts) (k ∷ classes) a c same =
    let rest : length alts ≡ length classes = omega (arith, same) in
    ap (λ (parts : List ClassParts). class_with automata x k ∷ parts) (with_push automata alts classes a c rest)

-- a class more, where alternatives and classes are stored
pub classes_next : (automata : ℕ) (alts : List (Vec Alt Global)) (xs : List StoredClass) (i : ℕ) (v : Vec Alt Global) (x : StoredClass) → v ≡ get_or alts i v → i < length alts → i ≡ length xs
    → classes_with automata (map (λ each. alternatives each.items) (take (length (xs ++ x ∷ [])) alts)) (map class_item (xs ++ x ∷ []))
    ≡ classes_with automata (map (λ each. alternatives each.items) (take (length xs) alts)) (map class_item xs) ++ class_with automata (alternatives v.items) (class_item x) ∷ []
classes_next automata alts xs i v x is lt same =
    let each : Vec Alt Global → List (Alternative UnitPlace) = λ w. alternatives w.items in
    let counts : length (map each (take i alts)) ≡ length (map class_item xs) =
    omega (arith, length-map (take i alts) each, length-map xs class_item, length-take i alts, lt, same) in
    ap (λ (n : ℕ). classes_with automata (map each (take n alts)) (map class_item (xs ++ x ∷ []))) (length_push xs x ∙ ap (λ (n : ℕ). n + 1) (sym same))
    ∙ (ap (λ (ys : List (List (Alternative UnitPlace))). classes_with automata ys (map class_item (xs ++ x ∷ []))) (taken_more each alts i v is lt)
    ∙ (ap (λ (cs : List ClassItem). classes_with automata (map each (take i alts) ++ each v ∷ []) cs) (map-append class_item xs (x ∷ []))
    ∙ (with_push automata (map each (take i alts)) (map class_item xs) (each v) (class_item x) counts
    ∙ ap (λ (n : ℕ). classes_with automata (map each (take n alts)) (map class_item xs) ++ class_with automata (each v) (class_item x) ∷ []) same)))
