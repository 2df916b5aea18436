-- What is known of names, and what expressions of them have.
use Rattle.std.proofs.Common.{◌≡◌, ℕ, ◌<◌, List, [], ◌∷◌, length, map, All, Option, Some, None, refl, sym, ap, ◌∙◌, arith}
use Rattle.std.specs.Prelude.{IsTrue, is_some, unwrap_or}
use Rattle.std.specs.Option.{option_map}
use Rattle.std.specs.Ordering.{nat_cmp}
use Rattle.std.specs.Cmp.Lexicographic.{slice_cmp}
use Rattle.std.specs.BTreeMap.{get}
use Rattle.std.proofs.lemmas.List.Elements.{All-nil, All-head, All-tail, All-map}
use Rattle.hz_altern.specs.declared.known.Known.{Known}
use Rattle.hz_altern.specs.declared.known.Entry.{Entry}
use Rattle.hz_altern.specs.declared.mark.Mark.{Mark}
use Rattle.hz_altern.specs.declared.mark.Mark.TheVariants.{Comma, Bar, Plus}
use Rattle.hz_altern.specs.Shapes.{alternatives}
use Rattle.hz_altern.specs.Joinings.{IsListed, joined_parts}
use Rattle.hz_altern.specs.Tables.{alternatives_in, known_alternatives, known_extent, is_held, AreRight}
use Rattle.hz_altern.specs.Extents.{reported}
use Rattle.hz_altern.proofs.PartLemmas.{some_joined}
use Rattle.hz_altern.proofs.ListedLemmas.{listed_itself, IsListed-listed}
use Rattle.hz_description_model.specs.Reservations.Alternatives.{Alternative, Expression, alternatives_of, parts_of}
use Rattle.hz_description_model.specs.Reservations.AlternativeLists.{IsPlaced, extent_of, greatest_length}
use Rattle.hz_description_model.specs.Reservations.Automata.{UnitPlace, listed}
use Rattle.hz_description_model.specs.Reservations.Expressions.{is_expression, are_expressions}
use Rattle.hz_description_model.specs.Reservations.NamesIn.{all_names, all_names_in}
use Rattle.hz_description_model.proofs.Reservations.ExpressionLaws.{some_alternatives}
use Rattle.hz_description_model.proofs.Reservations.PlacedLaws.{placed_alternatives, placed_sequence, placed_any, placed_together, name_passes, name_in_passes}

-- ---- one name

-- what an entry holds, and nothing where there is none
abbrev held_by : Option Entry → List (Alternative UnitPlace)
held_by o = unwrap_or (option_map (λ entry. alternatives entry.alts.items) o) []

placed_entry : (o : Option Entry) → All IsPlaced (held_by o)
placed_entry None = All-nil IsPlaced
placed_entry (Some entry) = λ k d lt. (entry.sound.each k d lt).placed

listed_entry : (o : Option Entry) → All IsListed (held_by o)
listed_entry None = All-nil IsListed
listed_entry (Some entry) = λ k d lt. record { placed = (entry.sound.each k d lt).placed; ascending = (entry.sound.each k d lt).ascending }

some_entry : (o : Option Entry) → IsTrue (is_some (option_map (λ (entry : Entry). alternatives entry.alts.items) o)) → 0 < length (held_by o)
some_entry None h = absurd (cc)
some_entry (Some entry) h = entry.sound.some

map_listed : (xs : List (Alternative UnitPlace)) → All IsListed xs → map listed xs ≡ xs
map_listed [] each = refl
map_listed (x ∷ xs) each = ap (λ y. y ∷ map listed xs) (listed_itself x (All-head IsListed x xs each)) ∙ ap (λ ys. x ∷ ys) (map_listed xs (All-tail IsListed x xs each))

module _ (k : Known) where
  placed_known : (name : List ℕ) → All IsPlaced (known_alternatives k name)
  placed_known name = placed_entry (get (slice_cmp nat_cmp) k.names name)

  pub known_listed : (name : List ℕ) → map listed (known_alternatives k name) ≡ known_alternatives k name
  known_listed name = map_listed (known_alternatives k name) (listed_entry (get (slice_cmp nat_cmp) k.names name))

  some_known : (name : List ℕ) → IsTrue (is_held (alternatives_in k) name) → 0 < length (known_alternatives k name)
  some_known name h = some_entry (get (slice_cmp nat_cmp) k.names name) h

  -- a name with one alternative runs for some cycle
  pub name_runs : (name : List ℕ) → length (known_alternatives k name) ≡ 1 → 0 < greatest_length (known_alternatives k name)
  name_runs name one = runs (known_alternatives k name) one (placed_known name)
    where
      runs : (xs : List (Alternative UnitPlace)) → length xs ≡ 1 → All IsPlaced xs → 0 < greatest_length xs
      runs [] one each = absurd (omega arith)
      runs (x ∷ xs) one each = let some = (All-head IsPlaced x xs each).runs in omega arith

  -- ---- expressions

  pub some_of : (e : Expression) → IsTrue (is_expression e) → IsTrue (all_names (is_held (alternatives_in k)) e) → 0 < length (alternatives_of (known_alternatives k) e)
  some_of e formed named = some_alternatives (known_alternatives k) e formed (λ name m. some_known name (name_passes (is_held (alternatives_in k)) e named name m))

  pub placed_of : (e : Expression) → IsTrue (is_expression e) → All IsPlaced (alternatives_of (known_alternatives k) e)
  placed_of e formed = placed_alternatives (known_alternatives k) e formed (λ name _. placed_known name)

  pub some_of_parts : (mark : Mark) (es : List Expression) → 0 < length es → IsTrue (are_expressions (parts_of es)) → IsTrue (all_names_in (is_held (alternatives_in k)) (parts_of es)) → 0 < length (joined_parts mark (known_alternatives k) (parts_of es))
  some_of_parts mark es h formed named = some_joined mark (known_alternatives k) es h formed (λ name m. some_known name (name_in_passes (is_held (alternatives_in k)) (parts_of es) named name m))

  pub placed_of_parts : (mark : Mark) (es : List Expression) → 0 < length es → IsTrue (are_expressions (parts_of es)) → All IsPlaced (joined_parts mark (known_alternatives k) (parts_of es))
  placed_of_parts mark [] h formed = absurd (omega arith)
  placed_of_parts Comma (e ∷ es) h formed = placed_sequence (known_alternatives k) (parts_of (e ∷ es)) tt formed (λ name _. placed_known name)
  placed_of_parts Bar (e ∷ es) h formed = placed_any (known_alternatives k) (parts_of (e ∷ es)) formed (λ name _. placed_known name)
  placed_of_parts Plus (e ∷ es) h formed = placed_together (known_alternatives k) (parts_of (e ∷ es)) tt formed (λ name _. placed_known name)

-- alternatives that a description can have, each listed the one way
pub all_listed : (xs : List (Alternative UnitPlace)) → All IsPlaced xs → All IsListed (map listed xs)
all_listed xs each = All-map IsListed listed xs (λ k d lt. IsListed-listed _ (each k d lt))

-- the alternatives of a name that is known are those of its entry, listed the one way
pub named_listed : (k : Known) (name : List ℕ) (xs : List (Alternative UnitPlace)) → alternatives_in k name ≡ Some xs → xs ≡ map listed (known_alternatives k name)
named_listed k name xs is =
    let same : known_alternatives k name ≡ xs = ap (λ o. unwrap_or o []) is in
    sym same ∙ sym (known_listed k name)

-- ---- extents of what is known

right_entry : (o : Option Entry) → IsTrue (is_some (option_map (λ (entry : Entry). alternatives entry.alts.items) o)) → option_map (λ (entry : Entry). reported entry.extent) o ≡ Some (extent_of (held_by o))
right_entry None h = absurd (cc)
right_entry (Some entry) h = ap Some entry.reported

-- the extents are those of the alternatives
pub right_known : (k : Known) (e : Expression) → IsTrue (all_names (is_held (alternatives_in k)) e) → AreRight (known_extent k) (known_alternatives k) e
right_known k e named = record {
  each = λ name m. right_entry (get (slice_cmp nat_cmp) k.names name) (name_passes (is_held (alternatives_in k)) e named name m);
  some = λ name m. some_known k name (name_passes (is_held (alternatives_in k)) e named name m);
}
