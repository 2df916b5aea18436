-- Whether a part has an ask, part by part.
use Rattle.std.proofs.Common.{◌≡◌, ℕ, ◌+◌, ◌<◌, ◌≤◌, ◌==◌, true, false, not, List, [], ◌∷◌, ◌++◌, length, map, get_or, take, drop, refl, sym, ap, subst, ◌∙◌, arith}
use Rattle.std.specs.List.{flat_map}
use Rattle.std.proofs.lemmas.Bool.{eqb-true, eqb-false}
use Rattle.std.proofs.lemmas.List.{append-nil, take-append-drop, take_more, take_all}
use Rattle.std.proofs.lemmas.Grind.{flat_map-append}
use Rattle.std.proofs.lemmas.List.Folds.{flat_map-map}
use Rattle.hz_pipeline_model.specs.Tables.Machines.{names_of}
use Rattle.hz_pipeline_model.specs.Tables.Machines as machines
use Rattle.hz_tables.specs.declared.part.Part.{Part}
use Rattle.hz_tables.specs.Parts.{part_of}
use Rattle.hz_tabtext_model.specs.Fields.{is_nil}
use Rattle.hz_tabfile.specs.Saying.{are_asked}

-- the names of what is asked for in parts
abbrev pub asks_in : List Part → List (List ℕ)
asks_in parts = flat_map (λ part. part.asks.items) parts

names_more : (parts : List Part) (i : ℕ) (d : Part) → i < length parts → asks_in (take (i + 1) parts) ≡ asks_in (take i parts) ++ (get_or parts i d).asks.items
names_more parts i d inside =
    ap asks_in (take_more parts i d inside) ∙ (flat_map-append (λ (p : Part). p.asks.items) (take i parts) (get_or parts i d ∷ []) ∙ ap (λ (names : List (List ℕ)). asks_in (take i parts) ++ names) (append-nil (get_or parts i d).asks.items))

names_parts : (parts : List Part) (i : ℕ) (d : Part) → i < length parts → asks_in parts ≡ (asks_in (take i parts) ++ (get_or parts i d).asks.items) ++ asks_in (drop (i + 1) parts)
names_parts parts i d inside =
    ap asks_in (sym (take-append-drop (i + 1) parts)) ∙ (flat_map-append (λ (p : Part). p.asks.items) (take (i + 1) parts) (drop (i + 1) parts) ∙ ap (λ (names : List (List ℕ)). names ++ asks_in (drop (i + 1) parts)) (names_more parts i d inside))

same_names : (parts : List Part) → names_of (map part_of parts) ≡ asks_in parts
same_names parts = flat_map-map (λ (part : machines.Part). part.asks) part_of parts

no_names : (names : List (List ℕ)) → (length names == 0) ≡ true → names ≡ []
no_names [] h = refl
no_names (name ∷ names) h = absurd (omega (arith, eqb-true (length (name ∷ names)) 0 h))

some_names : (names more : List (List ℕ)) → (length names == 0) ≡ false → is_nil (names ++ more) ≡ false
some_names [] more h = absurd (eqb-false 0 0 h refl)
some_names (name ∷ names) more h = refl

module _ (parts : List Part) (i : ℕ) (part : Part) (none : asks_in (take i parts) ≡ []) where
  pub none_more : i < length parts → part ≡ get_or parts i part → (length part.asks.items == 0) ≡ true → asks_in (take (i + 1) parts) ≡ []
  none_more inside is empty =
      names_more parts i part inside ∙ (ap (λ (names : List (List ℕ)). names ++ (get_or parts i part).asks.items) none ∙ (ap (λ (p : Part). p.asks.items) (sym is) ∙ no_names part.asks.items empty))

  pub some_asked : i < length parts → part ≡ get_or parts i part → (length part.asks.items == 0) ≡ false → true ≡ are_asked parts
  some_asked inside is some =
      let rest : List (List ℕ) = asks_in (drop (i + 1) parts) in
      let is_parts : names_of (map part_of parts) ≡ part.asks.items ++ rest = same_names parts ∙ (names_parts parts i part inside ∙ (ap (λ (names : List (List ℕ)). (names ++ (get_or parts i part).asks.items) ++ rest) none ∙ ap (λ (p : Part). p.asks.items ++ rest) (sym is))) in
      sym (ap (λ (names : List (List ℕ)). not (is_nil names)) is_parts ∙ ap not (some_names part.asks.items rest some))

pub none_asked : (parts : List Part) (i : ℕ) → length parts ≤ i → asks_in (take i parts) ≡ [] → false ≡ are_asked parts
none_asked parts i most none =
    sym (ap (λ (names : List (List ℕ)). not (is_nil names)) (same_names parts ∙ subst (λ (ps : List Part). asks_in ps ≡ []) (take_all i parts most) none))
