-- Items that are the first with their value, and the values in their order, each once.
use Rattle.std.proofs.Common.{◌≡◌, ℕ, ◌<◌, Bool, List, ◌∷◌, ◌++◌, Some, length, map, Contains, refl, ap, ◌∙◌, subst, arith, slice_get}
use Rattle.std.specs.Bool.{Decides}
use Rattle.hz_description_model.specs.Reservations.Automata.{without_repeats}
use Rattle.hz_base_model.proofs.Elements.{Contains-map}
use Rattle.hz_description_model.proofs.Reservations.FirstPlaces.{NumberedIn, numbered, number_after, in_front, front_number, MappedIn, before_map, KeptFirst, was_first}
use Rattle.hz_pipeline_model.proofs.Pipelines.Choices.{At, within, one_item}

module _ {A B : Type 0} (f : A → B) (same : B → B → Bool) (tells : (x y : B) → Decides (same x y) (x ≡ y)) (xs : List A) where
  abbrev pub values : List B
  values = without_repeats same (map f xs)

  -- the first item that has a value; those before it have values before it
  pub record FirstWith (g : At values) : Type 0 where
    pub at : At xs
    pub is : f at.item ≡ g.item
    pub before : (y : At xs) → y.number < at.number → (h : At values) × (h.number < g.number) × (h.item ≡ f y.item)

  module _ (g : At values) (number : NumberedIn values g.number) (first : KeptFirst same tells (map f xs) number.before number.item) (split : MappedIn f xs first.before number.item) where
    chosen : At xs
    chosen = record { number = length split.before; item = split.item; is = ap (λ (ys : List A). slice_get ys (length split.before)) split.parts ∙ number_after split.before split.item split.after }

    its_value : f split.item ≡ g.item
    its_value = split.is ∙ one_item values (record { number = g.number; item = number.item; is = number.is }) g refl

    module _ (y : At xs) (z : A) (there : Contains split.before z) where
      -- the number of its value, before that of the item
      place : (j : ℕ) × (j < length number.before) × (slice_get (number.before ++ number.item ∷ number.after) j ≡ Some (f z))
      place = front_number number.before (number.item ∷ number.after) (f z)
          (first.within (f z) (subst (λ (bs : List B). Contains bs (f z)) split.mapped (Contains-map f split.before z there)))

      earlier : z ≡ y.item → (h : At values) × (h.number < g.number) × (h.item ≡ f y.item)
      earlier e = (
        record { number = place.0; item = f z; is = ap (λ (bs : List B). slice_get bs place.0) number.parts ∙ place.2 },
        omega (arith, place.1, number.count),
        ap f e,
      )

    in_split : (y : At xs) (z : A) → slice_get (split.before ++ split.item ∷ split.after) y.number ≡ Some z → z ≡ y.item
    in_split y z is = one_item xs (record { number = y.number; item = z; is = ap (λ (ys : List A). slice_get ys y.number) split.parts ∙ is }) y refl

    by_parts : FirstWith g
    unfolding chosen
    by_parts = record {
      at = chosen;
      is = its_value;
      before = λ y lt.
          let found = in_front split.before (split.item ∷ split.after) y.number lt in
          earlier y found.0 found.2 (in_split y found.0 found.1);
    }

  pub first_with : (g : At values) → FirstWith g
  first_with g =
      let number = numbered values g.number (within values g) in
      let first = was_first same tells (map f xs) number.before number.item number.after number.parts in
      by_parts g number first (before_map f xs first.before number.item first.after first.parts)
