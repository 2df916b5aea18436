-- Tables of names that are filled item by item: what is held, or else stands in what is left, is what all items say.
use Rattle.std.proofs.Common.{◌≡◌, ℕ, ◌<◌, ◌≤◌, ◌+◌, List, [], ◌∷◌, map, length, drop, get_or, Option, Some, None, is_some, filter, not, Bool, true, false, ◌||◌, refl, sym, ap, ◌∙◌, cond, subst}
use Rattle.std.proofs.lemmas.List.{drop_all}
use Rattle.std.proofs.lemmas.Option.{same_Some}
use Rattle.std.proofs.lemmas.Iterator.Adapters.{position_from-zero}
use Rattle.std.proofs.Math.Path.{fun_ext}
use Rattle.std.proofs.Math.Bool.{or-false}
use Rattle.std.specs.List.{list_any, position_from}
use Rattle.std.specs.Map.{update}
use Rattle.std.specs.Option.{option_map, option_or}
use Rattle.std.specs.Str.{bytes_eq}
use Rattle.hz_mdread.specs.declared.items.AttrItem.{AttrItem}
use Rattle.hz_mdread.specs.Shape.{attribute_item}
use Rattle.hz_check.specs.declared.names.by_name.ByName.{ByName}
use Rattle.hz_check.specs.Names.Held.{held, is_held}
use Rattle.hz_check.specs.Names.{IsJust, test_by, test_of}
use Rattle.hz_check.specs.Names.First.{first_of}
use Rattle.hz_check.proofs.Tables.NameLists.{bytes_eq_same, bytes_eq-sym, is_among-list_any}
use Rattle.hz_check.proofs.Lists.Next.{drop_next, map-map}
use Rattle.hz_description_model.specs.Check.CheckFaults.{values_of, unknown_in_test}
use Rattle.hz_base_model.specs.Lines.{place_of}
use Rattle.hz_description_model.specs.Check.Sites.{is_among}

or_shift : (b s r : Bool) → ((b || s) || r) ≡ (s || (b || r))
or_shift true true r = refl
or_shift true false r = refl
or_shift false true r = refl
or_shift false false r = refl

module _ (names : List (List ℕ)) (i : ℕ) (q : List ℕ) where
  -- one name more
  pub just_next : (name : List ℕ) (seen new all : Bool) → name ≡ get_or names i name → i < length names → new ≡ (bytes_eq name q || seen)
      → (seen || list_any (bytes_eq q) (drop i names)) ≡ all → (new || list_any (bytes_eq q) (drop (i + 1) names)) ≡ all
  just_next name seen new all is lt more kept =
      ap (λ (b : Bool). b || list_any (bytes_eq q) (drop (i + 1) names)) more
      ∙ (or_shift (bytes_eq name q) seen (list_any (bytes_eq q) (drop (i + 1) names))
      ∙ (ap (λ (b : Bool). seen || (b || list_any (bytes_eq q) (drop (i + 1) names))) (bytes_eq-sym name q)
      ∙ (ap (λ (xs : List (List ℕ)). seen || list_any (bytes_eq q) xs) (sym (drop_next names i name is lt)) ∙ kept)))

-- all names of items are held
pub all_held : {A : Type 0} (names_of : List A → List (List ℕ)) (items : List A) (i : ℕ) (q : List ℕ) (seen : Bool) → names_of [] ≡ [] → length items ≤ i
    → (seen || list_any (bytes_eq q) (names_of (drop i items))) ≡ list_any (bytes_eq q) (names_of items) → seen ≡ is_among q (names_of items)
all_held {A} names_of items i q seen none end kept =
    sym (or-false seen)
    ∙ (ap (λ (ns : List (List ℕ)). seen || list_any (bytes_eq q) ns) (sym (ap names_of (drop_all i items end) ∙ none))
    ∙ (kept ∙ sym (is_among-list_any q (names_of items))))

module _ {W : Type 0} (v : W) (rest : Option W) where
  put_first : (b : Bool) (old : Option W) → (b ≡ true → old ≡ None) → option_or (cond b (Some v) old) rest ≡ option_or old (cond b (Some v) rest)
  put_first true old none = sym (ap (λ (o : Option W). option_or o (Some v)) (none refl))
  put_first false old none = refl

  kept_first : (b : Bool) (old : Option W) → (b ≡ true → is_some old ≡ true) → option_or old rest ≡ option_or old (cond b (Some v) rest)
  kept_first true None some = absurd (none_is_some (some refl))
    where
      none_is_some : false ≡ true → ⊥
      none_is_some e = cc
  kept_first true (Some w) some = refl
  kept_first false old some = refl

none_held : {V : Type 0} (o : Option V) → is_some o ≡ false → o ≡ None
none_held None e = refl
none_held (Some v) e = absurd (cc)

module _ {A : Type 0} (name_of : A → List ℕ) (items : List A) (i : ℕ) (item : A) (is : item ≡ get_or items i item) (lt : i < length items) (old : ByName ℕ) (name : List ℕ) (at : name ≡ name_of item) (q : List ℕ) where
  places_before : (all : Option ℕ) → option_or (held old q) (position_from (bytes_eq q) i (map name_of (drop i items))) ≡ all
      → option_or (held old q) (cond (bytes_eq name q) (Some i) (position_from (bytes_eq q) (i + 1) (map name_of (drop (i + 1) items)))) ≡ all
  places_before all kept =
      ap (λ (b : Bool). option_or (held old q) (cond b (Some i) (position_from (bytes_eq q) (i + 1) (map name_of (drop (i + 1) items))))) (bytes_eq-sym name q)
      ∙ (ap (λ (n : List ℕ). option_or (held old q) (position_from (bytes_eq q) i (n ∷ map name_of (drop (i + 1) items)))) at
      ∙ (ap (λ (xs : List A). option_or (held old q) (position_from (bytes_eq q) i (map name_of xs))) (sym (drop_next items i item is lt)) ∙ kept))

  -- one item more, whose name is put
  pub places_put : (new : ByName ℕ) (all : Option ℕ) → is_held old name ≡ false → held new q ≡ update bytes_eq (held old) name (Some i) q
      → option_or (held old q) (position_from (bytes_eq q) i (map name_of (drop i items))) ≡ all
      → option_or (held new q) (position_from (bytes_eq q) (i + 1) (map name_of (drop (i + 1) items))) ≡ all
  places_put new all none put kept =
      let rest : Option ℕ = position_from (bytes_eq q) (i + 1) (map name_of (drop (i + 1) items)) in
      ap (λ (o : Option ℕ). option_or o rest) put
      ∙ (put_first i rest (bytes_eq name q) (held old q) (λ (e : bytes_eq name q ≡ true). subst (λ (n : List ℕ). held old n ≡ None) (bytes_eq_same name q e) (none_held (held old name) none))
      ∙ places_before all kept)

  -- one item more, whose name is held
  pub places_kept : (all : Option ℕ) → is_held old name ≡ true
      → option_or (held old q) (position_from (bytes_eq q) i (map name_of (drop i items))) ≡ all
      → option_or (held old q) (position_from (bytes_eq q) (i + 1) (map name_of (drop (i + 1) items))) ≡ all
  places_kept all some kept =
      let rest : Option ℕ = position_from (bytes_eq q) (i + 1) (map name_of (drop (i + 1) items)) in
      kept_first i rest (bytes_eq name q) (held old q) (λ (e : bytes_eq name q ≡ true). subst (λ (n : List ℕ). is_held old n ≡ true) (bytes_eq_same name q e) some)
      ∙ places_before all kept

option_or-none : {V : Type 0} (o : Option V) → option_or o None ≡ o
option_or-none None = refl
option_or-none (Some v) = refl

-- all places
pub places_all : {A : Type 0} (name_of : A → List ℕ) (items : List A) (i : ℕ) (found : Option ℕ) (q : List ℕ) → length items ≤ i
    → option_or found (position_from (bytes_eq q) i (map name_of (drop i items))) ≡ position_from (bytes_eq q) 0 (map name_of items) → found ≡ place_of q (map name_of items)
places_all {A} name_of items i found q end kept =
    sym (option_or-none found)
    ∙ (ap (λ (xs : List A). option_or found (position_from (bytes_eq q) i (map name_of xs))) (sym (drop_all i items end))
    ∙ (kept ∙ sym (position_from-zero (bytes_eq q) (map name_of items))))

map_cond : {A B : Type 0} (f : A → B) (b : Bool) (v : A) (o : Option A) → option_map f (cond b (Some v) o) ≡ cond b (Some (f v)) (option_map f o)
map_cond f true v o = refl
map_cond f false v o = refl

is_some-map : {A B : Type 0} (f : A → B) (o : Option A) → is_some (option_map f o) ≡ is_some o
is_some-map f None = refl
is_some-map f (Some x) = refl

module _ (items : List AttrItem) (i : ℕ) (item : AttrItem) (is : item ≡ get_or items i item) (lt : i < length items) (old : ByName (ByName (Unit {0}))) (q : List ℕ) where
  values_before : (all : Option (List ℕ → Bool)) → option_or (test_by (held old q)) (test_of (values_of (map attribute_item (drop i items)) q)) ≡ all
      → option_or (test_by (held old q)) (cond (bytes_eq item.name q) (Some (λ v. is_among v item.values.items)) (test_of (values_of (map attribute_item (drop (i + 1) items)) q))) ≡ all
  values_before all kept =
      let rest : Option (List (List ℕ)) = values_of (map attribute_item (drop (i + 1) items)) q in
      let among : List (List ℕ) → List ℕ → Bool = λ names v. is_among v names in
      ap (λ (b : Bool). option_or (test_by (held old q)) (cond b (Some (λ v. is_among v item.values.items)) (test_of rest))) (bytes_eq-sym item.name q)
      ∙ (ap (option_or (test_by (held old q))) (sym (map_cond among (bytes_eq q item.name) item.values.items rest))
      ∙ (ap (λ (xs : List AttrItem). option_or (test_by (held old q)) (test_of (values_of (map attribute_item xs) q))) (sym (drop_next items i item is lt)) ∙ kept))

  -- one attribute more, whose values are put
  pub values_put : (new : ByName (ByName (Unit {0}))) (set : ByName (Unit {0})) (all : Option (List ℕ → Bool)) → is_held old item.name ≡ false → IsJust set item.values.items
      → held new q ≡ update bytes_eq (held old) item.name (Some set) q
      → option_or (test_by (held old q)) (test_of (values_of (map attribute_item (drop i items)) q)) ≡ all
      → option_or (test_by (held new q)) (test_of (values_of (map attribute_item (drop (i + 1) items)) q)) ≡ all
  values_put new set all none just put kept =
      let rest : Option (List ℕ → Bool) = test_of (values_of (map attribute_item (drop (i + 1) items)) q) in
      ap (λ (o : Option (ByName (Unit {0}))). option_or (test_by o) rest) put
      ∙ (ap (λ (o : Option (List ℕ → Bool)). option_or o rest) (map_cond is_held (bytes_eq item.name q) set (held old q))
      ∙ (ap (λ (f : List ℕ → Bool). option_or (cond (bytes_eq item.name q) (Some f) (test_by (held old q))) rest) (fun_ext just)
      ∙ (put_first (λ v. is_among v item.values.items) rest (bytes_eq item.name q) (test_by (held old q))
      (λ (e : bytes_eq item.name q ≡ true). subst (λ (n : List ℕ). test_by (held old n) ≡ None) (bytes_eq_same item.name q e) (ap test_by (none_held (held old item.name) none)))
      ∙ values_before all kept)))

  -- one attribute more, whose name is held
  pub values_kept : (all : Option (List ℕ → Bool)) → is_held old item.name ≡ true
      → option_or (test_by (held old q)) (test_of (values_of (map attribute_item (drop i items)) q)) ≡ all
      → option_or (test_by (held old q)) (test_of (values_of (map attribute_item (drop (i + 1) items)) q)) ≡ all
  values_kept all some kept =
      let rest : Option (List ℕ → Bool) = test_of (values_of (map attribute_item (drop (i + 1) items)) q) in
      kept_first (λ v. is_among v item.values.items) rest (bytes_eq item.name q) (test_by (held old q))
      (λ (e : bytes_eq item.name q ≡ true). subst (λ (n : List ℕ). is_some (test_by (held old n)) ≡ true) (bytes_eq_same item.name q e) (is_some-map is_held (held old item.name) ∙ some))
      ∙ values_before all kept

-- the places of what is stored, as those of the definition
pub placed : {A B : Type 0} (name_of : B → List ℕ) (item : A → B) (slice xs : List A) (found : Option ℕ) (q : List ℕ) → slice ≡ xs → found ≡ place_of q (map (λ x. name_of (item x)) slice) → found ≡ place_of q (map name_of (map item xs))
placed name_of item slice xs found q is at = at ∙ ap (place_of q) (ap (map (λ x. name_of (item x))) is ∙ sym (map-map name_of item xs))

-- the first of the values that an attribute does not have, where it is defined
pub unknown_by : (o : Option (List (List ℕ))) (test : List ℕ → Bool) (attribute : List ℕ) (values : List (List ℕ)) → Some test ≡ test_of o → first_of (filter (λ value. not (test value)) values) ≡ first_of (unknown_in_test o attribute values)
unknown_by None test attribute values e = absurd (cc)
unknown_by (Some defined) test attribute values e =
    let same : test ≡ (λ v. is_among v defined) = same_Some test (λ v. is_among v defined) e in
    ap (λ (f : List ℕ → Bool). first_of (filter (λ value. not (f value)) values)) same
