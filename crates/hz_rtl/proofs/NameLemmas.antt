-- The set of the names of attributes.
use Rattle.std.proofs.Common.{◌≡◌, ℕ, Bool, true, false, cond, ◌||◌, List, [], ◌∷◌, ◌++◌, refl, sym, ap, ◌∙◌}
use Rattle.std.specs.Str.{bytes_eq}
use Rattle.std.specs.Ordering.{nat_cmp}
use Rattle.std.specs.Cmp.Lexicographic.{slice_cmp}
use Rattle.std.specs.BTreeSet as tree
use Rattle.std.specs.BTreeSet.{BTreeSet}
use Rattle.std.proofs.lemmas.Map.Text.{is_eq-slice_cmp}
use Rattle.hz_block_model.specs.Texts.BlockForms.{gives}
use Rattle.hz_rtl.specs.NameSets.{is_held}

or_last : (b old : Bool) → cond b true old ≡ (old || (b || false))
or_last true true = refl
or_last true false = refl
or_last false true = refl
or_last false false = refl

gives-append : (given : List (List ℕ × List ℕ)) (name value q : List ℕ) → gives (given ++ (name, value) ∷ []) q ≡ (gives given q || (bytes_eq name q || false))
gives-append [] name value q = refl
gives-append (a ∷ given) name value q = go (bytes_eq a.0 q) (gives-append given name value q)
  where
    go : (b : Bool) → gives (given ++ (name, value) ∷ []) q ≡ (gives given q || (bytes_eq name q || false)) → (b || gives (given ++ (name, value) ∷ []) q) ≡ ((b || gives given q) || (bytes_eq name q || false))
    go true h = refl
    go false h = h

-- one more attribute
pub name_more : (names new : BTreeSet (List ℕ)) (given : List (List ℕ × List ℕ)) (name value : List ℕ) → tree.UpdatesBy (slice_cmp nat_cmp) (slice_cmp nat_cmp name) names new true
    → ((q : List ℕ) → is_held names q ≡ gives given q) → (q : List ℕ) → is_held new q ≡ gives (given ++ (name, value) ∷ []) q
name_more names new given name value updates same q =
    updates.0 q ∙ (ap (λ (b : Bool). cond b true (is_held names q)) (is_eq-slice_cmp name q)
    ∙ (or_last (bytes_eq name q) (is_held names q) ∙ (ap (λ (b : Bool). b || (bytes_eq name q || false)) (same q) ∙ sym (gives-append given name value q))))
