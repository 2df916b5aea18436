-- Names at the place of their form, and names that are not among others.
use Rattle.std.proofs.Common.{◌≡◌, ◌≢◌, ℕ, Bool, true, false, List, map, filter, Contains, sym, ap, ◌∙◌, subst}
use Rattle.std.specs.Prelude.{◌↔◌, not}
use Rattle.std.proofs.lemmas.Bool.{false_from_ne_true, not-true, not_from_false}
use Rattle.hz_base_model.proofs.Elements.{Contains-filter, Contains-from_filter, Contains-map, Contains-from_map}
use Rattle.hz_description_model.specs.Check.CheckFaults.{sites_of}
use Rattle.hz_description_model.specs.Check.Sites.{Site, is_among}
use Rattle.hz_description_model.proofs.Check.KeptLaws.{among, from_among}
use Rattle.hz_laws.specs.Names.NameFaults.{IsAt}

-- the sites of one form
pub site_reported : (line form : ℕ) (names : List (List ℕ)) (s : Site) → Contains (sites_of line form names) s ↔ (Contains names s.name × IsAt s line form)
site_reported line form names s = (there, back)
  where
    there : Contains (sites_of line form names) s → Contains names s.name × IsAt s line form
    there c =
        let (name, is, made) = Contains-from_map (λ (name : List ℕ). record { line = line; form = form; name = name }) names s c in
        let same : name ≡ s.name = ap (λ (x : Site). x.name) made in
        (subst (λ (n : List ℕ). Contains names n) same is, (sym (ap (λ (x : Site). x.line) made), sym (ap (λ (x : Site). x.form) made)))

    back : Contains names s.name × IsAt s line form → Contains (sites_of line form names) s
    back h =
        let made : ◌≡◌ {A = Site} (record { line = line; form = form; name = s.name }) s = λ i. record { line = sym (h.1).0 i; form = sym (h.1).1 i; name = s.name } in
        subst (λ (x : Site). Contains (sites_of line form names) x) made (Contains-map (λ (name : List ℕ). record { line = line; form = form; name = name }) names s.name h.0)

-- a name is among those of items
pub among_items : {A : Type 0} (name_of : A → List ℕ) (items : List A) (name : List ℕ) → is_among name (map name_of items) ≡ false ↔ ((x : A) → Contains items x → name_of x ≢ name)
among_items {A} name_of items name = (
  λ e x there same.
      let known = among name (map name_of items) (subst (λ (n : List ℕ). Contains (map name_of items) n) same (Contains-map name_of items x there)) in
      let bad : false ≡ true = sym e ∙ known in
      absurd (cc),
  λ none. false_from_ne_true (is_among name (map name_of items))
      (λ known. let (x, there, same) = Contains-from_map name_of items name (from_among name (map name_of items) known) in none x there same),
)

-- what a filter by a test that fails has
pub kept : (p : List ℕ → Bool) (names : List (List ℕ)) (name : List ℕ) → Contains (filter (λ n. not (p n)) names) name ↔ (Contains names name × (p name ≡ false))
kept p names name = (
  λ c. let found = Contains-from_filter (λ n. not (p n)) name names c in (found.0, not-true (p name) found.1),
  λ h. Contains-filter (λ n. not (p n)) name (not_from_false (p name) h.1) names h.0,
)
