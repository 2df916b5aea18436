-- Names that stand again, by what was seen.
use Rattle.std.proofs.Common.{◌≡◌, ℕ, ◌<◌, ◌+◌, List, [], ◌∷◌, map, length, drop, get_or, Option, Some, None, Bool, true, false, ◌||◌, ◌&&◌, nat_lt, refl, sym, ap, ◌∙◌, cond, arith, subst, ⊎_elim}
use Rattle.std.proofs.lemmas.Bool.{cases_Bool}
use Rattle.std.proofs.lemmas.Bool.Decides.{nat_tests}
use Rattle.std.specs.List.{list_any}
use Rattle.std.specs.Map.{update}
use Rattle.std.specs.Option.{option_map_or}
use Rattle.std.proofs.Math.Path.{fun_ext}
use Rattle.std.specs.Str.{bytes_eq}
use Rattle.hz_description_model.specs.Check.Sites.{Site, is_among, is_preceded, repeated, earlier, earliest}
use Rattle.std.specs.Bool.{then_some}
use Rattle.hz_check_reservations.specs.declared.ordering.site.Site as stored
use Rattle.hz_check_reservations.specs.Places.{site_of, reported}
use Rattle.hz_check.specs.declared.names.by_name.ByName.{ByName}
use Rattle.hz_check.specs.Names.Held.{held}
use Rattle.hz_check.specs.Faults.Twice.{is_given, seen_with, repeated_by, unseen}
use Rattle.hz_check.proofs.Tables.NameLists.{bytes_eq_same, bytes_eq-sym, is_among-list_any}
use Rattle.hz_check.proofs.Lists.Earliest.{earlier-earlier, IsOf}
use Rattle.hz_check.proofs.Lists.Next.{drop_next, map-map}

-- what was seen with one name more
seen_more : (name : List ℕ) (before : List (List ℕ)) (other : List ℕ) → is_among other (name ∷ before) ≡ seen_with name (λ q. is_among q before) other
seen_more name before other =
    is_among-list_any other (name ∷ before)
    ∙ (ap (λ (b : Bool). b || list_any (bytes_eq other) before) (bytes_eq-sym other name) ∙ ap (λ (b : Bool). bytes_eq name other || b) (sym (is_among-list_any other before)))

pub repeated-by : (others : List Site) (before : List (List ℕ)) (sites : List Site) → repeated others before sites ≡ repeated_by (is_preceded others) (λ q. is_among q before) sites
repeated-by others before [] = refl
repeated-by others before (s ∷ sites) =
    let rest : repeated others (s.name ∷ before) sites ≡ repeated_by (is_preceded others) (seen_with s.name (λ q. is_among q before)) sites =
    repeated-by others (s.name ∷ before) sites ∙ ap (λ (f : List ℕ → Bool). repeated_by (is_preceded others) f sites) (fun_ext (seen_more s.name before)) in
    ap (λ (ys : List Site). cond (is_among s.name before || is_preceded others s) (s ∷ ys) ys) rest

-- the first of a list with one site in front, or not
in_front : (b : Bool) (s : Site) (others : List Site) → earlier (cond b (Some s) None) (earliest others) ≡ earliest (cond b (s ∷ others) others)
in_front true s others = refl
in_front false s others = refl

-- one site more: what is reported of it, and of all
pub repeated_next : {A : Type 0} (site : A → Site) (given : Site → Bool) (seen new : List ℕ → Bool) (first wrong next all : Option Site) (items : List A) (i : ℕ) (item : A) (s : Site)
    → item ≡ get_or items i item → i < length items → s ≡ site item → ((name : List ℕ) → new name ≡ seen_with s.name seen name)
    → wrong ≡ cond (seen s.name || given s) (Some s) None → next ≡ earlier first wrong
    → earlier first (earliest (repeated_by given seen (map site (drop i items)))) ≡ all
    → earlier next (earliest (repeated_by given new (map site (drop (i + 1) items)))) ≡ all
repeated_next {A} site given seen new first wrong next all items i item s is lt at more reported_wrong reported_next kept =
    let rest : List Site = map site (drop (i + 1) items) in
    let here : Option Site = cond (seen s.name || given s) (Some s) None in
    let same : new ≡ seen_with s.name seen = fun_ext more in
    ap (λ (f : List ℕ → Bool). earlier next (earliest (repeated_by given f rest))) same
    ∙ (ap (λ (o : Option Site). earlier o (earliest (repeated_by given (seen_with s.name seen) rest))) (reported_next ∙ ap (earlier first) reported_wrong)
    ∙ (earlier-earlier first here (earliest (repeated_by given (seen_with s.name seen) rest))
    ∙ (ap (earlier first) (in_front (seen s.name || given s) s (repeated_by given (seen_with s.name seen) rest))
    ∙ (ap (λ (t : Site). earlier first (earliest (repeated_by given seen (t ∷ rest)))) at
    ∙ (ap (λ (xs : List A). earlier first (earliest (repeated_by given seen (map site xs)))) (sym (drop_next items i item is lt)) ∙ kept)))))

module _ (form other : ℕ) (rest : Bool) where
  first_here : (o : Option ℕ) → option_map_or (λ f. nat_lt f form) o false ≡ false → (nat_lt form other || rest) ≡ (option_map_or (λ f. nat_lt f other) o false || (nat_lt form other || rest))
  first_here None e = refl
  first_here (Some f) e = grind (arith, nat_tests)

  held_here : (o : Option ℕ) → option_map_or (λ f. nat_lt f form) o false ≡ true → (option_map_or (λ f. nat_lt f other) o false || rest) ≡ (option_map_or (λ f. nat_lt f other) o false || (nat_lt form other || rest))
  held_here None e = absurd (cc)
  held_here (Some f) e = grind (arith, nat_tests)

module _ (held : List ℕ → Option ℕ) (name : List ℕ) (form : ℕ) (s : Site) (rest : Bool) where
  -- what is given once the form of a site is held, where it was not given before it
  pub given_next : option_map_or (λ f. nat_lt f form) (held name) false ≡ false
      → (option_map_or (λ f. nat_lt f s.form) (update bytes_eq held name (Some form) s.name) false || rest) ≡ (option_map_or (λ f. nat_lt f s.form) (held s.name) false || ((bytes_eq name s.name && nat_lt form s.form) || rest))
  given_next before = ⊎_elim
      (λ (t : bytes_eq name s.name ≡ true).
      rw t (first_here form s.form rest (held s.name) (subst (λ (n : List ℕ). option_map_or (λ f. nat_lt f form) (held n) false ≡ false) (bytes_eq_same name s.name t) before)))
      (λ (t : bytes_eq name s.name ≡ false). rw t refl)
      (cases_Bool (bytes_eq name s.name))

  -- a site that is given already
  pub given_same : option_map_or (λ f. nat_lt f form) (held name) false ≡ true
      → (option_map_or (λ f. nat_lt f s.form) (held s.name) false || rest) ≡ (option_map_or (λ f. nat_lt f s.form) (held s.name) false || ((bytes_eq name s.name && nat_lt form s.form) || rest))
  given_same before = ⊎_elim
      (λ (t : bytes_eq name s.name ≡ true).
      rw t (held_here form s.form rest (held s.name) (subst (λ (n : List ℕ). option_map_or (λ f. nat_lt f form) (held n) false ≡ true) (bytes_eq_same name s.name t) before)))
      (λ (t : bytes_eq name s.name ≡ false). rw t refl)
      (cases_Bool (bytes_eq name s.name))

pub reported-then_some : (b : Bool) (s : stored.Site) → reported (then_some b s) ≡ cond b (Some (site_of s)) None
reported-then_some true s = refl
reported-then_some false s = refl

module _ {A : Type 0} (site : A → Site) (items : List A) (i : ℕ) (item : A) (is : item ≡ get_or items i item) (lt : i < length items) (forms : ByName ℕ) (t : Site) (at : t ≡ site item) (s : Site) where
  -- what is given before the step, by its item
  before_step : (all : Bool) → (is_given forms s || is_preceded (map site (drop i items)) s) ≡ all
      → (is_given forms s || ((bytes_eq t.name s.name && nat_lt t.form s.form) || is_preceded (map site (drop (i + 1) items)) s)) ≡ all
  before_step all kept =
      ap (λ (u : Site). is_given forms s || ((bytes_eq u.name s.name && nat_lt u.form s.form) || is_preceded (map site (drop (i + 1) items)) s)) at
      ∙ (ap (λ (xs : List A). is_given forms s || is_preceded (map site xs) s) (sym (drop_next items i item is lt)) ∙ kept)

  -- one item more, whose form is put
  pub given_put : (new : ByName ℕ) (all : Bool) → is_given forms t ≡ false → ((name : List ℕ) → held new name ≡ update bytes_eq (held forms) t.name (Some t.form) name)
      → (is_given forms s || is_preceded (map site (drop i items)) s) ≡ all → (is_given new s || is_preceded (map site (drop (i + 1) items)) s) ≡ all
  given_put new all before put kept =
      ap (λ (o : Option ℕ). option_map_or (λ f. nat_lt f s.form) o false || is_preceded (map site (drop (i + 1) items)) s) (put s.name)
      ∙ (given_next (held forms) t.name t.form s (is_preceded (map site (drop (i + 1) items)) s) before ∙ before_step all kept)

  -- one item more, before which its name is given
  pub given_kept : (all : Bool) → is_given forms t ≡ true
      → (is_given forms s || is_preceded (map site (drop i items)) s) ≡ all → (is_given forms s || is_preceded (map site (drop (i + 1) items)) s) ≡ all
  given_kept all before kept = given_same (held forms) t.name t.form s (is_preceded (map site (drop (i + 1) items)) s) before ∙ before_step all kept

-- what is reported of items, as the definition has it
pub reported_twice : {A B : Type 0} (site : B → Site) (item : A → B) (given : Site → Bool) (others : List Site) (slice xs : List A) (o : Option Site) → ((s : Site) → given s ≡ is_preceded others s) → slice ≡ xs
    → o ≡ earliest (repeated_by given unseen (map (λ x. site (item x)) slice)) → IsOf o (repeated others [] (map site (map item xs)))
reported_twice {A} site item given others slice xs o same is reported = record {
  is = reported
      ∙ (ap (λ (ys : List A). earliest (repeated_by given unseen (map (λ x. site (item x)) ys))) is
      ∙ (ap (λ (f : Site → Bool). earliest (repeated_by f unseen (map (λ x. site (item x)) xs))) (fun_ext same)
      ∙ (ap (λ (ys : List Site). earliest (repeated_by (is_preceded others) unseen ys)) (sym (map-map site item xs)) ∙ ap earliest (sym (repeated-by others [] (map site (map item xs)))))));
}

-- what is given where nothing is held
pub none_given : (forms : ByName ℕ) → ((name : List ℕ) → held forms name ≡ None) → (s : Site) → is_given forms s ≡ is_preceded [] s
none_given forms none s = ap (λ (o : Option ℕ). option_map_or (λ f. nat_lt f s.form) o false) (none s.name)
