-- Descriptions that are written are read back.
use Rattle.std.proofs.Common.{◌≡◌, ℕ, ◌+◌, ◌≤◌, Bool, true, false, ◌||◌, List, [], ◌∷◌, Result, Ok, Err, refl, sym, ap, ◌∙◌, subst}
use Rattle.std.specs.List.{list_any}
use Rattle.hz_base_model.specs.Forms.Forms as texts
use Rattle.hz_base_model.specs.Forms.Trees.{Trees, none, more}
use Rattle.hz_description_model.specs.Reading.AddedItems.{Add, nothing, adds, HasItems}
use Rattle.hz_description_model.specs.Reading.DescriptionForms.{DescriptionFault, Said, Addition, automata, units, reservation, class, bypass, set, options, attribute, all_options, IsReading, form_says, forms_say, with_addition, Reads}
use Rattle.hz_description_model.specs.Reading.Descriptions.{Description, Options, no_items}
use Rattle.hz_description_model.proofs.Reading.AddedLaws.{items_added}
use Rattle.hz_claims_laws.proofs.FreeForms.{form_back}
use Rattle.hz_claims_laws.specs.Files.{file_text, AreFrom, greatest_depth, WriteEach, nothing_more, one_form, gives, HasGiven}
use Rattle.hz_claims_laws.proofs.FormTexts.{forms_back}

-- a description with what several forms add
abbrev with_all : Description → List Addition → Description
with_all d [] = d
with_all d (a ∷ additions) = with_all (with_addition d a) additions

module _ (read : List ℕ → Said) where
  written_adds : (n : ℕ) (forms : Trees) (additions : List Addition) → WriteEach read n forms additions → Add read n forms additions
  written_adds n forms additions nothing_more = nothing
  written_adds n forms additions (one_form {form = form} {others = others} {addition = addition} {additions = rest} w ws) =
      adds (form_back read n form addition w) (written_adds (n + 1) others rest ws)

  all_said : (n : ℕ) (d : Description) (forms : Trees) (additions : List Addition) → Add read n forms additions → forms_say read n d forms ≡ Ok (with_all d additions)
  all_said n d forms additions nothing = refl
  all_said n d forms additions (adds {others = others} {addition = addition} {additions = rest} is more_adds) =
      rw is (all_said (n + 1) (with_addition d addition) others rest more_adds)

  -- what forms add, those that are wrong left out
  abbrev with_said : Result Addition DescriptionFault → List Addition → List Addition
  with_said (Ok a) additions = a ∷ additions
  with_said (Err fault) additions = additions

  abbrev collected : ℕ → Trees → List Addition
  collected n none = []
  collected n (more first others) = with_said (form_says read n first) (collected (n + 1) others)

  are_collected : (n : ℕ) (forms : Trees) (additions : List Addition) → Add read n forms additions → collected n forms ≡ additions
  are_collected n forms additions nothing = refl
  are_collected n forms additions (adds {others = others} {addition = addition} {additions = rest} is more_adds) =
      rw is (ap (λ (xs : List Addition). addition ∷ xs) (are_collected (n + 1) others rest more_adds))

-- ---- options

or_assoc : (a b c : Bool) → ((a || b) || c) ≡ (a || (b || c))
or_assoc true b c = refl
or_assoc false b c = refl

or_none : (a : Bool) → a ≡ (a || false)
or_none true = refl
or_none false = refl

module _ (has : Options → Bool) (joins : (o p : Options) → has (all_options o p) ≡ (has o || has p)) where
  one_given : (d : Description) (a : Addition) → has (with_addition d a).options ≡ (has d.options || gives has a)
  one_given d (automata items) = or_none (has d.options)
  one_given d (units items) = or_none (has d.options)
  one_given d (reservation item) = or_none (has d.options)
  one_given d (class item) = or_none (has d.options)
  one_given d (bypass item) = or_none (has d.options)
  one_given d (set item) = or_none (has d.options)
  one_given d (options o) = joins d.options o
  one_given d (attribute item) = or_none (has d.options)

  all_given : (d : Description) (additions : List Addition) → has (with_all d additions).options ≡ (has d.options || list_any (gives has) additions)
  all_given d [] = or_none (has d.options)
  all_given d (a ∷ additions) =
      all_given (with_addition d a) additions
      ∙ ap (λ (t : Bool). t || list_any (gives has) additions) (one_given d a)
      ∙ or_assoc (has d.options) (gives has a) (list_any (gives has) additions)

given : (additions : List Addition) → HasGiven (with_all no_items additions).options additions
given additions = record {
  ndfa = all_given (λ p. p.ndfa) (λ o p. refl) no_items additions;
  no_minimization = all_given (λ p. p.no_minimization) (λ o p. refl) no_items additions;
  stats = all_given (λ p. p.stats) (λ o p. refl) no_items additions;
  verbose = all_given (λ p. p.verbose) (λ o p. refl) no_items additions;
  no_comb_vect = all_given (λ p. p.no_comb_vect) (λ o p. refl) no_items additions;
}

pub description_back : (read : List ℕ → Said) (forms : Trees) (additions : List Addition) → IsReading read → WriteEach read 0 forms additions → AreFrom 1 forms → greatest_depth forms ≤ 64
    → (d : Description) × texts.Reads (file_text forms) forms × Reads forms d × HasItems d additions × HasGiven d.options additions
description_back read forms additions reading w on deep =
    let add = written_adds read 0 forms additions w in
    let d : Description = with_all no_items additions in
    let reads : Reads forms d = record { read = read; reading = reading; says = all_said read 0 no_items forms additions add } in
    let items = items_added forms d reads in
    let same : items.0 ≡ additions = sym (are_collected read 0 forms items.0 items.1) ∙ are_collected read 0 forms additions add in
    (d, forms_back forms on deep, reads, subst (λ (xs : List Addition). HasItems d xs) same items.2, given additions)
