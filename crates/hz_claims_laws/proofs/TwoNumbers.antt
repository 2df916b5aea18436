-- Second numbers are between two bypasses of the file without the guard.
use Rattle.std.proofs.Common.{◌≡◌, ◌↔◌, ⊎_elim, Bool, true, false, cond, not, List, [], ◌∷◌, ◌++◌, Contains, refl, sym, ap, ◌∙◌, subst, append_assoc}
use Rattle.std.specs.List.{filter}
use Rattle.std.proofs.lemmas.Bool.{not-true}
use Rattle.std.proofs.lemmas.List.Elements.{filter-append, Contains-append_right}
use Rattle.hz_base_model.proofs.Elements.{Contains-nil, Contains-head, Contains-cons_cases, Contains-filter, Contains-from_filter}
use Rattle.hz_description_model.specs.Check.CheckFaults.{second_numbers}
use Rattle.hz_description_model.specs.Check.Sites.{Site}
use Rattle.hz_description_model.specs.Check.ReportedPlaces.{TellsSecondNumber}
use Rattle.hz_description_model.specs.Reading.Descriptions.{Description, BypassItem, unguarded}
use Rattle.hz_description_model.proofs.Check.ReportedLaws.{second_numbers_reported}
use Rattle.hz_claims_laws.specs.Numbers.{GiveTwoNumbers}

-- a list is what is before an item, the item, and what follows it
record Parts {A : Type 0} (xs : List A) (x : A) : Type 0 where
  front : List A
  back : List A
  parts : xs ≡ front ++ x ∷ back

parts_of : {A : Type 0} (xs : List A) (x : A) → Contains xs x → Parts xs x
parts_of [] x h = absurd (Contains-nil x h)
parts_of {A} (y ∷ xs) x h = ⊎_elim
    (λ (same : y ≡ x). record { front = []; back = xs; parts = ap (λ (z : A). z ∷ xs) same })
    (λ (k : Contains xs x). let is = parts_of xs x k in record { front = y ∷ is.front; back = is.back; parts = ap (λ (zs : List A). y ∷ zs) is.parts })
    (Contains-cons_cases y x xs h)

-- what comes before an item that is kept is what is kept of what came before it
record Kept (bs before : List BypassItem) (b : BypassItem) : Type 0 where
  front : List BypassItem
  back : List BypassItem
  parts : bs ≡ front ++ b ∷ back
  is : filter (λ b. not b.guard) front ≡ before
  free : b.guard ≡ false

kept : (bs before : List BypassItem) (b : BypassItem) (after : List BypassItem) → filter (λ b. not b.guard) bs ≡ before ++ b ∷ after → Kept bs before b
kept [] [] b after e = absurd (cc)
kept [] (x ∷ before) b after e = absurd (cc)
kept (c ∷ bs) before b after e = by_guard (λ before k. kept bs before b after k) c.guard refl e
  where
    by_guard : ((before : List BypassItem) → filter (λ b. not b.guard) bs ≡ before ++ b ∷ after → Kept bs before b) → (t : Bool) → c.guard ≡ t → cond (not t) (c ∷ filter (λ b. not b.guard) bs) (filter (λ b. not b.guard) bs) ≡ before ++ b ∷ after → Kept (c ∷ bs) before b
    by_guard again true g k =
        let is = again before k in
        record {
          front = c ∷ is.front;
          back = is.back;
          parts = ap (λ (xs : List BypassItem). c ∷ xs) is.parts;
          is = ap (λ (t : Bool). cond (not t) (c ∷ filter (λ b. not b.guard) is.front) (filter (λ b. not b.guard) is.front)) g ∙ is.is;
          free = is.free;
        }
    by_guard again false g k = by_front before k
      where
        by_front : (before : List BypassItem) → c ∷ filter (λ b. not b.guard) bs ≡ before ++ b ∷ after → Kept (c ∷ bs) before b
        by_front [] q =
            let same : c ≡ b = cc in
            record { front = []; back = bs; parts = ap (λ (x : BypassItem). x ∷ bs) same; is = refl; free = sym (ap (λ (x : BypassItem). x.guard) same) ∙ g }
        by_front (x ∷ before) q =
            let first : c ≡ x = cc in
            let rest : filter (λ b. not b.guard) bs ≡ before ++ b ∷ after = cc in
            let is = again before rest in
            record {
              front = c ∷ is.front;
              back = is.back;
              parts = ap (λ (xs : List BypassItem). c ∷ xs) is.parts;
              is = ap (λ (t : Bool). cond (not t) (c ∷ filter (λ b. not b.guard) is.front) (filter (λ b. not b.guard) is.front)) g ∙ ap (λ (xs : List BypassItem). c ∷ xs) is.is ∙ ap (λ (y : BypassItem). y ∷ before) first;
              free = is.free;
            }

between : (d : Description) (s : Site) → TellsSecondNumber (unguarded d.bypasses) s → GiveTwoNumbers d s
between d s t =
    let later = kept d.bypasses t.before t.b t.after t.parts in
    let there = subst (λ (xs : List BypassItem). Contains xs (t.pair).earlier) (sym later.is) (t.pair).stands in
    let found = Contains-from_filter (λ b. not b.guard) (t.pair).earlier later.front there in
    let earlier = parts_of later.front (t.pair).earlier found.0 in
    record {
      before = earlier.front;
      earlier = (t.pair).earlier;
      between = earlier.back;
      later = t.b;
      rest = later.back;
      file = later.parts ∙ ap (λ (xs : List BypassItem). xs ++ t.b ∷ later.back) earlier.parts ∙ append_assoc earlier.front ((t.pair).earlier ∷ earlier.back) (t.b ∷ later.back);
      earlier_free = not-true ((t.pair).earlier).guard found.1;
      later_free = later.free;
      consumer = (t.pair).consumer;
      from_earlier = (t.pair).from_earlier;
      to_earlier = (t.pair).to_earlier;
      from_later = (t.pair).from;
      to_later = (t.pair).to;
      other = (t.pair).other;
      line = t.line;
      form = t.form;
    }

free_first : (b : BypassItem) (bs : List BypassItem) → b.guard ≡ false → filter (λ b. not b.guard) (b ∷ bs) ≡ b ∷ filter (λ b. not b.guard) bs
free_first b bs g = ap (λ (t : Bool). cond (not t) (b ∷ filter (λ b. not b.guard) bs) (filter (λ b. not b.guard) bs)) g

reported_again : (d : Description) (s : Site) → GiveTwoNumbers d s → TellsSecondNumber (unguarded d.bypasses) s
reported_again d s t =
    let front : List BypassItem = t.before ++ t.earlier ∷ t.between in
    let whole : d.bypasses ≡ front ++ t.later ∷ t.rest = t.file ∙ sym (append_assoc t.before (t.earlier ∷ t.between) (t.later ∷ t.rest)) in
    record {
      before = filter (λ b. not b.guard) front;
      b = t.later;
      after = filter (λ b. not b.guard) t.rest;
      parts = ap (filter (λ b. not b.guard)) whole ∙ filter-append (λ b. not b.guard) front (t.later ∷ t.rest) ∙ ap (λ (xs : List BypassItem). filter (λ b. not b.guard) front ++ xs) (free_first t.later t.rest t.later_free);
      pair = record {
        earlier = t.earlier;
        consumer = t.consumer;
        stands = Contains-filter (λ b. not b.guard) t.earlier (ap not t.earlier_free) front (Contains-append_right t.before (t.earlier ∷ t.between) t.earlier (Contains-head t.earlier t.between));
        from = t.from_later;
        to = t.to_later;
        from_earlier = t.from_earlier;
        to_earlier = t.to_earlier;
        other = t.other;
      };
      line = t.line;
      form = t.form;
    }

pub two_numbers : (d : Description) (s : Site) → Contains (second_numbers d) s ↔ GiveTwoNumbers d s
two_numbers d s =
    let both = second_numbers_reported d s in
    (λ c. between d s (both.0 c), λ t. both.1 (reported_again d s t))
