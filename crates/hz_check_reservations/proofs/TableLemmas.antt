-- What an insertion into a map does to what is kept for names.
use Rattle.std.proofs.Common.{◌≡◌, ℕ, ⊎_elim, List, Some, sym, ap, ◌∙◌}
use Rattle.std.specs.Ordering.{nat_cmp, is_eq}
use Rattle.std.specs.Cmp.{Equal-is}
use Rattle.std.specs.Cmp.Lexicographic.{slice_cmp}
use Rattle.std.specs.BTreeMap.{BTreeMap, get, Updates}
use Rattle.std.proofs.lemmas.Bool.{cases_Bool}
use Rattle.std.proofs.lemmas.Map.Lookups.{exact_bytes}
use Rattle.hz_altern.specs.Tables.{Adds}

pub adds_from_updates : {V : Type 0} (m n : BTreeMap (List ℕ) V) (key name : List ℕ) (v : V) → key ≡ name → Updates (slice_cmp nat_cmp) m n key (Some v) → Adds (get (slice_cmp nat_cmp) m) (get (slice_cmp nat_cmp) n) name v
adds_from_updates m n key name v is updates = record {
  added = ap (λ (q : List ℕ). get (slice_cmp nat_cmp) n q) (sym is) ∙ updates.1;
  others = λ other apart.
      ⊎_elim
      (λ equal. absurd (apart (sym (exact_bytes key other ((Equal-is (slice_cmp nat_cmp key other)).0 equal)) ∙ is)))
      (λ differs. updates.2 other differs)
      (cases_Bool (is_eq (slice_cmp nat_cmp key other)));
}
