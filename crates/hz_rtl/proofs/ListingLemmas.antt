-- The listing of a state.
use Rattle.std.proofs.Common.{◌≡◌, ◌≢◌, ℕ, ◌<◌, ◌==◌, Bool, true, false, cond, nat_lt, get_or, map, Option, Some, None, Contains, refl, sym, ap, ◌∙◌, arith}
use Rattle.std.specs.Prelude.{unwrap_or}
use Rattle.std.specs.List.{AllPairs}
use Rattle.std.specs.Ordering.{nat_cmp, eq_by_cmp, is_eq}
use Rattle.std.specs.declared.cmp.Ordering.TheVariants.{Less, Equal, Greater}
use Rattle.std.specs.BTreeMap.{BTreeMap, get, IsOrdered}
use Rattle.std.proofs.lemmas.Bool.{ltb-true, eqb-true}
use Rattle.std.proofs.lemmas.Cmp.{nat_cmp_total, eq_by_cmp_equiv}
use Rattle.std.proofs.lemmas.List.{length-map, get_or-map}
use Rattle.std.proofs.lemmas.Map.Keys.{Less-from_sorted, IsDistinct-from_sorted}
use Rattle.std.proofs.lemmas.Map.Views.{Contains-from_lookup, lookup-from_Contains}
use Rattle.hz_block_model.specs.Texts.StateTexts.{IsListing}
use Rattle.hz_rtl.specs.declared.state.State.{State}
use Rattle.hz_rtl.specs.Listings.{listing}
use Rattle.hz_rtl.specs.States.{words}

below : (a b : ℕ) → nat_cmp a b ≡ Less → a < b
below a b e = go (nat_lt a b) (a == b) refl e
  where
    go : (less same : Bool) → nat_lt a b ≡ less → cond less Less (cond same Equal Greater) ≡ Less → a < b
    go true same is h = ltb-true a b is
    go false true is h = absurd (cc)
    go false false is h = absurd (cc)

same_key : (a b : ℕ) → eq_by_cmp nat_cmp a b ≡ true → a ≡ b
same_key a b e = go (nat_lt a b) (a == b) refl e
  where
    go : (less same : Bool) → (a == b) ≡ same → is_eq (cond less Less (cond same Equal Greater)) ≡ true → a ≡ b
    go true same is h = absurd (cc)
    go false true is h = eqb-true a b is
    go false false is h = absurd (cc)

ascends : (m : BTreeMap ℕ ℕ) → IsOrdered nat_cmp m → AllPairs (λ a b. a.0 < b.0) m.entries
ascends m ordered i j d lt within =
    let es = m.entries in
    let long = length-map es (λ (e : ℕ × ℕ). e.0) in
    let here = Less-from_sorted nat_cmp (map (λ (e : ℕ × ℕ). e.0) es) i j 0 ordered lt (omega arith) in
    below (get_or es i d).0 (get_or es j d).0 (rw (get_or-map (λ (e : ℕ × ℕ). e.0) es i d 0 (omega arith), get_or-map (λ (e : ℕ × ℕ). e.0) es j d 0 within) at here)

found : (m : BTreeMap ℕ ℕ) → IsOrdered nat_cmp m → (e : ℕ × ℕ) → Contains m.entries e → get nat_cmp m e.0 ≡ Some e.1
found m ordered e c = lookup-from_Contains (eq_by_cmp_equiv nat_cmp_total) e.0 e.1 m.entries (IsDistinct-from_sorted nat_cmp (map (λ (f : ℕ × ℕ). f.0) m.entries) ordered) c

there : (m : BTreeMap ℕ ℕ) (address : ℕ) → unwrap_or (get nat_cmp m address) 0 ≢ 0 → Contains m.entries (address, unwrap_or (get nat_cmp m address) 0)
there m address some = go (get nat_cmp m address) refl some
  where
    go : (held : Option ℕ) → get nat_cmp m address ≡ held → unwrap_or held 0 ≢ 0 → Contains m.entries (address, unwrap_or held 0)
    go None is h = absurd (h refl)
    go (Some word) is h = Contains-from_lookup same_key address word m.entries is

pub is_listed : (state : State) → IsListing (words state) (listing state)
is_listed state = record {
  count = state.count;
  words = λ n within. refl;
  ascending = ascends state.cells state.ordered;
  held = λ e c.
      let is = found state.cells state.ordered e c in
      (sym (ap (λ (o : Option ℕ). unwrap_or o 0) is), λ zero. state.nonzero e.0 (is ∙ ap (λ (w : ℕ). Some w) zero));
  complete = λ address some. there state.cells address some;
}
