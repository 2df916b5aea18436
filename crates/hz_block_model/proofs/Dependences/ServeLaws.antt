-- By which bypass a true dependence goes.
use Rattle.std.proofs.Common.{◌≡◌, ℕ, ◌==◌, Bool, true, false, cond, List, [], ◌∷◌, ◌++◌, filter, Option, Some, None, All, Contains, refl, ap, ◌∙◌}
use Rattle.std.specs.Prelude.{◌&&◌, not, slice_get, slice_index, unwrap_or}
use Rattle.std.specs.List.{list_any, find}
use Rattle.std.specs.Option.{option_map}
use Rattle.std.proofs.lemmas.List.Elements.{All-head, All-tail}
use Rattle.hz_base_model.proofs.Elements.{Contains-head, Contains-tail}
use Rattle.hz_description_model.specs.Check.CheckFaults.{IsFirst}
use Rattle.hz_description_model.specs.Check.CheckedParts.{BypassParts}
use Rattle.hz_block_model.specs.Running.Blocks.{Instruction}
use Rattle.hz_block_model.specs.Dependences.Classes.{bypass_between, guarded_between, number_where, timing_of}
use Rattle.hz_block_model.specs.Dependences.ClassWords.{Lists, StoresAt}
use Rattle.hz_block_model.specs.Dependences.Stores.{stores_data_if, stores_data_at}
use Rattle.hz_block_model.proofs.Dependences.SourceLaws.{contains_among}
use Rattle.hz_block_model.proofs.Dependences.OrderLaws.{among_contains}
use Rattle.hz_block_model.proofs.Dependences.DataLaws.{first_of_both, second_of_both, both_of, stores_says, stores_at}

fails : (b : Bool) → (b ≡ true → ⊥) → b ≡ false
fails true h = absurd (h refl)
fails false h = refl

-- Of items the first that passes both a filter and a test.
module _ {A : Type 0} (g p : A → Bool) where
  first_found : (before after : List A) (x : A) → All (λ y. g y ≡ true → p y ≡ true → ⊥) before → g x ≡ true → p x ≡ true → find p (filter g (before ++ x ∷ after)) ≡ Some x
  first_found [] after x none keeps passes =
      ap (λ (b : Bool). find p (cond b (x ∷ filter g after) (filter g after))) keeps ∙ ap (λ (b : Bool). cond b (Some x) (find p (filter g after))) passes
  first_found (y ∷ before) after x none keeps passes =
      by_filter (g y) refl (first_found before after x (All-tail (λ y. g y ≡ true → p y ≡ true → ⊥) y before none) keeps passes)
    where
      by_filter : (b : Bool) → g y ≡ b → find p (filter g (before ++ x ∷ after)) ≡ Some x → find p (cond b (y ∷ filter g (before ++ x ∷ after)) (filter g (before ++ x ∷ after))) ≡ Some x
      by_filter true e further =
          ap (λ (b : Bool). cond b (Some y) (find p (filter g (before ++ x ∷ after)))) (fails (p y) (All-head (λ y. g y ≡ true → p y ≡ true → ⊥) y before none e)) ∙ further
      by_filter false e further = further

  none_found : (xs : List A) → ((x : A) → Contains xs x → g x ≡ true → p x ≡ true → ⊥) → find p (filter g xs) ≡ None
  none_found [] none = refl
  none_found (x ∷ xs) none = by_filter (g x) refl (none_found xs (λ y c. none y (Contains-tail x y xs c)))
    where
      by_filter : (b : Bool) → g x ≡ b → find p (filter g xs) ≡ None → find p (cond b (x ∷ filter g xs) (filter g xs)) ≡ None
      by_filter true e further = ap (λ (b : Bool). cond b (Some x) (find p (filter g xs))) (fails (p x) (none x (Contains-head x xs) e)) ∙ further
      by_filter false e further = further

-- Bypasses of two classes.
module _ (out in_ : ℕ) where
  -- it lists them
  abbrev listed : BypassParts → Bool
  listed b = list_any (λ n. n == out) b.outs && list_any (λ n. n == in_) b.ins

  -- it has the guard, or has none
  abbrev kept : Bool → BypassParts → Bool
  kept guard b = cond guard b.guard (not b.guard)

  listed_is : (guard : Bool) (b : BypassParts) → kept guard b ≡ true → listed b ≡ true → Lists guard out in_ b
  listed_is guard b has is = record {
    has = by_guard guard b.guard has;
    from = among_contains b.outs out (first_of_both (list_any (λ n. n == out) b.outs) (list_any (λ n. n == in_) b.ins) is);
    to = among_contains b.ins in_ (second_of_both (list_any (λ n. n == out) b.outs) (list_any (λ n. n == in_) b.ins) is);
  }
    where
      by_guard : (a b : Bool) → cond a b (not b) ≡ true → b ≡ a
      by_guard true b h = h
      by_guard false false h = refl
      by_guard false true h = absurd (cc)

  is_kept : (guard : Bool) (b : BypassParts) → Lists guard out in_ b → kept guard b ≡ true
  is_kept true b l = l.has
  is_kept false b l = ap not l.has

  is_listed : (guard : Bool) (b : BypassParts) → Lists guard out in_ b → listed b ≡ true
  is_listed guard b l = both_of (list_any (λ n. n == out) b.outs) (list_any (λ n. n == in_) b.ins) (contains_among b.outs out l.from) (contains_among b.ins in_ l.to)

  -- the first of them
  first_between : (guard : Bool) (bypasses : List BypassParts) (b : BypassParts) → IsFirst (Lists guard out in_) bypasses b → bypass_between (filter (kept guard) bypasses) out in_ ≡ Some b.number
  first_between guard bypasses b f =
      ap (λ (bs : List BypassParts). bypass_between (filter (kept guard) bs) out in_) f.parts
      ∙ ap (option_map (λ (b : BypassParts). b.number)) (first_found (kept guard) listed f.before f.after b
      (λ k d lt has is. f.others k d lt (listed_is guard _ has is)) (is_kept guard b f.holds) (is_listed guard b f.holds))

  none_between : (guard : Bool) (bypasses : List BypassParts) → ((b : BypassParts) → Contains bypasses b → Lists guard out in_ b → ⊥) → bypass_between (filter (kept guard) bypasses) out in_ ≡ None
  none_between guard bypasses none = ap (option_map (λ (b : BypassParts). b.number)) (none_found (kept guard) listed bypasses (λ b c has is. none b c (listed_is guard b has is)))

-- Two places of a block whose instructions have these classes.
module _ (latencies : List ℕ) (bypasses : List BypassParts) (classes : List ℕ) (block : List Instruction) (i j : ℕ) where
  abbrev out : ℕ
  out = slice_index classes i

  abbrev «in» : ℕ
  «in» = slice_index classes j

  abbrev number : ℕ
  number = (timing_of latencies bypasses classes block).number i j

  abbrev latency : ℕ
  latency = slice_index latencies out

  abbrev plain : Option ℕ
  plain = bypass_between (filter (kept out «in» false) bypasses) out «in»

  stores_there : StoresAt block i j → stores_data_at block i j ≡ true
  stores_there s = ap (λ (o : Option Instruction). stores_data_if o (slice_get block j)) s.at_first ∙ (ap (stores_data_if (Some s.first)) s.at_second ∙ (stores_says s.first s.second).1 s.stores)

  pub by_guarded : StoresAt block i j → (b : BypassParts) → IsFirst (Lists true out «in») bypasses b → number ≡ b.number
  by_guarded s b f =
      ap (λ (is_store : Bool). number_where bypasses latency is_store out «in») (stores_there s)
      ∙ ap (λ (o : Option ℕ). unwrap_or o (unwrap_or plain latency)) (first_between out «in» true bypasses b f)

  -- no guarded bypass serves
  abbrev IsUnguarded : Type 0
  IsUnguarded = (c : BypassParts) → Contains bypasses c → Lists true out «in» c → StoresAt block i j → ⊥

  none_guarded : IsUnguarded → guarded_between bypasses (stores_data_at block i j) out «in» ≡ None
  none_guarded none = by_store (stores_data_at block i j) refl
    where
      by_store : (b : Bool) → stores_data_at block i j ≡ b → guarded_between bypasses b out «in» ≡ None
      by_store false e = refl
      by_store true e = none_between out «in» true bypasses (λ c there l.
          let (first, second, at_first, at_second, stores) = stores_at (slice_get block i) (slice_get block j) e in
          none c there l (record { first = first; second = second; at_first = at_first; at_second = at_second; stores = stores }))

  pub by_unguarded : IsUnguarded → (b : BypassParts) → IsFirst (Lists false out «in») bypasses b → number ≡ b.number
  by_unguarded none b f = ap (λ (o : Option ℕ). unwrap_or o (unwrap_or plain latency)) (none_guarded none) ∙ ap (λ (o : Option ℕ). unwrap_or o latency) (first_between out «in» false bypasses b f)

  pub by_latency : IsUnguarded → ((c : BypassParts) → Contains bypasses c → Lists false out «in» c → ⊥) → number ≡ latency
  by_latency none other = ap (λ (o : Option ℕ). unwrap_or o (unwrap_or plain latency)) (none_guarded none) ∙ ap (λ (o : Option ℕ). unwrap_or o latency) (none_between out «in» false bypasses other)
