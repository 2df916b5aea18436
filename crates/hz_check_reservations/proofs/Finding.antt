-- What finding nodes keeps, and that it ends.
use Rattle.std.proofs.Common.{◌≡◌, ◌≢◌, ℕ, zero, suc, ◌+◌, ◌<◌, ◌⊎◌, inl, inr, ⊎_elim, Bool, true, false, List, [], ◌∷◌, ◌++◌, length, set, Contains, refl, sym, ap, ◌∙◌, subst, arith, get_or-set_same, get_or-set_other, length-set}
use Rattle.std.proofs.lemmas.Bool.{cases_eq}
use Rattle.std.proofs.lemmas.List.{length_push}
use Rattle.std.proofs.lemmas.List.Elements.{Contains-append_left, Contains-push, Contains-push_cases}
use Rattle.hz_base_model.proofs.Elements.{Contains-nil, Contains-head, Contains-tail, Contains-cons_cases}
use Rattle.hz_check_reservations.specs.declared.ordering.circle.Lead.{Lead}
use Rattle.hz_check_reservations.specs.declared.ordering.circle.Lead.TheVariants.{Nowhere, Straight, Around}
use Rattle.hz_check_reservations.specs.Circles.{Knowledge, lead_of, lead_now, is_taken, found_by, found, all_found}

-- how many nodes lead nowhere
pub nowhere_count : List Lead → ℕ
nowhere_count [] = 0
nowhere_count (Nowhere ∷ leads) = suc (nowhere_count leads)
nowhere_count (Straight ∷ leads) = nowhere_count leads
nowhere_count (Around ∷ leads) = nowhere_count leads

nowhere_count-set : (leads : List Lead) (i : ℕ) (b : Bool) → i < length leads → lead_of leads i ≡ Nowhere → suc (nowhere_count (set leads i (lead_now b))) ≡ nowhere_count leads
unfolding nowhere_count
nowhere_count-set [] i b lt e = absurd (omega arith)
nowhere_count-set (Nowhere ∷ leads) zero true lt e = refl
nowhere_count-set (Nowhere ∷ leads) zero false lt e = refl
nowhere_count-set (Straight ∷ leads) zero b lt e = absurd (cc)
nowhere_count-set (Around ∷ leads) zero b lt e = absurd (cc)
nowhere_count-set (Nowhere ∷ leads) (suc i) b lt e = ap suc (nowhere_count-set leads i b (omega arith) e)
nowhere_count-set (Straight ∷ leads) (suc i) b lt e = nowhere_count-set leads i b (omega arith) e
nowhere_count-set (Around ∷ leads) (suc i) b lt e = nowhere_count-set leads i b (omega arith) e

lead_now-somewhere : (b : Bool) → lead_now b ≡ Nowhere → ⊥
lead_now-somewhere true e = absurd (cc)
lead_now-somewhere false e = absurd (cc)

-- a node leads nowhere, or somewhere
pub lead_cases : (l : Lead) → (l ≡ Nowhere) ⊎ (l ≡ Nowhere → ⊥)
lead_cases Nowhere = inl refl
lead_cases Straight = inr (λ e. absurd (cc))
lead_cases Around = inr (λ e. absurd (cc))

-- what finding nodes does
pub record Finds (nodes : List ℕ) (k new : Knowledge) : Type 0 where
  pub taken : new.taken ≡ k.taken
  pub size : length new.leads ≡ length k.leads
  pub all : (v : ℕ) → Contains nodes v → lead_of new.leads v ≡ Nowhere → ⊥
  pub kept : (v : ℕ) → (lead_of k.leads v ≡ Nowhere → ⊥) → lead_of new.leads v ≡ lead_of k.leads v
  pub fresh : (v : ℕ) → lead_of k.leads v ≡ Nowhere → (lead_of new.leads v ≡ Nowhere) ⊎ (Contains nodes v × (lead_of new.leads v ≡ lead_now (is_taken k.taken v)) × Contains new.pending v)
  pub waits : (v : ℕ) → Contains k.pending v → Contains new.pending v
  pub pends : (v : ℕ) → Contains new.pending v → Contains k.pending v ⊎ Contains nodes v
  pub cost : nowhere_count new.leads + length new.pending ≡ nowhere_count k.leads + length k.pending

-- no node is found
finds_none : (k : Knowledge) → Finds [] k k
finds_none k = record {
  taken = refl;
  size = refl;
  all = λ v h. absurd (Contains-nil v h);
  kept = λ v h. refl;
  fresh = λ v h. inl h;
  waits = λ v h. h;
  pends = λ v h. inl h;
  cost = refl;
}

-- one node is found
finds_one : (node : ℕ) (k : Knowledge) → node < length k.leads → Finds (node ∷ []) k (found node k)
finds_one node k small = by_lead (lead_of k.leads node) refl
  where
    -- the node that was known before
    known : (lead_of k.leads node ≡ Nowhere → ⊥) → Finds (node ∷ []) k k
    known somewhere = record {
      taken = refl;
      size = refl;
      all = λ v h. ⊎_elim (λ (e : node ≡ v). subst (λ (x : ℕ). lead_of k.leads x ≡ Nowhere → ⊥) e somewhere) (λ (none : Contains [] v). absurd (Contains-nil v none)) (Contains-cons_cases node v [] h);
      kept = λ v h. refl;
      fresh = λ v h. inl h;
      waits = λ v h. h;
      pends = λ v h. inl h;
      cost = refl;
    }

    here : lead_of (set k.leads node (lead_now (is_taken k.taken node))) node ≡ lead_now (is_taken k.taken node)
    here = get_or-set_same k.leads node (lead_now (is_taken k.taken node)) Nowhere small

    there : (v : ℕ) → v ≢ node → lead_of (set k.leads node (lead_now (is_taken k.taken node))) v ≡ lead_of k.leads v
    there v ne = get_or-set_other k.leads node v (lead_now (is_taken k.taken node)) Nowhere ne

    new : lead_of k.leads node ≡ Nowhere → Finds (node ∷ []) k (found_by Nowhere node k)
    new nowhere = record {
      taken = refl;
      size = length-set k.leads node (lead_now (is_taken k.taken node));
      all = λ v h. ⊎_elim
          (λ (e : node ≡ v). subst (λ (x : ℕ). lead_of (set k.leads node (lead_now (is_taken k.taken node))) x ≡ Nowhere → ⊥) e (λ g. lead_now-somewhere (is_taken k.taken node) (sym here ∙ g)))
          (λ (none : Contains [] v). absurd (Contains-nil v none))
          (Contains-cons_cases node v [] h);
      kept = λ v h. there v (λ e. h (ap (lead_of k.leads) e ∙ nowhere));
      fresh = λ v h. ⊎_elim
          (λ (e : v ≡ node). inr (
            subst (Contains (node ∷ [])) (sym e) (Contains-head node []),
            subst (λ (x : ℕ). lead_of (set k.leads node (lead_now (is_taken k.taken node))) x ≡ lead_now (is_taken k.taken x)) (sym e) here,
            subst (Contains (k.pending ++ node ∷ [])) (sym e) (Contains-push k.pending node),
          ))
          (λ (ne : v ≢ node). inl (there v ne ∙ h))
          (cases_eq v node);
      waits = λ v h. Contains-append_left k.pending (node ∷ []) v h;
      pends = λ v h. ⊎_elim (λ (old : Contains k.pending v). inl old) (λ (e : node ≡ v). inr (subst (Contains (node ∷ [])) e (Contains-head node []))) (Contains-push_cases k.pending node v h);
      cost = omega (arith, nowhere_count-set k.leads node (is_taken k.taken node) small nowhere, length_push k.pending node);
    }

    by_lead : (l : Lead) → lead_of k.leads node ≡ l → Finds (node ∷ []) k (found_by l node k)
    by_lead Nowhere e = new e
    by_lead Straight e = known (λ h. let g : Nowhere ≡ Straight = sym h ∙ e in absurd (cc))
    by_lead Around e = known (λ h. let g : Nowhere ≡ Around = sym h ∙ e in absurd (cc))

-- one node is found, and then others
finds_more : (node : ℕ) (nodes : List ℕ) (k mid new : Knowledge) → Finds (node ∷ []) k mid → Finds nodes mid new → Finds (node ∷ nodes) k new
finds_more node nodes k mid new a b = record {
  taken = b.taken ∙ a.taken;
  size = b.size ∙ a.size;
  all = λ v h. ⊎_elim
      (λ (e : node ≡ v). let somewhere = a.all v (subst (Contains (node ∷ [])) e (Contains-head node [])) in λ g. somewhere (sym (b.kept v somewhere) ∙ g))
      (λ (more : Contains nodes v). b.all v more)
      (Contains-cons_cases node v nodes h);
  kept = λ v h. b.kept v (λ g. h (sym (a.kept v h) ∙ g)) ∙ a.kept v h;
  fresh = λ v h. ⊎_elim
      (λ (still : lead_of mid.leads v ≡ Nowhere). ⊎_elim
      (λ (g : lead_of new.leads v ≡ Nowhere). inl g)
      (λ (g : Contains nodes v × (lead_of new.leads v ≡ lead_now (is_taken mid.taken v)) × Contains new.pending v).
      inr (Contains-tail node v nodes g.0, g.1 ∙ ap (λ (t : List Bool). lead_now (is_taken t v)) a.taken, g.2))
      (b.fresh v still))
      (λ (g : Contains (node ∷ []) v × (lead_of mid.leads v ≡ lead_now (is_taken k.taken v)) × Contains mid.pending v).
      inr (
        ⊎_elim (λ (e : node ≡ v). subst (Contains (node ∷ nodes)) e (Contains-head node nodes)) (λ (none : Contains [] v). absurd (Contains-nil v none)) (Contains-cons_cases node v [] g.0),
        b.kept v (λ n. lead_now-somewhere (is_taken k.taken v) (sym g.1 ∙ n)) ∙ g.1,
        b.waits v g.2,
      ))
      (a.fresh v h);
  waits = λ v h. b.waits v (a.waits v h);
  pends = λ v h. ⊎_elim
      (λ (mid' : Contains mid.pending v). ⊎_elim
      (λ (old : Contains k.pending v). inl old)
      (λ (one : Contains (node ∷ []) v). inr (⊎_elim (λ (e : node ≡ v). subst (Contains (node ∷ nodes)) e (Contains-head node nodes)) (λ (none : Contains [] v). absurd (Contains-nil v none)) (Contains-cons_cases node v [] one)))
      (a.pends v mid'))
      (λ (more : Contains nodes v). inr (Contains-tail node v nodes more))
      (b.pends v h);
  cost = b.cost ∙ a.cost;
}

pub finds_all : (nodes : List ℕ) (k : Knowledge) → ((v : ℕ) → Contains nodes v → v < length k.leads) → Finds nodes k (all_found nodes k)
finds_all [] k small = finds_none k
finds_all (node ∷ nodes) k small =
    let first = finds_one node k (small node (Contains-head node nodes)) in
    finds_more node nodes k (found node k) (all_found nodes (found node k)) first
    (finds_all nodes (found node k) (λ v h. omega (arith, small v (Contains-tail node v nodes h), first.size)))

pub found_size : (node : ℕ) (k : Knowledge) → length (found node k).leads ≡ length k.leads
found_size node k = by_lead (lead_of k.leads node)
  where
    by_lead : (l : Lead) → length (found_by l node k).leads ≡ length k.leads
    by_lead Nowhere = length-set k.leads node (lead_now (is_taken k.taken node))
    by_lead Straight = refl
    by_lead Around = refl

pub found_taken : (node : ℕ) (k : Knowledge) → (found node k).taken ≡ k.taken
found_taken node k = by_lead (lead_of k.leads node)
  where
    by_lead : (l : Lead) → (found_by l node k).taken ≡ k.taken
    by_lead Nowhere = refl
    by_lead Straight = refl
    by_lead Around = refl
