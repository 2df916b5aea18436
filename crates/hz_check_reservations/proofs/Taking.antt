-- Taking a node: what is kept while the edges are followed back from it.
use Rattle.std.proofs.Common.{◌≡◌, ℕ, ◌+◌, ◌<◌, ◌⊎◌, inl, inr, ⊎_elim, Bool, true, false, List, [], ◌∷◌, ◌++◌, length, set, Contains, refl, sym, ap, ◌∙◌, subst, arith}
use Rattle.std.proofs.lemmas.List.{length_push}
use Rattle.std.proofs.lemmas.List.Elements.{Contains-append_left, Contains-push, Contains-push_cases}
use Rattle.hz_base_model.proofs.Elements.{Contains-nil}
use Rattle.hz_check_reservations.specs.declared.ordering.circle.Lead.TheVariants.{Nowhere}
use Rattle.hz_check_reservations.specs.Circles.{Knowledge, lead_of, lead_now, is_taken, all_found, IsReady, Takes}
use Rattle.hz_check_reservations.specs.Graphs.{Path, last, onward}
use Rattle.hz_check_reservations.proofs.Finding.{Finds, finds_all, lead_cases, nowhere_count}
use Rattle.hz_check_reservations.proofs.Paths.{path_push}

-- what is left to do
abbrev pub pending_work : Knowledge → ℕ
pending_work k = nowhere_count k.leads + length k.pending

module _ (starts : ℕ → List ℕ) (end : ℕ) (old : Knowledge) where
  -- a node leads somewhere
  abbrev Somewhere : Knowledge → ℕ → Type 0
  Somewhere k v = lead_of k.leads v ≡ Nowhere → ⊥

  pub record IsTaking (k : Knowledge) : Type 0 where
    pub size : length k.leads ≡ length old.leads
    pub taken : k.taken ≡ old.taken
    pub kept : (v : ℕ) → Somewhere old v → lead_of k.leads v ≡ lead_of old.leads v
    pub fresh : (v : ℕ) → lead_of old.leads v ≡ Nowhere → (lead_of k.leads v ≡ Nowhere) ⊎ (Path starts end v × (lead_of k.leads v ≡ lead_now (is_taken old.taken v)))
    pub waits : (v : ℕ) → Contains k.pending v → (end ≡ v) ⊎ Path starts end v
    pub within : (v : ℕ) → Contains k.pending v → v < length old.leads
    pub closed : (v : ℕ) → (end ≡ v) ⊎ Somewhere k v → Contains k.pending v ⊎ ((start : ℕ) → Contains (starts v) start → Somewhere k start)

  pub taking_begins : IsReady starts old → end < length old.leads → IsTaking (record old { pending = old.pending ++ end ∷ [] })
  taking_begins ready small = record {
    size = refl;
    taken = refl;
    kept = λ v h. refl;
    fresh = λ v h. inl h;
    waits = λ v h. inl (only v h);
    within = λ v h. subst (λ (x : ℕ). x < length old.leads) (only v h) small;
    closed = λ v h. ⊎_elim
        (λ (e : end ≡ v). inl (subst (Contains (old.pending ++ end ∷ [])) e (Contains-push old.pending end)))
        (λ (somewhere : Somewhere old v). inr (λ start g. ready.closed v start somewhere g))
        h;
  }
    where
      only : (v : ℕ) → Contains (old.pending ++ end ∷ []) v → end ≡ v
      only v h = ⊎_elim
          (λ (none : Contains old.pending v). absurd (Contains-nil v (subst (λ (xs : List ℕ). Contains xs v) ready.rest none)))
          (λ (e : end ≡ v). e)
          (Contains-push_cases old.pending end v h)

  -- a pending node is looked at
  module _ (k : Knowledge) (front : List ℕ) (node : ℕ) (is : k.pending ≡ front ++ node ∷ []) (t : IsTaking k) (inside : (v : ℕ) → Contains (starts node) v → v < length old.leads) where
    abbrev popped : Knowledge
    popped = record k { pending = front }

    finds : Finds (starts node) popped (all_found (starts node) popped)
    finds = finds_all (starts node) popped (λ v h. omega (arith, inside v h, t.size))

    in_pending : (v : ℕ) → Contains (front ++ node ∷ []) v → Contains k.pending v
    in_pending v h = subst (λ (xs : List ℕ). Contains xs v) (sym is) h

    of_pending : (v : ℕ) → Contains k.pending v → Contains front v ⊎ (node ≡ v)
    of_pending v h = Contains-push_cases front node v (subst (λ (xs : List ℕ). Contains xs v) is h)

    -- the starts of the node's edges lead to the end
    beyond : (v : ℕ) → Contains (starts node) v → Path starts end v
    beyond v h = ⊎_elim
        (λ (e : end ≡ node). last (subst (λ (x : ℕ). Contains (starts x) v) (sym e) h))
        (λ (p : Path starts end node). path_push starts p h)
        (t.waits node (in_pending node (Contains-push front node)))

    pub pending_within : node < length old.leads
    pending_within = t.within node (in_pending node (Contains-push front node))

    still_somewhere : (v : ℕ) → Somewhere k v → Somewhere (all_found (starts node) popped) v
    still_somewhere v h g = h (sym (finds.kept v h) ∙ g)

    -- a node that led somewhere before, or the end
    closed_before : (v : ℕ) → Contains k.pending v ⊎ ((start : ℕ) → Contains (starts v) start → Somewhere k start)
        → Contains (all_found (starts node) popped).pending v ⊎ ((start : ℕ) → Contains (starts v) start → Somewhere (all_found (starts node) popped) start)
    closed_before v = ⊎_elim
        (λ (p : Contains k.pending v). ⊎_elim
        (λ (q : Contains front v). inl (finds.waits v q))
        (λ (e : node ≡ v). inr (λ start g. finds.all start (subst (λ (x : ℕ). Contains (starts x) start) (sym e) g)))
        (of_pending v p))
        (λ (c : (start : ℕ) → Contains (starts v) start → Somewhere k start). inr (λ start g. still_somewhere start (c start g)))

    pub taking_goes_on : IsTaking (all_found (starts node) popped)
    taking_goes_on = record {
      size = finds.size ∙ t.size;
      taken = finds.taken ∙ t.taken;
      kept = λ v h. finds.kept v (λ g. h (sym (t.kept v h) ∙ g)) ∙ t.kept v h;
      fresh = λ v h. ⊎_elim
          (λ (nowhere : lead_of k.leads v ≡ Nowhere). ⊎_elim
          (λ (g : lead_of (all_found (starts node) popped).leads v ≡ Nowhere). inl g)
          (λ (g : Contains (starts node) v × (lead_of (all_found (starts node) popped).leads v ≡ lead_now (is_taken k.taken v)) × Contains (all_found (starts node) popped).pending v).
          inr (beyond v g.0, g.1 ∙ ap (λ (b : List Bool). lead_now (is_taken b v)) t.taken))
          (finds.fresh v nowhere))
          (λ (g : Path starts end v × (lead_of k.leads v ≡ lead_now (is_taken old.taken v))). inr (g.0, finds.kept v (somewhere v g.1) ∙ g.1))
          (t.fresh v h);
      waits = λ v h. ⊎_elim
          (λ (p : Contains front v). t.waits v (in_pending v (Contains-append_left front (node ∷ []) v p)))
          (λ (g : Contains (starts node) v). inr (beyond v g))
          (finds.pends v h);
      within = λ v h. ⊎_elim
          (λ (p : Contains front v). t.within v (in_pending v (Contains-append_left front (node ∷ []) v p)))
          (λ (g : Contains (starts node) v). inside v g)
          (finds.pends v h);
      closed = λ v h. ⊎_elim
          (λ (nowhere : lead_of k.leads v ≡ Nowhere). ⊎_elim
          (λ (e : end ≡ v). closed_before v (t.closed v (inl e)))
          (λ (now : Somewhere (all_found (starts node) popped) v). ⊎_elim
          (λ (g : lead_of (all_found (starts node) popped).leads v ≡ Nowhere). absurd (now g))
          (λ (g : Contains (starts node) v × (lead_of (all_found (starts node) popped).leads v ≡ lead_now (is_taken k.taken v)) × Contains (all_found (starts node) popped).pending v). inl g.2)
          (finds.fresh v nowhere))
          h)
          (λ (somewhere' : Somewhere k v). closed_before v (t.closed v (inr somewhere')))
          (lead_cases (lead_of k.leads v));
    }
      where
        somewhere : (v : ℕ) → lead_of k.leads v ≡ lead_now (is_taken old.taken v) → Somewhere k v
        somewhere v e g = no (is_taken old.taken v) (sym e ∙ g)
          where
            no : (b : Bool) → lead_now b ≡ Nowhere → ⊥
            no true h = absurd (cc)
            no false h = absurd (cc)

    pub pending_falls : pending_work (all_found (starts node) popped) < pending_work k
    pending_falls = omega (arith, finds.cost, ap length is, length_push front node)

  -- all edges are followed back
  pub taking_ends : (k : Knowledge) → k.pending ≡ [] → IsTaking k → Takes starts end old (record k { taken = set old.taken end true })
  taking_ends k none t = record {
    size = t.size;
    taken = refl;
    ready = record { closed = λ v start h g. all v (inr h) start g; rest = none };
    kept = t.kept;
    others = λ v nowhere p. reached end v (inl refl) p nowhere;
    fresh = t.fresh;
  }
    where
      all : (v : ℕ) → (end ≡ v) ⊎ Somewhere k v → (start : ℕ) → Contains (starts v) start → Somewhere k start
      all v h = ⊎_elim
          (λ (p : Contains k.pending v). absurd (Contains-nil v (subst (λ (xs : List ℕ). Contains xs v) none p)))
          (λ (c : (start : ℕ) → Contains (starts v) start → Somewhere k start). c)
          (t.closed v h)

      reached : (from v : ℕ) → (end ≡ from) ⊎ Somewhere k from → Path starts from v → Somewhere k v
      reached from v h (last e) = all from h v e
      reached from v h (onward {middle = middle} e p) = reached middle v (inr (all from h middle e)) p
