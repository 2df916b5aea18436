-- Tails and chains by rows are those of the graph.
use Rattle.std.proofs.Common.{◌≡◌, ℕ, ◌+◌, ◌<◌, ◌≤◌, ◌==◌, List, [], ◌∷◌, map, filter, length, Contains, refl, sym, ap, ◌∙◌, subst, arith}
use Rattle.std.specs.Prelude.{slice_index, All}
use Rattle.std.proofs.lemmas.List.{length-map}
use Rattle.std.proofs.lemmas.List.Elements.{All-contains}
use Rattle.hz_description_model.specs.Reading.Limits.{latency_limit}
use Rattle.std.proofs.lemmas.Bool.{eqb-true, eq-eqb}
use Rattle.hz_base_model.proofs.Elements.{Contains-nil, Contains-map, Contains-from_map, Contains-filter, Contains-from_filter}
use Rattle.hz_block_model.specs.Dependences.Graphs as depend
use Rattle.hz_measure_model.specs.Bounds.Paths.{greatest, AreTails, CarriesOn, GoesOn, IsChain}
use Rattle.hz_measure_model.proofs.Bounds.Numbers.{greatest_above}
use Rattle.hz_measure_model.proofs.Bounds.WayLaws.{greatest_held}
use Rattle.hz_depend.specs.declared.parts.Edge.{Edge}
use Rattle.hz_depend.specs.declared.parts.Graph.{Graph}
use Rattle.std.specs.declared.alloc.Global.{Global}
use Rattle.std.specs.declared.vec.Vec.{Vec}
use Rattle.hz_bound.specs.Rows.{row_at, sum_of, Carries, Follows, IsChainOf, TailsFrom, LeadUp, IsPathOf}
use Rattle.hz_depend.specs.GraphShape.{edge_of}
use Rattle.hz_sched.specs.Shape.{node_of, graph_of}

module _ (g : Graph) (rows : ℕ → List Edge) (are_rows : (i : ℕ) → rows i ≡ filter (λ e. e.from == i) g.edges.items) (tails : List ℕ) where
  abbrev sum : Edge → ℕ
  sum = sum_of tails

  in_row : (i : ℕ) (e : depend.Edge) → Contains (map edge_of g.edges.items) e → e.from ≡ i → (f : Edge) × Contains (rows i) f × (edge_of f ≡ e)
  in_row i e there from =
      let (f, held, same) = Contains-from_map edge_of g.edges.items e there in
      let is : f.from ≡ i = ap (λ (e : depend.Edge). e.from) same ∙ from in
      (f, subst (λ (r : List Edge). Contains r f) (sym (are_rows i)) (Contains-filter (λ (e : Edge). e.from == i) f (eq-eqb f.from i is) g.edges.items held), same)

  of_row : (i : ℕ) (f : Edge) → Contains (rows i) f → Contains (map edge_of g.edges.items) (edge_of f) × (f.from ≡ i)
  of_row i f there =
      let (held, passes) = Contains-from_filter (λ (e : Edge). e.from == i) f g.edges.items (subst (λ (r : List Edge). Contains r f) (are_rows i) there) in
      (Contains-map edge_of g.edges.items f held, eqb-true f.from i passes)

  some_sum : (i : ℕ) (row : List Edge) → row ≡ rows i → ((f : Edge) → Contains (rows i) f → ⊥) → map sum row ≡ []
  some_sum i [] e none = refl
  some_sum i (f ∷ row) e none = absurd (none f (subst (λ (r : List Edge). Contains r f) e (0, omega arith, refl)))

  has_length : (ns : List ℕ) (n : ℕ) → Contains ns n → 0 < length ns
  has_length [] n there = absurd (Contains-nil n there)
  has_length (m ∷ ns) n there = omega arith

  pub tails_are : length tails ≡ length (graph_of g).nodes → ((i : ℕ) → i < length tails → slice_index tails i ≡ greatest (map (sum_of tails) (rows i))) → AreTails (graph_of g) tails
  tails_are long each = record {
    long = long;
    each = λ i lt. let is = each i (omega (arith, lt, long)) in record {
      none = λ none. is ∙ ap greatest (some_sum i (rows i) refl (λ f there. let (held, from) = of_row i f there in none (edge_of f) held from));
      least = λ e c from.
          let (f, there, same) = in_row i e c from in
          let low = greatest_above (map sum (rows i)) (sum f) (Contains-map sum (rows i) f there) in
          let cost = ap (λ (e : depend.Edge). e.cost + slice_index tails e.to) same in
          omega (arith, low, cost, is);
      reached = λ e c from.
          let (f, there, same) = in_row i e c from in
          let (h, held, most) = Contains-from_map sum (rows i) (greatest (map sum (rows i))) (greatest_held (map sum (rows i)) (has_length (map sum (rows i)) (sum f) (Contains-map sum (rows i) f there))) in
          let (inside, at) = of_row i h held in
          (edge_of h, inside, at, is ∙ sym most);
    };
  }

  carries_on : (j k : ℕ) → Carries (rows j) tails (slice_index tails j) k → CarriesOn (graph_of g) tails j k
  carries_on j k c = let (held, from) = of_row j c.by c.there in record { by = edge_of c.by; there = held; leaves = from; leads = c.leads; whole = c.whole }

  carries_back : (j k : ℕ) → CarriesOn (graph_of g) tails j k → Carries (rows j) tails (slice_index tails j) k
  carries_back j k c =
      let (f, held, same) = in_row j c.by c.there c.leaves in
      record { by = f; there = held; leads = ap (λ (e : depend.Edge). e.to) same ∙ c.leads; whole = c.whole ∙ ap (λ (n : ℕ). n + slice_index tails k) (sym (ap (λ (e : depend.Edge). e.cost) same)) }

  goes_on_by : (j : ℕ) (chain : List ℕ) → Follows rows tails j chain → GoesOn (graph_of g) tails j chain
  goes_on_by j [] on = on
  goes_on_by j (k ∷ chain) (more, least, on) = (more, record { is = carries_on j k least.is; first = λ i lt c. least.first i lt (carries_back j i c) }, goes_on_by k chain on)

  pub chain_is : length tails ≡ length (graph_of g).nodes → (chain : List ℕ) → IsChainOf rows tails chain → IsChain (graph_of g) tails chain
  chain_is long [] is = sym long ∙ is
  chain_is long (j ∷ chain) (least, on) = (
    record { is = (omega (arith, (least.is).0, long), (least.is).1); first = λ i lt at. least.first i lt (omega (arith, at.0, long), at.1) },
    goes_on_by j chain on,
  )

-- rows of edges that lead upwards
pub leads_up : (g : Graph) (rows : ℕ → List Edge) → ((i : ℕ) → rows i ≡ filter (λ e. e.from == i) g.edges.items) → (n : ℕ) → n ≡ length g.insns.items → All (λ e. (e.from < e.to) × (e.to < length g.insns.items) × (e.cost ≤ latency_limit)) g.edges.items → LeadUp rows n
leads_up g rows are n many all = record {
  up = λ i e there.
      let (held, from) = Contains-from_filter (λ (e : Edge). e.from == i) e g.edges.items (subst (λ (r : List Edge). Contains r e) (are i) there) in
      let (up, low, small) = All-contains (λ (e : Edge). (e.from < e.to) × (e.to < length g.insns.items) × (e.cost ≤ latency_limit)) g.edges.items e all held in
      (omega (arith, up, eqb-true e.from i from), omega (arith, low, many), small);
}

-- the greatest tail and its chain
pub path_is : (g : Graph) (rows : ℕ → List Edge) → ((i : ℕ) → rows i ≡ filter (λ e. e.from == i) g.edges.items) → (n : ℕ) → n ≡ length g.insns.items → (tails : List ℕ) → TailsFrom rows n 0 tails → (chain : List ℕ) → IsChainOf rows tails chain → (most : ℕ) → most ≡ greatest tails → IsPathOf (graph_of g) most chain
path_is g rows are n many tails from chain is most e =
    let long : length tails ≡ length (graph_of g).nodes = omega (arith, from.long, many, length-map g.insns.items node_of) in
    record {
      tails = tails;
      are = tails_are g rows are tails long (λ i lt. from.each i (omega arith) (omega (arith, lt, from.long)));
      path = e;
      chain = chain_is g rows are tails long chain is;
    }

-- ---- rows and tails that are read

abbrev Rows : Type 0
Rows = List (Vec Edge Global)

module _ (g : Graph) (edges : List Edge) (rows : Rows) (count : ℕ) (read : edges ≡ g.edges.items) (are : (i : ℕ) → row_at rows i ≡ filter (λ e. e.from == i) edges) (long : length rows ≡ count) (many : count ≡ length g.insns.items)
    (all : All (λ e. (e.from < e.to) × (e.to < length g.insns.items) × (e.cost ≤ latency_limit)) g.edges.items) where
  rows_are : (i : ℕ) → row_at rows i ≡ filter (λ e. e.from == i) g.edges.items
  rows_are i = are i ∙ ap (filter (λ e. e.from == i)) read

  pub view_leads : (view : Rows) → view ≡ rows → LeadUp (row_at view) (length view)
  view_leads view same = subst (λ (v : Rows). LeadUp (row_at v) (length v)) (sym same) (leads_up g (row_at rows) rows_are (length rows) (long ∙ many) all)

  pub path_made : (one other : Rows) (tails mine yours chain : List ℕ) (most : ℕ) → one ≡ rows → other ≡ rows → mine ≡ tails → yours ≡ tails → TailsFrom (row_at one) (length one) 0 tails → IsChainOf (row_at other) mine chain → most ≡ greatest yours → IsPathOf (graph_of g) most chain
  path_made one other tails mine yours chain most p q r t from is e =
      path_is g (row_at rows) rows_are (length rows) (long ∙ many) tails (subst (λ (v : Rows). TailsFrom (row_at v) (length v) 0 tails) p from)
      chain (subst (λ (ts : List ℕ). IsChainOf (row_at rows) ts chain) r (subst (λ (v : Rows). IsChainOf (row_at v) mine chain) q is)) most (e ∙ ap greatest t)
