-- Graphs that differ in nothing but the order of their edges have the same schedules.
use Rattle.std.proofs.Common.{◌≡◌, ℕ, inl, inr, List, [], ◌∷◌, ◌++◌, map, length, Contains, refl, sym, ap, ◌∙◌, subst, arith}
use Rattle.std.specs.Prelude.{slice_index}
use Rattle.std.proofs.lemmas.List.{length-map}
use Rattle.hz_pipeline_model.specs.Accepting.Events.{Event, issue}
use Rattle.hz_block_model.specs.Dependences.Graphs.{Edge}
use Rattle.hz_block_model.specs.Scheduling.Schedules.{Node, Graph, Slot, class_at, height_at, present, advance_to, spelled, spell, GoesBefore, Legal, Greedy, IsCandidate}

-- Two graphs have the same instructions, and the same edges in whatever order.
pub record AreAlike (g h : Graph) : Type 0 where
  pub classes : map (λ n. n.class) g.nodes ≡ map (λ n. n.class) h.nodes
  pub heights : map (λ n. n.height) g.nodes ≡ map (λ n. n.height) h.nodes
  pub there : (e : Edge) → Contains g.edges e → Contains h.edges e
  pub back : (e : Edge) → Contains h.edges e → Contains g.edges e

pub alike_back : (g h : Graph) → AreAlike g h → AreAlike h g
alike_back g h same = record { classes = sym same.classes; heights = sym same.heights; there = same.back; back = same.there }

pub alike_length : (g h : Graph) → AreAlike g h → length g.nodes ≡ length h.nodes
alike_length g h same = omega (arith, ap length same.classes, length-map g.nodes (λ (n : Node). n.class), length-map h.nodes (λ (n : Node). n.class))

module _ (accepts : List Event → Type 0) (g h : Graph) (same : AreAlike g h) where
  same_class : (i : ℕ) → class_at g i ≡ class_at h i
  same_class i = ap (λ (cs : List ℕ). slice_index cs i) same.classes

  same_height : (i : ℕ) → height_at g i ≡ height_at h i
  same_height i = ap (λ (hs : List ℕ). slice_index hs i) same.heights

  same_spelled : (cycle : ℕ) (slots : List Slot) → spelled g cycle slots ≡ spelled h cycle slots
  same_spelled cycle [] = refl
  same_spelled cycle (x ∷ slots) =
      ap (λ (c : ℕ). advance_to cycle x.cycle ++ issue c ∷ spelled g x.cycle slots) (same_class x.place)
      ∙ ap (λ (t : List Event). advance_to cycle x.cycle ++ issue (class_at h x.place) ∷ t) (same_spelled x.cycle slots)

  candidate_there : (slots : List Slot) (cycle j : ℕ) → IsCandidate accepts g slots cycle j → IsCandidate accepts h slots cycle j
  candidate_there slots cycle j c = record {
    within = omega (arith, c.within, alike_length g h same);
    left = c.left;
    ready = λ e held to. c.ready e (same.back e held) to;
    fits = subst (λ (t : List Event). accepts (t ++ (advance_to (present 0 slots) cycle ++ issue (class_at h j) ∷ []))) (same_spelled 0 slots)
        (subst (λ (class : ℕ). accepts (spell g slots ++ (advance_to (present 0 slots) cycle ++ issue class ∷ []))) (same_class j) c.fits);
  }

  before_there : (i j : ℕ) → GoesBefore g i j → GoesBefore h i j
  before_there i j (inl more) = inl (omega (arith, more, same_height i, same_height j))
  before_there i j (inr (equal, le)) = inr (omega (arith, equal, same_height i, same_height j), le)

  pub legal_there : (slots : List Slot) → Legal accepts g slots → Legal accepts h slots
  legal_there slots legal = record {
    order = rw (sym (alike_length g h same)) legal.order;
    rising = legal.rising;
    kept = λ before after x is e held to. legal.kept before after x is e (same.back e held) to;
    accepted = subst accepts (same_spelled 0 slots) legal.accepted;
  }

pub greedy_there : (accepts : List Event → Type 0) (g h : Graph) → AreAlike g h → (slots : List Slot) → Greedy accepts g slots → Greedy accepts h slots
greedy_there accepts g h same slots greedy before after x is =
    let f = greedy before after x is in
    let back = alike_back g h same in
    record {
      may = candidate_there accepts g h same before x.cycle x.place f.may;
      first = λ j c. before_there accepts g h same x.place j (f.first j (candidate_there accepts h g back before x.cycle j c));
      soonest = λ cycle j low high c. f.soonest cycle j low high (candidate_there accepts h g back before cycle j c);
    }
