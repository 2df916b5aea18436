-- What is reported of issues that still hold something is what the definitions say.
use Rattle.std.proofs.Common.{◌≡◌, ℕ, zero, suc, ◌-◌, ◌<◌, ◌≤◌, List, [], ◌∷◌, ◌++◌, map, drop, length, Contains, refl, sym, ap, ◌∙◌, arith}
use Rattle.std.specs.Prelude.{codes, decimal}
use Rattle.std.specs.List.{concat, flat_map, drop-map}
use Rattle.std.proofs.lemmas.List.{length-map}
use Rattle.std.proofs.lemmas.List.Folds.{concat-append}
use Rattle.hz_base_model.proofs.Elements.{Contains-head, Contains-tail}
use Rattle.hz_description_model.specs.Reservations.Automata.{UnitPlace}
use Rattle.hz_pipeline_model.specs.Accepting.Events.{Event, cycles_of}
use Rattle.hz_pipeline_model.specs.Accepting.Replay.{Pipeline}
use Rattle.hz_why_model.specs.Explanations.{Wording, ways_text}
use Rattle.hz_why_model.specs.Lists.{narrow}
use Rattle.hz_why_model.specs.Ways.{Way, ways_limit, ago_text, way_line, before_line, way_lines}
use Rattle.hz_reasons.specs.Holding.{age_of, way_of, AreHolders}
use Rattle.hz_reasons.specs.declared.holders.Holder.{Holder}
use Rattle.hz_explain.specs.Ways.{issue_reported, issues_reported}

-- some cycles ago
pub ago_some : (n : ℕ) → 0 < n → ago_text n ≡ codes "-" ++ decimal n
ago_some zero some = absurd (omega arith)
ago_some (suc n) some = refl

from_drop : {X : Type 0} (n : ℕ) (xs : List X) (x : X) → Contains (drop n xs) x → Contains xs x
from_drop zero xs x there = there
from_drop (suc n) [] x there = there
from_drop (suc n) (y ∷ xs) x there = Contains-tail y x xs (from_drop n xs x there)

module _ (class_name : ℕ → List ℕ) (now : ℕ) where
  line_is : (h : Holder) → age_of h ≤ now → way_line class_name now (way_of now h) ≡ issue_reported class_name h
  line_is h early =
      let time : now - (now - (h.last - h.left)) ≡ h.last - h.left = omega arith in
      ap (λ (n : ℕ). narrow (concat (codes "line " ∷ decimal h.line ∷ codes " " ∷ class_name h.class ∷ codes " in cycle " ∷ ago_text n ∷ codes " took alternative " ∷ decimal (suc h.number) ∷ [])) ++ codes "\n") time
      ∙ ap (λ (words : List ℕ). narrow words ++ codes "\n") (concat-append (codes "line " ∷ decimal h.line ∷ codes " " ∷ class_name h.class ∷ []) (codes " in cycle " ∷ ago_text (age_of h) ∷ codes " took alternative " ∷ decimal (suc h.number) ∷ []))

  lines_are : (hs : List Holder) → ((h : Holder) → Contains hs h → age_of h ≤ now) → flat_map (way_line class_name now) (map (way_of now) hs) ≡ flat_map (issue_reported class_name) hs
  lines_are [] early = refl
  lines_are (h ∷ hs) early =
      ap (λ (text : List ℕ). text ++ flat_map (way_line class_name now) (map (way_of now) hs)) (line_is h (early h (Contains-head h hs)))
      ∙ ap (λ (text : List ℕ). issue_reported class_name h ++ text) (lines_are hs (λ x there. early x (Contains-tail h x hs there)))

  last_are : (hs : List Holder) → ((h : Holder) → Contains hs h → age_of h ≤ now) → way_lines class_name now (map (way_of now) hs) ≡ issues_reported class_name hs
  last_are hs early =
      let before : ℕ = length hs - ways_limit in
      ap (λ (n : ℕ). before_line class_name now n ++ flat_map (way_line class_name now) (drop (n - ways_limit) (map (way_of now) hs))) (length-map hs (way_of now))
      ∙ ap (λ (ws : List Way). before_line class_name now (length hs) ++ flat_map (way_line class_name now) ws) (drop-map (way_of now) before hs)
      ∙ ap (λ (text : List ℕ). before_line class_name now (length hs) ++ text) (lines_are (drop before hs) (λ h there. early h (from_drop before hs h there)))

pub ways_are : (w : Wording UnitPlace) (m : Pipeline UnitPlace) (t : List Event) (lines choices : List ℕ) (issues : List Holder) → AreHolders m t lines choices issues → issues_reported w.class issues ≡ ways_text w m t lines choices
ways_are w m t lines choices issues are = sym (last_are w.class (cycles_of t) issues are.early) ∙ ap (way_lines w.class (cycles_of t)) are.ways
