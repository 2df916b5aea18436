use Rattle.std.proofs.Common.{◌≡◌, ◌↔◌, ◌⊎◌, ℕ, ap, ◌∙◌, subst, sym, true≢false}
use Rattle.hz_grid.specs.Sets.{HasCycle}
use Rattle.hz_grid.specs.Tables.{IsTaken}
use Rattle.hz_altern.specs.declared.listing.reserving.Reserved.{Reserved}
use Rattle.hz_altern.proofs.ReserveLemmas.{unit_pushed, unit_kept}
use Rattle.hz_altern.proofs.listing.reserving.Reserved.take.Goals as goal
use Rattle.hz_altern.proofs.listing.reserving.Reserved.take.Goals.{then-is_empty+in_ok-push, else-is_empty}

pub returns : goal.returns
returns c =
    let old = c.args.self.now in
    let new : Reserved = record { table = c.take.new.self; units = c.if-is_empty.self.units } in
    let Takes : Reserved → Type 0 = λ held. (other place cycle : ℕ) → IsTaken c.take.new.self other place cycle ↔ (IsTaken held.table other place cycle ⊎ ((other ≡ c.args.automaton) × (place ≡ c.args.unit) × HasCycle c.args.cycles cycle)) in
    elim c.if-is_empty.branch [
      | then-is_empty+in_ok-push w ↦
          unit_pushed old new c.args.automaton c.args.unit c.args.cycles c.requires.automaton c.requires.unit (subst Takes w.self-is c.take.ensures) (ap (λ (held : Reserved). held.units.items) w.self-is ∙ w.in_ok-push.ensures.items)
      | else-is_empty w ↦
          unit_kept old new c.args.automaton c.args.unit c.args.cycles c.requires.automaton c.requires.unit (subst Takes w.self-is c.take.ensures) (ap (λ (held : Reserved). held.units.items) w.self-is)
          (λ none. let no = w.if-is_empty.ensures.1 (λ cycle has. none cycle ((c.cycles_of.ensures cycle).0 has)) in true≢false (sym no))
    ]
