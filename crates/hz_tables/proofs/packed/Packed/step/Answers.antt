use Rattle.std.proofs.Common.{◌+◌, ◌<◌, slice_index, length, subst, sym, ap, Some, ◌∙◌, arith}
use Rattle.hz_tables.proofs.PackedLaws.{place_kept, owned_entry, not_owned_entry}
use Rattle.hz_tables.proofs.packed.Packed.step.Goals as goal

pub get-requires : goal.get-requires
get-requires g c = (omega arith, (place_kept (record { columns = c.self.inside.columns; bases = c.self.inside.bases; owners = c.self.inside.pairs.owners; targets = c.self.inside.pairs.targets }) c.args.self.now c.self.view_is c.self.invariant c.args.state c.args.column c.requires.state c.requires.column).0)

pub get-owner-requires : goal.get-owner-requires
get-owner-requires g c =
    let there = (place_kept (record { columns = c.self.inside.columns; bases = c.self.inside.bases; owners = c.self.inside.pairs.owners; targets = c.self.inside.pairs.targets }) c.args.self.now c.self.view_is c.self.invariant c.args.state c.args.column c.requires.state c.requires.column).1 in
    (omega arith, subst (λ base. base + c.args.column < length c.self.inside.pairs.owners) (sym c.get.ensures.number) there)

pub returns-then-owner-state-clause-next : goal.returns-then-owner-state-clause-next
returns-then-owner-state-clause-next g c =
    ap Some (c.get-owner.ensures.target ∙ ap (λ base. slice_index c.self.inside.pairs.targets (base + c.args.column)) c.get.ensures.number)
    ∙ owned_entry (record { columns = c.self.inside.columns; bases = c.self.inside.bases; owners = c.self.inside.pairs.owners; targets = c.self.inside.pairs.targets }) c.args.self.now c.self.view_is c.args.state c.args.column c.requires.state c.requires.column
    (ap (λ base. slice_index c.self.inside.pairs.owners (base + c.args.column)) (sym c.get.ensures.number) ∙ (sym c.get-owner.ensures.owner ∙ c.if-owner-state.true))

pub returns-else-owner-state-clause-next : goal.returns-else-owner-state-clause-next
returns-else-owner-state-clause-next g c =
    not_owned_entry (record { columns = c.self.inside.columns; bases = c.self.inside.bases; owners = c.self.inside.pairs.owners; targets = c.self.inside.pairs.targets }) c.args.self.now c.self.view_is c.args.state c.args.column c.requires.state c.requires.column
    (λ e. c.if-owner-state.false (c.get-owner.ensures.owner ∙ (ap (λ base. slice_index c.self.inside.pairs.owners (base + c.args.column)) c.get.ensures.number ∙ e)))
