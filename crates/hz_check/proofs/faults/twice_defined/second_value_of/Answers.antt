use Rattle.std.proofs.Common.{ℕ, List, arith, sym, ap, ◌∙◌, Some, None, cond, refl, []}
use Rattle.std.proofs.Math.Bool.{or-false}
use Rattle.std.proofs.lemmas.List.{drop_all}
use Rattle.hz_check.specs.Names.Held.{is_held}
use Rattle.hz_check_reservations.specs.Places.{reported}
use Rattle.hz_check.specs.Faults.Twice.{repeated_by}
use Rattle.hz_description_model.specs.Check.Sites.{Site, is_preceded, earlier, earliest}
use Rattle.hz_description_model.specs.Check.CheckFaults.{sites_of}
use Rattle.hz_check.proofs.Lists.Earliest.{earlier-none}
use Rattle.hz_check.proofs.Telling.Repeated.{repeated_next, repeated-by, reported-then_some}
use Rattle.hz_check.proofs.faults.twice_defined.second_value_of.Goals as goal

pub loop-name-preserved : goal.loop-name-preserved
loop-name-preserved c =
    let line = c.args.item.now.line in
    let form = c.args.item.now.form in
    let name = c.name-item.result in
    let site : Site = record { line = line; form = form; name = name } in
    repeated_next (λ name. record { line = line; form = form; name = name }) (is_preceded []) (is_held c.loop-name.seen) (is_held c.put.new.self) (reported c.loop-name.first) (reported c.then_some.result) (reported c.earlier-first.result) _ c.deref-name-items.result.now c.loop-name.name-index name site
    c.name-item.is c.loop-name-test.true refl
    (λ name. grind (arith, c.in_ok-put.ensures name))
    (ap reported c.then_some.ensures ∙ (reported-then_some c.holds-again.result _ ∙ ap (λ b. cond b (Some site) None) (c.holds-again.ensures ∙ sym (or-false (is_held c.loop-name.seen name)))))
    c.earlier-first.ensures (c.loop-name.invariant)

pub returns : goal.returns
returns c =
    let line = c.args.item.now.line in
    let form = c.args.item.now.form in
    let first = reported c.loop-name.first in
    let items = c.deref-name-items.result.now in
    sym (earlier-none first)
    ∙ (ap (λ (xs : List (List ℕ)). earlier first (earliest (repeated_by (is_preceded []) (is_held c.loop-name.seen) (sites_of line form xs)))) (sym (drop_all c.loop-name.name-index items c.loop-name-test.false))
    ∙ (c.loop-name.invariant ∙ ap earliest (sym (repeated-by [] [] (sites_of line form c.args.item.now.values.items)))))
