use Rattle.std.proofs.Common.{◌≡◌, ◌<◌, All, true, subst}
use Rattle.std.proofs.lemmas.Bool.{OnTrue_at}
use Rattle.std.proofs.lemmas.List.Elements.{All-map}
use Rattle.hz_altern.specs.declared.alternative.Pair.{Pair}
use Rattle.hz_altern.specs.Shapes.{pair_of}
use Rattle.hz_layer_rows.proofs.automata.alternatives.alt_of.Goals as goal

pub returns : goal.returns
returns c =
    let pairs = c.in_ok-pairs.pairs.items in
    let units_held : c.units_fit.result ≡ true = cc in
    let cycles_held : c.cycles_fit.result ≡ true = cc in
    let units = subst (All (λ (p : Pair). p.unit < 256)) c.deref-2.ensures.value (OnTrue_at units_held c.units_fit.ensures) in
    let cycles = subst (All (λ (p : Pair). p.cycle < 512)) c.deref-else-not-units_fit.ensures.value (OnTrue_at cycles_held c.cycles_fit.ensures) in
    record {
      units = All-map (λ p. p.unit.unit < 256) pair_of pairs units;
      cycles = All-map (λ p. p.cycle < 512) pair_of pairs cycles;
    }
