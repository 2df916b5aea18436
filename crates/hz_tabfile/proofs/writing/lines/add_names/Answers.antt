use Rattle.std.proofs.Common.{◌<◌, [], length, ap, sym, ◌∙◌, arith}
use Rattle.hz_tabfile.specs.Spaced.{spaced}
use Rattle.std.proofs.lemmas.List.{get_or_default}
use Rattle.hz_io.proofs.Adding.{each_added_as, each_stopped_as, each_done}
use Rattle.hz_tabfile.proofs.writing.lines.add_names.Goals as goal

pub loop-name-preserved : goal.loop-name-preserved
loop-name-preserved g c =
    let inside : c.loop-name.name-index < length c.args.names.now = omega arith in
    each_added_as spaced (c.args.names.now) c.loop-name.name-index [] _ inside (ap spaced (sym (c.name-item.is ∙ get_or_default c.args.names.now c.loop-name.name-index c.name-item.result [] inside))) c.loop-name.invariant c.in-Ok.ensures

pub returns-in-Err : goal.returns-in-Err
returns-in-Err g c =
    let inside : c.loop-name.name-index < length c.args.names.now = omega arith in
    each_stopped_as spaced (c.args.names.now) c.loop-name.name-index [] _ inside (ap spaced (sym (c.name-item.is ∙ get_or_default c.args.names.now c.loop-name.name-index c.name-item.result [] inside))) c.loop-name.invariant c.in-Err.ensures

pub returns : goal.returns
returns g c = each_done spaced (c.args.names.now) c.loop-name.name-index (omega arith) c.loop-name.invariant

pub add_name-requires : goal.add_name-requires
add_name-requires g c = let same = c.loop-name.invariant.wrote.counted in omega (arith, same, c.requires)
