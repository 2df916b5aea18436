use Rattle.std.proofs.Common.{◌≡◌, ◌<◌, ℕ, List, [], None, length, get_or, sym, ◌∙◌, subst, arith}
use Rattle.std.proofs.lemmas.List.{get_or_default}
use Rattle.hz_base_model.specs.Lines.{place_of}
use Rattle.hz_replay.specs.Names.{names_in}
use Rattle.hz_replay.proofs.NameLemmas.{new_name}
use Rattle.hz_replay.proofs.names.set_of.Goals as goal

pub add-requires : goal.add-requires
add-requires c =
    let names = c.args.names.now in
    let i = c.loop-name.name-index in
    let within : i < length names = omega arith in
    let new = new_name names i c.requires within in
    subst (λ (n : List ℕ). place_of n (names_in c.loop-name.set.keys) ≡ None) (sym (c.bytes.ensures.value ∙ (c.name-item.is ∙ get_or_default names i c.name-item.result [] within)))
    (subst (λ (ns : List (List ℕ)). place_of (get_or names i []) ns ≡ None) (sym c.loop-name.invariant) new)
