use Rattle.std.proofs.Common.{◌≡◌, [], drop, map}
use Rattle.hz_sexp.specs.Shape.{trees}
use Rattle.hz_block_model.specs.Texts.StateForms as model
use Rattle.hz_rtl.specs.Stores.{store}
use Rattle.hz_rtl.proofs.reading.state_reader.stores_of.Given as goal

-- what is given so far, with what is left, is all that is given
abbrev pub invariant-loop-form : goal.invariant-loop-form
invariant-loop-form l = model.stores_after (map store l.given.stores.items) (trees (drop l.form-index l.forms)) ≡ model.stores_after [] (trees l.forms)
