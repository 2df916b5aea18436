use Rattle.std.proofs.Common.{◌≡◌, map, take}
use Rattle.hz_why_model.specs.Takes.{stretch_text}
use Rattle.hz_explain.specs.Detailing.{texts_of}
use Rattle.hz_explain.specs.Taking.{stretch_of}
use Rattle.hz_explain.specs.Telling.{unit_name}
use Rattle.hz_explain.proofs.takes.texts.Given as goal

abbrev pub invariant-loop-place : goal.invariant-loop-place
invariant-loop-place l = texts_of l.texts.items ≡ map (stretch_text (unit_name l.parts)) (map stretch_of (take l.place l.stretches))
