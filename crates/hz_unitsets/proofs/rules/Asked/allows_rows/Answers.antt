use Rattle.std.proofs.Common.{refl}
use Rattle.hz_unitsets.proofs.Cycles.{rows_untriggered, allows_joined}
use Rattle.hz_unitsets.proofs.rules.Asked.allows_rows.Goals as goal

pub returns-then-not-meets : goal.returns-then-not-meets
returns-then-not-meets c = (
  λ _. rows_untriggered _ c.args.there c.args.added c.requires.unbroken (λ unit is h.
      let m = c.meets.ensures.1 (unit, c.requires.asked.triggers unit is, h) in
      let n = c.if-not-meets.true in
      absurd (cc)),
  λ _. refl,
)

pub returns : goal.returns
returns c =
    let both = allows_joined _ c.args.there c.args.added c.join.result c.join.ensures in
    (λ t. both.0 (c.allows_rows.ensures.0 t), λ h. c.allows_rows.ensures.1 (both.1 h))
