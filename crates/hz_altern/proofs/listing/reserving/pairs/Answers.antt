use Rattle.hz_altern.proofs.listing.reserving.pairs.Goals as goal

pub returns-clause-same : goal.returns-clause-same
returns-clause-same c = λ p. (
  λ m. let u = (c.in_ok-pairs.ensures p).0 ((c.put_in_order.ensures.same p).0 m) in (c.in_ok-reserved.ensures.same p).0 u.taken,
  λ t.
      let r = (c.in_ok-reserved.ensures.same p).1 t in
      (c.put_in_order.ensures.same p).1 ((c.in_ok-pairs.ensures p).1 (record { among = c.in_ok-reserved.ensures.units.complete p r; taken = r; within = c.requires.within p t })),
)
