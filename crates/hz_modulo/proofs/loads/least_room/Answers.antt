use Rattle.std.proofs.lemmas.Bool.{OnTrue_at}
use Rattle.hz_modulo.proofs.loads.least_room.Goals as goal

pub least_room_by-requires-clause-among : goal.least_room_by-requires-clause-among
least_room_by-requires-clause-among c = OnTrue_at c.if-are_among.true c.are_among.ensures
