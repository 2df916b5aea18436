-- Paths through a graph.
use Rattle.std.proofs.Common.{ℕ, List, Contains}
use Rattle.hz_check_reservations.specs.Graphs.{Path, last, onward}

module _ (edges : ℕ → List ℕ) where
  pub path_join : {a b c : ℕ} → Path edges a b → Path edges b c → Path edges a c
  path_join (last e) q = onward e q
  path_join (onward e p) q = onward e (path_join p q)

  pub path_push : {a b c : ℕ} → Path edges a b → Contains (edges b) c → Path edges a c
  path_push p e = path_join p (last e)
