-- What the tables of the code hold.
use Rattle.std.specs.Prelude.{ℕ, List, []}
use Rattle.std.specs.Option.{option_map_or}
use Rattle.std.specs.Ordering.{nat_cmp, ordering_then}
use Rattle.std.specs.BTreeMap as tree
use Rattle.std.specs.BTreeMap.{BTreeMap}
use Rattle.std.specs.declared.alloc.Global.{Global}
use Rattle.std.specs.declared.vec.Vec.{Vec}
use Rattle.hz_depend.specs.declared.finding.by_register.ByRegister.{ByRegister}
use Rattle.hz_depend.specs.declared.finding.by_cell.ByKey.{ByKey}
use Rattle.hz_depend.specs.declared.finding.by_cell.ByCell.{ByCell}
use Rattle.hz_depend.specs.declared.finding.tables.Tables.{Tables}
use Rattle.hz_depend.specs.Lists.{lists_of}
use Rattle.hz_depend.specs.Noted.{Key, CellPlaces, Places}

abbrev pub lists_in : ByRegister → List (List ℕ)
lists_in held = lists_of held.lists.items

-- the places of a key, none where there is no list
abbrev pub places_in : BTreeMap Key (Vec ℕ Global) → Key → List ℕ
places_in lists k = option_map_or (λ list. list.items) (tree.get (λ x y. ordering_then (nat_cmp x.0 y.0) (nat_cmp x.1 y.1)) lists k) []

abbrev pub places_at : ByKey → Key → List ℕ
places_at held = places_in held.places

abbrev pub cell_places : ByCell → CellPlaces
cell_places held = record { unknown = held.unknown.items; bases = lists_in held.bases; keys = places_at held.keys }

abbrev pub tables_of : Tables → Places
tables_of held = record { readers = lists_in held.readers; writers = lists_in held.writers; read = cell_places held.read; written = cell_places held.written }
