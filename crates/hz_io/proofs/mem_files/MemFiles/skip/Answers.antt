use Rattle.std.proofs.Common.{arith}
use Rattle.std.proofs.lemmas.List.{length-drop}
use Rattle.hz_io.specs.Drive.{entries_of}
use Rattle.hz_io.specs.Cursors.{bytes_at}
use Rattle.hz_io.proofs.DriveLemmas.{length_bytes_at}
use Rattle.hz_io.proofs.mem_files.MemFiles.skip.Goals as goal

pub overflow_add-cursor : goal.overflow_add-cursor
overflow_add-cursor c =
    let cursor = c.in-Some.cursor in
    let files = c.self.inside.files.items in
    let placed = c.self.invariant.placed cursor c.in-Some.is in
    let asked = rw c.in-Some.is at (rw (← c.self.view_is) at c.requires) in
    let fits = length_bytes_at files cursor.file in
    omega (arith, asked, length-drop cursor.read (bytes_at (entries_of files) cursor.file), placed.within, fits)
