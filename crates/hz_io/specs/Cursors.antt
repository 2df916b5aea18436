use Rattle.std.specs.Prelude.{ℕ, ◌≡◌, ◌<◌, ◌≤◌, List, [], length, drop, Option, Some, None, slice_index_or}
use Rattle.std.specs.Option.{ForSome}
use Rattle.hz_io.specs.declared.mem_files.Cursor.{Cursor}
use Rattle.hz_io.specs.Drive.{Entries, bytes_of}

-- the bytes of the file at a place
abbrev pub bytes_at : Entries → ℕ → List ℕ
bytes_at files place = (slice_index_or files place ([], [])).1

-- the first file of that name stands at the place
pub record IsFoundAt (files : Entries) (name : List ℕ) (place : ℕ) : Type 0 where
  pub known : place < length files
  pub found : bytes_of files name ≡ Some (bytes_at files place)

-- what is unread of the open file
abbrev pub unread_of : Entries → Option Cursor → List ℕ
unread_of files None = []
unread_of files (Some cursor) = drop cursor.read (bytes_at files cursor.file)

-- the cursor stands in a file, or at its end
pub record IsPlaced (files : Entries) (cursor : Cursor) : Type 0 where
  pub known : cursor.file < length files
  pub within : cursor.read ≤ length (bytes_at files cursor.file)

-- a read can give a byte, and the open file is one of the files
pub record IsSound (files : Entries) (most : ℕ) (cursor : Option Cursor) : Type 0 where
  pub some : 0 < most
  pub placed : ForSome cursor (IsPlaced files)
