-- What a writer has written.
use Rattle.std.specs.Prelude.{◌≡◌, ℕ, ◌≤◌, List, ◌∷◌, length, take}
use Rattle.std.specs.List.{flat_map}
use Rattle.jobformat.specs.Format.{Entry, Contents, encode, AllFine}
use Rattle.jobfile.specs.declared.writer.Writer.{Writer}

-- the memory `out` begins with the header and the records es that the writer w has taken
pub record Holds (w : Writer) (out : List ℕ) (es : List Entry) : Type 0 where
  pub bytes : take w.written out ≡ w.types ∷ w.nozzles ∷ flat_map encode es
  pub inside : w.written ≤ length out
  pub count : length es ≡ w.done
  pub fine : AllFine w.nozzles es

-- what the file says once the records es are all of it
abbrev pub contents_with : Writer → List Entry → Contents
contents_with w es = record { types = w.types; nozzles = w.nozzles; entries = es }
