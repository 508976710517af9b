-- What a reader still holds, and what opening one answers.
use Rattle.std.specs.Prelude.{List, [], Ok, Err, Result}
use Rattle.jobformat.specs.declared.FileFault.{FileFault}
use Rattle.jobformat.specs.Format.{Entry, Contents}
use Rattle.jobformat.specs.Reading.{Parse, got, run}
use Rattle.jobfile.specs.declared.parsing.Stop.{Stop}
use Rattle.jobfile.specs.declared.reader.Reader.{Reader}
use Rattle.jobfile.specs.Seen.{stopped}

-- the records that a reader has yet to give
abbrev pub held : Reader → List Entry
held r = run r.nozzles r.left r.rest.now

-- what a reader that was just opened says of its file
abbrev pub contents_of : Reader → Contents
contents_of r = record { types = r.types; nozzles = r.nozzles; entries = held r }

abbrev pub opened : Result Reader FileFault → Result Contents FileFault
opened (Ok r) = Ok (contents_of r)
opened (Err f) = Err f

abbrev pub checked : Result Reader Stop → Parse Contents
checked (Ok r) = got (contents_of r) []
checked (Err e) = stopped e
