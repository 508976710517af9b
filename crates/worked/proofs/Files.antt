-- Whether the bytes of a board are its file, as a test.
use Rattle.std.proofs.Common.{ℕ, true, List, [], ◌∷◌, length, Some, None, Option}
use lib.ListN.{length-map}
use Rattle.std.specs.Str.{bytes_eq}
use Rattle.std.proofs.lemmas.Slice.Eq.{bytes_eq-Decides}
use Rattle.jobformat.specs.Format.{Entry, TwoBytes, AllFine, fits, file_bytes}
use Rattle.worked.specs.Boards.{Board}
use Rattle.worked.specs.Examples.{IsRead, contents}
use Rattle.worked.proofs.Tests.{Test, yes, at_most, less, also, Says}

-- a number of two bytes, where there is one
abbrev two_bytes_test : Option ℕ → Test
two_bytes_test None = yes true
two_bytes_test (Some n) = less n 65536

two_bytes : (o : Option ℕ) → Says (two_bytes_test o) → TwoBytes o
two_bytes None s = tt
two_bytes (Some n) s = s

-- a file with r nozzles can hold each record
abbrev held_test : ℕ → List Entry → Test
held_test r [] = yes true
held_test r (e ∷ es) = also (also (two_bytes_test e.quantity) (also (two_bytes_test e.limit) (yes (fits r e)))) (held_test r es)

all_held : (r : ℕ) (es : List Entry) → Says (held_test r es) → AllFine r es
all_held r [] s = tt
all_held r (e ∷ es) s = (record { quantity = two_bytes e.quantity s.0.0; limit = two_bytes e.limit s.0.1.0; held = s.0.1.1 }, all_held r es s.1)

abbrev pub read_test : Board → Test
read_test b =
    also (also (at_most 1 (length b.types)) (at_most (length b.types) 24))
    (also (also (at_most 1 (length b.nozzles)) (at_most (length b.nozzles) 8)) (also (held_test (length b.nozzles) (contents b).entries) (yes (bytes_eq b.bytes (file_bytes (contents b))))))

pub is_read : (b : Board) → Says (read_test b) → IsRead b
is_read b s =
    record {
      formed =
          record {
            some_types = s.0.0;
            few_types = s.0.1;
            some_nozzles = s.1.0.0;
            few_nozzles = s.1.0.1;
            count = length-map b.types _;
            fine = all_held (length b.nozzles) (contents b).entries s.1.1.0;
          };
      bytes = (bytes_eq-Decides b.bytes (file_bytes (contents b))).0 s.1.1.1;
    }
