-- What is written into lent memory, and what forbids it.
use Rattle.std.specs.Prelude.{◌≡◌, ℕ, ◌+◌, cond, ◌&&◌, List, [], length, Some, None, Ok, Err, Option, Result, nat_le, nat_lt}
use Rattle.std.proofs.Math.Seq.{paste}
use Rattle.jobformat.specs.declared.FileFault.{FileFault}
use Rattle.jobformat.specs.declared.FileFault.TheVariants.{HeaderRange, Unwritable, NoSuchRecord, NoRoom}
use Rattle.jobformat.specs.Format.{Entry, Contents, encode, fits}

-- out with bs written from the place at on; all other places keep what they hold
abbrev pub over : List ℕ → ℕ → List ℕ → List ℕ
over out at bs = paste out at bs (length bs)

-- bs went into d from the place at on, which left d', and ends at at'
pub record Wrote (d : List ℕ) (at : ℕ) (bs d' : List ℕ) (at' : ℕ) : Type 0 where
  pub out : d' ≡ over d at bs
  pub end : at' ≡ at + length bs

-- the bytes of a field, if there is one
abbrev pub field_bytes : Option (List ℕ) → List ℕ
field_bytes None = []
field_bytes (Some bs) = bs

-- the fault of a refusal
abbrev pub err_of : {X : Type 0} → Result X FileFault → Option FileFault
err_of (Ok x) = None
err_of (Err f) = Some f

-- what forbids to begin a file of k records and r nozzles in `room` bytes
abbrev pub open_fault : ℕ → ℕ → ℕ → Option FileFault
open_fault k r room =
    cond (nat_le 1 k && (nat_le k 24 && (nat_le 1 r && nat_le r 8))) (cond (nat_le 2 room) None (Some (NoRoom 2))) (Some HeaderRange)

-- what forbids a record after `done` of k, at `written` of `room` bytes
abbrev pub put_fault : ℕ → ℕ → ℕ → ℕ → ℕ → Entry → Option FileFault
put_fault k r done written room e =
    cond (fits r e) (cond (nat_lt done k) (cond (nat_le (written + length (encode e)) room) None (Some (NoRoom (written + length (encode e))))) (Some (NoSuchRecord (k + 1)))) (Some (Unwritable written))

-- the answer of a copy of n bytes, by what reading them answers, into `room` places
abbrev pub copied : ℕ → ℕ → Result Contents FileFault → Result ℕ FileFault
copied n room (Ok c) = cond (nat_le n room) (Ok n) (Err (NoRoom n))
copied n room (Err f) = Err f
