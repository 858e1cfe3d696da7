-- Adding, from what the functions' tests show.
use Prim.Native.Nat.{ℕ}
use mathlib.Core.Path.{◌≡◌, sym}
use mathlib.Core.List.{List}
use Rattle.std.specs.Prelude.{Option, Ok}
use Rattle.terms.specs.declared.Fault.{Fault}
use Rattle.number.specs.Septets.{Bytes}
use Rattle.fields.specs.Field.{first}
use Rattle.header.specs.declared.Header.{Header}
use Rattle.header.specs.Head.{formats}
use Rattle.entry.specs.Entry.{entry_bytes}
use Rattle.book.specs.declared.Whole.{Whole}
use Rattle.book.specs.Told.{whole_by}
use Rattle.book.specs.Room.{read_in}
use Rattle.book.proofs.Room.{inside}
use Rattle.putting.specs.declared.NewRecord.{NewRecord}
use Rattle.putting.specs.Laid.{Made}
use Rattle.putting.specs.New.{new_entry}
use Rattle.placing.specs.Placing.{station_fault}
use Rattle.keying.specs.Keyed.{keyed, new_bytes, new_fault, Keys}
use Rattle.fitting.specs.Base.{CodedAdded, Stands}
use Rattle.fitting.proofs.Base.{added_same}
use Rattle.adding.specs.Adding.{Added}

module _ (room : List ℕ) (len station : ℕ) (name : List ℕ) where
  abbrev fault : ℕ → Option Fault
  fault floor = new_fault floor station name

  abbrev new : Header → List ℕ
  new h = new_bytes h station name

  module _ (whole : Whole) (e : whole_by (read_in room len) ≡ Ok whole) where
    pub stands : Stands room len whole
    stands = record { fits = (inside (formats 1) room len whole e).fits; told = e }

    -- one whose codes were made
    pub coded_added : Bytes room → (v : NewRecord) → Keys whole.header station name v → (r : Made) (room' : List ℕ) → CodedAdded room len v r room' → Added room len station name r room'
    unfolding new_bytes keyed
    coded_added bs v k r room' z =
        added_same (λ floor. station_fault floor v.station) fault (λ h. entry_bytes h.format (new_entry v)) new room len whole stands bs
        (λ floor i. first (sym k.accepted i) (station_fault floor (k.is i).station)) (λ i. entry_bytes whole.header.format (record { kind = 1; body = k.is i })) r room' z
