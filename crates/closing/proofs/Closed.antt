-- Closing a station, from what the function's tests show.
use Prim.Native.Nat.{ℕ, ◌≤◌}
use mathlib.Core.Path.{◌≡◌, refl, sym, ap, ◌∙◌}
use mathlib.Core.List.{List}
use native.Mathlib.Omega.{arith}
use lib.ListN.{length, take, drop, set}
use Rattle.fields.specs.Got.{Got, good, bad}
use Rattle.header.specs.declared.Header.{Header}
use Rattle.book.specs.declared.Whole.{Whole}
use Rattle.entry.specs.Entry.{Entry}
use Rattle.book.specs.Book.{Book, read_entries}
use Rattle.header.specs.Head.{header_bytes, formats}
use Rattle.book.specs.Told.{whole_by, AllGood}
use Rattle.book.proofs.Opening.{whole_told}
use Rattle.std.specs.Prelude.{Option, Ok, Err}
use Rattle.terms.specs.declared.Fault.{Fault}
use Rattle.book.specs.Room.{read_in_by}
use Rattle.finding.specs.Finding.{Place, kind_place, place_told, sought_by, Sought}
use Rattle.closing.specs.Closed.{close_answer, close_leaves, Closed}
use Rattle.book.proofs.Room.{Inside, inside}

module _ (room : List ℕ) (len station : ℕ) where
  closed_not : (f : Fault) → kind_place station (read_in_by (formats 2) room len) ≡ bad f → Closed room len station (Err f) room
  closed_not f e = record { answer = sym (ap (close_answer len) e); leaves = sym (ap (close_leaves room) e) }

  module _ (w : Whole) (e : whole_by (read_in_by (formats 2) room len) ≡ Ok w) where
    abbrev J : ℕ → Option Fault
    J = formats 2

    abbrev h : Header
    h = w.header

    abbrev first : ℕ
    first = w.first

    there : Inside J room len w
    there = inside J room len w e

    pub close_fits : len ≤ length room
    close_fits = there.fits

    pub good_entries : AllGood (read_entries w.header.format 0 (drop w.first (take len room)))
    good_entries =
        let x = whole_told J (take len room) w there.told in
        record { es = x.b.records; n = x.used; is = (λ i. read_entries (sym x.header i).format 0 (drop (x.first i) (take len room))) ∙ x.records }

    place_is : (r : Place) → Sought (take len room) w.header.format station w.first r → r ≡ place_told (kind_place station (read_in_by J room len))
    place_is r q =
        let x = whole_told J (take len room) w there.told in
        let b : Book = x.b in
        q.answer
        ∙ (λ i. place_told (sought_by (sym x.header i).format station (x.first i) (read_entries (sym x.header i).format 0 (drop (x.first i) (take len room)))))
        ∙ ap (λ (y : Got (List Entry)). place_told (sought_by b.header.format station (length (header_bytes b.header)) y)) x.records
        ∙ sym (ap (λ (y : Got Book). place_told (kind_place station y)) (there.same ∙ x.is))

    pub close_at : (p : ℕ) (r : Place) → Sought (take len room) w.header.format station w.first r → r ≡ Ok p → Closed room len station (Ok len) (set room p 0)
    close_at p r q d = go (kind_place station (read_in_by J room len)) refl (sym d ∙ place_is r q)
      where
        go : (y : Got ℕ) → kind_place station (read_in_by J room len) ≡ y → Ok p ≡ place_told y → Closed room len station (Ok len) (set room p 0)
        go (bad f) c k = let z : ◌≡◌ {A = ℕ} 0 1 = cc in absurd (omega arith)
        go (good j n) c k =
            let u : p ≡ j = cc in
            record { answer = sym (ap (close_answer len) c); leaves = ap (λ (i : ℕ). set room i 0) u ∙ sym (ap (close_leaves room) c) }

    pub close_none : (f : Fault) (r : Place) → Sought (take len room) w.header.format station w.first r → r ≡ Err f → Closed room len station (Err f) room
    close_none f r q d = go (kind_place station (read_in_by J room len)) refl (sym d ∙ place_is r q)
      where
        go : (y : Got ℕ) → kind_place station (read_in_by J room len) ≡ y → Err f ≡ place_told y → Closed room len station (Err f) room
        go (good j n) c k = let z : ◌≡◌ {A = ℕ} 0 1 = cc in absurd (omega arith)
        go (bad g) c k = let u : g ≡ f = cc in closed_not f (c ∙ ap (λ (i : Fault). bad i) u)
