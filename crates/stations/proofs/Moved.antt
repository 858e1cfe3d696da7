-- A record is told only of a known format and edition, and of a cursor before the end: the next cursor lies behind it, and within the book.
use Rattle.std.specs.Prelude.{ℕ, ◌≤◌, ◌<◌, ◌≡◌, List, length, drop, Bool, true, false, cond, ltb, Option, Some, None, Result, Ok, Err}
use mathlib.Core.Path.{refl, ap, ◌∙◌}
use native.Mathlib.Omega.{arith}
use borrow.Author.Tests.{ltb-true}
use Rattle.terms.specs.declared.Fault.{Fault}
use Rattle.header.specs.declared.Cursor.{Cursor}
use Rattle.header.specs.Head.{unknown}
use Rattle.entry.specs.declared.Record.{Record}
use Rattle.entry.specs.Entry.{read_entry}
use Rattle.entry.specs.Told.{record_at}
use Rattle.book.specs.Told.{some_record, step_of, refused, next_of, unmeasured}
use Rattle.book.proofs.Measured.{turn}

pub moved : (s : List ℕ) (format edition : ℕ) (c : Cursor) (r : Record) → next_of s format edition c ≡ Ok (Some r) → (c.at < r.next.at) × (r.next.at ≤ length s)
moved s format edition c r e = known (unknown format edition) e
  where
    read : Result Record Fault
    read = record_at format c.at (read_entry format c.floor (drop c.at s))

    told : (x : Result Record Fault) → read ≡ x → c.at < length s → some_record x ≡ Ok (Some r) → (c.at < r.next.at) × (r.next.at ≤ length s)
    told (Ok q) x h e =
        let z : q ≡ r = cc in
        let t = turn format s c.at c.floor h unmeasured r (x ∙ ap Ok z) in
        (t.rises, t.within)
    told (Err f) x h e = let z : ◌≡◌ {A = ℕ} 0 1 = cc in absurd (omega arith)

    go : (b : Bool) → ltb c.at (length s) ≡ b → cond b (some_record read) (Ok None) ≡ Ok (Some r) → (c.at < r.next.at) × (r.next.at ≤ length s)
    go true h e = told read refl (ltb-true _ _ h) e
    go false h e = let z : ◌≡◌ {A = ℕ} 0 1 = cc in absurd (omega arith)

    known : (f : Option Fault) → refused f (step_of s format c) ≡ Ok (Some r) → (c.at < r.next.at) × (r.next.at ≤ length s)
    known None e = go (ltb c.at (length s)) refl e
    known (Some f) e = let z : ◌≡◌ {A = ℕ} 0 1 = cc in absurd (omega arith)
