-- The rules of request L7, each on one small book; the checker computes them from the definition.
use Prim.Native.Nat.{ℕ}
use mathlib.Core.Path.{◌≡◌, refl}
use mathlib.Core.List.{List, [], ◌∷◌, ◌++◌}
use Rattle.std.specs.Prelude.{Option, Ok, Err}
use Rattle.terms.specs.declared.Fault.{Fault}
use Rattle.terms.specs.declared.Fault.TheVariants.{BadNumber, BookEnds, NotKnown, NotAbove, NoRoom, NoLive}
use Rattle.fields.specs.Got.{good, bad}
use Rattle.fields.specs.Field.{number, text, read_number, read_text, read_bytes}
use Rattle.header.specs.declared.Header.{Header}
use Rattle.entry.specs.Entry.{Entry, record_bytes, kind_bytes, entry_bytes, read_record, read_kind, read_entry}
use Rattle.header.specs.Head.{header_bytes, formats, read_header_by}
use Rattle.book.specs.Book.{written, read_entries, read_book_by, read_book}
use Rattle.closing.specs.Closed.{closed_in, close_leaves}
use Rattle.finding.specs.Finding.{kind_place}
use Rattle.putting.specs.New.{record_with, entry_with}
use Rattle.placing.specs.Placing.{station_fault}
use Rattle.book.specs.Room.{read_in_by, read_in}
use Rattle.fitting.specs.Base.{add_answer, add_leaves}

abbrev head : ℕ → Header
head format = record { format = format; edition = 2; cut = 0 }

abbrev entry : ℕ → ℕ → List ℕ → Entry
entry kind station name = record { kind = kind; body = record_with station name (75 ∷ []) [] }

-- three records: A live, B closed, C live
abbrev three : List Entry
three = entry 1 3 (65 ∷ []) ∷ entry 0 5 (66 ∷ []) ∷ entry 1 7 (67 ∷ []) ∷ []

abbrev bytes : List ℕ
bytes = 2 ∷ 2 ∷ 0 ∷ 1 ∷ 3 ∷ 1 ∷ 65 ∷ 1 ∷ 75 ∷ 0 ∷ 0 ∷ 5 ∷ 1 ∷ 66 ∷ 1 ∷ 75 ∷ 0 ∷ 1 ∷ 7 ∷ 1 ∷ 67 ∷ 1 ∷ 75 ∷ 0 ∷ []

-- the kind stands in front, one byte
is_written : written (head 2) three ≡ bytes
unfolding written header_bytes entry_bytes kind_bytes record_bytes number text
is_written = refl

is_read : read_book bytes ≡ good (record { header = head 2; records = three }) 24
unfolding read_book_by read_header_by read_entries read_entry read_kind read_record read_number read_text read_bytes
is_read = refl

-- format 1 spells no kind, and is read as live
format_1 : read_book (1 ∷ 2 ∷ 0 ∷ 3 ∷ 1 ∷ 65 ∷ 1 ∷ 75 ∷ 0 ∷ []) ≡ good (record { header = head 1; records = entry 1 3 (65 ∷ []) ∷ [] }) 9
unfolding read_book_by read_header_by read_entries read_entry read_kind read_record read_number read_text read_bytes
format_1 = refl

-- a kind above 1 is 7; its form, 5, comes before its value; station order covers both kinds
kind_2 : read_book (2 ∷ 2 ∷ 0 ∷ 2 ∷ []) ≡ bad NotKnown
unfolding read_book_by read_header_by read_entries read_entry read_kind read_record read_number read_text read_bytes
kind_2 = refl

kind_form : read_book (2 ∷ 2 ∷ 0 ∷ 129 ∷ 0 ∷ []) ≡ bad BadNumber
unfolding read_book_by read_header_by read_entries read_entry read_kind read_record read_number read_text read_bytes
kind_form = refl

kind_wide : read_book (2 ∷ 2 ∷ 0 ∷ 129 ∷ 1 ∷ []) ≡ bad NotKnown
unfolding read_book_by read_header_by read_entries read_entry read_kind read_record read_number read_text read_bytes
kind_wide = refl

order_covers_closed : read_book (2 ∷ 2 ∷ 0 ∷ 0 ∷ 5 ∷ 0 ∷ 0 ∷ 0 ∷ 1 ∷ 5 ∷ []) ≡ bad NotAbove
unfolding read_book_by read_header_by read_entries read_entry read_kind read_record read_number read_text read_bytes
order_covers_closed = refl

-- a close: 7 for format 1 before any fault behind it; the byte of 3's kind; 11 for a closed station and for one that is not there, after reading
close_format_1 : kind_place 3 (read_in_by (formats 2) (1 ∷ 9 ∷ []) 2) ≡ bad NotKnown
unfolding read_in_by read_book_by read_header_by read_entries read_entry read_kind read_record read_number read_text read_bytes
close_format_1 = refl

close_3 : close_leaves bytes (kind_place 3 (read_in_by (formats 2) bytes 24)) ≡ written (head 2) (closed_in 3 three)
unfolding read_in_by read_book_by read_header_by read_entries read_entry read_kind read_record read_number read_text read_bytes written header_bytes entry_bytes kind_bytes record_bytes number text
close_3 = refl

close_closed : kind_place 5 (read_in_by (formats 2) bytes 24) ≡ bad NoLive
unfolding read_in_by read_book_by read_header_by read_entries read_entry read_kind read_record read_number read_text read_bytes header_bytes entry_bytes kind_bytes record_bytes number text
close_closed = refl

close_after_reading : kind_place 5 (read_in_by (formats 2) bytes 25) ≡ bad BookEnds
unfolding read_in_by read_book_by read_header_by read_entries read_entry read_kind read_record read_number read_text read_bytes
close_after_reading = refl

-- ---- adding a record of five bytes: station s, no name, no codes
abbrev fault : ℕ → ℕ → Option Fault
fault s floor = station_fault floor s

abbrev new : ℕ → Header → List ℕ
new s h = entry_bytes h.format (entry_with s [] [] [])

-- A live, B closed: 17 bytes, 10 of them header and A
abbrev two : List ℕ
two = 2 ∷ 2 ∷ 0 ∷ 1 ∷ 3 ∷ 1 ∷ 65 ∷ 1 ∷ 75 ∷ 0 ∷ 0 ∷ 5 ∷ 1 ∷ 66 ∷ 1 ∷ 75 ∷ 0 ∷ []

abbrev filler : List ℕ
filler = 91 ∷ 92 ∷ 93 ∷ 94 ∷ []

-- it fits as the book stands: laid behind it; 8 counts the closed 5
fits : add_leaves (fault 6) (new 6) (two ++ 0 ∷ filler) 17 (read_in (two ++ 0 ∷ filler) 17) ≡ two ++ 1 ∷ 6 ∷ 0 ∷ 0 ∷ 0 ∷ []
unfolding read_in_by read_book_by read_header_by read_entries read_entry read_kind read_record read_number read_text read_bytes entry_bytes kind_bytes record_bytes number text
fits = refl

fits_8 : add_answer (fault 4) (new 4) (two ++ 0 ∷ filler) 17 (read_in (two ++ 0 ∷ filler) 17) ≡ Err NotAbove
unfolding read_in_by read_book_by read_header_by read_entries read_entry read_kind read_record read_number read_text read_bytes entry_bytes kind_bytes record_bytes number text
fits_8 = refl

-- one byte less: closed up first; 8 counts A alone; the bytes behind the new end are as at entry, so the end of B's
up_answer : add_answer (fault 4) (new 4) (two ++ filler) 17 (read_in (two ++ filler) 17) ≡ Ok 15
unfolding read_in_by read_book_by read_header_by read_entries read_entry read_kind read_record read_number read_text read_bytes written header_bytes entry_bytes kind_bytes record_bytes number text
up_answer = refl

up_leaves : add_leaves (fault 4) (new 4) (two ++ filler) 17 (read_in (two ++ filler) 17)
    ≡ 2 ∷ 2 ∷ 0 ∷ 1 ∷ 3 ∷ 1 ∷ 65 ∷ 1 ∷ 75 ∷ 0 ∷ 1 ∷ 4 ∷ 0 ∷ 0 ∷ 0 ∷ 75 ∷ 0 ∷ 91 ∷ 92 ∷ 93 ∷ 94 ∷ []
unfolding read_in_by read_book_by read_header_by read_entries read_entry read_kind read_record read_number read_text read_bytes written header_bytes entry_bytes kind_bytes record_bytes number text
up_leaves = refl

up_8 : add_answer (fault 3) (new 3) (two ++ filler) 17 (read_in (two ++ filler) 17) ≡ Err NotAbove
unfolding read_in_by read_book_by read_header_by read_entries read_entry read_kind read_record read_number read_text read_bytes written header_bytes entry_bytes kind_bytes record_bytes number text
up_8 = refl

-- header, live records and the new one do not fit: 9, and nothing has moved
abbrev one : List ℕ
one = 2 ∷ 2 ∷ 0 ∷ 1 ∷ 3 ∷ 1 ∷ 65 ∷ 1 ∷ 75 ∷ 0 ∷ []

up_9 : add_answer (fault 4) (new 4) (one ++ filler) 10 (read_in (one ++ filler) 10) ≡ Err NoRoom
unfolding read_in_by read_book_by read_header_by read_entries read_entry read_kind read_record read_number read_text read_bytes written header_bytes entry_bytes kind_bytes record_bytes number text
up_9 = refl

-- format 1: as before
format_1_9 : add_answer (fault 4) (new 4) (1 ∷ 2 ∷ 0 ∷ 3 ∷ 0 ∷ 0 ∷ 0 ∷ 91 ∷ 92 ∷ 93 ∷ []) 7 (read_in (1 ∷ 2 ∷ 0 ∷ 3 ∷ 0 ∷ 0 ∷ 0 ∷ 91 ∷ 92 ∷ 93 ∷ []) 7) ≡ Err NoRoom
unfolding read_in_by read_book_by read_header_by read_entries read_entry read_kind read_record read_number read_text read_bytes written header_bytes entry_bytes kind_bytes record_bytes number text
format_1_9 = refl
