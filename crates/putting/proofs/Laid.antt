-- A header and a record, laid into lent room.
use Prim.Native.Nat.{ℕ, ◌+◌, ◌^◌, ◌≤◌, ◌<◌}
use mathlib.Core.Path.{◌≡◌, refl, ap, subst}
use mathlib.Core.List.{List, ◌++◌}
use native.Mathlib.Omega.{arith}
use borrow.Author.Tests.{lt-ltb, le-ltb, ne_eqb}
use lib.ListN.{length, length-append}
use Rattle.std.specs.Prelude.{Option, Some, None, Ok, Err}
use Rattle.terms.specs.declared.Fault.{Fault}
use Rattle.terms.specs.declared.Fault.TheVariants.{NoRoom}
use Rattle.fields.specs.Field.{number, text}
use Rattle.fields.specs.Put.{Put}
use Rattle.fields.proofs.Put.{four, text_length, put_then}
use Rattle.header.specs.declared.Header.{Header}
use Rattle.header.specs.Head.{header_bytes}
use Rattle.entry.specs.Entry.{record_bytes, kind_bytes, entry_bytes}
use Rattle.putting.specs.declared.NewRecord.{NewRecord}
use Rattle.putting.specs.Laid.{unless, Placed}
use Rattle.putting.specs.New.{new_record, new_entry, Short}

-- ---- answers
pub unless_ok : (g : Option Fault) (n m : ℕ) → Ok m ≡ unless g n → None ≡ g
unless_ok None n m e = refl
unless_ok (Some g) n m e = let z : ◌≡◌ {A = ℕ} 0 1 = cc in absurd (omega arith)

module _ (room : List ℕ) (at : ℕ) (bytes : List ℕ) where
  pub placed_fault : (f : Fault) (g : Option Fault) → Some f ≡ g → Placed g room at bytes (Err f) room
  placed_fault f g e = subst (λ (k : Option Fault). Placed k room at bytes (Err f) room) e (record { answer = refl; leaves = refl })

  pub placed_short : (g : Option Fault) → None ≡ g → length room < at + length bytes → Placed g room at bytes (Err NoRoom) room
  placed_short g e h =
      subst (λ (k : Option Fault). Placed k room at bytes (Err NoRoom) room) e (record { answer = rw (lt-ltb (length room) (at + length bytes) h); leaves = rw (lt-ltb (length room) (at + length bytes) h) })

  pub placed_good : (g : Option Fault) → None ≡ g → at + length bytes ≤ length room → (r : ℕ) (room' : List ℕ) → Put room at bytes r room' → Placed g room at bytes (Ok r) room'
  placed_good g e h r room' p =
      subst (λ (k : Option Fault). Placed k room at bytes (Ok r) room') e (record {
        answer = rw (le-ltb (length room) (at + length bytes) h) (ap (λ (n : ℕ). Ok n) p.next);
        leaves = rw (le-ltb (length room) (at + length bytes) h) p.leaves;
      })

-- ---- a header
module _ (h : Header) where
  pub header_length : length (header_bytes h) ≡ length (number h.format) + (length (number h.edition) + length (number h.cut))
  unfolding header_bytes
  header_length = omega (arith, length-append (number h.format) (number h.edition ++ number h.cut), length-append (number h.edition) (number h.cut))

  pub header_put : {out : List ℕ} {at a : ℕ} {x : List ℕ} {b : ℕ} {y : List ℕ} {c : ℕ} {out' : List ℕ} → Put out at (number h.format) a x → Put x a (number h.edition) b y → Put y b (number h.cut) c out'
      → Put out at (header_bytes h) c out'
  unfolding header_bytes
  header_put p q r = put_then p (put_then q r)

-- ---- a record
module _ (v : NewRecord) where
  pub record_length : length (record_bytes (new_record v)) ≡ length (number v.station) + (length (text v.name.now) + (length (text v.primary.now) + length (text v.alternate.now)))
  unfolding record_bytes
  record_length =
      omega (arith, length-append (number v.station) (text v.name.now ++ (text v.primary.now ++ text v.alternate.now)), length-append (text v.name.now) (text v.primary.now ++ text v.alternate.now), length-append (text v.primary.now) (text v.alternate.now))

  pub record_put : {out : List ℕ} {at a : ℕ} {x : List ℕ} {b : ℕ} {y : List ℕ} {c : ℕ} {z : List ℕ} {d : ℕ} {out' : List ℕ} → Put out at (number v.station) a x → Put x a (text v.name.now) b y
      → Put y b (text v.primary.now) c z → Put z c (text v.alternate.now) d out' → Put out at (record_bytes (new_record v)) d out'
  unfolding record_bytes
  record_put s n p a = put_then s (put_then n (put_then p a))

  pub record_small : Short v → length (record_bytes (new_record v)) < 2 ^ 28
  record_small h =
      omega (arith, record_length, text_length v.name.now, text_length v.primary.now, text_length v.alternate.now, h.name, h.primary, h.alternate, four v.station, four (length v.name.now), four (length v.primary.now), four (length v.alternate.now))

-- ---- the bytes of a live record, with its kind
module _ (format : ℕ) (v : NewRecord) where
  pub entry_bare : format ≡ 1 → entry_bytes format (new_entry v) ≡ record_bytes (new_record v)
  unfolding entry_bytes kind_bytes
  entry_bare e = rw e

  pub entry_kind : (format ≡ 1 → ⊥) → entry_bytes format (new_entry v) ≡ number 1 ++ record_bytes (new_record v)
  unfolding entry_bytes kind_bytes
  entry_kind z = rw (ne_eqb format 1 z)

  pub one_more : (format ≡ 1 → ⊥) → length (entry_bytes format (new_entry v)) ≡ length (record_bytes (new_record v)) + 1
  unfolding number
  one_more z = omega (arith, ap length (entry_kind z), length-append (number 1) (record_bytes (new_record v)))

pub put_as : {out : List ℕ} {at : ℕ} {x y : List ℕ} {r : ℕ} {out' : List ℕ} → y ≡ x → Put out at x r out' → Put out at y r out'
put_as e p = rw e p
