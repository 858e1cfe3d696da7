-- The parts of a record, one behind the other, as the code tells them.
use Prim.Native.Nat.{ℕ, ◌+◌, ◌^◌, ◌≤◌, ◌<◌}
use mathlib.Core.Path.{◌≡◌, sym, ap, ◌∙◌}
use mathlib.Core.List.{List}
use native.Mathlib.Omega.{arith}
use borrow.Author.Tests.{lt-ltb, le-ltb}
use lib.ListN.{length, drop}
use Rattle.std.specs.Prelude.{Some, None, Ok, Err}
use Rattle.terms.specs.declared.Fault.{Fault}
use Rattle.terms.specs.declared.Fault.TheVariants.{NotAbove}
use Rattle.slices.specs.declared.Span.{Span}
use Rattle.fields.specs.declared.Field.{Field}
use Rattle.entry.specs.declared.Kind.{Kind}
use Rattle.entry.specs.declared.Codes.{Codes}
use Rattle.fields.specs.Got.{Got, good, bad, Both, read_both, mapped}
use Rattle.fields.specs.Field.{number, text, read_number, read_text, any}
use Rattle.fields.specs.Told.{value_at, span_at, part_at}
use Rattle.fields.proofs.Forms.{number_law, text_law}
use Rattle.fields.proofs.Told.{field_told, field_fault, value_told, value_fault, part_told, part_fault, then_good, then_first, then_second}
use Rattle.entry.specs.Entry.{rising, record_of, Texts, read_record}
use Rattle.name.specs.Named.{name_length, name_byte}
use Rattle.entry.specs.Told.{codes_at, body_at}

-- ---- both codes
abbrev code : List ℕ → Got (List ℕ)
code = read_text any any

abbrev coded : List ℕ → Got (Both (List ℕ) (List ℕ))
coded = read_both code code

pub record CodesTold (at : ℕ) (f : Field Codes) (x : Got (Both (List ℕ) (List ℕ))) : Type 0 where
  pub p : Both (List ℕ) (List ℕ)
  pub n : ℕ
  pub is : x ≡ good p n
  pub primary : span_at at p.front ≡ f.value.primary
  pub alternate : span_at (at + length (text p.front)) p.behind ≡ f.value.alternate
  pub place : at + n ≡ f.next

abbrev codes_of : ℕ → Both (List ℕ) (List ℕ) → Codes
codes_of at p = record { primary = span_at at p.front; alternate = span_at (at + length (text p.front)) p.behind }

pub codes_told : (at : ℕ) (f : Field Codes) (x : Got (Both (List ℕ) (List ℕ))) → codes_at at x ≡ Ok f → CodesTold at f x
codes_told at f x e =
    let t = field_told (codes_of at) at f x e in
    record { p = t.a; n = t.n; is = t.is; primary = ap (λ (j : Codes). j.primary) t.value; alternate = ap (λ (j : Codes). j.alternate) t.value; place = t.place }

pub codes_fault : (at : ℕ) (f : Fault) (x : Got (Both (List ℕ) (List ℕ))) → codes_at at x ≡ Err f → x ≡ bad f
codes_fault at f x e = field_fault (codes_of at) at f x e

module _ (s : List ℕ) (at : ℕ) where
  module _ (f : Field Span) (p : part_at at (code (drop at s)) ≡ Ok f) where
    pub both_codes : (g : Field Span) → part_at f.next (code (drop f.next s)) ≡ Ok g
        → Ok (record { value = record { primary = f.value; alternate = g.value }; next = g.next }) ≡ codes_at at (coded (drop at s))
    both_codes g q =
        let x = part_told at f (code (drop at s)) p in
        let y = part_told f.next g (code (drop f.next s)) q in
        let u : x.n ≡ length (text x.t) = (text_law any any).used (drop at s) x.t x.n x.is in
        let w : coded (drop at s) ≡ good (record { front = x.t; behind = y.t }) (x.n + y.n) =
        then_good code code s at x.t x.n y.t y.n x.is (rw x.place y.is) in
        let k : g.next ≡ at + (x.n + y.n) = omega (arith, x.place, y.place) in
        let j : f.next ≡ at + length (text x.t) = omega (arith, x.place) in
        let i : g.value ≡ span_at (at + length (text x.t)) y.t = sym y.lies ∙ ap (λ (m : ℕ). span_at m y.t) j in
        (λ d. Ok (record { value = record { primary = sym x.lies d; alternate = i d }; next = k d })) ∙ sym (ap (codes_at at) w)

    pub second_code : (g : Fault) → part_at f.next (code (drop f.next s)) ≡ Err g → Err g ≡ codes_at at (coded (drop at s))
    second_code g q =
        let x = part_told at f (code (drop at s)) p in
        sym (ap (codes_at at) (then_second code code s at x.t x.n g x.is (rw x.place (part_fault f.next g (code (drop f.next s)) q))))

  pub first_code : (g : Fault) → part_at at (code (drop at s)) ≡ Err g → Err g ≡ codes_at at (coded (drop at s))
  first_code g p = sym (ap (codes_at at) (then_first code code s at g (part_fault at g (code (drop at s)) p)))

-- ---- a record
module _ (s : List ℕ) (at : ℕ) (kind : Kind) (floor : ℕ) where
  abbrev station : List ℕ → Got ℕ
  station = read_number (rising floor)

  abbrev named : List ℕ → Got (List ℕ)
  named = read_text name_length name_byte

  abbrev texts : List ℕ → Got Texts
  texts = read_both named coded

  module _ (f : Field ℕ) (p : value_at at (station (drop at s)) ≡ Ok f) where
    module _ (g : Field Span) (q : part_at f.next (named (drop f.next s)) ≡ Ok g) where
      pub a_record : (h : Field Codes) → codes_at g.next (coded (drop g.next s)) ≡ Ok h
          → Ok (record { kind = kind; station = f.value; name = g.value; primary = h.value.primary; alternate = h.value.alternate; next = record { at = h.next; floor = f.value + 1 } }) ≡ body_at kind at (read_record floor (drop at s))
      unfolding read_record
      a_record h t =
          let v : ℕ = f.value in
          let x = value_told at f (station (drop at s)) p in
          let y = part_told f.next g (named (drop f.next s)) q in
          let z = codes_told g.next h (coded (drop g.next s)) t in
          let u : x.n ≡ length (number v) = (number_law (rising floor)).used (drop at s) v x.n x.is in
          let u' : y.n ≡ length (text y.t) = (text_law name_length name_byte).used (drop f.next s) y.t y.n y.is in
          let w : texts (drop (at + x.n) s) ≡ good (record { front = y.t; behind = z.p }) (y.n + z.n) =
          rw x.place (then_good named coded s f.next y.t y.n z.p z.n y.is (rw y.place z.is)) in
          let k : h.next ≡ at + (x.n + (y.n + z.n)) = omega (arith, x.place, y.place, z.place) in
          let bn : f.next ≡ at + length (number v) = omega (arith, x.place) in
          let ln : g.next ≡ at + length (number v) + length (text y.t) = omega (arith, y.place) in
          let i : g.value ≡ span_at (at + length (number v)) y.t = sym y.lies ∙ ap (λ (m : ℕ). span_at m y.t) bn in
          let i' : h.value.primary ≡ span_at (at + length (number v) + length (text y.t)) z.p.front = sym z.primary ∙ ap (λ (m : ℕ). span_at m z.p.front) ln in
          let i'' : h.value.alternate ≡ span_at (at + length (number v) + length (text y.t) + length (text z.p.front)) z.p.behind =
          sym z.alternate ∙ ap (λ (m : ℕ). span_at (m + length (text z.p.front)) z.p.behind) ln in
          (λ d. Ok (record { kind = kind; station = v; name = i d; primary = i' d; alternate = i'' d; next = record { at = k d; floor = v + 1 } }))
          ∙ sym (ap (λ (j : Got (Both ℕ Texts)). body_at kind at (mapped record_of j)) (then_good station texts s at v x.n (record { front = y.t; behind = z.p }) (y.n + z.n) x.is w))

      pub codes_bad : (e : Fault) → codes_at g.next (coded (drop g.next s)) ≡ Err e → Err e ≡ body_at kind at (read_record floor (drop at s))
      unfolding read_record
      codes_bad e t =
          let x = value_told at f (station (drop at s)) p in
          let y = part_told f.next g (named (drop f.next s)) q in
          let w : texts (drop (at + x.n) s) ≡ bad e =
          rw x.place (then_second named coded s f.next y.t y.n e y.is (rw y.place (codes_fault g.next e (coded (drop g.next s)) t))) in
          sym (ap (λ (j : Got (Both ℕ Texts)). body_at kind at (mapped record_of j)) (then_second station texts s at f.value x.n e x.is w))

    pub name_bad : (e : Fault) → part_at f.next (named (drop f.next s)) ≡ Err e → Err e ≡ body_at kind at (read_record floor (drop at s))
    unfolding read_record
    name_bad e q =
        let x = value_told at f (station (drop at s)) p in
        let w : texts (drop (at + x.n) s) ≡ bad e = rw x.place (then_first named coded s f.next e (part_fault f.next e (named (drop f.next s)) q)) in
        sym (ap (λ (j : Got (Both ℕ Texts)). body_at kind at (mapped record_of j)) (then_second station texts s at f.value x.n e x.is w))

    -- a station that was read is below 2 ^ 28
    pub station_small : f.value < 2 ^ 28
    station_small =
        let x = value_told at f (station (drop at s)) p in
        ((number_law (rising floor)).fine (drop at s) f.value x.n x.is).small

  pub station_bad : (e : Fault) → value_at at (station (drop at s)) ≡ Err e → Err e ≡ body_at kind at (read_record floor (drop at s))
  unfolding read_record
  station_bad e p =
      sym (ap (λ (j : Got (Both ℕ Texts)). body_at kind at (mapped record_of j)) (then_first station texts s at e (value_fault at e (station (drop at s)) p)))

-- ---- a station
pub rising_below : (floor v : ℕ) → v < floor → rising floor v ≡ Some NotAbove
rising_below floor v h = rw (lt-ltb v floor h)

pub rising_good : (floor v : ℕ) → floor ≤ v → rising floor v ≡ None
rising_good floor v h = rw (le-ltb v floor h)
