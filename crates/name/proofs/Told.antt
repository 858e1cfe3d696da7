-- A name, as the code tells it.
use Prim.Native.Nat.{ℕ, ◌+◌, ◌-◌, ◌≤◌, ◌<◌, min}
use mathlib.Core.Path.{◌≡◌, refl, sym, ap, ◌∙◌}
use mathlib.Core.Bool.{Bool, true, false, cond, ◌||◌}
use mathlib.Core.List.{List, [], ◌∷◌}
use native.Mathlib.Omega.{arith}
use borrow.Author.Tests.{lt-ltb, le-ltb, ltb-true, ltb-false, not-true, not-false}
use lib.Dec.{ltb, leb}
use lib.ListN.{length, take, drop, length-drop}
use Rattle.std.specs.Prelude.{Option, Some, None, Result, Ok, Err}
use Rattle.terms.specs.declared.Fault.{Fault}
use Rattle.terms.specs.declared.Fault.TheVariants.{TooLong, NotAscii}
use Rattle.slices.specs.declared.Span.{Span}
use Rattle.fields.specs.declared.Field.{Field}
use Rattle.fields.specs.Field.{number, read_number, read_bytes, first, fault_in, any}
use Rattle.fields.specs.Told.{value_at, bytes_at}
use Rattle.fields.proofs.Forms.{number_law, some_number, bytes_bad, bytes_good, bytes_short, none_in}
use Rattle.fields.proofs.Told.{value_told}
use Rattle.ascii.specs.High.{any_high, is_ascii}
use Rattle.terms.specs.Limits.{word_limit}
use Rattle.basics.proofs.Takes.{take_least}
use Rattle.name.specs.Named.{name_length, name_byte}

-- one bad byte shows the fault, whichever it is
fault_of : (w : List ℕ) → fault_in name_byte w ≡ cond (any_high w) (Some NotAscii) None
fault_of [] = refl
fault_of (b ∷ w) = go (leb 128 b) (fault_of w)
  where
    go : (q : Bool) → fault_in name_byte w ≡ cond (any_high w) (Some NotAscii) None → first (cond q (Some NotAscii) None) (fault_in name_byte w) ≡ cond (q || any_high w) (Some NotAscii) None
    go true h = refl
    go false h = h

pub ascii_clean : (w : List ℕ) → is_ascii w ≡ true → None ≡ fault_in name_byte w
ascii_clean w e = sym (fault_of w ∙ ap (λ (q : Bool). cond q (Some NotAscii) None) (not-true (any_high w) e))

pub ascii_bad : (w : List ℕ) → is_ascii w ≡ false → Some NotAscii ≡ fault_in name_byte w
ascii_bad w e = sym (fault_of w ∙ ap (λ (q : Bool). cond q (Some NotAscii) None) (not-false (any_high w) e))

-- the bytes of a name, whose fault was found among those that are there: from `start` to behind them
module _ (s : List ℕ) (start len there : ℕ) (f : Option Fault) (u : there ≡ min len (length s - start)) (e : f ≡ fault_in name_byte (take (start + there - start) (drop start s))) where
  fault_is : fault_in name_byte (take len (drop start s)) ≡ f
  fault_is =
      let d : start + there - start ≡ min len (length (drop start s)) = (let k : start + there - start ≡ there = omega arith in k) ∙ u ∙ ap (min len) (sym (length-drop start s)) in
      ap (fault_in name_byte) (sym (take_least len (drop start s)) ∙ ap (λ (k : ℕ). take k (drop start s)) (sym d)) ∙ sym e

  pub name_refused : (g : Fault) → f ≡ Some g → Err g ≡ bytes_at start (read_bytes name_byte len (drop start s))
  name_refused g z = sym (ap (bytes_at start) (bytes_bad name_byte len (drop start s) g (fault_is ∙ z)))

  pub name_clean : f ≡ None → (r : Result (Field Span) Fault) → r ≡ bytes_at start (read_bytes any len (drop start s)) → r ≡ bytes_at start (read_bytes name_byte len (drop start s))
  name_clean z r d = d ∙ ap (bytes_at start) (go (ltb (length (drop start s)) len) refl)
    where
      l : List ℕ
      l = drop start s

      go : (t : Bool) → ltb (length (drop start s)) len ≡ t → read_bytes any len (drop start s) ≡ read_bytes name_byte len (drop start s)
      go true h = bytes_short any len l (none_in (take len l)) (ltb-true _ _ h) ∙ sym (bytes_short name_byte len l (fault_is ∙ z) (ltb-true _ _ h))
      go false h = bytes_good any len l (none_in (take len l)) (ltb-false _ _ h) ∙ sym (bytes_good name_byte len l (fault_is ∙ z) (ltb-false _ _ h))

pub length_within : (s : List ℕ) (at : ℕ) (f : Field ℕ) → value_at at (read_number any (drop at s)) ≡ Ok f → f.next ≤ length s
length_within s at f e =
    let x = value_told at f (read_number any (drop at s)) e in
    let u : x.n ≡ length (number f.value) = (number_law any).used (drop at s) f.value x.n x.is in
    let w : x.n ≤ length (drop at s) = (number_law any).within (drop at s) f.value x.n x.is in
    omega (arith, x.place, some_number f.value, length-drop at s)

pub long_name : (n : ℕ) → word_limit < n → name_length n ≡ Some TooLong
long_name n h = rw (lt-ltb word_limit n h)

pub short_name : (n : ℕ) → n ≤ word_limit → name_length n ≡ None
short_name n h = rw (le-ltb word_limit n h)
