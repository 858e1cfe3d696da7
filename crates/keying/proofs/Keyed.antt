-- A new record that has no fault, and bytes that were laid down.
use Prim.Native.Nat.{ℕ, ◌+◌, ◌^◌, ◌≤◌, ◌<◌}
use mathlib.Core.Path.{◌≡◌, refl}
use mathlib.Core.Bool.{Bool, true, false, cond}
use mathlib.Core.List.{List}
use native.Mathlib.Omega.{arith}
use borrow.Author.Tests.{ltb-true, ltb-false}
use lib.Dec.{ltb}
use lib.ListN.{length}
use Rattle.std.specs.Prelude.{Option, Some, None, Ok, Err}
use Rattle.terms.specs.declared.Fault.{Fault}
use Rattle.terms.specs.declared.Fault.TheVariants.{TooLong, NotAscii, BadNumber, NotAbove, NoRoom}
use Rattle.terms.specs.Limits.{word_limit}
use Rattle.ascii.specs.High.{first_high}
use Rattle.fields.specs.Field.{first}
use Rattle.putting.specs.Laid.{placed, Made}
use Rattle.keying.specs.Keyed.{new_fault}

-- no fault is none
pub never : {A : Type 0} {B : Type 0} {a : A} → Some a ≡ None → B
never e = let z : ◌≡◌ {A = ℕ} 0 1 = cc in absurd (omega arith)

pub no_length : {B : Type 0} {f : Fault} {m : ℕ} → ◌≡◌ {A = Made} (Err f) (Ok m) → B
no_length e = let z : ◌≡◌ {A = ℕ} 0 1 = cc in absurd (omega arith)

-- ---- bytes that were laid down
pub record Laid (fault : Option Fault) (room at : ℕ) (bytes : List ℕ) (m : ℕ) : Type 0 where
  pub none : fault ≡ None
  pub fits : at + length bytes ≤ room
  pub long : at + length bytes ≡ m

pub was_laid : (fault : Option Fault) (room at : ℕ) (bytes : List ℕ) (m : ℕ) → placed fault room at bytes ≡ Ok m → Laid fault room at bytes m
was_laid (Some f) room at bytes m e = no_length e
was_laid None room at bytes m e = go (ltb room (at + length bytes)) refl e
  where
    go : (q : Bool) → ltb room (at + length bytes) ≡ q → ◌≡◌ {A = Made} (cond q (Err NoRoom) (Ok (at + length bytes))) (Ok m) → Laid None room at bytes m
    go true f e = no_length e
    go false f e = let k : at + length bytes ≡ m = cc in record { none = refl; fits = ltb-false _ _ f; long = k }

-- a new record that has no fault
pub record Sound (floor station : ℕ) (name : List ℕ) : Type 0 where
  pub short : length name ≤ word_limit
  pub ascii : length name ≤ first_high name
  pub small : station < 2 ^ 28
  pub rises : floor ≤ station

pub sound : (floor station : ℕ) (name : List ℕ) → new_fault floor station name ≡ None → Sound floor station name
sound floor station name e = go (ltb word_limit (length name)) refl (ltb (first_high name) (length name)) refl (ltb station (2 ^ 28)) refl (ltb station floor) refl e
  where
    go : (p : Bool) → ltb word_limit (length name) ≡ p → (q : Bool) → ltb (first_high name) (length name) ≡ q → (r : Bool) → ltb station (2 ^ 28) ≡ r → (s : Bool) → ltb station floor ≡ s
        → first (cond p (Some TooLong) (cond q (Some NotAscii) None)) (cond r (cond s (Some NotAbove) None) (Some BadNumber)) ≡ None → Sound floor station name
    go true dp q dq r dr s ds e = never e
    go false dp true dq r dr s ds e = never e
    go false dp false dq false dr s ds e = never e
    go false dp false dq true dr true ds e = never e
    go false dp false dq true dr false ds e = record { short = ltb-false _ _ dp; ascii = ltb-false _ _ dq; small = ltb-true _ _ dr; rises = ltb-false _ _ ds }
