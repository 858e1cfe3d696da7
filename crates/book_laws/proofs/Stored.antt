-- The kind that a reader tells of a record is, by its number, the one that the record stores.
use Prim.Native.Nat.{ℕ, ◌≤◌}
use mathlib.Core.Path.{◌≡◌, refl, sym}
use mathlib.Core.Bool.{Bool, true, false, cond}
use mathlib.Core.List.{List}
use native.Mathlib.Omega.{arith}
use borrow.Author.Tests.{eqb-true, eqb-false}
use lib.Dec.{eqb}
use Rattle.fields.specs.Got.{good}
use Rattle.entry.specs.declared.Kind.TheVariants.{Closed, Live}
use Rattle.entry.specs.Entry.{Entry, read_entry}
use Rattle.entry.specs.Kinds.{number_of, kind_of}
use Rattle.entry.proofs.Entry.{entry_law, kind_low}

numbered : (k : ℕ) → k ≤ 1 → number_of (kind_of k) ≡ k
numbered k h = go (eqb k 1) refl
  where
    go : (t : Bool) → eqb k 1 ≡ t → number_of (cond t Live Closed) ≡ k
    go true d = sym (eqb-true k 1 d)
    go false d = omega (arith, h, eqb-false k 1 d)

pub kind_stored : (format floor : ℕ) (l : List ℕ) (e : Entry) (n : ℕ) → read_entry format floor l ≡ good e n → number_of (kind_of e.kind) ≡ e.kind
kind_stored format floor l e n d =
    numbered e.kind (kind_low format e.kind ((entry_law format floor).fine l e n d).front)
