-- Records that read: one, and those behind it.
use Prim.Native.Nat.{ℕ, ◌≤◌, ◌<◌}
use mathlib.Core.Path.{◌≡◌, refl, sym, ◌∙◌}
use mathlib.Core.List.{List, [], ◌∷◌}
use native.Mathlib.Omega.{arith}
use lib.ListN.{length, drop}
use Rattle.terms.specs.declared.Fault.{Fault}
use Rattle.fields.specs.Got.{Got, good, bad, grown, read_all}
use Rattle.fields.proofs.Law.{never, same}
use Rattle.entry.specs.Entry.{Entry, entry_bytes, read_entry, above}
use Rattle.book.specs.Book.{read_entries}
use Rattle.entry.proofs.Entry.{entry_law, some_entry}
use Rattle.fields.proofs.All as all

-- ---- records that read, behind the first
pub record Behind (format : ℕ) (l : List ℕ) (e : Entry) (n : ℕ) (es : List Entry) : Type 0 where
  pub es' : List Entry
  pub m : ℕ
  pub is : read_entries format (above e) (drop n l) ≡ good es' m
  pub all : es ≡ e ∷ es'

pub behind : (format floor : ℕ) (l : List ℕ) (e : Entry) (n : ℕ) (es : List Entry) (k : ℕ) → read_entry format floor l ≡ good e n → read_entries format floor l ≡ good es k → Behind format l e n es
unfolding read_entries
behind format floor l e n es k p q =
    let u : n ≡ length (entry_bytes format e) = (entry_law format floor).used l e n p in
    let w : n ≤ length l = (entry_law format floor).within l e n p in
    go (read_all (read_entry format) above (above e) 0 (drop n l)) refl
    (sym (all.one_more (read_entry format) above floor l e n p (omega (arith, some_entry format e)) w) ∙ q)
  where
    go : (y : Got (List Entry)) → read_all (read_entry format) above (above e) 0 (drop n l) ≡ y → grown e n y ≡ good es k → Behind format l e n es
    go (bad f) d h = never h
    go (good us m) d h = record { es' = us; m = m; is = d; all = sym (same h) }

pub first_good : {B : Type 0} (format floor : ℕ) (l : List ℕ) (f : Fault) (es : List Entry) (k : ℕ) → 0 < length l → read_entry format floor l ≡ bad f → read_entries format floor l ≡ good es k → B
unfolding read_entries
first_good format floor l f es k h p q = never (sym (all.one_bad (read_entry format) above floor l f h p) ∙ q)

pub none_behind : (format floor : ℕ) (l : List ℕ) (es : List Entry) (k : ℕ) → length l ≤ 0 → read_entries format floor l ≡ good es k → es ≡ []
unfolding read_entries
none_behind format floor [] es k h q = sym (same q)
none_behind format floor (b ∷ l) es k h q = absurd (omega arith)
