-- No public function's promise leaves a choice: for the same arguments, any two results that it admits are the same fault, or hold the
-- same record.
use mathlib.Core.Path.{◌≡◌, sym, ap, ◌∙◌}
use mathlib.Core.List.{List}
use Prim.Native.Nat.{ℕ}
use borrow.Fn.Kinds.{Dens, res_t, ended_of}
use denote.Triple.Clauses.{AtExit}
use contract.Lifetimes.{Lfts}
use Rattle.std.specs.Prelude.{Result, Ok, Err}
use Rattle.terms.specs.declared.Fault.{Fault}
use Rattle.header.specs.declared.Header.{Header}
use Rattle.entry.specs.Entry.{Record}
use Rattle.putting.specs.declared.NewRecord.{NewRecord}
use Rattle.putting.specs.New.{new_record}
use Rattle.keying.specs.Keyed.{Keyed}
use Rattle.keying.proofs.Keyed.{never}
use Rattle.keying.proofs.new_record.Kinds as new-record-kinds
use Rattle.keying.proofs.new_record.Reads as new-record

abbrev told : Result NewRecord Fault → Result Record Fault
told (Ok v) = Ok (new_record v)
told (Err f) = Err f

one_told : (h : Header) (station : ℕ) (name : List ℕ) (x y : Result NewRecord Fault) → Keyed h station name x → Keyed h station name y → told x ≡ told y
one_told h station name (Ok v) (Ok w) p q = ap (λ (r : Record). Ok r) (p.is ∙ sym q.is)
one_told h station name (Ok v) (Err f) p q = never (sym q ∙ p.accepted)
one_told h station name (Err f) (Ok w) p q = never (sym p ∙ q.accepted)
one_told h station name (Err f) (Err g) p q = let z : f ≡ g = cc in ap (λ (r : Fault). Err r) z

module _ (κs : Lfts 1) (a : Dens κs new-record-kinds.ps) (x y : (res_t new-record-kinds.r κs).Denot) (s t : AtExit (ended_of 1 new-record-kinds.ps new-record-kinds.r) κs) where
  pub one_new_record : new-record.Post κs a x s → new-record.Post κs a y t → told x ≡ told y
  one_new_record p q = one_told _ _ _ x y p q
