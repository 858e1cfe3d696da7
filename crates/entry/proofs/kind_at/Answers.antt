-- `entry::kind_at` meets its contract.
use Prim.Native.Nat.{ℕ, ◌+◌}
use mathlib.Core.Path.{sym, ap, ◌∙◌, ◌≡◌}
use native.Mathlib.Omega.{arith}
use lib.ListN.{drop}
use Rattle.std.specs.Prelude.{Ok}
use Rattle.fields.specs.Told.{field_at}
use Rattle.fields.proofs.Told.{passed, value_kept, value_refused, value_passed}
use Rattle.entry.specs.declared.Kind.TheVariants.{Live}
use Rattle.entry.specs.Kinds.{kinds, kind_of}
use Rattle.entry.proofs.Records.{kind_unspelt, kind_spelt, kind_told, kind_fault_told, named_bad, named_good}
use Rattle.entry.proofs.kind_at.Goals as goal

pub returns-then-format-eq1 : goal.returns-then-format-eq1
returns-then-format-eq1 c =
    let a = c.args in
    let z : a.at ≡ a.at + 0 = omega arith in
    ap (λ (n : ℕ). Ok (record { value = Live; next = n })) z ∙ sym (ap (field_at kind_of a.at) (kind_unspelt a.format (drop a.at a.s.now) c.if-format-eq1.true))

pub returns-in_err-found : goal.returns-in_err-found
returns-in_err-found c =
    let a = c.args in
    passed _ c.from_residual.ensures.1 (kind_fault_told a.at _ _ (value_passed kinds (drop a.at a.s.now) a.at _ (sym c.in_err-found.ensures))
    ∙ sym (ap (field_at kind_of a.at) (kind_spelt a.format (drop a.at a.s.now) c.if-format-eq1.false)))

pub returns-in_err-value : goal.returns-in_err-value
returns-in_err-value c =
    let a = c.args in
    passed _ c.from_residual-in_err-value.ensures.1 (kind_fault_told a.at _ _ (value_refused kinds (drop a.at a.s.now) a.at _ _ (sym c.in_ok-found.ensures) (named_bad _ _ c.in_err-value.ensures))
    ∙ sym (ap (field_at kind_of a.at) (kind_spelt a.format (drop a.at a.s.now) c.if-format-eq1.false)))

pub returns : goal.returns
returns c =
    let a = c.args in
    let n = named_good _ _ c.in_ok-value.ensures in
    kind_told a.at _ _ _ n.1 (value_kept kinds (drop a.at a.s.now) a.at _ (sym c.in_ok-found.ensures) n.0)
    ∙ sym (ap (field_at kind_of a.at) (kind_spelt a.format (drop a.at a.s.now) c.if-format-eq1.false))
