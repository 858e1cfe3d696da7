-- The header and the whole book, from what the readers below answer.
use Prim.Native.Nat.{ℕ, ◌+◌}
use mathlib.Core.Path.{◌≡◌, sym, ap, ◌∙◌}
use mathlib.Core.List.{List}
use native.Mathlib.Omega.{arith}
use lib.ListN.{drop}
use Rattle.std.specs.Prelude.{Option, Ok, Err}
use Rattle.terms.specs.declared.Fault.{Fault}
use Rattle.fields.specs.declared.Field.{Field}
use Rattle.fields.specs.Got.{Got, good, bad, Both, read_both, mapped}
use Rattle.fields.specs.Field.{read_number, any}
use Rattle.fields.specs.Told.{value_at}
use Rattle.fields.proofs.Told.{value_told, value_fault, then_good, then_first, then_second}
use Rattle.header.specs.declared.Header.{Header}
use Rattle.header.specs.declared.Opened.{Opened}
use Rattle.header.specs.Head.{editions, header_of, read_header_by, opened_by}

-- ---- what was told
pub record OpenTold (o : Opened) (x : Got Header) : Type 0 where
  pub n : ℕ
  pub is : x ≡ good o.header n
  pub place : o.first.at ≡ n

pub open_told : (o : Opened) (x : Got Header) → opened_by x ≡ Ok o → OpenTold o x
open_told o (bad g) p = let z : ◌≡◌ {A = ℕ} 0 1 = cc in absurd (omega arith)
open_told o (good h n) p =
    let d : ◌≡◌ {A = Opened} (record { header = h; first = record { at = n; floor = 0 } }) o = cc in
    record { n = n; is = ap (λ (y : Opened). good y.header n) d; place = ap (λ (y : Opened). y.first.at) (sym d) }

pub open_fault : (f : Fault) (x : Got Header) → opened_by x ≡ Err f → x ≡ bad f
open_fault f (bad g) e = let fs : g ≡ f = cc in ap (λ (y : Fault). bad y) fs
open_fault f (good h n) e = let z : ◌≡◌ {A = ℕ} 0 1 = cc in absurd (omega arith)

-- ---- the header, under any judge of its format
module _ (judge : ℕ → Option Fault) (s : List ℕ) where
  abbrev r₁ : List ℕ → Got ℕ
  r₁ = read_number judge

  abbrev r₂ : List ℕ → Got ℕ
  r₂ = read_number editions

  abbrev r₃ : List ℕ → Got ℕ
  r₃ = read_number any

  abbrev two : List ℕ → Got (Both ℕ ℕ)
  two = read_both r₂ r₃

  module _ (f : Field ℕ) (p : value_at 0 (r₁ (drop 0 s)) ≡ Ok f) where
    module _ (e : Field ℕ) (q : value_at f.next (r₂ (drop f.next s)) ≡ Ok e) where
      pub opens : (c : Field ℕ) → value_at e.next (r₃ (drop e.next s)) ≡ Ok c
          → Ok (record { header = record { format = f.value; edition = e.value; cut = c.value }; first = record { at = c.next; floor = 0 } }) ≡ opened_by (read_header_by judge s)
      unfolding read_header_by
      opens c t =
          let x = value_told 0 f (r₁ (drop 0 s)) p in
          let y = value_told f.next e (r₂ (drop f.next s)) q in
          let z = value_told e.next c (r₃ (drop e.next s)) t in
          let k : c.next ≡ x.n + (y.n + z.n) = omega (arith, x.place, y.place, z.place) in
          let w : two (drop (0 + x.n) s) ≡ good (record { front = e.value; behind = c.value }) (y.n + z.n) =
          rw x.place (then_good r₂ r₃ s f.next e.value y.n c.value z.n y.is (rw y.place z.is)) in
          ap (λ (i : ℕ). Ok (record { header = record { format = f.value; edition = e.value; cut = c.value }; first = record { at = i; floor = 0 } })) k
          ∙ sym (ap (λ (g : Got (Both ℕ (Both ℕ ℕ))). opened_by (mapped header_of g)) (then_good r₁ two s 0 f.value x.n (record { front = e.value; behind = c.value }) (y.n + z.n) x.is w))

      pub opens_third : (g : Fault) → value_at e.next (r₃ (drop e.next s)) ≡ Err g → Err g ≡ opened_by (read_header_by judge s)
      unfolding read_header_by
      opens_third g t =
          let x = value_told 0 f (r₁ (drop 0 s)) p in
          let y = value_told f.next e (r₂ (drop f.next s)) q in
          let w : two (drop (0 + x.n) s) ≡ bad g =
          rw x.place (then_second r₂ r₃ s f.next e.value y.n g y.is (rw y.place (value_fault e.next g (r₃ (drop e.next s)) t))) in
          sym (ap (λ (j : Got (Both ℕ (Both ℕ ℕ))). opened_by (mapped header_of j)) (then_second r₁ two s 0 f.value x.n g x.is w))

    pub opens_second : (g : Fault) → value_at f.next (r₂ (drop f.next s)) ≡ Err g → Err g ≡ opened_by (read_header_by judge s)
    unfolding read_header_by
    opens_second g q =
        let x = value_told 0 f (r₁ (drop 0 s)) p in
        let w : two (drop (0 + x.n) s) ≡ bad g = rw x.place (then_first r₂ r₃ s f.next g (value_fault f.next g (r₂ (drop f.next s)) q)) in
        sym (ap (λ (j : Got (Both ℕ (Both ℕ ℕ))). opened_by (mapped header_of j)) (then_second r₁ two s 0 f.value x.n g x.is w))

  pub opens_first : (g : Fault) → value_at 0 (r₁ (drop 0 s)) ≡ Err g → Err g ≡ opened_by (read_header_by judge s)
  unfolding read_header_by
  opens_first g p =
      sym (ap (λ (j : Got (Both ℕ (Both ℕ ℕ))). opened_by (mapped header_of j)) (then_first r₁ two s 0 g (value_fault 0 g (r₁ (drop 0 s)) p)))
