-- The codes of a name under a header, and the answer where it has none.
use Prim.Native.Nat.{ℕ, ◌-◌, ◌*◌, ◌≤◌}
use mathlib.Core.Path.{◌≡◌, ap, ◌∙◌, ap₂}
use mathlib.Core.List.{List}
use native.Mathlib.Omega.{arith}
use borrow.Author.Tests.{lt-ltb, le-ltb}
use lib.ListN.{length}
use Rattle.std.specs.Prelude.{Some, None, Ok, Err}
use Rattle.terms.specs.declared.Edition.{Edition}
use Rattle.terms.specs.Limits.{Limit, word_limit, code_room}
use Rattle.terms.specs.Editions.{edition_of}
use Rattle.chosen.specs.declared.Choice.{Choice}
use Rattle.chosen.specs.declared.Choice.TheVariants.{Primary, Alternate}
use Rattle.chosen.specs.Chosen.{chosen_of}
use Rattle.answers.specs.declared.Coded.{Coded}
use Rattle.answers.specs.declared.Refusal.{Refusal}
use Rattle.answers.specs.declared.Refusal.TheVariants.{TooLong, NotAscii, PrimaryShort, AlternateShort}
use Rattle.answers.specs.Answers.{Answer, number_of, fault_of}
use Rattle.trimming.specs.Trim.{trimmed}
use Rattle.trimming.proofs.Trim.{trimmed_length}
use Rattle.ascii.specs.High.{first_high}
use Rattle.encoder.specs.declared.Encoder.{Encoder}
use Rattle.encoder.specs.Encode.{Encoded, encoder_of}
use Rattle.encoder.proofs.Codes.{primary_fits, alternate_fits}
use Rattle.demands.specs.Code.{code_of}
use Rattle.demands.proofs.Room.{need_at_most, never_three, never_four}
use Rattle.demands.proofs.Part.{part_is}
use Rattle.header.specs.declared.Header.{Header}
use Rattle.header.specs.Head.{limit_of}
use Rattle.putting.specs.declared.NewRecord.{NewRecord}
use Rattle.putting.specs.New.{record_with}
use Rattle.keying.specs.Keyed.{name_fault, code_under, keyed, Keys}

-- a code of an accepted name has room
pub code_fits : (ed : Edition) (l : Limit) (c : Choice) (w : List ℕ) → length w ≤ word_limit → length (code_of ed l c w) ≤ code_room
code_fits ed l Primary w h = omega (arith, primary_fits ed (trimmed w) l, need_at_most l (length (trimmed w)), trimmed_length w)
code_fits ed l Alternate w h = omega (arith, alternate_fits ed (trimmed w) l, need_at_most l (length (trimmed w)), trimmed_length w)

module _ {ed : Edition} {l : Limit} {w p a p' a' : List ℕ} {r : Answer} (e : Encoded ed l w p a r p' a') where
  pub name_refused : 2 * word_limit - 1 ≤ length p → 2 * word_limit - 1 ≤ length a → (f : Refusal) → r ≡ Err f → name_fault w ≡ Some (fault_of f)
  name_refused s t TooLong q = rw (lt-ltb word_limit (length w) (e.given.one.0 (ap number_of q)))
  name_refused s t (NotAscii at) q = let g = e.given.two.0 (ap number_of q) in rw (le-ltb word_limit (length w) g.0, lt-ltb (first_high w) (length w) g.1)
  name_refused s t PrimaryShort q = absurd (never_three e s t (ap number_of q))
  name_refused s t AlternateShort q = absurd (never_four e s t (ap number_of q))

  short_name : (x : Coded) → r ≡ Ok x → length w ≤ word_limit
  short_name x q = (e.given.accepted.0 (ap number_of q)).0

  name_taken : (x : Coded) → r ≡ Ok x → name_fault w ≡ None
  name_taken x q = let g = e.given.accepted.0 (ap number_of q) in rw (le-ltb word_limit (length w) g.0, le-ltb (first_high w) (length w) g.1)

-- the codes that were made with the encoder s, under the header
module _ {s : Encoder} {ed : Edition} {l : Limit} {w p a p' a' : List ℕ} {r : Answer} (h : Header) (made : s ≡ encoder_of ed l) (by : ed ≡ edition_of h.edition) (under : l ≡ limit_of h.cut)
    (e : Encoded s.edition s.limit w p a r p' a') (x : Coded) (q : r ≡ Ok x) where
  code_is : (c : Choice) (part : List ℕ) → part ≡ chosen_of c p' x.primary a' x.alternate → part ≡ code_under h c w
  code_is c part f = part_is (made ∙ ap₂ encoder_of by under) e c x q f

  code_short : (c : Choice) (part : List ℕ) → part ≡ chosen_of c p' x.primary a' x.alternate → length part ≤ code_room
  code_short c part f = rw (code_is c part f) (code_fits _ _ c w (short_name e x q))

  pub keys : (v : NewRecord) → v.name.now ≡ w → v.primary.now ≡ chosen_of Primary p' x.primary a' x.alternate → v.alternate.now ≡ chosen_of Alternate p' x.primary a' x.alternate → Keys h v.station w v
  unfolding keyed
  keys v n f g = record {
    accepted = name_taken e x q;
    is = λ i. record_with v.station (n i) (code_is Primary v.primary.now f i) (code_is Alternate v.alternate.now g i);
    short = record { name = rw n (short_name e x q); primary = code_short Primary v.primary.now f; alternate = code_short Alternate v.alternate.now g };
  }
