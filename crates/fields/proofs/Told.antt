-- From answers to readings and back.
use Prim.Native.Nat.{ℕ, ◌+◌, ◌-◌, ◌≤◌, ◌<◌}
use mathlib.Core.Path.{◌≡◌, refl, sym, ap, ◌∙◌}
use mathlib.Core.Bool.{true}
use mathlib.Core.List.{List}
use native.Mathlib.Omega.{arith}
use lib.ListN.{length, take, drop, length-drop}
use lib.Seq.{drop-drop, length-take-le}
use Rattle.std.specs.Result.{IsErrAnd}
use Rattle.terms.specs.declared.Fault.{Fault}
use Rattle.terms.specs.declared.Fault.TheVariants.{BookEnds}
use Rattle.std.specs.Prelude.{Option, Some, None, Result, Ok, Err}
use Rattle.number.specs.declared.Number.{Number}
use Rattle.number.specs.Septets.{reads}
use Rattle.number.proofs.Laws.{reads_within}
use Rattle.slices.specs.declared.Span.{Span}
use Rattle.fields.specs.declared.Field.{Field}
use Rattle.fields.specs.Got.{Got, good, bad, read_both}
use Rattle.fields.specs.Field.{number, judged, read_number, read_bytes, read_text, any}
use Rattle.fields.specs.Told.{field_at, value_at, span_at, part_at, bytes_at}
use Rattle.fields.proofs.Law.{paired, first_bad, second_bad}
use Rattle.fields.proofs.Forms.{Bytewise, number_good, number_bad, number_read, number_judged, number_law, bytes_read, bytes_good, bytes_short, none_in, text_good, text_bad, length_bad}

-- ---- a fault that a `?` passes on
pub passed : {A : Type 0} {f : Fault} {x : Result A Fault} (r : Result A Fault) → IsErrAnd r (λ g. g ≡ f) → Err f ≡ x → r ≡ x
passed (Ok a) h e = absurd h
passed (Err g) h e = ap Err h ∙ e

-- ---- from what was told of a reading to the reading
-- the value and the place of a field
pub fields : {B : Type 0} {v w : B} {n m : ℕ} → ◌≡◌ {A = Result (Field B) Fault} (Ok (record { value = v; next = n })) (Ok (record { value = w; next = m })) → (v ≡ w) × (n ≡ m)
fields {B} {v} {w} {n} {m} e =
    let d : ◌≡◌ {A = Field B} (record { value = v; next = n }) (record { value = w; next = m }) = cc in
    (ap (λ (x : Field B). x.value) d, ap (λ (x : Field B). x.next) d)

module _ {A B : Type 0} (told : A → B) (at : ℕ) where
  pub record FieldTold (f : Field B) (x : Got A) : Type 0 where
    pub a : A
    pub n : ℕ
    pub is : x ≡ good a n
    pub value : told a ≡ f.value
    pub place : at + n ≡ f.next

  pub field_told : (f : Field B) (x : Got A) → field_at told at x ≡ Ok f → FieldTold f x
  field_told f (bad g) e = let z : ◌≡◌ {A = ℕ} 0 1 = cc in absurd (omega arith)
  field_told f (good a n) e = let d = fields e in record { a = a; n = n; is = refl; value = d.0; place = d.1 }

  pub field_fault : (g : Fault) (x : Got A) → field_at told at x ≡ Err g → x ≡ bad g
  field_fault g (bad f) e = let fs : f ≡ g = cc in ap (λ (y : Fault). bad y) fs
  field_fault g (good a n) e = let z : ◌≡◌ {A = ℕ} 0 1 = cc in absurd (omega arith)

-- ---- numbers
pub record ValueTold (at v next : ℕ) (x : Got ℕ) : Type 0 where
  pub n : ℕ
  pub is : x ≡ good v n
  pub place : at + n ≡ next

pub value_told : (at : ℕ) (f : Field ℕ) (x : Got ℕ) → value_at at x ≡ Ok f → ValueTold at f.value f.next x
value_told at f x e =
    let t = field_told (λ v. v) at f x e in
    record { n = t.n; is = t.is ∙ ap (λ (y : ℕ). good y t.n) t.value; place = t.place }

pub value_fault : (at : ℕ) (g : Fault) (x : Got ℕ) → value_at at x ≡ Err g → x ≡ bad g
value_fault at g x e = field_fault (λ v. v) at g x e

module _ (s : List ℕ) (at : ℕ) where
  pub found_number : (r : Number) → Ok r ≡ reads 4 true (drop at s) → Ok (record { value = r.value; next = at + r.used }) ≡ value_at at (read_number any (drop at s))
  found_number r e = sym (ap (value_at at) (number_good any (drop at s) r.value r.used (sym e) refl))

  pub found_fits : (r : Number) → Ok r ≡ reads 4 true (drop at s) → r.used ≤ length s - at
  found_fits r e = omega (arith, length-drop at s, reads_within 4 true (drop at s) r.value r.used (sym e))

  pub found_fault : (f : Fault) → Err f ≡ reads 4 true (drop at s) → Err f ≡ value_at at (read_number any (drop at s))
  found_fault f e = sym (ap (value_at at) (number_bad any (drop at s) f (sym e)))

-- a number that any judge may still refuse
module _ (judge : ℕ → Option Fault) (l : List ℕ) where
  pub judged_good : (v n : ℕ) → read_number any l ≡ good v n → judge v ≡ None → read_number judge l ≡ good v n
  judged_good v n e j = number_good judge l v n (number_read any l v n e).found j

  pub judged_bad : (v n : ℕ) (f : Fault) → read_number any l ≡ good v n → judge v ≡ Some f → read_number judge l ≡ bad f
  judged_bad v n f e j = number_judged judge l v n f (number_read any l v n e).found j

-- ---- bytes
module _ (s : List ℕ) (start len left : ℕ) (e : left ≡ length s - start) where
  pub bytes_there : len ≤ left → Ok (record { value = record { start = start; len = len }; next = start + len }) ≡ bytes_at start (read_bytes any len (drop start s))
  bytes_there h =
      let enough : len ≤ length (drop start s) = omega (arith, length-drop start s) in
      sym (ap (bytes_at start) (bytes_good any len (drop start s) (none_in (take len (drop start s))) enough)
      ∙ ap (λ (n : ℕ). Ok (record { value = record { start = start; len = n }; next = start + len })) (length-take-le len (drop start s) enough))

  pub bytes_cut : left < len → Err BookEnds ≡ bytes_at start (read_bytes any len (drop start s))
  bytes_cut h = sym (ap (bytes_at start) (bytes_short any len (drop start s) (none_in (take len (drop start s))) (omega (arith, length-drop start s))))

-- ---- texts
module _ (jn jb : ℕ → Option Fault) (s : List ℕ) (at : ℕ) where
  pub text_told : (f : Field ℕ) (r : Result (Field Span) Fault) → value_at at (read_number jn (drop at s)) ≡ Ok f → r ≡ bytes_at f.next (read_bytes jb f.value (drop f.next s))
      → r ≡ part_at at (read_text jn jb (drop at s))
  text_told f r e d = go (read_bytes jb v (drop (at + x.n) s)) refl
    where
      v : ℕ
      v = f.value

      x : ValueTold at v f.next (read_number jn (drop at s))
      x = value_told at f (read_number jn (drop at s)) e

      w : x.n ≡ length (number v)
      w = (number_law jn).used (drop at s) v x.n x.is

      here : r ≡ bytes_at (at + x.n) (read_bytes jb v (drop (at + x.n) s))
      here = rw x.place d

      go : (y : Got (List ℕ)) → read_bytes jb v (drop (at + x.n) s) ≡ y → r ≡ part_at at (read_text jn jb (drop at s))
      go (bad g) p = here ∙ ap (bytes_at (at + x.n)) p ∙ sym (ap (part_at at) (text_bad jn jb (drop at s) v x.n g x.is (rw (drop-drop x.n at s) p)))
      go (good t m) p =
          let b : Bytewise jb v (drop (at + x.n) s) t m = bytes_read jb v (drop (at + x.n) s) t m p in
          let vm : v ≡ m = b.all in
          let tv : length t ≡ v = ap length (sym b.taken) ∙ length-take-le v (drop (at + x.n) s) b.enough in
          let q : read_bytes jb v (drop (at + x.n) s) ≡ good t v = p ∙ ap (good t) (sym vm) in
          here ∙ ap (bytes_at (at + x.n)) q
          ∙ (let a : at + x.n ≡ at + length (number (length t)) = rw tv (ap (λ (k : ℕ). at + k) w) in
          let c : at + x.n + v ≡ at + (x.n + v) = omega arith in
          λ i. Ok (record { value = record { start = a i; len = length t }; next = c i }))
          ∙ sym (ap (part_at at) (text_good jn jb (drop at s) v x.n t x.is (rw (drop-drop x.n at s) q)))

  pub length_told : (f : Fault) → value_at at (read_number jn (drop at s)) ≡ Err f → Err f ≡ part_at at (read_text jn jb (drop at s))
  length_told f e = sym (ap (part_at at) (length_bad jn jb (drop at s) f (value_fault at f (read_number jn (drop at s)) e)))

pub record PartTold (at : ℕ) (f : Field Span) (x : Got (List ℕ)) : Type 0 where
  pub t : List ℕ
  pub n : ℕ
  pub is : x ≡ good t n
  pub lies : span_at at t ≡ f.value
  pub place : at + n ≡ f.next

pub part_told : (at : ℕ) (f : Field Span) (x : Got (List ℕ)) → part_at at x ≡ Ok f → PartTold at f x
part_told at f x e = let t = field_told (span_at at) at f x e in record { t = t.a; n = t.n; is = t.is; lies = t.value; place = t.place }

pub part_fault : (at : ℕ) (g : Fault) (x : Got (List ℕ)) → part_at at x ≡ Err g → x ≡ bad g
part_fault at g x e = field_fault (span_at at) at g x e

-- ---- a number that was found good, judged
pub any_bad : (judge : ℕ → Option Fault) (l : List ℕ) (f : Fault) → read_number any l ≡ bad f → read_number judge l ≡ bad f
unfolding read_number
any_bad judge l f e = go (reads 4 true l) e
  where
    go : (r : Result Number Fault) → judged any r ≡ bad f → judged judge r ≡ bad f
    go (Ok r) h = let z : ◌≡◌ {A = ℕ} 0 1 = cc in absurd (omega arith)
    go (Err g) h = h

module _ (judge : ℕ → Option Fault) (l : List ℕ) (at : ℕ) where
  pub value_kept : (f : Field ℕ) → value_at at (read_number any l) ≡ Ok f → judge f.value ≡ None → Ok f ≡ value_at at (read_number judge l)
  value_kept f e j =
      let x = value_told at f (read_number any l) e in
      sym e ∙ ap (value_at at) (x.is ∙ sym (judged_good judge l f.value x.n x.is j))

  pub value_refused : (f : Field ℕ) (g : Fault) → value_at at (read_number any l) ≡ Ok f → judge f.value ≡ Some g → Err g ≡ value_at at (read_number judge l)
  value_refused f g e j =
      let x = value_told at f (read_number any l) e in
      sym (ap (value_at at) (judged_bad judge l f.value x.n g x.is j))

  pub value_passed : (f : Fault) → value_at at (read_number any l) ≡ Err f → Err f ≡ value_at at (read_number judge l)
  value_passed f e = sym (ap (value_at at) (any_bad judge l f (value_fault at f (read_number any l) e)))

-- ---- one reading behind another, at places of a list
module _ {A B : Type 0} (r : List ℕ → Got A) (t : List ℕ → Got B) (s : List ℕ) (at : ℕ) where
  pub then_good : (a : A) (i : ℕ) (b : B) (j : ℕ) → r (drop at s) ≡ good a i → t (drop (at + i) s) ≡ good b j
      → read_both r t (drop at s) ≡ good (record { front = a; behind = b }) (i + j)
  then_good a i b j e d = paired r t (drop at s) a i b j e (rw (drop-drop i at s) d)

  pub then_first : (f : Fault) → r (drop at s) ≡ bad f → read_both r t (drop at s) ≡ bad f
  then_first f e = first_bad r t (drop at s) f e

  pub then_second : (a : A) (i : ℕ) (f : Fault) → r (drop at s) ≡ good a i → t (drop (at + i) s) ≡ bad f → read_both r t (drop at s) ≡ bad f
  then_second a i f e d = second_bad r t (drop at s) a i f e (rw (drop-drop i at s) d)
