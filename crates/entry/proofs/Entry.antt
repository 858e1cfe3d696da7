-- A record and its kind are forms: what is written reads back, and what reads is its one writing.
use Prim.Native.Nat.{ℕ, ◌≤◌, ◌<◌}
use mathlib.Core.Path.{◌≡◌, refl, sym, ap, ◌∙◌}
use mathlib.Core.Bool.{Bool, true, false, cond}
use mathlib.Core.List.{List, [], ◌++◌}
use native.Mathlib.Omega.{arith}
use borrow.Author.Tests.{leb-true, eqb-false}
use lib.Dec.{eqb, leb}
use lib.ListN.{length, take, length-append}
use Rattle.std.specs.Prelude.{Some, None}
use Rattle.terms.specs.declared.Fault.TheVariants.{NotKnown}
use Rattle.fields.specs.Got.{Got, good, Both}
use Rattle.fields.specs.Field.{number, text, read_number, FineNumber, FineText, any}
use Rattle.fields.proofs.Law.{Law, same, as_far, Fines, both, renamed}
use Rattle.fields.proofs.Forms.{number_law, text_law, some_number}
use Rattle.entry.specs.Entry.{Record, Entry, record_bytes, kind_bytes, entry_bytes, rising, Texts, record_of, entry_of, read_record, read_kind, read_entry}
use Rattle.entry.specs.Kinds.{kinds}
use Rattle.name.specs.Named.{name_length, name_byte}

-- ---- a record
abbrev record_parts : Record → Both ℕ Texts
record_parts r = record { front = r.station; behind = record { front = r.name; behind = record { front = r.primary; behind = r.alternate } } }

abbrev pub FineRecord : ℕ → Record → Type 0
FineRecord floor r = Fines (FineNumber (rising floor)) (Fines (FineText name_length name_byte) (Fines (FineText any any) (FineText any any))) (record_parts r)

pub record_law : (floor : ℕ) → Law record_bytes (read_record floor) (FineRecord floor)
unfolding record_bytes read_record
record_law floor =
    renamed record_of record_parts (λ r. refl) (λ p. refl)
    (both (number_law (rising floor)) (both (text_law name_length name_byte) (both (text_law any any) (text_law any any))))

pub some_record : (r : Record) → 0 < length (record_bytes r)
unfolding record_bytes
some_record r =
    omega (arith, some_number r.station, length-append (number r.station) (text r.name ++ (text r.primary ++ text r.alternate)))

-- ---- a value that is not spelt
pub nothing_law : {A : Type 0} (v : A) → Law (λ (a : A). []) (λ l. good v 0) (λ a. a ≡ v)
nothing_law v = record {
  back = λ a q x. ap (λ y. good y 0) (sym x);
  fine = λ l a n e. sym (same e);
  used = λ l a n e. sym (as_far e);
  within = λ l a n e. omega (arith, as_far e);
  only = λ l bs a n e. ap (λ (k : ℕ). take k l) (sym (as_far e));
}

-- ---- a kind: in format 1 it is 1
pub data FineKind (format k : ℕ) : Type 0 where
  unspelt : eqb format 1 ≡ true → k ≡ 1 → FineKind format k
  spelt : eqb format 1 ≡ false → FineNumber kinds k → FineKind format k

weakened : {A : Type 0} {w v : A → List ℕ} {r s : List ℕ → Got A} {F G : A → Type 0} → ((a : A) → v a ≡ w a) → ((l : List ℕ) → s l ≡ r l) → ((a : A) → F a → G a) → ((a : A) → G a → F a) → Law w r F → Law v s G
weakened {A} {w} {v} {r} {s} wv rs up down f = record {
  back = λ a q x. rs (v a ++ q) ∙ ap (λ (l : List ℕ). r (l ++ q)) (wv a) ∙ f.back a q (down a x) ∙ ap (λ (l : List ℕ). good a (length l)) (sym (wv a));
  fine = λ l a n e. up a (f.fine l a n (sym (rs l) ∙ e));
  used = λ l a n e. f.used l a n (sym (rs l) ∙ e) ∙ ap length (sym (wv a));
  within = λ l a n e. f.within l a n (sym (rs l) ∙ e);
  only = λ l bs a n e. f.only l bs a n (sym (rs l) ∙ e) ∙ sym (wv a);
}

pub kind_law : (format : ℕ) → Law (kind_bytes format) (read_kind format) (FineKind format)
unfolding kind_bytes read_kind
kind_law format = go (eqb format 1) refl
  where
    no : {B : Type 0} → eqb format 1 ≡ true → eqb format 1 ≡ false → B
    no p q = let z : ◌≡◌ {A = Bool} true false = sym p ∙ q in absurd (let y : ◌≡◌ {A = ℕ} 0 1 = cc in omega arith)

    is_1 : eqb format 1 ≡ true → (a : ℕ) → FineKind format a → a ≡ 1
    is_1 e a (unspelt p q) = q
    is_1 e a (spelt p q) = no e p

    is_fine : eqb format 1 ≡ false → (a : ℕ) → FineKind format a → FineNumber kinds a
    is_fine e a (unspelt p q) = no p e
    is_fine e a (spelt p q) = q

    go : (t : Bool) → eqb format 1 ≡ t → Law (λ k. cond (eqb format 1) [] (number k)) (λ l. cond (eqb format 1) (good 1 0) (read_number kinds l)) (FineKind format)
    go true e = weakened (λ a. rw e) (λ l. rw e) (λ a x. unspelt e x) (is_1 e) (nothing_law 1)
    go false e = weakened (λ a. rw e) (λ l. rw e) (λ a x. spelt e x) (is_fine e) (number_law kinds)

-- ---- an entry
abbrev entry_parts : Entry → Both ℕ Record
entry_parts e = record { front = e.kind; behind = e.body }

abbrev pub FineEntry : ℕ → ℕ → Entry → Type 0
FineEntry format floor e = Fines (FineKind format) (FineRecord floor) (entry_parts e)

pub entry_law : (format floor : ℕ) → Law (entry_bytes format) (read_entry format floor) (FineEntry format floor)
unfolding entry_bytes read_entry
entry_law format floor = renamed entry_of entry_parts (λ e. refl) (λ p. refl) (both (kind_law format) (record_law floor))

pub some_entry : (format : ℕ) (e : Entry) → 0 < length (entry_bytes format e)
unfolding entry_bytes
some_entry format e = omega (arith, some_record e.body, length-append (kind_bytes format e.kind) (record_bytes e.body))

pub is_kind : (v : ℕ) → kinds v ≡ None → v ≤ 1
is_kind v e = go (leb v 1) refl e
  where
    go : (q : Bool) → leb v 1 ≡ q → cond q None (Some NotKnown) ≡ None → v ≤ 1
    go false f e = let z : ◌≡◌ {A = ℕ} 0 1 = cc in absurd (omega arith)
    go true f e = leb-true v 1 f

pub kind_low : (format k : ℕ) → FineKind format k → k ≤ 1
kind_low format k (unspelt e f) = omega (arith, f)
kind_low format k (spelt e x) = is_kind k x.judged

pub kind_one : (format k : ℕ) → format ≡ 1 → FineKind format k → k ≡ 1
kind_one format k z (unspelt e f) = f
kind_one format k z (spelt e x) = absurd (eqb-false format 1 e z)
