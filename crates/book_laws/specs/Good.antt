-- What a book may hold, in plain terms. The theorems over it are in proofs/Good.antt.
use Rattle.std.specs.Prelude.{ℕ, ◌^◌, ◌≤◌, ◌<◌, ◌≡◌, List, [], ◌∷◌, length}
use Rattle.terms.specs.Limits.{word_limit}
use Rattle.ascii.specs.High.{first_high}
use Rattle.terms.specs.Editions.{last_edition, last_format}
use Rattle.header.specs.declared.Header.{Header}
use Rattle.entry.specs.Entry.{Record, Entry, above}

pub record GoodHeader (h : Header) : Type 0 where
  pub format : (1 ≤ h.format) × (h.format ≤ last_format)
  pub edition : (1 ≤ h.edition) × (h.edition ≤ last_edition)
  pub cut : h.cut < 2 ^ 28

-- a record whose station is at least `floor`, with a name that the encoder takes and any codes
pub record GoodRecord (floor : ℕ) (r : Record) : Type 0 where
  pub rises : floor ≤ r.station
  pub station : r.station < 2 ^ 28
  pub long : length r.name ≤ word_limit
  pub ascii : length r.name ≤ first_high r.name
  pub primary : length r.primary < 2 ^ 28
  pub alternate : length r.alternate < 2 ^ 28

-- with its kind: live or closed, and live in a book of format 1
pub record GoodEntry (format floor : ℕ) (e : Entry) : Type 0 where
  pub kind : e.kind ≤ 1
  pub one : format ≡ 1 → e.kind ≡ 1
  pub body : GoodRecord floor e.body

-- each above the one before, live or closed
pub data GoodRecords (format : ℕ) : ℕ → List Entry → Type 0 where
  none : {floor : ℕ} → GoodRecords format floor []
  more : {floor : ℕ} {e : Entry} {es : List Entry} → GoodEntry format floor e → GoodRecords format (above e) es → GoodRecords format floor (e ∷ es)
