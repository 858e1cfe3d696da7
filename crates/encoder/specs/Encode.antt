-- What `encode` promises: its answer for every word, limit and room, and what it leaves in both buffers, after document
-- 01's "What the caller gets". proofs/NoChoice.antt shows that nothing is left open, and crates/demands/proofs/Demand2.antt what an accepted word
-- gets.
use Rattle.std.specs.Prelude.{ℕ, ◌≡◌, List, cond, ltb, length, Some, None, Result, Ok, Err}
pub use Rattle.walk.specs.Walk.{filled}
pub use Rattle.terms.specs.Limits.{word_limit}
pub use Rattle.answers.specs.Answers.{Answer, number_of, place_of, primary_length, alternate_length, visit_count}
use Rattle.walk.specs.Word.{whole_of, limited_of}
use Rattle.terms.specs.declared.Edition.{Edition}
use Rattle.terms.specs.Limits.{Limit}
use Rattle.encoder.specs.declared.Encoder.{Encoder}
use Rattle.answers.specs.declared.Coded.{Coded}
use Rattle.answers.specs.declared.Refusal.TheVariants.{TooLong, NotAscii, PrimaryShort, AlternateShort}
use Rattle.trimming.specs.Trim.{trimmed}
use Rattle.ascii.specs.High.{first_high}
use Rattle.encoder.specs.Table.{Given}
use Rattle.needs.specs.Needs.{need_of}
use Rattle.walk.specs.Walk as walk

-- "the default limit, 4, belongs to the encoder"
abbrev pub default_limit : ℕ
default_limit = 4

abbrev pub encoder_of : Edition → Limit → Encoder
encoder_of ed l = record { limit = l; edition = ed }

-- the walk of a trimmed word under an edition, with no limit or under one
abbrev pub walk_of : Edition → Limit → List ℕ → walk.Coded
walk_of ed None t = whole_of ed t
walk_of ed (Some n) t = limited_of ed n t

-- its codes and its visits
unfoldable pub primary_of : Edition → Limit → List ℕ → List ℕ
primary_of ed l t = (walk_of ed l t).primary

unfoldable pub alternate_of : Edition → Limit → List ℕ → List ℕ
alternate_of ed l t = (walk_of ed l t).alternate

abbrev pub visits_under : Edition → Limit → List ℕ → ℕ
visits_under ed l t = (walk_of ed l t).visits

-- what an accepted word gets
abbrev pub coded_of : Edition → Limit → List ℕ → Coded
coded_of ed l t = record { primary = length (primary_of ed l t); alternate = length (alternate_of ed l t); visits = visits_under ed l t }

-- the answer to any word, where the buffers have m and n bytes
abbrev pub answer_of : Edition → Limit → List ℕ → ℕ → ℕ → Answer
answer_of ed l w m n =
    cond (ltb word_limit (length w)) (Err TooLong)
    (cond (ltb (first_high w) (length w)) (Err (NotAscii (first_high w)))
    (cond (ltb m (need_of l (length (trimmed w)))) (Err PrimaryShort)
    (cond (ltb n (need_of l (length (trimmed w)))) (Err AlternateShort)
    (Ok (coded_of ed l (trimmed w))))))

-- a buffer after an answer: an accepted word's code at its front, and a refusal changes nothing
abbrev pub left_by : {E : Type 0} → Result Coded E → List ℕ → List ℕ → List ℕ
left_by (Ok coded) code buf = filled code buf
left_by (Err refusal) code buf = buf

-- what `encode` promises of its edition and limit, the word w, its answer r, and its buffers before (p, a) and after (p', a'): document 01's table, the
-- answer itself, and each buffer
pub record Encoded (ed : Edition) (l : Limit) (w p a : List ℕ) (r : Answer) (p' a' : List ℕ) : Type 0 where
  pub given : Given (length w) (first_high w) (length p) (length a) (need_of l (length (trimmed w))) r
  pub answer : r ≡ answer_of ed l w (length p) (length a)
  pub primary : p' ≡ left_by r (primary_of ed l (trimmed w)) p
  pub alternate : a' ≡ left_by r (alternate_of ed l (trimmed w)) a
