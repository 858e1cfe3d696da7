-- Books whose live records' codes are right for their names, and the records that encoding all names afresh gives: what the theorem of request L3
-- speaks of, `join_afresh` of proofs/Afresh.antt.
use Rattle.std.specs.Prelude.{◌≡◌, List, [], ◌∷◌}
use Rattle.terms.specs.declared.Edition.{Edition}
use Rattle.terms.specs.Limits.{Limit}
use Rattle.chosen.specs.declared.Choice.{Choice}
use Rattle.chosen.specs.declared.Choice.TheVariants.{Primary, Alternate}
use Rattle.terms.specs.Editions.{edition_of}
use Rattle.demands.specs.Code.{code_of}
use Rattle.entry.specs.Entry.{Record}
use Rattle.book.specs.Book.{Book}
use Rattle.header.specs.Head.{limit_of}
use Rattle.matching.specs.Pairs.{Coded}
use Rattle.two_books.specs.Sides.{standing}

-- a record's codes are those of its name under an edition and a limit
pub record RightUnder (ed : Edition) (l : Limit) (r : Record) : Type 0 where
  pub primary : r.primary ≡ code_of ed l Primary r.name
  pub alternate : r.alternate ≡ code_of ed l Alternate r.name

abbrev pub AllRight : Edition → Limit → List Record → Type 0
AllRight ed l [] = Unit {0}
AllRight ed l (r ∷ rs) = RightUnder ed l r × AllRight ed l rs

abbrev pub edition_in : Book → Edition
edition_in b = edition_of b.header.edition

-- a book whose live records' codes are right under its own edition and cut
abbrev pub Right : Book → Type 0
Right b = AllRight (edition_in b) (limit_of b.header.cut) (standing b.records)

-- what a join sees of records whose names are encoded now, whatever codes are stored
unfoldable pub freshly : Edition → Limit → Choice → List Record → List Coded
freshly ed l c [] = []
freshly ed l c (r ∷ rs) = record { station = r.station; code = code_of ed l c r.name } ∷ freshly ed l c rs
