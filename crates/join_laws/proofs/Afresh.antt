-- THE THEOREM of request L3: where the codes of the live records of both books are right for their names, the pairs are those of encoding all names
-- join-afresh with limit m. The codes of books that the writer makes are right.
use Prim.Native.Nat.{ℕ}
use mathlib.Core.Path.{◌≡◌, refl, sym, ap, ap₂, subst, ◌∙◌}
use mathlib.Core.Bool.{Bool, true, false, cond, ◌&&◌}
use mathlib.Core.List.{List, [], ◌∷◌, ◌++◌}
use lib.Dec.{eqb}
use Rattle.terms.specs.declared.Edition.{Edition}
use Rattle.terms.specs.Limits.{Limit}
use Rattle.std.specs.Prelude.{Some, None}
use Rattle.chosen.specs.declared.Choice.{Choice}
use Rattle.chosen.specs.declared.Choice.TheVariants.{Primary, Alternate}
use Rattle.trimming.specs.Trim.{trimmed}
use Rattle.terms.specs.Editions.{edition_of}
use Rattle.demands.specs.Code.{code_of}
use Rattle.demands.proofs.Demand3.{code_limited}
use Rattle.header.specs.declared.Header.{Header}
use Rattle.entry.specs.Entry.{Record, Entry, is_live}
use Rattle.book.specs.Book.{Book, live}
use Rattle.header.specs.Head.{limit_of}
use Rattle.starting.specs.New.{new_header}
use Rattle.keying.specs.Keyed.{keyed, keyed_entry}
use Rattle.closing.specs.Closed.{closed, closed_in}
use Rattle.book_laws.proofs.Going.{longer}
use Rattle.matching.specs.Cut.{clip}
use Rattle.matching.specs.Pairs.{Coded, pairs}
use Rattle.two_books.specs.Sides.{bodies, standing, chosen_code, coded_all, join_of, limits_of}
use Rattle.join_laws.specs.Afresh.{RightUnder, AllRight, edition_in, Right, freshly}
use Rattle.matching.proofs.Fresh as fresh

-- demand 3: a code under a limit is the unlimited one, cut
cut_code : (ed : Edition) (c : Choice) (l : Limit) (w : List ℕ) → code_of ed l c w ≡ clip l (code_of ed None c w)
cut_code ed Primary None w = refl
cut_code ed Primary (Some n) w = (code_limited ed n (trimmed w)).primary
cut_code ed Alternate None w = refl
cut_code ed Alternate (Some n) w = (code_limited ed n (trimmed w)).alternate

-- stations and names
abbrev entries : List Record → List (fresh.Entry (List ℕ))
entries [] = []
entries (r ∷ rs) = record { station = r.station; name = r.name } ∷ entries rs

chosen_right : (ed : Edition) (c : Choice) (l : Limit) (r : Record) → RightUnder ed l r → chosen_code c r ≡ code_of ed l c r.name
chosen_right ed Primary l r x = x.primary
chosen_right ed Alternate l r x = x.alternate

module _ (ed : Edition) (c : Choice) (l : Limit) where
  -- codes that are right are fresh ones
  all_fresh : (rs : List Record) → AllRight ed l rs → coded_all c rs ≡ freshly ed l c rs
  unfolding coded_all freshly
  all_fresh [] x = refl
  all_fresh (r ∷ rs) x =
      ap₂ (λ (k : List ℕ) (ys : List Coded). record { station = r.station; code = k } ∷ ys) (chosen_right ed c l r x.0) (all_fresh rs x.1)

  by_names : (rs : List Record) → freshly ed l c rs ≡ fresh.keyed_by (λ l w. code_of ed l c w) l (entries rs)
  unfolding freshly fresh.keyed_by
  by_names [] = refl
  by_names (r ∷ rs) = ap (λ (ys : List Coded). record { station = r.station; code = code_of ed l c r.name } ∷ ys) (by_names rs)

-- where their editions are the same, which the join asks
pub join_afresh : (c : Choice) (x y : Book) → x.header.edition ≡ y.header.edition → Right x → Right y
    → join_of c x y ≡ pairs None (freshly (edition_in x) (limits_of x y) c (standing x.records)) (freshly (edition_in x) (limits_of x y) c (standing y.records))
join_afresh c x y e p q =
    let ed : Edition = edition_in x in
    let lx : Limit = limit_of x.header.cut in
    let ly : Limit = limit_of y.header.cut in
    let m : Limit = limits_of x y in
    let s : AllRight ed ly (standing y.records) = subst (λ (n : ℕ). AllRight (edition_of n) ly (standing y.records)) (sym e) q in
    ap₂ (pairs m) (all_fresh ed c lx (standing x.records) p ∙ by_names ed c lx (standing x.records)) (all_fresh ed c ly (standing y.records) s ∙ by_names ed c ly (standing y.records))
    ∙ fresh.afresh (λ l w. code_of ed l c w) (cut_code ed c) lx ly (entries (standing x.records)) (entries (standing y.records))
    ∙ sym (ap₂ (pairs None) (by_names ed c m (standing x.records)) (by_names ed c m (standing y.records)))

-- ---- the writer's codes are right: a new record's are, a new book has none, and one record more keeps a book right; that these are the
-- books it leaves is `start_reads` and `add_reads` of crates/book_laws/proofs/Grows.antt
pub keyed_right : (h : Header) (station : ℕ) (name : List ℕ) → RightUnder (edition_of h.edition) (limit_of h.cut) (keyed h station name)
unfolding keyed
keyed_right h station name = record { primary = refl; alternate = refl }

pub start_right : (cut : ℕ) → Right (record { header = new_header cut; records = [] })
start_right cut = tt

all_more : (ed : Edition) (l : Limit) (es : List Entry) (e : Entry) → AllRight ed l (standing es) → RightUnder ed l e.body → AllRight ed l (standing (es ++ e ∷ []))
all_more ed l [] e x y = go (is_live e)
  where
    go : (t : Bool) → AllRight ed l (bodies (cond t (e ∷ []) []))
    go true = (y, tt)
    go false = tt
all_more ed l (q ∷ es) e x y = go (is_live q) (λ z. all_more ed l es e z y) x
  where
    go : (t : Bool) → (AllRight ed l (standing es) → AllRight ed l (standing (es ++ e ∷ []))) → AllRight ed l (bodies (cond t (q ∷ live es) (live es)))
        → AllRight ed l (bodies (cond t (q ∷ live (es ++ e ∷ [])) (live (es ++ e ∷ []))))
    go true ih z = (z.0, ih z.1)
    go false ih z = ih z

pub longer_right : (b : Book) (station : ℕ) (name : List ℕ) → Right b → Right (longer b station name)
longer_right b station name x =
    all_more (edition_in b) (limit_of b.header.cut) b.records (keyed_entry b.header station name) x (keyed_right b.header station name)

-- ---- closing keeps it right, and so does closing up: a join sees the same of the live records
live_live : (es : List Entry) → live (live es) ≡ live es
live_live [] = refl
live_live (e ∷ es) = go (is_live e) refl (live_live es)
  where
    go : (t : Bool) → is_live e ≡ t → live (live es) ≡ live es → live (cond t (e ∷ live es) (live es)) ≡ cond t (e ∷ live es) (live es)
    go true d ih = ap (λ (t : Bool). cond t (e ∷ live (live es)) (live (live es))) d ∙ ap (λ (l : List Entry). e ∷ l) ih
    go false d ih = ih

pub live_right : (b : Book) → Right b → Right (record { header = b.header; records = live b.records })
live_right b x = subst (λ (es : List Entry). AllRight (edition_in b) (limit_of b.header.cut) (bodies es)) (sym (live_live b.records)) x

pub closed_right : (b : Book) (station : ℕ) → Right b → Right (record { header = b.header; records = closed_in station b.records })
closed_right b station x = go b.records x
  where
    ed : Edition
    ed = edition_in b

    l : Limit
    l = limit_of b.header.cut

    go : (es : List Entry) → AllRight (edition_in b) (limit_of b.header.cut) (standing es) → AllRight (edition_in b) (limit_of b.header.cut) (standing (closed_in station es))
    go [] y = y
    go (e ∷ es) y = one (is_live e) refl (eqb e.body.station station) (go es) y
      where
        one : (t : Bool) → is_live e ≡ t → (q : Bool) → (AllRight (edition_in b) (limit_of b.header.cut) (standing es) → AllRight (edition_in b) (limit_of b.header.cut) (standing (closed_in station es)))
            → AllRight (edition_in b) (limit_of b.header.cut) (bodies (cond t (e ∷ live es) (live es))) → AllRight (edition_in b) (limit_of b.header.cut) (standing (cond (t && q) (closed e ∷ es) (e ∷ closed_in station es)))
        one true d true ih y = y.1
        one true d false ih y = subst (λ (t : Bool). AllRight (edition_in b) (limit_of b.header.cut) (bodies (cond t (e ∷ live (closed_in station es)) (live (closed_in station es))))) (sym d) (y.0, ih y.1)
        one false d q ih y = subst (λ (t : Bool). AllRight (edition_in b) (limit_of b.header.cut) (bodies (cond t (e ∷ live (closed_in station es)) (live (closed_in station es))))) (sym d) (ih y)
