-- The lines of an input that is read in two parts; and the lines are those between the bytes 10, and no others.
use Prim.Native.Nat.{ℕ}
use mathlib.Core.Path.{◌≡◌, refl, sym, ap, subst, ◌∙◌}
use mathlib.Core.List.{List, [], ◌∷◌, ◌++◌, append_assoc, append-nil}
use mathlib.Core.Bool.{Bool, true, false, ◌||◌}
use native.Mathlib.Omega.{arith}
use borrow.Author.Tests.{eqb-true}
use lib.Dec.{eqb}
use Rattle.line.specs.Line.{line_of}
use Rattle.lines.specs.Lines.{ended, begun, written, joined, has_end, some_end, Split}

-- either way on after a byte x
ended_on : (p a b : List ℕ) (x : ℕ) (t : Bool) → eqb x 10 ≡ t → ended [] (a ++ b) ≡ ended [] a ++ ended (begun [] a) b
    → ended (p ++ x ∷ []) (a ++ b) ≡ ended (p ++ x ∷ []) a ++ ended (begun (p ++ x ∷ []) a) b
    → ended p (x ∷ (a ++ b)) ≡ ended p (x ∷ a) ++ ended (begun p (x ∷ a)) b
unfolding ended begun
ended_on p a b x true t u v = simp t (ap (λ (l : List (List ℕ)). p ∷ l) u)
ended_on p a b x false t u v = simp t v

pub ended_append : (p a b : List ℕ) → ended p (a ++ b) ≡ ended p a ++ ended (begun p a) b
unfolding ended begun
ended_append p [] b = refl
ended_append p (x ∷ a) b = ended_on p a b x (eqb x 10) refl (ended_append [] a b) (ended_append (p ++ x ∷ []) a b)

begun_on : (p a b : List ℕ) (x : ℕ) (t : Bool) → eqb x 10 ≡ t → begun [] (a ++ b) ≡ begun (begun [] a) b
    → begun (p ++ x ∷ []) (a ++ b) ≡ begun (begun (p ++ x ∷ []) a) b → begun p (x ∷ (a ++ b)) ≡ begun (begun p (x ∷ a)) b
unfolding begun
begun_on p a b x true t u v = simp t u
begun_on p a b x false t u v = simp t v

pub begun_append : (p a b : List ℕ) → begun p (a ++ b) ≡ begun (begun p a) b
unfolding begun
begun_append p [] b = refl
begun_append p (x ∷ a) b = begun_on p a b x (eqb x 10) refl (begun_append [] a b) (begun_append (p ++ x ∷ []) a b)

pub written_append : (k l : List (List ℕ)) → written (k ++ l) ≡ written k ++ written l
written_append [] l = refl
written_append (x ∷ k) l = ap (λ (m : List ℕ). line_of x ++ m) (written_append k l) ∙ sym (append_assoc (line_of x) (written k) (written l))

-- ---- the lines, and no others
or_left : (a b : Bool) → a || b ≡ false → a ≡ false
or_left true b e = e
or_left false b e = refl

or_right : (a b : Bool) → a || b ≡ false → b ≡ false
or_right true b e = let z : ◌≡◌ {A = ℕ} 0 1 = cc in absurd (omega arith)
or_right false b e = e

-- up to the next byte 10, which l does not have
ended_line : (p l i : List ℕ) → has_end l ≡ false → ended p (l ++ 10 ∷ i) ≡ (p ++ l) ∷ ended [] i
unfolding ended
ended_line p [] i e = ap (λ (q : List ℕ). q ∷ ended [] i) (sym (append-nil p))
ended_line p (b ∷ l) i e =
    rw (or_left (eqb b 10) (has_end l) e) (ended_line (p ++ b ∷ []) l i (or_right (eqb b 10) (has_end l) e) ∙ ap (λ (q : List ℕ). q ∷ ended [] i) (append_assoc p (b ∷ []) l))

begun_line : (p l i : List ℕ) → has_end l ≡ false → begun p (l ++ 10 ∷ i) ≡ begun [] i
unfolding begun
begun_line p [] i e = refl
begun_line p (b ∷ l) i e = rw (or_left (eqb b 10) (has_end l) e) (begun_line (p ++ b ∷ []) l i (or_right (eqb b 10) (has_end l) e))

ended_rest : (p l : List ℕ) → has_end l ≡ false → ended p l ≡ []
unfolding ended
ended_rest p [] e = refl
ended_rest p (b ∷ l) e = rw (or_left (eqb b 10) (has_end l) e) (ended_rest (p ++ b ∷ []) l (or_right (eqb b 10) (has_end l) e))

begun_rest : (p l : List ℕ) → has_end l ≡ false → begun p l ≡ p ++ l
unfolding begun
begun_rest p [] e = sym (append-nil p)
begun_rest p (b ∷ l) e =
    rw (or_left (eqb b 10) (has_end l) e) (begun_rest (p ++ b ∷ []) l (or_right (eqb b 10) (has_end l) e) ∙ append_assoc p (b ∷ []) l)

ended_joined : (ls : List (List ℕ)) (rest : List ℕ) → some_end ls ≡ false → has_end rest ≡ false → ended [] (joined ls rest) ≡ ls
ended_joined [] rest e f = ended_rest [] rest f
ended_joined (l ∷ ls) rest e f =
    ended_line [] l (joined ls rest) (or_left (has_end l) (some_end ls) e)
    ∙ ap (λ (k : List (List ℕ)). l ∷ k) (ended_joined ls rest (or_right (has_end l) (some_end ls) e) f)

begun_joined : (ls : List (List ℕ)) (rest : List ℕ) → some_end ls ≡ false → has_end rest ≡ false → begun [] (joined ls rest) ≡ rest
begun_joined [] rest e f = begun_rest [] rest f
begun_joined (l ∷ ls) rest e f =
    begun_line [] l (joined ls rest) (or_left (has_end l) (some_end ls) e) ∙ begun_joined ls rest (or_right (has_end l) (some_end ls) e) f

-- an input is split in one way only, and that is the definition's
pub split_one : (i : List ℕ) (ls : List (List ℕ)) (rest : List ℕ) → Split i ls rest → (ls ≡ ended [] i) × (rest ≡ begun [] i)
split_one i ls rest s = (
  sym (ap (λ (j : List ℕ). ended [] j) s.whole ∙ ended_joined ls rest s.lines s.behind),
  sym (ap (λ (j : List ℕ). begun [] j) s.whole ∙ begun_joined ls rest s.lines s.behind),
)

no_end : (p : List ℕ) (b : ℕ) → has_end p ≡ false → eqb b 10 ≡ false → has_end (p ++ b ∷ []) ≡ false
no_end [] b e f = rw f
no_end (x ∷ p) b e f = rw (or_left (eqb x 10) (has_end p) e) (no_end p b (or_right (eqb x 10) (has_end p) e) f)

split_on : (p i : List ℕ) (b : ℕ) (t : Bool) → eqb b 10 ≡ t → has_end p ≡ false → Split i (ended [] i) (begun [] i)
    → (eqb b 10 ≡ false → Split ((p ++ b ∷ []) ++ i) (ended (p ++ b ∷ []) i) (begun (p ++ b ∷ []) i)) → Split (p ++ b ∷ i) (ended p (b ∷ i)) (begun p (b ∷ i))
unfolding ended begun
split_on p i b true t e u v =
    rw (t, eqb-true b 10 t) (record { whole = ap (λ (j : List ℕ). p ++ 10 ∷ j) u.whole; lines = rw e u.lines; behind = u.behind })
split_on p i b false t e u v =
    rw t (subst (λ (j : List ℕ). Split j (ended (p ++ b ∷ []) i) (begun (p ++ b ∷ []) i)) (append_assoc p (b ∷ []) i) (v t))

split_from : (p i : List ℕ) → has_end p ≡ false → Split (p ++ i) (ended p i) (begun p i)
unfolding ended begun
split_from p [] e = record { whole = append-nil p; lines = refl; behind = e }
split_from p (b ∷ i) e = split_on p i b (eqb b 10) refl e (split_from [] i refl) (λ f. split_from (p ++ b ∷ []) i (no_end p b e f))

pub split : (i : List ℕ) → Split i (ended [] i) (begun [] i)
split i = split_from [] i refl
