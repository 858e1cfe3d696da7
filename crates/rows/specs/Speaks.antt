-- What is told of a visit, said without the evaluation that tells it (document 02, L6): the case is one of the letter's, its condition
-- holds and no earlier one does; the text's number is 0, or that of a text that stands at its window. `says` and `spoken_text`
-- in proofs/Speaks.antt show it of every visit.
use Rattle.std.specs.Prelude.{ℕ, ◌-◌, ◌≤◌, ◌<◌, true, false, List, [], ◌∷◌, ◌++◌, ◌≡◌, length, get_or}
use Prim.Native.String.{String}
use Rattle.byte.specs.Text.{bytes}
use Rattle.windows.specs.Window.{is_at}
use Rattle.rules.specs.Cond.{Spot, front, Cond, Mode, always, window, byte, vowel, place, past, below, left, long, slavo, edition2, non, ◌&◌, ◌or◌, at, holds}
use Rattle.rules.specs.Case.{Case, case, gives}
use Rattle.rules.specs.Told.{text_of}
use Rattle.outcome.specs.declared.Spoken.{Spoken}

-- the case of a number, from 1
abbrev pub the_case : List Case → ℕ → Case
the_case cs i = get_or cs (i - 1) (case always "" "" 0)

-- of these cases the one of this number speaks: it holds, and none before it does
pub record Speaks (cs : List Case) (u : List ℕ) (p : ℕ) (m : Mode) (k : ℕ) : Type 0 where
  pub from_one : 1 ≤ k
  pub one_of_them : k ≤ length cs
  pub holding : holds (the_case cs k).when u p m ≡ true
  pub none_before : (i : ℕ) → 1 ≤ i → i < k → holds (the_case cs i).when u p m ≡ false

-- s is what that case says
pub record Says (cs : List Case) (u : List ℕ) (p : ℕ) (m : Mode) (s : Spoken) : Type 0 where
  pub case : Speaks cs u p m s.case
  pub text : s.text ≡ text_of (the_case cs s.case).when u p
  pub visit : s.visit ≡ gives (the_case cs s.case)

-- a window test
pub record Window : Type 0 where
  pub spot : Spot
  pub width : ℕ
  pub texts : List String

abbrev pub as_window : Spot → ℕ → List String → Window
as_window s n ts = record { spot = s; width = n; texts = ts }

-- the window tests of a condition in the order in which they stand, those under a `non` left out
abbrev pub windows_of : Cond → List Window
windows_of always = []
windows_of (window s n ts) = as_window s n ts ∷ []
windows_of (byte s b) = []
windows_of (vowel s) = []
windows_of (place k) = []
windows_of (past k) = []
windows_of (below k) = []
windows_of (left k) = []
windows_of (long n) = []
windows_of slavo = []
windows_of edition2 = []
windows_of (non c) = []
windows_of (c & d) = windows_of c ++ windows_of d
windows_of (c or d) = windows_of c ++ windows_of d

-- its text of a number, from 1, stands there
abbrev pub Stands : Window → List ℕ → ℕ → ℕ → Type 0
Stands w u p k = at w.spot u p (λ (q : ℕ). is_at u q w.width (bytes (get_or w.texts (k - 1) ""))) ≡ true

-- of these windows one has its text of this number, and the word has that text there
pub record Named (ws : List Window) (u : List ℕ) (p k : ℕ) : Type 0 where
  pub index : ℕ
  pub inside : index < length ws
  pub from_one : 1 ≤ k
  pub one_of_them : k ≤ length (get_or ws index (as_window (front 0) 0 [])).texts
  pub stands : Stands (get_or ws index (as_window (front 0) 0 [])) u p k
