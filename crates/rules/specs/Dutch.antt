-- The words whose keys may differ between the editions (document 02, L4): in capitals they begin with VAN or VON and a space. Of any
-- other word every visit is the same in both (`visit_agrees`, proofs/Editions.antt), and so is what `encode` answers
-- (`answer_agrees`, `code_agrees`, crates/demands/proofs/Agree.antt).
use Rattle.std.specs.Prelude.{ℕ, Bool, List, [], ◌∷◌, map}
use Rattle.byte.specs.Text.{bytes, upper}
use Rattle.windows.specs.Window.{sees}

abbrev pub dutch : List ℕ → Bool
dutch w = sees (upper w) 0 4 (map bytes ("VAN " ∷ "VON " ∷ []))
