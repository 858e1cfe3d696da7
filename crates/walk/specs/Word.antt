-- A trimmed word (document 01, "Preparing the word"): its Slavo-Germanic mark, where its walk starts, the rule at its places, and
-- its codes. Letters a to z count as A to Z by `upper`; a silent first letter is no visit, and places still count from the front.
use Rattle.std.specs.Prelude.{ℕ, ◌-◌, List, length}
use Rattle.byte.specs.Text.{upper}
use Rattle.rules.specs.Cond.{mode}
use Rattle.terms.specs.Editions.{is_second}
use Rattle.rules.specs.Table.{visit}
use Rattle.terms.specs.declared.Edition.{Edition}
use Rattle.outcome.specs.declared.Visit.{Visit}
use Rattle.walk.specs.Walk.{places, to_primary, to_alternate, Coded, limited, whole}
use Rattle.word.specs.Mark.{slavo_germanic}
use Rattle.word.specs.Start.{start_of}

-- the rule at the places of the word, under an edition
abbrev pub rule_of : Edition → List ℕ → ℕ → Visit
rule_of ed w p = visit (upper w) p (mode (slavo_germanic (upper w)) (is_second ed))

-- the places that are visited with no limit
unfoldable pub visits_of : Edition → List ℕ → List ℕ
visits_of ed w = places (rule_of ed w) (start_of w) 0 (length w - start_of w)

-- both codes and the count of visits, with no limit and under the limit n
abbrev pub whole_of : Edition → List ℕ → Coded
whole_of ed w = whole (to_primary (rule_of ed w)) (to_alternate (rule_of ed w)) (visits_of ed w)

abbrev pub limited_of : Edition → ℕ → List ℕ → Coded
limited_of ed n w = limited (to_primary (rule_of ed w)) (to_alternate (rule_of ed w)) n n (visits_of ed w)
