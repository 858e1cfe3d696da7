-- The chosen code of a word.
use Rattle.std.specs.Prelude.{ℕ, List}
use Rattle.terms.specs.declared.Edition.{Edition}
use Rattle.terms.specs.Limits.{Limit}
use Rattle.chosen.specs.declared.Choice.{Choice}
use Rattle.chosen.specs.declared.Choice.TheVariants.{Primary, Alternate}
use Rattle.trimming.specs.Trim.{trimmed}
use Rattle.encoder.specs.Encode.{primary_of, alternate_of}

-- the chosen code of a word, under an edition
abbrev pub code_of : Edition → Limit → Choice → List ℕ → List ℕ
code_of ed l Primary w = primary_of ed l (trimmed w)
code_of ed l Alternate w = alternate_of ed l (trimmed w)
