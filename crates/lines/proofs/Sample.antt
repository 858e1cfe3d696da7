-- Document 01's four lines and their whole output, computed from the definition.
use mathlib.Core.Path.{◌≡◌, refl}
use Rattle.byte.specs.Text.{bytes, up, upper}
use Rattle.basics.specs.Same.{same}
use Rattle.windows.specs.Window.{is_at, sees}
use Rattle.spots.specs.Spot.{byte_at, vowel_at, ends_after, is_long}
use Rattle.byte.specs.Vowel.{vowel}
use Rattle.rules.specs.Cond.{holds}
use Rattle.rules.specs.Case.{first}
use Rattle.rules.specs.Plain.{swallows, cases_vowel, cases_rest}
use Rattle.rules.specs.CasesC.{cases_c}
use Rattle.rules.specs.CasesDL.{cases_d, cases_h, cases_j, cases_l}
use Rattle.rules.specs.CasesG.{cases_g}
use Rattle.rules.specs.CasesMZ.{cases_m, cases_p, cases_r, cases_t, cases_w, cases_x, cases_z}
use Rattle.rules.specs.CasesS.{cases_s}
use Rattle.rules.specs.Table.{rows, cases_in, visit}
use Rattle.word.specs.Mark.{begins_one, has_one, slavo_germanic}
use Rattle.word.specs.Start.{start_of}
use Rattle.walk.specs.Word.{visits_of}
use Rattle.trimming.specs.Trim.{trimmed}
use Rattle.encoder.specs.Encode.{primary_of, alternate_of}
use Rattle.line.specs.Line.{line_of}
use Rattle.lines.specs.Lines.{ended, begun, lines_of, output_of}

pub four_lines : output_of (bytes "jumped\nVilla\n\nSaj\n") ≡ bytes "JMPT\tAMPT\nFL\tF\n\t\nSJ\tS \n"
unfolding output_of lines_of ended begun line_of primary_of alternate_of trimmed visits_of start_of begins_one has_one slavo_germanic visit first holds rows cases_in swallows cases_c cases_d cases_g cases_h cases_j cases_l cases_m cases_p cases_r cases_s cases_t cases_w cases_x cases_z cases_vowel cases_rest up upper is_at sees byte_at vowel vowel_at ends_after is_long same
four_lines = refl

-- a last line without byte 10 counts, CR LF ends a line as its blank and its end, and byte 28 is no blank
pub edge_lines : output_of (bytes "Saj\r\n\u{1c}jumped\nXX") ≡ bytes "SJ\tS \nJMPT\tJMPT\nSKS\tSKS\n"
unfolding output_of lines_of ended begun line_of primary_of alternate_of trimmed visits_of start_of begins_one has_one slavo_germanic visit first holds rows cases_in swallows cases_c cases_d cases_g cases_h cases_j cases_l cases_m cases_p cases_r cases_s cases_t cases_w cases_x cases_z cases_vowel cases_rest up upper is_at sees byte_at vowel vowel_at ends_after is_long same
edge_lines = refl
