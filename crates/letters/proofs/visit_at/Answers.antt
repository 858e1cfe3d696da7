-- `letters::visit_at` meets its contract: each arm of the match is the byte's row of the table.
use mathlib.Core.Path.{refl}
use Rattle.std.proofs.Common.{rules}
use Rattle.byte.specs.Text.{up}
use Rattle.rules.specs.Cond.{holds}
use Rattle.rules.specs.Told.{text_of, speaker}
use Rattle.rules.specs.Plain.{cases_rest}
use Rattle.rules.specs.CasesC.{cases_c}
use Rattle.rules.specs.CasesDL.{cases_d, cases_h, cases_j, cases_l}
use Rattle.rules.specs.CasesG.{cases_g}
use Rattle.rules.specs.CasesMZ.{cases_m, cases_p, cases_r, cases_t, cases_w, cases_x, cases_z}
use Rattle.rules.specs.CasesS.{cases_s}
use Rattle.rules.specs.Table.{rows, cases_in}
use Rattle.rules.proofs.Arms.{past_zero, key, arm_marked, arm_edited, arm_free, arm_plain, arm_vowel, arm_rest}
use Rattle.letters.proofs.visit_at.Goals as goal

pub returns-then-w-at : goal.returns-then-w-at
unfolding up speaker holds text_of rows cases_in cases_c cases_d cases_g cases_h cases_j cases_l cases_m cases_p cases_r cases_s cases_t cases_w cases_x cases_z cases_rest
returns-then-w-at c = arm_free c.args.w.now _ _ _ 0 refl (past_zero c.args.w.now _ c.if-w-at.true) c.both.ensures

pub bounds-w-at : goal.bounds-w-at
unfolding up speaker holds text_of rows cases_in cases_c cases_d cases_g cases_h cases_j cases_l cases_m cases_p cases_r cases_s cases_t cases_w cases_x cases_z cases_rest
bounds-w-at c = search rules

pub returns-in-65 : goal.returns-in-65
unfolding up speaker holds text_of rows cases_in cases_c cases_d cases_g cases_h cases_j cases_l cases_m cases_p cases_r cases_s cases_t cases_w cases_x cases_z cases_rest
returns-in-65 c = arm_vowel _ _ _ _ c.in-65.is c.handle_vowel.ensures

pub returns-in-66 : goal.returns-in-66
unfolding up speaker holds text_of rows cases_in cases_c cases_d cases_g cases_h cases_j cases_l cases_m cases_p cases_r cases_s cases_t cases_w cases_x cases_z cases_rest
returns-in-66 c = arm_plain _ _ _ _ "B" "P" refl (key 66 refl refl c.in-66.is) c.handle_plain.ensures

pub returns-in-67 : goal.returns-in-67
unfolding up speaker holds text_of rows cases_in cases_c cases_d cases_g cases_h cases_j cases_l cases_m cases_p cases_r cases_s cases_t cases_w cases_x cases_z cases_rest
returns-in-67 c = arm_edited _ _ _ _ 67 refl (key 67 refl refl c.in-67.is) c.handle_c.ensures

pub returns-in-68 : goal.returns-in-68
unfolding up speaker holds text_of rows cases_in cases_c cases_d cases_g cases_h cases_j cases_l cases_m cases_p cases_r cases_s cases_t cases_w cases_x cases_z cases_rest
returns-in-68 c = arm_free _ _ _ _ 68 refl (key 68 refl refl c.in-68.is) c.handle_d.ensures

pub returns-in-70 : goal.returns-in-70
unfolding up speaker holds text_of rows cases_in cases_c cases_d cases_g cases_h cases_j cases_l cases_m cases_p cases_r cases_s cases_t cases_w cases_x cases_z cases_rest
returns-in-70 c = arm_plain _ _ _ _ "F" "F" refl (key 70 refl refl c.in-70.is) c.handle_plain-in-70.ensures

pub returns-in-71 : goal.returns-in-71
unfolding up speaker holds text_of rows cases_in cases_c cases_d cases_g cases_h cases_j cases_l cases_m cases_p cases_r cases_s cases_t cases_w cases_x cases_z cases_rest
returns-in-71 c = arm_marked _ _ _ _ 71 refl (key 71 refl refl c.in-71.is) c.handle_g.ensures

pub returns-in-72 : goal.returns-in-72
unfolding up speaker holds text_of rows cases_in cases_c cases_d cases_g cases_h cases_j cases_l cases_m cases_p cases_r cases_s cases_t cases_w cases_x cases_z cases_rest
returns-in-72 c = arm_free _ _ _ _ 72 refl (key 72 refl refl c.in-72.is) c.handle_h.ensures

pub returns-in-74 : goal.returns-in-74
unfolding up speaker holds text_of rows cases_in cases_c cases_d cases_g cases_h cases_j cases_l cases_m cases_p cases_r cases_s cases_t cases_w cases_x cases_z cases_rest
returns-in-74 c = arm_marked _ _ _ _ 74 refl (key 74 refl refl c.in-74.is) c.handle_j.ensures

pub returns-in-75 : goal.returns-in-75
unfolding up speaker holds text_of rows cases_in cases_c cases_d cases_g cases_h cases_j cases_l cases_m cases_p cases_r cases_s cases_t cases_w cases_x cases_z cases_rest
returns-in-75 c = arm_plain _ _ _ _ "K" "K" refl (key 75 refl refl c.in-75.is) c.handle_plain-in-75.ensures

pub returns-in-76 : goal.returns-in-76
unfolding up speaker holds text_of rows cases_in cases_c cases_d cases_g cases_h cases_j cases_l cases_m cases_p cases_r cases_s cases_t cases_w cases_x cases_z cases_rest
returns-in-76 c = arm_free _ _ _ _ 76 refl (key 76 refl refl c.in-76.is) c.handle_l.ensures

pub returns-in-77 : goal.returns-in-77
unfolding up speaker holds text_of rows cases_in cases_c cases_d cases_g cases_h cases_j cases_l cases_m cases_p cases_r cases_s cases_t cases_w cases_x cases_z cases_rest
returns-in-77 c = arm_free _ _ _ _ 77 refl (key 77 refl refl c.in-77.is) c.handle_m.ensures

pub returns-in-78 : goal.returns-in-78
unfolding up speaker holds text_of rows cases_in cases_c cases_d cases_g cases_h cases_j cases_l cases_m cases_p cases_r cases_s cases_t cases_w cases_x cases_z cases_rest
returns-in-78 c = arm_plain _ _ _ _ "N" "N" refl (key 78 refl refl c.in-78.is) c.handle_plain-in-78.ensures

pub returns-in-80 : goal.returns-in-80
unfolding up speaker holds text_of rows cases_in cases_c cases_d cases_g cases_h cases_j cases_l cases_m cases_p cases_r cases_s cases_t cases_w cases_x cases_z cases_rest
returns-in-80 c = arm_free _ _ _ _ 80 refl (key 80 refl refl c.in-80.is) c.handle_p.ensures

pub returns-in-81 : goal.returns-in-81
unfolding up speaker holds text_of rows cases_in cases_c cases_d cases_g cases_h cases_j cases_l cases_m cases_p cases_r cases_s cases_t cases_w cases_x cases_z cases_rest
returns-in-81 c = arm_plain _ _ _ _ "Q" "K" refl (key 81 refl refl c.in-81.is) c.handle_plain-in-81.ensures

pub returns-in-82 : goal.returns-in-82
unfolding up speaker holds text_of rows cases_in cases_c cases_d cases_g cases_h cases_j cases_l cases_m cases_p cases_r cases_s cases_t cases_w cases_x cases_z cases_rest
returns-in-82 c = arm_marked _ _ _ _ 82 refl (key 82 refl refl c.in-82.is) c.handle_r.ensures

pub returns-in-83 : goal.returns-in-83
unfolding up speaker holds text_of rows cases_in cases_c cases_d cases_g cases_h cases_j cases_l cases_m cases_p cases_r cases_s cases_t cases_w cases_x cases_z cases_rest
returns-in-83 c = arm_marked _ _ _ _ 83 refl (key 83 refl refl c.in-83.is) c.handle_s.ensures

pub returns-in-84 : goal.returns-in-84
unfolding up speaker holds text_of rows cases_in cases_c cases_d cases_g cases_h cases_j cases_l cases_m cases_p cases_r cases_s cases_t cases_w cases_x cases_z cases_rest
returns-in-84 c = arm_free _ _ _ _ 84 refl (key 84 refl refl c.in-84.is) c.handle_t.ensures

pub returns-in-86 : goal.returns-in-86
unfolding up speaker holds text_of rows cases_in cases_c cases_d cases_g cases_h cases_j cases_l cases_m cases_p cases_r cases_s cases_t cases_w cases_x cases_z cases_rest
returns-in-86 c = arm_plain _ _ _ _ "V" "F" refl (key 86 refl refl c.in-86.is) c.handle_plain-in-86.ensures

pub returns-in-87 : goal.returns-in-87
unfolding up speaker holds text_of rows cases_in cases_c cases_d cases_g cases_h cases_j cases_l cases_m cases_p cases_r cases_s cases_t cases_w cases_x cases_z cases_rest
returns-in-87 c = arm_free _ _ _ _ 87 refl (key 87 refl refl c.in-87.is) c.handle_w.ensures

pub returns-in-88 : goal.returns-in-88
unfolding up speaker holds text_of rows cases_in cases_c cases_d cases_g cases_h cases_j cases_l cases_m cases_p cases_r cases_s cases_t cases_w cases_x cases_z cases_rest
returns-in-88 c = arm_free _ _ _ _ 88 refl (key 88 refl refl c.in-88.is) c.handle_x.ensures

pub returns-in-90 : goal.returns-in-90
unfolding up speaker holds text_of rows cases_in cases_c cases_d cases_g cases_h cases_j cases_l cases_m cases_p cases_r cases_s cases_t cases_w cases_x cases_z cases_rest
returns-in-90 c = arm_marked _ _ _ _ 90 refl (key 90 refl refl c.in-90.is) c.handle_z.ensures

pub returns-in-0-to-64 : goal.returns-in-0-to-64
unfolding up speaker holds text_of rows cases_in cases_c cases_d cases_g cases_h cases_j cases_l cases_m cases_p cases_r cases_s cases_t cases_w cases_x cases_z cases_rest
returns-in-0-to-64 c = arm_rest _ _ _ _ c.in-0-to-64.in-0-to-64-own.rest c.both-in-0-to-64.ensures
