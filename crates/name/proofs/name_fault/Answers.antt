-- `name::name_fault` meets its contract.
use mathlib.Core.Path.{sym, ◌∙◌}
use Rattle.name.proofs.Told.{ascii_clean, ascii_bad}
use Rattle.name.proofs.name_fault.Goals as goal

pub returns-then-is_ascii : goal.returns-then-is_ascii
returns-then-is_ascii c = ascii_clean c.args.w.now (sym c.is_ascii.ensures ∙ c.if-is_ascii.true)

pub returns-else-is_ascii : goal.returns-else-is_ascii
returns-else-is_ascii c = ascii_bad c.args.w.now (sym c.is_ascii.ensures ∙ c.if-is_ascii.false)
