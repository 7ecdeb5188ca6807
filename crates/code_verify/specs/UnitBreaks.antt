-- Breaks of a unit, as code has them.
use Rattle.std.specs.Prelude.{Option, None, option_map, List}
use Rattle.lam_bytecode.specs.Codes.{CodeTree}
use Rattle.lam_bytecode.specs.declared.op.Op.{Op}
use Rattle.guarded_code.specs.Rounds.{Table}
use Rattle.guarded_code.specs.Descriptions.{Description}
use Rattle.guarded_code.specs.Breaks.{BrokenAt, Kind, Unguarded, takes_kinds, is_guarded, first_failing, broken}
use Rattle.code_verify.specs.declared.breaks.UnitBreak.{UnitBreak}
use Rattle.code_verify.specs.Faults.{rule_seen}

abbrev pub broken_at : UnitBreak → BrokenAt
broken_at b = record { rule = rule_seen b.rule; at = b.at }

abbrev pub unit_break_seen : Option UnitBreak → Option BrokenAt
unit_break_seen o = option_map broken_at o

-- the first break of a unit whose rounds hold
abbrev pub table_break : CodeTree → List Op → Table Description → Option BrokenAt
table_break code ops t = broken Kind (first_failing (takes_kinds code) 0 ops t) (broken Unguarded (first_failing is_guarded 0 ops t) None)
