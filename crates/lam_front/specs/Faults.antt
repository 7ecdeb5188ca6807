-- What the faults of each layer are called.
use Rattle.std.specs.Prelude.{ℕ, List, codes}
use Rattle.lam_lexer.specs.declared.fault.LexFault.{LexFault}
use Rattle.lam_lexer.specs.declared.fault.LexFault.TheVariants as lexer
use Rattle.lam_parser.specs.declared.ParseFault.{ParseFault}
use Rattle.lam_parser.specs.declared.ParseFault.TheVariants as parser
use Rattle.lam_types_kinds.specs.declared.fault.TypeFault.{TypeFault}
use Rattle.lam_types_kinds.specs.declared.fault.TypeFault.TheVariants as types
use Rattle.lam_types_kinds.specs.Breaks.{Break, no_name, twice, arity, no_field, no_return, too_many, mismatch}
use Rattle.region_check.specs.declared.RegionFault.{RegionFault}
use Rattle.region_check.specs.declared.RegionFault.TheVariants as regions
use Rattle.region_check.specs.Breaks as region
use Rattle.lam_front.specs.declared.fault.Flaw.{Flaw}
use Rattle.lam_front.specs.declared.fault.Flaw.TheVariants.{BadChar, BadNumber, BadEscape, OpenText, Unexpected, TooDeep, NoName, Twice, Arity, NoField, NoReturn, TooMany, Mismatch, OuterRead, OuterWrite, ReturnInRegion, CaptureTwice}
use Rattle.lam_front.specs.declared.fault.ProgramFault.{ProgramFault}
use Rattle.lam_front.specs.declared.fault.ProgramFault.TheVariants.{At, NoMemory}

abbrev pub flaw_name : Flaw → List ℕ
flaw_name BadChar = codes "BadChar"
flaw_name BadNumber = codes "BadNumber"
flaw_name BadEscape = codes "BadEscape"
flaw_name OpenText = codes "OpenText"
flaw_name Unexpected = codes "Unexpected"
flaw_name TooDeep = codes "TooDeep"
flaw_name NoName = codes "NoName"
flaw_name Twice = codes "Twice"
flaw_name Arity = codes "Arity"
flaw_name NoField = codes "NoField"
flaw_name NoReturn = codes "NoReturn"
flaw_name TooMany = codes "TooMany"
flaw_name Mismatch = codes "Mismatch"
flaw_name OuterRead = codes "OuterRead"
flaw_name OuterWrite = codes "OuterWrite"
flaw_name ReturnInRegion = codes "ReturnInRegion"
flaw_name CaptureTwice = codes "CaptureTwice"

abbrev pub lexical : LexFault → ProgramFault
lexical (lexer.BadChar at) = At BadChar at
lexical (lexer.BadNumber at) = At BadNumber at
lexical (lexer.BadEscape at) = At BadEscape at
lexical (lexer.OpenText at) = At OpenText at
lexical lexer.NoMemory = NoMemory

abbrev pub of_parser : ParseFault → ProgramFault
of_parser (parser.Unexpected at wanted) = At Unexpected at
of_parser (parser.TooDeep at) = At TooDeep at
of_parser parser.NoMemory = NoMemory

abbrev pub of_types : TypeFault → ProgramFault
of_types (types.NoName at) = At NoName at
of_types (types.Twice at) = At Twice at
of_types (types.Arity at) = At Arity at
of_types (types.NoField at) = At NoField at
of_types (types.NoReturn at) = At NoReturn at
of_types (types.TooMany at) = At TooMany at
of_types (types.Mismatch at want got) = At Mismatch at
of_types types.NoMemory = NoMemory

abbrev pub of_regions : RegionFault → ProgramFault
of_regions (regions.OuterRead at) = At OuterRead at
of_regions (regions.OuterWrite at) = At OuterWrite at
of_regions (regions.ReturnInRegion at) = At ReturnInRegion at
of_regions (regions.CaptureTwice at) = At CaptureTwice at
of_regions regions.NoMemory = NoMemory

-- a break of the type rules
abbrev pub mistyped : Break → ProgramFault
mistyped (no_name at) = At NoName at
mistyped (twice at) = At Twice at
mistyped (arity at) = At Arity at
mistyped (no_field at) = At NoField at
mistyped (no_return at) = At NoReturn at
mistyped (too_many at) = At TooMany at
mistyped (mismatch at want got) = At Mismatch at

-- a break of the region rules
abbrev pub illegal : region.Break → ProgramFault
illegal (region.outer_read at) = At OuterRead at
illegal (region.outer_write at) = At OuterWrite at
illegal (region.return_in_region at) = At ReturnInRegion at
illegal (region.capture_twice at) = At CaptureTwice at
