-- The code of a program, and why bytes give no code, or no world to start from.
use Rattle.std.specs.Prelude.{◌≡◌, ℕ, Result, Ok, Err}
use Rattle.flow_labels.specs.TwoLists.{Text}
use Rattle.lam_syntax.specs.Tree.{ProgramTree}
use Rattle.lam_front.specs.declared.fault.ProgramFault.{ProgramFault}
use Rattle.lam_front.specs.declared.fault.ProgramFault.TheVariants as front
use Rattle.lam_front.specs.Programs.{IsFine, IsBroken}
use Rattle.lam_bytecode.specs.Codes.{CodeTree}
use Rattle.barrier_compiler.specs.Compiled.{IsCompiledTo}
use Rattle.barrier_compiler.specs.declared.generation.CompileFault.{CompileFault}
use Rattle.barrier_compiler.specs.declared.generation.CompileFault.TheVariants as compiler
use Rattle.thinned_code.specs.Thinned.{thinned}
use Rattle.world_doc_terms.specs.Breaks.{break_seen}
use Rattle.world_doc_terms.specs.Start.{start_of}
use Rattle.world_doc_stores.specs.declared.fault.WorldFault.{WorldFault}
use Rattle.world_doc_stores.specs.declared.fault.WorldFault.TheVariants as reader
use Rattle.run_inputs.specs.declared.fault.InputFault.{InputFault}
use Rattle.run_inputs.specs.declared.fault.InputFault.TheVariants.{NotUtf8, Flawed, CodeTooLong, World, NoMemory}

-- the bytes spell a program that keeps the type rules and the region rules, and this is what it is compiled to: its
-- code, or the number of its first unit that is too long
pub record IsCompiled (bytes : Text) (made : Result CodeTree ℕ) : Type 0 where
  pub program : ProgramTree
  pub fine : IsFine bytes program
  pub makes : IsCompiledTo program made

-- the code that is run of the program that the bytes spell: what it is compiled to, without its redundant barriers
pub record IsRunCode (bytes : Text) (code : CodeTree) : Type 0 where
  pub whole : CodeTree
  pub makes : IsCompiled bytes (Ok whole)
  pub thin : code ≡ thinned whole

-- ---- refusals; want of memory says nothing of the bytes

-- the bytes of a program are refused for their first fault, or for the program's first unit that is too long
abbrev pub NoCode : Text → InputFault → Type 0
NoCode bytes NotUtf8 = IsBroken bytes front.NotUtf8
NoCode bytes (Flawed flaw at) = IsBroken bytes (front.At flaw at)
NoCode bytes (CodeTooLong unit) = IsCompiled bytes (Err unit)
NoCode bytes (World breach) = ⊥
NoCode bytes NoMemory = Unit {0}

-- the document with these bytes is refused for its first break
abbrev pub NoStart : CodeTree → Text → InputFault → Type 0
NoStart code bytes NotUtf8 = ⊥
NoStart code bytes (Flawed flaw at) = ⊥
NoStart code bytes (CodeTooLong unit) = ⊥
NoStart code bytes (World breach) = start_of bytes code ≡ Err (break_seen breach)
NoStart code bytes NoMemory = Unit {0}

-- a program is read first, and then a document
abbrev pub NoRun : Text → Text → InputFault → Type 0
NoRun program document NotUtf8 = NoCode program NotUtf8
NoRun program document (Flawed flaw at) = NoCode program (Flawed flaw at)
NoRun program document (CodeTooLong unit) = NoCode program (CodeTooLong unit)
NoRun program document (World breach) = (code : CodeTree) × IsRunCode program code × NoStart code document (World breach)
NoRun program document NoMemory = Unit {0}

-- ---- the faults of the parts that read

abbrev pub fault_of_program : ProgramFault → InputFault
fault_of_program front.NotUtf8 = NotUtf8
fault_of_program (front.At flaw at) = Flawed flaw at
fault_of_program front.NoMemory = NoMemory

abbrev pub fault_of_code : CompileFault → InputFault
fault_of_code (compiler.CodeTooLong unit) = CodeTooLong unit
fault_of_code compiler.NoMemory = NoMemory

abbrev pub fault_of_world : WorldFault → InputFault
fault_of_world (reader.Broken breach) = World breach
fault_of_world reader.NoMemory = NoMemory
