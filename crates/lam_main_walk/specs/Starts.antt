-- That the threads of a start stand at entries of their source, as a walk over it requires.
use Rattle.std.specs.Prelude.{◌≡◌, Ok}
use Rattle.lam_resolve_tree.specs.Tree.{ResolvedTree}
use Rattle.lam_bytecode.specs.Codes.{CodeTree}
use Rattle.lam_machine_terms.specs.Worlds.{World}
use Rattle.world_doc_terms.specs.Start.{start_of}
use Rattle.source_walk_terms.specs.Walks.{ThreadsAtEntries}
use Rattle.lam_main_words.specs.Words.{Text}
use Rattle.lam_main_replay.specs.Reading.{IsRunCode}
use Rattle.lam_main_replay.specs.Walks.{IsSource}

-- This is the code that is run of the program that the bytes spell, and that is the program with its names resolved. Then
-- each thread of the world that a document gives for the code stands at an entry of the program.
abbrev pub StartsStandAtEntries : Type 0
StartsStandAtEntries =
    (bytes : Text) (code : CodeTree) (r : ResolvedTree) → IsRunCode bytes code → IsSource bytes r → (text : Text) (start : World) → start_of text code ≡ Ok start → ThreadsAtEntries r code start
