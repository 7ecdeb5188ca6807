-- What a shared run is opened from.
use Rattle.std.specs.Prelude.{◌≡◌, Ok}
use Rattle.flow_labels.specs.TwoLists.{Text}
use Rattle.lam_bytecode.specs.Codes.{CodeTree}
use Rattle.lam_machine_terms.specs.Worlds.{World}
use Rattle.world_doc_terms.specs.Start.{start_of}
use Rattle.run_inputs.specs.Inputs.{IsRunCode}
use Rattle.seat_host.specs.Seats.{new_seat}
use Rattle.seat_opening.specs.declared.Opened.{Opened}

-- a run of this code from this world, with a seat that has seen nothing and the names of the world's tags
pub record Shares (code : CodeTree) (start : World) (o : Opened) : Type 0 where
  pub runs : o.run.code ≡ code
  pub starts : o.run.start ≡ start
  pub seated : o.seat ≡ new_seat o.run
  pub named : o.names ≡ start.names

-- the world is the one of the document with these bytes
abbrev pub RunsFrom : CodeTree → Text → Opened → Type 0
RunsFrom code document o = (start : World) × (start_of document code ≡ Ok start) × Shares code start o

-- and the code is the one that is run of the program that these bytes spell
abbrev pub IsOpened : Text → Text → Opened → Type 0
IsOpened program document o = (code : CodeTree) × IsRunCode program code × RunsFrom code document o
