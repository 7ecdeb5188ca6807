-- What is seen of pipes' own map.
use Rattle.std.specs.Prelude.{List}
use Rattle.lam_value.specs.declared.names.Name.{Name}
use Rattle.lam_value.specs.Names.{name_cmp}
use Rattle.lam_value.specs.Homes.{Counts}
use Rattle.lam_value.specs.Maps.{seen_at}
use Rattle.labelled_pipes.specs.declared.message.Message.{Message}
use Rattle.labelled_pipes.specs.Queues.{Queues}

abbrev pub queues_of : List (Name × List Message) → Counts → Queues
queues_of es counts = record {
  waiting = seen_at name_cmp (λ (line : List Message). line) es;
  counts = counts;
}
