use Rattle.std.proofs.Common.{ap, map, string_bytes}
use Rattle.flow_labels.proofs.NameLemmas.{kept_none}
use Rattle.flow_labels.proofs.names.TagNames.new.Goals as goal

pub invariant_of-result : goal.invariant_of-result
invariant_of-result c = kept_none c.new-2.result _ c.new-2.ensures.empty (ap (map string_bytes) c.new.ensures.items)
