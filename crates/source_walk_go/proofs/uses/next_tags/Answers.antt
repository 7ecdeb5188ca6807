use Rattle.source_walk_go.proofs.Calls.{secrets_go}
use Rattle.source_walk_go.proofs.uses.next_tags.Goals as goal

pub returns : goal.returns
returns c = λ r s. rw c.new-done.ensures (secrets_go r s c.args.depth c.args.secrets c.args.rest)
