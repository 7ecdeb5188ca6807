-- What pipes are seen as, and what their calls make of them.
use Rattle.std.specs.Prelude.{◌≡◌, ℕ, IsTrue, List, [], Option, Some, None, unwrap_or, refl}
use Rattle.std.specs.Coded.{Coded, code_by, coded×, coded_list}
use Rattle.std.specs.FinMap as map
use Rattle.std.specs.FinMap.{FinMap, get, insert}
use Rattle.lam_value.specs.Label.{Label}
use Rattle.lam_value.specs.Flow.{flows}
use Rattle.lam_value.specs.declared.names.Name.{Name}
use Rattle.lam_value.specs.Names.{name_cmp, coded_name}
use Rattle.lam_value.specs.Homes.{Home, Counts, coded_counts, name_of, count_in, counted as counted_more, AreCounted, AreWithin}
use Rattle.labelled_pipes.specs.declared.message.Message.{Message}
use Rattle.labelled_pipes.specs.declared.message.MessageKind.{MessageKind}
use Rattle.labelled_pipes.specs.contracts.message.Message as message
use Rattle.labelled_pipes.specs.Messages.{joined, rest_of}

-- The messages that wait in each pipe, the front first, and how many pipes each home has made. A pipe lives where
-- it has a line, empty or not.
pub record Queues : Type 0 where
  pub waiting : FinMap name_cmp (List Message)
  pub counts : Counts

abbrev pub coded_queues : Coded Queues
coded_queues =
    code_by (FinMap name_cmp (List Message) × Counts) (coded× (map.code coded_name (coded_list message.the_row.coded)) coded_counts)
    (λ q. (q.waiting, q.counts)) (λ p. record { waiting = p.0; counts = p.1 }) (λ _. refl)

abbrev pub no_pipes : Queues
no_pipes = record { waiting = map.empty; counts = map.empty }

-- what waits in a pipe, nothing where it does not live
abbrev pub waiting_at : Queues → Name → List Message
waiting_at q p = unwrap_or (get q.waiting p) []

-- a change of the line of a pipe, where it lives
abbrev pub changed_at : Option (List Message) → Queues → Name → (List Message → List Message) → Queues
changed_at None q p f = q
changed_at (Some line) q p f = record q { waiting = insert q.waiting p (f line) }

-- a message joins the end of one pipe, if there is room; all else stays
abbrev pub with_sent : Queues → Name → Message → Queues
with_sent q p m = changed_at (get q.waiting p) q p (joined m)

-- the front of one pipe is gone, if it is of a kind; all else stays
abbrev pub with_received : Queues → Name → MessageKind → Queues
with_received q p kind = changed_at (get q.waiting p) q p (rest_of kind)

-- one more pipe of a home, at its next number, in which nothing waits; all else stays
abbrev pub with_pipe : Queues → Home → Queues
with_pipe q home = record {
  waiting = insert q.waiting (name_of home (count_in q.counts home)) [];
  counts = counted_more q.counts home;
}

-- ---- what holds of all pipes

-- the number of each pipe is below its home's counter, so that the name of a home's next pipe does not live
abbrev pub IsWellCounted : Queues → Type 0
IsWellCounted q = AreCounted q.waiting q.counts

-- a home makes at most this many pipes
abbrev pub most_pipes : ℕ
most_pipes = 4096

-- no home has made more pipes than a home may make
abbrev pub IsWithinLimit : Queues → Type 0
IsWithinLimit q = AreWithin most_pipes q.counts

pub record IsSound (q : Queues) : Type 0 where
  pub counted : IsWellCounted q
  pub within : IsWithinLimit q

-- ---- what is equal in two where an observer sees

-- the messages of each pipe whose label flows to the observer's
abbrev pub AreSeenAlike : Label → Queues → Queues → Type 0
AreSeenAlike o q r = (n : Name) → IsTrue (flows n.own o) → get q.waiting n ≡ get r.waiting n
