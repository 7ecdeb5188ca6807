-- What may be answered, as code has it.
use Rattle.std.specs.Prelude.{List, [], ◌∷◌}
use Rattle.lam_asks.specs.declared.fault.Fault.{Fault}
use Rattle.lam_asks.specs.declared.fault.Fault.TheVariants as fault
use Rattle.lam_asks.specs.Suits as plain
use Rattle.source_walk_state.specs.Meaning.{sort_seen}
use Rattle.source_walk_parts.specs.declared.answers.Given.{Given}
use Rattle.source_walk_parts.specs.declared.answers.Given.TheVariants as given
use Rattle.source_walk_parts.specs.declared.answers.Failing.{Failing}
use Rattle.source_walk_parts.specs.declared.answers.Failing.TheVariants as failing
use Rattle.source_walk_parts.specs.declared.answers.Want.{Want}

abbrev pub given_seen : Given → plain.Given
given_seen given.Done = plain.is_done
given_seen given.Entered = plain.is_entered
given_seen (given.Value s) = plain.is_value (sort_seen s)

abbrev pub faults_in : Failing → List Fault
faults_in failing.Never = []
faults_in failing.Full = fault.HomeFull ∷ []
faults_in failing.Deep = fault.Deep ∷ []
faults_in failing.Entry = fault.BadName ∷ fault.Exists ∷ fault.DirFull ∷ fault.HomeFull ∷ []
faults_in failing.Missing = fault.NoEntry ∷ []
faults_in failing.Child = fault.Child ∷ []

abbrev pub want_seen : Want → plain.Want
want_seen w = record { gives = given_seen w.gives; refusable = w.refusable; faults = faults_in w.failing }
