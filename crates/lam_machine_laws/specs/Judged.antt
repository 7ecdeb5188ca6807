-- The other columns of an ask's row, and that it is served by its row.
use Rattle.std.specs.Prelude.{◌≡◌, Option, None, Some}
use Rattle.flow_labels.specs.declared.Denied.{Denied}
use Rattle.flow_labels.specs.Failing.{first_failing}
use Rattle.lam_machine_effects.specs.Answer.TheVariants.{Refused, Failed}
use Rattle.lam_machine_effects.specs.Ask.{Ask}
use Rattle.lam_machine_effects.specs.Fault.{Fault}
use Rattle.lam_machine_effects.specs.Serves.{Served, answers}
use Rattle.lam_machine_effects.specs.Serving.{row, served_by}
use Rattle.lam_machine_effects.specs.Threads.{Context}
use Rattle.lam_machine_effects.specs.Worlds.{World}
use Rattle.lam_machine_laws.specs.Tests.{tests_of}

-- its fault, where no test of it fails
abbrev pub fault_by : World → Context → Ask → Option Fault
fault_by w c a = (row w c a).fault

-- what is done where there is neither
abbrev pub deed_by : World → Context → Ask → Served
deed_by w c a = (row w c a).done

-- first the tests, then the fault, and where there is neither, what is done
abbrev pub IsJudged : Option Denied → Option Fault → Served → Served → Type 0
IsJudged (Some x) f done d = d ≡ answers (Refused x)
IsJudged None (Some f) done d = d ≡ answers (Failed f)
IsJudged None None done d = d ≡ done

abbrev pub AsksAreJudged : Type 0
AsksAreJudged = (w : World) (c : Context) (a : Ask) → IsJudged (first_failing (tests_of w c a)) (fault_by w c a) (deed_by w c a) (served_by w c a)
