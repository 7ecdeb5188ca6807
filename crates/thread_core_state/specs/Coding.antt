-- How the parts of threads are stored, for what holds them.
use Rattle.std.specs.Prelude.{◌≡◌, ℕ, List, Option, Some, None, refl}
use Rattle.std.specs.Coded.{Coded, code_by, coded×, coded_ℕ, coded_list, coded_option}
use Rattle.thread_steps.specs.Tags.{Tags, coded_tags}
use Rattle.thread_steps.specs.Label.{Label}
use Rattle.thread_steps.specs.Caps.{Caps}
use Rattle.thread_steps.specs.Name.{Name}
use Rattle.thread_steps.specs.Value.{Value}
use Rattle.thread_steps.specs.ValueContracts as value
use Rattle.thread_steps.specs.NameParts.{coded_label, coded_parts}
use Rattle.thread_steps.specs.Fault.{Fault}
use Rattle.thread_steps.specs.FaultContracts as fault
use Rattle.thread_steps.specs.Outcome.{Outcome}
use Rattle.thread_steps.specs.OutcomeContracts as outcome
use Rattle.thread_steps.specs.Threads.{Frame, Inside, Phase, Bottom, Body, Catch, Context, Thread}

abbrev pub coded_values : Coded (List Value)
coded_values = coded_list value.the_row.coded

abbrev pub coded_frame : Coded Frame
coded_frame =
    code_by (ℕ × (ℕ × (List Value × List Value))) (coded× coded_ℕ (coded× coded_ℕ (coded× coded_values coded_values)))
    (λ f. (f.unit, (f.at, (f.locals, f.stack)))) (λ p. record { unit = p.0; at = p.1.0; locals = p.1.1.0; stack = p.1.1.1 }) (λ _. refl)

-- a phase is stored as the place of its catch block, where it has one
abbrev pub phase_parts : Phase → Option (Option ℕ)
phase_parts Bottom = None
phase_parts (Body at) = Some (Some at)
phase_parts Catch = Some None

abbrev pub phase_from : Option (Option ℕ) → Phase
phase_from None = Bottom
phase_from (Some None) = Catch
phase_from (Some (Some at)) = Body at

abbrev pub phase_back : (p : Phase) → phase_from (phase_parts p) ≡ p
phase_back Bottom = refl
phase_back (Body at) = refl
phase_back Catch = refl

abbrev pub coded_phase : Coded Phase
coded_phase = code_by (Option (Option ℕ)) (coded_option (coded_option coded_ℕ)) phase_parts phase_from phase_back

abbrev pub coded_caps : Coded Caps
coded_caps = code_by (Tags × Tags) (coded× coded_tags coded_tags) (λ c. (c.plus, c.minus)) (λ p. record { plus = p.0; minus = p.1 }) (λ _. refl)

abbrev pub coded_inside : Coded Inside
coded_inside =
    code_by (Frame × (List Frame × Option Fault)) (coded× coded_frame (coded× (coded_list coded_frame) (coded_option fault.the_row.coded)))
    (λ i. (i.frame, (i.callers, i.fault))) (λ p. record { frame = p.0; callers = p.1.0; fault = p.1.1 }) (λ _. refl)

abbrev pub coded_context : Coded Context
coded_context =
    code_by (Label × (Caps × (ℕ × (Phase × (List Name × Inside)))))
    (coded× coded_label (coded× coded_caps (coded× coded_ℕ (coded× coded_phase (coded× (coded_list coded_parts) coded_inside)))))
    (λ c. (c.label, (c.caps, (c.depth, (c.phase, (c.held, c.inside))))))
    (λ p. record { label = p.0; caps = p.1.0; depth = p.1.1.0; phase = p.1.1.1.0; held = p.1.1.1.1.0; inside = p.1.1.1.1.1 }) (λ _. refl)

abbrev pub coded_thread : Coded Thread
coded_thread =
    code_by (List Context × Option Outcome) (coded× (coded_list coded_context) (coded_option outcome.the_row.coded))
    (λ t. (t.contexts, t.result)) (λ p. record { contexts = p.0; result = p.1 }) (λ _. refl)
