-- How threads before and after an answer are stored, for what holds them.
use Rattle.std.specs.Prelude.{refl}
use Rattle.std.specs.Coded.{Coded, code_by, coded×}
use Rattle.thread_steps.specs.Threads.{Thread}
use Rattle.thread_core_state.specs.Coding.{coded_thread}
use Rattle.thread_core_answers.specs.Preparing.{Ready}

abbrev pub coded_ready : Coded Ready
coded_ready = code_by (Thread × Thread) (coded× coded_thread coded_thread) (λ r. (r.before, r.after)) (λ p. record { before = p.0; after = p.1 }) (λ _. refl)
